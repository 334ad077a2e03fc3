-- How far a writer has come.
use Rattle.std.proofs.Common.{◌≡◌, ◌≤◌, ◌<◌, ◌+◌, ◌-◌, ◌/◌, ◌++◌, ℕ, zero, suc, List, [], ◌∷◌, length, map, take, drop, get_or, Option, refl, ap, sym, ◌∙◌, subst, arith, append-nil}
use Rattle.std.specs.Io.KnownBytes.{Appends}
use Rattle.std.proofs.lemmas.List.{take_more, take-append-drop}
use Rattle.std.specs.List.Sorted.{IsStrictlyIncreasing, IsNonDecreasing}
use Rattle.flux_base.specs.Outside.{AppendsPart}
use Rattle.flux_writer.specs.inside.Gathering.{Gathers}
use Rattle.kryo_stream.specs.Sequence.{spellings}
use Rattle.flux_writer.specs.Written.{stream_of_times}
use Rattle.flux_writer.specs.inside.Writing.{count_before, indexes_from, next_blocks, last_blocks, many_blocks, next_position, position_after, time_after, indexes_after, IsReady, IsWritten, ticks_of}
use Rattle.flux_writer.specs.declared.indexes.IndexUnit.TheVariants.{Ticks}
use Rattle.flux_writer.proofs.Gathered.{Gathers-nothing, Gathers-more, Gathers-all, Gathers-part, AppendsPart-longer}
use Rattle.flux_writer.proofs.Steps.{spellings-append, length-interval, many_blocks-append, position_after-append, time_after-append, indexes_after-append}
use Rattle.flux_writer.proofs.Rising.{Climbs-from_increasing, from_is_late, IsStrictlyIncreasing-drop}
use Rattle.flux_writer.proofs.Equal.{stream_blocks-is}

pub IsReady-next : (position begin count time : ℕ) (indexes : List ℕ) → IsReady position begin count indexes → begin ≤ time
    → IsReady (next_position position begin time) time (count + 1) (indexes_from time indexes)
IsReady-next position begin count time indexes ready order = record {
  room = omega (arith, ready.room, order, length-interval (time - begin));
  begun = from_is_late time indexes (Climbs-from_increasing indexes ready.rising);
  rising = IsStrictlyIncreasing-drop (count_before time indexes) indexes ready.rising;
}

-- the stream position of the next transition fits its field
pub IsReady-fits : (position begin count time : ℕ) (indexes : List ℕ) → IsReady position begin count indexes → begin ≤ time
    → time ≤ 549755813888 → count ≤ 16777216 → position + (time - begin) / 65536 + 3 < 4294967296
IsReady-fits position begin count time indexes ready order early few = omega (arith, ready.room, order, early, few)

-- some transitions, and then more
module _ (old mid new : Option (List ℕ)) (held : List ℕ) (position time : ℕ) (indexes held' : List ℕ) (position' time' : ℕ)
    (indexes' times : List ℕ) (w : IsWritten old mid held position time indexes held' position' time' indexes' times) (more : List ℕ) where
  whole : spellings (many_blocks position time times indexes) ++ spellings (many_blocks position' time' more indexes')
      ≡ spellings (many_blocks position time (times ++ more) indexes)
  whole = ap (λ p. spellings (many_blocks position time times indexes) ++ spellings (many_blocks p time' more indexes')) w.position_is
      ∙ ap (λ t. spellings (many_blocks position time times indexes)
      ++ spellings (many_blocks (position_after position time times) t more indexes')) w.time_is
      ∙ ap (λ l. spellings (many_blocks position time times indexes)
      ++ spellings (many_blocks (position_after position time times) (time_after time times) more l)) w.indexes_are
      ∙ sym (ap spellings (many_blocks-append position time times more indexes)
      ∙ spellings-append (many_blocks position time times indexes)
      (many_blocks (position_after position time times) (time_after time times) more (indexes_after times indexes)))

  pub IsWritten-more : (held'' : List ℕ) (position'' time'' : ℕ) (indexes'' : List ℕ)
      → IsWritten mid new held' position' time' indexes' held'' position'' time'' indexes'' more
      → IsWritten old new held position time indexes held'' position'' time'' indexes'' (times ++ more)
  IsWritten-more held'' position'' time'' indexes'' m = record {
    bytes = subst (Gathers old new held held'') whole
        (Gathers-more old mid new held held' (spellings (many_blocks position time times indexes))
        (spellings (many_blocks position' time' more indexes')) w.bytes held'' m.bytes);
    position_is = m.position_is ∙ ap (λ p. position_after p time' more) w.position_is
        ∙ ap (λ t. position_after (position_after position time times) t more) w.time_is ∙ sym (position_after-append position time times more);
    time_is = m.time_is ∙ ap (λ t. time_after t more) w.time_is ∙ sym (time_after-append time times more);
    indexes_are = m.indexes_are ∙ ap (indexes_after more) w.indexes_are ∙ sym (indexes_after-append times more indexes);
  }

  pub IsWritten-part : AppendsPart mid new (held' ++ spellings (many_blocks position' time' more indexes'))
      → AppendsPart old new (held ++ spellings (many_blocks position time (times ++ more) indexes))
  IsWritten-part part = subst (λ bytes. AppendsPart old new (held ++ bytes)) whole
      (Gathers-part old mid new held held' (spellings (many_blocks position time times indexes))
      (spellings (many_blocks position' time' more indexes')) w.bytes part)

-- one transition
module _ (old new : Option (List ℕ)) (held : List ℕ) (position begin time : ℕ) (indexes : List ℕ) where
  one_more : next_blocks position begin time indexes ≡ many_blocks position begin (time ∷ []) indexes
  one_more = sym (append-nil (next_blocks position begin time indexes))

  pub IsWritten-one : (held' : List ℕ) (position' begin' : ℕ) (indexes' : List ℕ)
      → Gathers old new held held' (spellings (next_blocks position begin time indexes))
      → position' ≡ next_position position begin time → begin' ≡ time → indexes' ≡ indexes_from time indexes
      → IsWritten old new held position begin indexes held' position' begin' indexes' (time ∷ [])
  IsWritten-one held' position' begin' indexes' g position_is time_is indexes_are = record {
    bytes = subst (λ bs. Gathers old new held held' (spellings bs)) one_more g;
    position_is = position_is;
    time_is = time_is;
    indexes_are = indexes_are;
  }

  pub part_of_one : AppendsPart old new (held ++ spellings (next_blocks position begin time indexes))
      → AppendsPart old new (held ++ spellings (many_blocks position begin (time ∷ []) indexes))
  part_of_one part = subst (λ bs. AppendsPart old new (held ++ spellings bs)) one_more part

-- a part of the blocks of some transitions is a part of those of more
pub part_of_more : (old new : Option (List ℕ)) (held : List ℕ) (position time : ℕ) (times front rest indexes : List ℕ) → front ++ rest ≡ times
    → AppendsPart old new (held ++ spellings (many_blocks position time front indexes))
    → AppendsPart old new (held ++ spellings (many_blocks position time times indexes))
part_of_more old new held position time times front rest indexes is part =
    let back = many_blocks (position_after position time front) (time_after time front) rest (indexes_after front indexes) in
    let all : spellings (many_blocks position time front indexes) ++ spellings back ≡ spellings (many_blocks position time times indexes) =
    sym (spellings-append (many_blocks position time front indexes) back)
    ∙ ap spellings (sym (many_blocks-append position time front rest indexes))
    ∙ ap (λ ts. spellings (many_blocks position time ts indexes)) is in
    subst (λ bytes. AppendsPart old new (held ++ bytes)) all
    (AppendsPart-longer old new held (spellings (many_blocks position time front indexes)) (spellings back) part)

-- a part of the transitions is a part of the stream
pub part_of_stream : (old new : Option (List ℕ)) (times indexes : List ℕ) → IsStrictlyIncreasing indexes
    → AppendsPart old new (spellings (many_blocks 0 0 times indexes)) → AppendsPart old new (stream_of_times times indexes)
part_of_stream old new times indexes rising part =
    let all : spellings (many_blocks 0 0 times indexes) ++ spellings (last_blocks (position_after 0 0 times)) ≡ stream_of_times times indexes =
    sym (spellings-append (many_blocks 0 0 times indexes) (last_blocks (position_after 0 0 times)))
    ∙ ap spellings (sym (stream_blocks-is times indexes rising)) in
    subst (AppendsPart old new) all
    (AppendsPart-longer old new [] (spellings (many_blocks 0 0 times indexes)) (spellings (last_blocks (position_after 0 0 times))) part)

-- the end of the stream
module _ (old mid new : Option (List ℕ)) (indexes held : List ℕ) (position time : ℕ) (left times : List ℕ)
    (w : IsWritten old mid [] 0 0 indexes held position time left times) (rising : IsStrictlyIncreasing indexes) where
  ends : spellings (many_blocks 0 0 times indexes) ++ spellings (last_blocks position) ≡ stream_of_times times indexes
  ends = ap (λ p. spellings (many_blocks 0 0 times indexes) ++ spellings (last_blocks p)) w.position_is
      ∙ sym (spellings-append (many_blocks 0 0 times indexes) (last_blocks (position_after 0 0 times)))
      ∙ ap spellings (sym (stream_blocks-is times indexes rising))

  pub IsWritten-all : Appends mid new (held ++ spellings (last_blocks position)) → Appends old new (stream_of_times times indexes)
  IsWritten-all all = subst (Appends old new) ends
      (Gathers-all old mid new [] held (spellings (many_blocks 0 0 times indexes)) (spellings (last_blocks position)) w.bytes all)

  pub IsWritten-end : AppendsPart mid new (held ++ spellings (last_blocks position)) → AppendsPart old new (stream_of_times times indexes)
  IsWritten-end part = subst (AppendsPart old new) ends
      (Gathers-part old mid new [] held (spellings (many_blocks 0 0 times indexes)) (spellings (last_blocks position)) w.bytes part)

-- the time up to which the first transitions are written is at most that of the next
pub time_after-le : (times : List ℕ) (k d : ℕ) → IsNonDecreasing times → k < length times → time_after 0 (take k times) ≤ get_or times k d
time_after-le times zero d order inside = omega arith
time_after-le times (suc k) d order inside =
    let below : k < length times = omega arith in
    let next : k + 1 ≡ suc k = omega arith in
    let e : time_after 0 (take (suc k) times) ≡ get_or times k d =
    ap (λ n. time_after 0 (take n times)) (sym next) ∙ ap (time_after 0) (take_more times k d below)
    ∙ time_after-append 0 (take k times) (get_or times k d ∷ []) in
    omega (arith, e, order k (suc k) d (omega arith) inside)

-- the next of the times
module _ (times items : List ℕ) (k : ℕ) (same : items ≡ times) (inside : k < length items) where
  next_time : ℕ
  next_time = get_or items k 0

  below : k < length times
  below = omega (arith, inside, ap length same)

  next-is : take (k + 1) times ≡ take k times ++ get_or items k 0 ∷ []
  next-is = take_more times k 0 below ∙ ap (λ xs. take k times ++ get_or xs k 0 ∷ []) (sym same)

  pub next_in_order : (time : ℕ) → IsNonDecreasing times → time ≡ time_after 0 (take k times) → time ≤ get_or items k 0
  next_in_order time order is =
      omega (arith, is, time_after-le times k 0 order below, ap (λ xs. get_or xs k 0) same)

  module _ (old mid new : Option (List ℕ)) (indexes held : List ℕ) (position begin : ℕ) (left : List ℕ)
      (w : IsWritten old mid [] 0 0 indexes held position begin left (take k times)) where
    pub IsWritten-next : (held' : List ℕ) (position' time' : ℕ) (left' : List ℕ)
        → Gathers mid new held held' (spellings (next_blocks position begin (get_or items k 0) left))
        → position' ≡ next_position position begin (get_or items k 0) → time' ≡ get_or items k 0
        → left' ≡ indexes_from (get_or items k 0) left
        → IsWritten old new [] 0 0 indexes held' position' time' left' (take (k + 1) times)
    IsWritten-next held' position' time' left' g position_is time_is left_is =
        subst (IsWritten old new [] 0 0 indexes held' position' time' left') (sym next-is)
        (IsWritten-more old mid new [] 0 0 indexes held position begin left (take k times) w (get_or items k 0 ∷ []) held' position' time' left'
        (IsWritten-one mid new held position begin (get_or items k 0) left held' position' time' left' g position_is time_is left_is))

    pub IsWritten-fails : AppendsPart mid new (held ++ spellings (next_blocks position begin (get_or items k 0) left))
        → AppendsPart old new (spellings (many_blocks 0 0 times indexes))
    IsWritten-fails part =
        part_of_more old new [] 0 0 times (take k times ++ get_or items k 0 ∷ []) (drop (k + 1) times) indexes
        (ap (λ front. front ++ drop (k + 1) times) (sym next-is) ∙ take-append-drop (k + 1) times)
        (IsWritten-part old mid new [] 0 0 indexes held position begin left (take k times) w (get_or items k 0 ∷ [])
        (part_of_one mid new held position begin (get_or items k 0) left part))

-- index times in ticks are the times
pub ticks_are : (xs : List ℕ) → map (ticks_of Ticks) xs ≡ xs
ticks_are [] = refl
ticks_are (x ∷ xs) = ap (λ ys. x ∷ ys) (ticks_are xs)

pub IsReady-start : (position time : ℕ) (left indexes : List ℕ) → position ≡ 0 → time ≡ 0 → left ≡ indexes → IsStrictlyIncreasing indexes
    → IsReady position time 0 left
IsReady-start position time left indexes position_is time_is left_is rising = record {
  room = omega (arith, position_is);
  begun = λ k d below. omega (arith, time_is);
  rising = subst IsStrictlyIncreasing (sym left_is) rising;
}

pub IsWritten-start : (old : Option (List ℕ)) (held : List ℕ) (position time : ℕ) (left indexes : List ℕ) → held ≡ [] → position ≡ 0
    → time ≡ 0 → left ≡ indexes → IsWritten old old [] 0 0 indexes held position time left []
IsWritten-start old held position time left indexes held_is position_is time_is left_is = record {
  bytes = subst (λ h. Gathers old old [] h []) (sym held_is) (Gathers-nothing old []);
  position_is = position_is;
  time_is = time_is;
  indexes_are = left_is;
}
