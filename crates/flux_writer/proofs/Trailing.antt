-- The Index blocks behind the last interval, and the whole stream of a capture.
use Rattle.std.proofs.Common.{◌≡◌, ◌<◌, ◌++◌, ℕ, List, [], ◌∷◌, All, map, Option, refl, ap, sym, ◌∙◌, subst, append_assoc, append-nil}
use Rattle.std.specs.Io.KnownBytes.{Appends}
use Rattle.std.specs.List.Sorted.{IsStrictlyIncreasing}
use Rattle.std.proofs.lemmas.List.{map-append}
use Rattle.std.proofs.lemmas.List.Elements.{All-drop}
use Rattle.flux_base.specs.Outside.{AppendsPart}
use Rattle.kryo_stream.specs.Sequence.{spellings}
use Rattle.kryo_stream.specs.Spelling.{spelling}
use Rattle.track_rings.specs.Rings.{last_in}
use Rattle.flux_writer.specs.Trailing.{stream_of_capture, trailing_block}
use Rattle.flux_writer.specs.inside.Gathering.{Gathers}
use Rattle.flux_writer.specs.inside.Writing.{IsWritten, count_before, indexes_after, indexes_from, last_blocks, many_blocks, position_after, time_after}
use Rattle.flux_writer.proofs.Capturing.{capture_blocks-is}
use Rattle.flux_writer.proofs.Gathered.{AppendsPart-longer, Gathers-all, Gathers-more, Gathers-part}
use Rattle.flux_writer.proofs.ReadsBack.{last-is}
use Rattle.flux_writer.proofs.Rising.{Climbs-from_increasing}
use Rattle.flux_writer.proofs.Steps.{spellings-append, spellings-snoc}

-- they are written one by one: those so far, and those that are left
pub record TrailingWritten (old new : Option (List ℕ)) (held held' : List ℕ) (position last : ℕ) (indexes left : List ℕ) : Type 0 where
  pub done : List ℕ
  pub bytes : Gathers old new held held' (spellings (map (trailing_block position last) done))
  pub all : done ++ left ≡ indexes

module _ (old mid new : Option (List ℕ)) (held held' : List ℕ) (position last : ℕ) (indexes lefts : List ℕ) (index : ℕ) (left bytes : List ℕ)
    (w : TrailingWritten old mid held held' position last indexes lefts) (is : lefts ≡ index ∷ left)
    (spelled : bytes ≡ spelling (trailing_block position last index)) where
  all_with : (w.done ++ index ∷ []) ++ left ≡ indexes
  all_with = append_assoc w.done (index ∷ []) left ∙ ap (λ xs. w.done ++ xs) (sym is) ∙ w.all

  pub TrailingWritten-more : (held'' : List ℕ) → Gathers mid new held' held'' bytes → TrailingWritten old new held held'' position last indexes left
  TrailingWritten-more held'' g = record {
    done = w.done ++ index ∷ [];
    bytes = subst (Gathers old new held held'') (spellings-snoc (trailing_block position last) w.done index)
        (Gathers-more old mid new held held' (spellings (map (trailing_block position last) w.done))
        (spelling (trailing_block position last index)) w.bytes held'' (subst (Gathers mid new held' held'') spelled g));
    all = all_with;
  }

  pub TrailingWritten-part : AppendsPart mid new (held' ++ bytes)
      → AppendsPart old new (held ++ spellings (map (trailing_block position last) indexes))
  TrailingWritten-part part =
      let block = trailing_block position last in
      let whole : spellings (map block w.done) ++ (spelling (block index) ++ spellings (map block left)) ≡ spellings (map block indexes) =
      sym (append_assoc (spellings (map block w.done)) (spelling (block index)) (spellings (map block left)))
      ∙ ap (λ front. front ++ spellings (map block left)) (spellings-snoc block w.done index)
      ∙ sym (spellings-append (map block (w.done ++ index ∷ [])) (map block left))
      ∙ ap spellings (sym (map-append block (w.done ++ index ∷ []) left))
      ∙ ap (λ xs. spellings (map block xs)) all_with in
      subst (λ bs. AppendsPart old new (held ++ bs)) whole
      (Gathers-part old mid new held held' (spellings (map block w.done)) _ w.bytes
      (AppendsPart-longer mid new held' (spelling (block index)) (spellings (map block left))
      (subst (λ bs. AppendsPart mid new (held' ++ bs)) spelled part)))

pub TrailingWritten-all : (old new : Option (List ℕ)) (held held' : List ℕ) (position last : ℕ) (indexes left : List ℕ)
    → TrailingWritten old new held held' position last indexes left → left ≡ []
    → Gathers old new held held' (spellings (map (trailing_block position last) indexes))
TrailingWritten-all old new held held' position last indexes left w none =
    subst (λ xs. Gathers old new held held' (spellings (map (trailing_block position last) xs)))
    (sym (append-nil w.done) ∙ ap (λ xs. w.done ++ xs) (sym none) ∙ w.all) w.bytes

-- the blocks of the transitions, the index times behind them, and the end
pub capture-is : (times indexes : List ℕ) → IsStrictlyIncreasing indexes
    → (spellings (many_blocks 0 0 times indexes)
    ++ spellings (map (trailing_block (position_after 0 0 times) (time_after 0 times)) (indexes_after times indexes)))
    ++ spellings (last_blocks (position_after 0 0 times)) ≡ stream_of_capture times indexes
capture-is times indexes rising =
    let many = many_blocks 0 0 times indexes in
    let trailing = map (trailing_block (position_after 0 0 times) (time_after 0 times)) (indexes_after times indexes) in
    let last = last_blocks (position_after 0 0 times) in
    append_assoc (spellings many) (spellings trailing) (spellings last)
    ∙ ap (λ bytes. spellings many ++ bytes) (sym (spellings-append trailing last)) ∙ sym (spellings-append many (trailing ++ last))
    ∙ ap spellings (sym (capture_blocks-is times indexes (Climbs-from_increasing indexes rising)))

-- a part of the transitions is a part of the stream
pub part_of_capture : (old new : Option (List ℕ)) (times indexes : List ℕ) → IsStrictlyIncreasing indexes
    → AppendsPart old new (spellings (many_blocks 0 0 times indexes)) → AppendsPart old new (stream_of_capture times indexes)
part_of_capture old new times indexes rising part =
    let many = spellings (many_blocks 0 0 times indexes) in
    let trailing = spellings (map (trailing_block (position_after 0 0 times) (time_after 0 times)) (indexes_after times indexes)) in
    subst (AppendsPart old new) (capture-is times indexes rising)
    (AppendsPart-longer old new [] (many ++ trailing) (spellings (last_blocks (position_after 0 0 times)))
    (AppendsPart-longer old new [] many trailing part))

-- all transitions are written, and these index times are left
module _ (old mid new : Option (List ℕ)) (indexes held : List ℕ) (position time : ℕ) (left times : List ℕ)
    (w : IsWritten old mid [] 0 0 indexes held position time left times) (rising : IsStrictlyIncreasing indexes) where
  abbrev many : List ℕ
  many = spellings (many_blocks 0 0 times indexes)

  abbrev trailing : List ℕ
  trailing = spellings (map (trailing_block position time) left)

  abbrev end : List ℕ
  end = spellings (last_blocks position)

  whole : (many ++ trailing) ++ end ≡ stream_of_capture times indexes
  whole = ap (λ p. (many ++ spellings (map (trailing_block p time) left)) ++ spellings (last_blocks p)) w.position_is
      ∙ ap (λ t. (many ++ spellings (map (trailing_block (position_after 0 0 times) t) left)) ++ spellings (last_blocks (position_after 0 0 times))) w.time_is
      ∙ ap (λ l. (many ++ spellings (map (trailing_block (position_after 0 0 times) (time_after 0 times)) l)) ++ spellings (last_blocks (position_after 0 0 times)))
      w.indexes_are
      ∙ capture-is times indexes rising

  pub trailing-fails : AppendsPart mid new (held ++ spellings (map (trailing_block position time) left))
      → AppendsPart old new (stream_of_capture times indexes)
  trailing-fails part = subst (AppendsPart old new) whole
      (AppendsPart-longer old new [] (many ++ trailing) end (Gathers-part old mid new [] held many trailing w.bytes part))

  -- these are written too, and the end
  module _ (last : Option (List ℕ)) (held' : List ℕ)
      (g : Gathers mid new held held' (spellings (map (trailing_block position time) left))) where
    both : Gathers old new [] held' (many ++ trailing)
    both = Gathers-more old mid new [] held many trailing w.bytes held' g

    pub end-all : (position' : ℕ) → position' ≡ position → Appends new last (held' ++ spellings (last_blocks position'))
        → Appends old last (stream_of_capture times indexes)
    end-all position' same all = subst (Appends old last) whole
        (Gathers-all old new last [] held' (many ++ trailing) end both
        (subst (λ p. Appends new last (held' ++ spellings (last_blocks p))) same all))

    pub end-part : (position' : ℕ) → position' ≡ position → AppendsPart new last (held' ++ spellings (last_blocks position'))
        → AppendsPart old last (stream_of_capture times indexes)
    end-part position' same part = subst (AppendsPart old last) whole
        (Gathers-part old new last [] held' (many ++ trailing) end both
        (subst (λ p. AppendsPart new last (held' ++ spellings (last_blocks p))) same part))

-- the last transition is at the time up to which all are written
pub end-time : (times : List ℕ) → last_in times ≡ time_after 0 times
end-time [] = refl
end-time (t ∷ ts) = last-is t ts

-- what holds of all index times holds of those that are left
pub left-all : (bound : ℕ) (times indexes : List ℕ) → All (λ index. index < bound) indexes
    → All (λ index. index < bound) (indexes_after times indexes)
left-all bound [] indexes all = all
left-all bound (t ∷ ts) indexes all =
    left-all bound ts (indexes_from t indexes) (All-drop (λ index. index < bound) (count_before t indexes) indexes all)
