-- The blocks of one transition and of several.
use Rattle.std.proofs.Common.{◌≡◌, ◌≤◌, ◌<◌, ◌+◌, ◌/◌, ◌%◌, ◌++◌, ◌&&◌, ℕ, zero, suc, Bool, true, false, cond, List, [], ◌∷◌, length, map, take, drop, replicate, nat_lt, nat_le, refl, ap, sym, ◌∙◌, subst, arith, append_assoc, append-nil, length-append, slice_get, Option, Some, if◌then◌else◌}
use Rattle.std.proofs.lemmas.Bool.Decides.{nat_tests}
use Rattle.std.proofs.lemmas.List.{length-replicate, map-append}
use Rattle.std.proofs.lemmas.List.Concat.{flat_map-append}
use Rattle.kryo_stream.specs.declared.block.Block.{Block}
use Rattle.kryo_stream.specs.declared.block.Block.TheVariants.{Flux, Overflow}
use Rattle.kryo_stream.specs.Spelling.{spelling, flux_spelling}
use Rattle.flux_writer.specs.inside.Gathering.{Gathers}
use Rattle.kryo_stream.specs.Sequence.{spellings}
use Rattle.flux_writer.specs.Written.{interval_blocks, index_block}
use Rattle.flux_writer.specs.inside.Writing.{next_position, first_or_never, count_before, indexes_before, indexes_from, next_blocks, many_blocks, position_after, time_after, indexes_after}
use Rattle.flux_base.specs.Outside.{AppendsPart}
use Rattle.flux_writer.proofs.Gathered.{Gathers-more, Gathers-part, AppendsPart-longer}

pub spellings-append : (bs cs : List Block) → spellings (bs ++ cs) ≡ spellings bs ++ spellings cs
spellings-append bs cs = flat_map-append spelling bs cs

-- an overflow is one byte 0B
pub spellings-overflows : (n : ℕ) → spellings (replicate n Overflow) ≡ replicate n 11
spellings-overflows zero = refl
spellings-overflows (suc n) = ap (λ bytes. 11 ∷ bytes) (spellings-overflows n)

-- the bytes of an interval
pub spellings-interval : (ticks : ℕ) → spellings (interval_blocks ticks) ≡ replicate (ticks / 65536) 11 ++ flux_spelling (ticks % 65536)
spellings-interval ticks =
    spellings-append (replicate (ticks / 65536) Overflow) (Flux (ticks % 65536) ∷ [])
    ∙ ap (λ bytes. bytes ++ spellings (Flux (ticks % 65536) ∷ [])) (spellings-overflows (ticks / 65536))
    ∙ ap (λ bytes. replicate (ticks / 65536) 11 ++ bytes) (append-nil (flux_spelling (ticks % 65536)))

-- a flux value takes one byte at least and three at most
abbrev flux_bytes : ℕ → Bool → Bool → List ℕ
flux_bytes ticks one two =
    if one then ticks ∷ [] else (if two then (ticks / 256) ∷ (ticks % 256) ∷ [] else 12 ∷ (ticks / 256) ∷ (ticks % 256) ∷ [])

length-flux : (ticks : ℕ) (one two : Bool) → (1 ≤ length (flux_bytes ticks one two)) × (length (flux_bytes ticks one two) ≤ 3)
length-flux ticks true two = (omega arith, omega arith)
length-flux ticks false true = (omega arith, omega arith)
length-flux ticks false false = (omega arith, omega arith)

pub length-flux_spelling : (ticks : ℕ) → (1 ≤ length (flux_spelling ticks)) × (length (flux_spelling ticks) ≤ 3)
length-flux_spelling ticks = length-flux ticks (nat_le 14 ticks && nat_lt ticks 256) (nat_lt ticks 2048)

pub length-interval : (ticks : ℕ) → length (spellings (interval_blocks ticks)) ≤ ticks / 65536 + 3
length-interval ticks =
    omega (
      arith,
      ap length (spellings-interval ticks),
      length-append (replicate (ticks / 65536) 11) (flux_spelling (ticks % 65536)),
      length-replicate {A = ℕ} (ticks / 65536) 11,
      (length-flux_spelling (ticks % 65536)).1,
    )

-- no more than two where it is below 2048
length-flux_close : (ticks : ℕ) (one two : Bool) → (two ≡ false → 2048 ≤ ticks) → length (flux_bytes ticks one two) ≤ ticks / 2048 + 2
length-flux_close ticks true two far = omega arith
length-flux_close ticks false true far = omega arith
length-flux_close ticks false false far = omega (arith, far refl)

pub length-interval_close : (ticks : ℕ) → length (spellings (interval_blocks ticks)) ≤ (ticks / 65536 + ticks / 2048) + 2
length-interval_close ticks =
    let rest : ℕ = ticks % 65536 in
    let far : nat_lt rest 2048 ≡ false → 2048 ≤ rest = λ not_below. grind (arith, nat_tests) in
    omega (
      arith,
      ap length (spellings-interval ticks),
      length-append (replicate (ticks / 65536) 11) (flux_spelling rest),
      length-replicate {A = ℕ} (ticks / 65536) 11,
      length-flux_close rest (nat_le 14 rest && nat_lt rest 256) (nat_lt rest 2048) far,
    )

-- several transitions, and then more
pub many_blocks-append : (position begin : ℕ) (xs ys indexes : List ℕ)
    → many_blocks position begin (xs ++ ys) indexes ≡ many_blocks position begin xs indexes
    ++ many_blocks (position_after position begin xs) (time_after begin xs) ys (indexes_after xs indexes)
many_blocks-append position begin [] ys indexes = refl
many_blocks-append position begin (x ∷ xs) ys indexes =
    ap (λ bs. next_blocks position begin x indexes ++ bs)
    (many_blocks-append (next_position position begin x) x xs ys (indexes_from x indexes))
    ∙ sym (append_assoc (next_blocks position begin x indexes)
    (many_blocks (next_position position begin x) x xs (indexes_from x indexes))
    (many_blocks (position_after (next_position position begin x) x xs) (time_after x xs) ys
    (indexes_after xs (indexes_from x indexes))))

pub position_after-append : (position begin : ℕ) (xs ys : List ℕ)
    → position_after position begin (xs ++ ys) ≡ position_after (position_after position begin xs) (time_after begin xs) ys
position_after-append position begin [] ys = refl
position_after-append position begin (x ∷ xs) ys = position_after-append (next_position position begin x) x xs ys

pub time_after-append : (begin : ℕ) (xs ys : List ℕ) → time_after begin (xs ++ ys) ≡ time_after (time_after begin xs) ys
time_after-append begin [] ys = refl
time_after-append begin (x ∷ xs) ys = time_after-append x xs ys

pub indexes_after-append : (xs ys indexes : List ℕ) → indexes_after (xs ++ ys) indexes ≡ indexes_after ys (indexes_after xs indexes)
indexes_after-append [] ys indexes = refl
indexes_after-append (x ∷ xs) ys indexes = indexes_after-append xs ys (indexes_from x indexes)

-- an index time that comes first and lies before the time, or does not
module _ (time index : ℕ) (indexes : List ℕ) where
  count_before-test : (b : Bool) → nat_lt index time ≡ b → count_before time (index ∷ indexes) ≡ cond b (1 + count_before time indexes) 0
  count_before-test b is = ap (λ c. cond c (1 + count_before time indexes) 0) is

  count_before-yes : index < time → count_before time (index ∷ indexes) ≡ suc (count_before time indexes)
  count_before-yes before =
      let test : nat_lt index time ≡ true = grind (arith, nat_tests, before) in
      count_before-test true test ∙ omega arith

  pub count_before-no : time ≤ index → count_before time (index ∷ indexes) ≡ 0
  count_before-no behind =
      let test : nat_lt index time ≡ false = grind (arith, nat_tests, behind) in
      count_before-test false test

  pub indexes_before-yes : index < time → indexes_before time (index ∷ indexes) ≡ index ∷ indexes_before time indexes
  indexes_before-yes before = ap (λ n. take n (index ∷ indexes)) (count_before-yes before)

  pub indexes_from-yes : index < time → indexes_from time (index ∷ indexes) ≡ indexes_from time indexes
  indexes_from-yes before = ap (λ n. drop n (index ∷ indexes)) (count_before-yes before)

  pub indexes_before-no : time ≤ index → indexes_before time (index ∷ indexes) ≡ []
  indexes_before-no behind = ap (λ n. take n (index ∷ indexes)) (count_before-no behind)

  pub indexes_from-no : time ≤ index → indexes_from time (index ∷ indexes) ≡ index ∷ indexes
  indexes_from-no behind = ap (λ n. drop n (index ∷ indexes)) (count_before-no behind)

-- by the first index time, or the greatest number of 64 bits, is told whether one lies before a time
pub first-before : (time : ℕ) (indexes : List ℕ) → time ≤ 18446744073709551615 → first_or_never indexes < time
    → slice_get indexes 0 ≡ Some (first_or_never indexes)
first-before time [] fits before = absurd (omega (arith, fits, before))
first-before time (x ∷ indexes) fits before = refl

pub count_before-none : (time : ℕ) (indexes : List ℕ) → time ≤ first_or_never indexes → count_before time indexes ≡ 0
count_before-none time [] behind = refl
count_before-none time (x ∷ indexes) behind = count_before-no time x indexes behind

-- the Index blocks of an interval are written one by one: those so far, and those that are left before its end
pub record IndexesWritten (old new : Option (List ℕ)) (held held' : List ℕ) (position begin end : ℕ) (indexes left : List ℕ) : Type 0 where
  pub done : List ℕ
  pub bytes : Gathers old new held held' (spellings (map (index_block position begin) done))
  pub before : done ++ indexes_before end left ≡ indexes_before end indexes
  pub behind : indexes_from end left ≡ indexes_from end indexes

pub spellings-snoc : (block : ℕ → Block) (done : List ℕ) (index : ℕ)
    → spellings (map block done) ++ spelling (block index) ≡ spellings (map block (done ++ index ∷ []))
spellings-snoc block done index = sym
    (ap spellings (map-append block done (index ∷ [])) ∙ spellings-append (map block done) (block index ∷ [])
    ∙ ap (λ bytes. spellings (map block done) ++ bytes) (append-nil (spelling (block index))))

module _ (old mid new : Option (List ℕ)) (held held' : List ℕ) (position begin end : ℕ) (indexes lefts : List ℕ) (index : ℕ) (left bytes : List ℕ)
    (w : IndexesWritten old mid held held' position begin end indexes lefts) (is : lefts ≡ index ∷ left) (before : index < end)
    (spelled : bytes ≡ spelling (index_block position begin index)) where
  -- the index times before the end are those done, this one, and those left
  all_before : (w.done ++ index ∷ []) ++ indexes_before end left ≡ indexes_before end indexes
  all_before = append_assoc w.done (index ∷ []) (indexes_before end left)
      ∙ ap (λ xs. w.done ++ xs) (sym (indexes_before-yes end index left before) ∙ ap (indexes_before end) (sym is)) ∙ w.before

  pub IndexesWritten-more : (held'' : List ℕ) → Gathers mid new held' held'' bytes
      → IndexesWritten old new held held'' position begin end indexes left
  IndexesWritten-more held'' g = record {
    done = w.done ++ index ∷ [];
    bytes = subst (Gathers old new held held'') (spellings-snoc (index_block position begin) w.done index)
        (Gathers-more old mid new held held' (spellings (map (index_block position begin) w.done))
        (spelling (index_block position begin index)) w.bytes held'' (subst (Gathers mid new held' held'') spelled g));
    before = all_before;
    behind = sym (indexes_from-yes end index left before) ∙ ap (indexes_from end) (sym is) ∙ w.behind;
  }

  pub IndexesWritten-part : AppendsPart mid new (held' ++ bytes)
      → AppendsPart old new (held ++ spellings (map (index_block position begin) (indexes_before end indexes)))
  IndexesWritten-part part =
      let whole : spellings (map (index_block position begin) w.done) ++ (spelling (index_block position begin index)
      ++ spellings (map (index_block position begin) (indexes_before end left)))
      ≡ spellings (map (index_block position begin) (indexes_before end indexes)) =
      sym (append_assoc (spellings (map (index_block position begin) w.done)) (spelling (index_block position begin index))
      (spellings (map (index_block position begin) (indexes_before end left))))
      ∙ ap (λ front. front ++ spellings (map (index_block position begin) (indexes_before end left))) (spellings-snoc (index_block position begin) w.done index)
      ∙ sym (spellings-append (map (index_block position begin) (w.done ++ index ∷ [])) (map (index_block position begin) (indexes_before end left)))
      ∙ ap spellings (sym (map-append (index_block position begin) (w.done ++ index ∷ []) (indexes_before end left)))
      ∙ ap (λ xs. spellings (map (index_block position begin) xs)) all_before in
      subst (λ bs. AppendsPart old new (held ++ bs)) whole
      (Gathers-part old mid new held held' (spellings (map (index_block position begin) w.done)) _ w.bytes
      (AppendsPart-longer mid new held' (spelling (index_block position begin index)) (spellings (map (index_block position begin) (indexes_before end left)))
      (subst (λ bs. AppendsPart mid new (held' ++ bs)) spelled part)))

-- a list with a first element
pub first_of : (xs : List ℕ) (x : ℕ) → slice_get xs 0 ≡ Some x → xs ≡ x ∷ drop 1 xs
first_of [] x is = cc
first_of (y ∷ xs) x is = ap (λ z. z ∷ xs) (some_same is)
  where
    some_same : {a b : ℕ} → Some a ≡ Some b → a ≡ b
    some_same e = cc
