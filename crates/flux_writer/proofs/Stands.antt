-- The blocks of a written stream may stand where they stand.
use Rattle.std.proofs.Common.{◌≡◌, ◌≤◌, ◌<◌, ◌+◌, ◌-◌, ◌/◌, ◌%◌, ◌++◌, ℕ, zero, suc, false, List, [], ◌∷◌, All, length, map, replicate, refl, ap, sym, ◌∙◌, subst, arith, append_assoc, length-append}
use Rattle.std.specs.List.Sorted.{IsNonDecreasing}
use Rattle.std.proofs.lemmas.List.{length-replicate}
use Rattle.std.proofs.lemmas.List.Elements.{All-head, All-tail}
use Rattle.kryo_stream.specs.declared.block.Block.{Block}
use Rattle.kryo_stream.specs.declared.block.Block.TheVariants.{Flux, Overflow}
use Rattle.kryo_stream.specs.Spelling.{flux_spelling}
use Rattle.kryo_stream.specs.lemmas.Standing.{Stand, is_empty}
use Rattle.kryo_stream.specs.Sequence.{spellings}
use Rattle.flux_writer.specs.Written.{index_block, interval_blocks}
use Rattle.flux_writer.specs.Trailing.{trailing_block}
use Rattle.flux_writer.specs.inside.Writing.{indexes_before, indexes_from, last_blocks, many_blocks, next_position, position_after}
use Rattle.flux_writer.proofs.Steps.{spellings-interval}
use Rattle.flux_writer.proofs.Rising.{front_is_early}

pub interval_takes : (ticks : ℕ) → length (spellings (interval_blocks ticks)) ≡ ticks / 65536 + length (flux_spelling (ticks % 65536))
interval_takes ticks =
    ap length (spellings-interval ticks)
    ∙ omega (
      arith,
      length-append (replicate (ticks / 65536) 11) (flux_spelling (ticks % 65536)),
      length-replicate {A = ℕ} (ticks / 65536) 11,
    )

position_after-le : (position begin : ℕ) (times : List ℕ) → position ≤ position_after position begin times
position_after-le position begin [] = omega arith
position_after-le position begin (t ∷ ts) = omega (arith, position_after-le (next_position position begin t) t ts)

-- the times do not fall
abbrev pub InOrder : ℕ → List ℕ → Type 0
InOrder begin [] = Unit {0}
InOrder begin (time ∷ times) = (begin ≤ time) × InOrder time times

pub InOrder-from_sorted : (begin : ℕ) (times : List ℕ) → IsNonDecreasing (begin ∷ times) → InOrder begin times
InOrder-from_sorted begin [] order = tt
InOrder-from_sorted begin (t ∷ ts) order =
    (order 0 1 0 (omega arith) (omega arith), InOrder-from_sorted t ts (λ i j d before inside. order (suc i) (suc j) d (omega arith) (omega arith)))

not_empty : (bs cs : List Block) → is_empty cs ≡ false → is_empty (bs ++ cs) ≡ false
not_empty [] cs more = more
not_empty (b ∷ bs) cs more = refl

stand_indexes : (position begin : ℕ) (xs : List ℕ) (cs : List Block) → All (λ x. position + (x - begin) / 65536 < 4294967296) xs
    → is_empty cs ≡ false → Stand position false cs → Stand position false (map (index_block position begin) xs ++ cs)
stand_indexes position begin [] cs fits more stand = stand
stand_indexes position begin (x ∷ xs) cs fits more stand =
    let rest = map (index_block position begin) xs ++ cs in
    let same : position ≡ position + 0 = omega arith in (
      (All-head (λ y. position + (y - begin) / 65536 < 4294967296) x xs fits, omega arith, omega arith),
      tt,
      sym (not_empty (map (index_block position begin) xs) cs more),
      subst (λ n. Stand n false rest) same
          (stand_indexes position begin xs cs (All-tail (λ y. position + (y - begin) / 65536 < 4294967296) x xs fits) more stand),
    )

stand_overflows : (n position : ℕ) (cs : List Block) → is_empty cs ≡ false → Stand (position + n) false cs
    → Stand position false (replicate n Overflow ++ cs)
stand_overflows zero position cs more stand = subst (λ m. Stand m false cs) (omega arith) stand
stand_overflows (suc n) position cs more stand =
    let next : position + suc n ≡ (position + 1) + n = omega arith in
    (tt, refl, sym (not_empty (replicate n Overflow) cs more), stand_overflows n (position + 1) cs more (subst (λ m. Stand m false cs) next stand))

stand_interval : (ticks position : ℕ) (cs : List Block) → is_empty cs ≡ false
    → Stand (position + length (spellings (interval_blocks ticks))) false cs → Stand position false (interval_blocks ticks ++ cs)
stand_interval ticks position cs more stand =
    let n = ticks / 65536 in
    let r = ticks % 65536 in
    let at : position + length (spellings (interval_blocks ticks)) ≡ (position + n) + length (flux_spelling r) = omega (arith, interval_takes ticks) in
    subst (Stand position false) (sym (append_assoc (replicate n Overflow) (Flux r ∷ []) cs))
    (stand_overflows n position (Flux r ∷ cs) refl (omega arith, refl, sym more, subst (λ m. Stand m false cs) at stand))

-- the blocks of several transitions may stand before what may stand after them
pub stand_before : (position begin : ℕ) (times indexes : List ℕ) (cs : List Block) → position_after position begin times < 4294967296
    → is_empty cs ≡ false → Stand (position_after position begin times) false cs
    → Stand position false (many_blocks position begin times indexes ++ cs)
stand_before position begin [] indexes cs fits more stand = stand
stand_before position begin (t ∷ ts) indexes cs fits more stand =
    let front = map (index_block position begin) (indexes_before t indexes) in
    let interval = interval_blocks (t - begin) in
    let rest = many_blocks (next_position position begin t) t ts (indexes_from t indexes) in
    let bound = position_after-le (next_position position begin t) t ts in
    let some : is_empty (rest ++ cs) ≡ false = not_empty rest cs more in
    subst (Stand position false) (sym (append_assoc (front ++ interval) rest cs))
    (subst (Stand position false) (sym (append_assoc front interval (rest ++ cs)))
    (stand_indexes position begin (indexes_before t indexes) (interval ++ (rest ++ cs))
    (λ k d below. let early = front_is_early t indexes k d below in omega (arith, early, bound, fits, interval_takes (t - begin)))
    (not_empty interval (rest ++ cs) some)
    (stand_interval (t - begin) position (rest ++ cs) some
    (stand_before (next_position position begin t) t ts (indexes_from t indexes) cs fits more stand))))

stand_last : (position : ℕ) → position < 4294967296 → Stand position false (last_blocks position)
stand_last position fits = ((fits, omega arith), (refl, refl), refl, (tt, tt, refl, tt))

-- the Index blocks of the index times that are left, and the end
pub stand_ending : (position last : ℕ) (left : List ℕ) → position < 4294967296 → All (λ x. x - last < 4294967296) left
    → Stand position false (map (trailing_block position last) left ++ last_blocks position)
stand_ending position last [] fits near = stand_last position fits
stand_ending position last (x ∷ xs) fits near =
    let rest = map (trailing_block position last) xs ++ last_blocks position in
    let same : position ≡ position + 0 = omega arith in (
      (fits, All-head (λ y. y - last < 4294967296) x xs near, omega arith),
      tt,
      sym (not_empty (map (trailing_block position last) xs) (last_blocks position) refl),
      subst (λ n. Stand n false rest) same (stand_ending position last xs fits (All-tail (λ y. y - last < 4294967296) x xs near)),
    )

pub ending_some : (position last : ℕ) (left : List ℕ) → is_empty (map (trailing_block position last) left ++ last_blocks position) ≡ false
ending_some position last left = not_empty (map (trailing_block position last) left) (last_blocks position) refl

pub stand_many : (position begin : ℕ) (times indexes : List ℕ) → position_after position begin times < 4294967296
    → Stand position false (many_blocks position begin times indexes ++ last_blocks (position_after position begin times))
stand_many position begin times indexes fits =
    let end = position_after position begin times in
    stand_before position begin times indexes (last_blocks end) fits refl (stand_last end fits)
