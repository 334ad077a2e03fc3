-- The streams of cells and of rings are read back.
use Rattle.std.proofs.Common.{◌≡◌, ◌≤◌, ◌<◌, ◌+◌, ◌-◌, ◌*◌, ℕ, zero, suc, Bool, true, false, List, [], ◌∷◌, All, length, map, take, get_or, ap, sym, ◌∙◌, refl, subst, arith}
use Rattle.std.specs.List.Sorted.{IsNonDecreasing, IsStrictlyIncreasing}
use Rattle.std.proofs.lemmas.List.{length-map, get_or-take, get_or-append_right}
use Rattle.std.proofs.lemmas.List.Elements.{All-nil, All-cons, All-head}
use Rattle.std.proofs.Math.Nat.{mul-le-mul}
use Rattle.track_rings.specs.Rings.{last_in}
use Rattle.flux_writer.specs.Written.{cell_time, ones_of, stream_of_times, stream_of_turns, stream_of, track_cells, track_turns, quarter}
use Rattle.flux_writer.specs.Reading.{MOST_RING_CELLS, EndsWithTransition, HasOneAfter, HasEarlyOne, IsStreamOf}
use Rattle.flux_writer.proofs.CellTimes.{cell_time-le, cell_time-lt}
use Rattle.flux_writer.proofs.Sizes.{stream_takes_close}
use Rattle.flux_writer.proofs.Rings.{rising_times, turns_rise}
use Rattle.flux_writer.specs.lemmas.FoundOnes.{ones_from, ones_of-is, ones_within, ones_rise, one_among, ones_few, Rises}
use Rattle.flux_writer.specs.lemmas.TrackParts.{cells_after, length-cells_after, length-track_cells, all_parts}

map-All : (f : ℕ → ℕ) (P Q : ℕ → Type 0) → ((x : ℕ) → P x → Q (f x)) → (xs : List ℕ) → All P xs → All Q (map f xs)
map-All f P Q step [] all = All-nil Q
map-All f P Q step (x ∷ xs) all = All-cons Q (f x) (map f xs) (step x (All-head P x xs all)) (map-All f P Q step xs (λ k d below. all (suc k) d (omega arith)))

-- times of cells do not fall
times_in_order : (nominal : ℕ) (xs : List ℕ) → Rises xs → IsNonDecreasing (map (cell_time nominal) xs)
times_in_order nominal [] rises i j d before inside = absurd (omega arith)
times_in_order nominal (x ∷ xs) rises zero zero d before inside = omega arith
times_in_order nominal (x ∷ xs) rises zero (suc j) d before inside =
    map-All (cell_time nominal) (λ y. x < y) (λ t. cell_time nominal x ≤ t) (λ y later. cell_time-le nominal x y (omega (arith, later))) xs rises.0 j d (omega arith)
times_in_order nominal (x ∷ xs) rises (suc i) zero d before inside = absurd (omega arith)
times_in_order nominal (x ∷ xs) rises (suc i) (suc j) d before inside = times_in_order nominal xs rises.1 i j d (omega arith) (omega arith)

pub transitions_in_order : (nominal : ℕ) (cells : List Bool) → IsNonDecreasing (map (cell_time nominal) (ones_of cells))
transitions_in_order nominal cells =
    subst (λ ones. IsNonDecreasing (map (cell_time nominal) ones)) (sym (ones_of-is cells)) (times_in_order nominal (ones_from 0 cells) (ones_rise 0 cells))

get_or-map-at : (f : ℕ → ℕ) (xs : List ℕ) (i : ℕ) → i < length xs → get_or (map f xs) i 0 ≡ f (get_or xs i 0)
get_or-map-at f [] i below = absurd (omega arith)
get_or-map-at f (x ∷ xs) zero below = refl
get_or-map-at f (x ∷ xs) (suc i) below = get_or-map-at f xs i (omega arith)

-- the last transition is that of the last one
one_is_early : (nominal : ℕ) (cells : List Bool) (p : ℕ) → get_or cells p false ≡ true
    → cell_time nominal p ≤ last_in (map (cell_time nominal) (ones_of cells))
one_is_early nominal cells p is =
    let ones = ones_from 0 cells in
    let ts = map (cell_time nominal) ones in
    let it = one_among 0 cells p is in
    let size : length ts ≡ length ones = length-map ones (cell_time nominal) in
    let this : get_or ts it.0 0 ≡ cell_time nominal p = get_or-map-at (cell_time nominal) ones it.0 it.1 ∙ ap (cell_time nominal) (it.2 ∙ omega arith) in
    let order = times_in_order nominal ones (ones_rise 0 cells) it.0 (length ts - 1) 0 (omega (arith, it.1, size)) (omega (arith, it.1, size)) in
    let last : last_in (map (cell_time nominal) (ones_of cells)) ≡ last_in ts = ap (λ o. last_in (map (cell_time nominal) o)) (ones_of-is cells) in
    omega (arith, this, order, last)

pub turns_end : (cells : List Bool) (turns : List ℕ) (nominal : ℕ) → 1024 ≤ nominal → All (HasOneAfter cells) turns
    → EndsWithTransition (map (cell_time nominal) (ones_of cells)) (map (cell_time nominal) turns)
turns_end cells turns nominal long behind some =
    let size : length (map (cell_time nominal) turns) ≡ length turns = length-map turns (cell_time nominal) in
    let k : ℕ = length turns - 1 in
    let inside : k < length turns = omega (arith, some, size) in
    let it = behind k 0 inside in
    let same : length (map (cell_time nominal) turns) - 1 ≡ k = omega (arith, size) in
    let last : last_in (map (cell_time nominal) turns) ≡ cell_time nominal (get_or turns k 0) =
    ap (λ i. get_or (map (cell_time nominal) turns) i 0) same ∙ get_or-map-at (cell_time nominal) turns k inside in
    omega (arith, last, cell_time-lt nominal (get_or turns k 0) it.0 long it.1, one_is_early nominal cells it.0 it.2)

-- what written_law says
abbrev pub ReadsLaw : Type 0
ReadsLaw = (transitions turns : List ℕ) → IsNonDecreasing transitions → IsStrictlyIncreasing turns → EndsWithTransition transitions turns
    → 2 ≤ length turns → length (stream_of_times transitions turns) ≤ 4194304 → IsStreamOf (stream_of_times transitions turns) transitions turns

pub turns_read : ReadsLaw → (cells : List Bool) (turns : List ℕ) (nominal : ℕ) → 1024 ≤ nominal → IsStrictlyIncreasing turns
    → All (HasOneAfter cells) turns → 2 ≤ length turns → length (stream_of_turns cells turns nominal) ≤ 4194304
    → IsStreamOf (stream_of_turns cells turns nominal) (map (cell_time nominal) (ones_of cells)) (map (cell_time nominal) turns)
turns_read law cells turns nominal long rising behind two short =
    law (map (cell_time nominal) (ones_of cells)) (map (cell_time nominal) turns) (transitions_in_order nominal cells)
    (rising_times nominal turns long rising) (turns_end cells turns nominal long behind) (omega (arith, two, length-map turns (cell_time nominal))) short

-- a ring's stream
last_within : (nominal : ℕ) (cells : List Bool) → last_in (map (cell_time nominal) (ones_of cells)) ≤ cell_time nominal (length cells)
last_within nominal cells =
    let ones = ones_from 0 cells in
    let ts = map (cell_time nominal) ones in
    let all : All (λ t. t ≤ cell_time nominal (length cells)) ts = map-All (cell_time nominal) (λ k. (0 ≤ k) × (k < 0 + length cells))
    (λ t. t ≤ cell_time nominal (length cells)) (λ k in_range. cell_time-le nominal k (length cells) (omega (arith, in_range.1))) ones (ones_within 0 cells) in
    let same : last_in (map (cell_time nominal) (ones_of cells)) ≡ last_in ts = ap (λ o. last_in (map (cell_time nominal) o)) (ones_of-is cells) in
    let last : last_in ts ≤ cell_time nominal (length cells) = last_in_all ts (cell_time nominal (length cells)) all in
    omega (arith, same, last)
  where
    last_in_all : (xs : List ℕ) (bound : ℕ) → All (λ x. x ≤ bound) xs → last_in xs ≤ bound
    last_in_all [] bound all = omega arith
    last_in_all (x ∷ xs) bound all = all (length (x ∷ xs) - 1) 0 (omega arith)

-- two bytes a cell, and one for each 2048 ticks: a cell has at most 128, so that the longest ring takes less than a stream may have
track_is_short : (ring : List Bool) (nominal : ℕ) → 1024 ≤ nominal → nominal ≤ 131072 → 0 < length ring → length ring ≤ MOST_RING_CELLS
    → length (stream_of ring nominal) ≤ 4194304
track_is_short ring nominal long short some few =
    let cells = track_cells ring in
    let ts = map (cell_time nominal) (ones_of cells) in
    let size = stream_takes_close ts (map (cell_time nominal) (track_turns ring)) (transitions_in_order nominal cells)
    (rising_times nominal (track_turns ring) long (turns_rise ring some)) in
    let ones : length ts ≤ length cells =
    omega (arith, length-map (ones_of cells) (cell_time nominal), ap length (ones_of-is cells), ones_few 0 cells) in
    let most : length cells + 1 ≤ 1835009 = omega (arith, few, length-track_cells ring) in
    let product : (length cells + 1) * nominal ≤ 1835009 * 131072 = mul-le-mul most short in
    omega (arith, size, ones, last_within nominal cells, product, most)

-- the early one of a ring stands after the last index cell
ones_after_turns : (ring : List Bool) → HasEarlyOne ring → All (HasOneAfter (track_cells ring)) (track_turns ring)
ones_after_turns ring early k d below =
    let place : ℕ = (quarter ring + 3 * length ring) + early.0 in
    let size : length (cells_after ring 3) ≡ quarter ring + 3 * length ring = length-cells_after ring 3 in
    let is : get_or (track_cells ring) place false ≡ true =
    ap (λ cells. get_or cells place false) (sym (all_parts ring))
    ∙ get_or-append_right (cells_after ring 3) (take (quarter ring) ring) (quarter ring + 3 * length ring) place false size (omega arith)
    ∙ ap (λ n. get_or (take (quarter ring) ring) n false) (omega arith)
    ∙ get_or-take (quarter ring) ring early.0 false early.2 ∙ early.3 in
    (place, in_turns k d below, is)
  where
    in_turns : (i e : ℕ) → i < length (track_turns ring) → get_or (track_turns ring) i e < (quarter ring + 3 * length ring) + early.0
    in_turns zero e inside = omega (arith, early.1)
    in_turns (suc zero) e inside = omega (arith, early.1)
    in_turns (suc (suc zero)) e inside = omega (arith, early.1)
    in_turns (suc (suc (suc zero))) e inside = omega (arith, early.1)
    in_turns (suc (suc (suc (suc i)))) e inside = absurd (omega arith)

-- what turns_law says
abbrev pub TurnsLaw : Type 0
TurnsLaw = (cells : List Bool) (turns : List ℕ) (nominal : ℕ) → 1024 ≤ nominal → IsStrictlyIncreasing turns
    → All (HasOneAfter cells) turns → 2 ≤ length turns → length (stream_of_turns cells turns nominal) ≤ 4194304
    → IsStreamOf (stream_of_turns cells turns nominal) (map (cell_time nominal) (ones_of cells)) (map (cell_time nominal) turns)

pub track_reads : TurnsLaw → (ring : List Bool) (nominal : ℕ) → 1024 ≤ nominal → nominal ≤ 131072 → length ring ≤ MOST_RING_CELLS
    → HasEarlyOne ring → IsStreamOf (stream_of ring nominal) (map (cell_time nominal) (ones_of (track_cells ring)))
    (map (cell_time nominal) (track_turns ring))
track_reads law ring nominal long short few early =
    let some : 0 < length ring = omega (arith, early.1, early.2) in
    law (track_cells ring) (track_turns ring) nominal long (turns_rise ring some) (ones_after_turns ring early) (omega arith)
    (track_is_short ring nominal long short some few)
