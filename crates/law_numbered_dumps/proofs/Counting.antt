-- How many tracks of a disk are whole, and on how many of its sets a number stands.
use Rattle.std.proofs.Common.{◌≡◌, ◌<◌, ◌≤◌, ◌+◌, ◌*◌, ◌/◌, ◌%◌, ◌∙◌, ℕ, zero, suc, Bool, true, false, List, [], ◌∷◌, length, map, refl, ap, arith, length-append}
use Rattle.std.specs.Prelude.{cond, count_by, flat_map}
use Rattle.std.specs.List.{range_with_len}
use Rattle.std.proofs.lemmas.Bool.{false_from_ne_true}
use Rattle.std.proofs.lemmas.List.FromFn.{length-map-range_with_len}
use Rattle.std.proofs.lemmas.List.Sums.{sum_by-append, sum_by-cons}
use Rattle.flux_base.specs.declared.track.TrackId.{TrackId}
use Rattle.ibm_disks.specs.declared.sector_size.SectorSize.{SectorSize}
use Rattle.told_disks.specs.Names.{count_of, has, set_at}

abbrev one : Bool → ℕ
one b = cond {A = ℕ} b 1 0

one_less : (a b : Bool) → (a ≡ true → b ≡ true) → one a ≤ one b
one_less true b there = let e : one b ≡ 1 = ap one (there refl) in omega (arith, e)
one_less false b there = omega arith

one_few : (b : Bool) → one b ≤ 1
one_few true = omega arith
one_few false = omega arith

more : (size : SectorSize) (set : List Bool) (sets : List (List Bool)) (number : ℕ) → count_of (set ∷ sets) size number ≡ one (has set size number) + count_of sets size number
more size set sets number = sum_by-cons (λ (s : List Bool). cond {A = ℕ} (has s size number) 1 0) set sets

-- a number that stands nowhere
pub count_none : (size : SectorSize) (sets : List (List Bool)) (number : ℕ) → ((track : ℕ) → track < length sets → has (set_at sets track) size number ≡ false)
    → count_of sets size number ≡ 0
count_none size [] number each = refl
count_none size (set ∷ sets) number each =
    let here = more size set sets number ∙ ap (λ (h : Bool). one h + count_of sets size number) (each 0 (omega arith)) in
    let rest = count_none size sets number (λ track low. each (suc track) (omega (arith, low))) in
    omega (arith, here, rest)

abbrev side : ℕ → ℕ → TrackId
side cylinder head = record { cylinder = cylinder; head = head }

abbrev row : ℕ → ℕ → List TrackId
row heads cylinder = map (side cylinder) (range_with_len 0 heads)

-- the tracks of so many cylinders and heads
abbrev pub tracks_in : (cylinders heads : ℕ) → List TrackId
tracks_in cylinders heads = flat_map (row heads) (range_with_len 0 cylinders)

-- the tracks of a cylinder that are whole
module _ (whole : TrackId → Bool) where
  row_less : (heads cylinder : ℕ) (a b : Bool) → heads ≤ 2 → (0 < heads → whole (side cylinder 0) ≡ true → a ≡ true) → (1 < heads → whole (side cylinder 1) ≡ true → b ≡ true)
      → count_by whole (row heads cylinder) ≤ one a + one b
  row_less zero cylinder a b few first second = omega arith
  row_less (suc zero) cylinder a b few first second =
      let all = sum_by-cons (λ (t : TrackId). cond {A = ℕ} (whole t) 1 0) (side cylinder 0) [] in
      let less = one_less (whole (side cylinder 0)) a (first (omega arith)) in
      omega (arith, all, less)
  row_less (suc (suc zero)) cylinder a b few first second =
      let all = sum_by-cons (λ (t : TrackId). cond {A = ℕ} (whole t) 1 0) (side cylinder 0) (side cylinder 1 ∷ []) in
      let rest = sum_by-cons (λ (t : TrackId). cond {A = ℕ} (whole t) 1 0) (side cylinder 1) [] in
      let less = one_less (whole (side cylinder 0)) a (first (omega arith)) in
      let less' = one_less (whole (side cylinder 1)) b (second (omega arith)) in
      omega (arith, all, rest, less, less')
  row_less (suc (suc (suc heads))) cylinder a b few first second = absurd (omega (arith, few))

  module _ (size : SectorSize) (number heads : ℕ) (some : 1 ≤ heads) (few : heads ≤ 2) where
    -- Where a number stands on each whole track, and on the disk's tracks alone, it stands on as many as are whole at least, and
    -- on as many as there are at most.
    pub pairs : (rows first : ℕ) (sets : List (List Bool)) → 2 * rows ≤ length sets
        → ((k : ℕ) → k < length sets → has (set_at sets k) size number ≡ true → (k / 2 < rows) × (k % 2 < heads))
        → ((k : ℕ) → k / 2 < rows → k % 2 < heads → whole (side (first + k / 2) (k % 2)) ≡ true → has (set_at sets k) size number ≡ true)
        → (count_by whole (flat_map (row heads) (range_with_len first rows)) ≤ count_of sets size number)
        × (count_of sets size number ≤ length (flat_map (row heads) (range_with_len first rows)))
    pairs zero first sets long only each =
        let none = count_none size sets number (λ k low. false_from_ne_true (has (set_at sets k) size number) (λ is. let row = (only k low is).0 in omega (arith, row))) in
        (omega arith, omega (arith, none))
    pairs (suc rows) first [] long only each = absurd (omega (arith, long))
    pairs (suc rows) first (a ∷ []) long only each = absurd (omega (arith, long))
    pairs (suc rows) first (a ∷ b ∷ sets) long only each =
        let rest =
        pairs rows (first + 1) sets (omega (arith, long))
        (λ k low is. let at = only (suc (suc k)) (omega (arith, low)) is in let row = at.0 in let side_at = at.1 in (omega (arith, row), omega (arith, side_at)))
        (λ k low side_low is.
        let at : first + suc (suc k) / 2 ≡ first + 1 + k / 2 = omega arith in
        let head : suc (suc k) % 2 ≡ k % 2 = omega arith in
        each (suc (suc k)) (omega (arith, low)) (omega (arith, head, side_low))
        (ap (λ (c : ℕ). whole (side c (suc (suc k) % 2))) at ∙ ap (λ (h : ℕ). whole (side (first + 1 + k / 2) h)) head ∙ is)) in
        let all = sum_by-append (λ (t : TrackId). cond {A = ℕ} (whole t) 1 0) (row heads first) (flat_map (row heads) (range_with_len (first + 1) rows)) in
        let zero_at : first + 0 / 2 ≡ first = omega arith in
        let one_at : first + 1 / 2 ≡ first = omega arith in
        let here =
        row_less heads first (has a size number) (has b size number) few
        (λ side_low is. each 0 (omega arith) (omega (arith, side_low)) (ap (λ (c : ℕ). whole (side c 0)) zero_at ∙ is))
        (λ side_low is. each 1 (omega arith) (omega (arith, side_low)) (ap (λ (c : ℕ). whole (side c 1)) one_at ∙ is)) in
        let sets_first = more size a (b ∷ sets) number in
        let sets_next = more size b sets number in
        let less = rest.0 in
        let most = rest.1 in
        let long_row = length-map-range_with_len (side first) 0 heads in
        let longer = length-append (row heads first) (flat_map (row heads) (range_with_len (first + 1) rows)) in
        let a_few = one_few (has a size number) in
        let b_few : one (has b size number) + 1 ≤ heads = second (has b size number) (λ is. (only 1 (omega arith) is).1) in
        (omega (arith, all, here, sets_first, sets_next, less), omega (arith, sets_first, sets_next, most, long_row, longer, a_few, b_few))
      where
        second : (h : Bool) → (h ≡ true → 1 % 2 < heads) → one h + 1 ≤ heads
        second true low = let side_low = low refl in omega (arith, side_low)
        second false low = omega (arith, some)
