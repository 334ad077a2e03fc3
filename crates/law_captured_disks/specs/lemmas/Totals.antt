-- The totals of a disk whose sectors are all good.
use Rattle.std.specs.Prelude.{◌≡◌, ◌≤◌, ◌<◌, ℕ, zero, suc, ◌+◌, Bool, true, cond, List, [], ◌∷◌}
use Rattle.std.specs.Prelude.{count_by, length, map, sum_by, refl}
use Rattle.std.specs.List.{range_with_len}
use Rattle.std.proofs.Common.{ap, arith}
use Rattle.std.proofs.lemmas.List.Sums.{sum_by-cons}
use Rattle.turn_merge.specs.declared.verdict.Verdict.{Verdict}
use Rattle.flux_engine.specs.Disks.{part_at, totals_over}
use Rattle.flux_engine.specs.Tracks.{TrackPart, is_good, totals_of}

counted : (v : ℕ → Verdict) (first count : ℕ)
    → ((s : ℕ) → first ≤ s → s < first + count → is_good (v s) ≡ true)
    → count_by is_good (map v (range_with_len first count))
    ≡ length (map v (range_with_len first count))
counted v first zero good = refl
counted v first (suc count) good =
    let one : ℕ = 1 in
    let here : cond (is_good (v first)) one 0 ≡ one =
    ap (λ (b : Bool). cond b one 0) (good first (omega arith) (omega arith)) in
    let rest = counted v (first + 1) count
    (λ s above below. good s (omega (arith, above)) (omega (arith, below))) in
    let all = sum_by-cons (λ (w : Verdict). cond (is_good w) 1 0) (v first)
    (map v (range_with_len (first + 1) count)) in
    omega (arith, here, rest, all)

-- a track on which each verdict is good
pub all_counted : (v : ℕ → Verdict) (first count : ℕ)
    → ((s : ℕ) → first ≤ s → s < first + count → is_good (v s) ≡ true)
    → (totals_of (map v (range_with_len first count))).good
    ≡ (totals_of (map v (range_with_len first count))).sectors
all_counted v first count good = counted v first count good

sums_same : (parts : List TrackPart)
    → ((n : ℕ) → n < length parts
    → (part_at parts n).totals.good ≡ (part_at parts n).totals.sectors)
    → sum_by (λ (part : TrackPart). part.totals.good) parts
    ≡ sum_by (λ (part : TrackPart). part.totals.sectors) parts
sums_same [] each = refl
sums_same (part ∷ parts) each =
    let here : part.totals.good ≡ part.totals.sectors = each 0 (omega arith) in
    let rest = sums_same parts (λ n below. each (suc n) (omega (arith, below))) in
    omega (
      arith,
      here,
      rest,
      sum_by-cons (λ (p : TrackPart). p.totals.good) part parts,
      sum_by-cons (λ (p : TrackPart). p.totals.sectors) part parts,
    )

-- a disk on each of whose tracks each verdict is good
pub totals_good : (parts : List TrackPart)
    → ((n : ℕ) → n < length parts
    → (part_at parts n).totals.good ≡ (part_at parts n).totals.sectors)
    → (totals_over parts).good ≡ (totals_over parts).sectors
totals_good parts each = sums_same parts each
