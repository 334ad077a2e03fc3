-- Where as many sectors are good as there are, each is.
use Rattle.std.specs.Prelude.{◌≡◌, ◌≤◌, ◌<◌, ℕ, zero, suc, ◌+◌, Bool, true, false, cond, List, [], ◌∷◌, count_by, length, map, sum_by, refl}
use Rattle.std.specs.List.{range_with_len}
use Rattle.std.proofs.Common.{◌∙◌, arith, inl, inr, subst, sym}
use Rattle.std.proofs.lemmas.Bool.{cases_lt}
use Rattle.std.proofs.lemmas.List.Sums.{count_by-le-length, sum_by-cons}
use Rattle.flux_engine.specs.Disks.{part_at}
use Rattle.flux_engine.specs.Tracks.{TrackPart, is_good}
use Rattle.turn_merge.specs.declared.verdict.Verdict.{Verdict}

head_good : (b : Bool) (rest many : ℕ) → rest ≤ many → cond b 1 0 + rest ≡ suc many → (b ≡ true) × (rest ≡ many)
head_good true rest many few all = (refl, omega (arith, all))
head_good false rest many few all = absurd (omega (arith, few, all))

-- on a track
pub each_counted : (v : ℕ → Verdict) (first count : ℕ) → count_by is_good (map v (range_with_len first count)) ≡ length (map v (range_with_len first count))
    → (s : ℕ) → first ≤ s → s < first + count → is_good (v s) ≡ true
each_counted v first zero all s least most = absurd (omega (arith, least, most))
each_counted v first (suc count) all s least most =
    let rest : List Verdict = map v (range_with_len (first + 1) count) in
    let split = sum_by-cons (λ (w : Verdict). cond (is_good w) 1 0) (v first) rest in
    let both = head_good (is_good (v first)) (count_by is_good rest) (length rest) (count_by-le-length is_good rest) (sym split ∙ all) in
    elim (cases_lt first s) [
      | inl past ↦ each_counted v (first + 1) count both.1 s (omega (arith, past)) (omega (arith, most))
      | inr here ↦ (let same : first ≡ s = omega (arith, least, here) in subst (λ (k : ℕ). is_good (v k) ≡ true) same both.0)
    ]

-- on a disk
abbrev goods : List TrackPart → ℕ
goods parts = sum_by (λ (part : TrackPart). part.totals.good) parts

abbrev all_of : List TrackPart → ℕ
all_of parts = sum_by (λ (part : TrackPart). part.totals.sectors) parts

abbrev AreFew : List TrackPart → Type 0
AreFew parts = (n : ℕ) → n < length parts → (part_at parts n).totals.good ≤ (part_at parts n).totals.sectors

sums_few : (parts : List TrackPart) → AreFew parts → goods parts ≤ all_of parts
sums_few [] few = omega arith
sums_few (part ∷ parts) few =
    let here : part.totals.good ≤ part.totals.sectors = few 0 (omega arith) in
    let rest = sums_few parts (λ n low. few (suc n) (omega (arith, low))) in
    omega (arith, here, rest, sum_by-cons (λ (p : TrackPart). p.totals.good) part parts, sum_by-cons (λ (p : TrackPart). p.totals.sectors) part parts)

both_same : (good sectors goods all : ℕ) → good ≤ sectors → goods ≤ all → good + goods ≡ sectors + all → (good ≡ sectors) × (goods ≡ all)
both_same good sectors goods all few rest same = (omega (arith, few, rest, same), omega (arith, few, rest, same))

pub each_part : (parts : List TrackPart) → AreFew parts → goods parts ≡ all_of parts
    → (n : ℕ) → n < length parts → (part_at parts n).totals.good ≡ (part_at parts n).totals.sectors
each_part [] few same n low = absurd (omega (arith, low))
each_part (part ∷ parts) few same n low =
    let later : AreFew parts = λ m below. few (suc m) (omega (arith, below)) in
    let both = both_same part.totals.good part.totals.sectors (goods parts) (all_of parts) (few 0 (omega arith)) (sums_few parts later)
    (sym (sum_by-cons (λ (p : TrackPart). p.totals.good) part parts) ∙ same ∙ sum_by-cons (λ (p : TrackPart). p.totals.sectors) part parts) in
    by both.0 (each_part parts later both.1) n low
  where
    by : part.totals.good ≡ part.totals.sectors → ((m : ℕ) → m < length parts → (part_at parts m).totals.good ≡ (part_at parts m).totals.sectors)
        → (m : ℕ) → m < length (part ∷ parts) → (part_at (part ∷ parts) m).totals.good ≡ (part_at (part ∷ parts) m).totals.sectors
    by here rest zero below = here
    by here rest (suc m) below = rest m (omega (arith, below))
