-- Sums over the first tracks of a disk, and over their streams.
use Rattle.std.specs.Prelude.{◌≡◌, ◌≤◌, ◌<◌, ℕ, zero, suc, ◌+◌, ◌*◌, cond, is_some, List, [], ◌∷◌, length, sum_by, take, Option, None, Some, refl}
use Rattle.std.specs.List.{range_with_len}
use Rattle.std.proofs.Common.{ap, sym, ◌∙◌, arith, length-append}
use Rattle.std.proofs.lemmas.List.Sums.{sum_by-cons, sum_by_more, sum_by_push}
use Rattle.flux_engine.specs.LoopProgress.{seen_at}
use Rattle.flux_engine.specs.Plans.{Seen, Streams, passed_one, passed_to}
use Rattle.flux_engine.specs.lemmas.Pieces.{range-more}
use Rattle.sector_report.specs.declared.dump_lines.Passed.{Passed}
use Rattle.law_read_dumps.proofs.Streams.{none_seen}

-- a sum of sums
pub sums_added : {X : Type 0} (f g : X → ℕ) (xs : List X) → sum_by (λ (x : X). f x + g x) xs ≡ sum_by f xs + sum_by g xs
sums_added f g [] = refl
sums_added f g (x ∷ xs) =
    let rest = sums_added f g xs in
    let both : sum_by (λ x. f x + g x) (x ∷ xs) ≡ f x + g x + sum_by (λ x. f x + g x) xs = sum_by-cons (λ x. f x + g x) x xs in
    omega (arith, both, rest, sum_by-cons f x xs, sum_by-cons g x xs)

-- a sum over the first tracks, and over one more
pub sum_more : (f : ℕ → ℕ) (n : ℕ) → sum_by f (range_with_len 0 n) + f n ≡ sum_by f (range_with_len 0 (suc n))
sum_more f n =
    let next : n + 1 ≡ suc n = omega arith in
    let here : 0 + n ≡ n = omega arith in
    sym (ap (λ (k : ℕ). sum_by f (range_with_len 0 k)) (sym next)
    ∙ ap (sum_by f) (range-more 0 n)
    ∙ sum_by_push f (range_with_len 0 n) (0 + n)
    ∙ ap (λ (k : ℕ). sum_by f (range_with_len 0 n) + f k) here)

pub one-passed : (q : ℕ) (why : Option Passed) → length (passed_one q why) ≡ cond (is_some why) 1 0
one-passed q None = refl
one-passed q (Some why) = refl

-- Of the streams that came, those of track number n that are passed over are counted, one after another, where each weighs as many as it has lines.
module _ (weight : Seen → ℕ) (came : List Seen) (streams : Streams) (many n : ℕ) (low : (q : ℕ) → q < many → n * many + q < length came)
    (each : (q : ℕ) → length (passed_one q (streams n q).passed) ≡ weight (seen_at came (n * many + q))) where
  pub passed_so_far : (q : ℕ) → q ≤ many → sum_by weight (take (n * many + q) came) ≡ sum_by weight (take (n * many) came) + length (passed_to streams n q)
  passed_so_far zero few =
      let same : n * many + 0 ≡ n * many = omega arith in
      let none : sum_by weight (take (n * many) came) ≡ sum_by weight (take (n * many) came) + 0 = omega arith in
      ap (λ (k : ℕ). sum_by weight (take k came)) same ∙ none
  passed_so_far (suc q) few =
      let i : ℕ = n * many + q in
      let next : n * many + suc q ≡ i + 1 = omega arith in
      let more : sum_by weight (take (i + 1) came) ≡ sum_by weight (take i came) + weight (seen_at came i) =
      sum_by_more weight came i none_seen (low q (omega (arith, few))) in
      let both : length (passed_to streams n (suc q)) ≡ length (passed_to streams n q) + length (passed_one q (streams n q).passed) =
      length-append (passed_to streams n q) (passed_one q (streams n q).passed) in
      let before = passed_so_far q (omega (arith, few)) in
      let one = each q in
      ap (λ (k : ℕ). sum_by weight (take k came)) next ∙ more ∙ omega (arith, before, both, one)
