-- A partition point of a list counts the elements that pass.
use Rattle.std.proofs.Common.{◌≡◌, ℕ, ◌+◌, ◌-◌, ◌<◌, ◌≤◌, Bool, true, false, List, length, take, count_by, refl, sym, ap, ◌∙◌, arith, add-zero, zero, suc}
use Rattle.std.proofs.lemmas.List.{take_all}
use Rattle.std.proofs.lemmas.List.Sums.{count_by_more_yes, count_by_more_no}
use Rattle.std.specs.List.{AllWithin}
use Rattle.std.specs.List.Sorted.{IsPartitionPoint}

-- where all of the first i pass, they are i in number
count_by-take_passing : (p : ℕ → Bool) (xs : List ℕ) (i : ℕ) → i ≤ length xs
    → AllWithin (λ y. p y ≡ true) xs 0 i → count_by p (take i xs) ≡ i
count_by-take_passing p xs zero _ _ = refl
count_by-take_passing p xs (suc i) bound passing =
    let next : suc i ≡ i + 1 = omega arith in
    let inside : i < length xs = omega arith in
    let rest : count_by p (take i xs) ≡ i =
    count_by-take_passing p xs i (omega arith) (λ k d low high. passing k d low (omega (arith, high))) in
    rw next (count_by_more_yes p xs i 0 inside (passing i 0 (omega arith) (omega arith)) ∙ ap (λ n. n + 1) rest)

-- k more that do not pass count for nothing
count_by-take_failing : (p : ℕ → Bool) (xs : List ℕ) (i k : ℕ) → i + k ≤ length xs
    → AllWithin (λ y. p y ≡ false) xs i (i + k) → count_by p (take (i + k) xs) ≡ count_by p (take i xs)
count_by-take_failing p xs i zero _ _ = ap (λ n. count_by p (take n xs)) (add-zero i)
count_by-take_failing p xs i (suc k) bound failing =
    let next : i + suc k ≡ (i + k) + 1 = omega arith in
    let inside : i + k < length xs = omega arith in
    let rest : count_by p (take (i + k) xs) ≡ count_by p (take i xs) =
    count_by-take_failing p xs i k (omega arith) (λ j d low high. failing j d low (omega (arith, high))) in
    rw next (count_by_more_no p xs (i + k) 0 inside (failing (i + k) 0 (omega arith) (omega arith)) ∙ rest)

pub count_by-partition_point : (p : ℕ → Bool) (xs : List ℕ) (i : ℕ) → i ≤ length xs
    → IsPartitionPoint (λ y. p y ≡ true) (λ y. p y ≡ false) xs i → i ≡ count_by p xs
count_by-partition_point p xs i bound point =
    let k : ℕ = length xs - i in
    let whole : i + k ≡ length xs = omega arith in
    let all : take (i + k) xs ≡ xs = take_all (i + k) xs (omega (arith, whole)) in
    let after = λ (j : ℕ) (d : ℕ) (low : i ≤ j) (high : j < i + k). point.1 j d low (omega (arith, high, whole)) in
    sym (sym (ap (count_by p) all) ∙ count_by-take_failing p xs i k (omega (arith, whole)) after
    ∙ count_by-take_passing p xs i bound point.0)
