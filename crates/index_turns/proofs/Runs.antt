-- The times of a run of transitions.
use Rattle.std.proofs.Common.{◌≡◌, ℕ, ◌+◌, ◌-◌, ◌<◌, ◌≤◌, ◌++◌, zero, suc, List, [], ◌∷◌, All, length, length-append, take, get_or, refl, sym, ap, ◌∙◌, arith, append_assoc, append-nil, subst}
use Rattle.std.specs.List.{sum}
use Rattle.std.specs.List.Sorted.{IsNonDecreasing}
use Rattle.std.proofs.Math.Seq.{get_or-append_seam, take-append-add, take-suc}
use Rattle.std.proofs.lemmas.List.{length-take, take-take}
use Rattle.std.proofs.lemmas.List.Elements.{All-push, All-weaker}
use Rattle.std.proofs.lemmas.List.Sorted.{IsNonDecreasingBy-push}
use Rattle.std.proofs.lemmas.List.Sums.{sum_by-cons, sum_by_push}
use Rattle.index_turns.specs.Track.{times_after}

times_after-push : (start : ℕ) (intervals : List ℕ) (interval : ℕ)
    → times_after start (intervals ++ interval ∷ []) ≡ times_after start intervals ++ (start + sum intervals + interval) ∷ []
times_after-push start [] interval = ap (λ n. (n + interval) ∷ []) (omega arith)
times_after-push start (first ∷ intervals) interval =
    let total : (start + first) + sum intervals ≡ start + sum (first ∷ intervals) = omega (arith, sum_by-cons (λ x. x) first intervals) in
    ap (λ times. (start + first) ∷ times) (times_after-push (start + first) intervals interval
    ∙ ap (λ n. times_after (start + first) intervals ++ (n + interval) ∷ []) total)

-- one transition more of a run
pub times_after-step : (start : ℕ) (intervals : List ℕ) (i interval : ℕ) → i < length intervals → interval ≡ get_or intervals i 0
    → (times_after start (take (i + 1) intervals) ≡ times_after start (take i intervals) ++ (start + sum (take i intervals) + interval) ∷ [])
    × (sum (take (i + 1) intervals) ≡ sum (take i intervals) + interval)
times_after-step start intervals i interval inside is =
    let one : i + 1 ≡ suc i = omega arith in
    let next : take (i + 1) intervals ≡ take i intervals ++ interval ∷ [] =
    ap (λ n. take n intervals) one ∙ take-suc intervals i 0 inside ∙ ap (λ x. take i intervals ++ x ∷ []) (sym is) in (
      ap (times_after start) next ∙ times_after-push start (take i intervals) interval,
      ap sum next ∙ sum_by_push (λ x. x) (take i intervals) interval,
    )

-- a run after earlier transitions keeps the order
pub times_after-order : (times : List ℕ) (start : ℕ) (intervals : List ℕ) → IsNonDecreasing times → All (λ earlier. earlier ≤ start) times
    → IsNonDecreasing (times ++ times_after start intervals)
times_after-order times start [] order early = subst IsNonDecreasing (sym (append-nil times)) order
times_after-order times start (interval ∷ intervals) order early =
    let time : ℕ = start + interval in
    let pushed : IsNonDecreasing (times ++ time ∷ []) =
    IsNonDecreasingBy-push (λ x. x) times time order (λ d some. omega (arith, early (length times - 1) d (omega (arith, some)))) in
    subst IsNonDecreasing (append_assoc times (time ∷ []) (times_after time intervals))
    (times_after-order (times ++ time ∷ []) time intervals pushed
    (All-push (λ earlier. earlier ≤ time) times time (All-weaker (λ earlier. earlier ≤ start) (λ earlier. earlier ≤ time) (λ earlier low. omega (arith, low)) times early) (omega arith)))

length-times_after : (start : ℕ) (intervals : List ℕ) → length (times_after start intervals) ≡ length intervals
length-times_after start [] = refl
length-times_after start (interval ∷ intervals) = ap suc (length-times_after (start + interval) intervals)

take-times_after : (start : ℕ) (intervals : List ℕ) (count : ℕ) → take count (times_after start intervals) ≡ times_after start (take count intervals)
take-times_after start intervals zero = refl
take-times_after start [] (suc count) = refl
take-times_after start (interval ∷ intervals) (suc count) =
    ap (λ times. (start + interval) ∷ times) (take-times_after (start + interval) intervals count)

-- the first of a run, where a row of them was appended
pub times_after-front : (times : List ℕ) (start : ℕ) (intervals : List ℕ) (row count len : ℕ) → count ≤ row → len ≡ length times + count
    → take len (times ++ times_after start (take row intervals)) ≡ times ++ times_after start (take count intervals)
times_after-front times start intervals row count len few is =
    let put : List ℕ = take row intervals in
    ap (λ n. take n (times ++ times_after start put)) is ∙ take-append-add times (times_after start put) count
    ∙ ap (λ front. times ++ front) (take-times_after start put count)
    ∙ ap (λ front. times ++ times_after start front) (take-take count row intervals few)

-- and the last of them
pub times_after-last : (times : List ℕ) (start : ℕ) (intervals : List ℕ) (count place otherwise : ℕ) → 1 ≤ count → count ≤ length intervals
    → place + 1 ≡ length times + count
    → get_or (times ++ times_after start (take count intervals)) place otherwise ≡ start + sum (take count intervals)
times_after-last times start intervals count place otherwise some inside is =
    let before : ℕ = count - 1 in
    let front : List ℕ = take before intervals in
    let interval : ℕ = get_or intervals before 0 in
    let step = times_after-step start intervals before interval (omega (arith, some, inside)) refl in
    let next : before + 1 ≡ count = omega (arith, some) in
    let all : times_after start (take count intervals) ≡ times_after start front ++ (start + sum front + interval) ∷ [] =
    ap (λ n. times_after start (take n intervals)) (sym next) ∙ step.0 in
    let total : sum (take count intervals) ≡ sum front + interval = ap (λ n. sum (take n intervals)) (sym next) ∙ step.1 in
    let size : length (times ++ times_after start front) ≡ place =
    omega (arith, length-append times (times_after start front), length-times_after start front, length-take before intervals, is, some, inside) in
    ap (λ new. get_or (times ++ new) place otherwise) all
    ∙ ap (λ list. get_or list place otherwise) (sym (append_assoc times (times_after start front) ((start + sum front + interval) ∷ [])))
    ∙ ap (λ n. get_or ((times ++ times_after start front) ++ (start + sum front + interval) ∷ []) n otherwise) (sym size)
    ∙ get_or-append_seam (times ++ times_after start front) (start + sum front + interval) [] otherwise ∙ omega (arith, total)
