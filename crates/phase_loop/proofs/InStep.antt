-- Two loops that have fallen in step go on alike.
use Rattle.std.proofs.Common.{◌≡◌, ℕ, ◌+◌, ◌-◌, ◌*◌, ◌<◌, ◌≤◌, min, max, List, [], ◌∷◌, ◌++◌, length, drop, take, arith, refl, sym, ◌∙◌, ap, subst, inl, inr, Bool, true, false, nat_lt, slice_index, append_assoc, append-nil, length-append}
use Rattle.std.specs.List.Sorted.{IsNonDecreasing}
use Rattle.std.proofs.lemmas.Bool.{cases_lt, le-ltb}
use Rattle.std.proofs.lemmas.List.{length_push, get_or_append_left, length-drop, take_all, take-append-drop}
use Rattle.std.proofs.lemmas.List.Sorted.{IsNonDecreasingBy-take}
use Rattle.std.proofs.Math.Seq.{drop-append_seam, get_or-append_seam, take-append_seam}
use Rattle.circular_buffer.specs.Buffer.{keep_last}
use Rattle.cell_bits.specs.Run.{run_cells}
use Rattle.cell_bits.specs.Search.{StandsNowhere}
use Rattle.cell_bits.specs.Word.{Stands, word_cells}
use Rattle.phase_loop.specs.Rows.{recovered}
use Rattle.phase_loop.specs.State.{LoopState, Holds}
use Rattle.phase_loop.specs.inside.InStep.{StandAlike}
use Rattle.phase_loop.specs.inside.Step.{state_after, count_after, periods_to, joined, recent_after}
use Rattle.phase_loop.specs.inside.Stretch.{AreBetween, counts_of, intervals_with}
use Rattle.phase_loop.specs.declared.start.LoopStart.{LoopStart}
use Rattle.phase_loop.specs.declared.window.Interval.{Interval}
use Rattle.phase_loop.proofs.Appending.{length-run_cells, recovered-push}
use Rattle.phase_loop.proofs.Between.{held_between}
use Rattle.phase_loop.proofs.Times.{Stepped, holds_fine, stepped}

-- the cells of the transitions at these times, behind what a loop holds
runs_on : LoopState → List ℕ → List Bool
runs_on state [] = []
runs_on state (time ∷ times) = run_cells (count_after state (1024 * time)) ++ runs_on (state_after state (1024 * time)) times

count-some : (state : LoopState) (fine : ℕ) → 1 ≤ count_after state fine
count-some state fine = omega arith

-- a track's cells are those of its first transitions, and then these
continued : (times rest : List ℕ) (state : LoopState) (start : LoopStart) → Holds state start times → IsNonDecreasing (times ++ rest)
    → recovered start (times ++ rest) ≡ recovered start times ++ runs_on state rest
unfolding runs_on
continued times [] state start holds rising =
    ap (recovered start) (append-nil times) ∙ sym (append-nil (recovered start times))
continued times (time ∷ rest) state start holds rising =
    let fine : ℕ = 1024 * time in
    let last : ℕ = length times - 1 in
    let all : List ℕ = times ++ time ∷ rest in
    let some = holds.some in
    let before : slice_index all last ≡ slice_index times last = get_or_append_left times (time ∷ rest) 0 last (omega (arith, some)) in
    let here : slice_index all (length times) ≡ time = get_or-append_seam times time rest 0 in
    let up : slice_index all last ≤ slice_index all (length times) =
    rising last (length times) 0 (omega arith) (omega (arith, length-append times (time ∷ rest))) in
    let later : state.fine ≤ fine = omega (arith, holds_fine state start times holds, before, here, up) in
    let step = stepped state (state_after state fine) start times time (count_after state fine) holds later refl refl in
    let split : all ≡ (times ++ time ∷ []) ++ rest = sym (append_assoc times (time ∷ []) rest) in
    let on = continued (times ++ time ∷ []) rest (state_after state fine) start step.holds (subst IsNonDecreasing split rising) in
    ap (recovered start) split
    ∙ on
    ∙ ap (λ (cells : List Bool). cells ++ runs_on (state_after state fine) rest) (recovered-push start times time (count_after state fine) some step.counts)
    ∙ append_assoc (recovered start times) (run_cells (count_after state fine)) (runs_on (state_after state fine) rest)

length-runs_on : (state : LoopState) (times : List ℕ) → length (runs_on state times) ≤ 32 * length times
unfolding runs_on
length-runs_on state [] = omega arith
length-runs_on state (time ∷ times) =
    let count : ℕ = count_after state (1024 * time) in
    omega (
      arith,
      length-append (run_cells count) (runs_on (state_after state (1024 * time)) times),
      length-run_cells count (count-some state (1024 * time)),
      length-runs_on (state_after state (1024 * time)) times,
    )

-- no count is the longest
AreShorter : LoopState → List ℕ → Type 0
AreShorter state [] = Unit {0}
AreShorter state (time ∷ times) = (count_after state (1024 * time) < 32) × AreShorter (state_after state (1024 * time)) times

longest : word_cells 32 1 ≡ run_cells 32
unfolding word_cells
longest = refl

-- where no run of 32 cells stands behind the first cells, no count is
are_shorter : (front : List Bool) (state : LoopState) (times : List ℕ)
    → ((place : ℕ) → length front ≤ place → place < length (front ++ runs_on state times) → ¬ Stands (front ++ runs_on state times) 1 32 place)
    → AreShorter state times
unfolding AreShorter runs_on
are_shorter front state [] nowhere = record {}
are_shorter front state (time ∷ times) nowhere =
    let fine : ℕ = 1024 * time in
    let count : ℕ = count_after state fine in
    let run : List Bool = run_cells count in
    let more : List Bool = runs_on (state_after state fine) times in
    let long = length-run_cells count (count-some state fine) in
    let assoc : (front ++ run) ++ more ≡ front ++ (run ++ more) = append_assoc front run more in
    let whole = length-append front (run ++ more) in
    let part = length-append run more in
    let longer = length-append front run in
    let rest = are_shorter (front ++ run) (state_after state fine) times
    (λ place past within stands. nowhere place (omega (arith, longer, past)) (subst (λ (l : List Bool). place < length l) assoc within)
    (subst (λ (l : List Bool). Stands l 1 32 place) assoc stands)) in
    let low : count < 32 = elim (cases_lt count 32) [
      | inl less ↦ less
      | inr most ↦
          let is : count ≡ 32 = omega arith in
          let here : take 32 (drop (length front) (front ++ (run ++ more))) ≡ word_cells 32 1 =
          ap (take 32) (drop-append_seam front (run ++ more))
          ∙ ap (λ (n : ℕ). take n (run ++ more)) (sym is ∙ sym long)
          ∙ take-append_seam run more
          ∙ ap run_cells is ∙ sym longest in
          absurd (nowhere (length front) (omega arith) (omega (arith, whole, part, long, is)) here)
    ] in
    (low, rest)

-- a loop with another first period
with_first : LoopState → ℕ → LoopState
with_first a first = record { first = first; band = a.band; fine = a.fine; place = a.place; period = a.period; recent = a.recent }

length-kept : (xs : List Interval) (x : Interval) → length xs ≡ 64 → length (keep_last 64 (xs ++ x ∷ [])) ≡ 64
length-kept xs x full =
    let all : List Interval = xs ++ x ∷ [] in
    omega (arith, length-drop (length all - 64) all, length_push xs x, full)

-- after a shorter run with a full window it does not tell what the first period is
record StepsAlike (a : LoopState) (first fine : ℕ) : Type 0 where
  pub same : state_after (with_first a first) fine ≡ with_first (state_after a fine) first
  pub full : length (state_after a fine).recent ≡ 64

steps_alike : (a : LoopState) (first fine : ℕ) → length a.recent ≡ 64 → count_after a fine < 32 → StepsAlike a first fine
unfolding with_first
steps_alike a first fine full low =
    let periods : ℕ = periods_to a fine in
    let few : nat_lt 32 periods ≡ false = le-ltb _ _ (omega arith) in
    let kept : length (recent_after a fine periods) ≡ 64 = length-kept a.recent _ full in
    let enough : nat_lt (length (recent_after a fine periods)) 64 ≡ false = le-ltb _ _ (omega (arith, kept)) in
    record {
      same = rw (few, enough) refl;
      full = rw few kept;
    }

alike_on : (a : LoopState) (first : ℕ) (times : List ℕ) → length a.recent ≡ 64 → AreShorter a times
    → runs_on (with_first a first) times ≡ runs_on a times
unfolding with_first runs_on AreShorter
alike_on a first [] full low = refl
alike_on a first (time ∷ times) full low =
    let fine : ℕ = 1024 * time in
    let step = steps_alike a first fine full low.0 in
    ap (λ (s : LoopState). run_cells (count_after a fine) ++ runs_on s times) step.same
    ∙ ap (λ (l : List Bool). run_cells (count_after a fine) ++ l) (alike_on (state_after a fine) first times step.full low.1)

-- loops that stand alike at one transition differ in their first periods alone
same_but_first : (a b : LoopState) (start start' : LoopStart) (times : List ℕ) → Holds a start times → Holds b start' times → StandAlike a b
    → b ≡ with_first a b.first
unfolding with_first
same_but_first a b start start' times holds holds' alike =
    let fine : a.fine ≡ b.fine = holds_fine a start times holds ∙ sym (holds_fine b start' times holds') in
    let last : ℕ = length times - 1 in
    let recent : a.recent ≡ b.recent = same_recent a b start start' times holds holds' alike in
    rw (alike.band, fine, alike.place, alike.period, recent) refl
  where
    same_recent : (a b : LoopState) (start start' : LoopStart) (times : List ℕ) → Holds a start times → Holds b start' times → StandAlike a b
        → a.recent ≡ b.recent
    same_recent a b start start' times holds holds' alike =
        let last : ℕ = length times - 1 in
        let whole : take (last + 1) times ≡ times = take_all (last + 1) times (omega (arith, holds.some)) in
        let first = held_between start times last a (omega (arith, holds.some)) (subst (λ (ts : List ℕ). Holds a start ts) (sym whole) holds) alike.full in
        let second = held_between start' times last b (omega (arith, holds.some)) (subst (λ (ts : List ℕ). Holds b start' ts) (sym whole) holds') alike.full' in
        first.are ∙ ap (intervals_with times (last - 64)) alike.counts ∙ sym second.are

-- so from there on the cells are the same
pub in_step : (start known : LoopStart) (front rest : List ℕ) (a b : LoopState) → Holds a known front → Holds b start front
    → IsNonDecreasing (front ++ rest) → StandAlike a b
    → StandsNowhere (recovered known (front ++ rest)) 1 32 (length (recovered known front)) (length (recovered known (front ++ rest)))
    → recovered start (front ++ rest) ≡ recovered start front ++ drop (length (recovered known front)) (recovered known (front ++ rest))
in_step start known front rest a b holds holds' rising alike nowhere =
    let there = continued front rest a known holds rising in
    let here = continued front rest b start holds' rising in
    let low = are_shorter (recovered known front) a rest
    (subst (λ (l : List Bool). StandsNowhere l 1 32 (length (recovered known front)) (length l)) there nowhere) in
    let same : runs_on b rest ≡ runs_on a rest =
    ap (λ (s : LoopState). runs_on s rest) (same_but_first a b known start front holds holds' alike) ∙ alike_on a b.first rest alike.full low in
    here
    ∙ ap (λ (l : List Bool). recovered start front ++ l) (same ∙ sym (drop-append_seam (recovered known front) (runs_on a rest)))
    ∙ ap (λ (l : List Bool). recovered start front ++ drop (length (recovered known front)) l) (sym there)

-- and how many are copied
pub few_copied : (known : LoopStart) (front rest : List ℕ) (a : LoopState) → Holds a known front → IsNonDecreasing (front ++ rest)
    → length (drop (length (recovered known front)) (recovered known (front ++ rest))) ≤ 32 * length rest
few_copied known front rest a holds rising =
    let same : drop (length (recovered known front)) (recovered known (front ++ rest)) ≡ runs_on a rest =
    ap (drop (length (recovered known front))) (continued front rest a known holds rising) ∙ drop-append_seam (recovered known front) (runs_on a rest) in
    omega (arith, ap length same, length-runs_on a rest)

-- the first of times that never fall
pub rising_front : (times : List ℕ) (count : ℕ) → IsNonDecreasing times → IsNonDecreasing (take count times)
rising_front times count rising = IsNonDecreasingBy-take (λ (t : ℕ). t) count times rising

-- the first times and the others are all
whole_of : (times : List ℕ) (count : ℕ) → take count times ++ drop count times ≡ times
whole_of times count = take-append-drop count times

module _ (start known : LoopStart) (times : List ℕ) (count : ℕ) (a b : LoopState) (holds : Holds a known (take count times))
    (rising : IsNonDecreasing times) where
  split_rising : IsNonDecreasing (take count times ++ drop count times)
  split_rising = subst IsNonDecreasing (sym (whole_of times count)) rising

  -- the cells of the first transitions are no more than those of all
  pub front_within : length (recovered known (take count times)) ≤ length (recovered known times)
  front_within =
      let on = continued (take count times) (drop count times) a known holds split_rising in
      let all = ap (λ (ts : List ℕ). length (recovered known ts)) (whole_of times count) in
      omega (arith, all, ap length on, length-append (recovered known (take count times)) (runs_on a (drop count times)))

  -- where the clocks stand alike behind them, the others are copied
  pub copied : Holds b start (take count times) → StandAlike a b
      → StandsNowhere (recovered known times) 1 32 (length (recovered known (take count times))) (length (recovered known times))
      → recovered start (take count times) ++ drop (length (recovered known (take count times))) (recovered known times) ≡ recovered start times
  copied holds' alike nowhere =
      let P : List ℕ → Type 0 = λ ts. StandsNowhere (recovered known ts) 1 32 (length (recovered known (take count times))) (length (recovered known ts)) in
      let met = in_step start known (take count times) (drop count times) a b holds holds' split_rising alike (subst P (sym (whole_of times count)) nowhere) in
      ap (λ (ts : List ℕ). recovered start (take count times) ++ drop (length (recovered known (take count times))) (recovered known ts)) (sym (whole_of times count))
      ∙ sym met ∙ ap (recovered start) (whole_of times count)

  -- and there is room for them
  pub few_left : length (drop (length (recovered known (take count times))) (recovered known times)) ≤ 32 * (length times - count)
  few_left =
      let P : List ℕ → Type 0 = λ ts. length (drop (length (recovered known (take count times))) (recovered known ts)) ≤ 32 * length (drop count times) in
      let few = subst P (whole_of times count) (few_copied known (take count times) (drop count times) a holds split_rising) in
      omega (arith, few, length-drop count times)
