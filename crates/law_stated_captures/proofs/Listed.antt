-- Lists whose elements are given by their numbers.
use Rattle.std.specs.Prelude.{◌≡◌, ◌<◌, ◌≤◌, ℕ, zero, suc, ◌+◌, ◌-◌, List, ◌++◌, length, map, slice_index}
use Rattle.std.specs.List.{range_with_len}
use Rattle.std.proofs.Common.{arith, ap, subst, ◌∙◌}
use Rattle.std.proofs.lemmas.List.FromFn.{get_or-map-range_with_len, length-map-range_with_len}
use Rattle.law_stated_captures.specs.Streams.{last_of}
use Rattle.law_stated_captures.proofs.Blocks.{Steps}

-- elements number 0 to `last`
abbrev pub listed : (ℕ → ℕ) → (last : ℕ) → List ℕ
listed f last = map f (range_with_len 0 (suc last))

pub listed_length : (f : ℕ → ℕ) (last : ℕ) → length (listed f last) ≡ suc last
listed_length f last = length-map-range_with_len f 0 (suc last)

pub listed_at : (f : ℕ → ℕ) (last i : ℕ) → i < suc last → slice_index (listed f last) i ≡ f i
listed_at f last i within = get_or-map-range_with_len f 0 (suc last) i i 0 within (omega arith)

pub listed_last : (f : ℕ → ℕ) (last : ℕ) → last_of (listed f last) ≡ f last
listed_last f last =
    let at : length (listed f last) - 1 ≡ last = omega (arith, listed_length f last) in
    ap (slice_index (listed f last)) at ∙ listed_at f last last (omega arith)

module _ (f : ℕ → ℕ) (each : (i : ℕ) → (f i ≤ f (suc i)) × (f (suc i) < f i + 65536)) where
  steps_from : (a last start : ℕ) (later : List ℕ) → start ≤ f a → f a < start + 65536 → Steps (f (a + last)) later
      → Steps start (map f (range_with_len a (suc last)) ++ later)
  steps_from a zero start later from to rest =
      let at : a + zero ≡ a = omega arith in
      (from, to, subst (λ (n : ℕ). Steps (f n) later) at rest)
  steps_from a (suc last) start later from to rest =
      let at : a + suc last ≡ a + 1 + last = omega arith in
      let next : suc a ≡ a + 1 = omega arith in
      let here : (f a ≤ f (a + 1)) × (f (a + 1) < f a + 65536) = subst (λ (n : ℕ). (f a ≤ f n) × (f n < f a + 65536)) next (each a) in
      (from, to, steps_from (a + 1) last (f a) later here.0 here.1 (subst (λ (n : ℕ). Steps (f n) later) at rest))

  -- from one to the next, and from the last of them on
  pub listed_steps : (last start : ℕ) (later : List ℕ) → start ≤ f 0 → f 0 < start + 65536 → Steps (f last) later → Steps start (listed f last ++ later)
  listed_steps last start later from to rest =
      let at : last ≡ 0 + last = omega arith in
      steps_from 0 last start later from to (subst (λ (n : ℕ). Steps (f n) later) at rest)
