-- The ones of the endlessly repeated ring from one of them on, one after another, by their number.
use Rattle.std.specs.Prelude.{◌≡◌, ◌<◌, ◌≤◌, ℕ, zero, suc, ◌+◌, ◌-◌, ◌*◌, Bool, true, false, List, length, refl, get_or}
use Rattle.std.proofs.Common.{arith, ap, sym, subst, ◌∙◌, inl, inr}
use Rattle.std.proofs.lemmas.Bool.{cases_lt}
use Rattle.std.proofs.Math.Nat.{add-mod_right}
use Rattle.track_rings.specs.Rings.{AreNeighbours, IsSpaced, cell_of}

-- the first number from `start` on that passes, at most `most` further
record Found (test : ℕ → Bool) (start most : ℕ) : Type 0 where
  pub steps : ℕ
  pub within : steps ≤ most
  pub passes : test (start + steps) ≡ true
  pub none : (k : ℕ) → k < steps → test (start + k) ≡ false

found_by : (test : ℕ → Bool) (start most : ℕ) (b : Bool) → test start ≡ b → Found test (start + 1) most → Found test start (suc most)
found_by test start most true here rest =
    let at : start + 0 ≡ start = omega arith in
    record { steps = 0; within = omega arith; passes = ap test at ∙ here; none = λ k below. absurd (omega (arith, below)) }
found_by test start most false here rest =
    let at : start + 1 + rest.steps ≡ start + suc rest.steps = omega arith in record {
      steps = suc rest.steps;
      within = (let within = rest.within in omega (arith, within));
      passes = ap test (sym at) ∙ rest.passes;
      none = none test start rest.steps here rest.none;
    }
  where
    none : (test : ℕ → Bool) (start steps : ℕ) → test start ≡ false → ((k : ℕ) → k < steps → test (start + 1 + k) ≡ false) → (k : ℕ) → k < suc steps → test (start + k) ≡ false
    none test start steps here later zero below = (let at : start + 0 ≡ start = omega arith in ap test at ∙ here)
    none test start steps here later (suc k) below = (let at : start + suc k ≡ start + 1 + k = omega arith in ap test at ∙ later k (omega (arith, below)))

found : (test : ℕ → Bool) (start most : ℕ) → test (start + most) ≡ true → Found test start most
found test start zero passes = record { steps = 0; within = omega arith; passes = passes; none = λ k below. absurd (omega (arith, below)) }
found test start (suc most) passes =
    let at : start + suc most ≡ start + 1 + most = omega arith in
    found_by test start most (test start) refl (found test (start + 1) most (ap test (sym at) ∙ passes))

module _ (ring : List Bool) (spaced : IsSpaced 1 4 ring) where
  -- a place of the repeated ring that has a one
  pub record One : Type 0 where
    pub place : ℕ
    pub is : cell_of ring place ≡ true

  -- from one to the next
  pub record Next (one next : One) : Type 0 where
    pub later : one.place < next.place
    pub close : next.place ≤ one.place + 4
    pub none : (place : ℕ) → one.place < place → place < next.place → cell_of ring place ≡ false

  next_of : (one : One) → Found (cell_of ring) (one.place + 1) (length ring - 1) → (next : One) × Next one next
  next_of one found =
      let steps : ℕ = found.steps in
      let at : one.place + 1 + steps ≡ one.place + (steps + 1) = omega arith in
      let none : (place : ℕ) → one.place < place → place < one.place + 1 + steps → cell_of ring place ≡ false = λ place above below.
      let joined : one.place + 1 + (place - (one.place + 1)) ≡ place = omega (arith, above) in
      subst (λ (p : ℕ). cell_of ring p ≡ false) joined (found.none (place - (one.place + 1)) (omega (arith, above, below))) in
      let near : AreNeighbours ring one.place (steps + 1) = record {
        first = one.is;
        next = ap (cell_of ring) (sym at) ∙ found.passes;
        behind = omega arith;
        zeros = λ k some under. none (one.place + k) (omega (arith, some)) (omega (arith, under));
      } in
      let apart = spaced.apart one.place (steps + 1) near in (
        record { place = one.place + 1 + steps; is = found.passes },
        record { later = omega arith; close = omega (arith, apart); none = none },
      )

  pub some_cells : 0 < length ring
  some_cells = (let one = spaced.has_one in omega (arith, one.1))

  same_later : (place : ℕ) → cell_of ring (place + length ring) ≡ cell_of ring place
  same_later place = ap (λ (n : ℕ). get_or ring n false) (add-mod_right place (length ring))

  turned : (one : One) → cell_of ring (one.place + 1 + (length ring - 1)) ≡ true
  turned one =
      let some = some_cells in
      let at : one.place + 1 + (length ring - 1) ≡ one.place + length ring = omega (arith, some) in
      ap (cell_of ring) at ∙ same_later one.place ∙ one.is

  pub next : (one : One) → (next : One) × Next one next
  next one = next_of one (found (cell_of ring) (one.place + 1) (length ring - 1) (turned one))

  -- two turns later comes a one again
  pub two_turns_later : (one : One) → cell_of ring (one.place + 2 * length ring) ≡ true
  two_turns_later one =
      let at : one.place + 2 * length ring ≡ one.place + length ring + length ring = omega arith in
      ap (cell_of ring) at ∙ same_later (one.place + length ring) ∙ same_later one.place ∙ one.is

  module _ (first : One) where
    abbrev pub one_at : ℕ → One
    one_at zero = first
    one_at (suc i) = (next (one_at i)).0

    abbrev pub place : ℕ → ℕ
    place i = (one_at i).place

    pub follows : (i : ℕ) → Next (one_at i) (one_at (suc i))
    follows i = (next (one_at i)).1

    pub beyond : (i : ℕ) → place 0 + i ≤ place i
    beyond zero = omega arith
    beyond (suc i) = (let before = beyond i in let here = follows i in let later = here.later in omega (arith, before, later))

    pub rises : (i : ℕ) → place 0 ≤ place i
    rises i = (let far = beyond i in omega (arith, far))

    no_one : (p : ℕ) → cell_of ring p ≡ true → cell_of ring p ≡ false → ⊥
    no_one p here gone = cc

    walk : (fuel i p : ℕ) → place i ≤ p → p < place i + fuel → cell_of ring p ≡ true → (m : ℕ) × (place m ≡ p)
    walk zero i p from to one = absurd (omega (arith, from, to))
    walk (suc fuel) i p from to one =
        elim (cases_lt (place i) p) [
          | inl past ↦ elim (cases_lt p (place (suc i))) [
            | inl between ↦ absurd (no_one p one ((follows i).none p past between))
            | inr reached ↦ (let later = (follows i).later in walk fuel (suc i) p reached (omega (arith, to, later)) one)
          ]
          | inr here ↦ (i, omega (arith, from, here))
        ]

    -- each one from the first on has a number
    pub numbered : (p : ℕ) → place 0 ≤ p → cell_of ring p ≡ true → (m : ℕ) × (place m ≡ p)
    numbered p from one = walk (p - place 0 + 1) 0 p from (omega (arith, from)) one

    passing : (fuel i p : ℕ) → place i < p → p ≤ place i + fuel → (j : ℕ) × (p ≤ place j) × (place j ≤ p + 3)
    passing zero i p before reach = absurd (omega (arith, before, reach))
    passing (suc fuel) i p before reach =
        elim (cases_lt (place (suc i)) p) [
          | inl still ↦ (let later = (follows i).later in passing fuel (suc i) p still (omega (arith, reach, later)))
          | inr past ↦ (let close = (follows i).close in (suc i, past, omega (arith, before, close)))
        ]

    pub passed : (p : ℕ) → place 0 < p → (j : ℕ) × (p ≤ place j) × (place j ≤ p + 3)
    passed p before = passing p 0 p before (omega arith)

  -- a one stands at each place or at most three cells behind it
  pub one_from : (p : ℕ) → (one : One) × (p ≤ one.place) × (one.place ≤ p + 3)
  one_from p =
      let some = spaced.has_one in
      let first : One = record { place = some.0; is = some.2 } in
      let there = passed first (p + length ring) (omega (arith, some.1)) in
      let far : ℕ = place first there.0 in
      let back : far - length ring + length ring ≡ far = omega (arith, there.1) in (
        record {
          place = far - length ring;
          is = sym (same_later (far - length ring)) ∙ ap (cell_of ring) back ∙ (one_at first there.0).is;
        },
        omega (arith, there.1),
        omega (arith, there.1, there.2),
      )
