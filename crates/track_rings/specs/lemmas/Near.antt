-- A ring's ones are near one another.
use Rattle.std.specs.Prelude.{◌≡◌, ◌<◌, ◌≤◌, ℕ, ◌+◌, ◌-◌, ◌*◌, ◌/◌, ◌%◌, Bool, true, false, List}
use Rattle.std.specs.Prelude.{length, filter, get_or, slice_index, refl}
use Rattle.std.specs.List.{range_with_len}
use Rattle.std.proofs.Common.{arith, ap, sym, subst, ◌∙◌, inl, inr}
use Rattle.std.proofs.lemmas.Bool.{cases_lt}
use Rattle.std.proofs.Math.Nat.{add-mod_right, add-mul-mod_self_left, div-add-mod, mod-eq_of_lt}
use Rattle.std.proofs.Math.Nat.{mod-lt}
use Rattle.track_rings.specs.Rings.{AreNeighbours, IsSpaced, cell_of}
use Rattle.track_rings.specs.lemmas.Chosen.{AreChosen, are_chosen}

module _ (ring : List Bool) where
  -- a turn later comes the same cell
  pub same_later : (place : ℕ) → cell_of ring (place + length ring) ≡ cell_of ring place
  same_later place = ap (λ (n : ℕ). get_or ring n false) (add-mod_right place (length ring))

  same_after : (place turns : ℕ) → cell_of ring (place + length ring * turns) ≡ cell_of ring place
  same_after place turns =
      ap (λ (n : ℕ). get_or ring n false) (add-mul-mod_self_left place (length ring) turns)

  -- the ring's own cells
  pub own_cell : (place : ℕ) → place < length ring → cell_of ring place ≡ get_or ring place false
  own_cell place within = ap (λ (n : ℕ). get_or ring n false) (mod-eq_of_lt within)

  -- a one of the turn from a place on
  one_of_turn : (w a : ℕ) → w < length ring → cell_of ring w ≡ true
      → (p : ℕ) × (a ≤ p) × (p < a + length ring) × (cell_of ring p ≡ true)
  one_of_turn w a within one =
      let n : ℕ = length ring in
      let turns : ℕ = a / n in
      let left : ℕ = a % n in
      let whole : n * turns + left ≡ a = div-add-mod a n in
      let under : left < n = mod-lt a {m = n} (omega (arith, within)) in
      let next : n * (turns + 1) ≡ n * turns + n = omega arith in
      elim (cases_lt w left) [
        | inl before ↦ (
          w + n * (turns + 1),
          omega (arith, whole, under, next, before),
          omega (arith, whole, next, before),
          same_after w (turns + 1) ∙ one,
        )
        | inr after ↦ (
          w + n * turns,
          omega (arith, whole, after),
          omega (arith, whole, within),
          same_after w turns ∙ one,
        )
      ]

  -- one among any four cells
  pub one_near : IsSpaced 1 4 ring → (a : ℕ)
      → (p : ℕ) × (a ≤ p) × (p < a + 4) × (cell_of ring p ≡ true)
  one_near spaced a =
      let n : ℕ = length ring in
      let before : List ℕ = filter (cell_of ring) (range_with_len a n) in
      let behind : List ℕ = filter (cell_of ring) (range_with_len (a + n) n) in
      let w = one_of_turn spaced.has_one.0 a spaced.has_one.1 spaced.has_one.2 in
      let first : AreChosen (cell_of ring) a (a + n) before = are_chosen (cell_of ring) a n in
      let second : AreChosen (cell_of ring) (a + n) (a + n + n) behind =
      are_chosen (cell_of ring) (a + n) n in
      let later : cell_of ring (w.0 + n) ≡ true = same_later w.0 ∙ w.3 in
      let some_before : 0 < length before = (first.first w.0 w.1 w.2 w.3).0 in
      let found = second.first (w.0 + n) (omega (arith, w.1)) (omega (arith, w.2)) later in
      let at : ℕ = length before - 1 in
      let p : ℕ = slice_index before at in
      let k : ℕ = slice_index behind 0 in
      let inside : at < length before = omega (arith, some_before) in
      let p_to : p < a + n = first.to at inside in
      let k_from : a + n ≤ k = second.from 0 found.0 in
      let gap : ℕ = k - p in
      let joined : p + gap ≡ k = omega (arith, p_to, k_from) in
      let zeros : (j : ℕ) → 0 < j → j < gap → cell_of ring (p + j) ≡ false = λ j some under.
      elim (cell_of ring (p + j)) as (λ c. cell_of ring (p + j) ≡ c → c ≡ false) [
        | true ↦ λ one. elim (cases_lt (p + j) (a + n)) [
          | inl early ↦
              (let low : p + j ≤ p =
              first.last (p + j) (let from = first.from at inside in omega (arith, from)) early
              one in
              absurd (omega (arith, low, some)))
          | inr late ↦
              (let high : k ≤ p + j =
              (second.first (p + j) late
              (let to = second.to 0 found.0 in omega (arith, to, under, joined)) one).1 in
              absurd (omega (arith, high, under, joined)))
        ]
        | false ↦ λ _. refl
      ] refl in
      let near : AreNeighbours ring p gap = record {
        first = first.passes at inside;
        next = subst (λ (m : ℕ). cell_of ring m ≡ true) (sym joined) (second.passes 0 found.0);
        behind = omega (arith, p_to, k_from);
        zeros = zeros;
      } in
      let close : gap ≤ 4 = (spaced.apart p gap near).1 in
      let one : ℕ = k - n in
      let back : one + n ≡ k = omega (arith, k_from) in (
        one,
        omega (arith, k_from),
        omega (arith, close, joined, p_to, back),
        sym (same_later one) ∙ ap (cell_of ring) back ∙ second.passes 0 found.0,
      )
