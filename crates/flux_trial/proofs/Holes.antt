-- Which cells lie in a hole.
use Rattle.std.proofs.Common.{◌≡◌, ◌≤◌, ◌<◌, ◌⊎◌, ◌+◌, ◌-◌, ◌%◌, ℕ, false, All, nat_eq, nat_lt, ap, sym, ◌∙◌, arith, inl, inr}
use Rattle.std.specs.List.{range_with_len}
use Rattle.std.proofs.lemmas.Bool.{cases_lt, eq-eqb, ne_eqb, lt-ltb, le-ltb}
use Rattle.std.proofs.lemmas.List.Folds.{list_any_at, list_any_none}
use Rattle.std.proofs.lemmas.List.FromFn.{get_or-range_with_len, length-range_with_len}
use Rattle.std.proofs.Math.Nat.{add-mod_right, mod-eq_of_lt}
use Rattle.flux_trial.specs.declared.hole.Hole.{Hole}
use Rattle.flux_trial.specs.inside.Heads.{FitsRing, in_hole}

-- the ring's cell so many cells after another, at most a turn later
turned : (ring begin i : ℕ) → begin < ring → i ≤ ring
    → ((begin + i < ring) × ((begin + i) % ring ≡ begin + i)) ⊎ ((ring ≤ begin + i) × ((begin + i) % ring ≡ begin + i - ring))
turned ring begin i starts few =
    elim (cases_lt (begin + i) ring) [
      | inl below ↦ inl (below, mod-eq_of_lt below)
      | inr past ↦ (let rest : ℕ = begin + i - ring in
          let whole : rest + ring ≡ begin + i = omega (arith, past) in
          inr (past, ap (λ n. n % ring) (sym whole) ∙ add-mod_right rest ring ∙ mod-eq_of_lt (omega (arith, starts, few))))
    ]

module _ (hole : Hole) (fits : FitsRing hole) (cell offset : ℕ) (inside : cell < hole.ring)
    (is : ((cell < hole.begin) × (offset ≡ cell + hole.ring - hole.begin)) ⊎ ((hole.begin ≤ cell) × (offset ≡ cell - hole.begin))) where
  at : (i : ℕ) → i ≡ offset → (hole.begin + i) % hole.ring ≡ cell
  at i same = elim is [
    | inl before ↦ elim (turned hole.ring hole.begin i fits.begins (omega (arith, before.0, before.1, same, fits.begins))) [
      | inl below ↦ absurd (omega (arith, below.0, before.0, before.1, same))
      | inr past ↦ past.1 ∙ (omega (arith, before.0, before.1, same))
    ]
    | inr after ↦ elim (turned hole.ring hole.begin i fits.begins (omega (arith, after.0, after.1, same, inside))) [
      | inl below ↦ below.1 ∙ (omega (arith, after.0, after.1, same))
      | inr past ↦ absurd (omega (arith, past.0, after.0, after.1, same, inside))
    ]
  ]

  not_at : (i : ℕ) → i < hole.count → hole.count ≤ offset → nat_eq cell ((hole.begin + i) % hole.ring) ≡ false
  not_at i few late = ne_eqb cell ((hole.begin + i) % hole.ring) (λ same. elim (turned hole.ring hole.begin i fits.begins (omega (arith, few, fits.fits))) [
    | inl below ↦ (let e : cell ≡ hole.begin + i = same ∙ below.1 in elim is [
      | inl before ↦ absurd (omega (arith, e, before.0))
      | inr after ↦ absurd (omega (arith, e, after.0, after.1, few, late))
    ])
    | inr past ↦ (let e : cell ≡ hole.begin + i - hole.ring = same ∙ past.1 in elim is [
      | inl before ↦ absurd (omega (arith, e, before.0, before.1, past.0, few, late))
      | inr after ↦ absurd (omega (arith, e, after.0, past.0, few, fits.fits))
    ])
  ])

  -- of a range, each number below the end
  each : hole.count ≤ offset → All (λ i. nat_eq cell ((hole.begin + i) % hole.ring) ≡ false) (range_with_len 0 hole.count)
  each past = λ k d within.
      let below : k < hole.count = omega (arith, within, length-range_with_len 0 hole.count) in
      ap (λ i. nat_eq cell ((hole.begin + i) % hole.ring)) (get_or-range_with_len 0 hole.count k d below)
      ∙ not_at (0 + k) (omega (arith, below)) past

  pub contains : nat_lt offset hole.count ≡ in_hole hole cell
  contains = elim (cases_lt offset hole.count) [
    | inl within ↦ lt-ltb offset hole.count within
        ∙ sym (list_any_at (λ i. nat_eq cell ((hole.begin + i) % hole.ring)) (range_with_len 0 hole.count) offset 0
        (omega (arith, within, length-range_with_len 0 hole.count))
        (ap (λ i. nat_eq cell ((hole.begin + i) % hole.ring)) (get_or-range_with_len 0 hole.count offset 0 within)
        ∙ eq-eqb cell ((hole.begin + (0 + offset)) % hole.ring) (sym (at (0 + offset) (omega arith)))))
    | inr past ↦ le-ltb offset hole.count past
        ∙ sym (list_any_none (λ i. nat_eq cell ((hole.begin + i) % hole.ring)) (range_with_len 0 hole.count) (each past))
  ]
