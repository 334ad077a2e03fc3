-- Repeated searches find all that stands at places, as one list.
use Rattle.std.specs.Prelude.{◌≡◌, ℕ, zero, suc, ◌+◌, ◌<◌, ◌≤◌, List, [], ◌∷◌, map, Contains, refl}
use Rattle.std.specs.List.Sorted.{IsStrictlyIncreasing}
use Rattle.std.proofs.Common.{ap, sym, subst, ◌∙◌, arith, inl, inr, ◌⊎◌}
use Rattle.std.proofs.lemmas.Bool.{cases_lt}
use Rattle.frame_law.specs.Controller.{AreAllAt, AreFound}
use Rattle.frame_law.specs.lemmas.Members.{contains_cases, contains_first, contains_later, rise_above, rise_behind}

module _ {X : Type 0} (At : ℕ → X → Type 0) (one : (place : ℕ) (x y : X) → At place x → At place y → x ≡ y) where
  abbrev Places : List (ℕ × X) → List ℕ
  Places found = map (λ f. f.0) found

  contains_place : (f : ℕ × X) (found : List (ℕ × X)) → Contains found f → Contains (Places found) f.0
  contains_place f [] has = absurd (omega (arith, has.1))
  contains_place f (g ∷ gs) has =
      elim (contains_cases g f gs has) [
        | inl same ↦ subst (λ (p : ℕ). Contains (g.0 ∷ Places gs) p) (ap (λ (h : ℕ × X). h.0) same) (contains_first g.0 (Places gs))
        | inr later ↦ contains_later g.0 f.0 (Places gs) (contains_place f gs later)
      ]

  -- what stands at one place is one thing
  same_pair : (f g : ℕ × X) → f.0 ≡ g.0 → At f.0 f.1 → At g.0 g.1 → f ≡ g
  same_pair f g same first second =
      let there : At g.0 f.1 = subst (λ (p : ℕ). At p f.1) same first in
      let what : f.1 ≡ g.1 = one g.0 f.1 g.1 there second in
      λ i. (same i, what i)

  pub found_one : (from : ℕ) (found others : List (ℕ × X)) → AreFound At from found → AreFound At from others → found ≡ others
  found_one from [] [] all other = refl
  found_one from [] (g ∷ gs) all other = absurd (all g.0 g.1 other.0.0 other.0.1)
  found_one from (f ∷ fs) [] all other = absurd (other f.0 f.1 all.0.0 all.0.1)
  found_one from (f ∷ fs) (g ∷ gs) all other =
      let place : f.0 ≡ g.0 = elim (cases_lt f.0 g.0) [
        | inl before ↦ absurd (other.0.2 f.0 f.1 all.0.0 before all.0.1)
        | inr not_before ↦ elim (cases_lt g.0 f.0) [
          | inl behind ↦ absurd (all.0.2 g.0 g.1 other.0.0 behind other.0.1)
          | inr not_behind ↦ omega (arith, not_before, not_behind)
        ]
      ] in
      let same = same_pair f g place all.0.1 other.0.1 in
      let rest = found_one (f.0 + 1) fs gs all.1 (subst (λ (n : ℕ). AreFound At (n + 1) gs) (sym place) other.1) in
      ap (λ (h : ℕ × X). h ∷ fs) same ∙ ap (λ (hs : List (ℕ × X)). g ∷ hs) rest

  rise : (from : ℕ) (found : List (ℕ × X)) → AreFound At from found → IsStrictlyIncreasing (Places found)
  rise from [] all k within = absurd (omega arith)
  rise from (f ∷ []) all k within = absurd (omega arith)
  rise from (f ∷ g ∷ rest) all zero within = omega (arith, all.1.0.0)
  rise from (f ∷ g ∷ rest) all (suc k) within =
      let e : suc k + 1 ≡ suc (k + 1) = omega arith in
      rw e (rise (f.0 + 1) (g ∷ rest) all.1 k (omega (arith, within)))

  there : (from : ℕ) (found : List (ℕ × X)) → AreFound At from found → (f : ℕ × X) → Contains found f → (from ≤ f.0) × At f.0 f.1
  there from [] all f has = absurd (omega (arith, has.1))
  there from (g ∷ gs) all f has =
      elim (contains_cases g f gs has) [
        | inl same ↦ subst (λ (h : ℕ × X). (from ≤ h.0) × At h.0 h.1) same (all.0.0, all.0.1)
        | inr later ↦ (let rest = there (g.0 + 1) gs all.1 f later in (omega (arith, all.0.0, rest.0), rest.1))
      ]

  is_found : (from : ℕ) (found : List (ℕ × X)) → AreFound At from found → (f : ℕ × X) → from ≤ f.0 → At f.0 f.1 → Contains found f
  is_found from [] all f least here = absurd (all f.0 f.1 least here)
  is_found from (g ∷ gs) all f least here =
      elim (cases_lt f.0 g.0) [
        | inl before ↦ absurd (all.0.2 f.0 f.1 least before here)
        | inr not_before ↦ elim (cases_lt g.0 f.0) [
          | inl behind ↦ contains_later g f gs (is_found (g.0 + 1) gs all.1 f (omega (arith, behind)) here)
          | inr not_behind ↦
              subst (Contains (g ∷ gs)) (same_pair g f (omega (arith, not_before, not_behind)) all.0.1 here) (contains_first g gs)
        ]
      ]

  pub found-all : (from : ℕ) (found : List (ℕ × X)) → AreFound At from found → AreAllAt At from found
  found-all from found all = record {
    rise = rise from found all;
    each = λ place x. (
      λ has. there from found all (let f : ℕ × X = (place, x) in f) has,
      λ here. is_found from found all (let f : ℕ × X = (place, x) in f) here.0 here.1,
    );
  }

  behind : (from : ℕ) (f : ℕ × X) (rest : List (ℕ × X)) → AreAllAt At from (f ∷ rest) → (g : ℕ × X) → Contains rest g → f.0 < g.0
  behind from f rest all g has = rise_above f.0 (Places rest) all.rise g.0 (contains_place g rest has)

  not_first : (from : ℕ) (f : ℕ × X) (rest : List (ℕ × X)) → AreAllAt At from (f ∷ rest) → (g : ℕ × X) → from ≤ g.0 → At g.0 g.1
      → (f ≡ g) ⊎ Contains rest g
  not_first from f rest all g least here = contains_cases f g rest ((all.each g.0 g.1).1 (least, here))

  rest_of : (from : ℕ) (f : ℕ × X) (rest : List (ℕ × X)) → AreAllAt At from (f ∷ rest) → AreAllAt At (f.0 + 1) rest
  rest_of from f rest all =
      let first = (all.each f.0 f.1).0 (contains_first f rest) in
      record {
        rise = rise_behind f.0 (Places rest) all.rise;
        each = λ place x. (
          λ has.
              let g : ℕ × X = (place, x) in
              let above = behind from f rest all g has in
              (omega (arith, above), ((all.each place x).0 (contains_later f g rest has)).1),
          λ here. elim (not_first from f rest all (let g : ℕ × X = (place, x) in g) (omega (arith, first.0, here.0)) here.1) [
            | inl same ↦ absurd (let e = ap (λ (h : ℕ × X). h.0) same in omega (arith, e, here.0))
            | inr later ↦ later
          ],
        );
      }

  pub all-found : (from : ℕ) (found : List (ℕ × X)) → AreAllAt At from found → AreFound At from found
  all-found from [] all = λ place x least here. (let has = (all.each place x).1 (least, here) in omega (arith, has.1))
  all-found from (f ∷ rest) all =
      let first = (all.each f.0 f.1).0 (contains_first f rest) in (
        (
          first.0,
          first.1,
          λ place x least before here. elim (not_first from f rest all (let g : ℕ × X = (place, x) in g) least here) [
            | inl same ↦ (let e = ap (λ (h : ℕ × X). h.0) same in omega (arith, e, before))
            | inr later ↦ (let above = behind from f rest all (let g : ℕ × X = (place, x) in g) later in omega (arith, above, before))
          ],
        ),
        all-found (f.0 + 1) rest (rest_of from f rest all),
      )
