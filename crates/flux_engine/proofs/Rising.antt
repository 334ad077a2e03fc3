-- Lists of things by rising place.
use Rattle.std.specs.Prelude.{◌≡◌, ℕ, ◌+◌, ◌<◌, Contains, List, [], ◌∷◌, ◌++◌, length, map, slice_index, refl}
use Rattle.std.specs.List.Sorted.{IsStrictlyIncreasing}
use Rattle.std.proofs.Common.{ap, sym, subst, ◌∙◌, arith, inl, inr}
use Rattle.std.proofs.Math.Seq.{get_or-append_seam}
use Rattle.std.proofs.lemmas.Bool.{cases_lt}
use Rattle.frame_law.specs.lemmas.Members.{contains_cases, contains_first, contains_later, rise_above, rise_behind}
use Rattle.std.proofs.lemmas.List.{get_or_append_left, get_or_default, length_push}

pub rise_push : (xs : List ℕ) (y : ℕ) → IsStrictlyIncreasing xs → ((x : ℕ) → Contains xs x → x < y) → IsStrictlyIncreasing (xs ++ y ∷ [])
rise_push xs y rise above k within =
    elim (cases_lt (k + 1) (length xs)) [
      | inl inside ↦
          let here : slice_index (xs ++ y ∷ []) k ≡ slice_index xs k = get_or_append_left xs (y ∷ []) 0 k (omega (arith, inside)) in
          let next : slice_index (xs ++ y ∷ []) (k + 1) ≡ slice_index xs (k + 1) = get_or_append_left xs (y ∷ []) 0 (k + 1) inside in
          omega (arith, here, next, rise k inside)
      | inr outside ↦
          let size = length_push xs y in
          let last : length xs ≡ k + 1 = omega (arith, size, within, outside) in
          let here : slice_index (xs ++ y ∷ []) k ≡ slice_index xs k = get_or_append_left xs (y ∷ []) 0 k (omega (arith, last)) in
          let next : slice_index (xs ++ y ∷ []) (k + 1) ≡ y = ap (slice_index (xs ++ y ∷ [])) (sym last) ∙ get_or-append_seam xs y [] 0 in
          let has : Contains xs (slice_index xs k) = (k, omega (arith, last), get_or_default xs k (slice_index xs k) 0 (omega (arith, last))) in
          let below = above (slice_index xs k) has in
          omega (arith, here, next, below)
    ]

module _ {X : Type 0} where
  abbrev pub Places : List (ℕ × X) → List ℕ
  Places xs = map (λ f. f.0) xs

  pub has_place : (f : ℕ × X) (xs : List (ℕ × X)) → Contains xs f → Contains (Places xs) f.0
  has_place f [] has = absurd (omega (arith, has.1))
  has_place f (g ∷ gs) has =
      elim (contains_cases g f gs has) [
        | inl same ↦ subst (λ (h : ℕ × X). Contains (g.0 ∷ Places gs) h.0) same (contains_first g.0 (Places gs))
        | inr later ↦ contains_later g.0 f.0 (Places gs) (has_place f gs later)
      ]

  pub place_has : (place : ℕ) (xs : List (ℕ × X)) → Contains (Places xs) place → (x : X) × Contains xs (place, x)
  place_has place [] has = absurd (omega (arith, has.1))
  place_has place (g ∷ gs) has =
      elim (contains_cases g.0 place (Places gs) has) [
        | inl same ↦ (g.1, subst (λ (p : ℕ). Contains (g ∷ gs) (let f : ℕ × X = (p, g.1) in f)) same (contains_first g gs))
        | inr later ↦ (let rest = place_has place gs later in (rest.0, contains_later g (let f : ℕ × X = (place, rest.0) in f) gs rest.1))
      ]

  above_first : (f : ℕ × X) (fs : List (ℕ × X)) → IsStrictlyIncreasing (Places (f ∷ fs)) → (g : ℕ × X) → Contains fs g → f.0 < g.0
  above_first f fs rise g has = rise_above f.0 (Places fs) rise g.0 (has_place g fs has)

  -- lists by rising place with the same members are one
  pub same_members : (xs ys : List (ℕ × X)) → IsStrictlyIncreasing (Places xs) → IsStrictlyIncreasing (Places ys)
      → ((f : ℕ × X) → Contains xs f → Contains ys f) → ((f : ℕ × X) → Contains ys f → Contains xs f) → xs ≡ ys
  same_members [] [] up down to back = refl
  same_members [] (g ∷ gs) up down to back = absurd (let has = back g (contains_first g gs) in omega (arith, has.1))
  same_members (f ∷ fs) [] up down to back = absurd (let has = to f (contains_first f fs) in omega (arith, has.1))
  same_members (f ∷ fs) (g ∷ gs) up down to back =
      let one : f ≡ g = elim (contains_cases g f gs (to f (contains_first f fs))) [
        | inl same ↦ sym same
        | inr f_later ↦ elim (contains_cases f g fs (back g (contains_first g gs))) [
          | inl same ↦ same
          | inr g_later ↦
              let first = above_first g gs down f f_later in
              let second = above_first f fs up g g_later in
              absurd (omega (arith, first, second))
        ]
      ] in
      let rest : fs ≡ gs = same_members fs gs (rise_behind f.0 (Places fs) up) (rise_behind g.0 (Places gs) down)
      (λ h has. elim (contains_cases g h gs (to h (contains_later f h fs has))) [
        | inl same ↦ absurd (let up_to = above_first f fs up h has in let at = ap (λ (k : ℕ × X). k.0) (one ∙ same) in omega (arith, up_to, at))
        | inr later ↦ later
      ])
      (λ h has. elim (contains_cases f h fs (back h (contains_later g h gs has))) [
        | inl same ↦ absurd (let up_to = above_first g gs down h has in let at = ap (λ (k : ℕ × X). k.0) (sym one ∙ same) in omega (arith, up_to, at))
        | inr later ↦ later
      ]) in
      ap (λ (h : ℕ × X). h ∷ fs) one ∙ ap (λ (hs : List (ℕ × X)). g ∷ hs) rest
