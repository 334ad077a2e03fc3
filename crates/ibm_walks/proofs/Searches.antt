-- A search that has come to a place.
use Rattle.std.proofs.Common.{◌<◌, ◌≤◌, ◌⊎◌, ℕ, ◌+◌, List, [], ◌∷◌, ◌++◌, Some, inl, inr, sym, subst, arith, append-nil, append_assoc}
use Rattle.std.proofs.lemmas.Bool.{cases_lt}
use Rattle.frame_law.specs.Controller.{AreFound, FirstAt}

module _ {X : Type 0} (At : ℕ → X → Type 0) where
  -- These were found before a place: with all that are found from it on they are all.
  pub record HasCome (found : List (ℕ × X)) (from : ℕ) : Type 0 where
    pub rest : (rest : List (ℕ × X)) → AreFound At from rest → AreFound At 0 (found ++ rest)

  pub come_start : HasCome [] 0
  come_start = record { rest = λ rest are. are }

  pub come_on : (found : List (ℕ × X)) (from place : ℕ) (x : X) → HasCome found from → FirstAt At from (Some (place, x)) → HasCome (found ++ (place, x) ∷ []) (place + 1)
  come_on found from place x come first = record {
    rest = λ rest are. subst (AreFound At 0) (sym (append_assoc found ((place, x) ∷ []) rest)) (come.rest ((place, x) ∷ rest) (first, are));
  }

  -- where nothing stands, nothing is found
  later : (from to : ℕ) → from ≤ to → ((place : ℕ) (x : X) → from ≤ place → place < to → At place x → ⊥) → (rest : List (ℕ × X)) → AreFound At to rest → AreFound At from rest
  later from to order none [] are = λ place x above stands. by place x above stands (cases_lt place to)
    where
      by : (place : ℕ) (x : X) → from ≤ place → At place x → (place < to) ⊎ (to ≤ place) → ⊥
      by place x above stands (inl short) = none place x above short stands
      by place x above stands (inr past) = are place x past stands
  later from to order none (f ∷ fs) are = (
    (let above = are.0.0 in omega (arith, order, above), are.0.1, λ place x above short stands. by place x above short stands (cases_lt place to)),
    are.1,
  )
    where
      by : (place : ℕ) (x : X) → from ≤ place → place < f.0 → At place x → (place < to) ⊎ (to ≤ place) → ⊥
      by place x above short stands (inl before) = none place x above before stands
      by place x above short stands (inr past) = are.0.2 place x past short stands

  pub come_past : (found : List (ℕ × X)) (from to : ℕ) → from ≤ to → HasCome found from → ((place : ℕ) (x : X) → from ≤ place → place < to → At place x → ⊥) → HasCome found to
  come_past found from to order come none = record { rest = λ rest are. come.rest rest (later from to order none rest are) }

  pub come_end : (found : List (ℕ × X)) (from : ℕ) → HasCome found from → ((place : ℕ) (x : X) → from ≤ place → At place x → ⊥) → AreFound At 0 found
  come_end found from come none = subst (AreFound At 0) (append-nil found) (come.rest [] none)
