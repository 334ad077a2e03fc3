-- What repeated searches find, and how far they have come.
use Rattle.std.specs.Prelude.{◌≡◌, ◌≤◌, ◌<◌, ℕ, ◌+◌, List, [], ◌∷◌, ◌++◌, flat_map, refl}
use Rattle.std.proofs.Common.{ap, append_assoc, append-nil, arith, inl, inr, subst, sym, ◌∙◌}
use Rattle.std.proofs.lemmas.Bool.{cases_lt}
use Rattle.std.proofs.lemmas.List.Concat.{flat_map-append}
use Rattle.frame_law.specs.Controller.{AreFound}
use Rattle.turn_merge.specs.Readings.{NotedReading}
use Rattle.sector_copies.specs.Notes.{SectorKnown, SectorStandsFor}
use Rattle.sector_copies.specs.inside.Notes.{AppendsNotes}

pub appends_none : (known : SectorKnown) → AppendsNotes known known []
appends_none known readings stands = subst (SectorStandsFor known) (sym (append-nil readings)) stands

pub appends_on : (old mid new : SectorKnown) (more others : List NotedReading) → AppendsNotes old mid more → AppendsNotes mid new others
    → AppendsNotes old new (more ++ others)
appends_on old mid new more others first second readings stands =
    subst (SectorStandsFor new) (append_assoc readings more others) (second (readings ++ more) (first readings stands))

module _ {X : Type 0} (At : ℕ → X → Type 0) (noted_of : ℕ × X → List NotedReading) where
  -- Of all that stands, what stands before a place was noted.
  pub record HasCome (all : List (ℕ × X)) (from : ℕ) (old new : SectorKnown) : Type 0 where
    pub before : List (ℕ × X)
    pub rest : List (ℕ × X)
    pub are : all ≡ before ++ rest
    pub found : AreFound At from rest
    pub noted : AppendsNotes old new (flat_map noted_of before)

  pub come_start : (all : List (ℕ × X)) (from : ℕ) (known : SectorKnown) → AreFound At from all → HasCome all from known known
  come_start all from known found = record { before = []; rest = all; are = refl; found = found; noted = appends_none known }

  -- the first that stands from a place on is the next of those that are left
  next_is : (from cell : ℕ) (x : X) → from ≤ cell → At cell x → ((place : ℕ) (y : X) → from ≤ place → place < cell → ¬ At place y)
      → (rest : List (ℕ × X)) → AreFound At from rest → (y : X) × (later : List (ℕ × X)) × (rest ≡ (cell, y) ∷ later) × At cell y × AreFound At (cell + 1) later
  next_is from cell x least here none [] found = absurd (found cell x least here)
  next_is from cell x least here none (f ∷ fs) found =
      let low : f.0 ≤ cell = elim (cases_lt cell f.0) [
        | inl beyond ↦ absurd (found.0.2 cell x least beyond here)
        | inr within ↦ within
      ] in
      let high : cell ≤ f.0 = elim (cases_lt f.0 cell) [
        | inl short ↦ absurd (none f.0 f.1 found.0.0 short found.0.1)
        | inr within ↦ within
      ] in
      let at : f.0 ≡ cell = omega (arith, low, high) in (
        f.1,
        fs,
        ap (λ (p : ℕ). let g : ℕ × X = (p, f.1) in g ∷ fs) at,
        subst (λ (p : ℕ). At p f.1) at found.0.1,
        subst (λ (p : ℕ). AreFound At (p + 1) fs) at found.1,
      )

  pub come_on : (all : List (ℕ × X)) (from cell : ℕ) (x : X) (old mid new : SectorKnown) → HasCome all from old mid
      → from ≤ cell → At cell x → ((place : ℕ) (y : X) → from ≤ place → place < cell → ¬ At place y)
      → ((y : X) → At cell y → AppendsNotes mid new (noted_of (cell, y))) → HasCome all (cell + 1) old new
  come_on all from cell x old mid new come least here none appends =
      let next = next_is from cell x least here none come.rest come.found in
      let this : ℕ × X = (cell, next.0) in
      record {
        before = come.before ++ this ∷ [];
        rest = next.1;
        are = come.are ∙ ap (λ (r : List (ℕ × X)). come.before ++ r) next.2 ∙ sym (append_assoc come.before (this ∷ []) next.1);
        found = next.4;
        noted = subst (AppendsNotes old new) (sym (flat_map-append noted_of come.before (this ∷ [])))
            (appends_on old mid new (flat_map noted_of come.before) (flat_map noted_of (this ∷ [])) come.noted
            (subst (AppendsNotes mid new) (sym (append-nil (noted_of this))) (appends next.0 next.3)));
      }

  pub come_end : (all : List (ℕ × X)) (from : ℕ) (old new : SectorKnown) → HasCome all from old new
      → ((place : ℕ) (y : X) → from ≤ place → ¬ At place y) → AppendsNotes old new (flat_map noted_of all)
  come_end all from old new come none =
      subst (λ (xs : List (ℕ × X)). AppendsNotes old new (flat_map noted_of xs)) (sym (come.are ∙ ap (λ (r : List (ℕ × X)). come.before ++ r) (nothing come.rest come.found) ∙ append-nil come.before)) come.noted
    where
      nothing : (rest : List (ℕ × X)) → AreFound At from rest → rest ≡ []
      nothing [] found = refl
      nothing (f ∷ fs) found = absurd (none f.0 f.1 found.0.0 found.0.1)
