-- The files, and which of them failed, decide the outcome of `imd`.
use Rattle.std.proofs.Common.{◌≡◌, ◌∙◌, ℕ, List, Option, Some, inl, inr, sym, ap, subst}
use Rattle.dump_reading.specs.Files.{ShelfNow}
use Rattle.imd_image.specs.Found.{TrackFound}
use Rattle.imd_image.specs.Outcomes.{DumpsAsked}
use Rattle.imd_image.specs.Reaches.{IsWithout}
use Rattle.law_imd_one.specs.Headline.{FoundFilesAreOne, NoFilesAreNotFound, RefusedDumpsAreOne}
use Rattle.track_shelf.specs.Files.{File}
use Rattle.flux_cli.proofs.ShelfEnded.{one-line}
use Rattle.flux_cli.specs.ImdLaw.{FailedAsFound}
use Rattle.flux_cli.specs.ImdRuns.{EmptyImd, ImdFound, IsOutcomeOfImd, IsToldWithout, imd_outcome}
use Rattle.flux_cli.specs.ShelfWork.{TellsEmpty, empty_outcome}
use Rattle.flux_cli.specs.Work.{Outcome}

module _ (one : FoundFilesAreOne) (apart : NoFilesAreNotFound) (first : RefusedDumpsAreOne) (asked : DumpsAsked) (files : List File) (start now start' now' : ShelfNow)
    (mine : start.told.files ≡ Some files) (others : start'.told.files ≡ Some files) where
  without : (begin end : ShelfNow) → begin.told.files ≡ Some files → (line : List ℕ) → (empty : EmptyImd asked begin end line) → IsWithout files asked.stepping asked.names empty.number
  without begin end told line empty = subst (λ (t : Option (List File)). IsToldWithout t asked empty.number) told empty.is

  tells : (begin end : ShelfNow) → begin.told.files ≡ Some files → (line : List ℕ) → (empty : EmptyImd asked begin end line) → TellsEmpty (Some files) asked.names empty.number line
  tells begin end told line empty = subst (λ (t : Option (List File)). TellsEmpty t asked.names empty.number line) told empty.tells

  pub one_outcome_of_imd : (a b : Outcome) (p : IsOutcomeOfImd asked start now a) (q : IsOutcomeOfImd asked start' now' b)
      → FailedAsFound asked start now start' now' a b p q → a ≡ b
  one_outcome_of_imd a b (inl (line, p, is)) (inl (other, q, is')) alike =
      let same : p.number ≡ q.number = first asked files p.number q.number (without start now mine line p) (without start' now' others other q) in
      is ∙ ap empty_outcome (one-line asked.names files p.number q.number line other same (tells start now mine line p) (tells start' now' others other q)) ∙ sym is'
  one_outcome_of_imd a b (inl (line, p, is)) (inr (found, is')) alike =
      absurd (apart asked files start' now' others found.reach found.founds found.all p.number (without start now mine line p))
  one_outcome_of_imd a b (inr (found, is)) (inl (line, q, is')) alike =
      absurd (apart asked files start now mine found.reach found.founds found.all q.number (without start' now' others line q))
  one_outcome_of_imd a b (inr (found, is)) (inr (other, is')) alike =
      is ∙ ap (imd_outcome asked) (one asked files start now start' now' mine others found.reach other.reach found.founds other.founds found.all other.all alike) ∙ sym is'
