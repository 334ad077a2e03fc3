-- The words and the input decide the outcome.
use Rattle.std.proofs.Common.{◌≡◌, ℕ, List, [], Option, Some, None, sym, ap, ◌∙◌, subst}
use Rattle.std.specs.Prelude.{length, sum}
use Rattle.flux_base.specs.declared.status.Status.TheVariants.{AllGood}
use Rattle.flux_engine.specs.PlanLaws.{OnePlanned}
use Rattle.flux_engine.specs.Plans.{Planned, decoding, streams_in}
use Rattle.flux_engine.specs.Tracks.{part_by}
use Rattle.flux_engine.specs.declared.plan.Plan.{Plan}
use Rattle.flux_trial.specs.Tracks.{IsTrialLine, trial_input}
use Rattle.g64_image.specs.Laws.{OneFileDisk}
use Rattle.sector_images.specs.Places.{tracks}
use Rattle.sector_images.specs.declared.format.Format.{Format}
use Rattle.sector_report.specs.Lines.{trial_text}
use Rattle.flux_words.specs.Asked.{Asked, the_turns, some_streams, a_folder, some_dumps, a_sector, an_identity, told_files, an_imd_file, an_archive, written_streams, written_files, split_streams, unpacked_file, a_trial, a_g64_file, an_image_of_g64, a_page}
use Rattle.flux_words.specs.CommandWords.{AskFor, AskOnce}
use Rattle.flux_words.specs.G64Disks.{format_of}
use Rattle.flux_cli.proofs.AskedWords.{asked_is}
use Rattle.flux_cli.specs.G64Work.{from_g64_outcome}
use Rattle.flux_cli.specs.PlanWork.{part_shown, planned_outcome, planned_work}
use Rattle.flux_cli.specs.Work.{Outcome}
use Rattle.flux_cli.specs.Works.{GivesOf, IsOutcome, plan_of, row_for, row_of}
use Rattle.flux_words.specs.declared.commands.Output.{Output}
use Rattle.sector_report.specs.declared.naming.Naming.TheVariants.{Unnamed}

-- a trial has one line
one_line : OnePlanned → (format : Format) (seed : ℕ) (a b : List ℕ) → IsTrialLine format seed a → IsTrialLine format seed b → a ≡ b
one_line one format seed a b first second =
    first.line_is
    ∙ ap (λ (d : Planned). trial_text format seed (length (tracks format)) d.totals (sum d.image))
    (one decoding (part_by Unnamed) format (streams_in decoding (trial_input format seed)) first.decoded second.decoded first.is second.is)
    ∙ sym second.line_is

module _ (once : AskOnce) (one_file : OneFileDisk) (one_plan : OnePlanned) where
  one_of_plan : (plan : Plan) (output : Output) (format : Format) (x : List ℕ) (a b : Outcome) → (planned_work plan output format).gives x a → (planned_work plan output format).gives x b → a ≡ b
  one_of_plan plan output format x a b first second =
      first.2 ∙ ap (planned_outcome output plan.naming format) (one_plan plan (part_shown output plan.naming) format (streams_in plan x) first.0 second.0 first.1 second.1) ∙ sym second.2

  one_of : (asked : Asked) (x : List ℕ) (a b : Outcome) → GivesOf (row_of asked) x a → GivesOf (row_of asked) x b → a ≡ b
  one_of the_turns x a b first second = first ∙ sym second
  one_of (some_streams asked) x a b first second = one_of_plan (plan_of asked.way) asked.output asked.format x a b first second
  one_of (a_folder format folder) x a b first second = absurd first
  one_of (some_dumps asked) x a b first second = absurd first
  one_of (a_sector asked) x a b first second = absurd first
  one_of (an_identity dump) x a b first second = absurd first
  one_of (told_files dump) x a b first second = absurd first
  one_of (an_imd_file asked) x a b first second = absurd first
  one_of (an_archive asked) x a b first second = absurd first
  one_of (written_streams format) x a b first second = first ∙ sym second
  one_of (written_files format folder) x a b first second = absurd first
  one_of (split_streams folder heads) x a b first second = absurd first
  one_of (unpacked_file file folder) x a b first second = absurd first
  one_of (a_trial format seed) x a b first second =
      first.2 ∙ ap (λ (line : List ℕ). record { status = AllGood; image = line; notes = [] }) (one_line one_plan format seed first.0 second.0 first.1 second.1) ∙ sym second.2
  one_of (a_g64_file disk) x a b first second = first ∙ sym second
  one_of (an_image_of_g64 disk) x a b first second =
      first.2 ∙ ap from_g64_outcome (one_file (format_of disk) x first.0 second.0 first.1 second.1) ∙ sym second.2
  one_of (a_page page) x a b first second = first ∙ sym second

  pub one_outcome : (words : List (List ℕ)) (x : List ℕ) (a b : Outcome) → IsOutcome words x a → IsOutcome words x b → a ≡ b
  one_outcome words x a b first second = by first.0 second.0 first.1 second.1 first.2 second.2
    where
      by : (asked other : Option Asked) → AskFor words asked → AskFor words other → GivesOf (row_for words asked) x a → GivesOf (row_for words other) x b → a ≡ b
      by None None none none' gives gives' = gives ∙ sym gives'
      by None (Some other) none are gives gives' = absurd (none other are)
      by (Some asked) other are asks gives gives' =
          one_of asked x a b gives
          (subst (λ (o : Option Asked). GivesOf (row_for words o) x b) (asked_is once words asked other are asks) gives')
