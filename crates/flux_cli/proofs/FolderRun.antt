-- What `decode-folder` did by what `begin` answered.
use Rattle.std.proofs.Common.{◌≡◌, ℕ, List, Option, Some, None, Result, Ok, Err, refl, sym, subst}
use Rattle.flux_base.specs.declared.outside.Failed.{Failed}
use Rattle.flux_base.specs.declared.status.Status.{Status}
use Rattle.flux_base.specs.declared.status.Status.TheVariants.{AllGood, NotAllGood, Refused, Usage, ReadFault, ImageFault, NotesFault, Memory, ShelfFault}
use Rattle.sector_images.specs.declared.format.Format.{Format}
use Rattle.flux_cli.specs.FolderRuns.{Began, DecodesShelf, DidBy, DidFolder, RefusesMissing, over_shelf}
use Rattle.flux_engine.specs.Plans.{decoding}
use Rattle.flux_engine.specs.declared.plan.Plan.{Plan}
use Rattle.flux_cli.specs.PlanWork.{planned_work}
use Rattle.flux_cli.specs.Runs.{Does}
use Rattle.flux_cli.specs.World.{Outside, InputMoment}
use Rattle.flux_words.specs.declared.commands.Output.TheVariants.{ImageAndReport}
use Rattle.dump_reading.specs.Files.{ShelfNow}
use Rattle.kryo_stream.specs.Reads.{SourceMoment}
use Rattle.flux_cli.specs.BytesWork.{of_bytes}

-- a status that is no fault of the source is the shelf's too
pub other_status : (s : Status) → (s ≡ ReadFault → ⊥) → s ≡ over_shelf s
other_status AllGood other = refl
other_status NotAllGood other = refl
other_status Refused other = refl
other_status Usage other = refl
other_status ReadFault other = absurd (other refl)
other_status ImageFault other = refl
other_status NotesFault other = refl
other_status Memory other = refl
other_status ShelfFault other = refl

-- what was done by this plan in a room that was made for the format was done as `decode` does
pub decoded-so : {S W N : Type 0} (plan : Plan) (held format : Format) (status : Status) (before after : Outside S SourceMoment W N) → plan ≡ decoding → held ≡ format
    → Does (of_bytes (planned_work plan ImageAndReport held)) status before after → Does (of_bytes (planned_work decoding ImageAndReport format)) status before after
decoded-so plan held format status before after by of did =
    subst (λ (p : Plan). Does (of_bytes (planned_work p ImageAndReport format)) status before after) by
    (subst (λ (f : Format). Does (of_bytes (planned_work plan ImageAndReport f)) status before after) of did)

module _ {H W N : Type 0} (format : Format) (folder : List ℕ) (status : Status) (before after : Outside H ShelfNow W N) (answer : Result (Option ℕ) Failed) (shelf : InputMoment H ShelfNow)
    (began : Began folder format answer before.input shelf) where
  by_answer : (known : Result (Option ℕ) Failed) → answer ≡ known → DidBy format known status (record before { input = shelf }) after → DidFolder format folder status before after
  by_answer known is did = record {
    answer = answer;
    shelf = shelf;
    began = began;
    did = subst (λ (a : Result (Option ℕ) Failed). DidBy format a status (record before { input = shelf }) after) (sym is) did;
  }

  pub folder-decodes : answer ≡ Ok None → DecodesShelf format status (record before { input = shelf }) after → DidFolder format folder status before after
  folder-decodes is did = by_answer (Ok None) is did

  pub folder-lacks : (number : ℕ) → answer ≡ Ok (Some number) → RefusesMissing format number status (record before { input = shelf }) after
      → DidFolder format folder status before after
  folder-lacks number is did = by_answer (Ok (Some number)) is did

  pub folder-fails : (failed : Failed) → answer ≡ Err failed → status ≡ ShelfFault → after ≡ record before { input = shelf } → DidFolder format folder status before after
  folder-fails failed is status_is same = by_answer (Err failed) is (status_is, same)
