-- From what the row of a command over bytes says of an outcome to what is known of it.
use Rattle.std.specs.Prelude.{◌≡◌, ◌==◌, ◌≤◌, ℕ, ◌++◌, Bool, true, false, List, [], if◌then◌else◌, Option, Some, None, refl}
use Rattle.std.proofs.Common.{ap, arith, inl, inr, sym, subst, ◌∙◌, append-nil}
use Rattle.std.proofs.lemmas.Bool.{eq-eqb}
use Rattle.flux_base.specs.declared.status.Status.TheVariants.{AllGood, NotAllGood}
use Rattle.flux_engine.specs.declared.fault.RefusedCapture.{RefusedCapture}
use Rattle.flux_engine.specs.Plans.{IsPlanned, Planned, streams_in}
use Rattle.flux_engine.specs.Tracks.{part_by}
use Rattle.flux_engine.specs.declared.plan.Plan.{Plan}
use Rattle.flux_engine.specs.declared.plan.Rule.TheVariants.{Strict}
use Rattle.flux_trial.specs.Laws.{WholeTrialsHaveOneLine}
use Rattle.flux_trial.specs.Tracks.{IsTrialLine}
use Rattle.g64_image.specs.FileDisks.{FileDisk, IsFileDisk}
use Rattle.g64_image.specs.Laws.{GoodIsRightInFiles, LinesTellInFiles, WrittenFilesComeBack}
use Rattle.g64_image.specs.Layout.{IsCommodore}
use Rattle.g64_image.specs.declared.fault.G64Fault.{G64Fault}
use Rattle.law_captured_plans.specs.Headline.{CapturedPlansAreNeverWrong, CapturedPlansAreRead, ErasedPlansAreRead, ErasedPlansStandInOnePiece}
use Rattle.law_captured_plans.specs.Said.{AreRightLines, GoodLinesAreRight, InputsAreShort, TellsSources}
use Rattle.law_written_dumps.specs.Headline.{WrittenDumpsAreReadWell, WrittenFilesCapture}
use Rattle.sector_images.specs.declared.format.Format.{Format}
use Rattle.sector_report.specs.declared.totals.Totals.{Totals}
use Rattle.stream_files.specs.Joined.{FilesAreJoined}
use Rattle.turn_merge.specs.declared.verdict.Verdict.TheVariants.{Good}
use Rattle.flux_words.specs.CommandWords.{AskOnce}
use Rattle.flux_words.specs.G64Disks.{format_of}
use Rattle.flux_cli.specs.AskedDisks.{IsFew}
use Rattle.flux_cli.specs.G64Work.{file_refusal, from_g64_outcome}
use Rattle.flux_cli.specs.Headlines.{AreRightInFile, IsOfFile, IsOfPlanned, OfFile, OfStreams, OfTrial, WasRead}
use Rattle.flux_cli.specs.PlanWork.{planned_outcome, planned_refusal, status_by, status_of, to_notes}
use Rattle.flux_cli.specs.Work.{Outcome}
use Rattle.flux_cli.specs.Works.{plan_of}
use Rattle.flux_words.specs.declared.commands.Way.{Way}
use Rattle.flux_words.specs.declared.commands.Way.TheVariants.{Once, Often, ByBothClocks}
use Rattle.flux_words.specs.declared.commands.Output.{Output}
use Rattle.flux_words.specs.declared.g64_disk.G64Disk.{G64Disk}
use Rattle.flux_words.specs.declared.g64_disk.G64Disk.TheVariants.{Tracks35, Tracks40}

-- what the crates below promise
pub record Laws : Type 0 where
  pub once : AskOnce
  pub captured : CapturedPlansAreRead
  pub never_wrong : CapturedPlansAreNeverWrong
  pub erased : ErasedPlansAreRead
  pub one_piece : ErasedPlansStandInOnePiece
  pub files : WrittenFilesComeBack
  pub short : InputsAreShort
  pub plan_lines : GoodLinesAreRight
  pub file_lines : LinesTellInFiles
  pub file_good : GoodIsRightInFiles
  pub trials : WholeTrialsHaveOneLine
  pub written : WrittenFilesCapture
  pub written_read : WrittenDumpsAreReadWell
  pub joined : FilesAreJoined

-- what a disk's status is that was not refused
read_by : (b : Bool) → WasRead (if b then AllGood else NotAllGood)
read_by true = tt
read_by false = tt

good_by : (totals : Totals) → totals.good ≡ totals.sectors → status_of totals ≡ AllGood
good_by totals all = ap (λ (b : Bool). if b then AllGood else NotAllGood) (eq-eqb totals.good totals.sectors all)

some_count : {X : Type 0} (a b : X) → Some a ≡ Some b → a ≡ b
some_count a b same = cc

-- what was read was not refused
none_stopped : {A : Type 0} (totals : Totals) (stop : Option A) → WasRead (status_by totals stop) → stop ≡ None
none_stopped totals None read = refl
none_stopped totals (Some stop) read = absurd read

module _ (output : Output) (plan : Plan) (format : Format) (d : Planned) (o : Outcome) (is : o ≡ planned_outcome output plan.naming format d) (none : d.stop ≡ None) where
  planned_status_is : o.status ≡ status_of d.totals
  planned_status_is = ap (λ (p : Outcome). p.status) is ∙ ap (status_by d.totals) none

  planned_read : WasRead o.status
  planned_read = subst WasRead (sym planned_status_is) (read_by (d.totals.good == d.totals.sectors))

  of_planned : (Holds : Planned → Type 0) → Holds d → IsOfPlanned output format Holds o
  of_planned Holds holds = record {
    planned = d;
    image_is = ap (λ (p : Outcome). p.image) is;
    notes_are =
        ap (λ (p : Outcome). p.notes) is ∙ ap (λ (s : Option RefusedCapture). to_notes output d ++ planned_refusal plan.naming s) none ∙ append-nil (to_notes output d);
    holds = holds;
  }

module _ (d : FileDisk) (o : Outcome) (is : o ≡ from_g64_outcome d) (none : d.stop ≡ None) where
  file_status_is : o.status ≡ status_of d.totals
  file_status_is = ap (λ (p : Outcome). p.status) is ∙ ap (status_by d.totals) none

  of_file : (Holds : FileDisk → Type 0) → Holds d → IsOfFile Holds o
  of_file Holds holds = record {
    disk = d;
    image_is = ap (λ (p : Outcome). p.image) is;
    notes_are = ap (λ (p : Outcome). p.notes) is ∙ ap (λ (f : Option G64Fault). d.notes ++ file_refusal f) none ∙ append-nil d.notes;
    holds = holds;
  }

is_commodore : (disk : G64Disk) → IsCommodore (format_of disk)
is_commodore Tracks35 = inl refl
is_commodore Tracks40 = inr refl

-- what the words keep to that ask for a plan
pub record IsAsked (plan : Plan) : Type 0 where
  pub some : 1 ≤ plan.captures
  pub most : plan.captures ≤ 16
  pub strict : plan.rule ≡ Strict
  pub tells : TellsSources plan.naming plan.captures plan.clocks

pub way_asked : (way : Way) → IsFew way → IsAsked (plan_of way)
way_asked Once few = record { some = omega arith; most = omega arith; strict = refl; tells = (omega arith, refl) }
way_asked (Often count) few = record { some = few.some; most = few.most; strict = refl; tells = refl }
way_asked ByBothClocks few = record { some = omega arith; most = omega arith; strict = refl; tells = omega arith }

module _ (laws : Laws) (x : List ℕ) (o : Outcome) where
  pub of_streams : (plan : Plan) (output : Output) (format : Format) → IsAsked plan → (d : Planned) → IsPlanned plan (part_by plan.naming) format (streams_in plan x) d
      → o ≡ planned_outcome output plan.naming format d → OfStreams plan output format x o
  of_streams plan output format asked d read is = record {
    told = λ was.
        let none : d.stop ≡ None = none_stopped d.totals d.stop (subst (λ (p : Outcome). WasRead p.status) is was) in
        of_planned output plan format d o is none (AreRightLines plan format (streams_in plan x))
        (laws.plan_lines plan format (streams_in plan x) d asked.most asked.strict asked.tells (laws.short plan x) read);
    captured = λ image image_is set steady.
        let whole = laws.captured plan format image x d asked.some image_is set steady read in
        (planned_status_is output plan format d o is whole.no_stop ∙ good_by d.totals whole.all_good, of_planned output plan format d o is whole.no_stop _ whole);
    never_wrong = λ image image_is set.
        let rightly = laws.never_wrong plan format image x d asked.some image_is set read in
        (planned_read output plan format d o is rightly.no_stop, of_planned output plan format d o is rightly.no_stop _ rightly);
    erased = λ image image_is set steady.
        let rest = laws.erased plan format image x d image_is set steady read in
        (planned_read output plan format d o is rest.no_stop, of_planned output plan format d o is rest.no_stop _ rest);
    one_piece = λ image image_is set. laws.one_piece plan format image x image_is set;
  }

  pub of_g64 : (disk : G64Disk) (d : FileDisk) → IsFileDisk (format_of disk) x d → o ≡ from_g64_outcome d → OfFile (format_of disk) x o
  of_g64 disk d file is = record {
    told = λ read.
        let none : d.stop ≡ None = none_stopped d.totals d.stop (subst (λ (p : Outcome). WasRead p.status) is read) in
        of_file d o is none (AreRightInFile (format_of disk) x)
        (λ track sector good bad first number fits line.
        let told = laws.file_lines (format_of disk) x d file track sector (Good good bad first) number fits line in
        (told.n, told.track_is, laws.file_good (format_of disk) x d told.n sector good bad first file told.no_fault told.low told.known told.has));
    written = λ image image_is written.
        let back = laws.files (format_of disk) image d (is_commodore disk) image_is (subst (λ (y : List ℕ). IsFileDisk (format_of disk) y d) written file) in
        (file_status_is d o is back.no_fault ∙ good_by d.totals back.all_good, of_file d o is back.no_fault _ back);
  }

  pub of_trial : (format : Format) (seed : ℕ) (line : List ℕ) → IsTrialLine format seed line → o ≡ record { status = AllGood; image = line; notes = [] } → OfTrial format seed o
  of_trial format seed line trial is no_hole =
      is ∙ ap (λ (text : List ℕ). record { status = AllGood; image = text; notes = [] }) (laws.trials format seed line no_hole trial)
