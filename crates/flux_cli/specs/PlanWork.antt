-- The work of a command over a disk's streams: in which way they are read, and what of it is given.
-- `decode`, `report`, `map`, `decode-set` and `rescue` are its cases.
use Rattle.std.specs.Prelude.{◌≡◌, ◌==◌, ◌⊎◌, ℕ, ◌+◌, ◌*◌, ◌++◌, List, [], length, Option, Some}
use Rattle.std.specs.Prelude.{None, if◌then◌else◌}
use Rattle.disk_map.specs.Answers.{StoppedInPicture}
use Rattle.disk_map.specs.Maps.{drawn_by, picture_of}
use Rattle.disk_map.specs.Texts.{top_text}
use Rattle.flux_base.specs.declared.status.Status.{Status}
use Rattle.flux_base.specs.declared.status.Status.TheVariants.{AllGood, NotAllGood, Refused}
use Rattle.flux_base.specs.declared.status.Status.TheVariants.{ReadFault, ImageFault, NotesFault}
use Rattle.flux_engine.specs.Answers.{AppendsAndPart, IsTakenBehind}
use Rattle.flux_engine.specs.PlanAnswers.{CutOfPlan}
use Rattle.flux_engine.specs.declared.track_part.PartFault.{PartFault}
use Rattle.flux_engine.specs.declared.track_part.PartFault.TheVariants.{ImageFault as PartImageFault}
use Rattle.flux_engine.specs.declared.track_part.PartFault.TheVariants.{NotesFault as PartNotesFault}
use Rattle.flux_engine.specs.Plans.{EndsInPlan, IsFirstFault, IsPlanned, PartOf, Planned}
use Rattle.flux_engine.specs.declared.fault.RefusedCapture.{RefusedCapture}
use Rattle.flux_engine.specs.Plans.{streams_in}
use Rattle.flux_engine.specs.Tracks.{part_by}
use Rattle.flux_engine.specs.declared.plan.Plan.{Plan}
use Rattle.kryo_stream.specs.declared.fault.StreamFault.TheVariants.{Truncated}
use Rattle.sector_images.specs.Places.{tracks}
use Rattle.sector_images.specs.declared.format.Format.{Format}
use Rattle.sector_report.specs.Lines.{refused_capture_text, refused_text}
use Rattle.sector_report.specs.declared.naming.Naming.{Naming}
use Rattle.sector_report.specs.declared.naming.Naming.TheVariants.{ByCapture, ByCaptureAndClock}
use Rattle.sector_report.specs.declared.naming.Naming.TheVariants.{ByClock, Unnamed}
use Rattle.sector_report.specs.declared.totals.Totals.{Totals}
use Rattle.flux_cli.specs.TurnsWork.{MOST_AT_ONCE}
use Rattle.flux_cli.specs.BytesWork.{BytesWork}
use Rattle.flux_cli.specs.Work.{Outcome, Growth, Got, GotNothing, ends_in_memory}
use Rattle.flux_words.specs.declared.commands.Output.{Output}
use Rattle.flux_words.specs.declared.commands.Output.TheVariants.{ImageAndReport, ReportAlone}
use Rattle.flux_words.specs.declared.commands.Output.TheVariants.{Picture}

-- whether every sector is good
abbrev pub status_of : Totals → Status
status_of totals = if totals.good == totals.sectors then AllGood else NotAllGood

-- or a fault refuses the input
abbrev pub status_by : {A : Type 0} → Totals → Option A → Status
status_by totals None = status_of totals
status_by totals (Some fault) = Refused

-- why the disk is refused: with the capture where lines name captures
abbrev pub stop_text : Naming → RefusedCapture → List ℕ
stop_text Unnamed stop = refused_text stop.track stop.block stop.fault
stop_text ByClock stop = refused_text stop.track stop.block stop.fault
stop_text ByCapture stop = refused_capture_text stop.track stop.capture stop.block stop.fault
stop_text ByCaptureAndClock stop =
    refused_capture_text stop.track stop.capture stop.block stop.fault

-- if it is
abbrev pub planned_refusal : Naming → Option RefusedCapture → List ℕ
planned_refusal naming None = []
planned_refusal naming (Some stop) = stop_text naming stop

-- what becomes of a track: its part of the image and its lines, or its fields in a picture
abbrev pub part_shown : Output → Naming → PartOf
part_shown ImageAndReport naming = part_by naming
part_shown ReportAlone naming = part_by naming
part_shown Picture naming = drawn_by naming

-- what of a disk goes to the sink of the image: the image; or the
-- report in its place, or the picture
abbrev pub to_image : Output → Format → Planned → List ℕ
to_image ImageAndReport format d = d.image
to_image ReportAlone format d = d.notes
to_image Picture format d = picture_of format d

-- what of it stands there where the source fails: of a picture all but its foot
abbrev pub to_image_cut : Output → Format → Planned → List ℕ
to_image_cut ImageAndReport format d = d.image
to_image_cut ReportAlone format d = d.notes
to_image_cut Picture format d = top_text format ++ d.image

-- what of it goes to the sink of the notes, where the refusal stands after it
abbrev pub to_notes : Output → Planned → List ℕ
to_notes ImageAndReport d = d.notes
to_notes ReportAlone d = []
to_notes Picture d = []

abbrev pub planned_outcome : Output → Naming → Format → Planned → Outcome
planned_outcome output naming format d = record {
  status = status_by d.totals d.stop;
  image = to_image output format d;
  notes = to_notes output d ++ planned_refusal naming d.stop;
}

-- what the streams of an input come to by the plan
abbrev pub IsRead : Plan → Output → Format → (x : List ℕ) → Planned → Type 0
IsRead plan output format x d =
    IsPlanned plan (part_shown output plan.naming) format (streams_in plan x) d

-- the wanted streams are taken to their End, and a little after the last
abbrev pub planned_leaves : Plan → Format → Status → (x later : List ℕ) → Type 0
planned_leaves plan format AllGood x later =
    IsTakenBehind x later (length (tracks format) * plan.captures) 4096
planned_leaves plan format NotAllGood x later =
    IsTakenBehind x later (length (tracks format) * plan.captures) 4096
planned_leaves plan format Refused x later =
    (stop : RefusedCapture) × IsFirstFault plan format (streams_in plan x) stop
    × IsTakenBehind x later (stop.track * plan.captures + stop.capture) MOST_AT_ONCE
planned_leaves plan format _ x later = ⊥

-- the source failed inside a stream: all was written that the bytes taken come
-- to, and they end inside a block
pub record CutInReading (plan : Plan) (output : Output) (format : Format) (taken : List ℕ)
    (image notes : Growth) : Type 0 where
  pub decoded : Planned
  pub is : IsRead plan output format taken decoded
  pub image_got : Got image (to_image_cut output format decoded)
  pub notes_got : Got notes (to_notes output decoded)
  pub stop : RefusedCapture
  pub stops : decoded.stop ≡ Some stop
  pub cut_short : stop.fault ≡ Truncated

-- all was written of a refused disk but the line that says why: of it
-- a part that is shorter than it
pub record CutInRefusal (plan : Plan) (output : Output) (format : Format) (x later : List ℕ)
    (image notes : Growth) : Type 0 where
  pub decoded : Planned
  pub is : IsRead plan output format x decoded
  pub stop : RefusedCapture
  pub stops : decoded.stop ≡ Some stop
  pub image_got : Got image (to_image output format decoded)
  pub notes_got : AppendsAndPart notes.before notes.after (to_notes output decoded)
      (stop_text plan.naming stop)
  pub taken : IsTakenBehind x later (stop.track * plan.captures + stop.capture) MOST_AT_ONCE

-- A sink cut the image and the report, where both are asked for; where the report stands alone, or
-- the picture, the sink of the image gets it, and that of the notes nothing.
abbrev pub CutByOutput : PartFault → Plan → Output → Format → (x later : List ℕ)
    → (image notes : Growth) → Type 0
CutByOutput cause plan ImageAndReport format x later image notes =
    CutOfPlan cause plan (part_by plan.naming) format x later image.before image.after notes.before
    notes.after
CutByOutput PartImageFault plan ReportAlone format x later image notes =
    CutOfPlan PartNotesFault plan (part_by plan.naming) format x later None None image.before
    image.after
    × GotNothing notes
CutByOutput PartImageFault plan Picture format x later image notes =
    StoppedInPicture plan format x later image.before image.after × GotNothing notes
CutByOutput PartNotesFault plan _ format x later image notes = ⊥

abbrev pub planned_cut : Plan → Output → Format → Status → (taken later : List ℕ)
    → (image notes : Growth) → Type 0
planned_cut plan output format ReadFault taken later image notes =
    CutInReading plan output format taken image notes
planned_cut plan output format ImageFault taken later image notes =
    CutByOutput PartImageFault plan output format (taken ++ later) later image notes
planned_cut plan output format NotesFault taken later image notes =
    CutByOutput PartNotesFault plan output format (taken ++ later) later image notes
    ⊎ CutInRefusal plan output format (taken ++ later) later image notes
planned_cut plan output format _ taken later image notes = ⊥

abbrev pub planned_work : Plan → Output → Format → BytesWork
planned_work plan output format = record {
  ends = ends_in_memory;
  gives = λ x o.
      (d : Planned) × IsRead plan output format x d
      × (o ≡ planned_outcome output plan.naming format d);
  untold = EndsInPlan plan format;
  leaves = planned_leaves plan format;
  cut = planned_cut plan output format;
}
