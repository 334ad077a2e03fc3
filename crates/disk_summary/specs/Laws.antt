-- A summary is JSON.
use Rattle.std.specs.Prelude.{◌≡◌, ◌<◌, ◌^◌, All, List, Some}
use Rattle.flux_base.specs.declared.track.TrackId.{TrackId}
use Rattle.json.specs.Json.{document}
use Rattle.sector_report.specs.declared.dump_lines.Passed.{Passed}
use Rattle.sector_report.specs.declared.dump_lines.Passed.TheVariants.{Absent, Failed, Refused}
use Rattle.sector_report.specs.declared.dump_lines.Passed.TheVariants.{RefusedScp}
use Rattle.sector_report.specs.declared.totals.Totals.{Totals}
use Rattle.disk_summary.specs.Texts.{line_text}
use Rattle.disk_summary.specs.Values.{name_numbers, summary_value}
use Rattle.disk_summary.specs.declared.note.Note.{Note}
use Rattle.disk_summary.specs.declared.note.Note.TheVariants.{Other, Sector, Uneven, Unread, Untold}
use Rattle.disk_summary.specs.declared.summary.Summary.{Summary}

-- numbers that fit in 64 bits
abbrev pub TrackFits : TrackId → Type 0
TrackFits track = (track.cylinder < 2 ^ 64) × (track.head < 2 ^ 64)

abbrev pub ReasonFits : Passed → Type 0
ReasonFits Absent = Unit {0}
ReasonFits Failed = Unit {0}
ReasonFits (Refused block fault) = block < 2 ^ 64
ReasonFits (RefusedScp fault) = Unit {0}

abbrev pub NoteFits : Note → Type 0
NoteFits (Unread track dump why) = TrackFits track × (dump < 2 ^ 64) × ReasonFits why
NoteFits (Sector track sector kind) = TrackFits track × (sector < 2 ^ 64)
NoteFits (Other track told) =
    TrackFits track × All (λ n. n < 2 ^ 64) (name_numbers told.name) × (told.headers < 2 ^ 64)
    × (told.whole < 2 ^ 64)
NoteFits (Untold track) = TrackFits track
NoteFits (Uneven track dump ticks) = TrackFits track × (dump < 2 ^ 64) × (ticks < 2 ^ 64)

pub record SectorsFit (totals : Totals) : Type 0 where
  pub all_fit : totals.sectors < 2 ^ 64
  pub good_fit : totals.good < 2 ^ 64
  pub bad_fit : totals.bad < 2 ^ 64
  pub missing_fit : totals.missing < 2 ^ 64
  pub contradictory_fit : totals.contradictory < 2 ^ 64

pub record SummaryFits (s : Summary) : Type 0 where
  pub dumps_fit : s.dumps < 2 ^ 64
  pub sectors_fit : SectorsFit s.totals.sectors
  pub unread_fit : s.totals.unread < 2 ^ 64
  pub lost_fit : s.totals.lost < 2 ^ 64
  pub others_fit : s.totals.others < 2 ^ 64
  pub whole_fit : s.totals.whole < 2 ^ 64

-- the line of a summary parses to its value
abbrev pub SummariesParse : Type 0
SummariesParse = (s : Summary) (notes : List Note) → SummaryFits s → All NoteFits notes
    → document (line_text s notes) ≡ Some (summary_value s notes)
