-- A sector's line and the total line as lines of a text, and what a sector's line tells.
use Rattle.std.specs.Prelude.{◌≡◌, ◌≢◌, ◌==◌, ◌<◌, ◌^◌, ℕ, ◌++◌, List, [], ◌∷◌, count_by}
use Rattle.flux_base.specs.declared.track.TrackId.{TrackId}
use Rattle.turn_merge.specs.declared.clock.Clock.TheVariants.{Following}
use Rattle.turn_merge.specs.declared.verdict.Place.{Place}
use Rattle.turn_merge.specs.declared.verdict.Verdict.{Verdict}
use Rattle.turn_merge.specs.declared.verdict.Verdict.TheVariants.{Good, Contradictory, Bad, Missing}
use Rattle.sector_report.specs.Lines.{named_text, total_text}
use Rattle.sector_report.specs.declared.naming.Naming.{Naming}
use Rattle.sector_report.specs.declared.naming.Naming.TheVariants.{ByCapture, ByCaptureAndClock}
use Rattle.sector_report.specs.declared.naming.Naming.TheVariants.{ByClock, Unnamed}
use Rattle.sector_report.specs.declared.totals.Totals.{Totals}

-- how many line ends, bytes 0A, a text has
abbrev pub line_ends : List ℕ → ℕ
line_ends text = count_by (λ byte. byte == 10) text

-- the text is one line: its last byte is a line end, and it has no other
pub record IsOneLine (text : List ℕ) : Type 0 where
  pub front : List ℕ
  pub ends : text ≡ front ++ 10 ∷ []
  pub once : line_ends front ≡ 0

-- each sector has one line, whatever its verdict, and whatever is named of the sources
abbrev pub SectorsHaveOneLine : Type 0
SectorsHaveOneLine = (naming : Naming) (track : TrackId) (sector : ℕ) (verdict : Verdict)
    → IsOneLine (named_text naming track sector verdict)

-- so has the total line
abbrev pub TotalsHaveOneLine : Type 0
TotalsHaveOneLine = (totals : Totals) → IsOneLine (total_text totals)

-- The part of a place's source that a line names fits in 64 bits. What it does not name is the one
-- stream of a track, and the clock that follows the drive.
abbrev pub SourceFits : Naming → Place → Type 0
SourceFits Unnamed place = (place.capture ≡ 0) × (place.clock ≡ Following)
SourceFits ByCapture place = (place.capture < 2 ^ 64) × (place.clock ≡ Following)
SourceFits ByClock place = place.capture ≡ 0
SourceFits ByCaptureAndClock place = place.capture < 2 ^ 64

-- so do all numbers of a place and of a verdict
abbrev pub PlaceFits : Naming → Place → Type 0
PlaceFits naming place = (place.turn < 2 ^ 64) × (place.cell < 2 ^ 64) × SourceFits naming place

abbrev pub VerdictFits : Naming → Verdict → Type 0
VerdictFits naming (Good good bad first) = (good < 2 ^ 64) × (bad < 2 ^ 64) × PlaceFits naming first
VerdictFits naming (Contradictory good bad first other) =
    (good < 2 ^ 64) × (bad < 2 ^ 64) × PlaceFits naming first × PlaceFits naming other
VerdictFits naming (Bad bad first) = (bad < 2 ^ 64) × PlaceFits naming first
VerdictFits naming Missing = Unit {0}

-- the cylinder has two digits at most, all other numbers of a sector's line fit in 64 bits, and no
-- more of a source wants a name
pub record LineFits (naming : Naming) (track : TrackId) (sector : ℕ)
    (verdict : Verdict) : Type 0 where
  pub cylinder_fits : track.cylinder < 100
  pub head_fits : track.head < 2 ^ 64
  pub sector_fits : sector < 2 ^ 64
  pub verdict_fits : VerdictFits naming verdict

-- a sector's line tells its track, its sector and its verdict, with the places and the sources that
-- it names: no two have the same line
abbrev pub SectorLinesTell : Type 0
SectorLinesTell =
    (naming : Naming) (track track' : TrackId) (sector sector' : ℕ) (verdict verdict' : Verdict)
    → LineFits naming track sector verdict → LineFits naming track' sector' verdict'
    → named_text naming track sector verdict ≡ named_text naming track' sector' verdict'
    → (track ≡ track') × (sector ≡ sector') × (verdict ≡ verdict')

-- no sector's line is a total line
abbrev pub TotalsAreNoSectors : Type 0
TotalsAreNoSectors =
    (naming : Naming) (totals : Totals) (track : TrackId) (sector : ℕ) (verdict : Verdict)
    → LineFits naming track sector verdict
    → named_text naming track sector verdict ≢ total_text totals
