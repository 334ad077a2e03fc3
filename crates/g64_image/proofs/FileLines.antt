-- The lines of a file's report: one for each sector and the total line, and what each tells.
use Rattle.std.specs.Prelude.{◌≡◌, ◌≤◌, ◌<◌, ◌^◌, ℕ, ◌+◌, ◌-◌, ◌*◌, ◌==◌, ◌++◌, Bool, true, false, List, [], ◌∷◌, drop, length, take, unwrap_or, if◌then◌else◌, Option, Some, None, refl}
use Rattle.std.proofs.Common.{ap, sym, subst, ◌∙◌, arith, length-append, length-drop, lit<}
use Rattle.std.proofs.lemmas.List.{length-take}
use Rattle.std.proofs.Math.Nat.{min-le_right}
use Rattle.disk_recordings.specs.Laws.{TracksAreRead}
use Rattle.disk_recordings.specs.Members.{header_at, sector_at}
use Rattle.flux_base.specs.declared.track.TrackId.{TrackId}
use Rattle.flux_engine.specs.DiskLaws.{HasLine, line_number, sectors_before, total_lines}
use Rattle.flux_engine.specs.Disks.{last_line, lines, part_at, totals_over}
use Rattle.flux_engine.specs.Recordings.{sectors_of, track_at}
use Rattle.flux_engine.specs.Tracks.{Found, TrackPart, lines_by, readings_at}
use Rattle.flux_engine.specs.lemmas.Each.{Each, each-flat}
use Rattle.flux_engine.specs.lemmas.LineNumbers.{sector-line}
use Rattle.flux_engine.specs.lemmas.ReportLines.{IsLineOf, ends_report, last_ends, line_count, line_of_sector}
use Rattle.flux_engine.specs.lemmas.VerdictBounds.{ReadingFits, at_place, one_few, readings_fit}
use Rattle.sector_images.specs.Formats.{row}
use Rattle.sector_images.specs.Places.{IsSector, IsTrack, NumbersNameTracks, TracksKeepBounds, tracks}
use Rattle.sector_images.specs.declared.format.Format.{Format}
use Rattle.sector_report.specs.LineLaws.{LineFits, SectorLinesTell, SectorsHaveOneLine, TotalsAreNoSectors, TotalsHaveOneLine, line_ends}
use Rattle.sector_report.specs.Lines.{sector_text}
use Rattle.sector_report.specs.declared.naming.Naming.TheVariants.{Unnamed}
use Rattle.turn_merge.specs.Readings.{NotedReading, verdict}
use Rattle.turn_merge.specs.declared.verdict.Verdict.{Verdict}
use Rattle.g64_image.specs.Faults.{MOST_BYTES, first_fault}
use Rattle.g64_image.specs.FileDisks.{AreReadingsTo, FileDisk, IsFileDisk, read_count, ring_place, ring_readings}
use Rattle.g64_image.specs.Laws.{FileReportsHaveNoOtherLines, HasFileVerdict, IsToldOfFile, LinesNameFileVerdicts, LinesTellInFiles}
use Rattle.g64_image.specs.Layout.{cells_of_bytes, length_at, offset_of, track_cells}
use Rattle.g64_image.specs.declared.fault.G64Fault.{G64Fault}
use Rattle.g64_image.proofs.Bytes.{length-cells_of_bytes}
use Rattle.g64_image.proofs.RingReadings.{one_list}
use Rattle.g64_image.proofs.Sound.{not_large}

-- what the crates below promise
pub record Laws : Type 0 where
  pub read : TracksAreRead
  pub one : SectorsHaveOneLine
  pub total_one : TotalsHaveOneLine
  pub tell : SectorLinesTell
  pub no_sector : TotalsAreNoSectors
  pub names : NumbersNameTracks
  pub keep : TracksKeepBounds

-- a track has no more cells than eight for each byte of the file
cells_if : (b : Bool) (file : List ℕ) (offset many : ℕ)
    → length (if b then [] else cells_of_bytes (take many (drop offset file))) ≤ 8 * length file
cells_if true file offset many = omega arith
cells_if false file offset many =
    let cells = length-cells_of_bytes (take many (drop offset file)) in
    let taken = length-take many (drop offset file) in
    let least = min-le_right many (length (drop offset file)) in
    let left = length-drop offset file in
    omega (arith, cells, taken, least, left)

cells_few : (file : List ℕ) (n : ℕ) → length (track_cells file n) ≤ 8 * length file
unfolding track_cells
cells_few file n = cells_if (offset_of file n == 0) file (offset_of file n + 2) (length_at file (offset_of file n))

-- there are no more readings than places below the end
found_few : (header : List Bool → ℕ → Type 0) (sector : List Bool → ℕ → List ℕ → Type 0) (cells : List Bool) (end from : ℕ) (found : List Found)
    → AreReadingsTo header sector cells end from found → length found ≤ end - from
found_few header sector cells end from [] all = omega arith
found_few header sector cells end from (f ∷ found) all =
    let least : from ≤ f.0 = all.0.0 in
    let below : f.0 < end = all.1 in
    omega (arith, least, below, found_few header sector cells end (f.0 + 1) found all.2)

found_inside : (header : List Bool → ℕ → Type 0) (sector : List Bool → ℕ → List ℕ → Type 0) (cells : List Bool) (end from : ℕ) (found : List Found)
    → AreReadingsTo header sector cells end from found → Each (λ (f : Found). f.0 < end) found
found_inside header sector cells end from [] all = tt
found_inside header sector cells end from (f ∷ found) all = (all.1, found_inside header sector cells end (f.0 + 1) found all.2)

readings_few : (found : List Found) → length (ring_readings found) ≤ length found
readings_few [] = omega arith
readings_few (f ∷ found) =
    let both = length-append (readings_at (ring_place f.0) f.1 f.2) (ring_readings found) in
    omega (arith, both, one_few (ring_place f.0) f.1 f.2, readings_few found)

read_few : (format : Format) (fault : Option G64Fault) → read_count format fault ≤ length (tracks format)
read_few format None = omega arith
read_few format (Some fault) = omega arith

none_where : (format : Format) (fault : Option G64Fault) (n : ℕ) → n < read_count format fault → fault ≡ None
none_where format None n low = refl
none_where format (Some fault) n low = absurd (omega (arith, low))

module _ (laws : Laws) (format : Format) (file : List ℕ) (o : FileDisk) (is : IsFileDisk format file o) where
  abbrev last : List ℕ
  last = last_line (totals_over is.parts) (first_fault format file)

  fault_is : o.stop ≡ first_fault format file
  fault_is = ap (λ (d : FileDisk). d.stop) is.is

  notes_are : o.notes ≡ lines is.parts ++ last
  notes_are = ap (λ (d : FileDisk). d.notes) is.is

  few : length is.parts ≤ length (tracks format)
  few = (let low = read_few format (first_fault format file) in omega (arith, low, is.many))

  abbrev part_readings : (n : ℕ) → n < length is.parts → List NotedReading
  part_readings n low = ring_readings (is.each n low).found

  part_lines : (n : ℕ) (low : n < length is.parts)
      → (part_at is.parts n).lines ≡ lines_by Unnamed (track_at format n) (sectors_of format (track_at format n)) (part_readings n low)
  part_lines n low = ap (λ (p : TrackPart). p.lines) (is.each n low).is

  count : line_ends o.notes ≡ sectors_before format (read_count format o.stop) + total_lines o.stop
  count =
      ap line_ends notes_are ∙ line_count laws.one laws.total_one format is.parts few Unnamed part_readings part_lines last
      ∙ ap (λ (n : ℕ). sectors_before format n + line_ends last) (is.many ∙ ap (read_count format) (sym fault_is))
      ∙ ap (λ (n : ℕ). sectors_before format (read_count format o.stop) + n) (last_ends laws.total_one (totals_over is.parts) (first_fault format file) ∙ ap total_lines (sym fault_is))

  named : (n sector : ℕ) (outcome : Verdict) → o.stop ≡ None → n < length (tracks format) → IsSector format (track_at format n) sector
      → HasFileVerdict format file n sector outcome → HasLine o.notes (sector_text (track_at format n) sector outcome) (line_number format n sector)
  named n sector outcome none known one has =
      let low : n < length is.parts = (let all = is.many ∙ ap (read_count format) (sym fault_is ∙ none) in omega (arith, all, known)) in
      let part = is.each n low in
      let same : part.found ≡ has.found =
      one_list (header_at format (track_at format n)) (sector_at format (track_at format n)) (row format).sector_size (laws.read.told format (track_at format n))
      (track_cells file n ++ track_cells file n) (length (track_cells file n)) 0 part.found has.found part.all has.all in
      subst (λ (v : Verdict). HasLine o.notes (sector_text (track_at format n) sector v) (line_number format n sector))
      (ap (λ (found : List Found). verdict (ring_readings found) sector) same ∙ has.is)
      (subst (λ (text : List ℕ). HasLine text (sector_text (track_at format n) sector (verdict (part_readings n low) sector)) (line_number format n sector)) (sym notes_are)
      (sector-line laws.one format is.parts few Unnamed part_readings part_lines last n low sector one))

  own : (n : ℕ) (low : n < length is.parts) (s : ℕ) → IsSector format (track_at format n) s
      → LineFits Unnamed (track_at format n) s (verdict (part_readings n low) s)
  own n low s known =
      let named = laws.names format n (omega (arith, low, few)) in
      let track_is : track_at format n ≡ named.0 = ap (λ (found : Option TrackId). unwrap_or found (record { cylinder = 0; head = 0 })) named.1 in
      let bounds = laws.keep format (track_at format n) (subst (IsTrack format) (sym track_is) named.2) in
      let part = is.each n low in
      let small : length file ≤ MOST_BYTES = not_large format file (none_where format (first_fault format file) n (omega (arith, low, is.many))) in
      let cells = cells_few file n in
      let header = header_at format (track_at format n) in
      let sector = sector_at format (track_at format n) in
      let twice : List Bool = track_cells file n ++ track_cells file n in
      let count = found_few header sector twice (length (track_cells file n)) 0 part.found part.all in
      let end : length (track_cells file n) < 2 ^ 64 = (let most : 33554432 < 2 ^ 64 = lit< tt in omega (arith, cells, small, most)) in
      record {
        cylinder_fits = bounds.cylinder;
        head_fits = omega (arith, bounds.head);
        sector_fits = omega (arith, known.1, bounds.numbers);
        verdict_fits =
            readings_fit Unnamed 33554432 (lit< tt) (ring_readings part.found) s (omega (arith, readings_few part.found, count, cells, small))
            (each-flat (λ (f : Found). readings_at (ring_place f.0) f.1 f.2) (λ (f : Found). f.0 < length (track_cells file n)) (ReadingFits Unnamed)
            (λ f below. at_place Unnamed (ring_place f.0) f.1 f.2 (lit< tt, omega (arith, below, end), (refl, refl)))
            part.found (found_inside header sector twice (length (track_cells file n)) 0 part.found part.all));
      }

  module _ (track : TrackId) (sector : ℕ) (outcome : Verdict) (number : ℕ) (fits : LineFits Unnamed track sector outcome)
      (h : HasLine o.notes (sector_text track sector outcome) number) where
    line : IsLineOf format (length is.parts) part_readings track sector outcome number
    line =
        line_of_sector laws.one laws.total_one format is.parts few Unnamed part_readings part_lines last (ends_report (totals_over is.parts) (first_fault format file))
        laws.tell laws.no_sector own track sector outcome number fits
        (subst (λ (text : List ℕ). HasLine text (sector_text track sector outcome) number) notes_are h)

    told : IsToldOfFile format file o track sector outcome number
    told =
        let part = is.each line.n line.low in
        record {
          no_fault = fault_is ∙ none_where format (first_fault format file) line.n (omega (arith, line.low, is.many));
          n = line.n;
          low = omega (arith, line.low, few);
          track_is = line.track_is;
          known = line.known;
          has = record { found = part.found; all = part.all; is = line.outcome_is };
          number_is = line.number_is;
        }

pub reports_have_no_other_lines : Laws → FileReportsHaveNoOtherLines
reports_have_no_other_lines laws format file o is = count laws format file o is

pub lines_name_verdicts : Laws → LinesNameFileVerdicts
lines_name_verdicts laws format file o n sector outcome is none known one has = named laws format file o is n sector outcome none known one has

pub lines_tell : Laws → LinesTellInFiles
lines_tell laws format file o is track sector outcome number fits h = told laws format file o is track sector outcome number fits h
