-- What the lines of a report of dumps tell.
use Rattle.std.specs.Prelude.{◌≡◌, ◌≤◌, ◌<◌, ◌⊎◌, ℕ, List, [], get_or, length, Some}
use Rattle.std.proofs.Common.{ap, sym, subst, ◌∙◌, arith, inl, inr}
use Rattle.dump_reading.specs.Outcomes.{DumpDisk, DumpsRead, IsDumpsRead, plan_of}
use Rattle.dump_reading.specs.Reports.{trace_count}
use Rattle.flux_base.specs.declared.track.TrackId.{TrackId}
use Rattle.flux_engine.specs.DiskLaws.{HasLine}
use Rattle.flux_engine.specs.PlanLaws.{ReadingsInPlansAreOne}
use Rattle.flux_engine.specs.Plans.{AreCaptures, Streams, joined}
use Rattle.flux_engine.specs.Recordings.{track_at}
use Rattle.flux_engine.specs.lemmas.TrackAt.{is_known_at}
use Rattle.law_captured_disks.specs.Headline.{IsSectorOf}
use Rattle.law_read_dumps.specs.Lines.{IsLineOfReport, IsPassedLine, IsSectorLine, IsTrackLine, LinesAreKnown, LookedAt, format_tracks, line_number, other_tracks}
use Rattle.law_captured_plans.specs.Said.{IsSaid, IsToldBy}
use Rattle.law_read_dumps.specs.Said.{StreamsAreOfFiles, as_planned, came_in}
use Rattle.sector_images.specs.Places.{tracks}
use Rattle.sector_report.specs.DumpLines.{PassedLineFits, PassedLinesTell, passed_text}
use Rattle.sector_report.specs.LineLaws.{LineFits, SectorLinesTell, TotalsAreNoSectors}
use Rattle.sector_report.specs.Lines.{named_text}
use Rattle.sector_report.specs.declared.dump_lines.Passed.{Passed}
use Rattle.sector_report.specs.declared.dump_lines.Passed.TheVariants.{Absent}
use Rattle.sector_report.specs.declared.naming.Naming.TheVariants.{ByCaptureAndClock}
use Rattle.track_shelf.specs.Files.{File}
use Rattle.turn_merge.specs.Others.{others_over}
use Rattle.turn_merge.specs.Readings.{NotedReading, verdict}
use Rattle.turn_merge.specs.declared.verdict.Verdict.{Verdict}
use Rattle.law_reported_dumps.specs.Told.{IsPassedTold, LinesTell, NoSectorIsToldTwice, PassedLinesAreTold}
use Rattle.law_reported_dumps.proofs.Bounds.{line_fits, short_came, Laws as BoundLaws}
use Rattle.law_reported_dumps.proofs.BesideTracks.{IsSmall, beside_small}
use Rattle.law_reported_dumps.proofs.OtherLines.{absent_same, end_no_passed, end_no_sector, failed_is_failed, missing_is_missing, other_no_passed, other_no_sector, passed_no_sector, sector_no_passed, total_no_passed, traces_no_passed, traces_no_sector, unread_no_passed, unread_no_sector, untold_no_passed, untold_no_sector}
use Rattle.law_reported_dumps.proofs.TrackNumbers.{one_number, Laws as TrackLaws}

-- what the crates below promise
pub record Laws : Type 0 where
  pub known : LinesAreKnown
  pub of_files : StreamsAreOfFiles
  pub tell : SectorLinesTell
  pub no_total : TotalsAreNoSectors
  pub passed_tell : PassedLinesTell
  pub readings : ReadingsInPlansAreOne
  pub bounds : BoundLaws
  pub tracks : TrackLaws

module _ (laws : Laws) (disk : DumpDisk) (files : List File) (o : DumpsRead) (is : IsDumpsRead disk (Some files) o) where
  abbrev came : Streams
  came = came_in is

  abbrev SectorTold : TrackId → (sector : ℕ) → Verdict → (number : ℕ) → Type 0
  SectorTold track sector outcome number =
      IsToldBy (plan_of disk) disk.format came (as_planned o) (line_number disk came is.others) track sector outcome number

  -- the line of a sector
  module _ (most : length disk.dumps ≤ 16) (track : TrackId) (sector : ℕ) (outcome : Verdict) (number : ℕ) (fits : LineFits ByCaptureAndClock track sector outcome) where
    of_sector : IsSectorLine disk came o is.others number (named_text ByCaptureAndClock track sector outcome) → SectorTold track sector outcome number
    of_sector s =
        let mine : Verdict = verdict (joined s.said.captures) s.sector in
        let fits_there : LineFits ByCaptureAndClock (track_at disk.format s.n) s.sector mine =
        line_fits laws.bounds disk came most s.n (short_came laws.bounds disk came files (laws.of_files disk files o is) s.n s.one.track) s.said.captures s.said.many s.said.each
        s.sector s.one.track s.one.known in
        let told = laws.tell ByCaptureAndClock track (track_at disk.format s.n) sector s.sector outcome mine fits fits_there s.line_is in
        (subst (λ (k : ℕ). (one : IsSectorOf disk.format s.n k) (said : IsSaid (plan_of disk) disk.format came (as_planned o) s.n k (line_number disk came is.others s.n k)) → verdict (joined said.captures) k ≡ outcome
        → number ≡ line_number disk came is.others s.n k → SectorTold track sector outcome number) told.1
        (λ one said verdict_is number_is. record { n = s.n; track_is = told.0; low = one.track; known = one.known; said = said; is = verdict_is; number_is = number_is }))
        s.one s.said (sym told.2) s.number_is

    -- a line of a track beside those of its sectors is none
    not_of_track : (at : LookedAt) → IsTrackLine disk at (named_text ByCaptureAndClock track sector outcome) → ⊥
    not_of_track at (inl p) = passed_no_sector (at.track_of p.n) p.dump p.why ByCaptureAndClock track sector outcome fits p.line_is
    not_of_track at (inr (inl other)) = other_no_sector ByCaptureAndClock (at.track_of other.n) other.name ByCaptureAndClock track sector outcome fits other.line_is
    not_of_track at (inr (inr (inl untold))) = untold_no_sector (at.track_of untold.n) ByCaptureAndClock track sector outcome fits untold.line_is
    not_of_track at (inr (inr (inr traces))) =
        traces_no_sector (at.track_of traces.n) (trace_count (others_over (get_or at.others traces.n []))) ByCaptureAndClock track sector outcome fits traces.line_is

    told_by : IsLineOfReport disk came o is.others (other_tracks is) number (named_text ByCaptureAndClock track sector outcome)
        → SectorTold track sector outcome number
    told_by (inl s) = of_sector s
    told_by (inr (inl line)) = absurd (not_of_track (format_tracks is) line)
    told_by (inr (inr (inl line))) = absurd (not_of_track (other_tracks is) line)
    told_by (inr (inr (inr (inl unread)))) = absurd (unread_no_sector o.totals.unread o.totals.others o.totals.whole ByCaptureAndClock track sector outcome fits unread)
    told_by (inr (inr (inr (inr total)))) = absurd (laws.no_total ByCaptureAndClock o.totals.sectors track sector outcome fits total)

    told : HasLine o.notes (named_text ByCaptureAndClock track sector outcome) number → SectorTold track sector outcome number
    told h =
        elim (laws.known disk (Some files) o is number (named_text ByCaptureAndClock track sector outcome) h) [
          | inl line ↦ told_by line
          | inr (empty, past) ↦ absurd (end_no_sector ByCaptureAndClock track sector outcome fits empty)
        ]

  -- two lines of one sector are one
  module _ (track : TrackId) (sector : ℕ) (outcome other : Verdict) (number another : ℕ)
      (first : SectorTold track sector outcome number) (second : SectorTold track sector other another) where
    same_track : first.n ≡ second.n
    same_track = one_number laws.tracks disk.format first.n second.n first.low second.low (sym first.track_is ∙ second.track_is)

    same_readings : first.said.captures ≡ second.said.captures
    same_readings =
        laws.readings (plan_of disk) disk.format came second.n first.said.captures second.said.captures
        (subst (λ (n : ℕ). AreCaptures (plan_of disk) disk.format came n first.said.captures) same_track first.said.each) second.said.each
        (first.said.many ∙ sym second.said.many)

    once : (outcome ≡ other) × (number ≡ another)
    once = (
      sym first.is ∙ ap (λ (cs : List (List NotedReading)). verdict (joined cs) sector) same_readings ∙ second.is,
      first.number_is ∙ ap (λ (n : ℕ). line_number disk came is.others n sector) same_track ∙ sym second.number_is,
    )

  -- the line of a stream that is passed over, of tracks whose numbers fit in it
  module _ (most : length disk.dumps ≤ 16) (track : TrackId) (dump : ℕ) (why : Passed) (number : ℕ) (fits : PassedLineFits track dump why) where
    of_stream : (at : LookedAt) → ((n : ℕ) → n < at.many → IsSmall (at.track_of n)) → IsPassedLine disk at (passed_text track dump why) → IsPassedTold disk at track dump why
    of_stream at small p =
        let bounds = small p.n p.low in
        let told = laws.passed_tell track (at.track_of p.n) dump p.dump Absent Absent
        (record { cylinder_fits = fits.cylinder_fits; head_fits = fits.head_fits; dump_fits = fits.dump_fits; why_fits = tt })
        (record { cylinder_fits = bounds.0; head_fits = bounds.1; dump_fits = omega (arith, p.few, most); why_fits = tt })
        (absent_same track (at.track_of p.n) dump p.dump why p.why p.line_is) in
        record {
          n = p.n;
          low = p.low;
          track_is = told.0;
          few = subst (λ (q : ℕ). q < length disk.dumps) (sym told.1) p.few;
          reason = p.why;
          is = subst (λ (q : ℕ). at.passed p.n q ≡ Some p.why) (sym told.1) p.is;
          text =
              ap (λ (id : TrackId). passed_text id dump p.why) told.0
              ∙ ap (λ (q : ℕ). passed_text (at.track_of p.n) q p.why) told.1 ∙ sym p.line_is;
          missing = λ absent. missing_is_missing (at.track_of p.n) p.dump p.why track dump (sym p.line_is ∙ ap (passed_text track dump) absent);
          failed = λ failed. failed_is_failed (at.track_of p.n) p.dump p.why track dump (sym p.line_is ∙ ap (passed_text track dump) failed);
        }

    of_track : (at : LookedAt) → ((n : ℕ) → n < at.many → IsSmall (at.track_of n)) → IsTrackLine disk at (passed_text track dump why) → IsPassedTold disk at track dump why
    of_track at small (inl p) = of_stream at small p
    of_track at small (inr (inl other)) = absurd (other_no_passed ByCaptureAndClock (at.track_of other.n) other.name track dump why other.line_is)
    of_track at small (inr (inr (inl untold))) = absurd (untold_no_passed (at.track_of untold.n) track dump why untold.line_is)
    of_track at small (inr (inr (inr traces))) =
        absurd (traces_no_passed (at.track_of traces.n) (trace_count (others_over (get_or at.others traces.n []))) track dump why traces.line_is)

    format_small : (n : ℕ) → n < length (tracks disk.format) → IsSmall (track_at disk.format n)
    format_small n low =
        let named = laws.bounds.numbers disk.format n low in
        let bounds = laws.bounds.keep disk.format (track_at disk.format n) (is_known_at disk.format n named.0 named.1 named.2) in
        (omega (arith, bounds.cylinder), omega (arith, bounds.head))

    abbrev Told : Type 0
    Told = IsPassedTold disk (format_tracks is) track dump why ⊎ IsPassedTold disk (other_tracks is) track dump why

    stream_by : IsLineOfReport disk came o is.others (other_tracks is) number (passed_text track dump why) → Told
    stream_by (inl s) =
        absurd (sector_no_passed ByCaptureAndClock (track_at disk.format s.n) s.sector (verdict (joined s.said.captures) s.sector) track dump why s.line_is)
    stream_by (inr (inl line)) = inl (of_track (format_tracks is) format_small line)
    stream_by (inr (inr (inl line))) = inr (of_track (other_tracks is) (λ n low. beside_small disk.stepping disk.format n (omega (arith, low, is.beside.are.few))) line)
    stream_by (inr (inr (inr (inl unread)))) = absurd (unread_no_passed o.totals.unread o.totals.others o.totals.whole track dump why unread)
    stream_by (inr (inr (inr (inr total)))) = absurd (total_no_passed o.totals.sectors track dump why total)

    stream_told : HasLine o.notes (passed_text track dump why) number → Told
    stream_told h =
        elim (laws.known disk (Some files) o is number (passed_text track dump why) h) [
          | inl line ↦ stream_by line
          | inr (empty, past) ↦ absurd (end_no_passed track dump why empty)
        ]

pub lines_tell : Laws → LinesTell
lines_tell laws disk files o is most track sector outcome number fits h = told laws disk files o is most track sector outcome number fits h

pub no_sector_is_told_twice : Laws → NoSectorIsToldTwice
no_sector_is_told_twice laws disk files o is most track sector outcome other number another fits fits' h h' =
    once laws disk files o is track sector outcome other number another (told laws disk files o is most track sector outcome number fits h)
    (told laws disk files o is most track sector other another fits' h')

pub passed_lines_are_told : Laws → PassedLinesAreTold
passed_lines_are_told laws disk files o is most track dump why number fits h = stream_told laws disk files o is most track dump why number fits h
