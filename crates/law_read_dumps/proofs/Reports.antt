-- A report of dumps as a whole: what each of its lines is, and how many there are.
use Rattle.std.specs.Prelude.{◌≡◌, ◌≤◌, ◌<◌, ◌⊎◌, ℕ, zero, suc, ◌+◌, ◌-◌, List, [], ◌∷◌, ◌++◌, length, slice_get, Option, None, Some, refl}
use Rattle.std.proofs.Common.{ap, sym, subst, ◌∙◌, arith, append-nil, append_assoc, inl, inr}
use Rattle.std.proofs.Math.Seq.{take-length}
use Rattle.std.proofs.lemmas.Bool.{cases_lt}
use Rattle.dump_reading.specs.Beside.{beside_at, beside_lines}
use Rattle.dump_reading.specs.Outcomes.{DumpDisk, DumpsRead, IsDumpsRead, lines_of, numbers_of}
use Rattle.dump_reading.specs.Reports.{end_text}
use Rattle.dump_reading.specs.declared.totals.DumpTotals.{DumpTotals}
use Rattle.flux_engine.specs.DiskLaws.{HasLine, lines_in}
use Rattle.flux_engine.specs.Disks.{lines}
use Rattle.flux_engine.specs.PlanLaws.{ReadingsInPlansAreOne}
use Rattle.flux_engine.specs.Plans.{joined}
use Rattle.flux_engine.specs.Recordings.{track_at}
use Rattle.flux_engine.specs.Tracks.{TrackPart}
use Rattle.flux_engine.specs.lemmas.LineNumbers.{Skips, skips-append}
use Rattle.flux_engine.specs.lemmas.ReadLaws.{some_same}
use Rattle.law_captured_disks.specs.Headline.{IsSectorOf}
use Rattle.sector_report.specs.DumpLines.{passed_text, unread_text}
use Rattle.sector_report.specs.LineLaws.{TotalsHaveOneLine, line_ends}
use Rattle.sector_report.specs.Lines.{named_text, total_text}
use Rattle.sector_report.specs.declared.dump_lines.Passed.{Passed}
use Rattle.sector_report.specs.declared.naming.Naming.TheVariants.{ByCaptureAndClock}
use Rattle.track_shelf.specs.Files.{File}
use Rattle.turn_merge.specs.Readings.{NotedReading, verdict}
use Rattle.law_read_dumps.specs.Lines.{EachIsSaid, HasNoOtherLines, IsEndLine, IsLineOfReport, IsSectorLine, IsTrackLine, LinesAreKnown, OtherFilesAreSaid, PassedStreamsAreSaid, ReportsHaveNoOtherLines, line_number, other_tracks, traced_count}
use Rattle.law_read_dumps.specs.Said.{came_in}
use Rattle.law_read_dumps.proofs.BesideLines.{beside_tell, count_before, file_line}
use Rattle.law_read_dumps.proofs.Counts.{all_lines_counted}
use Rattle.law_read_dumps.proofs.Lines.{Tells, has_line, tells-append, tells-line, tells-map}
use Rattle.law_read_dumps.proofs.ReportLines.{IsOnDisk, OnDisk, first_line, front_tells, lines_before, sector_line, stream_has_line, Laws as LineLaws}
use Rattle.law_read_dumps.proofs.Streams.{captures_are}

-- what the crates below promise, and the law before
pub record Laws : Type 0 where
  pub lines : LineLaws
  pub total_one : TotalsHaveOneLine
  pub readings : ReadingsInPlansAreOne
  pub said : EachIsSaid

none_some : {X : Type 0} {a : X} → None ≡ Some a → ⊥
none_some e = cc

-- what stands behind the last line end is empty
past-all : (m : ℕ) (front : List ℕ) → slice_get (lines_in []) m ≡ Some front → front ≡ []
past-all zero front is = sym (some_same [] front is)
past-all (suc m) front is = absurd (none_some is)

module _ (laws : Laws) (disk : DumpDisk) (shelf : Option (List File)) (o : DumpsRead) (is : IsDumpsRead disk shelf o) where
  abbrev totals : DumpTotals
  totals = numbers_of is.streams is.parts is.others is.beside.came is.beside.others

  abbrev Here : ℕ → List ℕ → Type 0
  Here number line =
      OnDisk laws.lines disk shelf o is number line ⊎ IsTrackLine disk (other_tracks is) line ⊎ IsEndLine totals line

  -- how many lines the tracks have
  abbrev all : ℕ
  all = lines_before laws.lines disk shelf o is (length is.parts)

  -- and those beside the format's
  abbrev more : ℕ
  more = count_before laws.lines.dump_lines disk shelf is.beside (length is.beside.others)

  end_tells : Tells (λ m line. Here (all + (more + m)) line) (end_text totals) 2
  end_tells =
      let unread : List ℕ = unread_text totals.unread totals.others totals.whole in
      let total : List ℕ = total_text totals.sectors in
      tells-append (λ m line. Here (all + (more + m)) line) unread total 1 1
      (tells-line (λ m line. Here (all + (more + m)) line) unread (laws.lines.dump_lines.unread totals.unread totals.others totals.whole) (inr (inr (inl refl))))
      (tells-line (λ m line. Here (all + (more + (1 + m))) line) total (laws.total_one totals.sectors) (inr (inr (inr refl))))

  beside_tells : Tells (λ m line. Here (all + m) line) (lines_of beside_lines is.beside) more
  beside_tells =
      tells-map (λ m line. IsTrackLine disk (other_tracks is) line) (λ m line. Here (all + m) line) (lines_of beside_lines is.beside) more
      (λ m line below here. inr (inl here)) (beside_tell laws.lines.dump_lines disk shelf is.beside (length is.beside.others) (omega arith))

  tracks_tell : Tells Here (lines is.parts) all
  tracks_tell =
      tells-map (OnDisk laws.lines disk shelf o is) Here (lines is.parts) all (λ m line below on. inl on)
      (subst (λ (ps : List TrackPart). Tells (OnDisk laws.lines disk shelf o is) (lines ps) all) (take-length is.parts)
      (front_tells laws.lines disk shelf o is (length is.parts) (omega arith)))

  notes_tell : Tells Here o.notes (all + (more + 2))
  notes_tell =
      subst (λ (text : List ℕ). Tells Here text (all + (more + 2))) (sym (ap (λ (d : DumpsRead). d.notes) is.is))
      (tells-append Here (lines is.parts) (lines_of beside_lines is.beside ++ end_text totals) all (more + 2) tracks_tell
      (tells-append (λ m line. Here (all + m) line) (lines_of beside_lines is.beside) (end_text totals) more 2 beside_tells end_tells))

  -- behind them nothing stands
  nothing_behind : (number : ℕ) (front : List ℕ) → all + (more + 2) ≤ number → slice_get (lines_in (o.notes ++ [])) number ≡ Some front → front ≡ []
  nothing_behind number front past at =
      let m : ℕ = number - (all + (more + 2)) in
      let split : (all + (more + 2)) + m ≡ number = omega (arith, past) in
      past-all m front (sym (notes_tell.skips.skips [] m) ∙ ap (slice_get (lines_in (o.notes ++ []))) split ∙ at)

  count : HasNoOtherLines o (is.others ++ is.beside.others)
  count =
      let counted = all_lines_counted laws.lines disk shelf o is in
      let ends : line_ends o.notes ≡ totals.unread + totals.sectors.sectors + totals.whole + traced_count (is.others ++ is.beside.others) + 2 =
      omega (arith, notes_tell.skips.ends, counted) in
      ends ∙ sym (ap (λ (d : DumpsRead). d.totals.unread + d.totals.sectors.sectors + d.totals.whole + traced_count (is.others ++ is.beside.others) + 2) is.is)

  -- the line of a file beside the format's tracks
  behind_tracks : (tracks before line after end : List ℕ) → tracks ++ ((before ++ (line ++ after)) ++ end) ≡ (tracks ++ before) ++ (line ++ (after ++ end))
  behind_tracks tracks before line after end = simp append_assoc

  file_has_line : (n dump : ℕ) (why : Passed) → n < length is.beside.others → dump < length disk.dumps → (other_tracks is).passed n dump ≡ Some why
      → (number : ℕ) × HasLine o.notes (passed_text (beside_at disk.stepping disk.format n) dump why) number
  file_has_line n dump why low few passed =
      let at = file_line laws.lines.dump_lines disk shelf is.beside n low dump why few passed in
      let text : List ℕ = passed_text (beside_at disk.stepping disk.format n) dump why in
      let split : o.notes ≡ (lines is.parts ++ at.before) ++ (text ++ (at.after ++ end_text totals)) =
      ap (λ (d : DumpsRead). d.notes) is.is
      ∙ ap (λ (t : List ℕ). lines is.parts ++ (t ++ end_text totals)) at.is
      ∙ behind_tracks (lines is.parts) at.before text at.after (end_text totals) in
      let skipped : Skips (lines is.parts ++ at.before) (all + at.number) = skips-append (lines is.parts) at.before all at.number tracks_tell.skips at.skips in (
        all + at.number,
        has_line o.notes (lines is.parts ++ at.before) text (at.after ++ end_text totals) (all + at.number) split skipped
            (laws.lines.dump_lines.passed (beside_at disk.stepping disk.format n) dump why),
      )

  module _ (number : ℕ) where
    of_sector : (line : List ℕ) → IsOnDisk disk.format (length is.parts) (first_line laws.lines disk shelf o is) (sector_line laws.lines disk shelf o is) number line
        → IsSectorLine disk (came_in is) o is.others number line
    of_sector line s =
        let one : IsSectorOf disk.format s.n s.sector = record { track = omega (arith, s.low, is.all.many); known = s.known } in
        let said = laws.said disk shelf o is s.n s.sector one in
        record {
          n = s.n;
          sector = s.sector;
          one = one;
          said = said;
          line_is =
              s.line_is
              ∙ sym (ap (λ (cs : List (List NotedReading)). named_text ByCaptureAndClock (track_at disk.format s.n) s.sector (verdict (joined cs) s.sector))
              (captures_are laws.readings disk shelf o is s.n s.sector (line_number disk (came_in is) is.others s.n s.sector) s.low said));
          number_is = s.number_is;
        }

    abbrev Known : List ℕ → Type 0
    Known line = IsLineOfReport disk (came_in is) o is.others (other_tracks is) number line

    line_here : (line : List ℕ) → Here number line → Known line
    line_here line (inl (inl s)) = inl (of_sector line s)
    line_here line (inl (inr other)) = inr (inl other)
    line_here line (inr (inl beside)) = inr (inr (inl beside))
    line_here line (inr (inr end)) = inr (inr (inr (subst (λ (t : DumpTotals). IsEndLine t line) (sym (ap (λ (d : DumpsRead). d.totals) is.is)) end)))

    known : (line : List ℕ) → HasLine o.notes line number → Known line ⊎ ((line ≡ 10 ∷ []) × (line_ends o.notes ≤ number))
    known line h =
        let there : slice_get (lines_in (o.notes ++ [])) number ≡ Some h.front = ap (λ (text : List ℕ). slice_get (lines_in text) number) (append-nil o.notes) ∙ h.there in
        elim (cases_lt number (all + (more + 2))) [
          | inl low ↦
              inl (subst Known (sym h.ends) (line_here (h.front ++ 10 ∷ []) (notes_tell.each [] number h.front low there)))
          | inr past ↦ inr (h.ends ∙ ap (λ (f : List ℕ). f ++ 10 ∷ []) (nothing_behind number h.front past there), omega (arith, past, notes_tell.skips.ends))
        ]

pub passed_streams_are_said : Laws → PassedStreamsAreSaid
passed_streams_are_said laws disk shelf o is n dump why low few is_passed =
    stream_has_line laws.lines disk shelf o is n (omega (arith, low, is.all.many)) dump why few is_passed

pub other_files_are_said : Laws → OtherFilesAreSaid
other_files_are_said laws disk shelf o is n dump why low few passed = file_has_line laws disk shelf o is n dump why low few passed

pub lines_are_known : Laws → LinesAreKnown
lines_are_known laws disk shelf o is number line h = known laws disk shelf o is number line h

pub reports_have_no_other_lines : Laws → ReportsHaveNoOtherLines
reports_have_no_other_lines laws disk shelf o is = count laws disk shelf o is
