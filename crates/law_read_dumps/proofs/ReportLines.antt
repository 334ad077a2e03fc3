-- The lines of the tracks in a report of dumps, one behind another: what each of them is, and at which numbers those of sectors stand.
use Rattle.std.specs.Prelude.{◌≡◌, ◌≤◌, ◌<◌, ◌⊎◌, ℕ, zero, suc, ◌+◌, ◌-◌, List, [], ◌∷◌, ◌++◌, drop, flat_map, get_or, length, sum_by, take, Option, Some, refl}
use Rattle.std.specs.List.{range_with_len}
use Rattle.std.proofs.Common.{ap, sym, subst, ◌∙◌, arith, append-nil, append_assoc, inl, inr}
use Rattle.std.proofs.Math.Seq.{take-suc}
use Rattle.std.proofs.lemmas.List.Concat.{flat_map-append}
use Rattle.dump_reading.specs.Beside.{beside_lines}
use Rattle.dump_reading.specs.Outcomes.{DumpDisk, DumpsRead, IsDumpsRead, lines_of, numbers_of, plan_of}
use Rattle.dump_reading.specs.Reports.{end_text, other_lines, passed_line_of, passed_lines, read_part}
use Rattle.flux_engine.specs.DiskLaws.{HasLine}
use Rattle.flux_engine.specs.Disks.{lines, part_at}
use Rattle.flux_engine.specs.LoopProgress.{streams_over}
use Rattle.flux_engine.specs.Plans.{IsPlannedPart, Streams, joined, passed_to}
use Rattle.flux_engine.specs.Recordings.{sectors_of, track_at}
use Rattle.flux_engine.specs.Rules.{RulesAreRead}
use Rattle.flux_engine.specs.Tracks.{TrackPart, line_by, lines_by}
use Rattle.flux_engine.specs.declared.gathered_track.PassedStream.{PassedStream}
use Rattle.flux_engine.specs.lemmas.Each.{each-of}
use Rattle.flux_engine.specs.lemmas.LineNumbers.{Skips, skips-append, skips-lines}
use Rattle.flux_engine.specs.lemmas.OneParts.{one_others_to}
use Rattle.flux_engine.specs.lemmas.PartLaws.{lines_split, no_part}
use Rattle.flux_engine.specs.lemmas.Pieces.{pieces-at}
use Rattle.law_captured_disks.specs.Headline.{IsSectorOf}
use Rattle.sector_images.specs.Formats.{row}
use Rattle.sector_images.specs.Places.{IsSector, tracks}
use Rattle.sector_images.specs.declared.format.Format.{Format}
use Rattle.sector_report.specs.DumpLines.{DumpsHaveLines, passed_text}
use Rattle.sector_report.specs.LineLaws.{IsOneLine, SectorsHaveOneLine}
use Rattle.sector_report.specs.declared.dump_lines.Passed.{Passed}
use Rattle.sector_report.specs.declared.naming.Naming.TheVariants.{ByCaptureAndClock}
use Rattle.track_shelf.specs.Files.{File}
use Rattle.turn_merge.specs.Others.{NotedOther, has_untold, others_over}
use Rattle.turn_merge.specs.Readings.{NotedReading, verdict}
use Rattle.turn_merge.specs.declared.others.OtherTold.{OtherTold}
use Rattle.law_read_dumps.specs.Lines.{IsTrackLine, line_number, lines_on, of_format, other_lines_of, passed_on}
use Rattle.law_read_dumps.proofs.Lines.{Tells, has_line, tells-append, tells-each, tells-map, tells-nil, tells-range}
use Rattle.law_read_dumps.proofs.Sums.{sum_more}
use Rattle.law_read_dumps.proofs.TrackLines.{among, others_tell, passed_tell}

-- what the crates below promise
pub record Laws : Type 0 where
  pub one : SectorsHaveOneLine
  pub dump_lines : DumpsHaveLines
  pub rules : RulesAreRead

-- the line is a sector's, among those of track number n, behind so many others
record IsOnTrack (format : Format) (n before : ℕ) (line_of : ℕ → List ℕ) (number : ℕ) (line : List ℕ) : Type 0 where
  sector : ℕ
  known : IsSector format (track_at format n) sector
  line_is : line ≡ line_of sector
  number_is : number ≡ before + (sector - (row format).first_sector)

-- the same among those of all tracks
pub record IsOnDisk (format : Format) (many : ℕ) (before : ℕ → ℕ) (line_of : (n : ℕ) → n < many → ℕ → List ℕ) (number : ℕ) (line : List ℕ) : Type 0 where
  pub n : ℕ
  pub low : n < many
  pub sector : ℕ
  pub known : IsSector format (track_at format n) sector
  pub line_is : line ≡ line_of n low sector
  pub number_is : number ≡ before n + (sector - (row format).first_sector)

-- the line stands beside those of the sectors
abbrev pub IsBeside : DumpDisk → Streams → (others : List (List NotedOther)) → List ℕ → Type 0
IsBeside disk came others line = IsTrackLine disk (of_format disk came others) line

-- a line in the middle of a track's lines
line_in : (front passed earlier line later others rest end : List ℕ)
    → (front ++ ((passed ++ ((earlier ++ (line ++ later)) ++ others)) ++ rest)) ++ end
    ≡ (front ++ (passed ++ earlier)) ++ (line ++ (later ++ (others ++ (rest ++ end))))
line_in front passed earlier line later others rest end = simp append_assoc

module _ (laws : Laws) (disk : DumpDisk) (shelf : Option (List File)) (o : DumpsRead) (is : IsDumpsRead disk shelf o) where
  abbrev format : Format
  format = disk.format

  abbrev came : Streams
  came = streams_over (plan_of disk) is.streams

  abbrev count_of : ℕ → ℕ
  count_of n = (sectors_of format (track_at format n)).count

  -- the lines of the tracks before one
  abbrev pub lines_before : ℕ → ℕ
  lines_before n = sum_by (lines_on disk came is.others) (range_with_len 0 n)

  -- the number of the line of a track's first sector
  abbrev pub first_line : ℕ → ℕ
  first_line n = lines_before n + passed_on disk came n

  module _ (n : ℕ) (low : n < length is.parts) where
    abbrev at : IsPlannedPart (plan_of disk) read_part format came n (part_at is.parts n)
    at = is.all.read.each n low

    abbrev pub readings : List NotedReading
    readings = joined at.captures

    abbrev pub sector_line : ℕ → List ℕ
    sector_line sector = line_by ByCaptureAndClock (track_at format n) readings sector

    abbrev streams_passed : List PassedStream
    streams_passed = passed_to came n (length disk.dumps)

    abbrev passed : List ℕ
    passed = passed_lines (track_at format n) streams_passed

    abbrev told : List OtherTold
    told = others_over at.others

    abbrev others : List ℕ
    others = other_lines (track_at format n) told (has_untold at.others)

    sector_lines : List ℕ
    sector_lines = flat_map sector_line (range_with_len (row format).first_sector (count_of n))

    lines_are : (part_at is.parts n).lines ≡ passed ++ (sector_lines ++ others)
    unfolding lines_by sector_lines
    lines_are = ap (λ (p : TrackPart). p.lines) at.is

    -- as many as are counted
    pub passed_many : length streams_passed ≡ passed_on disk came n
    passed_many = refl

    others_same : at.others ≡ get_or is.others n []
    others_same =
        one_others_to laws.rules (plan_of disk) format came n (length disk.dumps) at.others (get_or is.others n []) at.others_are
        (is.all.others_are n (omega (arith, low, is.all.many, is.all.many_others)))

    lines_many : length streams_passed + (count_of n + other_lines_of at.others) ≡ lines_on disk came is.others n
    lines_many =
        let same : other_lines_of at.others ≡ other_lines_of (get_or is.others n []) = ap other_lines_of others_same in
        omega (arith, passed_many, same)

    one_line : (sector : ℕ) → IsOneLine (sector_line sector)
    one_line sector = laws.one ByCaptureAndClock (track_at format n) sector (verdict readings sector)

    abbrev OnTrack : ℕ → List ℕ → Type 0
    OnTrack number line = IsOnTrack format n (length streams_passed) sector_line number line ⊎ IsBeside disk came is.others line

    abbrev among_tracks : n < length (tracks format)
    among_tracks = omega (arith, low, is.all.many)

    passed_all_tell : Tells (λ number line. IsBeside disk came is.others line) passed (length streams_passed)
    passed_all_tell = passed_tell laws.dump_lines disk (of_format disk came is.others) n among_tracks came (λ q. refl)

    others_all_tell : Tells (λ number line. IsBeside disk came is.others line) others (other_lines_of at.others)
    others_all_tell = others_tell laws.dump_lines disk (of_format disk came is.others) n among_tracks at.others others_same

    sectors_tell : Tells (λ m line. OnTrack (length streams_passed + m) line) sector_lines (count_of n)
    unfolding sector_lines
    sectors_tell =
        let first : ℕ = (row format).first_sector in
        tells-map (λ m line. line ≡ sector_line (first + m)) (λ m line. OnTrack (length streams_passed + m) line) sector_lines (count_of n)
        (λ m line below same. inl (record { sector = first + m; known = (omega arith, omega (arith, below)); line_is = same; number_is = omega arith }))
        (tells-range sector_line one_line first (count_of n))

    track_tells : Tells OnTrack (part_at is.parts n).lines (lines_on disk came is.others n)
    track_tells =
        let i : ℕ = length streams_passed in
        let behind : ℕ → List ℕ → Type 0 = λ m line. OnTrack (i + m) line in
        subst (λ (text : List ℕ). Tells OnTrack text (lines_on disk came is.others n)) (sym lines_are)
        (subst (Tells OnTrack (passed ++ (sector_lines ++ others))) lines_many
        (tells-append OnTrack passed (sector_lines ++ others) i (count_of n + other_lines_of at.others)
        (tells-map (λ m line. IsBeside disk came is.others line) OnTrack passed i (λ m line below other. inr other) passed_all_tell)
        (tells-append behind sector_lines others (count_of n) (other_lines_of at.others) sectors_tell
        (tells-map (λ m line. IsBeside disk came is.others line) (λ m line. behind (count_of n + m) line) others (other_lines_of at.others) (λ m line below other. inr other) others_all_tell))))

  abbrev pub OnDisk : ℕ → List ℕ → Type 0
  OnDisk number line = IsOnDisk format (length is.parts) first_line sector_line number line ⊎ IsBeside disk came is.others line

  -- the line of a track, behind those of the tracks before
  on_disk : (n : ℕ) (low : n < length is.parts) (m : ℕ) (line : List ℕ) → OnTrack n low m line → OnDisk (lines_before n + m) line
  on_disk n low m line (inl s) =
      let many = passed_many n low in
      inl (record { n = n; low = low; sector = s.sector; known = s.known; line_is = s.line_is; number_is = omega (arith, s.number_is, many) })
  on_disk n low m line (inr other) = inr other

  pub before_more : (n : ℕ) → lines_before n + lines_on disk came is.others n ≡ lines_before (suc n)
  before_more n = sum_more (lines_on disk came is.others) n

  -- the lines of the first tracks
  pub front_tells : (n : ℕ) → n ≤ length is.parts → Tells OnDisk (lines (take n is.parts)) (lines_before n)
  front_tells zero low = tells-nil OnDisk
  front_tells (suc n) low =
      let within : n < length is.parts = omega (arith, low) in
      let text : lines (take n is.parts) ++ (part_at is.parts n).lines ≡ lines (take (suc n) is.parts) =
      sym (ap lines (take-suc is.parts n no_part within)
      ∙ flat_map-append (λ (p : TrackPart). p.lines) (take n is.parts) (part_at is.parts n ∷ [])
      ∙ ap (λ (l : List ℕ). lines (take n is.parts) ++ l) (append-nil (part_at is.parts n).lines)) in
      subst (λ (l : List ℕ). Tells OnDisk l (lines_before (suc n))) text
      (subst (Tells OnDisk (lines (take n is.parts) ++ (part_at is.parts n).lines)) (before_more n)
      (tells-append OnDisk (lines (take n is.parts)) (part_at is.parts n).lines (lines_before n) (lines_on disk came is.others n)
      (front_tells n (omega (arith, within)))
      (tells-map (OnTrack n within) (λ m line. OnDisk (lines_before n + m) line) (part_at is.parts n).lines (lines_on disk came is.others n)
      (λ m line below here. on_disk n within m line here) (track_tells n within))))

  -- so each sector has its line, at its number
  pub sector_has_line : (n : ℕ) (low : n < length is.parts) (sector : ℕ) → IsSectorOf format n sector
      → HasLine o.notes (sector_line n low sector) (line_number disk came is.others n sector)
  unfolding sector_lines
  sector_has_line n low sector one =
      let first : ℕ = (row format).first_sector in
      let i : ℕ = sector - first in
      let here : first + i ≡ sector = omega (arith, one.known.0) in
      let few : i < count_of n = omega (arith, one.known.0, one.known.1) in
      let text : List ℕ = sector_line n low sector in
      let earlier : List ℕ = flat_map (sector_line n low) (range_with_len first i) in
      let later : List ℕ = flat_map (sector_line n low) (range_with_len (first + i + 1) (count_of n - i - 1)) in
      let mine : sector_lines n low ≡ earlier ++ (text ++ later) =
      pieces-at (sector_line n low) first i (count_of n) few ∙ ap (λ (k : ℕ). earlier ++ (sector_line n low k ++ later)) here in
      let front : List ℕ = lines (take n is.parts) in
      let rest : List ℕ = lines (drop (suc n) is.parts) in
      let end : List ℕ = lines_of beside_lines is.beside ++ end_text (numbers_of is.streams is.parts is.others is.beside.came is.beside.others) in
      let split : o.notes ≡ (front ++ (passed n low ++ earlier)) ++ (text ++ (later ++ (others n low ++ (rest ++ end)))) =
      ap (λ (d : DumpsRead). d.notes) is.is
      ∙ ap (λ (t : List ℕ). t ++ end) (lines_split is.parts n low)
      ∙ ap (λ (t : List ℕ). (front ++ (t ++ rest)) ++ end) (lines_are n low)
      ∙ ap (λ (t : List ℕ). (front ++ ((passed n low ++ (t ++ others n low)) ++ rest)) ++ end) mine
      ∙ line_in front (passed n low) earlier text later (others n low) rest end in
      let many = passed_many n low in
      let number : lines_before n + (length (streams_passed n low) + i) ≡ line_number disk came is.others n sector = omega (arith, many) in
      let skipped : Skips (front ++ (passed n low ++ earlier)) (lines_before n + (length (streams_passed n low) + i)) =
      skips-append front (passed n low ++ earlier) (lines_before n) (length (streams_passed n low) + i) (front_tells n (omega (arith, low))).skips
      (skips-append (passed n low) earlier (length (streams_passed n low)) i (passed_all_tell n low).skips (skips-lines (sector_line n low) (one_line n low) first i)) in
      has_line o.notes (front ++ (passed n low ++ earlier)) text (later ++ (others n low ++ (rest ++ end))) (line_number disk came is.others n sector) split
      (subst (Skips (front ++ (passed n low ++ earlier))) number skipped) (one_line n low sector)

  -- and each stream that is passed over has its line
  stream_in : (front earlier line later rest more end : List ℕ)
      → (front ++ (((earlier ++ (line ++ later)) ++ rest) ++ more)) ++ end ≡ (front ++ earlier) ++ (line ++ (later ++ (rest ++ (more ++ end))))
  stream_in front earlier line later rest more end = simp append_assoc

  pub stream_has_line : (n : ℕ) (low : n < length is.parts) (dump : ℕ) (why : Passed) → dump < length disk.dumps → (came n dump).passed ≡ Some why
      → (number : ℕ) × HasLine o.notes (passed_text (track_at format n) dump why) number
  stream_has_line n low dump why few is_passed =
      let a = among came n (length disk.dumps) dump why few is_passed in
      let line_of : PassedStream → List ℕ = passed_line_of (track_at format n) in
      let text : List ℕ = passed_text (track_at format n) dump why in
      let earlier : List ℕ = flat_map line_of a.before in
      let later : List ℕ = flat_map line_of a.after in
      let mine : passed n low ≡ earlier ++ (text ++ later) =
      ap (flat_map line_of) a.is ∙ flat_map-append line_of a.before (record { capture = dump; why = why } ∷ a.after) in
      let front : List ℕ = lines (take n is.parts) in
      let more : List ℕ = lines (drop (suc n) is.parts) in
      let rest : List ℕ = sector_lines n low ++ others n low in
      let end : List ℕ = lines_of beside_lines is.beside ++ end_text (numbers_of is.streams is.parts is.others is.beside.came is.beside.others) in
      let split : o.notes ≡ (front ++ earlier) ++ (text ++ (later ++ (rest ++ (more ++ end)))) =
      ap (λ (d : DumpsRead). d.notes) is.is
      ∙ ap (λ (t : List ℕ). t ++ end) (lines_split is.parts n low)
      ∙ ap (λ (t : List ℕ). (front ++ (t ++ more)) ++ end) (lines_are n low)
      ∙ ap (λ (t : List ℕ). (front ++ ((t ++ rest) ++ more)) ++ end) mine
      ∙ stream_in front earlier text later rest more end in
      let line : (s : PassedStream) → IsOneLine (line_of s) = λ s. laws.dump_lines.passed (track_at format n) s.capture s.why in
      let before = tells-each (λ (l : List ℕ). Unit {0}) line_of line a.before (each-of (λ (s : PassedStream). Unit {0}) a.before (λ s has. tt)) in
      let skipped : Skips (front ++ earlier) (lines_before n + length a.before) =
      skips-append front earlier (lines_before n) (length a.before) (front_tells n (omega (arith, low))).skips before.skips in (
        lines_before n + length a.before,
        has_line o.notes (front ++ earlier) text (later ++ (rest ++ (more ++ end))) (lines_before n + length a.before) split skipped
            (laws.dump_lines.passed (track_at format n) dump why),
      )
