-- The lines of the tracks beside the format's in a report of dumps: what each of them is, and how many there are.
use Rattle.std.specs.Prelude.{◌≡◌, ◌≤◌, ◌<◌, ℕ, zero, suc, ◌+◌, ◌-◌, ◌*◌, List, [], ◌∷◌, ◌++◌, flat_map, get_or, length, sum_by, take, Option, None, Some, refl}
use Rattle.std.specs.List.{range_with_len}
use Rattle.std.proofs.Common.{ap, sym, subst, ◌∙◌, arith, append-nil, append_assoc}
use Rattle.std.proofs.Math.Nat.{suc-mul}
use Rattle.std.proofs.Math.Seq.{take-length}
use Rattle.std.proofs.lemmas.List.Concat.{flat_map-append}
use Rattle.std.proofs.lemmas.List.Sums.{sum_by_more}
use Rattle.dump_reading.specs.Beside.{beside_at, beside_lines, beside_to, captures_at, lines_at, lines_to, told_beside}
use Rattle.dump_reading.specs.Outcomes.{DumpDisk, LookedBeside}
use Rattle.dump_reading.specs.Reports.{other_lines, passed_line_of, passed_lines}
use Rattle.flux_base.specs.declared.track.TrackId.{TrackId}
use Rattle.flux_engine.specs.Names.{passed_beside}
use Rattle.flux_engine.specs.Plans.{Seen, Streams, passed_one, passed_to}
use Rattle.flux_engine.specs.declared.gathered_track.PassedStream.{PassedStream}
use Rattle.flux_engine.specs.lemmas.Each.{each-of}
use Rattle.flux_engine.specs.lemmas.LineNumbers.{Skips, skips-append}
use Rattle.flux_engine.specs.lemmas.Pieces.{pieces-at, range-more}
use Rattle.sector_report.specs.DumpLines.{DumpsHaveLines, passed_text}
use Rattle.sector_report.specs.LineLaws.{IsOneLine}
use Rattle.sector_report.specs.declared.dump_lines.Passed.{Passed}
use Rattle.sector_report.specs.declared.dump_lines.Passed.TheVariants.{Absent, Failed, Refused, RefusedScp}
use Rattle.track_shelf.specs.Files.{File}
use Rattle.turn_merge.specs.Others.{NotedOther, has_untold, others_over}
use Rattle.law_read_dumps.specs.Lines.{IsTrackLine, LookedAt, of_others, other_lines_of, told_of}
use Rattle.law_read_dumps.proofs.Lines.{Tells, tells-append, tells-each, tells-nil}
use Rattle.law_read_dumps.proofs.Streams.{place_low}
use Rattle.law_read_dumps.proofs.Sums.{one-passed, passed_so_far, sum_more}
use Rattle.law_read_dumps.proofs.TrackLines.{among, others_tell, passed_tell}

-- what came, where a stream that is missing is none that is passed over
abbrev told_seen : Seen → Seen
told_seen here = record { fault = here.fault; passed = told_of here.passed; times = here.times; indexes = here.indexes }

passed-told : (q : ℕ) (why : Option Passed) → passed_beside q why ≡ passed_one q (told_of why)
passed-told q None = refl
passed-told q (Some Absent) = refl
passed-told q (Some Failed) = refl
passed-told q (Some (Refused block fault)) = refl
passed-told q (Some (RefusedScp fault)) = refl

-- a stream has as many lines at each number
passed-length : (q : ℕ) (why : Option Passed) → length (passed_one q (told_of why)) ≡ length (passed_beside 0 why)
passed-length q why = one-passed q (told_of why) ∙ sym (one-passed 0 (told_of why)) ∙ sym (ap (λ (ps : List PassedStream). length ps) (passed-told 0 why))

module _ (one : DumpsHaveLines) (disk : DumpDisk) (told : Option (List File)) (beside : LookedBeside disk told) where
  abbrev many : ℕ
  many = length disk.dumps

  abbrev at : LookedAt
  at = of_others disk beside.came beside.others

  abbrev Here : ℕ → List ℕ → Type 0
  Here number line = IsTrackLine disk at line

  abbrev captures : ℕ → ℕ → Seen
  captures n = captures_at many beside.came n

  abbrev names : ℕ → List NotedOther
  names n = get_or beside.others n []

  abbrev streams : Streams
  streams n q = told_seen (captures n q)

  beside-told : (n k : ℕ) → beside_to (captures n) k ≡ passed_to streams n k
  beside-told n zero = refl
  beside-told n (suc k) =
      ap (λ (ps : List PassedStream). ps ++ passed_beside k (captures n k).passed) (beside-told n k)
      ∙ ap (λ (ps : List PassedStream). passed_to streams n k ++ ps) (passed-told k (captures n k).passed)

  abbrev lines_here : ℕ → List ℕ
  lines_here n = lines_at beside_lines disk.stepping disk.dumps disk.format beside.came beside.others n

  abbrev lines_so_far : ℕ → List ℕ
  lines_so_far n = lines_to beside_lines disk.stepping disk.dumps disk.format beside.came beside.others n

  -- how many lines a track has, and all before it
  abbrev count_here : ℕ → ℕ
  count_here n = length (beside_to (captures n) many) + other_lines_of (names n)

  abbrev pub count_before : ℕ → ℕ
  count_before n = sum_by count_here (range_with_len 0 n)

  module _ (n : ℕ) (low : n < length beside.others) where
    among_tracks : n < at.many
    among_tracks = low

    abbrev track : TrackId
    track = beside_at disk.stepping disk.format n

    passed_all_tell : Tells Here (passed_lines track (beside_to (captures n) many)) (length (beside_to (captures n) many))
    passed_all_tell =
        subst (λ (ps : List PassedStream). Tells Here (passed_lines track ps) (length ps)) (sym (beside-told n many))
        (passed_tell one disk at n among_tracks streams (λ q. refl))

    track_tells : Tells Here (lines_here n) (count_here n)
    track_tells =
        tells-append Here (passed_lines track (beside_to (captures n) many)) (other_lines track (others_over (names n)) (has_untold (names n)))
        (length (beside_to (captures n) many)) (other_lines_of (names n))
        passed_all_tell (others_tell one disk at n among_tracks (names n) refl)

  before_more : (n : ℕ) → count_before n + count_here n ≡ count_before (suc n)
  before_more n = sum_more count_here n

  lines_more : (n : ℕ) → lines_so_far n ++ lines_here n ≡ lines_so_far (suc n)
  lines_more n =
      let next : n + 1 ≡ suc n = omega arith in
      let here : 0 + n ≡ n = omega arith in
      sym (ap (λ (k : ℕ). lines_so_far k) (sym next)
      ∙ ap (flat_map lines_here) (range-more 0 n)
      ∙ flat_map-append lines_here (range_with_len 0 n) ((0 + n) ∷ [])
      ∙ ap (λ (l : List ℕ). lines_so_far n ++ l) (append-nil (lines_here (0 + n)))
      ∙ ap (λ (k : ℕ). lines_so_far n ++ lines_here k) here)

  pub beside_tell : (n : ℕ) → n ≤ length beside.others → Tells Here (lines_so_far n) (count_before n)
  beside_tell zero low = tells-nil Here
  beside_tell (suc n) low =
      subst (λ (text : List ℕ). Tells Here text (count_before (suc n))) (lines_more n)
      (subst (Tells Here (lines_so_far n ++ lines_here n)) (before_more n)
      (tells-append Here (lines_so_far n) (lines_here n) (count_before n) (count_here n) (beside_tell n (omega (arith, low))) (track_tells n (omega (arith, low)))))

  -- the line of a file that is passed over is among these
  pub record HasFileLine (n dump : ℕ) (why : Passed) : Type 0 where
    pub before : List ℕ
    pub after : List ℕ
    pub number : ℕ
    pub is : lines_so_far (length beside.others) ≡ before ++ (passed_text (beside_at disk.stepping disk.format n) dump why ++ after)
    pub skips : Skips before number

  file_in : (front earlier line later others rest : List ℕ)
      → front ++ (((earlier ++ (line ++ later)) ++ others) ++ rest) ≡ (front ++ earlier) ++ (line ++ (later ++ (others ++ rest)))
  file_in front earlier line later others rest = simp append_assoc

  pub file_line : (n : ℕ) (low : n < length beside.others) (dump : ℕ) (why : Passed) → dump < many → told_of (captures n dump).passed ≡ Some why → HasFileLine n dump why
  file_line n low dump why few passed =
      let a = among streams n many dump why few passed in
      let line_of : PassedStream → List ℕ = passed_line_of (track n low) in
      let text : List ℕ = passed_text (track n low) dump why in
      let earlier : List ℕ = flat_map line_of a.before in
      let later : List ℕ = flat_map line_of a.after in
      let mine : passed_lines (track n low) (beside_to (captures n) many) ≡ earlier ++ (text ++ later) =
      ap (flat_map line_of) (beside-told n many ∙ a.is) ∙ flat_map-append line_of a.before (record { capture = dump; why = why } ∷ a.after) in
      let others : List ℕ = other_lines (track n low) (others_over (names n)) (has_untold (names n)) in
      let rest : List ℕ = flat_map lines_here (range_with_len (0 + n + 1) (length beside.others - n - 1)) in
      let here : 0 + n ≡ n = omega arith in
      let line : (s : PassedStream) → IsOneLine (line_of s) = λ s. one.passed (track n low) s.capture s.why in
      let first = tells-each (λ (l : List ℕ). Unit {0}) line_of line a.before (each-of (λ (s : PassedStream). Unit {0}) a.before (λ s has. tt)) in
      record {
        before = lines_so_far n ++ earlier;
        after = later ++ (others ++ rest);
        number = count_before n + length a.before;
        is =
            pieces-at lines_here 0 n (length beside.others) low
            ∙ ap (λ (k : ℕ). lines_so_far n ++ (lines_here k ++ rest)) here
            ∙ ap (λ (t : List ℕ). lines_so_far n ++ ((t ++ others) ++ rest)) mine
            ∙ file_in (lines_so_far n) earlier text later others rest;
        skips = skips-append (lines_so_far n) earlier (count_before n) (length a.before) (beside_tell n (omega (arith, low))).skips first.skips;
      }

  -- the files of a track that are told are counted
  passed_here : (n : ℕ) → n < length beside.others
      → told_beside (take (n * many + many) beside.came) ≡ told_beside (take (n * many) beside.came) + length (beside_to (captures n) many)
  passed_here n low =
      passed_so_far (λ (s : Seen). length (passed_beside 0 s.passed)) beside.came streams many n (λ q few. place_low (length beside.came) (length beside.others) many n q beside.are.all low few) (λ q. passed-length q (captures n q).passed) many (omega arith)
      ∙ ap (λ (ps : List PassedStream). told_beside (take (n * many) beside.came) + length ps) (sym (beside-told n many))

  so_far : (n : ℕ) → n ≤ length beside.others → count_before n ≡ told_beside (take (n * many) beside.came) + sum_by other_lines_of (take n beside.others)
  so_far zero low = (let none : 0 * many ≡ 0 = omega arith in sym (ap (λ (k : ℕ). told_beside (take k beside.came) + 0) none))
  so_far (suc n) low =
      let within : n < length beside.others = omega (arith, low) in
      let next : n + 1 ≡ suc n = omega arith in
      let before = so_far n (omega (arith, low)) in
      let step = before_more n in
      let passed : told_beside (take (suc n * many) beside.came) ≡ told_beside (take (n * many) beside.came) + length (beside_to (captures n) many) =
      ap (λ (k : ℕ). told_beside (take k beside.came)) (suc-mul n many) ∙ passed_here n within in
      let told : sum_by other_lines_of (take (suc n) beside.others) ≡ sum_by other_lines_of (take n beside.others) + other_lines_of (names n) =
      ap (λ (k : ℕ). sum_by other_lines_of (take k beside.others)) (sym next) ∙ sum_by_more other_lines_of beside.others n [] within in
      omega (arith, before, step, passed, told)

  -- as many as files that are told, and lines of other headers
  pub beside_counted : count_before (length beside.others) ≡ told_beside beside.came + sum_by other_lines_of beside.others
  beside_counted =
      so_far (length beside.others) (omega arith)
      ∙ ap (λ (ss : List Seen). told_beside ss + sum_by other_lines_of (take (length beside.others) beside.others))
      (ap (λ (k : ℕ). take k beside.came) (sym beside.are.all) ∙ take-length beside.came)
      ∙ ap (λ (os : List (List NotedOther)). told_beside beside.came + sum_by other_lines_of os) (take-length beside.others)
