-- How many lines the tracks have in a report of dumps: as many as its numbers say.
use Rattle.std.specs.Prelude.{◌≡◌, ◌≤◌, ◌<◌, ℕ, zero, suc, ◌+◌, ◌*◌, cond, is_some, List, [], ◌++◌, get_or, length, sum_by, take, Option}
use Rattle.std.proofs.Common.{ap, sym, ◌∙◌, arith}
use Rattle.std.proofs.Math.Nat.{suc-mul}
use Rattle.std.proofs.Math.Seq.{take-length}
use Rattle.std.proofs.lemmas.List.{length-map}
use Rattle.std.proofs.lemmas.List.FromFn.{length-range_with_len}
use Rattle.std.proofs.lemmas.List.Sums.{sum_by-append, sum_by_more}
use Rattle.dump_reading.specs.Outcomes.{DumpDisk, DumpsRead, IsDumpsRead, numbers_of, plan_of}
use Rattle.dump_reading.specs.Reports.{read_part}
use Rattle.flux_engine.specs.Counts.{whole_count, whole_names_of}
use Rattle.flux_engine.specs.Disks.{part_at, totals_over}
use Rattle.flux_engine.specs.LoopProgress.{passed_count, streams_over}
use Rattle.flux_engine.specs.Plans.{Seen, Streams, joined, passed_to}
use Rattle.flux_engine.specs.Recordings.{sectors_of, track_at}
use Rattle.flux_engine.specs.Tracks.{TrackPart, numbers}
use Rattle.flux_engine.specs.lemmas.PartLaws.{no_part}
use Rattle.track_shelf.specs.Files.{File}
use Rattle.turn_merge.specs.Others.{NotedOther, has_untold, others_over}
use Rattle.turn_merge.specs.Readings.{verdict}
use Rattle.law_read_dumps.specs.Lines.{has_traces, other_lines_of, passed_on, traced_count}
use Rattle.law_read_dumps.proofs.BesideLines.{beside_counted, count_before}
use Rattle.law_read_dumps.proofs.ReportLines.{Laws, before_more, lines_before, passed_many}
use Rattle.law_read_dumps.proofs.Streams.{number_low}
use Rattle.law_read_dumps.proofs.Sums.{one-passed, passed_so_far, sums_added}

abbrev whole_lines_of : List NotedOther → ℕ
whole_lines_of others = whole_names_of (others_over others) (has_untold others)

abbrev traced_on : List NotedOther → ℕ
traced_on others = cond (has_traces others) 1 0

-- of others as many as names with whole data, and tracks with names that have none
other_lines_split : (tracks : List (List NotedOther)) → sum_by other_lines_of tracks ≡ whole_count tracks + traced_count tracks
other_lines_split tracks = sums_added whole_lines_of traced_on tracks

module _ (laws : Laws) (disk : DumpDisk) (shelf : Option (List File)) (o : DumpsRead) (is : IsDumpsRead disk shelf o) where
  abbrev many : ℕ
  many = length disk.dumps

  abbrev came : Streams
  came = streams_over (plan_of disk) is.streams

  -- the streams of a track that are passed over are counted
  passed_here : (n : ℕ) → n < length is.parts
      → passed_count (take (n * many + many) is.streams) ≡ passed_count (take (n * many) is.streams) + length (passed_to came n many)
  passed_here n low =
      passed_so_far (λ (s : Seen). cond (is_some s.passed) 1 0) is.streams came many n
      (λ q few. number_low read_part disk shelf is.streams is.parts is.all.read n q low few) (λ q. one-passed q (came n q).passed) many (omega arith)

  sectors_many : (n : ℕ) → n < length is.parts → (part_at is.parts n).totals.sectors ≡ (sectors_of disk.format (track_at disk.format n)).count
  sectors_many n low =
      let at = is.all.read.each n low in
      ap (λ (p : TrackPart). p.totals.sectors) at.is
      ∙ length-map (numbers (sectors_of disk.format (track_at disk.format n))) (verdict (joined at.captures))
      ∙ length-range_with_len (sectors_of disk.format (track_at disk.format n)).first (sectors_of disk.format (track_at disk.format n)).count

  so_far : (n : ℕ) → n ≤ length is.parts
      → lines_before laws disk shelf o is n
      ≡ passed_count (take (n * many) is.streams) + sum_by (λ (p : TrackPart). p.totals.sectors) (take n is.parts) + sum_by other_lines_of (take n is.others)
  so_far zero low = (let none : 0 * many ≡ 0 = omega arith in sym (ap (λ (k : ℕ). passed_count (take k is.streams) + 0 + 0) none))
  so_far (suc n) low =
      let within : n < length is.parts = omega (arith, low) in
      let next : n + 1 ≡ suc n = omega arith in
      let before = so_far n (omega (arith, low)) in
      let step = before_more laws disk shelf o is n in
      let passed : passed_count (take (suc n * many) is.streams) ≡ passed_count (take (n * many) is.streams) + passed_on disk came n =
      ap (λ (k : ℕ). passed_count (take k is.streams)) (suc-mul n many) ∙ passed_here n within
      ∙ ap (λ (k : ℕ). passed_count (take (n * many) is.streams) + k) (passed_many laws disk shelf o is n within) in
      let sectors : sum_by (λ (p : TrackPart). p.totals.sectors) (take (suc n) is.parts)
      ≡ sum_by (λ (p : TrackPart). p.totals.sectors) (take n is.parts) + (sectors_of disk.format (track_at disk.format n)).count =
      ap (λ (k : ℕ). sum_by (λ (p : TrackPart). p.totals.sectors) (take k is.parts)) (sym next)
      ∙ sum_by_more (λ (p : TrackPart). p.totals.sectors) is.parts n no_part within
      ∙ ap (λ (k : ℕ). sum_by (λ (p : TrackPart). p.totals.sectors) (take n is.parts) + k) (sectors_many n within) in
      let told : sum_by other_lines_of (take (suc n) is.others) ≡ sum_by other_lines_of (take n is.others) + other_lines_of (get_or is.others n []) =
      ap (λ (k : ℕ). sum_by other_lines_of (take k is.others)) (sym next) ∙ sum_by_more other_lines_of is.others n [] (omega (arith, within, is.all.many, is.all.many_others)) in
      omega (arith, before, step, passed, sectors, told)

  all_counted : lines_before laws disk shelf o is (length is.parts)
      ≡ passed_count is.streams + (totals_over is.parts).sectors + sum_by other_lines_of is.others
  all_counted =
      let same : length is.parts ≡ length is.others = omega (arith, is.all.many, is.all.many_others) in
      so_far (length is.parts) (omega arith)
      ∙ ap (λ (ss : List Seen). passed_count ss + sum_by (λ (p : TrackPart). p.totals.sectors) (take (length is.parts) is.parts) + sum_by other_lines_of (take (length is.parts) is.others))
      (ap (λ (k : ℕ). take k is.streams) (sym is.all.read.all) ∙ take-length is.streams)
      ∙ ap (λ (ps : List TrackPart). passed_count is.streams + sum_by (λ (p : TrackPart). p.totals.sectors) ps + sum_by other_lines_of (take (length is.parts) is.others)) (take-length is.parts)
      ∙ ap (λ (os : List (List NotedOther)). passed_count is.streams + sum_by (λ (p : TrackPart). p.totals.sectors) is.parts + sum_by other_lines_of os)
      (ap (λ (k : ℕ). take k is.others) same ∙ take-length is.others)

  pub lines_counted : lines_before laws disk shelf o is (length is.parts)
      ≡ passed_count is.streams + (totals_over is.parts).sectors + whole_count is.others + traced_count is.others
  lines_counted =
      let split = other_lines_split is.others in
      omega (arith, all_counted, split)

  -- the same of all tracks, of the format and beside it
  pub all_lines_counted : lines_before laws disk shelf o is (length is.parts) + count_before laws.dump_lines disk shelf is.beside (length is.beside.others)
      ≡ (numbers_of is.streams is.parts is.others is.beside.came is.beside.others).unread + (numbers_of is.streams is.parts is.others is.beside.came is.beside.others).sectors.sectors
      + (numbers_of is.streams is.parts is.others is.beside.came is.beside.others).whole + traced_count (is.others ++ is.beside.others)
  all_lines_counted =
      let beside = beside_counted laws.dump_lines disk shelf is.beside in
      let split = other_lines_split is.beside.others in
      let whole = sum_by-append whole_lines_of is.others is.beside.others in
      let traced = sum_by-append traced_on is.others is.beside.others in
      omega (arith, lines_counted, beside, split, whole, traced)
