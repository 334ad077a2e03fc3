-- The numbers of a captured dump call every sector good.
use Rattle.std.proofs.Common.{◌≡◌, ◌<◌, ◌≤◌, ◌⊎◌, ◌+◌, ◌*◌, ◌∙◌, ℕ, true, false, List, Some, length, ap, sym, subst, inl, inr, arith}
use Rattle.std.proofs.lemmas.Bool.{cases_lt}
use Rattle.std.proofs.lemmas.List.{get_or_past}
use Rattle.dump_reading.specs.Outcomes.{DumpDisk, DumpsRead, IsDumpsRead, plan_of}
use Rattle.dump_reading.specs.declared.totals.DumpTotals.{DumpTotals}
use Rattle.dump_tallies.specs.Files.{file_of}
use Rattle.dump_tallies.specs.Numbers.{AreNumbersOf, disk_of}
use Rattle.flux_engine.specs.Disks.{part_at}
use Rattle.flux_engine.specs.LoopProgress.{lost_count, seen_at, streams_over}
use Rattle.flux_engine.specs.PlanLaws.{ReadingsInPlansAreOne}
use Rattle.flux_engine.specs.Plans.{Seen, Streams, is_failed, joined}
use Rattle.flux_engine.specs.Recordings.{sectors_of, track_at}
use Rattle.flux_engine.specs.Rings.{IsImage}
use Rattle.flux_engine.specs.Tracks.{TrackPart, is_good}
use Rattle.law_captured_disks.specs.Headline.{IsSectorOf}
use Rattle.law_captured_disks.specs.lemmas.Totals.{all_counted, totals_good}
use Rattle.law_captured_dumps.specs.Headline.{SteadyDumpsAreReadWell}
use Rattle.law_captured_dumps.specs.Inputs.{HasFailed, IsSteadyOrPassed}
use Rattle.law_captured_plans.specs.Said.{IsSaidGood}
use Rattle.law_read_dumps.specs.Lines.{line_number}
use Rattle.law_read_dumps.specs.Said.{as_planned}
use Rattle.sector_images.specs.Places.{tracks}
use Rattle.sector_images.specs.declared.format.Format.{Format}
use Rattle.track_shelf.specs.Files.{File}
use Rattle.track_shelf.specs.declared.stepping.Stepping.{Stepping}
use Rattle.turn_merge.specs.Readings.{NotedReading, verdict}
use Rattle.turn_merge.specs.declared.verdict.Verdict.{Verdict}
use Rattle.law_numbered_dumps.specs.Called.{IsCapturedDump}
use Rattle.law_numbered_dumps.proofs.Found.{none_of}

-- what came of none of some files failed, wherever it is looked for
none_failed : (came : List Seen) → lost_count came ≡ 0 → (i : ℕ) → is_failed (seen_at came i).passed ≡ false
none_failed came none i = by (cases_lt i (length came))
  where
    by : (i < length came) ⊎ (length came ≤ i) → is_failed (seen_at came i).passed ≡ false
    by (inl low) = none_of came none i low
    by (inr past) = ap (λ (s : Seen). is_failed s.passed) (get_or_past came i _ past)

module _ (well : SteadyDumpsAreReadWell) (readings : ReadingsInPlansAreOne) (dump : List ℕ) (files : List File) (came : List Seen) (stepping : Stepping) (format : Format) (image : List ℕ)
    (totals : DumpTotals) (is : IsImage format image) (captured : IsCapturedDump dump files stepping format image) (none : lost_count came ≡ 0)
    (numbers : AreNumbersOf dump (Some files) came stepping format totals) where
  abbrev disk : DumpDisk
  disk = disk_of dump stepping format

  abbrev read : IsDumpsRead disk (Some files) numbers.outcome
  read = numbers.is

  abbrev streams : Streams
  streams = streams_over (plan_of disk) read.streams

  -- the file of no track failed
  not_failed : (n : ℕ) → n < length (tracks format) → ¬ HasFailed streams n 0
  not_failed n known failed =
      let all = read.all.read.all in
      let many = read.all.many in
      let at : n * 1 + 0 ≡ n = omega arith in
      let same = ap (seen_at read.streams) at ∙ numbers.own n (omega (arith, known, all, many)) in
      no (sym (none_failed came none (file_of stepping (track_at format n))) ∙ ap (λ (s : Seen). is_failed s.passed) (sym same) ∙ ap is_failed failed)
    where
      no : false ≡ true → ⊥
      no e = cc

  good : (n sector : ℕ) → IsSectorOf format n sector
      → IsSaidGood (plan_of disk) format streams (as_planned numbers.outcome) n sector (line_number disk streams read.others n sector)
  good n sector one =
      let c = captured n one.track in
      (well disk files image numbers.outcome is read n sector one 0 (omega arith) (not_failed n one.track) (inl c.0)
      (λ other low. let first : 0 ≡ other = omega (arith, low) in subst (IsSteadyOrPassed disk streams files image n) first (inl c))).good

  part_good : (n : ℕ) → n < length read.parts → (part_at read.parts n).totals.good ≡ (part_at read.parts n).totals.sectors
  part_good n low =
      let at = read.all.read.each n low in
      let its : ℕ → Verdict = λ sector. verdict (joined at.captures) sector in
      let many = read.all.many in
      ap (λ (p : TrackPart). p.totals.good) at.is
      ∙ all_counted its (sectors_of format (track_at format n)).first (sectors_of format (track_at format n)).count
      (λ sector least most.
      let said = good n sector (record { track = omega (arith, low, many); known = (least, most) }) in
      let same = readings (plan_of disk) format streams n at.captures said.said.captures at.each said.said.each (at.many ∙ sym said.said.many) in
      ap is_good (ap (λ (cs : List (List NotedReading)). verdict (joined cs) sector) same ∙ said.is))
      ∙ sym (ap (λ (p : TrackPart). p.totals.sectors) at.is)

  pub called_good : totals.sectors.good ≡ totals.sectors.sectors
  called_good =
      ap (λ (t : DumpTotals). t.sectors.good) (numbers.totals_are ∙ ap (λ (o : DumpsRead). o.totals) read.is) ∙ totals_good read.parts part_good
      ∙ sym (ap (λ (t : DumpTotals). t.sectors.sectors) (numbers.totals_are ∙ ap (λ (o : DumpsRead). o.totals) read.is))
