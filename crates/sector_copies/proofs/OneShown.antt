-- The files, and which of them failed, decide what is shown of a sector.
use Rattle.std.specs.Prelude.{◌≡◌, ◌<◌, ℕ, ◌+◌, ◌*◌, List, [], length, Option, None, Some, Result, refl}
use Rattle.std.proofs.Common.{ap, arith, subst, sym, ◌∙◌}
use Rattle.std.proofs.lemmas.List.{ext_get_or}
use Rattle.scp_files.specs.declared.fault.ScpTrackFault.{ScpTrackFault}
use Rattle.track_shelf.specs.Files.{File}
use Rattle.turn_merge.specs.Readings.{NotedReading, good_ones, verdict}
use Rattle.turn_merge.specs.declared.verdict.Verdict.{Verdict}
use Rattle.flux_engine.specs.LoopProgress.{lost_count, seen_at}
use Rattle.flux_engine.specs.Plans.{Seen, joined, passed_to}
use Rattle.flux_engine.specs.declared.gathered_track.PassedStream.{PassedStream}
use Rattle.dump_reading.specs.DumpStreams.{FailedAlike, IsOrFailed, seen_of, track_in}
use Rattle.dump_reading.specs.lemmas.Alike.{one-stream}
use Rattle.sector_copies.specs.Copies.{Copy, copies_over}
use Rattle.sector_copies.specs.Laws.{AreReadingsOfCame, ShownIsOne}
use Rattle.sector_copies.specs.Shown.{IsSectorShown, SectorAsked, SectorShown, shown_of}
use Rattle.sector_copies.specs.TrackReadings.{of_track, streams_of}

abbrev no_seen : Seen
no_seen = record { fault = None; passed = None; times = []; indexes = [] }

module _ (asked : SectorAsked) (files : List File) (a b : SectorShown) (p : IsSectorShown asked (Some files) a) (q : IsSectorShown asked (Some files) b) (alike : FailedAlike p.came q.came) where
  abbrev count : ℕ
  count = length asked.disk.dumps

  abbrev of_file : ℕ → Option (Result (List ℕ) ScpTrackFault)
  of_file k = track_in asked.disk.stepping asked.disk.dumps files ((of_track asked.disk asked.number).track_of 0) k

  at : (o : SectorShown) (is : IsSectorShown asked (Some files) o) (k : ℕ) → k < count → IsOrFailed (seen_at is.came k) (seen_of (of_file k))
  at o is k few =
      let place : 0 * count + k ≡ k = omega arith in
      let many = is.many in
      let within : 0 * count + k < length is.came = omega (arith, many, few) in
      subst (λ (i : ℕ). IsOrFailed (seen_at is.came i) (seen_of (of_file k))) place (is.are files refl 0 k few few within)

  same_came : p.came ≡ q.came
  same_came = ext_get_or no_seen p.came q.came (p.many ∙ sym q.many)
      (λ k low. let few : k < count = subst (λ (n : ℕ). k < n) p.many low in one-stream (of_file k) (seen_at p.came k) (seen_at q.came k) (at a p k few) (at b q k few)
      (alike k low (let many = q.many in omega (arith, many, few))))

  module _ (captures : List (List NotedReading)) (all : AreReadingsOfCame asked p.came captures) where
    abbrev Outcome : Verdict
    Outcome = verdict (joined captures) asked.sector

    abbrev Passed : List Seen → List PassedStream
    Passed came = passed_to (streams_of came) asked.number count

    told : (o : SectorShown) (is : IsSectorShown asked (Some files) o) → AreReadingsOfCame asked is.came captures
        → o ≡ shown_of asked (Passed is.came) (lost_count is.came) Outcome (copies_over (good_ones (joined captures) asked.sector))
    told o is mine =
        let said = is.tells captures mine.many mine.each in
        is.is
        ∙ ap (λ (v : Verdict). shown_of asked (Passed is.came) (lost_count is.came) v is.copies) said.verdict_is
        ∙ ap (λ (cs : List Copy). shown_of asked (Passed is.came) (lost_count is.came) Outcome cs) said.copies_are

    pub one : a ≡ b
    one =
        told a p all
        ∙ ap (λ (came : List Seen). shown_of asked (Passed came) (lost_count came) Outcome (copies_over (good_ones (joined captures) asked.sector))) same_came
        ∙ sym (told b q (subst (λ (came : List Seen). AreReadingsOfCame asked came captures) same_came all))

pub shown_is_one : ShownIsOne
shown_is_one asked files a b p q alike captures all = one asked files a b p q alike captures all
