-- What a decoded disk says of its sectors: what it says as one that is read by the plan of one stream.
use Rattle.std.specs.Prelude.{◌≡◌, ◌≤◌, ◌<◌, ℕ, zero, suc, ◌+◌, ◌*◌, false, List, drop, replicate, unwrap_or, Option, Some, None, refl}
use Rattle.std.proofs.Common.{ap, sym, subst, ◌∙◌, arith}
use Rattle.disk_recordings.specs.Laws.{TracksAreRead}
use Rattle.disk_recordings.specs.Members.{sector_at}
use Rattle.kryo_stream.specs.Stream.{times, indexes}
use Rattle.sector_images.specs.Formats.{row}
use Rattle.sector_images.specs.declared.format.Format.{Format}
use Rattle.sector_report.specs.LineLaws.{line_ends}
use Rattle.sector_report.specs.Lines.{named_text, sector_text}
use Rattle.sector_report.specs.declared.naming.Naming.TheVariants.{Unnamed}
use Rattle.turn_merge.specs.Readings.{NotedReading, verdict}
use Rattle.turn_merge.specs.declared.clock.Clock.{Clock}
use Rattle.turn_merge.specs.declared.clock.Clock.TheVariants.{Following, Held}
use Rattle.turn_merge.specs.declared.verdict.Place.{Place}
use Rattle.turn_merge.specs.declared.verdict.Verdict.{Verdict}
use Rattle.turn_merge.specs.declared.verdict.Verdict.TheVariants.{Good}
use Rattle.flux_engine.specs.Captured.{IsUsed}
use Rattle.flux_engine.specs.DiskLaws.{HasLine, bytes_at, cells_at, line_number, sectors_before, total_lines}
use Rattle.flux_engine.specs.PlanLaws.{GoodIsRightInPlans}
use Rattle.flux_engine.specs.Plans.{Planned, decoding, joined, planned_count, streams_in}
use Rattle.flux_engine.specs.Recordings.{cells_by, cells_of, track_at}
use Rattle.flux_engine.specs.Streams.{stream_at}
use Rattle.flux_engine.specs.Tracks.{Found, is_good, place_at, place_in, readings_of}
use Rattle.flux_engine.specs.declared.fault.RefusedCapture.{RefusedCapture}
use Rattle.flux_engine.specs.declared.plan.Clocks.TheVariants.{FollowingAlone}
use Rattle.flux_engine.specs.lemmas.NoneAgreed.{none_agreed}
use Rattle.law_captured_plans.specs.Said.{InputsAreShort, IsSaid, LinesTellInPlans, PlannedReportsHaveNoOtherLines, SectorsAreSaid}
use Rattle.library_calls.specs.DiskLaws.{EachHasOneVerdict, GoodIsRightOnDisks, HasOneVerdict, HasVerdict, IsDecodedSector, IsRightlyGoodOnDisk, LinesNameVerdicts, LinesTellVerdicts, OthersAreZeros, ReportsHaveNoOtherLines}
use Rattle.library_calls.specs.Disks.{Decoded, decoded_count}
use Rattle.library_calls.proofs.DecodedPlans.{is_planned, plain, same_count}
use Rattle.library_calls.proofs.OneStream.{number-is, one_list, plain_stop}

-- all that can be read of a track is one list
module _ (read : TracksAreRead) (format : Format) (x : List ℕ) (n sector : ℕ) where
  pub one_verdict : (a b : Verdict) → HasVerdict format x n sector a → HasVerdict format x n sector b → a ≡ b
  one_verdict a b p q =
      sym p.is
      ∙ ap (λ (found : List Found). verdict (readings_of (times (stream_at x n)) (indexes (stream_at x n)) (cells_at format x n) found) sector)
      (read.one format (track_at format n) (cells_at format x n) 0 p.found q.found p.all q.all)
      ∙ q.is

-- the verdict over the readings of its one capture
verdict_of : (format : Format) (x : List ℕ) (o : Planned) (n sector number : ℕ) (said : IsSaid decoding format (streams_in decoding x) o n sector number)
    → HasVerdict format x n sector (verdict (joined said.captures) sector)
verdict_of format x o n sector number said =
    let at = one_list format x n said.captures said.many said.each in
    record { found = at.found; all = at.all; is = ap (λ (readings : List NotedReading). verdict readings sector) (sym at.are) }

-- the tracks that are decoded are those that are read
count_is : (format : Format) (d : Decoded) (o : Planned) → d ≡ plain o → decoded_count format d.stop ≡ planned_count format o.stop
count_is format d o same = ap (λ (e : Decoded). decoded_count format e.stop) same ∙ sym (same_count format o.stop)

module _ (read : TracksAreRead) (said : SectorsAreSaid) (format : Format) (x : List ℕ) (d : Decoded) (n sector : ℕ) (s : IsDecodedSector format x d n sector) where
  abbrev o : Planned
  o = (is_planned format x d s.outcome).0

  same : d ≡ plain o
  same = (is_planned format x d s.outcome).2

  here : IsSaid decoding format (streams_in decoding x) o n sector (line_number format n sector)
  here =
      let count = count_is format d o same in
      said decoding format (streams_in decoding x) o (is_planned format x d s.outcome).1 n sector (omega (arith, s.track_decoded, count)) s.sector_known

  abbrev readings : List NotedReading
  readings = joined here.captures

  mine : HasVerdict format x n sector (verdict readings sector)
  mine = verdict_of format x o n sector (line_number format n sector) here

  has_one : HasOneVerdict format x n sector
  has_one = record { outcome = verdict readings sector; has = mine; only = λ other has. one_verdict read format x n sector other (verdict readings sector) has mine }

  module _ (outcome : Verdict) (h : HasVerdict format x n sector outcome) where
    is : verdict readings sector ≡ outcome
    is = one_verdict read format x n sector (verdict readings sector) outcome mine h

    has_line : HasLine d.notes (sector_text (track_at format n) sector outcome) (line_number format n sector)
    has_line =
        subst (λ (e : Decoded). HasLine e.notes (sector_text (track_at format n) sector outcome) (line_number format n sector)) (sym same)
        (subst (λ (v : Verdict). HasLine o.notes (named_text Unnamed (track_at format n) sector v) (line_number format n sector)) is here.line)

    zeros : is_good outcome ≡ false → bytes_at format d.image (track_at format n) sector ≡ replicate (row format).sector_size 0
    zeros other =
        ap (λ (e : Decoded). bytes_at format e.image (track_at format n) sector) same ∙ here.held
        ∙ ap (λ (held : Option (List ℕ)). unwrap_or held (replicate (row format).sector_size 0)) (none_agreed readings sector outcome is other)

  -- a place of its one capture, by the one clock
  module _ (first : Place) (bytes : List ℕ) where
    abbrev IsThere : (k : ℕ) → ℕ → Clock → (place : ℕ) → Type 0
    IsThere k q clock place =
        (first ≡ place_in q clock (times (stream_at x k)) (indexes (stream_at x k)) (cells_by clock format (track_at format n) (times (stream_at x k)) (indexes (stream_at x k))) place)
        × sector_at format (track_at format n) (drop place (cells_by clock format (track_at format n) (times (stream_at x k)) (indexes (stream_at x k)))) sector bytes

    abbrev StandsThere : Type 0
    StandsThere =
        sector_at format (track_at format n) (drop first.cell (cells_at format x n)) sector bytes
        × (first ≡ place_at (times (stream_at x n)) (indexes (stream_at x n)) (cells_at format x n) first.cell)

    named_there : (q : ℕ) (clock : Clock) (place : ℕ) → q < 1 → IsUsed FollowingAlone clock → IsThere (n * 1 + q) q clock place → StandsThere
    named_there zero Following place low used at =
        let there : IsThere n 0 Following place = subst (λ (k : ℕ). IsThere k 0 Following place) (number-is n) at in
        let cell : first.cell ≡ place = ap (λ (p : Place). p.cell) there.0 in (
          subst (λ (c : ℕ). sector_at format (track_at format n) (drop c (cells_at format x n)) sector bytes) (sym cell) there.1,
          subst (λ (c : ℕ). first ≡ place_at (times (stream_at x n)) (indexes (stream_at x n)) (cells_at format x n) c) (sym cell) there.0,
        )
    named_there zero Held place low used at = absurd used
    named_there (suc q) clock place low used at = absurd (omega (arith, low))

  good : GoodIsRightInPlans → (good bad : ℕ) (first : Place) → HasVerdict format x n sector (Good good bad first) → IsRightlyGoodOnDisk format x d.image n sector first
  good right g b first h =
      let r = right decoding format (streams_in decoding x) n here.captures here.many here.each sector g b first (is (Good g b first) h) in
      let there = named_there first r.bytes r.named.capture r.named.clock r.named.place r.named.low r.named.used (r.named.is, r.named.stands) in
      let one : 0 < 1 = omega arith in
      record {
        bytes = r.bytes;
        stands = there.0;
        turn = there.1;
        size = r.size;
        in_image = ap (λ (e : Decoded). bytes_at format e.image (track_at format n) sector) same ∙ here.held ∙ r.in_image;
        agreed = λ place others at.
            r.agreed 0 Following place others one tt
            (subst (λ (k : ℕ). sector_at format (track_at format n) (drop place (cells_of format (track_at format n) (times (stream_at x k)) (indexes (stream_at x k)))) sector others)
            (sym (number-is n)) at);
      }

pub each_has_one_verdict : TracksAreRead → SectorsAreSaid → EachHasOneVerdict
each_has_one_verdict read said format x d n sector s = has_one read said format x d n sector s

pub lines_name_verdicts : TracksAreRead → SectorsAreSaid → LinesNameVerdicts
lines_name_verdicts read said format x d n sector s outcome h = has_line read said format x d n sector s outcome h

pub good_is_right_on_disks : TracksAreRead → SectorsAreSaid → GoodIsRightInPlans → GoodIsRightOnDisks
good_is_right_on_disks read said right format x d n sector s g b first h = good read said format x d n sector s right g b first h

pub others_are_zeros : TracksAreRead → SectorsAreSaid → OthersAreZeros
others_are_zeros read said format x d n sector s outcome h other = zeros read said format x d n sector s outcome h other

same_total : (stop : Option RefusedCapture) → total_lines (plain_stop stop) ≡ total_lines stop
same_total None = refl
same_total (Some s) = refl

pub reports_have_no_other_lines : PlannedReportsHaveNoOtherLines → ReportsHaveNoOtherLines
reports_have_no_other_lines count format x d is =
    let planned = is_planned format x d is in
    let o : Planned = planned.0 in
    ap (λ (e : Decoded). line_ends e.notes) planned.2
    ∙ count decoding format (streams_in decoding x) o planned.1
    ∙ ap (λ (m : ℕ). sectors_before format m + total_lines o.stop) (sym (count_is format d o planned.2))
    ∙ ap (λ (m : ℕ). sectors_before format (decoded_count format d.stop) + m) (sym (ap (λ (e : Decoded). total_lines e.stop) planned.2 ∙ same_total o.stop))

pub lines_tell_verdicts : LinesTellInPlans → InputsAreShort → LinesTellVerdicts
lines_tell_verdicts tell short format x d is track sector outcome number fits h =
    let planned = is_planned format x d is in
    let o : Planned = planned.0 in
    let one : 1 ≤ 1 = omega arith in
    let t = tell decoding format (streams_in decoding x) o (omega arith) refl (one, refl) (short decoding x) planned.1 track sector outcome number fits
    (subst (λ (e : Decoded). HasLine e.notes (sector_text track sector outcome) number) planned.2 h) in
    let count = count_is format d o planned.2 in
    record {
      n = t.n;
      track_is = t.track_is;
      decoded = record { outcome = is; track_decoded = omega (arith, t.low, count); sector_known = t.known };
      has = subst (HasVerdict format x t.n sector) t.is (verdict_of format x o t.n sector (line_number format t.n sector) t.said);
      number_is = t.number_is;
    }
