-- What the lines of a disk's report tell that was read by a plan.
use Rattle.std.specs.Prelude.{◌≡◌, ◌≤◌, ◌<◌, ◌^◌, ℕ, suc, ◌+◌, ◌*◌, List, [], ◌∷◌, ◌++◌, get_or, length, unwrap_or, Option, refl}
use Rattle.std.proofs.Common.{ap, sym, subst, ◌∙◌, arith, length-append, lit<}
use Rattle.flux_base.specs.declared.track.TrackId.{TrackId}
use Rattle.disk_recordings.specs.Laws.{TracksAreRead}
use Rattle.kryo_stream.specs.Growth.{StreamsAreShort}
use Rattle.phase_loop.specs.Sizes.{CellsAreFew}
use Rattle.sector_images.specs.Places.{IsSector, IsTrack, TracksKeepBounds, tracks}
use Rattle.sector_images.specs.declared.format.Format.{Format}
use Rattle.sector_report.specs.LineLaws.{LineFits, SectorLinesTell, SourceFits, TotalsAreNoSectors, TotalsHaveOneLine, line_ends}
use Rattle.sector_report.specs.Lines.{named_text}
use Rattle.sector_report.specs.declared.naming.Naming.{Naming}
use Rattle.sector_report.specs.declared.naming.Naming.TheVariants.{ByCapture, ByCaptureAndClock, ByClock, Unnamed}
use Rattle.turn_merge.specs.Readings.{NotedReading, verdict}
use Rattle.turn_merge.specs.declared.clock.Clock.{Clock}
use Rattle.turn_merge.specs.declared.clock.Clock.TheVariants.{Following, Held}
use Rattle.turn_merge.specs.declared.verdict.Place.{Place}
use Rattle.turn_merge.specs.declared.verdict.Verdict.{Verdict}
use Rattle.turn_merge.specs.declared.verdict.Verdict.TheVariants.{Good}
use Rattle.flux_engine.specs.Captured.{AreReadingsBy, IsUsed, joined_by}
use Rattle.flux_engine.specs.DiskLaws.{HasLine, bytes_at, line_number, sectors_before, total_lines}
use Rattle.flux_engine.specs.Disks.{last_line, lines, totals_over}
use Rattle.flux_engine.specs.PlanLaws.{IsRightlyGood}
use Rattle.flux_engine.specs.Plans.{IsPlanned, Planned, Streams, joined, planned_count}
use Rattle.flux_engine.specs.Recordings.{track_at}
use Rattle.flux_engine.specs.Streams.{stream_at}
use Rattle.flux_engine.specs.Tracks.{part_by}
use Rattle.flux_engine.specs.declared.plan.Clocks.{Clocks}
use Rattle.flux_engine.specs.declared.plan.Clocks.TheVariants.{Both, FollowingAlone}
use Rattle.flux_engine.specs.declared.plan.Plan.{Plan}
use Rattle.flux_engine.specs.declared.plan.Rule.{Rule}
use Rattle.flux_engine.specs.declared.plan.Rule.TheVariants.{Strict}
use Rattle.flux_engine.specs.lemmas.Each.{Each, each-append}
use Rattle.flux_engine.specs.lemmas.JoinedReadings.{each_joined}
use Rattle.flux_engine.specs.lemmas.ReportLines.{IsLineOf, ends_report, last_ends, line_count, line_of_sector}
use Rattle.flux_engine.specs.lemmas.VerdictBounds.{FewFit, ReadingFits, few_fit, readings_fit}
use Rattle.law_captured_plans.specs.Said.{AreShort, GoodLinesAreRight, InputsAreShort, IsToldBy, LinesTellInPlans, PlannedReportsHaveNoOtherLines, TellsSources}
use Rattle.law_captured_plans.proofs.Sectors.{few, plan_lines, plan_readings, said, said-captures, Laws as SectorLaws}

-- what the crates below promise
pub record Laws : Type 0 where
  pub sectors : SectorLaws
  pub read : TracksAreRead
  pub total_one : TotalsHaveOneLine
  pub tell : SectorLinesTell
  pub no_sector : TotalsAreNoSectors
  pub keep : TracksKeepBounds
  pub cells_few : CellsAreFew

-- the one clock of those that is alone
following_alone : (clocks : Clocks) (clock : Clock) → clocks ≡ FollowingAlone → IsUsed clocks clock → clock ≡ Following
following_alone FollowingAlone Following alone used = refl
following_alone FollowingAlone Held alone used = absurd used
following_alone Both clock alone used = absurd (cc)

-- what a line names of a source fits, and what it does not name is known
source_fits : (naming : Naming) (captures : ℕ) (clocks : Clocks) → TellsSources naming captures clocks → captures ≤ 16 → (place : Place)
    → place.capture < captures → IsUsed clocks place.clock → SourceFits naming place
source_fits Unnamed captures clocks tells most place low used =
    (omega (arith, low, tells.0), following_alone clocks place.clock tells.1 used)
source_fits ByCapture captures clocks tells most place low used =
    let small : 16 < 2 ^ 64 = lit< tt in
    (omega (arith, low, most, small), following_alone clocks place.clock tells used)
source_fits ByClock captures clocks tells most place low used = omega (arith, low, tells)
source_fits ByCaptureAndClock captures clocks tells most place low used =
    let small : 16 < 2 ^ 64 = lit< tt in
    omega (arith, low, most, small)

-- what is read of a capture by its clocks
record CaptureFits (naming : Naming) (readings : List NotedReading) : Type 0 where
  few : length readings ≤ 268435456
  fit : Each (ReadingFits naming) readings

by_clocks : (naming : Naming) (clocks : Clocks) (by_clock : Clock → List NotedReading) → ((clock : Clock) → IsUsed clocks clock → FewFit naming (by_clock clock))
    → CaptureFits naming (joined_by clocks by_clock)
by_clocks naming FollowingAlone by_clock each = (let one = each Following tt in record { few = omega (arith, one.few); fit = one.fit })
by_clocks naming Both by_clock each =
    let one = each Following tt in
    let other = each Held tt in
    let both = length-append (by_clock Following) (by_clock Held) in
    record {
      few = omega (arith, one.few, other.few, both);
      fit = each-append (ReadingFits naming) (by_clock Following) (by_clock Held) one.fit other.fit;
    }

joined_few : (captures : List (List NotedReading)) → ((q : ℕ) → q < length captures → length (get_or captures q []) ≤ 268435456)
    → length (joined captures) ≤ 268435456 * length captures
joined_few [] each = omega arith
joined_few (noted ∷ captures) each =
    let here = each 0 (omega arith) in
    let rest = joined_few captures (λ q low. each (suc q) (omega (arith, low))) in
    let both = length-append noted (joined captures) in
    omega (arith, here, rest, both)

module _ (laws : Laws) (plan : Plan) (format : Format) (streams : Streams) (o : Planned) (is : IsPlanned plan (part_by plan.naming) format streams o) where
  abbrev last : List ℕ
  last = last_line (totals_over is.parts) o.stop

  notes_are : o.notes ≡ lines is.parts ++ last
  notes_are = ap (λ (d : Planned). d.notes) is.is

  abbrev no_more : length is.parts ≤ length (tracks format)
  no_more = few laws.sectors plan format streams o is

  count : line_ends o.notes ≡ sectors_before format (planned_count format o.stop) + total_lines o.stop
  count =
      ap line_ends notes_are
      ∙ line_count laws.sectors.one laws.total_one format is.parts no_more plan.naming (plan_readings laws.sectors plan format streams o is)
      (plan_lines laws.sectors plan format streams o is) last
      ∙ ap (λ (n : ℕ). sectors_before format n + line_ends last) is.many
      ∙ ap (λ (n : ℕ). sectors_before format (planned_count format o.stop) + n) (last_ends laws.total_one (totals_over is.parts) o.stop)

  module _ (most : plan.captures ≤ 16) (strict : plan.rule ≡ Strict) (tells : TellsSources plan.naming plan.captures plan.clocks) (short : AreShort streams) where
    capture_fits : (n : ℕ) (low : n < length is.parts) (q : ℕ) (within : q < length (is.each n low).captures)
        → CaptureFits plan.naming (get_or (is.each n low).captures q [])
    capture_fits n low q within =
        let part = is.each n low in
        let of_plan : q < plan.captures = omega (arith, within, part.many) in
        let few_there = short n q (part.no_fault q of_plan) in
        let noted = part.each q within in
        subst (CaptureFits plan.naming) (sym noted.are)
        (by_clocks plan.naming plan.clocks noted.by_clock
        (λ clock used.
        few_fit laws.read laws.cells_few plan.naming clock format (track_at format n) (streams n q).times (streams n q).indexes q (noted.by_clock clock)
        few_there.0 few_there.1 (λ place. source_fits plan.naming plan.captures plan.clocks tells most _ of_plan used)
        (subst (λ (rule : Rule). AreReadingsBy rule clock format (track_at format n) (streams n q).times (streams n q).indexes q (noted.by_clock clock)) strict
        (noted.each clock used))))

    own : (n : ℕ) (low : n < length is.parts) (s : ℕ) → IsSector format (track_at format n) s
        → LineFits plan.naming (track_at format n) s (verdict (plan_readings laws.sectors plan format streams o is n low) s)
    own n low s known =
        let named = laws.sectors.names format n (omega (arith, low, no_more)) in
        let track_is : track_at format n ≡ named.0 = ap (λ (found : Option TrackId). unwrap_or found (record { cylinder = 0; head = 0 })) named.1 in
        let bounds = laws.keep format (track_at format n) (subst (IsTrack format) (sym track_is) named.2) in
        let part = is.each n low in
        let all = joined_few part.captures (λ q within. (capture_fits n low q within).few) in
        record {
          cylinder_fits = bounds.cylinder;
          head_fits = omega (arith, bounds.head);
          sector_fits = omega (arith, known.1, bounds.numbers);
          verdict_fits =
              readings_fit plan.naming 4294967296 (lit< tt) (joined part.captures) s (omega (arith, all, part.many, most))
              (each_joined (ReadingFits plan.naming) part.captures (λ q within. (capture_fits n low q within).fit));
        }

    module _ (track : TrackId) (sector : ℕ) (outcome : Verdict) (number : ℕ) (fits : LineFits plan.naming track sector outcome)
        (h : HasLine o.notes (named_text plan.naming track sector outcome) number) where
      line : IsLineOf format (length is.parts) (plan_readings laws.sectors plan format streams o is) track sector outcome number
      line =
          line_of_sector laws.sectors.one laws.total_one format is.parts no_more plan.naming (plan_readings laws.sectors plan format streams o is)
          (plan_lines laws.sectors plan format streams o is) last (ends_report (totals_over is.parts) o.stop) laws.tell laws.no_sector own track sector outcome number
          fits (subst (λ (text : List ℕ). HasLine text (named_text plan.naming track sector outcome) number) notes_are h)

      told : IsToldBy plan format streams o (line_number format) track sector outcome number
      told = record {
        n = line.n;
        track_is = line.track_is;
        low = omega (arith, line.low, is.many);
        known = line.known;
        said = said laws.sectors plan format streams o is line.n line.low sector line.known;
        is =
            ap (λ (captures : List (List NotedReading)). verdict (joined captures) sector)
            (said-captures laws.sectors plan format streams o is line.n line.low sector line.known)
            ∙ line.outcome_is;
        number_is = line.number_is;
      }

    rightly : (track : TrackId) (sector good bad : ℕ) (first : Place) (number : ℕ) → LineFits plan.naming track sector (Good good bad first)
        → HasLine o.notes (named_text plan.naming track sector (Good good bad first)) number
        → (n : ℕ) × (track ≡ track_at format n) × IsRightlyGood plan format streams n (bytes_at format o.image (track_at format n) sector) sector first
    rightly track sector good bad first number fits h =
        let t = told track sector (Good good bad first) number fits h in
        let right = laws.sectors.good plan format streams t.n t.said.captures t.said.many t.said.each sector good bad first t.is in (
          t.n,
          t.track_is,
          record {
            bytes = right.bytes;
            size = right.size;
            named = right.named;
            in_image = t.said.held ∙ right.in_image;
            agreed = right.agreed;
          },
        )

pub reports_have_no_other_lines : Laws → PlannedReportsHaveNoOtherLines
reports_have_no_other_lines laws plan format streams o is = count laws plan format streams o is

pub inputs_are_short : StreamsAreShort → InputsAreShort
inputs_are_short short plan x n q no_fault = short (stream_at x (n * plan.captures + q)) no_fault

pub lines_tell : Laws → LinesTellInPlans
lines_tell laws plan format streams o most strict tells short is track sector outcome number fits h =
    told laws plan format streams o is most strict tells short track sector outcome number fits h

pub good_lines_are_right : Laws → GoodLinesAreRight
good_lines_are_right laws plan format streams o most strict tells short is track sector good bad first number fits h =
    rightly laws plan format streams o is most strict tells short track sector good bad first number fits h
