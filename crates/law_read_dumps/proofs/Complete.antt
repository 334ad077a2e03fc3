-- Dumps that the numbers call complete, and what is read of them.
use Rattle.std.specs.Prelude.{◌≡◌, ◌==◌, ◌≤◌, ◌<◌, ℕ, ◌+◌, true, IsTrue, count_by, get_or, length, List, [], map, Option, refl}
use Rattle.std.proofs.Common.{ap, sym, subst, ◌∙◌, arith}
use Rattle.std.proofs.lemmas.Bool.{and_from, and_parts, eq-eqb, eqb-true, lt-ltb}
use Rattle.std.proofs.lemmas.List.{length-map}
use Rattle.std.proofs.lemmas.List.FromFn.{length-range_with_len}
use Rattle.std.proofs.lemmas.List.Sums.{count_by-le-length, get_or-le-sum_by, sum_by-append}
use Rattle.disk_recordings.specs.Members.{as_controllers_read, header_at}
use Rattle.dump_reading.specs.Beside.{beside_at, beside_tracks, captures_at, looks_beside, near_track}
use Rattle.dump_reading.specs.Outcomes.{DumpDisk, DumpsRead, IsDumpsRead, numbers_of, plan_of}
use Rattle.dump_reading.specs.Reports.{read_part}
use Rattle.dump_reading.specs.Totals.{is_complete}
use Rattle.dump_reading.specs.declared.looks.Looks.{Looks}
use Rattle.dump_reading.specs.declared.looks.Looks.TheVariants.{Always, WhereGood}
use Rattle.dump_reading.specs.declared.totals.DumpTotals.{DumpTotals}
use Rattle.dump_reading.specs.lemmas.Looked.{looked-all}
use Rattle.flux_base.specs.declared.track.TrackId.{TrackId}
use Rattle.flux_engine.specs.Counts.{whole_count, whole_names_of}
use Rattle.flux_engine.specs.Disks.{part_at, totals_over}
use Rattle.flux_engine.specs.LoopProgress.{streams_over}
use Rattle.flux_engine.specs.PlanLaws.{ReadingsInPlansAreOne}
use Rattle.flux_engine.specs.Plans.{IsPlannedPart, Seen, Streams, joined}
use Rattle.flux_engine.specs.Recordings.{sectors_of, track_at}
use Rattle.flux_engine.specs.Rules.{no_header}
use Rattle.flux_engine.specs.Tracks.{TrackPart, is_good, numbers}
use Rattle.flux_engine.specs.lemmas.Each.{Each}
use Rattle.flux_engine.specs.lemmas.PartLaws.{no_part}
use Rattle.flux_engine.specs.lemmas.TrackAt.{is_known_at}
use Rattle.law_captured_disks.specs.Headline.{IsSectorOf}
use Rattle.law_captured_disks.specs.lemmas.Totals.{all_counted, totals_good}
use Rattle.sector_images.specs.Places.{FormatsHaveTracks, NumbersNameTracks, TracksKeepBounds, tracks}
use Rattle.sector_images.specs.declared.format.Format.{Format}
use Rattle.sector_report.specs.declared.totals.Totals.{Totals}
use Rattle.track_shelf.specs.Files.{File}
use Rattle.turn_merge.specs.Others.{DataAreKnown, NotedOther, has_untold, others_over}
use Rattle.turn_merge.specs.Readings.{NotedReading, verdict}
use Rattle.turn_merge.specs.declared.verdict.Verdict.{Verdict}
use Rattle.turn_merge.specs.declared.verdict.Verdict.TheVariants.{Bad, Contradictory, Good, Missing}
use Rattle.law_captured_plans.specs.Said.{IsSaid, IsSaidGood}
use Rattle.law_read_dumps.specs.Complete.{CompleteIsAll, IsAllRead}
use Rattle.law_read_dumps.specs.Lines.{EachIsSaid, line_number}
use Rattle.law_read_dumps.specs.Said.{as_planned}
use Rattle.law_read_dumps.proofs.GoodTotals.{each_counted, each_part}
use Rattle.law_read_dumps.proofs.OtherData.{AreNotedTo, IsBare, NoneIn, bare_in, none_in, noted_names, noted_others}
use Rattle.law_read_dumps.proofs.Streams.{captures_are}
use Rattle.law_read_dumps.proofs.WholeCounts.{none-whole, whole-none}

-- what the crates below promise, and the law before
pub record Laws : Type 0 where
  pub readings : ReadingsInPlansAreOne
  pub said : EachIsSaid
  pub known : DataAreKnown
  pub numbers : NumbersNameTracks
  pub some : FormatsHaveTracks
  pub keep : TracksKeepBounds

-- where a sector is good, the tracks beside the format's are looked at, whenever that is
looks_good : (looks : Looks) (sectors : Totals) → 0 < sectors.good → looks_beside looks sectors ≡ true
looks_good Always sectors some = refl
looks_good WhereGood sectors some = lt-ltb 0 sectors.good some

-- a verdict that is good
good_by : (disk : DumpDisk) (came : Streams) (o : DumpsRead) (n sector number : ℕ) (said : IsSaid (plan_of disk) disk.format came (as_planned o) n sector number)
    → (v : Verdict) → verdict (joined said.captures) sector ≡ v → is_good v ≡ true → (number : ℕ) × IsSaidGood (plan_of disk) disk.format came (as_planned o) n sector number
good_by disk came o n sector number said (Good g b place) same good =
    (number, record { said = said; good = g; bad = b; first = place; is = same })
good_by disk came o n sector number said (Contradictory g b first other) same good = absurd (cc)
good_by disk came o n sector number said (Bad b first) same good = absurd (cc)
good_by disk came o n sector number said Missing same good = absurd (cc)

module _ (laws : Laws) (disk : DumpDisk) (shelf : Option (List File)) (o : DumpsRead) (is : IsDumpsRead disk shelf o) where
  abbrev format : Format
  format = disk.format

  abbrev came : Streams
  came = streams_over (plan_of disk) is.streams

  abbrev part : ℕ → TrackPart
  part n = part_at is.parts n

  abbrev IsGood : (n sector : ℕ) → Type 0
  IsGood n sector = (number : ℕ) × IsSaidGood (plan_of disk) format came (as_planned o) n sector number

  module _ (n : ℕ) (low : n < length is.parts) where
    abbrev at : IsPlannedPart (plan_of disk) read_part format came n (part n)
    at = is.all.read.each n low

    abbrev verdict_of : ℕ → Verdict
    verdict_of sector = verdict (joined at.captures) sector

    abbrev verdicts : List Verdict
    verdicts = map verdict_of (numbers (sectors_of format (track_at format n)))

    good_is : (part n).totals.good ≡ count_by is_good verdicts
    good_is = ap (λ (p : TrackPart). p.totals.good) at.is

    sectors_is : (part n).totals.sectors ≡ length verdicts
    sectors_is = ap (λ (p : TrackPart). p.totals.sectors) at.is

    part_few : (part n).totals.good ≤ (part n).totals.sectors
    part_few = omega (arith, good_is, sectors_is, count_by-le-length is_good verdicts)

    -- as many as there are
    part_good : (part n).totals.good ≡ (part n).totals.sectors → (sector : ℕ) → IsSectorOf format n sector → IsGood n sector
    part_good all sector one =
        let said = laws.said disk shelf o is n sector one in
        let good : is_good (verdict_of sector) ≡ true =
        each_counted verdict_of (sectors_of format (track_at format n)).first (sectors_of format (track_at format n)).count (sym good_is ∙ all ∙ sectors_is) sector one.known.0 one.known.1 in
        let same : verdict (joined said.captures) sector ≡ verdict_of sector =
        ap (λ (cs : List (List NotedReading)). verdict (joined cs) sector) (captures_are laws.readings disk shelf o is n sector (line_number disk came is.others n sector) low said) in
        good_by disk came o n sector (line_number disk came is.others n sector) said (verdict_of sector) same good

    good_part : ((sector : ℕ) → IsSectorOf format n sector → IsGood n sector) → (part n).totals.good ≡ (part n).totals.sectors
    good_part each =
        good_is
        ∙ all_counted verdict_of (sectors_of format (track_at format n)).first (sectors_of format (track_at format n)).count
        (λ sector least most.
        let here = each sector (record { track = omega (arith, low, is.all.many); known = (least, most) }) in
        let same : verdict_of sector ≡ verdict (joined here.1.said.captures) sector =
        sym (ap (λ (cs : List (List NotedReading)). verdict (joined cs) sector) (captures_are laws.readings disk shelf o is n sector here.0 low here.1.said)) in
        ap is_good (same ∙ here.1.is))
        ∙ sym sectors_is

    abbrev others : List NotedOther
    others = get_or is.others n []

    noted : AreNotedTo disk (track_at format n) (header_at (as_controllers_read format) (track_at format n)) (came n) (length disk.dumps) others
    noted = noted_others disk came n (length disk.dumps) others (is.all.others_are n (omega (arith, low, is.all.many, is.all.many_others)))

    abbrev NoneOn : Type 0
    NoneOn = NoneIn disk (track_at format n) (header_at (as_controllers_read format) (track_at format n)) (came n) (length disk.dumps)

    none_on : Each IsBare others → NoneOn
    none_on bare = none_in disk (track_at format n) (header_at (as_controllers_read format) (track_at format n)) (came n) (length disk.dumps) others noted bare

    all_bare : NoneOn → Each IsBare others
    all_bare none = bare_in disk (track_at format n) (header_at (as_controllers_read format) (track_at format n)) (came n) (length disk.dumps) others noted none

  -- a disk has a sector, so where all are good one is, and each track beside the format's was looked at
  some_sector : 0 < (totals_over is.parts).sectors
  some_sector =
      let track_low : 0 < length (tracks format) = laws.some format in
      let low : 0 < length is.parts = omega (arith, track_low, is.all.many) in
      let named = laws.numbers format 0 track_low in
      let bounds = laws.keep format (track_at format 0) (is_known_at format 0 named.0 named.1 named.2) in
      let here : (part 0).totals.sectors ≡ (sectors_of format (track_at format 0)).count =
      sectors_is 0 low
      ∙ length-map (numbers (sectors_of format (track_at format 0))) (verdict_of 0 low)
      ∙ length-range_with_len (sectors_of format (track_at format 0)).first (sectors_of format (track_at format 0)).count in
      let less = get_or-le-sum_by (λ (p : TrackPart). p.totals.sectors) is.parts 0 no_part low in
      omega (arith, bounds.some, here, less)

  all_looked : (totals_over is.parts).good ≡ (totals_over is.parts).sectors → length is.beside.others ≡ length (beside_tracks disk.stepping format)
  all_looked good =
      looked-all disk shelf is.beside (totals_over is.parts) is.looked (looks_good disk.looks (totals_over is.parts) (omega (arith, good, some_sector)))

  -- a track beside the format's
  module _ (number : ℕ) (low : number < length is.beside.others) where
    abbrev near : TrackId
    near = near_track format (beside_at disk.stepping format number)

    abbrev here : ℕ → Seen
    here = captures_at (length disk.dumps) is.beside.came number

    abbrev names : List NotedOther
    names = get_or is.beside.others number []

    names_noted : AreNotedTo disk near no_header here (length disk.dumps) names
    names_noted = noted_names disk near here (length disk.dumps) names (is.beside.are.each number low)

    none_beside : Each IsBare names → NoneIn disk near no_header here (length disk.dumps)
    none_beside bare = none_in disk near no_header here (length disk.dumps) names names_noted bare

    beside_bare : NoneIn disk near no_header here (length disk.dumps) → Each IsBare names
    beside_bare none = bare_in disk near no_header here (length disk.dumps) names names_noted none

  abbrev totals : DumpTotals
  totals = numbers_of is.streams is.parts is.others is.beside.came is.beside.others

  -- names with data are counted on both kinds of tracks
  whole_of_both : totals.whole ≡ whole_count is.others + whole_count is.beside.others
  whole_of_both = sum_by-append (λ (names : List NotedOther). whole_names_of (others_over names) (has_untold names)) is.others is.beside.others

  all_read : IsTrue (is_complete totals) → IsAllRead disk shelf came is.beside o
  all_read complete =
      let both = and_parts (totals.sectors.good == totals.sectors.sectors) (totals.whole == 0) complete in
      let good = eqb-true totals.sectors.good totals.sectors.sectors both.0 in
      let whole = eqb-true totals.whole 0 both.1 in
      let on_tracks : whole_count is.others ≡ 0 = omega (arith, whole, whole_of_both) in
      let beside : whole_count is.beside.others ≡ 0 = omega (arith, whole, whole_of_both) in
      let looked = all_looked good in
      record {
        good = λ n sector one.
            (let low : n < length is.parts = omega (arith, one.track, is.all.many) in
            part_good n low (each_part is.parts part_few good n low) sector one);
        no_other = λ n q clock track dump used.
            (let low : n < length is.parts = omega (arith, track, is.all.many) in
            none_on n low (whole-none laws.known is.others on_tracks n (omega (arith, low, is.all.many, is.all.many_others))) q dump clock used);
        looked = looked;
        none_beside = λ number q clock track dump used.
            (let low : number < length is.beside.others = omega (arith, track, looked) in
            none_beside number low (whole-none laws.known is.beside.others beside number low) q dump clock used);
      }

  complete : IsAllRead disk shelf came is.beside o → IsTrue (is_complete totals)
  complete all =
      let good : totals.sectors.good ≡ totals.sectors.sectors = totals_good is.parts (λ n low. good_part n low (all.good n)) in
      let on_tracks : whole_count is.others ≡ 0 =
      none-whole laws.known is.others
      (λ n few.
      let low : n < length is.parts = omega (arith, few, is.all.many, is.all.many_others) in
      all_bare n low (λ q dump clock used. all.no_other n q clock (omega (arith, low, is.all.many)) dump used)) in
      let beside : whole_count is.beside.others ≡ 0 =
      none-whole laws.known is.beside.others
      (λ number low. beside_bare number low (λ q dump clock used. all.none_beside number q clock (omega (arith, low, all.looked)) dump used)) in
      let whole : totals.whole ≡ 0 = omega (arith, on_tracks, beside, whole_of_both) in
      and_from (totals.sectors.good == totals.sectors.sectors) (totals.whole == 0) (eq-eqb totals.sectors.good totals.sectors.sectors good) (eq-eqb totals.whole 0 whole)

pub complete_is_all : Laws → CompleteIsAll
complete_is_all laws disk shelf o is =
    let totals_are : o.totals ≡ numbers_of is.streams is.parts is.others is.beside.came is.beside.others = ap (λ (d : DumpsRead). d.totals) is.is in (
      λ complete. all_read laws disk shelf o is (subst (λ (t : DumpTotals). IsTrue (is_complete t)) totals_are complete),
      λ all. subst (λ (t : DumpTotals). IsTrue (is_complete t)) (sym totals_are) (complete laws disk shelf o is all),
    )
