-- What the verdicts over all readings of a track say, where it is read by a plan.
use Rattle.std.specs.Prelude.{◌≡◌, ◌<◌, ◌≤◌, ℕ, Bool, true, false, not, ◌&&◌, List, [], ◌∷◌, ◌++◌, drop, get_or, is_some, length, nat_eq, replicate, unwrap_or, Option, Some, refl}
use Rattle.std.specs.Str.{bytes_eq}
use Rattle.std.proofs.Common.{ap, sym, subst, ◌∙◌, arith, append_assoc}
use Rattle.std.proofs.lemmas.Bool.{eqb-true, eq-eqb}
use Rattle.std.proofs.lemmas.Slice.Eq.{bytes_eq-Decides}
use Rattle.flux_base.specs.declared.track.TrackId.{TrackId}
use Rattle.frame_law.specs.declared.reading.Reading.TheVariants.{Good as GoodFrame}
use Rattle.sector_images.specs.Formats.{row}
use Rattle.sector_images.specs.declared.format.Format.{Format}
use Rattle.turn_merge.specs.Readings.{NotedReading, agreed, bytes_of, good_ones, good_reading}
use Rattle.turn_merge.specs.declared.clock.Clock.{Clock}
use Rattle.turn_merge.specs.declared.clock.Clock.TheVariants.{Following, Held}
use Rattle.turn_merge.specs.declared.verdict.Place.{Place}
use Rattle.flux_engine.specs.Captured.{IsUsed, joined_by}
use Rattle.flux_engine.specs.PlanLaws.{ContradictionsAreNamedInPlans, FirstReadingsLead, FirstSourceStaysGood, GoodIsRightInPlans, GoodReadingsStandInPlans, IsNamedIn, IsRightlyContradictoryIn, IsRightlyGood, StandsIn, StaysGoodOrIsContradicted, cells_in, first_readings}
use Rattle.flux_engine.specs.Plans.{AreCaptures, Streams, joined}
use Rattle.flux_engine.specs.Recordings.{sectors_of, track_at}
use Rattle.flux_engine.specs.Tracks.{Found, image_bytes, place_in, readings_in}
use Rattle.flux_engine.specs.declared.plan.Clocks.{Clocks}
use Rattle.flux_engine.specs.declared.plan.Clocks.TheVariants.{Both, FollowingAlone}
use Rattle.flux_engine.specs.Rules.{RulesAreRead, StandsBy}
use Rattle.flux_engine.specs.declared.plan.Plan.{Plan}
use Rattle.flux_engine.specs.lemmas.Each.{Each, each-at, each-filter, each-map, each-unfilter, each-unflat}
use Rattle.flux_engine.specs.lemmas.GoodSectors.{Head, Named, agreed_head, and_both, each_named, head_of, is_good_of, of_found, same_bytes, some_bytes}
use Rattle.flux_engine.specs.lemmas.JoinedReadings.{each_by_clocks, each_capture, each_clock, each_joined}
use Rattle.flux_engine.proofs.Clashes.{Clash, clash_of, each-found, not_true, stays}

module _ (read : RulesAreRead) (plan : Plan) (format : Format) (streams : Streams) (n : ℕ) (captures : List (List NotedReading)) (many : length captures ≡ plan.captures)
    (each : AreCaptures plan format streams n captures) where
  abbrev track : TrackId
  track = track_at format n

  abbrev cells : ℕ → Clock → List Bool
  cells q clock = cells_in format streams n q clock

  -- a good reading names a place of a capture and a clock, where the sector stands
  abbrev NamesOne : NotedReading → Type 0
  NamesOne r = (xs : List ℕ) → r.bytes ≡ Some xs → IsNamedIn plan format streams n r.place r.sector xs

  clock_names : (q : ℕ) (low : q < length captures) (clock : Clock) (used : IsUsed plan.clocks clock) → Each NamesOne ((each q low).by_clock clock)
  clock_names q low clock used =
      let a = (each q low).each clock used in
      subst (Each NamesOne) (sym a.are)
      (each-map
      (Named (StandsBy plan.rule format track) (row format).sector_size (read.size plan.rule format track)
      q clock (streams n q).times (streams n q).indexes (cells q clock) a.found (read.good plan.rule format track (cells q clock) a.found a.all))
      NamesOne
      (λ r says xs is.
      let here = says xs is in
      record { capture = q; low = omega (arith, low, many); clock = clock; used = used; place = r.place.cell; is = here.1; stands = here.0 })
      (readings_in q clock (streams n q).times (streams n q).indexes (cells q clock) a.found)
      (each_named (StandsBy plan.rule format track) (row format).sector_size (read.size plan.rule format track)
      q clock (streams n q).times (streams n q).indexes (cells q clock) a.found (read.good plan.rule format track (cells q clock) a.found a.all)))

  capture_names : (q : ℕ) → q < length captures → Each NamesOne (get_or captures q [])
  capture_names q low =
      subst (Each NamesOne) (sym (each q low).are) (each_by_clocks NamesOne plan.clocks (each q low).by_clock (clock_names q low))

  all_name : Each NamesOne (joined captures)
  all_name = each_joined NamesOne captures capture_names

  -- a good reading of a sector names a place where it stands
  abbrev NamesSector : (sector : ℕ) → NotedReading → Type 0
  NamesSector sector r = IsNamedIn plan format streams n r.place sector (bytes_of r)

  named_good : (sector : ℕ) (r : NotedReading) → NamesOne r → is_good_of sector r ≡ true → NamesSector sector r
  named_good sector r names test =
      let sides = and_both (nat_eq r.sector sector) (is_some r.bytes) test in
      subst (λ (s : ℕ). IsNamedIn plan format streams n r.place s (bytes_of r)) (eqb-true r.sector sector sides.0) (names (bytes_of r) (some_bytes r.bytes sides.1))

  goods_name : (sector : ℕ) → Each (NamesSector sector) (good_ones (joined captures) sector)
  goods_name sector =
      each-map (λ (r : NotedReading). NamesOne r × (is_good_of sector r ≡ true)) (NamesSector sector) (λ r says. named_good sector r says.0 says.1) (good_ones (joined captures) sector)
      (each-filter (is_good_of sector) NamesOne (joined captures) all_name)

  -- what all readings have, that of a sector has that stands
  pub stands_has : (P : NotedReading → Type 0) → Each P (joined captures) → (q : ℕ) (clock : Clock) (place sector : ℕ) (bytes : List ℕ)
      → q < plan.captures → IsUsed plan.clocks clock → StandsIn plan.rule format streams n q clock place sector bytes
      → P (good_reading sector (place_in q clock (streams n q).times (streams n q).indexes (cells q clock) place) bytes)
  stands_has P all q clock place sector bytes low used here =
      let within : q < length captures = omega (arith, low, many) in
      let a = (each q within).each clock used in
      let in_capture = subst (Each P) (each q within).are (each_capture P captures q within all) in
      let by_one = subst (Each P) a.are (each_clock P plan.clocks (each q within).by_clock clock used in_capture) in
      let found_of = of_found (StandsBy plan.rule format track) (row format).sector_size (read.size plan.rule format track)
      q clock (streams n q).times (streams n q).indexes (cells q clock) a.found (read.good plan.rule format track (cells q clock) a.found a.all) in
      let per_found = each-unflat found_of P a.found by_one in
      let at = each-at (λ (f : Found). Each P (found_of f)) a.found
      (place, GoodFrame sector, bytes) per_found ((read.good plan.rule format track (cells q clock) a.found a.all place sector bytes).1 here) in
      at.0

  module _ (sector : ℕ) (first : Place) (h : Head (good_ones (joined captures) sector) first) where
    abbrev mine : List ℕ
    mine = bytes_of h.head

    -- each good reading of the sector holds the same bytes
    abbrev HoldsMine : NotedReading → Type 0
    HoldsMine r = is_good_of sector r ≡ true → bytes_of r ≡ mine

    all_hold : Each HoldsMine (joined captures)
    all_hold = each-unfilter (is_good_of sector) (λ (r : NotedReading). bytes_of r ≡ mine) (joined captures) (same_bytes (good_ones (joined captures) sector) first h)

    pub agrees : (q : ℕ) (clock : Clock) (place : ℕ) (others : List ℕ) → q < plan.captures → IsUsed plan.clocks clock
        → StandsIn plan.rule format streams n q clock place sector others → others ≡ mine
    agrees q clock place others low used here =
        stands_has HoldsMine all_hold q clock place sector others low used here (ap (λ (b : Bool). b && true) (eq-eqb sector sector refl))

    rightly : IsRightlyGood plan format streams n (image_bytes (sectors_of format track) (joined captures) sector) sector first
    unfolding agreed
    rightly =
        let goods = subst (Each (NamesSector sector)) h.all (goods_name sector) in
        let here : IsNamedIn plan format streams n first sector mine = subst (λ (p : Place). IsNamedIn plan format streams n p sector mine) h.place goods.0 in
        record {
          bytes = mine;
          size = read.size plan.rule format track (drop here.place (cells here.capture here.clock)) sector mine here.stands;
          named = here;
          in_image = ap (λ (o : Option (List ℕ)). unwrap_or o (replicate (sectors_of format track).size 0)) (agreed_head (good_ones (joined captures) sector) first h);
          agreed = agrees;
        }

  rightly_contradictory : (sector : ℕ) (first other : Place) → Clash (good_ones (joined captures) sector) first other
      → IsRightlyContradictoryIn plan format streams n sector first other
  rightly_contradictory sector first other c =
      let mine : List ℕ = bytes_of c.head in
      let goods = subst (Each (NamesSector sector)) c.all (goods_name sector) in
      let next = each-found (λ (r : NotedReading). not (bytes_eq (bytes_of r) mine)) (NamesSector sector) c.more c.next goods.1 c.differs in
      let unequal : bytes_eq (bytes_of c.next) mine ≡ false = not_true (bytes_eq (bytes_of c.next) mine) next.1 in
      record {
        bytes = mine;
        others = bytes_of c.next;
        named = subst (λ (p : Place). IsNamedIn plan format streams n p sector mine) c.place goods.0;
        contradicted = subst (λ (p : Place). IsNamedIn plan format streams n p sector (bytes_of c.next)) c.next_place next.0;
        differ = λ same.
            let equal : bytes_eq (bytes_of c.next) mine ≡ true = (bytes_eq-Decides (bytes_of c.next) mine).1 same in
            absurd (cc (equal, unequal));
      }

pub good_readings_stand : RulesAreRead → GoodReadingsStandInPlans
good_readings_stand read plan format streams n captures many each reading bytes has is =
    each-at (NamesOne read plan format streams n captures many each) (joined captures) reading (all_name read plan format streams n captures many each) has bytes is

pub good_in_plans : RulesAreRead → GoodIsRightInPlans
good_in_plans read plan format streams n captures many each sector good bad first is =
    rightly read plan format streams n captures many each sector first (head_of (joined captures) sector good bad first is)

pub contradictions_in_plans : RulesAreRead → ContradictionsAreNamedInPlans
contradictions_in_plans read plan format streams n captures many each sector good bad first other is =
    rightly_contradictory read plan format streams n captures many each sector first other (clash_of (joined captures) sector good bad first other is)

-- the readings by the first clock stand first
first_clock : (clocks : Clocks) (by_clock : Clock → List NotedReading) → (rest : List NotedReading) × (joined_by clocks by_clock ≡ by_clock Following ++ rest)
first_clock FollowingAlone by_clock = ([], none (by_clock Following))
  where
    none : (rs : List NotedReading) → rs ≡ rs ++ []
    none [] = refl
    none (r ∷ rs) = ap (λ (more : List NotedReading). r ∷ more) (none rs)
first_clock Both by_clock = (by_clock Held, refl)

always_first : (clocks : Clocks) → IsUsed clocks Following
always_first FollowingAlone = tt
always_first Both = tt

-- those of the first capture stand first
first_capture : (captures : List (List NotedReading)) → 1 ≤ length captures → (rest : List NotedReading) × (joined captures ≡ get_or captures 0 [] ++ rest)
first_capture [] some = absurd (omega (arith, some))
first_capture (rs ∷ more) some = (joined more, refl)

pub first_lead : RulesAreRead → FirstReadingsLead
first_lead read plan format streams n captures found some many each all =
    let track : TrackId = track_at format n in
    let cells : List Bool = cells_in format streams n 0 Following in
    let own : List NotedReading = first_readings format streams n found in
    let low : 0 < length captures = omega (arith, some, many) in
    let one = each 0 low in
    let a = one.each Following (always_first plan.clocks) in
    let mine : one.by_clock Following ≡ own =
    a.are ∙ ap (λ (fs : List Found). readings_in 0 Following (streams n 0).times (streams n 0).indexes cells fs) (read.one plan.rule format track cells a.found found a.all all) in
    let clocks = first_clock plan.clocks one.by_clock in
    let others = first_capture captures (omega (arith, low)) in (
      clocks.0 ++ others.0,
      others.1 ∙ ap (λ (rs : List NotedReading). rs ++ others.0) (one.are ∙ clocks.1 ∙ ap (λ (rs : List NotedReading). rs ++ clocks.0) mine)
          ∙ append_assoc own clocks.0 others.0,
    )

pub first_stays : RulesAreRead → FirstSourceStaysGood
first_stays read plan format streams n captures found some many each all sector good bad first verdict_is =
    let own : List NotedReading = first_readings format streams n found in
    let lead = first_lead read plan format streams n captures found some many each all in
    subst (λ (rs : List NotedReading). StaysGoodOrIsContradicted own rs sector first) (sym lead.1) (stays own lead.0 sector good bad first verdict_is)
