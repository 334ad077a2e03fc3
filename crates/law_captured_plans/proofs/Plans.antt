-- Captured disks are read by a plan.
use Rattle.std.specs.Prelude.{◌≡◌, ◌≤◌, ◌<◌, ◌⊎◌, ℕ, ◌+◌, ◌-◌, ◌*◌, Bool, true, List, [], ◌∷◌, drop, length, map, replicate, slice_index, unwrap_or, Option, None, refl}
use Rattle.std.proofs.Common.{ap, sym, subst, ◌∙◌, arith, append-nil, inl, inr}
use Rattle.disk_recordings.specs.Laws.{RingsHaveCells}
use Rattle.disk_recordings.specs.Members.{sector_at}
use Rattle.frame_law.specs.Controller.{START_ZEROS}
use Rattle.kryo_stream.specs.Growth.{StreamsStay}
use Rattle.kryo_stream.specs.Joined.{PaddingIsPassed}
use Rattle.kryo_stream.specs.Stream.{indexes, times}
use Rattle.sector_images.specs.Formats.{row}
use Rattle.sector_images.specs.Places.{NumbersHoldSectors, NumbersNameTracks, SectorsLieInImages, TracksFillImages, TracksJoin, bytes_of, tracks}
use Rattle.sector_images.specs.declared.format.Format.{Format}
use Rattle.track_rings.specs.Rings.{last_in, stretch}
use Rattle.turn_merge.specs.Readings.{NotedReading, agreed, verdict}
use Rattle.turn_merge.specs.declared.verdict.Place.{Place}
use Rattle.turn_merge.specs.declared.verdict.Verdict.{Verdict}
use Rattle.turn_merge.specs.declared.verdict.Verdict.TheVariants.{Good, Contradictory, Bad, Missing}
use Rattle.turn_merge.specs.declared.clock.Clock.{Clock}
use Rattle.turn_merge.specs.declared.clock.Clock.TheVariants.{Following, Held}
use Rattle.law_decoded_rings.specs.Pieces.{RingPiece, cells_of_ring_pieces}
use Rattle.law_decoded_rings.specs.Verdicts.{AreReadingsOf, IsGoodWith, IsGoodWithOrLost, LiesInOnePiece, PiecesAreRightWithin, StandsInOnePiece, TwoRingsHaveSectors, VerdictsAreRight}
use Rattle.flux_engine.specs.DiskLaws.{line_number}
use Rattle.flux_engine.specs.Captures.{Capture, CapturesAreRecovered, ErasedCapture, ErasedCapturesAreRecovered, SteadyCapturesAreRecovered, SteadyErasedCapturesAreRecovered}
use Rattle.flux_engine.specs.Captured.{AreReadingsBy, IsUsed}
use Rattle.flux_engine.specs.declared.plan.Clocks.{Clocks}
use Rattle.flux_engine.specs.declared.plan.Clocks.TheVariants.{Both, FollowingAlone}
use Rattle.flux_engine.specs.declared.plan.Plan.{Plan}
use Rattle.flux_engine.specs.declared.plan.Rule.{Rule}
use Rattle.flux_engine.specs.declared.plan.Rule.TheVariants.{Controller, Strict}
use Rattle.flux_engine.specs.Rules.{RulesAreRead, StandsBy}
use Rattle.flux_engine.specs.Disks.{part_at}
use Rattle.flux_engine.specs.PlanLaws.{FirstSourceStaysGood, StaysGoodOrIsContradicted, cells_in, first_readings}
use Rattle.flux_engine.specs.Plans.{AreCaptures, IsPlanned, Planned, Streams, joined, planned_count, streams_in}
use Rattle.flux_engine.specs.Recordings.{cells_by, sectors_of, track_at}
use Rattle.flux_engine.specs.Rings.{IsImage, nominal_of, ring_of, sector_bytes}
use Rattle.flux_engine.specs.Streams.{stream_at}
use Rattle.flux_engine.specs.Tracks.{TrackPart, image_bytes, is_good, part_by, readings_in}
use Rattle.flux_engine.specs.lemmas.Each.{Each}
use Rattle.flux_engine.specs.lemmas.JoinedReadings.{each_by_clocks, each_capture, each_clock, each_joined}
use Rattle.law_captured_disks.specs.Frames.{ring_piece, written_track}
use Rattle.law_captured_disks.specs.Headline.{IsBadOrMissing, IsSectorOf}
use Rattle.law_captured_disks.specs.lemmas.Cells.{cells-same}
use Rattle.law_captured_disks.specs.lemmas.Images.{images-same}
use Rattle.law_captured_disks.specs.lemmas.Readings.{are_readings_by}
use Rattle.law_captured_disks.specs.lemmas.Streams.{IsStreamNumber}
use Rattle.law_captured_disks.specs.lemmas.Totals.{all_counted, totals_good}
use Rattle.law_captured_plans.specs.Headline.{CapturedPlansAreNeverWrong, CapturedPlansAreRead, ErasedPlansAreRead, ErasedPlansStandInOnePiece, IsLost, IsNeverWrong, IsOwnOrContradictory, IsReadInPart, IsReadRightly, IsReadWell, IsReadWhole, StandInOnePiece}
use Rattle.law_captured_plans.specs.Inputs.{IsCapturedSet, IsErasedSet, IsSteadyErasedSet, IsSteadySet, LiesInACapture}
use Rattle.law_captured_plans.specs.Said.{IsSaid, SectorsAreSaid}
use Rattle.law_captured_plans.proofs.Places.{images_size}
use Rattle.law_captured_plans.proofs.Sectors.{part_size, Laws as SectorLaws}
use Rattle.law_captured_plans.proofs.Streams.{no_stop, stream_is}
use Rattle.flux_engine.specs.lemmas.NoneAgreed.{none_agreed}
use Rattle.law_captured_disks.specs.lemmas.WrittenTracks.{AreWritten, are_written}
use Rattle.law_captured_plans.proofs.Verdicts.{Holds, IsNone, IsWith, all_hold, some_good, with_all, with_or_lost}

-- the zeros that a sector has not in a row: eight by the strict rule, and as controllers read those that a clock leaves
abbrev pub zeros_of : Rule → ℕ
zeros_of Strict = 8
zeros_of Controller = START_ZEROS

-- what the crates below promise
pub record Laws : Type 0 where
  pub stay : StreamsStay
  pub passed : PaddingIsPassed
  pub recovered : CapturesAreRecovered
  pub recovered_erased : ErasedCapturesAreRecovered
  pub steady : SteadyCapturesAreRecovered
  pub steady_erased : SteadyErasedCapturesAreRecovered
  pub rings : RingsHaveCells
  pub names : NumbersNameTracks
  pub hold : NumbersHoldSectors
  pub lie : SectorsLieInImages
  pub joined : TracksJoin
  pub filled : TracksFillImages
  pub sectors : SectorLaws
  pub said : SectorsAreSaid
  pub stays : FirstSourceStaysGood
  pub rules : RulesAreRead
  pub pieces : (rule : Rule) (format : Format) (image : List ℕ) (k : ℕ) → IsImage format image → k < length (tracks format)
      → PiecesAreRightWithin (StandsBy rule format (track_at format k)) (written_track format image k) (zeros_of rule)
  pub two_rings : (rule : Rule) (format : Format) (image : List ℕ) (k : ℕ) → IsImage format image → k < length (tracks format)
      → TwoRingsHaveSectors (StandsBy rule format (track_at format k)) (written_track format image k)

following_used : (clocks : Clocks) → IsUsed clocks Following
following_used FollowingAlone = tt
following_used Both = tt

module _ (laws : Laws) (plan : Plan) (format : Format) (image x : List ℕ) (is : IsImage format image) where
  abbrev streams : Streams
  streams = streams_in plan x

  abbrev IsSaidHere : Planned → (n sector : ℕ) → Type 0
  IsSaidHere o n sector = IsSaid plan format streams o n sector (line_number format n sector)

  abbrev IsWellHere : Planned → (n sector : ℕ) → Type 0
  IsWellHere o n sector = IsReadWell plan format image streams o n sector (line_number format n sector)

  abbrev IsLostHere : Planned → (n sector : ℕ) → Type 0
  IsLostHere o n sector = IsLost plan format streams o n sector (line_number format n sector)

  abbrev mine : (n sector : ℕ) → List ℕ
  mine n sector = (written_track format image n).bytes_of sector

  abbrev written : AreWritten format image
  written = are_written laws.names laws.rings laws.lie format image is

  -- a clock's cells of a capture are those of pieces of the track's ring
  abbrev AreOfPieces : (n q : ℕ) → Clock → RingPiece → List RingPiece → Type 0
  AreOfPieces n q clock first later = cells_in format streams n q clock ≡ cells_of_ring_pieces (ring_of format image n) first later

  -- what its readings come to
  right_by : (n q : ℕ) (clock : Clock) (first : RingPiece) (later : List RingPiece) → n < length (tracks format) → AreOfPieces n q clock first later
      → (noted : List NotedReading) → AreReadingsBy plan.rule clock format (track_at format n) (streams n q).times (streams n q).indexes q noted
      → VerdictsAreRight (StandsBy plan.rule format (track_at format n)) (written_track format image n) first later noted
  right_by n q clock first later known cells noted by =
      let track = track_at format n in
      let here = cells_in format streams n q clock in
      let found : List NotedReading = readings_in q clock (streams n q).times (streams n q).indexes here by.found in
      let are : AreReadingsOf (StandsBy plan.rule format track) (cells_of_ring_pieces (ring_of format image n) first later) found =
      subst (λ (cs : List Bool). AreReadingsOf (StandsBy plan.rule format track) cs found) cells
      (are_readings_by (StandsBy plan.rule format track)
      q clock (streams n q).times (streams n q).indexes here by.found (laws.rules.good plan.rule format track here by.found by.all)) in
      subst (VerdictsAreRight (StandsBy plan.rule format track) (written_track format image n) first later) (sym by.are)
      ((laws.pieces plan.rule format image n is known first later).1 found are)

  -- of two rings or more, those of each sector
  whole_by : (n q : ℕ) (clock : Clock) (piece : RingPiece) → 2 * length (ring_of format image n) ≤ piece.count → AreOfPieces n q clock piece []
      → (noted : List NotedReading) → AreReadingsBy plan.rule clock format (track_at format n) (streams n q).times (streams n q).indexes q noted
      → (sector : ℕ) → IsSectorOf format n sector → IsWith sector (mine n sector) noted
  whole_by n q clock piece long cells noted by sector one =
      (right_by n q clock piece [] one.track cells noted by).whole sector (written.has n sector one)
      (laws.two_rings plan.rule format image n is one.track piece sector long (written.has n sector one))

  -- All readings of a track, each clock's of each capture as of pieces of the ring.
  module _ (n : ℕ) (known : n < length (tracks format)) (first : (q : ℕ) → q < plan.captures → RingPiece) (later : (q : ℕ) → q < plan.captures → List RingPiece)
      (cells : (q : ℕ) (low : q < plan.captures) (clock : Clock) → IsUsed plan.clocks clock → AreOfPieces n q clock (first q low) (later q low))
      (captures : List (List NotedReading)) (many : length captures ≡ plan.captures) (each : AreCaptures plan format streams n captures) where
    module _ (q : ℕ) (within : q < length captures) (few : q < plan.captures) where
      right : (clock : Clock) → IsUsed plan.clocks clock
          → VerdictsAreRight (StandsBy plan.rule format (track_at format n)) (written_track format image n) (first q few) (later q few) ((each q within).by_clock clock)
      right clock used = right_by n q clock (first q few) (later q few) known (cells q few clock used) ((each q within).by_clock clock) ((each q within).each clock used)

    module _ (sector : ℕ) (one : IsSectorOf format n sector) where
      abbrev HoldsMine : NotedReading → Type 0
      HoldsMine r = Holds sector (mine n sector) r

      abbrev IsNoneHere : NotedReading → Type 0
      IsNoneHere r = IsNone sector (mine n sector) r

      hold : Each HoldsMine (joined captures)
      hold =
          each_joined HoldsMine captures
          (λ q within.
          subst (Each HoldsMine) (sym (each q within).are)
          (each_by_clocks HoldsMine plan.clocks (each q within).by_clock
          (λ clock used.
          all_hold sector (mine n sector) ((each q within).by_clock clock) ((right q within (omega (arith, within, many)) clock used).each sector (written.has n sector one)))))

      pub or_lost : IsGoodWithOrLost (verdict (joined captures) sector) (agreed (joined captures) sector) (mine n sector)
      or_lost = with_or_lost sector (mine n sector) (joined captures) hold

      pub good : (q : ℕ) (below : q < plan.captures) (clock : Clock) → IsUsed plan.clocks clock
          → LiesInOnePiece (written_track format image n) (first q below ∷ later q below) sector → IsWith sector (mine n sector) (joined captures)
      good q below clock used lies =
          let within : q < length captures = omega (arith, below, many) in
          with_all sector (mine n sector) (joined captures) hold
          (λ none.
          some_good sector (mine n sector) ((each q within).by_clock clock) ((right q within below clock used).whole sector (written.has n sector one) lies)
          (each_clock IsNoneHere plan.clocks (each q within).by_clock clock used
          (subst (Each IsNoneHere) (each q within).are (each_capture IsNoneHere captures q within none))))

  module _ (o : Planned) (read : IsPlanned plan (part_by plan.naming) format streams o) (stop : o.stop ≡ None) where
    many : length read.parts ≡ length (tracks format)
    many = read.many ∙ ap (planned_count format) stop

    said : (n sector : ℕ) → IsSectorOf format n sector → IsSaidHere o n sector
    said n sector one =
        let all : planned_count format o.stop ≡ length (tracks format) = ap (planned_count format) stop in
        laws.said plan format streams o read n sector (omega (arith, all, one.track)) one.known

    -- what a sector's bytes in the image and its line come to, by the verdict over all readings
    module _ (n sector : ℕ) (one : IsSectorOf format n sector) (here : IsSaidHere o n sector) where
      abbrev readings : List NotedReading
      readings = joined here.captures

      abbrev held_of : Option (List ℕ) → List ℕ
      held_of held = unwrap_or held (replicate (row format).sector_size 0)

      kept_by : (v : Verdict) → verdict readings sector ≡ v → IsGoodWith v (agreed readings sector) (mine n sector) → IsWellHere o n sector
      kept_by (Good g b first) same data_is = record {
        good = record { said = here; good = g; bad = b; first = first; is = same };
        own = here.held ∙ ap held_of data_is ∙ written.content n sector one;
      }
      kept_by (Contradictory g b first other) same data_is = absurd data_is
      kept_by (Bad b first) same data_is = absurd data_is
      kept_by Missing same data_is = absurd data_is

      lost_by : (v : Verdict) → verdict readings sector ≡ v → IsBadOrMissing v → agreed readings sector ≡ None → IsLostHere o n sector
      lost_by v same lost none = record { said = here; lost = subst IsBadOrMissing (sym same) lost; zeros = here.held ∙ ap held_of none }

      either_by : (v : Verdict) → verdict readings sector ≡ v → IsGoodWithOrLost v (agreed readings sector) (mine n sector)
          → IsWellHere o n sector ⊎ IsLostHere o n sector
      either_by (Good g b first) same data_is = inl (kept_by (Good g b first) same data_is)
      either_by (Contradictory g b first other) same data_is = absurd data_is
      either_by (Bad b first) same data_is = inr (lost_by (Bad b first) same tt data_is)
      either_by Missing same data_is = inr (lost_by Missing same tt data_is)

    kept : (n sector : ℕ) (one : IsSectorOf format n sector) (here : IsSaidHere o n sector) → IsWith sector (mine n sector) (joined here.captures)
        → IsWellHere o n sector
    kept n sector one here good = kept_by n sector one here (verdict (joined here.captures) sector) refl good

    -- where all sectors of all tracks are good
    module _ (good : (n sector : ℕ) (one : IsSectorOf format n sector) (captures : List (List NotedReading)) → length captures ≡ plan.captures
        → AreCaptures plan format streams n captures → IsWith sector (mine n sector) (joined captures)) where
      all_kept : (n sector : ℕ) → IsSectorOf format n sector → IsWellHere o n sector
      all_kept n sector one = (let here = said n sector one in kept n sector one here (good n sector one here.captures here.many here.each))

      size : length o.image ≡ (row format).image_size
      size =
          ap (λ (d : Planned). length d.image) read.is
          ∙ images_size (bytes_of format) (tracks format) read.parts many (λ n low. part_size laws.sectors plan format streams n (part_at read.parts n) (read.each n low))
          ∙ laws.filled format

      good_with : (v : Verdict) (held : Option (List ℕ)) (bytes : List ℕ) → IsGoodWith v held bytes → is_good v ≡ true
      good_with (Good g b first) held bytes data_is = refl
      good_with (Contradictory g b first other) held bytes data_is = absurd data_is
      good_with (Bad b first) held bytes data_is = absurd data_is
      good_with Missing held bytes data_is = absurd data_is

      part_good : (n : ℕ) → n < length read.parts → (part_at read.parts n).totals.good ≡ (part_at read.parts n).totals.sectors
      part_good n low =
          let at = read.each n low in
          let readings : List NotedReading = joined at.captures in
          ap (λ (p : TrackPart). p.totals.good) at.is
          ∙ all_counted (verdict readings) (sectors_of format (track_at format n)).first (sectors_of format (track_at format n)).count
          (λ sector least most.
          good_with (verdict readings sector) (agreed readings sector) (mine n sector)
          (good n sector (record { track = omega (arith, low, many); known = (least, most) }) at.captures at.many at.each))
          ∙ sym (ap (λ (p : TrackPart). p.totals.sectors) at.is)

      pub is_read_whole : IsReadWhole plan format image streams o
      is_read_whole = record {
        no_stop = stop;
        image_is = images-same laws.names laws.hold laws.joined laws.filled format o.image image size is.size (λ n sector one. (all_kept n sector one).own);
        all_good =
            ap (λ (d : Planned). d.totals.good) read.is ∙ totals_good read.parts part_good ∙ sym (ap (λ (d : Planned). d.totals.sectors) read.is);
        each = λ n sector one. (all_kept n sector one).good;
      }

    either : (n sector : ℕ) (one : IsSectorOf format n sector) (here : IsSaidHere o n sector)
        → IsGoodWithOrLost (verdict (joined here.captures) sector) (agreed (joined here.captures) sector) (mine n sector)
        → IsWellHere o n sector ⊎ IsLostHere o n sector
    either n sector one here data_is = either_by n sector one here (verdict (joined here.captures) sector) refl data_is

  -- the cells of a stream of the input
  cells_are : (n q : ℕ) (bytes : List ℕ) (clock : Clock) → IsStreamNumber x (n * plan.captures + q) bytes
      → cells_in format streams n q clock ≡ cells_by clock format (track_at format n) (times bytes) (indexes bytes)
  cells_are n q bytes clock one =
      ap (λ (ts : List ℕ). cells_by clock format (track_at format n) ts (indexes (stream_at x (n * plan.captures + q)))) one.times_are
      ∙ ap (cells_by clock format (track_at format n) (times bytes)) one.indexes_are

  -- a captured set
  module _ (set : IsCapturedSet format plan.captures image x) where
    stream : (n q : ℕ) → n < length (tracks format) → q < plan.captures → IsStreamNumber x (n * plan.captures + q) (set.stream (n * plan.captures + q))
    stream =
        stream_is laws.stay laws.passed plan format x set.stream set.joined
        (λ n q known low. (let here = set.captured n q known low in (here.no_fault, here.whole)))

    set_stops : (o : Planned) → IsPlanned plan (part_by plan.naming) format streams o → o.stop ≡ None
    set_stops =
        no_stop laws.stay laws.passed plan format x set.stream set.joined
        (λ n q known low. (let here = set.captured n q known low in (here.no_fault, here.whole)))

    module _ (n q : ℕ) (known : n < length (tracks format)) (low : q < plan.captures) where
      abbrev ring : List Bool
      ring = ring_of format image n

      abbrev capture : Capture (set.stream (n * plan.captures + q)) ring (nominal_of format n)
      capture = set.captured n q known low

      abbrev piece : RingPiece
      piece = record { from = slice_index capture.places 0; count = last_in capture.places - slice_index capture.places 0 + 1 }

      long : 2 * length ring ≤ piece.count
      long = omega (arith, capture.two_turns)

      of_piece : (clock : Clock)
          → cells_by clock format (track_at format n) (times (set.stream (n * plan.captures + q))) (indexes (set.stream (n * plan.captures + q)))
          ≡ stretch ring piece.from piece.count → AreOfPieces n q clock piece []
      of_piece clock recovered =
          cells_are n q (set.stream (n * plan.captures + q)) clock (stream n q known low) ∙ recovered ∙ sym (append-nil (stretch ring piece.from piece.count))

      following : AreOfPieces n q Following piece []
      following = of_piece Following (laws.recovered format (track_at format n) (set.stream (n * plan.captures + q)) ring (written.known n known) (written.ring n known) capture)

      module _ (steady : IsUsed plan.clocks Held → IsSteadySet format plan.captures image x set) where
        by_clock : (clock : Clock) → IsUsed plan.clocks clock → AreOfPieces n q clock piece []
        by_clock Following used = following
        by_clock Held used =
            of_piece Held
            (laws.steady Held format (track_at format n) (set.stream (n * plan.captures + q)) ring (written.known n known) (written.ring n known) capture (steady used n q known low))

    -- each sector lies whole in each of its captures
    set_good : (steady : IsUsed plan.clocks Held → IsSteadySet format plan.captures image x set) → 1 ≤ plan.captures → (n sector : ℕ)
        → IsSectorOf format n sector → (captures : List (List NotedReading)) → length captures ≡ plan.captures → AreCaptures plan format streams n captures
        → IsWith sector (mine n sector) (joined captures)
    set_good steady some n sector one captures many each =
        good n one.track (λ q low. piece n q one.track low) (λ q low. []) (λ q low clock used. by_clock n q one.track low steady clock used)
        captures many each sector one 0 (omega (arith, some)) Following (following_used plan.clocks)
        (laws.two_rings plan.rule format image n is one.track (piece n 0 one.track (omega (arith, some))) sector (long n 0 one.track (omega (arith, some))) (written.has n sector one))

    -- what the first capture makes good by the clock that follows the drive, all readings make good or contradictory
    module _ (n sector : ℕ) (one : IsSectorOf format n sector) (readings own : List NotedReading)
        (stays : (good bad : ℕ) (first : Place) → verdict own sector ≡ Good good bad first → StaysGoodOrIsContradicted own readings sector first) where
      abbrev own_bytes_of : List ℕ
      own_bytes_of = sector_bytes format (track_at format n) image sector

      abbrev held_by : List ℕ
      held_by = image_bytes (sectors_of format (track_at format n)) readings sector

      rightly_by : (v : Verdict) → verdict own sector ≡ v → IsGoodWith v (agreed own sector) (mine n sector)
          → IsOwnOrContradictory format own_bytes_of held_by (verdict readings sector)
      rightly_by (Good g b first) same data_is =
          elim (stays g b first same) [
            | inl still ↦
                subst (IsOwnOrContradictory format own_bytes_of held_by) (sym still.2)
                (ap (λ (held : Option (List ℕ)). unwrap_or held (replicate (row format).sector_size 0)) (still.3 ∙ data_is) ∙ written.content n sector one)
            | inr other ↦
                subst (IsOwnOrContradictory format own_bytes_of held_by) (sym other.3)
                (ap (λ (held : Option (List ℕ)). unwrap_or held (replicate (row format).sector_size 0))
                (none_agreed readings sector (Contradictory other.0 other.1 first other.2) other.3 refl))
          ]
      rightly_by (Contradictory g b first other) same data_is = absurd data_is
      rightly_by (Bad b first) same data_is = absurd data_is
      rightly_by Missing same data_is = absurd data_is

    rightly : (n sector : ℕ) (one : IsSectorOf format n sector) → 1 ≤ plan.captures → (o : Planned) (here : IsSaidHere o n sector)
        → IsReadRightly plan format image streams o n sector (line_number format n sector)
    rightly n sector one some o here =
        let low : 0 < plan.captures = omega (arith, some) in
        let by = (here.each 0 (omega (arith, some, here.many))).each Following (following_used plan.clocks) in
        let own : List NotedReading = first_readings format streams n by.found in
        let is_with : IsWith sector (mine n sector) own =
        whole_by n 0 Following (piece n 0 one.track low) (long n 0 one.track low) (following n 0 one.track low) own
        (record { found = by.found; all = by.all; are = refl }) sector one in
        record {
          said = here;
          is =
              subst
              (λ (held : List ℕ).
              IsOwnOrContradictory format (sector_bytes format (track_at format n) image sector) held (verdict (joined here.captures) sector))
              (sym here.held)
              (rightly_by n sector one (joined here.captures) own
              (laws.stays plan format streams n here.captures by.found some here.many here.each by.all sector) (verdict own sector) refl is_with);
        }

    pub is_never_wrong : 1 ≤ plan.captures → (o : Planned) → IsPlanned plan (part_by plan.naming) format streams o → IsNeverWrong plan format image x o
    is_never_wrong some o read = record {
      no_stop = set_stops o read;
      each = λ n sector one. rightly n sector one some o (said o read (set_stops o read) n sector one);
    }

  -- a captured set with erased stretches
  module _ (set : IsErasedSet format plan.captures image x) where
    abbrev capture_of : (n q : ℕ) → n < length (tracks format) → q < plan.captures
        → ErasedCapture (set.stream (n * plan.captures + q)) (ring_of format image n) (nominal_of format n)
    capture_of n q known low = set.captured n q known low

    erased_stream : (n q : ℕ) → n < length (tracks format) → q < plan.captures → IsStreamNumber x (n * plan.captures + q) (set.stream (n * plan.captures + q))
    erased_stream =
        stream_is laws.stay laws.passed plan format x set.stream set.joined
        (λ n q known low. (let here = set.captured n q known low in (here.no_fault, here.whole)))

    erased_stops : (o : Planned) → IsPlanned plan (part_by plan.naming) format streams o → o.stop ≡ None
    erased_stops =
        no_stop laws.stay laws.passed plan format x set.stream set.joined
        (λ n q known low. (let here = set.captured n q known low in (here.no_fault, here.whole)))

    abbrev first_of : (n q : ℕ) → n < length (tracks format) → q < plan.captures → RingPiece
    first_of n q known low = ring_piece (capture_of n q known low).first

    abbrev later_of : (n q : ℕ) → n < length (tracks format) → q < plan.captures → List RingPiece
    later_of n q known low = map ring_piece (capture_of n q known low).later

    erased_following : (n q : ℕ) (known : n < length (tracks format)) (low : q < plan.captures) → AreOfPieces n q Following (first_of n q known low) (later_of n q known low)
    erased_following n q known low =
        let here = capture_of n q known low in
        cells_are n q (set.stream (n * plan.captures + q)) Following (erased_stream n q known low)
        ∙ laws.recovered_erased format (track_at format n) (set.stream (n * plan.captures + q)) (ring_of format image n) (written.known n known) (written.ring n known) here
        ∙ cells-same (ring_of format image n) here.first here.later

    pub stand_in_one_piece : StandInOnePiece plan format image x set
    stand_in_one_piece n q known low sector place bytes stands =
        let pieces = (laws.pieces Strict format image n is known (first_of n q known low) (later_of n q known low)).0 in
        let cells = erased_following n q known low in
        subst (λ (cs : List Bool). StandsInOnePiece (λ here. sector_at format (track_at format n) here sector bytes) (first_of n q known low ∷ later_of n q known low) cs place) (sym cells)
        (pieces.sector_of_one place sector bytes (subst (λ (cs : List Bool). sector_at format (track_at format n) (drop place cs) sector bytes) cells stands))

    module _ (steady : IsUsed plan.clocks Held → IsSteadyErasedSet format plan.captures image x set) where
      erased_cells : (n q : ℕ) (known : n < length (tracks format)) (low : q < plan.captures) (clock : Clock) → IsUsed plan.clocks clock
          → AreOfPieces n q clock (first_of n q known low) (later_of n q known low)
      erased_cells n q known low Following used = erased_following n q known low
      erased_cells n q known low Held used =
          let here = capture_of n q known low in
          cells_are n q (set.stream (n * plan.captures + q)) Held (erased_stream n q known low)
          ∙ laws.steady_erased Held format (track_at format n) (set.stream (n * plan.captures + q)) (ring_of format image n) (written.known n known) (written.ring n known) here
          (steady used n q known low)
          ∙ cells-same (ring_of format image n) here.first here.later

      module _ (o : Planned) (read : IsPlanned plan (part_by plan.naming) format streams o) where
        here_said : (n sector : ℕ) → IsSectorOf format n sector → IsSaidHere o n sector
        here_said = said o read (erased_stops o read)

        pub is_read_in_part : IsReadInPart plan format image streams o (LiesInACapture format plan.captures image x set)
        is_read_in_part = record {
          no_stop = erased_stops o read;
          in_one_piece = λ n sector one whole.
              let here = here_said n sector one in
              kept o read (erased_stops o read) n sector one here
              (good n whole.known (λ q low. first_of n q whole.known low) (λ q low. later_of n q whole.known low)
              (λ q low. erased_cells n q whole.known low) here.captures here.many here.each sector one whole.capture whole.low Following (following_used plan.clocks) whole.lies);
          each = λ n sector one.
              let here = here_said n sector one in
              either o read (erased_stops o read) n sector one here
              (or_lost n one.track (λ q low. first_of n q one.track low) (λ q low. later_of n q one.track low)
              (λ q low. erased_cells n q one.track low) here.captures here.many here.each sector one);
        }

pub captured_plans_are_read : Laws → CapturedPlansAreRead
captured_plans_are_read laws plan format image x o some is set steady read =
    is_read_whole laws plan format image x is o read (set_stops laws plan format image x is set o read) (set_good laws plan format image x is set steady some)

pub erased_plans_are_read : Laws → ErasedPlansAreRead
erased_plans_are_read laws plan format image x o is set steady read = is_read_in_part laws plan format image x is set steady o read

pub erased_plans_stand_in_one_piece : Laws → ErasedPlansStandInOnePiece
erased_plans_stand_in_one_piece laws plan format image x is set = stand_in_one_piece laws plan format image x is set

pub captured_plans_are_never_wrong : Laws → CapturedPlansAreNeverWrong
captured_plans_are_never_wrong laws plan format image x o some is set read = is_never_wrong laws plan format image x is set some o read
