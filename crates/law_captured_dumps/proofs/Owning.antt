-- What stands in the cells of a dump's stream: of one that captures its track each sector with its own bytes, and nothing else; of one
-- that is passed over nothing.
use Rattle.std.specs.Prelude.{◌≡◌, ◌≤◌, ◌<◌, ℕ, ◌+◌, ◌-◌, ◌*◌, ◌++◌, Bool, true, List, [], ◌∷◌, drop, length, map, slice_index, is_some, option_and_then, Option, None, Some, Result, Ok, Err, refl}
use Rattle.std.proofs.Common.{ap, sym, subst, ◌∙◌, arith, append-nil, inl, inr, length-drop}
use Rattle.std.proofs.lemmas.Option.{slice_get-get_or}
use Rattle.disk_recordings.specs.Laws.{RingsHaveCells}
use Rattle.dump_reading.specs.DumpStreams.{IsOrFailed, seen_file, seen_of, seen_unless, track_in}
use Rattle.dump_reading.specs.Outcomes.{DumpDisk}
use Rattle.flux_base.specs.declared.track.TrackId.{TrackId}
use Rattle.flux_engine.specs.Captures.{CapturesAreRecovered, ErasedCapturesAreRecovered, IsSteady, IsSteadyErased, SteadyCapturesAreRecovered, SteadyErasedCapturesAreRecovered}
use Rattle.flux_engine.specs.PlanLaws.{StandsIn, cells_in}
use Rattle.flux_engine.specs.Plans.{Seen, Streams}
use Rattle.flux_engine.specs.Recordings.{cells_by, start_by, start_of, track_at}
use Rattle.flux_engine.specs.Rings.{IsImage, nominal_of, ring_of}
use Rattle.flux_engine.specs.Rules.{StandsBy}
use Rattle.flux_engine.specs.declared.plan.Rule.TheVariants.{Controller}
use Rattle.frame_law.specs.Controller.{START_ZEROS}
use Rattle.kryo_stream.specs.Growth.{StreamsStay}
use Rattle.kryo_stream.specs.Stream.{first_fault, indexes, indexes_of, times, times_of}
use Rattle.kryo_stream.specs.declared.block.SpelledBlock.{SpelledBlock}
use Rattle.kryo_stream.specs.declared.fault.StreamFault.{StreamFault}
use Rattle.law_captured_disks.specs.lemmas.WrittenTracks.{AreWritten, are_written}
use Rattle.law_captured_disks.specs.Frames.{RewrittenTracksAreOwn, ring_piece, written_track}
use Rattle.law_captured_disks.specs.Headline.{IsSectorOf}
use Rattle.law_captured_disks.specs.lemmas.Cells.{cells-same}
use Rattle.law_decoded_rings.specs.Pieces.{RingPiece, begin_of_piece, cells_of_ring_pieces}
use Rattle.law_decoded_rings.specs.Verdicts.{LiesInOnePiece, PiecesAreRightWithin, StandsAsWrittenWithin, TwoRingsHaveSectors}
use Rattle.phase_loop.specs.Rows.{recovered}
use Rattle.scp_files.specs.declared.fault.ScpTrackFault.{ScpTrackFault}
use Rattle.sector_images.specs.Places.{NumbersNameTracks, SectorsLieInImages, tracks}
use Rattle.sector_images.specs.declared.format.Format.{Format}
use Rattle.track_rings.specs.Rings.{last_in, stretch}
use Rattle.track_shelf.specs.Files.{File, dump_track}
use Rattle.track_shelf.specs.Stepping.{file_track}
use Rattle.turn_merge.specs.declared.clock.Clock.{Clock}
use Rattle.turn_merge.specs.declared.clock.Clock.TheVariants.{Following}
use Rattle.law_captured_dumps.specs.Inputs.{Begins, Captures, CapturesInPart, HasFailed, HasWhole, IsPassedOver, IsSteadyOrPassed, track_on}
use Rattle.law_read_dumps.specs.Said.{AreOfFiles, says_on}

-- what the crates below promise
pub record Laws : Type 0 where
  pub names : NumbersNameTracks
  pub lie : SectorsLieInImages
  pub rings : RingsHaveCells
  pub recovered : CapturesAreRecovered
  pub recovered_erased : ErasedCapturesAreRecovered
  pub steady : SteadyCapturesAreRecovered
  pub steady_erased : SteadyErasedCapturesAreRecovered
  pub stay : StreamsStay
  pub own : RewrittenTracksAreOwn
  pub pieces : (format : Format) (image : List ℕ) (k : ℕ) → IsImage format image → k < length (tracks format)
      → PiecesAreRightWithin (StandsBy Controller format (track_at format k)) (written_track format image k) START_ZEROS
  pub two_rings : (format : Format) (image : List ℕ) (k : ℕ) → IsImage format image → k < length (tracks format)
      → TwoRingsHaveSectors (StandsBy Controller format (track_at format k)) (written_track format image k)

-- a dump says what it has
track_says : (disk : DumpDisk) (files : List File) (n dump : ℕ) → dump < length disk.dumps → says_on disk files n dump ≡ seen_of (track_on disk files n dump)
track_says disk files n dump few =
    ap (λ (name : Option (List ℕ)). seen_of (option_and_then (λ (dump : List ℕ). dump_track files dump (file_track disk.stepping (track_at disk.format n))) name))
    (sym (slice_get-get_or disk.dumps dump [] few))

-- a stream without a fault is read, whatever follows it
begin_seen : StreamsStay → (stream later bytes : List ℕ) → bytes ≡ stream ++ later → first_fault stream ≡ None
    → seen_file bytes ≡ record { fault = None; passed = None; times = times stream; indexes = indexes stream }
begin_seen stay stream later bytes begins sound =
    let same = stay stream later sound in
    ap seen_file begins
    ∙ ap (seen_unless (stream ++ later)) same.no_fault
    ∙ ap (λ (blocks : List SpelledBlock). record { fault = None; passed = None; times = times_of blocks; indexes = indexes_of blocks }) same.blocks

-- what is passed over has no transitions
passed_times : (it : Option (Result (List ℕ) ScpTrackFault)) → is_some (seen_of it).passed ≡ true → (seen_of it).times ≡ []
passed_times None is = refl
passed_times (Some (Err fault)) is = refl
passed_times (Some (Ok bytes)) is = by_fault bytes (first_fault bytes) is
  where
    by_fault : (bytes : List ℕ) (fault : Option (ℕ × StreamFault)) → is_some (seen_unless bytes fault).passed ≡ true → (seen_unless bytes fault).times ≡ []
    by_fault bytes None is = absurd (cc)
    by_fault bytes (Some fault) is = refl

came_times : (file : Option (Result (List ℕ) ScpTrackFault)) (came : Seen) → IsOrFailed came (seen_of file) → is_some came.passed ≡ true → came.times ≡ []
came_times file came (inl same) passed =
    ap (λ (s : Seen). s.times) same ∙ passed_times file (sym (ap (λ (s : Seen). is_some s.passed) same) ∙ passed)
came_times file came (inr failed) passed = ap (λ (s : Seen). s.times) failed

no_cells : (clock : Clock) (format : Format) (track : TrackId) (ts is : List ℕ) → ts ≡ [] → cells_by clock format track ts is ≡ []
unfolding recovered
no_cells clock format track ts is none = ap (recovered (start_by clock (start_of format track is))) none

module _ (laws : Laws) (disk : DumpDisk) (came : Streams) (files : List File) (of : AreOfFiles disk came files) (image : List ℕ) (is : IsImage disk.format image) where
  abbrev format : Format
  format = disk.format

  abbrev streams : Streams
  streams = came

  -- a sector's own bytes
  abbrev pub mine : (n sector : ℕ) → List ℕ
  mine n sector = (written_track format image n).bytes_of sector

  abbrev pub tracks_written : AreWritten format image
  tracks_written = are_written laws.names laws.rings laws.lie format image is

  -- in the stream of a dump, by a clock, each sector that stands has its own bytes
  abbrev pub HoldsOwn : (n q : ℕ) → Clock → Type 0
  HoldsOwn n q clock = (place sector : ℕ) (bytes : List ℕ) → StandsIn Controller format streams n q clock place sector bytes → bytes ≡ mine n sector

  -- of a stream that is passed over nothing stands
  passed_holds : (n q : ℕ) (clock : Clock) → n < length (tracks format) → q < length disk.dumps → IsPassedOver came n q → HoldsOwn n q clock
  passed_holds n q clock known few passed place sector bytes here =
      let none : cells_in format streams n q clock ≡ [] =
      no_cells clock format (track_at format n) (streams n q).times (streams n q).indexes
      (came_times (track_in disk.stepping disk.dumps files (track_at format n) q) (streams n q) (of n q known few) passed) in
      let alone = (laws.own format image n is known).alone (drop place (cells_in format streams n q clock)) sector bytes here in
      let empty : length (cells_in format streams n q clock) ≡ 0 = ap length none in
      let rest = length-drop place (cells_in format streams n q clock) in
      absurd (omega (arith, alone.some, alone.within, empty, rest))

  -- a clock's cells of a dump's stream are those of pieces of the track's ring
  abbrev AreOfPieces : (n q : ℕ) → Clock → RingPiece → List RingPiece → Type 0
  AreOfPieces n q clock first later = cells_in format streams n q clock ≡ cells_of_ring_pieces (ring_of format image n) first later

  module _ (n q : ℕ) (known : n < length (tracks format)) (few : q < length disk.dumps) where
    abbrev track : TrackId
    track = track_at format n

    abbrev ring : List Bool
    ring = ring_of format image n

    abbrev AsWritten : RingPiece → List RingPiece → Type 0
    AsWritten first later = StandsAsWrittenWithin (StandsBy Controller format track) (written_track format image n) START_ZEROS first later

    written : (first : RingPiece) (later : List RingPiece) → AsWritten first later
    written first later = (laws.pieces format image n is known first later).0

    -- nothing else stands than what was written
    holds_own : (clock : Clock) (first : RingPiece) (later : List RingPiece) → AreOfPieces n q clock first later → HoldsOwn n q clock
    holds_own clock first later cells place sector bytes here =
        (written first later).own_bytes place sector bytes
        (subst (λ (cs : List Bool). StandsBy Controller format track (drop place cs) sector bytes) cells here)

    -- and what lies whole in a piece stands
    abbrev pub Stands : (sector : ℕ) → Type 0
    Stands sector = (place : ℕ) × StandsIn Controller format streams n q Following place sector (mine n sector)

    stands_whole : (first : RingPiece) (later : List RingPiece) → AreOfPieces n q Following first later → (sector : ℕ) → IsSectorOf format n sector
        → LiesInOnePiece (written_track format image n) (first ∷ later) sector → Stands sector
    stands_whole first later cells sector one lies =
        let place : ℕ = begin_of_piece (first ∷ later) lies.0 + lies.1 in (
          place,
          subst (λ (cs : List Bool). StandsBy Controller format track (drop place cs) sector (mine n sector)) (sym cells)
              ((written first later).whole_stands sector lies.0 lies.1 (tracks_written.has n sector one) lies.2),
        )

    -- where the file did not fail, what came is what it says
    module _ (same : streams n q ≡ says_on disk files n q) where
      stream_is : (stream : List ℕ) → Begins disk files n q stream → first_fault stream ≡ None
          → streams n q ≡ record { fault = None; passed = None; times = times stream; indexes = indexes stream }
      stream_is stream begins sound =
          same ∙ track_says disk files n q few ∙ ap seen_of begins.there
          ∙ begin_seen laws.stay stream begins.later begins.bytes begins.is sound

      cells_are : (clock : Clock) (stream : List ℕ) → Begins disk files n q stream → first_fault stream ≡ None
          → cells_in format streams n q clock ≡ cells_by clock format track (times stream) (indexes stream)
      cells_are clock stream begins sound =
          ap (λ (s : Seen). cells_by clock format track s.times s.indexes) (stream_is stream begins sound)

      -- of a stream that captures the track
      module _ (c : Captures disk files image n q) where
        abbrev piece : RingPiece
        piece = record { from = slice_index c.capture.places 0; count = last_in c.capture.places - slice_index c.capture.places 0 + 1 }

        of_piece : (clock : Clock) → cells_by clock format track (times c.stream) (indexes c.stream) ≡ stretch ring piece.from piece.count
            → AreOfPieces n q clock piece []
        of_piece clock back = cells_are clock c.stream c.begins c.capture.no_fault ∙ back ∙ sym (append-nil (stretch ring piece.from piece.count))

        whole_holds : IsSteady c.stream ring (nominal_of format n) c.capture → (clock : Clock) → HoldsOwn n q clock
        whole_holds steady clock =
            holds_own clock piece []
            (of_piece clock (laws.steady clock format track c.stream ring (tracks_written.known n known) (tracks_written.ring n known) c.capture steady))

        whole_stands : (sector : ℕ) → IsSectorOf format n sector → Stands sector
        whole_stands sector one =
            let long : 2 * length ring ≤ piece.count = omega (arith, c.capture.two_turns) in
            stands_whole piece [] (of_piece Following (laws.recovered format track c.stream ring (tracks_written.known n known) (tracks_written.ring n known) c.capture)) sector one
            (laws.two_rings format image n is known piece sector long (tracks_written.has n sector one))

      -- of one that is erased in parts
      module _ (c : CapturesInPart disk files image n q) where
        abbrev head : RingPiece
        head = ring_piece c.capture.first

        abbrev rest : List RingPiece
        rest = map ring_piece c.capture.later

        part_holds : IsSteadyErased c.stream ring (nominal_of format n) c.capture → (clock : Clock) → HoldsOwn n q clock
        part_holds steady clock =
            holds_own clock head rest
            (cells_are clock c.stream c.begins c.capture.no_fault
            ∙ laws.steady_erased clock format track c.stream ring (tracks_written.known n known) (tracks_written.ring n known) c.capture steady
            ∙ cells-same ring c.capture.first c.capture.later)

        part_stands : (sector : ℕ) → IsSectorOf format n sector → LiesInOnePiece (written_track format image n) (head ∷ rest) sector → Stands sector
        part_stands sector one lies =
            stands_whole head rest
            (cells_are Following c.stream c.begins c.capture.no_fault
            ∙ laws.recovered_erased format track c.stream ring (tracks_written.known n known) (tracks_written.ring n known) c.capture
            ∙ cells-same ring c.capture.first c.capture.later)
            sector one lies

    -- a sector stands that the dump has whole, in a file that did not fail
    stands_by : IsOrFailed (streams n q) (says_on disk files n q) → (sector : ℕ) → IsSectorOf format n sector → ¬ HasFailed came n q
        → HasWhole disk files image n q sector → Stands sector
    stands_by (inl same) sector one read (inl c) = whole_stands same c sector one
    stands_by (inl same) sector one read (inr part) = part_stands same part.0 sector one part.1
    stands_by (inr failed) sector one read whole = absurd (read (ap (λ (s : Seen). s.passed) failed))

    pub stands : (sector : ℕ) → IsSectorOf format n sector → ¬ HasFailed came n q → HasWhole disk files image n q sector → Stands sector
    stands sector one read whole = stands_by (of n q known few) sector one read whole

    -- and all that stands has its own bytes
    holds_by : IsOrFailed (streams n q) (says_on disk files n q) → IsSteadyOrPassed disk came files image n q → (clock : Clock) → HoldsOwn n q clock
    holds_by (inl same) (inl steady) clock = whole_holds same steady.0 steady.1 clock
    holds_by (inl same) (inr (inl steady)) clock = part_holds same steady.0 steady.1 clock
    holds_by (inl same) (inr (inr passed)) clock = passed_holds n q clock known few passed
    holds_by (inr failed) steady clock = passed_holds n q clock known few (ap (λ (s : Seen). is_some s.passed) failed)

    pub holds : IsSteadyOrPassed disk came files image n q → (clock : Clock) → HoldsOwn n q clock
    holds steady clock = holds_by (of n q known few) steady clock
