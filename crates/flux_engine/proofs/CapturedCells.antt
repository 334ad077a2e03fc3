-- From the captures of a ring the ring's cells are recovered.
use Rattle.std.specs.Prelude.{◌<◌, ◌≤◌, ℕ, ◌+◌, ◌-◌, ◌*◌, ◌/◌, List, [], ◌∷◌, length, refl, slice_index}
use Rattle.std.proofs.Common.{arith, subst, sym, ◌∙◌}
use Rattle.std.proofs.lemmas.List.{append-nil}
use Rattle.std.proofs.lemmas.List.Elements.{All-cons, All-nil}
use Rattle.disk_recordings.specs.Laws.{RingsHaveCells}
use Rattle.index_turns.specs.Track.{turn_length}
use Rattle.kryo_stream.specs.Stream.{indexes, times}
use Rattle.phase_loop.specs.Carried.{KeepsSpeed}
use Rattle.phase_loop.specs.Pieces.{CarryPieces, EachKeepsSpeed, IsPiece, Piece, RecoversPiecesOfTurns, RecoversSteadyPiecesOfTurns, cells_of_piece}
use Rattle.sector_images.specs.Formats.{zone}
use Rattle.sector_images.specs.Places.{NumbersNameTracks, SectorsLieInImages, TracksKeepBounds}
use Rattle.track_rings.specs.Rings.{last_in}
use Rattle.flux_engine.specs.Captures.{CapturesAreErasedCaptures, CapturesAreRecovered, ErasedCapturesAreRecovered, SteadyCapturesAreRecovered, SteadyErasedCapturesAreRecovered, WrittenRingsAreRecovered, WritesCaptures, mean_cell}
use Rattle.flux_engine.specs.Recordings.{track_at}
use Rattle.turn_merge.specs.declared.clock.Clock.TheVariants.{Following, Held}
use Rattle.flux_engine.specs.Rings.{IsRing, ring_cells_of, ring_of}
use Rattle.flux_engine.proofs.RingLaws.{are_sectors, is_ring, track_known}

-- what reaches over a ring with cells is no empty list
some_place : (places : List ℕ) (cells : ℕ) → 0 < cells → slice_index places 0 + 2 * cells ≤ last_in places → 0 < length places
some_place [] cells some far = absurd (omega arith)
some_place (place ∷ places) cells some far = omega arith

pub erased_are_recovered : RecoversPiecesOfTurns → TracksKeepBounds → ErasedCapturesAreRecovered
erased_are_recovered law keep format track x ring known is capture =
    let bounds = keep format track known in
    let turn : ℕ = turn_length (indexes x) 1 in
    law (zone format track.cylinder).nominal turn (zone format track.cylinder).ring_cells (times x)
    (record { shortest = bounds.shortest_cell; longest = bounds.longest_cell }) ring capture.first capture.later is.spaced
    (subst (λ (n : ℕ). CarryPieces (zone format track.cylinder).nominal (1024 * turn / n) ring (times x) capture.first capture.later) is.cells_are capture.carried)

-- also by the clock that holds the mean of the first turn, where the drive keeps its speed
pub steady_erased_are_recovered : RecoversPiecesOfTurns → RecoversSteadyPiecesOfTurns → TracksKeepBounds → SteadyErasedCapturesAreRecovered
steady_erased_are_recovered law steady keep Following format track x ring known is capture near =
    erased_are_recovered law keep format track x ring known is capture
steady_erased_are_recovered law steady keep Held format track x ring known is capture near =
    let bounds = keep format track known in
    let turn : ℕ = turn_length (indexes x) 1 in
    let nominal : ℕ = (zone format track.cylinder).nominal in
    steady nominal turn (zone format track.cylinder).ring_cells (times x)
    (record { shortest = bounds.shortest_cell; longest = bounds.longest_cell }) ring capture.first capture.later is.spaced
    (subst (λ (n : ℕ). CarryPieces nominal (1024 * turn / n) ring (times x) capture.first capture.later) is.cells_are capture.carried)
    (subst (λ (n : ℕ). EachKeepsSpeed nominal (1024 * turn / n) (capture.first ∷ capture.later)) is.cells_are near)

pub captures_are_erased : CapturesAreErasedCaptures
captures_are_erased x ring nominal spaced capture =
    let P : Piece → Type 0 = IsPiece nominal (mean_cell (indexes x) (length ring)) ring in
    let piece : Piece = record { times = times x; places = capture.places; periods = capture.periods } in
    let one = spaced.has_one in
    let some : 0 < length capture.places = some_place capture.places (length ring) (omega (arith, one.1)) capture.two_turns in
    let size = capture.carried.each_place in
    let is : P piece = record { some = omega (arith, some, size); carried = capture.carried; start = capture.start } in (
      record {
        no_fault = capture.no_fault;
        whole = capture.whole;
        first = piece;
        later = [];
        carried = record { cut = sym (append-nil (times x)); pieces = All-cons P piece [] is (All-nil P); apart = tt };
      },
      refl,
      refl,
    )

pub captures_recovered : RecoversPiecesOfTurns → TracksKeepBounds → CapturesAreRecovered
unfolding captures_are_erased
captures_recovered law keep format track x ring known is capture =
    let nominal : ℕ = (zone format track.cylinder).nominal in
    let piece : Piece = record { times = times x; places = capture.places; periods = capture.periods } in
    let erased = captures_are_erased x ring nominal is.spaced capture in
    erased_are_recovered law keep format track x ring known is erased.0 ∙ append-nil (cells_of_piece ring piece)

pub steady_captures_recovered : RecoversPiecesOfTurns → RecoversSteadyPiecesOfTurns → TracksKeepBounds → SteadyCapturesAreRecovered
unfolding captures_are_erased
steady_captures_recovered law steady keep clock format track x ring known is capture near =
    let nominal : ℕ = (zone format track.cylinder).nominal in
    let piece : Piece = record { times = times x; places = capture.places; periods = capture.periods } in
    let P : Piece → Type 0 = λ p. KeepsSpeed nominal (mean_cell (indexes x) (length ring)) p.periods in
    let erased = captures_are_erased x ring nominal is.spaced capture in
    steady_erased_are_recovered law steady keep clock format track x ring known is erased.0 (All-cons P piece [] near (All-nil P))
    ∙ append-nil (cells_of_piece ring piece)

pub written_are_recovered : RecoversPiecesOfTurns → TracksKeepBounds → RingsHaveCells → NumbersNameTracks → SectorsLieInImages → WritesCaptures → WrittenRingsAreRecovered
written_are_recovered law keep have names lie writes format image k is below =
    let track = track_at format k in
    let ring : IsRing (ring_cells_of format k) (ring_of format image k) =
    is_ring have format track image (track_known names format k below) (are_sectors lie format track image is (track_known names format k below)) in
    let capture = writes format image k is below in
    let first : ℕ = slice_index capture.places 0 in
    let way = capture.two_turns in
    let size = ring.cells_are in
    (first, last_in capture.places - first + 1, omega (arith, way, size), captures_recovered law keep format track _ (ring_of format image k) (track_known names format k below) ring capture)
