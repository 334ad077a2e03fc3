use Rattle.law_stated_captures.specs.Reached.{PiecesReachBounds, RingsReachBounds}
use Rattle.law_stated_captures.proofs.Reached.{rings_reach}
use Rattle.law_stated_captures.proofs.ReachedPieces.{pieces_reach}
use Rattle.law_stated_captures.proofs.Tracks.{track_pieces_reach, tracks_reach}
use Rattle.law_stated_captures.proofs.Speeds.{bounds_are_speeds, steady_bounds_are_speeds}
use Rattle.law_stated_captures.proofs.laws.captures_reach_each_bound.Goals as goal

pub returns : goal.returns
returns c =
    let rings : RingsReachBounds = rings_reach c.blocks_law.ensures in
    let pieces : PiecesReachBounds = pieces_reach c.blocks_law.ensures in
    let have = c.images_have_rings.ensures in
    let names = c.sectors_lie_in_images.ensures.numbers in
    let keep = c.tracks_keep_bounds.ensures.bounds in
    record {
      rings = rings;
      pieces = pieces;
      tracks = tracks_reach have names keep rings;
      track_pieces = track_pieces_reach have names keep pieces;
      speeds = bounds_are_speeds;
      steady_speeds = steady_bounds_are_speeds;
    }
