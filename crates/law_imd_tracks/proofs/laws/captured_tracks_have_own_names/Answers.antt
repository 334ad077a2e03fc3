use Rattle.std.specs.Prelude.{◌<◌, ℕ, List, length}
use Rattle.disk_recordings.specs.Members.{as_controllers_read}
use Rattle.disk_recordings.specs.Recordings.{ANY_ID, recording_of}
use Rattle.flux_engine.specs.Recordings.{track_at}
use Rattle.flux_engine.specs.Rings.{IsImage}
use Rattle.flux_engine.specs.Rules.{StandsBy}
use Rattle.flux_engine.specs.declared.plan.Rule.TheVariants.{Controller}
use Rattle.frame_law.specs.Controller.{START_ZEROS}
use Rattle.law_captured_disks.specs.Frames.{RewrittenTracksAreOwn, written_track}
use Rattle.law_captured_disks.specs.lemmas.Owning.{rewritten_are_own}
use Rattle.law_decoded_rings.specs.Verdicts.{PiecesAreRightWithin, TwoRingsHaveSectors}
use Rattle.sector_images.specs.Places.{tracks}
use Rattle.sector_images.specs.declared.format.Format.{Format}
use Rattle.law_imd_tracks.proofs.Marks.{marked}
use Rattle.law_imd_tracks.proofs.Names.{Laws, of_track}
use Rattle.law_imd_tracks.proofs.laws.captured_tracks_have_own_names.Goals as goal

own : (c : goal.After-sectors_lie_in_images) → RewrittenTracksAreOwn
own c =
    rewritten_are_own c.rewritten_tracks_have_only_own.ensures.alone c.rewritten_tracks_have_only_own.ensures.between_zeros c.rewritten_tracks_have_only_own.ensures.stand
    c.tracks_have_rings.ensures.whole c.tracks_have_rings.ensures.some c.tracks_have_rings.ensures.cells
    c.sectors_lie_in_images.ensures.numbers c.sectors_lie_in_images.ensures.sectors

pieces : (c : goal.After-sectors_lie_in_images) (format : Format) (image : List ℕ) (k : ℕ) → IsImage format image → k < length (tracks format)
    → PiecesAreRightWithin (StandsBy Controller format (track_at format k)) (written_track format image k) START_ZEROS
pieces c format image k is known =
    (c.own_sectors_are_right.ensures.rewritten (recording_of (as_controllers_read format) ANY_ID) (track_at format k) (written_track format image k) (own c format image k is known)).0

two_rings : (c : goal.After-sectors_lie_in_images) (format : Format) (image : List ℕ) (k : ℕ) → IsImage format image → k < length (tracks format)
    → TwoRingsHaveSectors (StandsBy Controller format (track_at format k)) (written_track format image k)
two_rings c format image k is known =
    (c.own_sectors_are_right.ensures.rewritten (recording_of (as_controllers_read format) ANY_ID) (track_at format k) (written_track format image k) (own c format image k is known)).1

laws : (c : goal.After-sectors_lie_in_images) → Laws
laws c = record {
  numbers = c.sectors_lie_in_images.ensures.numbers;
  lie = c.sectors_lie_in_images.ensures.sectors;
  rings = c.tracks_have_rings.ensures.cells;
  steady = c.steady_captures_are_recovered.ensures.captures;
  names = c.headers_have_names.ensures;
  no_others = c.captures_have_no_others.ensures;
  reads = c.rewritten_tracks_are_read.ensures;
  two_rings = two_rings c;
  pieces = pieces c;
  marked = marked c.own_data_are_not_deleted.ensures c.own_data_are_not_deleted-2.ensures;
}

pub returns : goal.returns
returns c clock disk image x n dump headers noted is known capture keeps are = of_track (laws c) clock disk image x n dump headers noted is known capture keeps are
