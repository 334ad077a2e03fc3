use Rattle.std.specs.Prelude.{◌<◌, ℕ, List, length}
use Rattle.disk_recordings.specs.Members.{as_controllers_read}
use Rattle.disk_recordings.specs.Recordings.{ANY_ID, recording_of}
use Rattle.flux_engine.specs.Recordings.{track_at}
use Rattle.flux_engine.specs.Rings.{IsImage}
use Rattle.flux_engine.specs.Rules.{StandsBy}
use Rattle.flux_engine.specs.declared.plan.Rule.TheVariants.{Controller}
use Rattle.frame_law.specs.Controller.{START_ZEROS}
use Rattle.law_captured_disks.specs.Frames.{RewrittenTracksAreOwn, written_track}
use Rattle.law_captured_disks.specs.lemmas.Owning.{rewritten_are_own}
use Rattle.law_decoded_rings.specs.Verdicts.{PiecesAreRightWithin, TwoRingsHaveSectors}
use Rattle.sector_images.specs.Places.{tracks}
use Rattle.sector_images.specs.declared.format.Format.{Format}
use Rattle.law_captured_dumps.proofs.Captured.{Laws, never_wrong, read_well}
use Rattle.law_captured_dumps.proofs.laws.captured_dumps_are_read.Goals as goal

own : (c : goal.After-sectors_lie_in_images) → RewrittenTracksAreOwn
own c =
    rewritten_are_own c.rewritten_tracks_have_only_own.ensures.alone c.rewritten_tracks_have_only_own.ensures.between_zeros c.rewritten_tracks_have_only_own.ensures.stand
    c.tracks_have_rings.ensures.whole c.tracks_have_rings.ensures.some c.tracks_have_rings.ensures.cells
    c.sectors_lie_in_images.ensures.numbers c.sectors_lie_in_images.ensures.sectors

pieces : (c : goal.After-sectors_lie_in_images) (format : Format) (image : List ℕ) (k : ℕ) → IsImage format image → k < length (tracks format)
    → PiecesAreRightWithin (StandsBy Controller format (track_at format k)) (written_track format image k) START_ZEROS
pieces c format image k is known =
    (c.own_sectors_are_right.ensures.rewritten (recording_of (as_controllers_read format) ANY_ID) (track_at format k) (written_track format image k) (own c format image k is known)).0

two_rings : (c : goal.After-sectors_lie_in_images) (format : Format) (image : List ℕ) (k : ℕ) → IsImage format image → k < length (tracks format)
    → TwoRingsHaveSectors (StandsBy Controller format (track_at format k)) (written_track format image k)
two_rings c format image k is known =
    (c.own_sectors_are_right.ensures.rewritten (recording_of (as_controllers_read format) ANY_ID) (track_at format k) (written_track format image k) (own c format image k is known)).1

laws : (c : goal.After-sectors_lie_in_images) → Laws
laws c = record {
  own = record {
    names = c.sectors_lie_in_images.ensures.numbers;
    lie = c.sectors_lie_in_images.ensures.sectors;
    rings = c.tracks_have_rings.ensures.cells;
    recovered = c.captures_are_recovered.ensures.captures;
    recovered_erased = c.captures_are_recovered.ensures.erased;
    steady = c.steady_captures_are_recovered.ensures.captures;
    steady_erased = c.steady_captures_are_recovered.ensures.erased;
    stay = c.growth_law.ensures.streams;
    own = own c;
    pieces = pieces c;
    two_rings = two_rings c;
  };
  rules = c.rules_are_read.ensures;
  said = c.dumps_say_each_sector.ensures.said;
  of_files = c.dumps_say_each_sector.ensures.of_files;
  right = c.dumps_say_each_sector.ensures.right;
}

pub returns-clause-never_wrong : goal.returns-clause-never_wrong
returns-clause-never_wrong c = never_wrong (laws c)

pub returns-clause-well : goal.returns-clause-well
returns-clause-well c = read_well (laws c)
