use Rattle.std.specs.Prelude.{◌<◌, ℕ, List, length}
use Rattle.disk_recordings.specs.Members.{as_controllers_read}
use Rattle.disk_recordings.specs.Recordings.{ANY_ID, recording_of}
use Rattle.sector_images.specs.Places.{tracks}
use Rattle.sector_images.specs.declared.format.Format.{Format}
use Rattle.flux_engine.specs.Rings.{IsImage}
use Rattle.flux_engine.specs.Rules.{StandsBy}
use Rattle.flux_engine.specs.declared.plan.Rule.{Rule}
use Rattle.flux_engine.specs.declared.plan.Rule.TheVariants.{Controller, Strict}
use Rattle.law_decoded_rings.specs.Verdicts.{PiecesAreRightWithin, TwoRingsHaveSectors}
use Rattle.flux_engine.specs.Recordings.{track_at}
use Rattle.law_captured_disks.specs.Frames.{RewrittenTracksAreOwn, TracksAreOwn, written_track}
use Rattle.law_captured_disks.specs.lemmas.Owning.{rewritten_are_own, tracks_are_own}
use Rattle.law_captured_plans.proofs.Plans.{Laws, zeros_of, captured_plans_are_never_wrong, captured_plans_are_read, erased_plans_are_read, erased_plans_stand_in_one_piece}
use Rattle.law_captured_plans.proofs.laws.captured_plans_are_read.Goals as goal

own : (c : goal.After-tracks_fill_images) → TracksAreOwn
own c =
    tracks_are_own c.sectors_lie_in_images.ensures.numbers c.sectors_lie_in_images.ensures.sectors
    c.tracks_have_only_own.ensures.alone c.tracks_have_only_own.ensures.between_zeros
    c.tracks_have_rings.ensures.stand c.tracks_have_rings.ensures.whole c.tracks_have_rings.ensures.some c.tracks_have_rings.ensures.cells

own_too : (c : goal.After-tracks_fill_images) → RewrittenTracksAreOwn
own_too c =
    rewritten_are_own c.rewritten_tracks_have_only_own.ensures.alone c.rewritten_tracks_have_only_own.ensures.between_zeros c.rewritten_tracks_have_only_own.ensures.stand
    c.tracks_have_rings.ensures.whole c.tracks_have_rings.ensures.some c.tracks_have_rings.ensures.cells
    c.sectors_lie_in_images.ensures.numbers c.sectors_lie_in_images.ensures.sectors

pieces : (c : goal.After-tracks_fill_images) (rule : Rule) (format : Format) (image : List ℕ) (k : ℕ) → IsImage format image → k < length (tracks format)
    → PiecesAreRightWithin (StandsBy rule format (track_at format k)) (written_track format image k) (zeros_of rule)
pieces c Strict format image k is known =
    c.own_sectors_are_right.ensures.pieces (recording_of format ANY_ID) (track_at format k) (written_track format image k) (own c format image k is known)
pieces c Controller format image k is known =
    (c.own_sectors_are_right.ensures.rewritten (recording_of (as_controllers_read format) ANY_ID) (track_at format k) (written_track format image k) (own_too c format image k is known)).0

two_rings : (c : goal.After-tracks_fill_images) (rule : Rule) (format : Format) (image : List ℕ) (k : ℕ) → IsImage format image → k < length (tracks format)
    → TwoRingsHaveSectors (StandsBy rule format (track_at format k)) (written_track format image k)
two_rings c Strict format image k is known =
    c.own_sectors_are_right.ensures.two_rings (recording_of format ANY_ID) (track_at format k) (written_track format image k) (own c format image k is known)
two_rings c Controller format image k is known =
    (c.own_sectors_are_right.ensures.rewritten (recording_of (as_controllers_read format) ANY_ID) (track_at format k) (written_track format image k) (own_too c format image k is known)).1

laws : (c : goal.After-tracks_fill_images) → Laws
laws c = record {
  stay = c.growth_law.ensures.streams;
  passed = c.joined_law.ensures;
  recovered = c.captures_are_recovered.ensures.captures;
  recovered_erased = c.captures_are_recovered.ensures.erased;
  steady = c.steady_captures_are_recovered.ensures.captures;
  steady_erased = c.steady_captures_are_recovered.ensures.erased;
  rings = c.tracks_have_rings.ensures.cells;
  names = c.sectors_lie_in_images.ensures.numbers;
  hold = c.sectors_fill_tracks.ensures.numbers;
  lie = c.sectors_lie_in_images.ensures.sectors;
  joined = c.tracks_fill_images.ensures.joined;
  filled = c.tracks_fill_images.ensures.filled;
  sectors = record {
    good = c.plans_are_right.ensures.good;
    names = c.sectors_lie_in_images.ensures.numbers;
    fill = c.sectors_fill_tracks.ensures.sectors;
    joined = c.tracks_fill_images.ensures.joined;
    one = c.sectors_have_one_line.ensures;
  };
  said = c.planned_sectors_are_said.ensures;
  stays = c.plans_are_right.ensures.stays;
  rules = c.rules_are_read.ensures;
  pieces = pieces c;
  two_rings = two_rings c;
}

pub returns-clause-whole : goal.returns-clause-whole
returns-clause-whole c = captured_plans_are_read (laws c)

pub returns-clause-erased : goal.returns-clause-erased
returns-clause-erased c = erased_plans_are_read (laws c)

pub returns-clause-one_piece : goal.returns-clause-one_piece
returns-clause-one_piece c = erased_plans_stand_in_one_piece (laws c)

pub returns-clause-never_wrong : goal.returns-clause-never_wrong
returns-clause-never_wrong c = captured_plans_are_never_wrong (laws c)
