use Rattle.std.specs.Prelude.{◌≡◌, ◌<◌, ℕ, List, length, false, is_some, true, Option}
use Rattle.std.proofs.Common.{◌∙◌, ap, sym}
use Rattle.disk_recordings.specs.Members.{as_controllers_read}
use Rattle.disk_recordings.specs.Recordings.{ANY_ID, recording_of}
use Rattle.flux_engine.specs.Recordings.{track_at}
use Rattle.flux_engine.specs.Rings.{IsImage}
use Rattle.flux_engine.specs.Rules.{StandsBy}
use Rattle.flux_engine.specs.declared.plan.Rule.TheVariants.{Controller}
use Rattle.frame_law.specs.Controller.{START_ZEROS}
use Rattle.law_captured_disks.specs.Frames.{RewrittenTracksAreOwn, written_track}
use Rattle.law_captured_disks.specs.lemmas.Owning.{rewritten_are_own}
use Rattle.law_decoded_rings.specs.Verdicts.{PiecesAreRightWithin, TwoRingsHaveSectors}
use Rattle.sector_images.specs.Places.{tracks}
use Rattle.sector_report.specs.declared.dump_lines.Passed.{Passed}
use Rattle.sector_images.specs.declared.format.Format.{Format}
use Rattle.law_numbered_dumps.specs.Headline.{QuartersOfDisksAreFound}
use Rattle.law_numbered_dumps.specs.Inputs.{all_tracks}
use Rattle.law_numbered_dumps.proofs.Found.{erased_only, found, found_whole}
use Rattle.law_numbered_dumps.proofs.Streams.{Laws}
use Rattle.law_numbered_dumps.proofs.laws.captured_disks_are_found.Goals as goal

own : (c : goal.After-sectors_lie_in_images) → RewrittenTracksAreOwn
own c =
    rewritten_are_own c.rewritten_tracks_have_only_own.ensures.alone c.rewritten_tracks_have_only_own.ensures.between_zeros c.rewritten_tracks_have_only_own.ensures.stand
    c.tracks_have_rings.ensures.whole c.tracks_have_rings.ensures.some c.tracks_have_rings.ensures.cells
    c.sectors_lie_in_images.ensures.numbers c.sectors_lie_in_images.ensures.sectors

pieces : (c : goal.After-sectors_lie_in_images) (format : Format) (image : List ℕ) (k : ℕ) → IsImage format image → k < length (tracks format)
    → PiecesAreRightWithin (StandsBy Controller format (track_at format k)) (written_track format image k) START_ZEROS
pieces c format image k is known =
    (c.own_sectors_are_right.ensures.rewritten (recording_of (as_controllers_read format) ANY_ID) (track_at format k) (written_track format image k) (own c format image k is known)).0

two_rings : (c : goal.After-sectors_lie_in_images) (format : Format) (image : List ℕ) (k : ℕ) → IsImage format image → k < length (tracks format)
    → TwoRingsHaveSectors (StandsBy Controller format (track_at format k)) (written_track format image k)
two_rings c format image k is known =
    (c.own_sectors_are_right.ensures.rewritten (recording_of (as_controllers_read format) ANY_ID) (track_at format k) (written_track format image k) (own c format image k is known)).1

laws : (c : goal.After-sectors_lie_in_images) → Laws
laws c = record {
  numbers = c.sectors_lie_in_images.ensures.numbers;
  lie = c.sectors_lie_in_images.ensures.sectors;
  rings = c.tracks_have_rings.ensures.cells;
  stay = c.growth_law.ensures.streams;
  recovered = c.captures_are_recovered.ensures.captures;
  names = c.headers_have_names.ensures;
  reads = c.rewritten_tracks_are_read.ensures;
  no_others = c.captures_have_no_others.ensures;
  pieces = pieces c;
  two_rings = two_rings c;
}

in_part : (c : goal.After-sectors_lie_in_images) → QuartersOfDisksAreFound
in_part c dump files disks numbers disk image whole told made stepped is captures quarter = found dump files disks told (laws c) disk image is whole stepped captures quarter numbers made

pub returns-clause-found : goal.returns-clause-found
returns-clause-found c dump files disks numbers disk image told made stepped is captures =
    found_whole disks numbers disk made (λ quarter. in_part c dump files disks numbers disk image all_tracks told made stepped is captures quarter)

pub returns-clause-quarter : goal.returns-clause-quarter
returns-clause-quarter c = in_part c

pub returns-clause-erased : goal.returns-clause-erased
returns-clause-erased c = erased_only (laws c)

pub returns-clause-passed : goal.returns-clause-passed
returns-clause-passed c rate size says passed own number has = no (sym passed ∙ ap (λ (p : Option Passed). is_some p) has.read)
  where
    no : true ≡ false → ⊥
    no e = cc
