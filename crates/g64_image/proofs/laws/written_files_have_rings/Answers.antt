use Rattle.g64_image.proofs.WrittenDisks.{are_rings, have_no_fault}
use Rattle.g64_image.proofs.WrittenTracks.{TrackLaws}
use Rattle.g64_image.proofs.laws.written_files_have_rings.Goals as goal

laws : (c : goal.After-sectors_lie_in_images) → TrackLaws
laws c = record {
  names = c.sectors_lie_in_images.ensures.numbers;
  lie = c.sectors_lie_in_images.ensures.sectors;
  cells = c.tracks_have_rings.ensures.cells;
  stand = c.tracks_have_rings.ensures.stand;
  frames = c.tracks_have_rings.ensures.whole;
  some = c.tracks_have_rings.ensures.some;
  own = c.tracks_have_only_own.ensures.stretches;
}

pub returns-clause-none : goal.returns-clause-none
returns-clause-none c = have_no_fault (laws c)

pub returns-clause-rings : goal.returns-clause-rings
returns-clause-rings c = are_rings (laws c)
