use Rattle.sector_images.proofs.Computed.{few_tracks, have_tracks, keep_bounds, small_images}
use Rattle.sector_images.proofs.laws.tracks_keep_bounds.Goals as goal

pub returns-clause-some : goal.returns-clause-some
returns-clause-some c = have_tracks

pub returns-clause-few : goal.returns-clause-few
returns-clause-few c = few_tracks

pub returns-clause-bounds : goal.returns-clause-bounds
returns-clause-bounds c = keep_bounds

pub returns-clause-images : goal.returns-clause-images
returns-clause-images c = small_images
