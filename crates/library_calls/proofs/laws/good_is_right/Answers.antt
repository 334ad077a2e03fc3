use Rattle.library_calls.proofs.Outcomes.{good_is_right}
use Rattle.library_calls.proofs.laws.good_is_right.Goals as goal

pub returns : goal.returns
returns c = good_is_right c.tracks_are_read.ensures c.sectors_fill_tracks.ensures.sectors
