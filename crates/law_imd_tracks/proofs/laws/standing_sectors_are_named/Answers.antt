use Rattle.law_imd_tracks.proofs.Formats.{is_named}
use Rattle.law_imd_tracks.proofs.laws.standing_sectors_are_named.Goals as goal

pub returns : goal.returns
returns c = is_named c.headers_have_names.ensures c.rewritten_tracks_are_read.ensures
