use Rattle.frame_law.proofs.HeaderData.{one_header_data, searches}
use Rattle.frame_law.proofs.laws.data_are_read.Goals as goal

pub returns-clause-of_header : goal.returns-clause-of_header
returns-clause-of_header g c = λ r cells. searches (g.R.Recording.data_at r cells) (g.met.R.Recording.data_is_one r cells)

pub returns-clause-of_track : goal.returns-clause-of_track
returns-clause-of_track g c = λ r track cells.
    searches _
    (one_header_data (g.R.Recording.header_at r track) (g.R.Recording.data_at r) (g.met.R.Recording.one_header r track)
    (g.met.R.Recording.data_is_one r) cells)

pub returns-clause-told : goal.returns-clause-told
returns-clause-told g c = λ r. record {
  one = g.met.R.Recording.data_is_one r;
  whole = g.met.R.Recording.data_size r;
  inside = g.met.R.Recording.data_inside r;
}
