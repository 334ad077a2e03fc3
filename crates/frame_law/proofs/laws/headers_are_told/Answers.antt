use Rattle.std.proofs.Common.{drop}
use Rattle.frame_law.proofs.HeaderData.{searches}
use Rattle.frame_law.proofs.Names.{one_found}
use Rattle.frame_law.proofs.laws.headers_are_told.Goals as goal

pub returns-clause-told : goal.returns-clause-told
returns-clause-told g c = λ r track.
    let laws = g.met.R.Recording in
    record {
      one_name = laws.one_name r;
      of_sectors = laws.header_named r track;
      found = λ cells.
          searches _
          (λ place f h.
          one_found (g.R.Recording.named_at r) (g.R.Recording.is_name_of r track) (g.R.Recording.header_at r track) (laws.header_named r track)
          (laws.one_name r) (laws.one_header r track) (drop place cells) f h);
      alone = laws.named_alone r;
    }

pub returns-clause-own_data : goal.returns-clause-own_data
returns-clause-own_data g c = g.met.R.Recording.named_data
