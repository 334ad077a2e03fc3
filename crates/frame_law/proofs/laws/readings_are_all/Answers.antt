use Rattle.frame_law.proofs.AllReadings.{all_from, one_list, readings_from}
use Rattle.frame_law.proofs.Skips.{stands_within}
use Rattle.frame_law.proofs.laws.readings_are_all.Goals as goal

pub returns-clause-all : goal.returns-clause-all
returns-clause-all g c = λ r track cells from found.
    let header = g.R.Recording.header_at r track in
    let sector = g.R.Recording.sector_at r track in (
      all_from header sector
          (λ some s here. stands_within some _ _ 0 (g.met.R.Recording.sync_leads r track some s here) (g.met.R.Recording.sync_size r).0)
          (g.met.R.Recording.one_header r track)
          (g.met.R.Recording.one_content r track)
          (g.met.R.Recording.header_of_sector r track)
          cells from found,
      readings_from header sector cells from found,
    )

pub returns-clause-one : goal.returns-clause-one
returns-clause-one g c = λ r track.
    let header = g.R.Recording.header_at r track in
    let sector = g.R.Recording.sector_at r track in
    one_list header sector
    (λ some s here. stands_within some _ _ 0 (g.met.R.Recording.sync_leads r track some s here) (g.met.R.Recording.sync_size r).0)
    (g.met.R.Recording.one_header r track)
    (g.met.R.Recording.one_content r track)
    (g.met.R.Recording.header_of_sector r track)
