use Rattle.law_stated_disks.proofs.Fit.{frames_fit}
use Rattle.law_stated_disks.proofs.Late.{late_have, specks_are}
use Rattle.law_stated_disks.proofs.Wide.{disks_reach}
use Rattle.law_stated_disks.proofs.laws.disks_reach_each_bound.Goals as goal

pub returns : goal.returns
returns c =
    let reach = c.captures_reach_each_bound.ensures in
    let names = c.sectors_lie_in_images.ensures.numbers in
    let keep = c.tracks_keep_bounds.ensures.bounds in
    let rings = c.tracks_have_rings.ensures in
    let fit = frames_fit names c.sectors_lie_in_images.ensures.sectors keep c.images_have_rings.ensures rings.whole rings.some in
    record {
      disks = disks_reach names keep reach.steady_speeds reach.tracks;
      late = late_have names keep reach.steady_speeds reach.track_pieces fit;
      specks = specks_are names keep reach.steady_speeds reach.track_pieces fit;
    }
