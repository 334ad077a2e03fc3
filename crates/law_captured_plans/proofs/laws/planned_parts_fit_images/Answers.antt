use Rattle.law_captured_plans.proofs.Sectors.{parts_fit_images}
use Rattle.law_captured_plans.proofs.laws.planned_parts_fit_images.Goals as goal

pub returns : goal.returns
returns c = parts_fit_images (record {
  good = c.plans_are_right.ensures.good;
  names = c.sectors_lie_in_images.ensures.numbers;
  fill = c.sectors_fill_tracks.ensures.sectors;
  joined = c.tracks_fill_images.ensures.joined;
  one = c.sectors_have_one_line.ensures;
}) c.tracks_fill_images.ensures.filled
