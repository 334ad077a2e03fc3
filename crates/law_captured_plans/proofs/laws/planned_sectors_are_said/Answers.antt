use Rattle.law_captured_plans.proofs.Sectors.{sectors_are_said}
use Rattle.law_captured_plans.proofs.laws.planned_sectors_are_said.Goals as goal

pub returns : goal.returns
returns c = sectors_are_said (record {
  good = c.plans_are_right.ensures.good;
  names = c.sectors_lie_in_images.ensures.numbers;
  fill = c.sectors_fill_tracks.ensures.sectors;
  joined = c.tracks_fill_images.ensures.joined;
  one = c.sectors_have_one_line.ensures;
})
