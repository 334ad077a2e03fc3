use Rattle.law_read_dumps.proofs.Complete.{complete_is_all}
use Rattle.law_read_dumps.proofs.laws.complete_dumps_are_all_read.Goals as goal

pub returns : goal.returns
returns c = complete_is_all (record {
  readings = c.plans_are_right.ensures.readings;
  said = c.dumps_say_each_sector.ensures.said;
  known = c.data_are_known.ensures;
  numbers = c.sectors_lie_in_images.ensures.numbers;
  some = c.tracks_keep_bounds.ensures.some;
  keep = c.tracks_keep_bounds.ensures.bounds;
})
