use Rattle.flux_trial.proofs.Rings.{Laws}
use Rattle.flux_trial.proofs.Whole.{small_seeds, trials_are_captured_disks, trials_are_captures}
use Rattle.flux_trial.proofs.laws.trials_are_captured.Goals as goal

laws : (c : goal.After-images_have_rings) → Laws
laws c = record {
  read = c.written_law.ensures.reads;
  short = c.written_law.ensures.size;
  keep = c.tracks_keep_bounds.ensures.bounds;
  small = c.tracks_keep_bounds.ensures.images;
  names = c.sectors_lie_in_images.ensures.numbers;
  rings = c.images_have_rings.ensures;
}

pub returns-clause-small : goal.returns-clause-small
returns-clause-small c = small_seeds

pub returns-clause-streams : goal.returns-clause-streams
returns-clause-streams c = trials_are_captures (laws c)

pub returns-clause-disks : goal.returns-clause-disks
returns-clause-disks c = trials_are_captured_disks (laws c)
