use Rattle.flux_trial.proofs.Whole.{whole_trials}
use Rattle.flux_trial.proofs.laws.whole_trials_have_one_line.Goals as goal

pub returns : goal.returns
returns c = whole_trials c.trials_are_captured.ensures.disks c.captured_plans_are_read.ensures.whole
