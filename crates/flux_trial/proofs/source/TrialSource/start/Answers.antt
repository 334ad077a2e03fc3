use Rattle.std.proofs.Common.{◌∙◌, ap, length}
use Rattle.flux_trial.proofs.Giving.{start-left}
use Rattle.flux_trial.proofs.Rings.{is_image}
use Rattle.flux_trial.specs.inside.Giving.{SourceState}
use Rattle.flux_trial.proofs.source.TrialSource.start.Goals as goal

pub trial_image-requires : goal.trial_image-requires
trial_image-requires c =
    ap length (c.deref_mut.ensures.value ∙ c.self.invariant.1.image_is) ∙ (is_image c.self.inside.format c.self.inside.seed).size

pub returns-clause-left : goal.returns-clause-left
returns-clause-left c =
    start-left c.self.inside.format c.args.self.now.format c.args.seed c.clear.new.self (ap (λ (s : SourceState). s.format) c.self.view_is) c.clear.ensures
