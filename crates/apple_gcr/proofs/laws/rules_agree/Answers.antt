use Rattle.apple_gcr.specs.lemmas.ByteLaws.{strict-read}
use Rattle.apple_gcr.specs.lemmas.RuleLaws.{strict_stands}
use Rattle.apple_gcr.proofs.NextOnes.{waits_for_ones}
use Rattle.apple_gcr.proofs.laws.rules_agree.Goals as goal

pub returns-clause-strict : goal.returns-clause-strict
returns-clause-strict c = strict-read

pub returns-clause-controller : goal.returns-clause-controller
returns-clause-controller c = waits_for_ones

pub returns-clause-both : goal.returns-clause-both
returns-clause-both c = strict_stands
