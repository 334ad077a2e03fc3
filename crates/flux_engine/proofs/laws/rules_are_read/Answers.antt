use Rattle.flux_engine.proofs.ByRules.{rules_are_read}
use Rattle.flux_engine.proofs.laws.rules_are_read.Goals as goal

pub returns : goal.returns
returns c = rules_are_read c.tracks_are_read.ensures c.rewritten_tracks_are_read.ensures
