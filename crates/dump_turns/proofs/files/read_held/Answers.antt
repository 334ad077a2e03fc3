use Rattle.dump_turns.proofs.HeldStreams.{held-bounded, held-read, held-refused}
use Rattle.dump_turns.proofs.files.read_held.Goals as goal

pub returns-in-Ok-clause-seen : goal.returns-in-Ok-clause-seen
returns-in-Ok-clause-seen c = λ later small. held-read c.args.held.now c.read_held.new.self.flux c.in-Ok.field-0 c.in-Ok.ensures.read later

pub returns-in-Ok-clause-bounded : goal.returns-in-Ok-clause-bounded
returns-in-Ok-clause-bounded c =
    held-bounded c.args.held.now c.read_held.new.self.flux c.growth_law.ensures.turns c.in-Ok.field-0 c.in-Ok.ensures.read c.in-Ok.ensures.small

pub returns-in-Err-clause-seen : goal.returns-in-Err-clause-seen
returns-in-Err-clause-seen c = λ later small.
    held-refused c.args.held.now c.read_held.new.self.flux c.in-Err.block c.in-Err.fault c.in-Err.ensures.refused later small
