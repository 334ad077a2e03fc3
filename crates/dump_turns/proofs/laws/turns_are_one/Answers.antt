use Rattle.dump_turns.proofs.One.{no-turns, turns-one}
use Rattle.dump_turns.proofs.laws.turns_are_one.Goals as goal

pub returns-clause-one : goal.returns-clause-one
returns-clause-one c = turns-one

pub returns-clause-refused : goal.returns-clause-refused
returns-clause-refused c = no-turns
