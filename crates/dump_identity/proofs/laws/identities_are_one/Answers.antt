use Rattle.dump_identity.proofs.One.{no-identity, one-identity}
use Rattle.dump_identity.proofs.laws.identities_are_one.Goals as goal

pub returns-clause-one : goal.returns-clause-one
returns-clause-one c = λ dump files. one-identity dump files c.dumps_are_one.ensures c.numbers_are_one.ensures

pub returns-clause-refused : goal.returns-clause-refused
returns-clause-refused c = no-identity
