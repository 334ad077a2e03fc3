use Rattle.std.proofs.Common.{sym}
use Rattle.check_values.proofs.Linear.{crc-none}
use Rattle.check_values.proofs.register.Crc16.new.Goals as goal

pub returns-clause-empty : goal.returns-clause-empty
returns-clause-empty c = sym (crc-none _)
