use Rattle.std.proofs.Common.{◌∙◌}
use Rattle.check_values.proofs.Linear.{crc-joined}
use Rattle.check_values.proofs.register.Crc16.add.Goals as goal

pub returns-clause-added : goal.returns-clause-added
returns-clause-added c start bytes known = c.with_byte-self-inside.ensures ∙ crc-joined _ start bytes _ (c.self.view_is ∙ known)
