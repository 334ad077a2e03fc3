use Rattle.std.proofs.Common.{◌∷◌, []}
use Rattle.ibm_fm.proofs.rows.field_check.Goals as goal

pub returns : goal.returns
returns c = c.crc16.ensures.joined 0xFFFF (c.args.mark ∷ []) c.crc16-register.ensures.value
