use Rattle.std.proofs.Common.{◌∷◌, []}
use Rattle.ibm_mfm.proofs.MarksCheck.{marks_check}
use Rattle.ibm_mfm.proofs.rows.field_check.Goals as goal

pub returns : goal.returns
returns c =
    c.crc16.ensures.joined 0xFFFF (0xA1 ∷ 0xA1 ∷ 0xA1 ∷ c.args.first ∷ [])
    (c.crc16-register.ensures.joined 0xFFFF (0xA1 ∷ 0xA1 ∷ 0xA1 ∷ []) marks_check)
