use Rattle.std.proofs.Common.{◌∷◌, [], sym}
use Rattle.ibm_mfm.proofs.MarksCheck.{marks_check}
use Rattle.ibm_mfm.proofs.data_field.content_check.Goals as goal

pub returns : goal.returns
returns c =
    rw (sym c.byte_at.ensures) (c.check_of_bytes.ensures.joined 0xFFFF (0xA1 ∷ 0xA1 ∷ 0xA1 ∷ c.byte_at.result ∷ [])
    (c.crc16-register.ensures.joined 0xFFFF (0xA1 ∷ 0xA1 ∷ 0xA1 ∷ []) marks_check))
