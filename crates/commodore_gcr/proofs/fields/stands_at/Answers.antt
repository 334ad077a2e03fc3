use Rattle.std.proofs.Common.{sym, ◌∙◌, arith}
use Rattle.commodore_gcr.proofs.fields.stands_at.Goals as goal

pub returns : goal.returns
returns c = (
  λ yes. (omega arith, c.stands_at.ensures.0 yes ∙ c.coded.ensures),
  λ byte. c.stands_at.ensures.1 (byte.1 ∙ sym c.coded.ensures),
)
