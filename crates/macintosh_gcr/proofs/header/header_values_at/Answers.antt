use Rattle.std.proofs.Common.{◌∙◌, sym}
use Rattle.macintosh_gcr.proofs.Fields.{five-stand}
use Rattle.macintosh_gcr.proofs.header.header_values_at.Goals as goal

pub returns-clause-stand : goal.returns-clause-stand
returns-clause-stand c =
    five-stand c.args.frame.now c.in_ok-value_of.field-0 c.in_ok-value_of-2.field-0 c.in_ok-value_of-3.field-0 c.in_ok-value_of-4.field-0
    c.in_ok-value_of-5.field-0
    (sym (c.in_ok-value_of.ensures.some.1 ∙ c.disk_byte_at.ensures)) (sym (c.in_ok-value_of-2.ensures.some.1 ∙ c.disk_byte_at-2.ensures))
    (sym (c.in_ok-value_of-3.ensures.some.1 ∙ c.disk_byte_at-3.ensures)) (sym (c.in_ok-value_of-4.ensures.some.1 ∙ c.disk_byte_at-4.ensures))
    (sym (c.in_ok-value_of-5.ensures.some.1 ∙ c.disk_byte_at-5.ensures))
