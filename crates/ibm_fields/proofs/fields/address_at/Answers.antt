use Rattle.ibm_fields.specs.lemmas.FieldLaws.{bytes_at-four}
use Rattle.ibm_fields.proofs.fields.address_at.Goals as goal

pub returns : goal.returns
returns c = let four = bytes_at-four c.args.frame.now c.args.offset in cc
