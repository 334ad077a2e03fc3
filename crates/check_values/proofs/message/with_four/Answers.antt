use Rattle.std.proofs.Common.{arith}
use Rattle.check_values.proofs.Remainders.{by_tables_of_list}
use Rattle.check_values.proofs.message.with_four.Goals as goal

pub returns : goal.returns
returns c =
    by_tables_of_list c.args.remainder c.args.bytes (omega arith) (omega arith)
    (omega (arith, c.element_fits.fits)) (omega (arith, c.element_fits2.fits)) (omega (arith, c.element_fits3.fits)) (omega (arith, c.element_fits4.fits))
