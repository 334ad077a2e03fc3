use Rattle.std.proofs.Common.{◌<◌, ◌/◌, ◌%◌, arith, lit<}
use Rattle.std.proofs.Math.Nat.{mod-lt}
use Rattle.commodore_gcr.proofs.Tables.{nibble_at_most, together_is, together_no}
use Rattle.commodore_gcr.proofs.coding.decoded.Goals as goal

pub overflow_mul-byte : goal.overflow_mul-byte
overflow_mul-byte c =
    let first : c.args.cells / 32 < 32 = omega (arith, c.requires) in
    omega (arith, nibble_at_most (c.args.cells / 32) first)

pub overflow_add-byte : goal.overflow_add-byte
overflow_add-byte c =
    let first : c.args.cells / 32 < 32 = omega (arith, c.requires) in
    let second : c.args.cells % 32 < 32 = mod-lt c.args.cells (lit< tt) in
    omega (arith, nibble_at_most (c.args.cells / 32) first, nibble_at_most (c.args.cells % 32) second)

pub returns-then-byte-lt-NO-clause-byte : goal.returns-then-byte-lt-NO-clause-byte
returns-then-byte-lt-NO-clause-byte c = together_is c.args.cells c.requires c.if-byte-lt-NO.true

pub returns-else-byte-lt-NO-clause-none : goal.returns-else-byte-lt-NO-clause-none
returns-else-byte-lt-NO-clause-none c = λ byte short. together_no c.args.cells byte c.requires short (omega (arith, c.if-byte-lt-NO.false))
