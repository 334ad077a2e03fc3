use Rattle.std.proofs.Common.{◌≡◌, ℕ, arith, subst}
use Rattle.std.proofs.lemmas.Nat.{xor_lt}
use Rattle.apple_gcr.proofs.Content.{IsWritten, all-written, more-written, short-written}
use Rattle.apple_gcr.proofs.rows.push_content.Goals as goal

pub nibble_of-requires : goal.nibble_of-requires
nibble_of-requires c = xor_lt 6 c.value_at-value.result c.loop-index.before c.value_at-value.ensures.fits c.loop-index.invariant.fits

pub returns-in_err-push_byte : goal.returns-in_err-push_byte
returns-in_err-push_byte c =
    short-written c.args.cells.now c.loop-index.cells c.push_byte.new.cells c.args.bytes.now c.loop-index.index c.loop-index.before
    c.value_at-value.result _ c.from_residual.result c.loop-index-test.true c.loop-index.invariant c.value_at-value.ensures.value
    c.from_residual.ensures.0 (rw c.nibble_of.ensures at c.in_err-push_byte.ensures)

pub loop-index-preserved : goal.loop-index-preserved
loop-index-preserved c =
    more-written c.args.cells.now c.loop-index.cells c.push_byte.new.cells c.args.bytes.now c.loop-index.index c.loop-index.before
    c.value_at-value.result c.loop-index-test.true c.loop-index.invariant c.value_at-value.ensures.value
    c.value_at-value.ensures.fits (rw c.nibble_of.ensures at c.in_ok-push_byte.ensures)

pub returns : goal.returns
returns c =
    let e : c.loop-index.index ≡ 342 = omega arith in
    all-written c.args.cells.now c.loop-index.cells c.push_byte-2.new.cells c.args.bytes.now c.loop-index.before c.push_byte-2.result
    (subst (λ (n : ℕ). IsWritten c.args.cells.now c.loop-index.cells c.args.bytes.now n c.loop-index.before) e c.loop-index.invariant)
    (rw c.nibble_of-2.ensures at c.push_byte-2.ensures)
