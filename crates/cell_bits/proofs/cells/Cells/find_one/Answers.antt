use Rattle.std.proofs.Common.{ℕ, ◌+◌, ◌*◌, ◌%◌, ◌^◌, arith}
use Rattle.std.specs.Int.Count.{count_leading_zeros}
use Rattle.cell_bits.proofs.Candidates.{first-digit}
use Rattle.cell_bits.proofs.Searching.{no-one-beyond, no-one-more, no-one-block, one-told}
use Rattle.cell_bits.proofs.cells.Cells.find_one.Goals as goal

pub returns-then-one-end : goal.returns-then-one-end
returns-then-one-end c =
    let ahead : ℕ = c.block.result * 2 ^ (c.loop-place.place % 64) % 2 ^ 64 in
    let at = first-digit ahead (omega arith) (omega arith) in
    let zeros : ℕ = count_leading_zeros 64 ahead in
    let one = one-told c.args.self.now.cells c.loop-place.place c.block.result c.block.ensures zeros at.0 at.1 in (
      omega (arith, c.loop-place.invariant.ahead),
      omega arith,
      one.1,
      no-one-more c.args.self.now.cells c.loop-place.place c.block.result c.block.ensures c.args.from zeros (omega (arith, one.0)) at.2
          c.loop-place.invariant.passed,
    )

pub returns-else-one-end : goal.returns-else-one-end
returns-else-one-end c =
    let ahead : ℕ = c.block.result * 2 ^ (c.loop-place.place % 64) % 2 ^ 64 in
    let at = first-digit ahead (omega arith) (omega arith) in
    let zeros : ℕ = count_leading_zeros 64 ahead in
    let one = one-told c.args.self.now.cells c.loop-place.place c.block.result c.block.ensures zeros at.0 at.1 in
    no-one-beyond c.args.self.now.cells c.args.from (c.loop-place.place + zeros) c.args.to
    (no-one-more c.args.self.now.cells c.loop-place.place c.block.result c.block.ensures c.args.from zeros (omega (arith, one.0)) at.2
    c.loop-place.invariant.passed) (λ before. omega arith)

pub loop-place-preserved : goal.loop-place-preserved
loop-place-preserved c = record {
  ahead = omega (arith, c.loop-place.invariant.ahead);
  passed = no-one-block c.args.self.now.cells c.loop-place.place c.block.result c.block.ensures c.args.from c.if-ahead-ne0.false
      c.loop-place.invariant.passed;
}

pub returns : goal.returns
returns c =
    no-one-beyond c.args.self.now.cells c.args.from c.loop-place.place c.args.to c.loop-place.invariant.passed (λ before. omega arith)
