use Rattle.std.proofs.Common.{◌+◌, subst, arith, bit_and}
use Rattle.cell_bits.specs.inside.Window.{AreCandidates}
use Rattle.cell_bits.proofs.Candidates.{candidates-all, candidates-more, candidates-none, digit-tested}
use Rattle.cell_bits.proofs.Joining.{joined-next, joined-none, rest-next, rest-none}
use Rattle.cell_bits.proofs.cells.search.candidates.Goals as goal

pub loop-offset-init : goal.loop-offset-init
loop-offset-init c = record {
  places = candidates-all c.args.high c.args.low c.args.word c.args.count;
  cells = joined-none c.args.high c.args.low;
  behind = rest-none c.args.low;
}

pub loop-offset-preserved : goal.loop-offset-preserved
loop-offset-preserved c =
    let so_far = c.loop-offset.invariant in record {
      places = candidates-more c.args.high c.args.low c.args.word c.args.count c.loop-offset.offset c.loop-offset.places c.loop-offset.cells c.equal_cells-places.result _
          c.loop-offset-test.true so_far.places so_far.cells (digit-tested c.args.word _) c.equal_cells-places.ensures;
      cells = joined-next c.args.high c.args.low c.loop-offset.offset c.loop-offset.cells c.loop-offset.behind (omega arith) so_far.cells so_far.behind
          _ c.joined-cells.ensures;
      behind = rest-next c.args.high c.args.low c.loop-offset.offset c.loop-offset.cells c.loop-offset.behind (omega arith) so_far.cells so_far.behind;
    }

pub returns-then-places-eq0 : goal.returns-then-places-eq0
returns-then-places-eq0 c =
    let so_far = c.loop-offset.invariant in
    let more : AreCandidates c.args.high c.args.low c.args.word c.args.count (c.loop-offset.offset + 1) (bit_and c.loop-offset.places c.equal_cells-places.result) =
    candidates-more c.args.high c.args.low c.args.word c.args.count c.loop-offset.offset c.loop-offset.places c.loop-offset.cells c.equal_cells-places.result _
    c.loop-offset-test.true so_far.places so_far.cells (digit-tested c.args.word _) c.equal_cells-places.ensures in
    candidates-none c.args.high c.args.low c.args.word c.args.count (c.loop-offset.offset + 1) (omega arith)
    (subst (λ places. AreCandidates c.args.high c.args.low c.args.word c.args.count (c.loop-offset.offset + 1) places) c.if-places-eq0.true more)
