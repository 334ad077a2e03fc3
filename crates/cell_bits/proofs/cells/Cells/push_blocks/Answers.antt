use Rattle.std.proofs.Common.{◌≡◌, ℕ, ◌+◌, ◌*◌, ◌-◌, ◌/◌, ◌++◌, List, Bool, OnOk, length, take, drop, flat_map, arith, subst, sym, ap, ◌∙◌, append_assoc, length-append}
use Rattle.std.proofs.lemmas.Bool.{false≢true}
use Rattle.cell_bits.specs.Run.{run_cells}
use Rattle.cell_bits.proofs.Runs.{behind, runs-after, runs-within, runs-split, length-split}
use Rattle.cell_bits.proofs.cells.Cells.push_blocks.Goals as goal

pub loop-block-preserved : goal.loop-block-preserved
loop-block-preserved c =
    let counts : List ℕ = c.args.counts.now in
    let here : ℕ = 256 * c.loop-block.block in
    let many : here + 256 - here ≡ 256 = omega arith in
    let next : here + 256 ≡ 256 * (c.loop-block.block + 1) = omega arith in
    record {
      cells =
          c.in_ok-push_block.ensures.cells
          ∙ ap (λ n. c.loop-block.self.cells ++ flat_map run_cells (take n (drop here counts))) many
          ∙ ap (λ (cells : List Bool). cells ++ flat_map run_cells (take 256 (drop here counts))) c.loop-block.invariant.cells
          ∙ simp append_assoc (ap (λ (cells : List Bool). c.args.self.now.cells ++ cells) (sym (runs-after counts here 256)))
          ∙ ap (λ n. c.args.self.now.cells ++ flat_map run_cells (take n counts)) next;
      room = omega (arith, c.loop-block.invariant.room, c.push_block.ensures.room);
    }

pub returns-in_err-push_block-clause-succeeds : goal.returns-in_err-push_block-clause-succeeds
returns-in_err-push_block-clause-succeeds c = λ enough.
    let here : ℕ = 256 * c.loop-block.block in
    let many : here + 256 - here ≡ 256 = omega arith in
    let before : List Bool = flat_map run_cells (take here c.args.counts.now) in
    absurd (false≢true (c.in_err-push_block.ensures.succeeds (omega (
      arith,
      enough,
      c.loop-block.invariant.room,
      ap length c.loop-block.invariant.cells,
      length-append c.args.self.now.cells before,
      runs-within c.args.counts.now here 256,
      ap (λ n. length (flat_map run_cells (take n (drop here c.args.counts.now)))) many,
    ))))

pub returns-clause-cells : goal.returns-clause-cells
returns-clause-cells c =
    let counts : List ℕ = c.args.counts.now in
    let here : ℕ = 256 * (length counts / 256) in
    let end : 256 * c.loop-block.block ≡ here = omega (arith, c.loop-block-test.false, c.loop-block.auto.block-end) in
    let rest : List Bool = flat_map run_cells (behind counts here) in
    let are : c.loop-block.self.cells ++ rest ≡ c.args.self.now.cells ++ flat_map run_cells counts =
    ap (λ (cells : List Bool). cells ++ rest) (c.loop-block.invariant.cells ∙ ap (λ n. c.args.self.now.cells ++ flat_map run_cells (take n counts)) end)
    ∙ append_assoc c.args.self.now.cells (flat_map run_cells (take here counts)) rest
    ∙ ap (λ (cells : List Bool). c.args.self.now.cells ++ cells) (runs-split counts here) in
    subst (λ (cells : List Bool). OnOk c.push_block-2.result (c.push_block-2.new.self.cells ≡ cells)) are c.push_block-2.ensures.cells

pub returns-clause-succeeds : goal.returns-clause-succeeds
returns-clause-succeeds c = λ enough.
    let counts : List ℕ = c.args.counts.now in
    let here : ℕ = 256 * (length counts / 256) in
    let end : 256 * c.loop-block.block ≡ here = omega (arith, c.loop-block-test.false, c.loop-block.auto.block-end) in
    c.push_block-2.ensures.succeeds (omega (
      arith,
      enough,
      c.loop-block.invariant.room,
      ap length (c.loop-block.invariant.cells ∙ ap (λ n. c.args.self.now.cells ++ flat_map run_cells (take n counts)) end),
      length-append c.args.self.now.cells (flat_map run_cells (take here counts)),
      length-split counts here,
    ))
