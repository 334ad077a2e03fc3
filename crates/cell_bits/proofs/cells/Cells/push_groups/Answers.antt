use Rattle.std.proofs.Common.{◌≡◌, ℕ, ◌+◌, ◌*◌, ◌-◌, ◌/◌, ◌++◌, List, Bool, OnOk, length, take, drop, flat_map, arith, subst, sym, ap, ◌∙◌, append_assoc, length-append}
use Rattle.std.proofs.lemmas.Bool.{false≢true}
use Rattle.cell_bits.specs.Word.{word_cells}
use Rattle.cell_bits.specs.Run.{run_cells}
use Rattle.cell_bits.specs.lemmas.WordLaws.{length-word_cells}
use Rattle.cell_bits.proofs.Runs.{behind, runs-after, runs-behind, runs-within, runs-split, length-split, short-runs}
use Rattle.cell_bits.proofs.cells.Cells.push_groups.Goals as goal

pub loop-group-preserved : goal.loop-group-preserved
loop-group-preserved c =
    let here : ℕ = 8 * c.loop-group.group in
    let many : here + 8 - here ≡ 8 = omega arith in
    let next : here + 8 ≡ 8 * (c.loop-group.group + 1) = omega arith in
    let group : List Bool = word_cells c.joined_runs-bits.result.1 c.joined_runs-bits.result.0 in
    let runs : group ≡ flat_map run_cells (take 8 (drop here c.args.counts.now)) =
    c.joined_runs-bits.ensures.cells ∙ ap (λ n. flat_map run_cells (take n (drop here c.args.counts.now))) many in
    let before : List Bool = c.args.self.now.cells ++ flat_map run_cells (take here c.args.counts.now) in
    record {
      cells =
          c.in_ok-append.ensures.cells
          ∙ ap (λ (cells : List Bool). cells ++ group) c.loop-group.invariant.cells
          ∙ ap (λ (cells : List Bool). before ++ cells) runs
          ∙ simp append_assoc (ap (λ (cells : List Bool). c.args.self.now.cells ++ cells) (sym (runs-after c.args.counts.now here 8)))
          ∙ ap (λ n. c.args.self.now.cells ++ flat_map run_cells (take n c.args.counts.now)) next;
      room = omega (arith, c.loop-group.invariant.room, c.append.ensures.room);
    }

pub returns-in_err-append-clause-succeeds : goal.returns-in_err-append-clause-succeeds
returns-in_err-append-clause-succeeds c = λ enough.
    let here : ℕ = 8 * c.loop-group.group in
    let many : here + 8 - here ≡ 8 = omega arith in
    let before : List Bool = flat_map run_cells (take here c.args.counts.now) in
    absurd (false≢true (c.in_err-append.ensures.succeeds (omega (
      arith,
      enough,
      c.loop-group.invariant.room,
      ap length c.loop-group.invariant.cells,
      length-append c.args.self.now.cells before,
      runs-within c.args.counts.now here 8,
      ap length c.joined_runs-bits.ensures.cells,
      ap (λ n. length (flat_map run_cells (take n (drop here c.args.counts.now)))) many,
      length-word_cells c.joined_runs-bits.result.1 c.joined_runs-bits.result.0,
    ))))

pub push_each-requires : goal.push_each-requires
push_each-requires c = record {
  runs = runs-behind c.args.counts.now (8 * (length c.args.counts.now / 8)) (short-runs c.args.counts.now c.requires.short);
}

pub returns-clause-cells : goal.returns-clause-cells
returns-clause-cells c =
    let counts : List ℕ = c.args.counts.now in
    let here : ℕ = 8 * (length counts / 8) in
    let end : 8 * c.loop-group.group ≡ here = omega (arith, c.loop-group-test.false, c.loop-group.auto.group-end) in
    let rest : List Bool = flat_map run_cells (behind counts here) in
    let are : c.loop-group.self.cells ++ rest ≡ c.args.self.now.cells ++ flat_map run_cells counts =
    ap (λ (cells : List Bool). cells ++ rest) (c.loop-group.invariant.cells ∙ ap (λ n. c.args.self.now.cells ++ flat_map run_cells (take n counts)) end)
    ∙ append_assoc c.args.self.now.cells (flat_map run_cells (take here counts)) rest
    ∙ ap (λ (cells : List Bool). c.args.self.now.cells ++ cells) (runs-split counts here) in
    subst (λ (cells : List Bool). OnOk c.push_each.result (c.push_each.new.self.cells ≡ cells)) are c.push_each.ensures.cells

pub returns-clause-succeeds : goal.returns-clause-succeeds
returns-clause-succeeds c = λ enough.
    let counts : List ℕ = c.args.counts.now in
    let here : ℕ = 8 * (length counts / 8) in
    let end : 8 * c.loop-group.group ≡ here = omega (arith, c.loop-group-test.false, c.loop-group.auto.group-end) in
    c.push_each.ensures.succeeds (omega (
      arith,
      enough,
      c.loop-group.invariant.room,
      ap length (c.loop-group.invariant.cells ∙ ap (λ n. c.args.self.now.cells ++ flat_map run_cells (take n counts)) end),
      length-append c.args.self.now.cells (flat_map run_cells (take here counts)),
      length-split counts here,
    ))
