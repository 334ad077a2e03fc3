use Rattle.std.proofs.Common.{◌≡◌, ◌++◌, List, Bool, subst, ◌∙◌, ap, arith, ◌%◌, ◌^◌, ◌*◌}
use Rattle.std.specs.Result.{OnOk}
use Rattle.std.proofs.lemmas.Nat.{one_shl}
use Rattle.cell_bits.specs.Word.{word_cells}
use Rattle.cell_bits.proofs.Appending.{low-is}
use Rattle.cell_bits.proofs.cells.Cells.push_word.Goals as goal

pub returns-clause-cells : goal.returns-clause-cells
returns-clause-cells c =
    let mask : 1 * 2 ^ c.args.count % 2 ^ 64 ≡ 2 ^ c.args.count = one_shl c.args.count 64 (omega arith) in
    subst (λ (added : List Bool). OnOk c.append.result (c.append.new.self.cells ≡ c.args.self.now.cells ++ added))
    (ap (λ n. word_cells c.args.count (c.args.word % n)) mask ∙ low-is c.args.count c.args.word) c.append.ensures.cells
