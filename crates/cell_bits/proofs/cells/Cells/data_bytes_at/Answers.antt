use Rattle.std.proofs.Common.{◌≡◌, ℕ, ◌+◌, ◌-◌, ◌/◌, ◌^◌, bit_and, List, Bool, ap, ◌∙◌, arith}
use Rattle.cell_bits.specs.Bytes.{data_byte, data_cells}
use Rattle.cell_bits.specs.Word.{number_of, word_cells}
use Rattle.cell_bits.proofs.Windows.{data_byte-is, quarter_byte-is}
use Rattle.cell_bits.proofs.cells.Cells.data_bytes_at.Goals as goal

pub returns : goal.returns
returns c =
    let cells : List Bool = c.args.self.now.cells in
    let block : ℕ = c.window-cells.result in
    let whole : block ≡ block / 2 ^ (48 - 48) = omega arith in
    let first : c.gathered.result ≡ data_byte cells c.args.place =
    c.gathered.ensures ∙ data_byte-is cells c.args.place block c.window-cells.ensures (omega (arith, c.requires)) in
    let second : c.gathered-2.result ≡ data_byte cells (c.args.place + 16) =
    c.gathered-2.ensures ∙ quarter_byte-is cells c.args.place block 16 c.window-cells.ensures (omega arith) (omega (arith, c.requires)) in
    let third : c.gathered-3.result ≡ data_byte cells (c.args.place + 32) =
    c.gathered-3.ensures ∙ quarter_byte-is cells c.args.place block 32 c.window-cells.ensures (omega arith) (omega (arith, c.requires)) in
    let fourth : c.gathered-4.result ≡ data_byte cells (c.args.place + 48) =
    c.gathered-4.ensures ∙ ap (λ n. number_of (data_cells (word_cells 16 (bit_and n 65535)))) whole
    ∙ quarter_byte-is cells c.args.place block 48 c.window-cells.ensures (omega arith) (omega (arith, c.requires)) in
    cc
