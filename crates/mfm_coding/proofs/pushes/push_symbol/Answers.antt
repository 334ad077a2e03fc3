use Rattle.std.proofs.Common.{arith}
use Rattle.cell_bits.specs.Bytes.{last_cell}
use Rattle.mfm_coding.specs.declared.symbol.Symbol.TheVariants.{Data, SyncMark, IndexMark}
use Rattle.mfm_coding.specs.Coding.{symbol_cells}
use Rattle.mfm_coding.specs.lemmas.CodingLaws.{length-symbol_cells}
use Rattle.mfm_coding.specs.lemmas.WriteLaws.{AppendsSymbols-one}
use Rattle.mfm_coding.proofs.pushes.push_symbol.Goals as goal

pub returns-in-Data : goal.returns-in-Data
unfolding symbol_cells
returns-in-Data c =
    rw c.in-Data.is (AppendsSymbols-one c.args.cells.now c.push_mfm.new.self (Data c.in-Data.byte) c.push_mfm.result record {
      ok = c.push_mfm.ensures.cells;
      room_stays = c.push_mfm.ensures.room;
      succeeds = λ fits. c.push_mfm.ensures.succeeds (omega (arith, length-symbol_cells (last_cell c.args.cells.now.cells) (Data c.in-Data.byte), fits));
    })

pub returns-in-SyncMark : goal.returns-in-SyncMark
unfolding symbol_cells
returns-in-SyncMark c =
    rw c.in-SyncMark.is (AppendsSymbols-one c.args.cells.now c.push_word.new.self SyncMark c.push_word.result record {
      ok = c.push_word.ensures.cells;
      room_stays = c.push_word.ensures.room;
      succeeds = λ fits. c.push_word.ensures.succeeds (omega (arith, length-symbol_cells (last_cell c.args.cells.now.cells) SyncMark, fits));
    })

pub returns-in-IndexMark : goal.returns-in-IndexMark
unfolding symbol_cells
returns-in-IndexMark c =
    rw c.in-IndexMark.is (AppendsSymbols-one c.args.cells.now c.push_word-in-IndexMark.new.self IndexMark c.push_word-in-IndexMark.result record {
      ok = c.push_word-in-IndexMark.ensures.cells;
      room_stays = c.push_word-in-IndexMark.ensures.room;
      succeeds = λ fits. c.push_word-in-IndexMark.ensures.succeeds (omega (arith, length-symbol_cells (last_cell c.args.cells.now.cells) IndexMark, fits));
    })
