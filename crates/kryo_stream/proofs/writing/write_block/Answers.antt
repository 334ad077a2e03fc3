use Rattle.kryo_stream.specs.declared.block.Block.TheVariants.{Nop}
use Rattle.kryo_stream.proofs.SpellingLaws.{spelling-spells}
use Rattle.kryo_stream.proofs.WritingLemmas.{nop_bytes}
use Rattle.kryo_stream.proofs.writing.write_block.Goals as goal

pub returns-in-Nop-clause-puts : goal.returns-in-Nop-clause-puts
returns-in-Nop-clause-puts g c =
    let size = rw c.in-Nop.is at c.requires in
    rw c.in-Nop.is (rw (nop_bytes c.in-Nop.bytes size.nop.0 size.nop.1) at c.write_whole-in-Nop.ensures)

pub returns-in-StreamInfo-clause-puts : goal.returns-in-StreamInfo-clause-puts
returns-in-StreamInfo-clause-puts g c = rw c.in-StreamInfo.is (rw c.two_numbers.ensures at c.write_whole-in-StreamInfo.ensures)

pub returns-in-Index-clause-puts : goal.returns-in-Index-clause-puts
returns-in-Index-clause-puts g c = rw c.in-Index.is (rw c.index_spelling.ensures at c.write_whole-in-Index.ensures)

pub returns-in-StreamEnd-clause-puts : goal.returns-in-StreamEnd-clause-puts
returns-in-StreamEnd-clause-puts g c = rw c.in-StreamEnd.is (rw c.two_numbers-in-StreamEnd.ensures at c.write_whole-in-StreamEnd.ensures)

pub returns-in-Nop-clause-spelled : goal.returns-in-Nop-clause-spelled
returns-in-Nop-clause-spelled g c =
    let size = rw c.in-Nop.is at c.requires in
    rw c.in-Nop.is (spelling-spells (Nop c.in-Nop.bytes) size.nop)
