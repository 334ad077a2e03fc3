use Rattle.frame_law.specs.lemmas.WordRowLaws.{word-lt}
use Rattle.commodore_gcr.proofs.Bytes.{byte_at-none, byte_at-some}
use Rattle.commodore_gcr.proofs.fields.byte_at.Goals as goal

pub returns-clause-byte : goal.returns-clause-byte
returns-clause-byte c =
    byte_at-some c.args.frame.now c.args.offset c.word_at.result c.decoded.result c.requires c.word_at.ensures
    c.decoded.ensures.fits c.decoded.ensures.byte

pub returns-clause-none : goal.returns-clause-none
returns-clause-none c =
    byte_at-none c.args.frame.now c.args.offset c.word_at.result c.decoded.result c.requires c.word_at.ensures c.decoded.ensures.none

pub decoded-requires : goal.decoded-requires
decoded-requires c = rw c.word_at.ensures (word-lt c.args.frame.now c.args.offset 10)
