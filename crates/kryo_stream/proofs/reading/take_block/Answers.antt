use Rattle.std.proofs.Common.{◌∙◌, sym}
use Rattle.flux_base.specs.lemmas.Counting.{Counts-then}
use Rattle.kryo_stream.proofs.Pieces.{piece_at-follows}
use Rattle.kryo_stream.proofs.Skipping.{took_before}
use Rattle.kryo_stream.proofs.reading.take_block.Goals as goal

pub pass-requires : goal.pass-requires
pass-requires g c =
    (piece_at-follows c.args.before.now c.next_block.new.intake.held c.in-Ok-reading.piece (sym c.in-Ok.ensures.reading ∙ c.in-Ok-reading.is)).1

pub returns-in-Err-Truncated-clause-takes : goal.returns-in-Err-Truncated-clause-takes
returns-in-Err-Truncated-clause-takes g c =
    took_before c.args.before.now c.take_text.result c.in-Ok.ensures.took c.take_text.ensures.takes

pub returns-in-Err-Truncated-clause-counts : goal.returns-in-Err-Truncated-clause-counts
returns-in-Err-Truncated-clause-counts g c = Counts-then _ c.in-Ok.ensures.counts c.take_text.ensures.counts
