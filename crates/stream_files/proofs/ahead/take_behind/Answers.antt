use Rattle.std.proofs.Common.{◌-◌, arith, length}
use Rattle.stream_files.proofs.Refilling.{taken-behind}
use Rattle.stream_files.proofs.ahead.take_behind.Goals as goal

pub returns-clause-took : goal.returns-clause-took
returns-clause-took g c =
    taken-behind _ _ (c.args.end - c.args.start) (length c.copy_within.new.self - (c.args.end - c.args.start)) c.copy_within.new.self c.fill.new.buffer _ c.fill.result
    (omega (arith, c.copy_within.ensures.len, c.requires.inside)) (omega arith) c.fill.ensures.ok c.fill.ensures.ended c.fill.ensures.err
