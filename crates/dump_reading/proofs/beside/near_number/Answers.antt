use Rattle.std.proofs.Common.{◌∙◌}
use Rattle.dump_reading.proofs.NextStreams.{track-is}
use Rattle.dump_reading.proofs.beside.near_number.Goals as goal

pub returns-clause-near : goal.returns-clause-near
returns-clause-near c = track-is c.args.format c.in-Some.number c.near_track.result c.in-Some.ensures.at ∙ c.near_track.ensures.near
