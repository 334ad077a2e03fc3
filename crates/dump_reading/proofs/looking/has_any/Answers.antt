use Rattle.std.proofs.Common.{◌≤◌, length, arith, sym, ◌∙◌}
use Rattle.sector_images.specs.Places.{tracks}
use Rattle.dump_reading.proofs.DumpFiles.{none-found, none-more, one-found}
use Rattle.dump_reading.proofs.looking.has_any.Goals as goal

pub file_track-requires : goal.file_track-requires
file_track-requires g c =
    let keeps = c.tracks_keep_bounds.ensures.bounds c.args.format c.track_id.result c.track_id.ensures.track in
    omega (arith, keeps.cylinder)

pub returns-then-holds : goal.returns-then-holds
returns-then-holds g c = λ files told.
    let there = rw c.file_track.ensures at (c.holds.ensures files told) in
    one-found c.args.stepping files c.args.format c.args.dump.now c.loop-number.number c.track_id.result c.track_id.ensures.at (sym there ∙ c.if-holds.true)

pub loop-number-preserved : goal.loop-number-preserved
loop-number-preserved g c = λ files told.
    let there = rw c.file_track.ensures at (c.holds.ensures files told) in
    none-more c.args.stepping files c.args.format c.args.dump.now c.loop-number.number c.track_id.result c.track_id.ensures.at (sym there ∙ c.if-holds.false)
    (c.loop-number.invariant files told)

pub returns : goal.returns
returns g c = λ files told.
    let all : length (tracks c.args.format) ≤ c.loop-number.number = omega arith in
    none-found c.args.stepping files c.args.format c.args.dump.now c.loop-number.number all (c.loop-number.invariant files told)
