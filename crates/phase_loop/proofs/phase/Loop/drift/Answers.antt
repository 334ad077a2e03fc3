use Rattle.std.proofs.Common.{ℕ, ◌+◌, ◌*◌, ◌≤◌, ◌<◌, slice_index, arith}
use Rattle.phase_loop.specs.inside.Certain.{IsAbout}
use Rattle.phase_loop.proofs.Certain.{row_about}
use Rattle.phase_loop.proofs.phase.Loop.drift.Goals as goal

pub drift_by_sums-requires-clause-small : goal.drift_by_sums-requires-clause-small
drift_by_sums-requires-clause-small c = λ place early. omega (arith, (c.requires.near place early).0, c.requires.off, c.requires.period)

pub returns-then-is_some : goal.returns-then-is_some
returns-then-is_some c = λ place within. row_about c.args.remainders.now (32 * c.args.stand.period) c.args.off (64 + c.args.most) place c.requires.near (omega (arith, c.told-remainders, c.requires.most)) 64 (omega (arith, within))
