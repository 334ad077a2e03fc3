use Rattle.std.proofs.Common.{◌≡◌, ◌≤◌, ap, arith}
use Rattle.flux_base.specs.Outside.{GREATEST_COUNT}
use Rattle.file_maker.specs.Memory.{FileState, MakerState}
use Rattle.file_maker.proofs.Closing.{takes_over}
use Rattle.file_maker.proofs.memory.MemoryMakerFileMaker.close_file.Goals as goal

pub returns-in_default-clause-counts : goal.returns-in_default-clause-counts
returns-in_default-clause-counts c =
    let mine : c.self.inside.faults ≡ c.args.self.now.faults = ap (λ (s : MakerState). s.faults) c.self.view_is in
    let others : c.file.inside.faults ≡ c.args.file.faults = ap (λ (s : FileState). s.faults) c.file.view_is in
    let few : c.args.self.now.faults ≤ GREATEST_COUNT = omega (arith, mine) in
    takes_over c.args.file.faults c.args.self.now.faults _ few (omega (arith, c.saturating_add-self-inside.ensures, mine, others))

pub returns-clause-counts : goal.returns-clause-counts
returns-clause-counts c =
    let mine : c.self.inside.faults ≡ c.args.self.now.faults = ap (λ (s : MakerState). s.faults) c.self.view_is in
    let others : c.file.inside.faults ≡ c.args.file.faults = ap (λ (s : FileState). s.faults) c.file.view_is in
    let few : c.args.self.now.faults ≤ GREATEST_COUNT = omega (arith, mine) in
    takes_over c.args.file.faults c.args.self.now.faults _ few (omega (arith, c.saturating_add-self-inside.ensures, mine, others))
