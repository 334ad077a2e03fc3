use Rattle.std.proofs.Common.{ap, sym, subst, ◌≤◌, List, ℕ, length}
use Rattle.kryo_stream.specs.lemmas.Buffers.{passed}
use Rattle.kryo_stream.specs.Held.{IntakeState}
use Rattle.kryo_stream.proofs.intake.Intake.pass.Goals as goal

-- src/intake.rt:75:5
pub returns : goal.returns
returns c =
    let made : List ℕ → IntakeState = λ xs. record { held = xs; used = c.self.inside.used } in
    rw (← c.self.view_is) (ap made (passed c.self.inside.start c.self.inside.end c.args.count c.self.inside.buffer.items
    c.self.invariant.0 c.self.invariant.1 (subst (λ s. c.args.count ≤ length s.held) (sym c.self.view_is) c.requires)))
