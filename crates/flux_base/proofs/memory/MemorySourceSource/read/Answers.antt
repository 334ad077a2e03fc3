use Rattle.std.proofs.Common.{◌≡◌, ◌+◌, ◌-◌, take, drop, length, min, arith, sym, ◌∙◌, ap}
use Rattle.std.proofs.lemmas.Grind.{common_steps}
use Rattle.flux_base.specs.Memory.{SourceState}
use Rattle.flux_base.proofs.Given.{given-front, given-end}
use Rattle.flux_base.proofs.memory.MemorySourceSource.read.Goals as goal

pub returns-clause-bytes : goal.returns-clause-bytes
returns-clause-bytes c =
    let bytes = c.self.inside.bytes.items in
    let start = c.self.inside.start in
    let some = (start + c.min-most.result) - start in
    let given = c.copy_front-given.result in
    let is_left : drop start bytes ≡ c.args.self.now.left = ap (λ (s : SourceState). s.left) c.self.view_is in
    let front : take given c.copy_front-given.new.buffer ≡ take given (take some (drop start bytes)) = rw (← c.deref-2.ensures.value) c.copy_front-given.ensures.front in
    let count : given ≡ min (length c.args.buffer.now) (length (take some (drop start bytes))) = rw (← c.deref-2.ensures.value) c.copy_front-given.ensures.count in
    let most : some ≡ min c.self.inside.chunk (length bytes - start) = grind (arith, common_steps, c.min-most.ensures, c.len.ensures) in (
      sym is_left ∙ given-front bytes c.copy_front-given.new.buffer (length c.args.buffer.now) start some given count front,
      λ zero nonempty. given-end bytes (length c.args.buffer.now) start some c.self.inside.chunk given count most c.self.invariant.1 zero (rw (← c.copy_front-given.ensures.len) nonempty),
    )
