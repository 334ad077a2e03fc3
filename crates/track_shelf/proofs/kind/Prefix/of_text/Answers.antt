use Rattle.std.proofs.Common.{◌++◌, List, ℕ, Bool, Some, None, length, sym, ap, ◌∙◌, refl, arith, if◌then◌else◌}
use Rattle.track_shelf.proofs.DumpKinds.{is-text, not-text}
use Rattle.track_shelf.proofs.kind.Prefix.of_text.Goals as goal

pub returns-in_default : goal.returns-in_default
returns-in_default c = sym (ap (λ (b : Bool). if b then Some c.args.bytes.now else None) (not-text c.args.bytes.now c.in_default.ensures.cases.0))

pub returns-in-Ok-try_push_str : goal.returns-in-Ok-try_push_str
returns-in-Ok-try_push_str c =
    let bytes = c.args.bytes.now in
    let text = c.in-Ok.text.now in
    let is = c.in-Ok.ensures.cases in
    let pushed = c.in-Ok-try_push_str.ensures in
    let fits = pushed.variant.0 refl in
    let none = ap length c.new-prefix.ensures in
    let size = ap length is.0 in
    ap Some (pushed.ok ∙ ap (λ (s : List ℕ). s ++ text) c.new-prefix.ensures ∙ is.0)
    ∙ sym (ap (λ (b : Bool). if b then Some bytes else None) (is-text bytes (omega (arith, fits, none, size)) (sym c.are_plain.ensures ∙ c.if-not-are_plain.false) is.1))
