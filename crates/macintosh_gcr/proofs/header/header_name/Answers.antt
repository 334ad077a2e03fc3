use Rattle.std.proofs.Common.{◌∙◌, sym}
use Rattle.macintosh_gcr.proofs.Fields.{check-named, in_any_case, named-list, names-so}
use Rattle.macintosh_gcr.proofs.header.header_name.Goals as goal

pub returns-in_err-low-clause-none : goal.returns-in_err-low-clause-none
returns-in_err-low-clause-none c =
    in_any_case c.from_residual.result
    (λ name names.
    let there = named-list c.args.frame.now name names in
    c.in_err-low.ensures.none there.0 there.1 there.2 there.3)

pub returns-then-check-xor_bytes-clause-none : goal.returns-then-check-xor_bytes-clause-none
returns-then-check-xor_bytes-clause-none c = λ name names.
    c.if-check-xor_bytes.true
    (check-named c.args.frame.now c.in_ok-low.field-0 c.in_ok-low.ensures.size c.in_ok-low.ensures.fit c.in_ok-low.ensures.stand name names
    ∙ sym c.xor_bytes.ensures)

pub returns-clause-named : goal.returns-clause-named
returns-clause-named c =
    names-so c.args.frame.now c.in_ok-low.field-0 c.in_ok-low.ensures.size c.in_ok-low.ensures.fit c.in_ok-low.ensures.stand
    (c.if-check-xor_bytes.false ∙ c.xor_bytes.ensures)
