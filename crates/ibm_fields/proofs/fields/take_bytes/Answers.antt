use Rattle.std.proofs.Common.{◌≡◌, ℕ, ◌*◌, ◌/◌, ◌++◌, List, length, length-append, lit<, ap, sym, ◌∙◌, arith, refl}
use Rattle.ibm_fields.specs.Fields.{bytes_at}
use Rattle.ibm_fields.specs.lemmas.FieldLaws.{bytes_at-four_more, bytes_at-none, bytes_at-suc}
use Rattle.ibm_fields.proofs.fields.take_bytes.Goals as goal

pub loop-four-init : goal.loop-four-init
loop-four-init c = rw c.requires.empty (sym (bytes_at-none _ _), refl)

pub loop-four-preserved : goal.loop-four-preserved
loop-four-preserved c =
    let i = c.loop-four.invariant in
    let fours : ℕ = c.loop-four.four in
    let more = bytes_at-four_more c.args.frame.now c.args.offset fours c.bytes_at.result c.bytes_at.ensures in
    let taken = c.push_four.ensures ∙ ap (λ (bytes : List ℕ). bytes ++ c.bytes_at.result) i.0 in
    (taken ∙ more, omega (arith, i.1, ap length i.0, ap length taken, length-append (bytes_at c.args.frame.now c.args.offset (4 * fours)) c.bytes_at.result))

pub loop-index-init : goal.loop-index-init
loop-index-init c =
    let end : c.loop-four.four ≡ c.args.count / 4 = omega (arith, c.loop-four-test.false, c.loop-four.auto.four-end) in
    rw (← end) c.loop-four.invariant

pub push-requires : goal.push-requires
push-requires c = (lit< tt, omega arith)

pub loop-index-preserved : goal.loop-index-preserved
loop-index-preserved c =
    let i = c.loop-index.invariant in
    let next = bytes_at-suc c.args.frame.now c.args.offset c.loop-index.index in
    let grown = c.push.ensures.items in
    let byte = c.byte_at.ensures in
    (grown ∙ (cc), omega (arith, i.1, c.push.ensures.len))
