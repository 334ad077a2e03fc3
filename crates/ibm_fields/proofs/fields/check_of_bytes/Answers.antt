use Rattle.std.proofs.Common.{◌≡◌, ℕ, ◌/◌, List, [], ◌∷◌, arith, subst, sym}
use Rattle.ibm_fields.specs.Fields.{bytes_at}
use Rattle.ibm_fields.specs.lemmas.FieldLaws.{bytes_at-four_more, bytes_at-none, bytes_at-suc}
use Rattle.ibm_fields.proofs.Checks.{IsJoined, joined-more, joined-none, joined-value}
use Rattle.ibm_fields.proofs.fields.check_of_bytes.Goals as goal

pub loop-four-init : goal.loop-four-init
loop-four-init c =
    subst (λ (bytes : List ℕ). IsJoined c.args.start c.args.start bytes) (sym (bytes_at-none c.args.frame.now c.args.offset))
    (joined-none c.args.start)

pub loop-four-preserved : goal.loop-four-preserved
loop-four-preserved c =
    joined-more c.args.start c.loop-four.check c.crc16-check.result _ c.bytes_at.result _
    (bytes_at-four_more c.args.frame.now c.args.offset c.loop-four.four c.bytes_at.result c.bytes_at.ensures)
    c.loop-four.invariant c.crc16-check.ensures.joined

pub loop-index-init : goal.loop-index-init
loop-index-init c =
    let end : c.loop-four.four ≡ c.from-count.result / 4 = omega (arith, c.loop-four-test.false, c.loop-four.auto.four-end) in
    rw (← end) c.loop-four.invariant

pub loop-index-preserved : goal.loop-index-preserved
loop-index-preserved c =
    joined-more c.args.start c.loop-index.check c.crc16-check-in-loop-index.result _ (c.byte_at.result ∷ []) _
    (rw c.byte_at.ensures (sym (bytes_at-suc c.args.frame.now c.args.offset c.loop-index.index)))
    c.loop-index.invariant c.crc16-check-in-loop-index.ensures.joined

pub returns-clause-joined : goal.returns-clause-joined
returns-clause-joined c =
    let end : c.loop-index.index ≡ c.args.count =
    omega (arith, c.loop-index-test.false, c.loop-index.auto.index-end, c.from-count.ensures) in
    subst (λ (n : ℕ). IsJoined c.args.start c.loop-index.check (bytes_at c.args.frame.now c.args.offset n)) end c.loop-index.invariant

pub returns-clause-value : goal.returns-clause-value
returns-clause-value c = joined-value c.args.start c.loop-index.check _ (returns-clause-joined c)
