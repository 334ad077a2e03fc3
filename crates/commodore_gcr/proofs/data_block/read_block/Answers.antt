use Rattle.std.proofs.Common.{◌≡◌, ◌+◌, ℕ, Bool, true, false, ap, sym, subst, ◌∙◌}
use Rattle.check_values.specs.Sums.{xor}
use Rattle.commodore_gcr.specs.Coding.{ByteAt}
use Rattle.commodore_gcr.specs.lemmas.CodingLaws.{one_list_at}
use Rattle.commodore_gcr.proofs.data_block.read_block.Goals as goal

never : (b : Bool) → b ≡ false → ¬ (b ≡ true)
never true is_false is_true = cc
never false is_false is_true = cc

pub returns-clause-bad : goal.returns-clause-bad
returns-clause-bad c = λ no bytes hold.
    let sync = c.args.sync in
    let items = c.take_bytes.new.buffer.items in
    let size = c.take_bytes.ensures.size c.if-not-take_bytes.false in
    let same : bytes ≡ items =
    one_list_at c.args.frame.now (sync + 20) bytes items (hold.size ∙ sym size) hold.content (c.take_bytes.ensures.bytes c.if-not-take_bytes.false) in
    let check : xor bytes ≡ c.xor_bytes-check.result = ap xor same ∙ sym (c.xor_bytes-check.ensures ∙ ap xor c.as_slice.ensures.value) in
    never c.stands_at-2.result no
    (c.stands_at-2.ensures.1 (subst (λ (byte : ℕ). ByteAt c.args.frame.now (sync + 2580) byte) check hold.check))
