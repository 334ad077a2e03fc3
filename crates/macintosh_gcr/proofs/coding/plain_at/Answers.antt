use Rattle.std.proofs.Common.{◌≡◌, ◌+◌, ◌-◌, ◌++◌, ℕ, ap, arith, get_or, replicate, sym, ◌∙◌}
use Rattle.macintosh_gcr.specs.lemmas.CodingLaws.{get_or-with_tags}
use Rattle.macintosh_gcr.proofs.Groups.{past-zeros, zeros-first}
use Rattle.macintosh_gcr.proofs.coding.plain_at.Goals as goal

pub returns-then-index-lt-TAGS : goal.returns-then-index-lt-TAGS
returns-then-index-lt-TAGS c =
    sym (get_or-with_tags c.args.bytes.now c.args.index c.requires ∙ zeros-first 12 c.args.bytes.now c.args.index c.if-index-lt-TAGS.true)

pub returns : goal.returns
returns c =
    let bytes = c.args.bytes.now in
    let e : 12 + (c.args.index - 12) ≡ c.args.index = omega (arith, c.if-index-lt-TAGS.false) in
    c.byte_or_zero.ensures ∙ sym (past-zeros 12 bytes (c.args.index - 12)) ∙ ap (λ (n : ℕ). get_or (replicate 12 0 ++ bytes) n 0) e
    ∙ sym (get_or-with_tags bytes c.args.index c.requires)
