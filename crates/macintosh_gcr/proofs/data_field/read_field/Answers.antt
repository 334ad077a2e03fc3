use Rattle.std.proofs.Common.{◌+◌, ◌++◌, ◌∙◌, ℕ, List, ap, drop, subst, sym}
use Rattle.macintosh_gcr.specs.Coding.{IsCoded}
use Rattle.macintosh_gcr.specs.Sectors.{Hold}
use Rattle.macintosh_gcr.specs.lemmas.OwnLaws.{coded-fit, coded-length}
use Rattle.macintosh_gcr.proofs.Fields.{holds-so, one_list}
use Rattle.macintosh_gcr.proofs.data_field.read_field.Goals as goal

pub returns-in_default-clause-bad : goal.returns-in_default-clause-bad
returns-in_default-clause-bad c = λ bad bytes hold.
    let plain = hold.tags ++ bytes in
    c.in_default.ensures.none hold.coded_values (coded-length hold.coded_values plain hold.coded) (coded-fit hold.coded_values plain hold.coded) hold.stand

pub returns-in_default-plain_of-clause-bad : goal.returns-in_default-plain_of-clause-bad
returns-in_default-plain_of-clause-bad c = λ bad bytes hold.
    let plain = hold.tags ++ bytes in
    let read = c.in-Some.values.items in
    let same = one_list c.args.frame.now (c.args.sync + 32) hold.coded_values read
    (coded-length hold.coded_values plain hold.coded ∙ sym c.in-Some.ensures.size) (coded-fit hold.coded_values plain hold.coded)
    c.in-Some.ensures.fit hold.stand c.in-Some.ensures.stand in
    c.in_default-plain_of.ensures.none plain (subst (λ (values : List ℕ). IsCoded values plain) (same ∙ sym c.deref.ensures.0) hold.coded)

pub returns-clause-good : goal.returns-clause-good
returns-clause-good c = λ good.
    let plain = c.in-Some-plain_of.plain.items in
    let values = c.in-Some.values.items in
    subst (Hold c.args.frame.now c.args.sync) (sym (c.take_content.ensures ∙ ap (drop 12) c.deref-2.ensures.0))
    (holds-so c.args.frame.now c.args.sync values plain (sym c.disk_byte_at.ensures ∙ c.if-disk_byte_at.false)
    (sym c.disk_byte_at-2.ensures ∙ c.if-disk_byte_at-2.false ∙ c.disk_byte_at-3.ensures)
    (subst (λ (some : List ℕ). IsCoded some plain) c.deref.ensures.0 c.in-Some-plain_of.ensures.some) c.in-Some.ensures.stand)
