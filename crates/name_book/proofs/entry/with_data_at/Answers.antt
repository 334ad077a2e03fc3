use Rattle.std.proofs.Common.{◌≡◌, ◌*◌, ◌∙◌, ap, length, arith}
use Rattle.name_book.specs.inside.Kept.{agreed_with, is_whole, kept}
use Rattle.name_book.proofs.Parts.{part-put_same, part-put_other, cut_is, length-part}
use Rattle.name_book.proofs.entry.with_data_at.Goals as goal

pub returns-clause-kept : goal.returns-clause-kept
returns-clause-kept c =
    let cut = cut_is c.args.bytes.now 1025 (c.args.number * 1025) in
    let size : length c.with_data.new.kept_bytes ≡ 1025 = c.with_data.auto.kept_bytes ∙ ap length cut ∙ length-part c.args.bytes.now c.args.number c.requires.within in
    ap (kept c.with_data.result) (part-put_same c.args.bytes.now c.with_data.new.kept_bytes _ c.args.number c.requires.within size)
    ∙ c.with_data.ensures.kept
    ∙ ap (λ p. agreed_with (is_whole c.args.agreed) (kept c.args.agreed p) c.args.held.now) cut

pub returns-clause-others : goal.returns-clause-others
returns-clause-others c k other =
    let cut = cut_is c.args.bytes.now 1025 (c.args.number * 1025) in
    let size : length c.with_data.new.kept_bytes ≡ 1025 = c.with_data.auto.kept_bytes ∙ ap length cut ∙ length-part c.args.bytes.now c.args.number c.requires.within in
    part-put_other c.args.bytes.now c.with_data.new.kept_bytes _ c.args.number k c.requires.within size (omega arith) other
