use Rattle.std.proofs.Common.{◌+◌, ◌++◌, ◌∷◌, [], List, length, map, ap, arith, sym, subst, ◌∙◌}
use Rattle.std.proofs.lemmas.List.{with_items_is}
use Rattle.sector_copies.specs.Copies.{Copy, copies_over}
use Rattle.sector_copies.specs.inside.Copies.{AreFewer, is_kept, with_reading}
use Rattle.turn_merge.specs.Readings.{good_reading}
use Rattle.sector_copies.proofs.Contents.{copies_again, copies_full, copies_new, fewer_more, fewer_push}
use Rattle.sector_copies.proofs.copies.Copies.note.Goals as goal

pub returns-then-count_reading-clause-noted : goal.returns-then-count_reading-clause-noted
returns-then-count_reading-clause-noted c readings sector same =
    let counted = with_items_is c.self.inside.held c.count_reading.new.copies (c.count_reading.auto.copies ∙ ap length c.as_mut_slice.ensures.value ∙ sym (c.self.inside.held.ok.0))
    ∙ c.count_reading.ensures.counted ∙ ap (map (with_reading c.args.bytes.now)) c.as_mut_slice.ensures.value in
    let was = c.self.view_is ∙ same in
    let known = ap (is_kept c.args.bytes.now) (sym c.as_mut_slice.ensures.value) ∙ sym c.count_reading.ensures.known ∙ c.if-count_reading.true in
    counted ∙ ap (map (with_reading c.args.bytes.now)) was
    ∙ sym (copies_again readings (good_reading sector c.args.place c.args.bytes.now) (ap (is_kept c.args.bytes.now) (sym was) ∙ known))

pub returns-then-count_reading-clause-fewer : goal.returns-then-count_reading-clause-fewer
returns-then-count_reading-clause-fewer c bound some fewer =
    let counted = with_items_is c.self.inside.held c.count_reading.new.copies (c.count_reading.auto.copies ∙ ap length c.as_mut_slice.ensures.value ∙ sym (c.self.inside.held.ok.0))
    ∙ c.count_reading.ensures.counted ∙ ap (map (with_reading c.args.bytes.now)) c.as_mut_slice.ensures.value in
    subst (AreFewer (bound + 1)) (sym counted) (fewer_more c.args.bytes.now bound c.self.inside.held.items (subst (AreFewer bound) (sym c.self.view_is) fewer))

pub returns-then-len-ge-MOST_COPIES-clause-noted : goal.returns-then-len-ge-MOST_COPIES-clause-noted
returns-then-len-ge-MOST_COPIES-clause-noted c readings sector same =
    let counted = with_items_is c.self.inside.held c.count_reading.new.copies (c.count_reading.auto.copies ∙ ap length c.as_mut_slice.ensures.value ∙ sym (c.self.inside.held.ok.0))
    ∙ c.count_reading.ensures.counted ∙ ap (map (with_reading c.args.bytes.now)) c.as_mut_slice.ensures.value in
    let was = c.self.view_is ∙ same in
    let size = c.self.inside.held.ok.0 in
    let long = ap length was in
    counted ∙ ap (map (with_reading c.args.bytes.now)) was
    ∙ sym (copies_full readings (good_reading sector c.args.place c.args.bytes.now) (omega (arith, size, long, c.len.ensures, c.if-len-ge-MOST_COPIES.true)))

pub returns-then-len-ge-MOST_COPIES-clause-fewer : goal.returns-then-len-ge-MOST_COPIES-clause-fewer
returns-then-len-ge-MOST_COPIES-clause-fewer c bound some fewer =
    let counted = with_items_is c.self.inside.held c.count_reading.new.copies (c.count_reading.auto.copies ∙ ap length c.as_mut_slice.ensures.value ∙ sym (c.self.inside.held.ok.0))
    ∙ c.count_reading.ensures.counted ∙ ap (map (with_reading c.args.bytes.now)) c.as_mut_slice.ensures.value in
    subst (AreFewer (bound + 1)) (sym counted) (fewer_more c.args.bytes.now bound c.self.inside.held.items (subst (AreFewer bound) (sym c.self.view_is) fewer))

pub returns-clause-noted : goal.returns-clause-noted
returns-clause-noted c readings sector same =
    let counted = with_items_is c.self.inside.held c.count_reading.new.copies (c.count_reading.auto.copies ∙ ap length c.as_mut_slice.ensures.value ∙ sym (c.self.inside.held.ok.0))
    ∙ c.count_reading.ensures.counted ∙ ap (map (with_reading c.args.bytes.now)) c.as_mut_slice.ensures.value in
    let was = c.self.view_is ∙ same in
    let size = c.self.inside.held.ok.0 in
    let long = ap length was in
    let known = ap (is_kept c.args.bytes.now) (sym c.as_mut_slice.ensures.value) ∙ sym c.count_reading.ensures.known ∙ c.if-count_reading.false in
    c.push_reserved.ensures.items
    ∙ ap (λ (cs : List Copy). cs ++ c.new.result ∷ []) (counted ∙ ap (map (with_reading c.args.bytes.now)) was)
    ∙ ap (λ (x : Copy). map (with_reading c.args.bytes.now) (copies_over readings) ++ x ∷ []) c.new.ensures
    ∙ sym (copies_new readings (good_reading sector c.args.place c.args.bytes.now) (ap (is_kept c.args.bytes.now) (sym was) ∙ known)
    (omega (arith, size, long, c.len.ensures, c.if-len-ge-MOST_COPIES.false)))

pub returns-clause-fewer : goal.returns-clause-fewer
returns-clause-fewer c bound some fewer =
    let counted = with_items_is c.self.inside.held c.count_reading.new.copies (c.count_reading.auto.copies ∙ ap length c.as_mut_slice.ensures.value ∙ sym (c.self.inside.held.ok.0))
    ∙ c.count_reading.ensures.counted ∙ ap (map (with_reading c.args.bytes.now)) c.as_mut_slice.ensures.value in
    let one = ap (λ (x : Copy). x.readings) c.new.ensures in
    subst (AreFewer (bound + 1)) (sym c.push_reserved.ensures.items)
    (fewer_push (bound + 1) _ c.new.result
    (subst (AreFewer (bound + 1)) (sym counted) (fewer_more c.args.bytes.now bound c.self.inside.held.items (subst (AreFewer bound) (sym c.self.view_is) fewer)))
    (omega (arith, one, some)))
