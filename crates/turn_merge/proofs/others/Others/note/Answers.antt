use Rattle.std.proofs.Common.{rules, Bool, true, false, ◌≡◌, ◌<◌, ◌+◌, ◌++◌, ◌∷◌, [], List, ℕ, length, map, cond, ap, arith, sym, subst, ◌∙◌}
use Rattle.std.proofs.lemmas.List.{with_items_is}
use Rattle.turn_merge.specs.Others.{AreBelow, is_told}
use Rattle.turn_merge.specs.inside.Others.{with_header}
use Rattle.turn_merge.specs.declared.others.OtherTold.{OtherTold}
use Rattle.turn_merge.proofs.OtherNames.{below_few, below_more_all, below_push}
use Rattle.turn_merge.proofs.Untold.{stands_again, stands_full, stands_new}
use Rattle.turn_merge.proofs.others.Others.note.Goals as goal

byte_below : (b : Bool) (n notes : ℕ) → n ≡ cond b 1 0 → n < notes + 1 + 1
byte_below true n notes is = omega (arith, is)
byte_below false n notes is = omega (arith, is)

pub count_header-requires : goal.count_header-requires
count_header-requires c =
    let notes = ap (λ k. k.notes) c.self.view_is in
    record {
      few = subst (AreBelow _) (sym c.as_mut_slice.ensures.value) (below_few (c.self.inside.notes + 1) _ c.self.inside.told.items (omega (arith, notes, c.requires.few)) c.self.invariant.0);
    }

pub invariant_of-self : goal.invariant_of-self
invariant_of-self c =
    let new = with_items_is c.self.inside.told c.count_header.new.told (c.count_header.auto.told ∙ ap length c.as_mut_slice.ensures.value ∙ sym (c.self.inside.told.ok.0))
    ∙ c.count_header.ensures.counted ∙ ap (map (with_header c.args.name c.args.whole)) c.as_mut_slice.ensures.value in
    (subst (AreBelow (c.self.inside.notes + 1 + 1)) (sym new) (below_more_all c.args.name c.args.whole (c.self.inside.notes + 1) c.self.inside.told.items c.self.invariant.0), c.self.invariant.1)

pub returns-then-count_header-clause-noted : goal.returns-then-count_header-clause-noted
returns-then-count_header-clause-noted c others stands =
    let new = with_items_is c.self.inside.told c.count_header.new.told (c.count_header.auto.told ∙ ap length c.as_mut_slice.ensures.value ∙ sym (c.self.inside.told.ok.0))
    ∙ c.count_header.ensures.counted ∙ ap (map (with_header c.args.name c.args.whole)) c.as_mut_slice.ensures.value in
    stands_again c.self.inside.notes c.self.inside.told.items c.self.inside.untold c.args.self.now c.self.view_is c.args.name c.args.whole c.args.place others stands _ new
    (ap (is_told c.args.name) (sym c.as_mut_slice.ensures.value) ∙ sym c.count_header.ensures.known ∙ c.if-count_header.true)

pub invariant_of-self-then-len-ge-MOST_TOLD : goal.invariant_of-self-then-len-ge-MOST_TOLD
invariant_of-self-then-len-ge-MOST_TOLD c =
    let new = with_items_is c.self.inside.told c.count_header.new.told (c.count_header.auto.told ∙ ap length c.as_mut_slice.ensures.value ∙ sym (c.self.inside.told.ok.0))
    ∙ c.count_header.ensures.counted ∙ ap (map (with_header c.args.name c.args.whole)) c.as_mut_slice.ensures.value in
    (subst (AreBelow (c.self.inside.notes + 1 + 1)) (sym new) (below_more_all c.args.name c.args.whole (c.self.inside.notes + 1) c.self.inside.told.items c.self.invariant.0), c.self.invariant.1)

pub returns-then-len-ge-MOST_TOLD-clause-noted : goal.returns-then-len-ge-MOST_TOLD-clause-noted
returns-then-len-ge-MOST_TOLD-clause-noted c others stands =
    let new = with_items_is c.self.inside.told c.count_header.new.told (c.count_header.auto.told ∙ ap length c.as_mut_slice.ensures.value ∙ sym (c.self.inside.told.ok.0))
    ∙ c.count_header.ensures.counted ∙ ap (map (with_header c.args.name c.args.whole)) c.as_mut_slice.ensures.value in
    let size = c.self.inside.told.ok.0 in
    stands_full c.self.inside.notes c.self.inside.told.items c.self.inside.untold c.args.self.now c.self.view_is c.args.name c.args.whole c.args.place others stands _ new
    (ap (is_told c.args.name) (sym c.as_mut_slice.ensures.value) ∙ sym c.count_header.ensures.known ∙ c.if-count_header.false)
    (omega (arith, size, c.len.ensures, c.if-len-ge-MOST_TOLD.true))

pub invariant_of-self-2 : goal.invariant_of-self-2
invariant_of-self-2 c =
    let new = with_items_is c.self.inside.told c.count_header.new.told (c.count_header.auto.told ∙ ap length c.as_mut_slice.ensures.value ∙ sym (c.self.inside.told.ok.0))
    ∙ c.count_header.ensures.counted ∙ ap (map (with_header c.args.name c.args.whole)) c.as_mut_slice.ensures.value in
    let bits : c.from.result ≡ cond c.args.whole 1 0 = search rules in (
      subst (AreBelow (c.self.inside.notes + 1 + 1)) (sym c.push_reserved.ensures.items)
          (below_push (c.self.inside.notes + 1 + 1) _ _
          (subst (AreBelow (c.self.inside.notes + 1 + 1)) (sym new) (below_more_all c.args.name c.args.whole (c.self.inside.notes + 1) c.self.inside.told.items c.self.invariant.0)) (omega arith, byte_below c.args.whole c.from.result c.self.inside.notes bits)),
      (let capacity = c.push_reserved.ensures.capacity in omega (arith, capacity, c.self.invariant.1)),
    )

pub returns-clause-noted : goal.returns-clause-noted
returns-clause-noted c others stands =
    let new = with_items_is c.self.inside.told c.count_header.new.told (c.count_header.auto.told ∙ ap length c.as_mut_slice.ensures.value ∙ sym (c.self.inside.told.ok.0))
    ∙ c.count_header.ensures.counted ∙ ap (map (with_header c.args.name c.args.whole)) c.as_mut_slice.ensures.value in
    let size = c.self.inside.told.ok.0 in
    let bits : c.from.result ≡ cond c.args.whole 1 0 = search rules in
    stands_new c.self.inside.notes c.self.inside.told.items c.self.inside.untold c.args.self.now c.self.view_is c.args.name c.args.whole c.args.place others stands _
    (c.push_reserved.ensures.items ∙ ap (λ (ts : List OtherTold). ts ++ record { name = c.args.name; headers = 1; whole = c.from.result; first = c.args.place } ∷ []) new
    ∙ ap (λ (n : ℕ). map (with_header c.args.name c.args.whole) c.self.inside.told.items ++ record { name = c.args.name; headers = 1; whole = n; first = c.args.place } ∷ []) bits)
    (ap (is_told c.args.name) (sym c.as_mut_slice.ensures.value) ∙ sym c.count_header.ensures.known ∙ c.if-count_header.false)
    (omega (arith, size, c.len.ensures, c.if-len-ge-MOST_TOLD.false))
