use Rattle.std.proofs.Common.{◌≡◌, ◌*◌, ◌+◌, ◌++◌, ◌∷◌, ◌∙◌, [], List, ap, arith, lit<, refl, sym, subst, ℕ, get_or}
use Rattle.frame_law.specs.lemmas.WordRowLaws.{row-more}
use Rattle.commodore_gcr.specs.Coding.{ByteAt, BytesAt}
use Rattle.commodore_gcr.proofs.Bytes.{three-more, three-stand}
use Rattle.commodore_gcr.proofs.fields.take_bytes.Goals as goal

pub loop-group-init : goal.loop-group-init
loop-group-init c = rw c.requires.empty ((λ k within. absurd (omega arith)), refl)

pub returns-in_default-clause-none : goal.returns-in_default-clause-none
returns-in_default-clause-none c = λ same bytes size stand.
    let group = c.loop-group.group in
    c.in_default.ensures.none
    (get_or bytes (3 * group) 0 ∷ get_or bytes (3 * group + 1) 0 ∷ get_or bytes (3 * group + 2) 0 ∷ []) refl
    (three-stand c.args.frame.now c.args.offset group bytes (omega (arith, c.loop-group-test.true)) size stand)

pub push-requires : goal.push-requires
push-requires c = (lit< tt, omega (arith, c.loop-group.invariant.1, c.loop-group-test.true))

pub push-requires-in-loop-group : goal.push-requires-in-loop-group
push-requires-in-loop-group c = (lit< tt, omega (arith, c.push.ensures.len, c.loop-group.invariant.1, c.loop-group-test.true))

pub push-requires-in-loop-group-2 : goal.push-requires-in-loop-group-2
push-requires-in-loop-group-2 c =
    (lit< tt, omega (arith, c.push-in-loop-group.ensures.len, c.push.ensures.len, c.loop-group.invariant.1, c.loop-group-test.true))

pub loop-group-preserved : goal.loop-group-preserved
loop-group-preserved c =
    let i = c.loop-group.invariant in (
      subst (BytesAt c.args.frame.now c.args.offset)
          (sym (c.push-in-loop-group-2.ensures.items
          ∙ ap (λ (bytes : List ℕ). bytes ++ get_or c.in-Some.three 2 0 ∷ [])
          (c.push-in-loop-group.ensures.items ∙ ap (λ (bytes : List ℕ). bytes ++ get_or c.in-Some.three 1 0 ∷ []) c.push.ensures.items)))
          (three-more c.args.frame.now c.args.offset c.loop-group.group c.loop-group.buffer.items c.in-Some.three i.0 i.1
          c.in-Some.ensures.size c.in-Some.ensures.bytes),
      omega (arith, i.1, c.push.ensures.len, c.push-in-loop-group.ensures.len, c.push-in-loop-group-2.ensures.len),
    )

pub push-requires-2 : goal.push-requires-2
push-requires-2 c = (lit< tt, omega (arith, c.loop-group.invariant.1, c.loop-group.auto.group-end))

pub returns-clause-size : goal.returns-clause-size
returns-clause-size c = λ sure.
    omega (arith, c.push-2.ensures.len, c.loop-group.invariant.1, c.loop-group.auto.group-end, c.loop-group-test.false)

pub returns-clause-bytes : goal.returns-clause-bytes
returns-clause-bytes c = λ sure.
    let i = c.loop-group.invariant in
    let end : 3 * c.loop-group.group ≡ 255 = omega (arith, c.loop-group.auto.group-end, c.loop-group-test.false) in
    subst (BytesAt c.args.frame.now c.args.offset) (sym c.push-2.ensures.items)
    (row-more 10 ByteAt c.args.frame.now c.args.offset c.loop-group.buffer.items c.in-Some-byte_at.last i.0
    (subst (λ (n : ℕ). ByteAt c.args.frame.now n c.in-Some-byte_at.last) (omega (arith, i.1, end)) c.in-Some-byte_at.ensures.byte))
