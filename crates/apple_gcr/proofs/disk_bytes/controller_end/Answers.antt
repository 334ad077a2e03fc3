use Rattle.std.proofs.Common.{◌≡◌, ◌+◌, ◌-◌, ◌∙◌, ap, arith, sym}
use Rattle.apple_gcr.specs.DiskBytes.{bytes_end}
use Rattle.apple_gcr.specs.declared.disk_bytes.ByteRule.TheVariants.{Controller}
use Rattle.apple_gcr.specs.lemmas.ByteLaws.{start}
use Rattle.apple_gcr.proofs.Walk.{begin-next, four-next, place-before, place-near}
use Rattle.apple_gcr.proofs.disk_bytes.controller_end.Goals as goal

pub loop-left-init : goal.loop-left-init
loop-left-init c =
    let none : 0 ≡ c.args.count - c.args.count = omega arith in
    (omega arith, sym (start 7 c.args.frame.now c.args.from) ∙ ap (bytes_end 7 c.args.frame.now c.args.from) none)

pub four_begin-requires : goal.four_begin-requires
four_begin-requires c =
    record { near = omega (arith, place-near Controller c.args.frame.now c.args.from (c.args.count - c.loop-left.left) c.loop-left.end c.loop-left.invariant.1, c.requires.near, c.requires.few) }

pub overflow_add-end : goal.overflow_add-end
overflow_add-end c =
    omega (arith, place-near Controller c.args.frame.now c.args.from (c.args.count - c.loop-left.left) c.loop-left.end c.loop-left.invariant.1, c.requires.near, c.requires.few)

pub loop-left-preserved-then-four_begin : goal.loop-left-preserved-then-four_begin
loop-left-preserved-then-four_begin c =
    let more : c.args.count - c.loop-left.left + 4 ≡ c.args.count - (c.loop-left.left - 4) = omega (arith, c.if-left-ge-FOUR.true, c.loop-left.invariant.0) in (
      omega (arith, c.loop-left.invariant.0),
      four-next c.args.frame.now c.args.from (c.args.count - c.loop-left.left) c.loop-left.end c.loop-left.invariant.1 (c.four_begin.ensures c.if-four_begin.true).1
          ∙ ap (bytes_end 7 c.args.frame.now c.args.from) more,
    )

pub overflow_add-end-else-left-ge-FOUR : goal.overflow_add-end-else-left-ge-FOUR
overflow_add-end-else-left-ge-FOUR c =
    omega (arith, place-near Controller c.args.frame.now c.args.from (c.args.count - c.loop-left.left) c.loop-left.end c.loop-left.invariant.1, c.requires.near, c.requires.few)

pub returns-then-len-end-clause-none : goal.returns-then-len-end-clause-none
returns-then-len-end-clause-none c =
    omega (
      arith,
      c.if-len-end.true,
      c.len.ensures,
      place-before 7 c.args.frame.now c.args.from (c.args.count - c.loop-left.left) c.loop-left.end c.loop-left.invariant.1 c.args.count
          (omega (arith, c.loop-left-test.true, c.loop-left.invariant.0)),
    )

pub byte_place-end-requires-clause-near : goal.byte_place-end-requires-clause-near
byte_place-end-requires-clause-near c =
    omega (arith, place-near Controller c.args.frame.now c.args.from (c.args.count - c.loop-left.left) c.loop-left.end c.loop-left.invariant.1, c.requires.near, c.requires.few)

pub overflow_add-end-else-left-ge-FOUR-2 : goal.overflow_add-end-else-left-ge-FOUR-2
overflow_add-end-else-left-ge-FOUR-2 c =
    omega (
      arith,
      c.byte_place-end.ensures.near,
      place-near Controller c.args.frame.now c.args.from (c.args.count - c.loop-left.left) c.loop-left.end c.loop-left.invariant.1,
      c.requires.near,
      c.requires.few,
    )

pub loop-left-preserved : goal.loop-left-preserved
loop-left-preserved c =
    let more : c.args.count - c.loop-left.left + 1 ≡ c.args.count - (c.loop-left.left - 1) = omega (arith, c.loop-left-test.true, c.loop-left.invariant.0) in (
      omega (arith, c.loop-left.invariant.0),
      begin-next 7 c.args.frame.now c.args.from (c.args.count - c.loop-left.left) c.loop-left.end c.loop-left.invariant.1 c.byte_place-end.result c.byte_place-end.ensures.place
          ∙ ap (bytes_end 7 c.args.frame.now c.args.from) more,
    )
