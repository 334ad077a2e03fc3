use Rattle.std.proofs.Common.{rules, ℕ, ◌*◌, ◌+◌, ◌-◌, ◌/◌, ◌≡◌, get_or, slice_set, ap, sym, refl, subst, ◌∙◌, arith}
use Rattle.apple_gcr.specs.SixAndTwo.{Carries}
use Rattle.apple_gcr.proofs.Bytes.{all-taken, low_pair-first, low_pair-second, low_pair-third, more-taken}
use Rattle.apple_gcr.proofs.six_and_two.take_bytes.Goals as goal

pub loop-index-preserved : goal.loop-index-preserved
loop-index-preserved c =
    let values = c.args.values.now in
    let low = get_or values c.loop-index.index 0 in
    more-taken values c.loop-index.bytes c.loop-index.index (get_or values (86 + c.loop-index.index) 0) low c.byte_of.result
    c.loop-index.invariant (omega arith) refl (sym (low_pair-first values c.loop-index.index (omega arith))) c.byte_of.ensures

pub loop-index-2-preserved : goal.loop-index-2-preserved
loop-index-2-preserved c =
    let values = c.args.values.now in
    let index = c.loop-index-2.index in
    more-taken values c.loop-index-2.bytes index (get_or values (86 + index) 0) (get_or values (index - 86) 0 / 4)
    c.byte_of-in-loop-index-2.result c.loop-index-2.invariant (omega arith) refl
    (sym (low_pair-second values index (omega arith) (omega arith))) c.byte_of-in-loop-index-2.ensures

pub loop-index-3-preserved : goal.loop-index-3-preserved
loop-index-3-preserved c =
    let values = c.args.values.now in
    let index = c.loop-index-3.index in
    more-taken values c.loop-index-3.bytes index (get_or values (86 + index) 0) (get_or values (index - 172) 0 / 16)
    c.byte_of-in-loop-index-3.result c.loop-index-3.invariant (omega arith) refl
    (sym (low_pair-third values index (omega arith))) c.byte_of-in-loop-index-3.ensures

pub returns : goal.returns
returns c =
    let values = c.args.values.now in
    let e : c.loop-index-3.index ≡ 256 = omega arith in
    let taken = all-taken values c.loop-index-3.bytes c.loop-index-3.index e c.loop-index-3.invariant in
    search rules
