use Rattle.std.proofs.Common.{◌≡◌, ◌<◌, ◌≤◌, ◌⊎◌, inl, inr, ◌++◌, None, length, length-append, sym, ap, arith}
use Rattle.std.proofs.lemmas.Bool.{cases_lt}
use Rattle.track_shelf.specs.DumpKinds.{prefix_of}
use Rattle.track_shelf.proofs.DumpKinds.{false_true, long-none}
use Rattle.track_shelf.proofs.kind.Prefix.of_parts.Goals as goal

pub returns-in_default : goal.returns-in_default
returns-in_default c = by (cases_lt 255 (length c.args.front.now))
  where
    by : (255 < length c.args.front.now) ⊎ (length c.args.front.now ≤ 255) → None ≡ prefix_of (c.args.front.now ++ c.args.back.now)
    by (inl long) = (let size = length-append c.args.front.now c.args.back.now in sym (long-none (c.args.front.now ++ c.args.back.now) (omega (arith, long, size))))
    by (inr short) = (let none = ap length c.new-name.ensures in absurd (false_true (c.in_default.ensures.variant.1 (omega (arith, short, none)))))

pub returns-in-Err : goal.returns-in-Err
returns-in-Err c = by (cases_lt 255 (length (c.args.front.now ++ c.args.back.now)))
  where
    by : (255 < length (c.args.front.now ++ c.args.back.now)) ⊎ (length (c.args.front.now ++ c.args.back.now) ≤ 255) → None ≡ prefix_of (c.args.front.now ++ c.args.back.now)
    by (inl long) = sym (long-none (c.args.front.now ++ c.args.back.now) long)
    by (inr short) = (let none = ap length c.new-name.ensures in let size = length-append c.args.front.now c.args.back.now in let first = c.in-Ok.ensures.len in absurd (false_true (c.in-Err.ensures.variant.1 (omega (arith, short, none, size, first)))))
