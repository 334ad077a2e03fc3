use Rattle.std.proofs.Common.{◌≡◌, ◌+◌, ◌<◌, ◌≤◌, ℕ, arith, length, subst, IfNone, IfSome}
use Rattle.apple_gcr.specs.DiskBytes.{bytes_end, zeros_passed}
use Rattle.apple_gcr.specs.Sectors.{opening_end}
use Rattle.apple_gcr.specs.lemmas.ByteLaws.{end-least, end-most, zeros-few}
use Rattle.apple_gcr.proofs.Values.{in_any_case}
use Rattle.apple_gcr.proofs.data_field.data_end.Goals as goal

pub returns-in_err-opening_end-clause-none : goal.returns-in_err-opening_end-clause-none
unfolding bytes_end
returns-in_err-opening_end-clause-none c =
    let passed = zeros_passed c.args.rule in
    let frame = c.args.frame.now in
    in_any_case c.from_residual.result
    (omega (arith, c.in_err-opening_end.ensures.none, end-least passed frame (opening_end passed frame c.args.sync) 343))

pub bytes_end-requires-2-clause-near : goal.bytes_end-requires-2-clause-near
bytes_end-requires-2-clause-near c =
    omega (
      arith,
      c.in_ok-opening_end.ensures.some.0,
      end-most (zeros_passed c.args.rule) (zeros-few c.args.rule) c.args.frame.now (c.args.sync + 16) 1,
      c.requires,
    )

pub returns-clause-some : goal.returns-clause-some
unfolding bytes_end
returns-clause-some c =
    subst (λ (n : ℕ). IfSome c.bytes_end-2.result (λ end. (end ≡ bytes_end (zeros_passed c.args.rule) c.args.frame.now n 343) × (end ≤ length c.args.frame.now)))
    c.in_ok-opening_end.ensures.some.0 c.bytes_end-2.ensures.some

pub returns-clause-none : goal.returns-clause-none
unfolding bytes_end
returns-clause-none c =
    subst (λ (n : ℕ). IfNone c.bytes_end-2.result (length c.args.frame.now < bytes_end (zeros_passed c.args.rule) c.args.frame.now n 343))
    c.in_ok-opening_end.ensures.some.0 c.bytes_end-2.ensures.none
