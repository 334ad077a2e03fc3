use Rattle.std.proofs.Common.{◌≡◌, ℕ, ◌∷◌, [], ◌++◌, arith, ap, get_or, inl, inr, length-append, refl, subst, sym, ◌∙◌}
use Rattle.std.proofs.lemmas.Bool.{cases_lt}
use Rattle.std.proofs.Math.ListN.{get_or-append}
use Rattle.std.proofs.Math.Seq.{get_or-append_seam}
use Rattle.apple_gcr.specs.DiskBytes.{byte_read, zeros_passed}
use Rattle.apple_gcr.specs.lemmas.ByteLaws.{start}
use Rattle.apple_gcr.proofs.Walk.{begin-before, begin-next, place-before, place-near, read-here}
use Rattle.apple_gcr.proofs.header.address_bytes.Goals as goal

pub loop-init : goal.loop-init
loop-init c =
    rw c.new-address.ensures (refl, λ k below. absurd (omega (arith, below)), sym (start (zeros_passed c.args.rule) c.args.frame.now 24))

pub byte_place-begin-requires-clause-near : goal.byte_place-begin-requires-clause-near
byte_place-begin-requires-clause-near c =
    omega (arith, place-near c.args.rule c.args.frame.now 24 c.loop.counter c.loop.place c.loop.invariant.2, c.loop-test.true)

pub byte_place-begin-requires-clause-within : goal.byte_place-begin-requires-clause-within
byte_place-begin-requires-clause-within c =
    omega (
      arith,
      place-before (zeros_passed c.args.rule) c.args.frame.now 24 c.loop.counter c.loop.place c.loop.invariant.2 8
          (omega (arith, c.loop-test.true)),
      c.requires,
    )

pub disk_byte_at-requires : goal.disk_byte_at-requires
disk_byte_at-requires c =
    omega (
      arith,
      begin-before (zeros_passed c.args.rule) c.args.frame.now 24 c.loop.counter c.loop.place c.loop.invariant.2
          c.byte_place-begin.result c.byte_place-begin.ensures.place 8 (omega (arith, c.loop-test.true)),
      c.requires,
    )

pub overflow_add-place : goal.overflow_add-place
overflow_add-place c =
    omega (
      arith,
      c.byte_place-begin.ensures.near,
      place-near c.args.rule c.args.frame.now 24 c.loop.counter c.loop.place c.loop.invariant.2,
      c.loop-test.true,
    )

pub loop-preserved : goal.loop-preserved
loop-preserved c =
    let passed = zeros_passed c.args.rule in
    let frame = c.args.frame.now in
    let before = c.loop.address.items in
    let byte = c.disk_byte_at.result in
    let size = c.loop.invariant.0 in
    let here = read-here passed frame 24 c.loop.counter c.loop.place c.loop.invariant.2 c.byte_place-begin.result
    c.byte_place-begin.ensures.place byte c.disk_byte_at.ensures in
    rw c.push.ensures.items (
      omega (arith, length-append before (byte ∷ []), size),
      λ k below. elim (cases_lt k c.loop.counter) [
        | inl low ↦ get_or-append before (byte ∷ []) 0 k (omega (arith, size, low)) ∙ c.loop.invariant.1 k low
        | inr high ↦
            let e : c.loop.counter ≡ k = omega (arith, below, high) in
            subst (λ (n : ℕ). get_or (before ++ byte ∷ []) n 0 ≡ byte_read passed frame 24 n) e
            (ap (λ (n : ℕ). get_or (before ++ byte ∷ []) n 0) (sym size) ∙ get_or-append_seam before byte [] 0 ∙ here)
      ],
      begin-next passed frame 24 c.loop.counter c.loop.place c.loop.invariant.2 c.byte_place-begin.result c.byte_place-begin.ensures.place,
    )
