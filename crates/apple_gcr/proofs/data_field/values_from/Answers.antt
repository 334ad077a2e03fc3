use Rattle.std.proofs.Common.{◌≡◌, ◌∙◌, ◌+◌, ◌-◌, ◌++◌, ◌∷◌, [], ℕ, List, ap, arith, get_or, lit<, lit≤, refl, subst, sym}
use Rattle.std.specs.Int.Bits.{bit_xor}
use Rattle.apple_gcr.specs.DiskBytes.{byte_read, bytes_end, zeros_passed}
use Rattle.apple_gcr.specs.lemmas.ByteLaws.{end-more, start}
use Rattle.apple_gcr.proofs.FourCodes.{AreReadTo, four-read}
use Rattle.apple_gcr.proofs.Values.{AreRead, all-read, in_any_case, more-read, no_values, none-read, wrong_check}
use Rattle.apple_gcr.proofs.Walk.{begin-before, begin-next, place-before, place-near, read-here}
use Rattle.apple_gcr.proofs.data_field.values_from.Goals as goal

pub loop-left-init : goal.loop-left-init
loop-left-init c =
    rw c.new-values.ensures
    (lit≤ tt, (none-read (byte_read (zeros_passed c.args.rule) c.args.frame.now c.args.from), sym (start (zeros_passed c.args.rule) c.args.frame.now c.args.from)))

pub four_codes-requires : goal.four_codes-requires
four_codes-requires c = record {
  within = λ four. (let passed = zeros_passed c.args.rule in
      let frame = c.args.frame.now in
      let read : ℕ = 342 - c.loop-left.left in
      let rest : ℕ = 343 - read in
      let all : read + rest ≡ 343 = omega arith in
      omega (
        arith,
        four,
        c.loop-left.invariant.0,
        c.loop-left.invariant.1.1,
        end-more passed frame c.args.from read rest,
        ap (bytes_end passed frame c.args.from) all,
        c.requires.whole,
      ));
}

pub push-requires : goal.push-requires
push-requires c = (lit< tt, omega (arith, c.loop-left.invariant.1.0.size, c.loop-left.invariant.0, c.in-Some.ensures.enough))

pub push-requires-in-Some : goal.push-requires-in-Some
push-requires-in-Some c = (lit< tt, omega (arith, c.push.ensures.len, c.loop-left.invariant.1.0.size, c.loop-left.invariant.0, c.in-Some.ensures.enough))

pub push-requires-in-Some-2 : goal.push-requires-in-Some-2
push-requires-in-Some-2 c =
    (lit< tt, omega (arith, c.push-in-Some.ensures.len, c.push.ensures.len, c.loop-left.invariant.1.0.size, c.loop-left.invariant.0, c.in-Some.ensures.enough))

pub push-requires-in-Some-3 : goal.push-requires-in-Some-3
push-requires-in-Some-3 c = (
  lit< tt,
  omega (
    arith,
    c.push-in-Some-2.ensures.len,
    c.push-in-Some.ensures.len,
    c.push.ensures.len,
    c.loop-left.invariant.1.0.size,
    c.loop-left.invariant.0,
    c.in-Some.ensures.enough,
  ),
)

pub overflow_add-place : goal.overflow_add-place
overflow_add-place c =
    omega (
      arith,
      place-near c.args.rule c.args.frame.now c.args.from (342 - c.loop-left.left) c.loop-left.place c.loop-left.invariant.1.1,
      c.requires.near,
    )

pub loop-left-preserved-in-Some : goal.loop-left-preserved-in-Some
loop-left-preserved-in-Some c =
    let codes = c.in-Some.codes in
    let first = bit_xor c.loop-left.value (get_or codes 0 0) in
    let second = bit_xor first (get_or codes 1 0) in
    let third = bit_xor second (get_or codes 2 0) in
    let fourth = bit_xor third (get_or codes 3 0) in
    let items = c.push-in-Some-3.ensures.items
    ∙ ap (λ (values : List ℕ). values ++ fourth ∷ []) (c.push-in-Some-2.ensures.items
    ∙ ap (λ (values : List ℕ). values ++ third ∷ []) (c.push-in-Some.ensures.items
    ∙ ap (λ (values : List ℕ). values ++ second ∷ []) c.push.ensures.items)) in
    let more : 342 - c.loop-left.left + 4 ≡ 342 - (c.loop-left.left - 4) = omega (arith, c.loop-left.invariant.0, c.in-Some.ensures.enough) in (
      omega (arith, c.loop-left.invariant.0),
      subst (λ (values : List ℕ). AreReadTo (zeros_passed c.args.rule) c.args.frame.now c.args.from values (342 - (c.loop-left.left - 4)) fourth (c.loop-left.place + 32))
          (sym items)
          (subst (λ (n : ℕ). AreReadTo (zeros_passed c.args.rule) c.args.frame.now c.args.from ((((c.loop-left.values.items ++ first ∷ []) ++ second ∷ []) ++ third ∷ []) ++ fourth ∷ []) n fourth (c.loop-left.place + 32)) more
          (four-read (zeros_passed c.args.rule) c.args.frame.now c.args.from c.loop-left.values.items codes (342 - c.loop-left.left) c.loop-left.value
          c.loop-left.place c.loop-left.invariant.1 c.in-Some.ensures.nibbles)),
    )

pub byte_from-begin-requires-clause-near : goal.byte_from-begin-requires-clause-near
byte_from-begin-requires-clause-near c =
    omega (
      arith,
      place-near c.args.rule c.args.frame.now c.args.from (342 - c.loop-left.left) c.loop-left.place c.loop-left.invariant.1.1,
      c.requires.near,
    )

pub byte_from-begin-requires-clause-within : goal.byte_from-begin-requires-clause-within
byte_from-begin-requires-clause-within c =
    omega (
      arith,
      place-before (zeros_passed c.args.rule) c.args.frame.now c.args.from (342 - c.loop-left.left) c.loop-left.place c.loop-left.invariant.1.1 343
          (omega arith),
      c.requires.whole,
    )

pub byte_from-begin-requires-clause-whole : goal.byte_from-begin-requires-clause-whole
byte_from-begin-requires-clause-whole c =
    omega (
      arith,
      begin-before (zeros_passed c.args.rule) c.args.frame.now c.args.from (342 - c.loop-left.left) c.loop-left.place c.loop-left.invariant.1.1 _ refl
          343 (omega arith),
      c.requires.whole,
    )

pub returns-in_err-value-clause-none : goal.returns-in_err-value-clause-none
returns-in_err-value-clause-none c =
    let passed = zeros_passed c.args.rule in
    let frame = c.args.frame.now in
    let here = read-here passed frame c.args.from (342 - c.loop-left.left) c.loop-left.place c.loop-left.invariant.1.1 c.byte_from-begin.result.0
    c.byte_from-begin.ensures.place c.byte_from-begin.result.1 c.byte_from-begin.ensures.byte in
    in_any_case c.from_residual.result
    (λ values. no_values (byte_read passed frame c.args.from) (342 - c.loop-left.left) values (omega arith)
    (λ code low same. c.in_err-value.ensures.none code low (same ∙ sym here)))

pub push-requires-in_default : goal.push-requires-in_default
push-requires-in_default c = (lit< tt, omega (arith, c.loop-left.invariant.1.0.size, c.loop-left.invariant.0, c.loop-left-test.true))

pub overflow_add-place-in_default : goal.overflow_add-place-in_default
overflow_add-place-in_default c =
    omega (
      arith,
      c.byte_from-begin.ensures.near,
      place-near c.args.rule c.args.frame.now c.args.from (342 - c.loop-left.left) c.loop-left.place c.loop-left.invariant.1.1,
      c.requires.near,
    )

pub loop-left-preserved : goal.loop-left-preserved
loop-left-preserved c =
    let passed = zeros_passed c.args.rule in
    let frame = c.args.frame.now in
    let read : ℕ = 342 - c.loop-left.left in
    let here = read-here passed frame c.args.from read c.loop-left.place c.loop-left.invariant.1.1 c.byte_from-begin.result.0
    c.byte_from-begin.ensures.place c.byte_from-begin.result.1 c.byte_from-begin.ensures.byte in
    let value : ℕ = bit_xor c.loop-left.value c.in_ok-value.field-0 in
    let more : read + 1 ≡ 342 - (c.loop-left.left - 1) = omega (arith, c.loop-left.invariant.0, c.loop-left-test.true) in (
      omega (arith, c.loop-left.invariant.0),
      (
        rw c.push-in_default.ensures.items
            (subst (λ (n : ℕ). AreRead (byte_read passed frame c.args.from) (c.loop-left.values.items ++ value ∷ []) n value) more
            (more-read (byte_read passed frame c.args.from) c.loop-left.values.items read c.loop-left.value c.in_ok-value.field-0
            c.loop-left.invariant.1.0 c.in_ok-value.ensures.some.0 (c.in_ok-value.ensures.some.1 ∙ here))),
        begin-next passed frame c.args.from read c.loop-left.place c.loop-left.invariant.1.1 c.byte_from-begin.result.0 c.byte_from-begin.ensures.place
            ∙ ap (bytes_end passed frame c.args.from) more,
      ),
    )

pub byte_place-requires-clause-near : goal.byte_place-requires-clause-near
byte_place-requires-clause-near c =
    omega (
      arith,
      place-near c.args.rule c.args.frame.now c.args.from (342 - c.loop-left.left) c.loop-left.place c.loop-left.invariant.1.1,
      c.requires.near,
    )

pub byte_place-requires-clause-within : goal.byte_place-requires-clause-within
byte_place-requires-clause-within c =
    omega (
      arith,
      place-before (zeros_passed c.args.rule) c.args.frame.now c.args.from (342 - c.loop-left.left) c.loop-left.place c.loop-left.invariant.1.1 343
          (omega arith),
      c.requires.whole,
    )

pub disk_byte_at-requires : goal.disk_byte_at-requires
disk_byte_at-requires c =
    omega (
      arith,
      begin-before (zeros_passed c.args.rule) c.args.frame.now c.args.from (342 - c.loop-left.left) c.loop-left.place c.loop-left.invariant.1.1
          c.byte_place.result c.byte_place.ensures.place 343 (omega arith),
      c.requires.whole,
    )

pub returns-in_err-check-clause-none : goal.returns-in_err-check-clause-none
returns-in_err-check-clause-none c =
    let passed = zeros_passed c.args.rule in
    let frame = c.args.frame.now in
    let read : ℕ = 342 - c.loop-left.left in
    let here = read-here passed frame c.args.from read c.loop-left.place c.loop-left.invariant.1.1 c.byte_place.result
    c.byte_place.ensures.place c.disk_byte_at.result c.disk_byte_at.ensures in
    in_any_case c.from_residual-in_err-check.result
    (λ values. no_values (byte_read passed frame c.args.from) read values (omega arith)
    (λ code low same. c.in_err-check.ensures.none code low (same ∙ sym here)))

pub returns-then-check-value-clause-none : goal.returns-then-check-value-clause-none
returns-then-check-value-clause-none c = λ others coded.
    let passed = zeros_passed c.args.rule in
    let bytes = byte_read passed c.args.frame.now c.args.from in
    let read : ℕ = 342 - c.loop-left.left in
    let e : read ≡ 342 = omega (arith, c.loop-left-test.false) in
    let values = subst (λ (n : ℕ). AreRead bytes c.loop-left.values.items n c.loop-left.value) e c.loop-left.invariant.1.0 in
    let here = read-here passed c.args.frame.now c.args.from read c.loop-left.place c.loop-left.invariant.1.1 c.byte_place.result
    c.byte_place.ensures.place c.disk_byte_at.result c.disk_byte_at.ensures in
    let last = subst (λ (n : ℕ). c.disk_byte_at.result ≡ bytes n) e here in
    c.if-check-value.true
    (wrong_check bytes c.loop-left.values.items others c.loop-left.value c.in_ok-check.check values c.in_ok-check.ensures.some.0
    (c.in_ok-check.ensures.some.1 ∙ last) coded)

pub returns-clause-some : goal.returns-clause-some
returns-clause-some c =
    let passed = zeros_passed c.args.rule in
    let bytes = byte_read passed c.args.frame.now c.args.from in
    let read : ℕ = 342 - c.loop-left.left in
    let e : read ≡ 342 = omega (arith, c.loop-left-test.false) in
    let values = subst (λ (n : ℕ). AreRead bytes c.loop-left.values.items n c.loop-left.value) e c.loop-left.invariant.1.0 in
    let here = read-here passed c.args.frame.now c.args.from read c.loop-left.place c.loop-left.invariant.1.1 c.byte_place.result
    c.byte_place.ensures.place c.disk_byte_at.result c.disk_byte_at.ensures in
    let last = subst (λ (n : ℕ). c.disk_byte_at.result ≡ bytes n) e here in
    all-read bytes c.loop-left.values.items c.loop-left.value c.in_ok-check.check values (c.in_ok-check.ensures.some.1 ∙ last) (omega (arith, c.if-check-value.false))
