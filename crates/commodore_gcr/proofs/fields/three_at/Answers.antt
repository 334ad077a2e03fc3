use Rattle.std.proofs.Common.{ℕ, ◌+◌, ◌/◌, ◌%◌, ◌<◌, arith, get_or, subst}
use Rattle.frame_law.specs.lemmas.WordRowLaws.{word-lt}
use Rattle.commodore_gcr.specs.Coding.{ByteAt}
use Rattle.commodore_gcr.proofs.Bytes.{in_any_case, number_none, number_some, three_bytes, three_numbers}
use Rattle.commodore_gcr.proofs.fields.three_at.Goals as goal

pub decoded-requires : goal.decoded-requires
decoded-requires c =
    let low : c.word_at-cells.result < 1073741824 = rw c.word_at-cells.ensures (word-lt c.args.frame.now c.args.offset 30) in
    omega (arith, low)

pub returns-in_err-decoded-clause-none : goal.returns-in_err-decoded-clause-none
returns-in_err-decoded-clause-none c =
    let frame = c.args.frame.now in
    let offset = c.args.offset in
    let number = c.word_at-cells.result in
    let numbers = three_numbers frame offset number c.requires c.word_at-cells.ensures in
    in_any_case c.from_residual.result
    (λ bytes size stand. number_none frame offset (number / 1048576) (omega (arith, c.requires)) numbers.0
    c.in_err-decoded.ensures.none (get_or bytes 0 0)
    (subst (λ (n : ℕ). ByteAt frame n (get_or bytes 0 0)) (omega arith) (stand 0 (omega (arith, size)))))

pub returns-in_err-decoded-2-clause-none : goal.returns-in_err-decoded-2-clause-none
returns-in_err-decoded-2-clause-none c =
    let frame = c.args.frame.now in
    let offset = c.args.offset in
    let number = c.word_at-cells.result in
    let numbers = three_numbers frame offset number c.requires c.word_at-cells.ensures in
    in_any_case c.from_residual-in_err-decoded-2.result
    (λ bytes size stand. number_none frame (offset + 10) (number / 1024 % 1024) (omega (arith, c.requires)) numbers.1
    c.in_err-decoded-2.ensures.none (get_or bytes 1 0)
    (subst (λ (n : ℕ). ByteAt frame n (get_or bytes 1 0)) (omega arith) (stand 1 (omega (arith, size)))))

pub returns-in_err-decoded-3-clause-none : goal.returns-in_err-decoded-3-clause-none
returns-in_err-decoded-3-clause-none c =
    let frame = c.args.frame.now in
    let offset = c.args.offset in
    let number = c.word_at-cells.result in
    let numbers = three_numbers frame offset number c.requires c.word_at-cells.ensures in
    in_any_case c.from_residual-in_err-decoded-3.result
    (λ bytes size stand. number_none frame (offset + 20) (number % 1024) (omega (arith, c.requires)) numbers.2
    c.in_err-decoded-3.ensures.none (get_or bytes 2 0)
    (subst (λ (n : ℕ). ByteAt frame n (get_or bytes 2 0)) (omega arith) (stand 2 (omega (arith, size)))))

pub returns-clause-bytes : goal.returns-clause-bytes
returns-clause-bytes c =
    let frame = c.args.frame.now in
    let offset = c.args.offset in
    let number = c.word_at-cells.result in
    let first = c.in_ok-decoded in
    let second = c.in_ok-decoded-2 in
    let third = c.in_ok-decoded-3 in
    let numbers = three_numbers frame offset number c.requires c.word_at-cells.ensures in
    three_bytes frame offset first.field-0 second.field-0 third.field-0
    (number_some frame offset (number / 1048576) first.field-0 (omega (arith, c.requires)) numbers.0 first.ensures.fits first.ensures.byte)
    (number_some frame (offset + 10) (number / 1024 % 1024) second.field-0 (omega (arith, c.requires)) numbers.1 second.ensures.fits second.ensures.byte)
    (number_some frame (offset + 20) (number % 1024) third.field-0 (omega (arith, c.requires)) numbers.2 third.ensures.fits third.ensures.byte)
