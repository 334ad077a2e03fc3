use Rattle.std.proofs.Common.{◌≡◌, ℕ, ◌∷◌, [], List, get_or, refl, ap, arith, sym, subst, ◌∙◌}
use Rattle.check_values.specs.Sums.{xor}
use Rattle.commodore_gcr.specs.Coding.{ByteAt}
use Rattle.commodore_gcr.specs.Sectors.{numbered, numbered_bytes}
use Rattle.commodore_gcr.proofs.Bytes.{header_is, in_any_case, named_bytes, six_bytes}
use Rattle.commodore_gcr.proofs.header_block.header_name.Goals as goal

-- the check value of a header's bytes
check_value : List ℕ → ℕ
check_value header = xor (get_or header 2 0 ∷ get_or header 3 0 ∷ get_or header 4 0 ∷ get_or header 5 0 ∷ [])

pub returns-in_err-first-clause-none : goal.returns-in_err-first-clause-none
returns-in_err-first-clause-none c =
    in_any_case c.from_residual.result
    (λ name names.
    let there = named_bytes c.args.frame.now name names in
    c.in_err-first.ensures.none (numbered_bytes there.0 there.1 there.2 there.3) refl there.4)

pub returns-then-first-ne-HEADER_BYTE-clause-none : goal.returns-then-first-ne-HEADER_BYTE-clause-none
returns-then-first-ne-HEADER_BYTE-clause-none c = λ name names.
    let header = c.in_ok-first.field-0 in
    let same = header_is c.args.frame.now header name c.in_ok-first.ensures.size c.in_ok-first.ensures.bytes names in
    c.if-first-ne-HEADER_BYTE.true (ap (λ (bytes : List ℕ). get_or bytes 0 0) same.4)

pub returns-then-check-xor_bytes-clause-none : goal.returns-then-check-xor_bytes-clause-none
unfolding check_value
returns-then-check-xor_bytes-clause-none c = λ name names.
    let header = c.in_ok-first.field-0 in
    let same = header_is c.args.frame.now header name c.in_ok-first.ensures.size c.in_ok-first.ensures.bytes names in
    let value : c.xor_bytes.result ≡ check_value header = c.xor_bytes.ensures in
    c.if-check-xor_bytes.true (ap (λ (bytes : List ℕ). get_or bytes 1 0) same.4 ∙ sym (value ∙ ap check_value same.4))

pub returns-clause-named : goal.returns-clause-named
unfolding check_value
returns-clause-named c =
    let cells = c.args.frame.now in
    let header = c.in_ok-first.field-0 in
    let size = c.in_ok-first.ensures.size in
    let bytes = c.in_ok-first.ensures.bytes in
    let sector = get_or header 2 0 in
    let number = get_or header 3 0 in
    let id2 = get_or header 4 0 in
    let id1 = get_or header 5 0 in
    let value : c.xor_bytes.result ≡ check_value header = c.xor_bytes.ensures in
    let check_is : get_or header 1 0 ≡ xor (numbered id1 id2 number sector) = c.if-check-xor_bytes.false ∙ value in record {
      id1 = id1;
      id2 = id2;
      bytes = six_bytes cells 0x08 (xor (numbered id1 id2 number sector)) sector number id2 id1
          (subst (ByteAt cells 10) c.if-first-ne-HEADER_BYTE.false (bytes 0 (omega (arith, size))))
          (subst (ByteAt cells 20) check_is (bytes 1 (omega (arith, size)))) (bytes 2 (omega (arith, size)))
          (bytes 3 (omega (arith, size))) (bytes 4 (omega (arith, size))) (bytes 5 (omega (arith, size)));
    }
