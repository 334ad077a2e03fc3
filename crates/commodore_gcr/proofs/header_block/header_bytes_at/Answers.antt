use Rattle.std.proofs.Common.{arith, get_or}
use Rattle.commodore_gcr.proofs.Bytes.{in_any_case, six_bytes}
use Rattle.commodore_gcr.proofs.header_block.header_bytes_at.Goals as goal

pub returns-in_err-byte_at-clause-none : goal.returns-in_err-byte_at-clause-none
returns-in_err-byte_at-clause-none c =
    in_any_case c.from_residual.result (λ header size stand. c.in_err-byte_at.ensures.none (get_or header 0 0) (stand 0 (omega (arith, size))))

pub returns-in_err-byte_at-2-clause-none : goal.returns-in_err-byte_at-2-clause-none
returns-in_err-byte_at-2-clause-none c =
    in_any_case c.from_residual-in_err-byte_at-2.result (λ header size stand. c.in_err-byte_at-2.ensures.none (get_or header 1 0) (stand 1 (omega (arith, size))))

pub returns-in_err-byte_at-3-clause-none : goal.returns-in_err-byte_at-3-clause-none
returns-in_err-byte_at-3-clause-none c =
    in_any_case c.from_residual-in_err-byte_at-3.result (λ header size stand. c.in_err-byte_at-3.ensures.none (get_or header 2 0) (stand 2 (omega (arith, size))))

pub returns-in_err-byte_at-4-clause-none : goal.returns-in_err-byte_at-4-clause-none
returns-in_err-byte_at-4-clause-none c =
    in_any_case c.from_residual-in_err-byte_at-4.result (λ header size stand. c.in_err-byte_at-4.ensures.none (get_or header 3 0) (stand 3 (omega (arith, size))))

pub returns-in_err-byte_at-5-clause-none : goal.returns-in_err-byte_at-5-clause-none
returns-in_err-byte_at-5-clause-none c =
    in_any_case c.from_residual-in_err-byte_at-5.result (λ header size stand. c.in_err-byte_at-5.ensures.none (get_or header 4 0) (stand 4 (omega (arith, size))))

pub returns-in_err-byte_at-6-clause-none : goal.returns-in_err-byte_at-6-clause-none
returns-in_err-byte_at-6-clause-none c =
    in_any_case c.from_residual-in_err-byte_at-6.result (λ header size stand. c.in_err-byte_at-6.ensures.none (get_or header 5 0) (stand 5 (omega (arith, size))))

pub returns-clause-bytes : goal.returns-clause-bytes
returns-clause-bytes c =
    six_bytes c.args.frame.now c.in_ok-byte_at.field-0 c.in_ok-byte_at-2.field-0 c.in_ok-byte_at-3.field-0 c.in_ok-byte_at-4.field-0
    c.in_ok-byte_at-5.field-0 c.in_ok-byte_at-6.field-0 c.in_ok-byte_at.ensures.byte c.in_ok-byte_at-2.ensures.byte c.in_ok-byte_at-3.ensures.byte
    c.in_ok-byte_at-4.ensures.byte c.in_ok-byte_at-5.ensures.byte c.in_ok-byte_at-6.ensures.byte
