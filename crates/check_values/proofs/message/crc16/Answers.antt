use Rattle.std.proofs.Common.{◌≡◌, ℕ, List, ◌++◌, ◌*◌, ◌/◌, arith, length, take, drop, ap, sym, ◌∙◌}
use Rattle.std.proofs.lemmas.List.{take-append-drop, take_all, take_more}
use Rattle.check_values.specs.Crc.{crc}
use Rattle.check_values.proofs.Chunks.{chunk-more}
use Rattle.check_values.proofs.Linear.{crc-none, crc-joined}
use Rattle.check_values.proofs.message.crc16.Goals as goal

pub loop-four-init : goal.loop-four-init
loop-four-init c = sym (crc-none _)

pub loop-four-preserved : goal.loop-four-preserved
loop-four-preserved c =
    let taken : ℕ = c.loop-four.four-index in
    c.with_four-remainder.ensures
    ∙ crc-joined _ c.args.start (take (4 * taken) c.args.bytes.now) _ c.loop-four.invariant
    ∙ ap (crc c.args.start) (rw c.as_chunks.ensures.front (chunk-more _ c.args.bytes.now taken (omega (arith, c.loop-four-test.true, c.as_chunks.ensures.front_len))))

pub loop-byte-init : goal.loop-byte-init
loop-byte-init c = sym (crc-none _)

pub loop-byte-preserved : goal.loop-byte-preserved
loop-byte-preserved c =
    c.with_byte-remainder.ensures
    ∙ crc-joined _ c.loop-four.remainder (take c.loop-byte.byte-index c.as_chunks.result.1.now) _ c.loop-byte.invariant
    ∙ ap (crc c.loop-four.remainder) (sym (take_more c.as_chunks.result.1.now c.loop-byte.byte-index 0 c.loop-byte-test.true))

-- the chunks of four, and then the rest, are all bytes
pub returns-clause-value : goal.returns-clause-value
returns-clause-value c =
    let bytes : List ℕ = c.args.bytes.now in
    let first : ℕ = 4 * c.loop-four.four-index in
    let here : length bytes / 4 * 4 ≡ first = omega (arith, c.as_chunks.ensures.front_len, c.loop-four-test.false, c.loop-four.auto.four-index-end) in
    c.loop-byte.invariant
    ∙ ap (crc c.loop-four.remainder) (take_all c.loop-byte.byte-index c.as_chunks.result.1.now c.loop-byte-test.false)
    ∙ crc-joined _ c.args.start (take first bytes) c.as_chunks.result.1.now c.loop-four.invariant
    ∙ ap (crc c.args.start)
    (ap (λ rest. take first bytes ++ rest) (c.as_chunks.ensures.back ∙ ap (λ n. drop n bytes) here) ∙ take-append-drop first bytes)

pub returns-clause-joined : goal.returns-clause-joined
returns-clause-joined c first before known =
    returns-clause-value c ∙ crc-joined c.args.start first before c.args.bytes.now known
