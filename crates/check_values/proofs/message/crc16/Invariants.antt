use Rattle.std.proofs.Common.{◌≡◌, ◌*◌, take}
use Rattle.check_values.specs.Crc.{crc}
use Rattle.check_values.proofs.message.crc16.Given as goal

abbrev pub invariant-loop-four : goal.invariant-loop-four
invariant-loop-four l = l.remainder ≡ crc l.fn.start (take (4 * l.four-index) l.bytes)

abbrev pub invariant-loop-byte : goal.invariant-loop-byte
invariant-loop-byte l = l.remainder ≡ crc l.initial.remainder (take l.byte-index l.rest)
