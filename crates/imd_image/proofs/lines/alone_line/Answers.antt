use Rattle.std.proofs.Common.{refl, append_assoc}
use Rattle.dump_turns.specs.Lines.{passed_text}
use Rattle.imd_image.proofs.lines.alone_line.Goals as goal

pub returns-in-Refused : goal.returns-in-Refused
unfolding passed_text
returns-in-Refused c =
    rw (
      c.in-Refused.is,
      c.put-in-Refused-2.ensures.bytes,
      c.put_fault.ensures.bytes,
      c.put-in-Refused.ensures.bytes,
      c.put_named.ensures.bytes,
      c.put_u32.ensures.bytes,
      c.from.ensures,
      c.put.ensures.bytes,
      c.put_two_digits.ensures.bytes,
      c.new-line.ensures,
    )
    (simp append_assoc refl)

pub returns-in-RefusedScp : goal.returns-in-RefusedScp
unfolding passed_text
returns-in-RefusedScp c =
    rw (
      c.in-RefusedScp.is,
      c.put-in-RefusedScp-2.ensures.bytes,
      c.put_scp_fault.ensures.bytes,
      c.put-in-RefusedScp.ensures.bytes,
      c.put_u32.ensures.bytes,
      c.from.ensures,
      c.put.ensures.bytes,
      c.put_two_digits.ensures.bytes,
      c.new-line.ensures,
    )
    (simp append_assoc refl)
