use Rattle.g64_image.specs.Lines.{fault_text}
use Rattle.g64_image.proofs.line.put_fault.Goals as goal

pub returns-in-ShortTrack-clause-bytes : goal.returns-in-ShortTrack-clause-bytes
unfolding fault_text
returns-in-ShortTrack-clause-bytes c =
    rw c.in-ShortTrack.is (rw (c.from-in-ShortTrack.ensures, c.from-in-ShortTrack-2.ensures) at c.put_two-in-ShortTrack.ensures.bytes)
