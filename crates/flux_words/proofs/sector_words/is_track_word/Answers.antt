use Rattle.flux_words.proofs.PeoplesWords.{no-track-here, track-here}
use Rattle.flux_words.proofs.sector_words.is_track_word.Goals as goal

pub returns-in-Some : goal.returns-in-Some
returns-in-Some c =
    track-here c.args.track c.args.word.now c.in-Some.cylinder.now c.are_digits_of.result
    (rw (c.as_bytes.ensures.value, c.as_str.ensures.value, c.put_u32.ensures.bytes, c.from.ensures, c.put.ensures.bytes, c.new-head.ensures) at c.in-Some.ensures)
    (rw c.from-in-Some.ensures at c.are_digits_of.ensures)

pub returns-in-None : goal.returns-in-None
returns-in-None c =
    no-track-here c.args.track c.args.word.now
    (rw (c.as_bytes.ensures.value, c.as_str.ensures.value, c.put_u32.ensures.bytes, c.from.ensures, c.put.ensures.bytes, c.new-head.ensures) at c.in-None.ensures)
