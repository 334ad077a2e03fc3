use Rattle.std.proofs.Common.{refl}
use Rattle.flux_help.specs.Nearest.{nearest_text}
use Rattle.flux_help.proofs.wrong_words.nearest_line.Goals as goal

pub returns : goal.returns
unfolding nearest_text
returns c =
    rw (c.put-3.ensures.bytes, c.put-2.ensures.bytes, c.put.ensures.bytes, c.new-line.ensures, c.as_str.ensures.value, c.word.ensures, c.nearest_format.ensures) refl
