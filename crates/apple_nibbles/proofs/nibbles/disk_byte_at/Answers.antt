use Rattle.std.proofs.Common.{◌<◌, subst, sym, ℕ}
use Rattle.std.proofs.Math.Facts.{Fits-of_lt}
use Rattle.frame_law.specs.lemmas.WordRowLaws.{word-lt}
use Rattle.apple_nibbles.specs.Nibbles.{disk_byte}
use Rattle.apple_nibbles.proofs.nibbles.disk_byte_at.Goals as goal

pub overflow_cast-result : goal.overflow_cast-result
overflow_cast-result c = Fits-of_lt (subst (λ (n : ℕ). n < 256) (sym c.word_at.ensures) (word-lt c.args.frame.now c.args.offset 8))

pub returns : goal.returns
unfolding disk_byte
returns c = c.word_at.ensures
