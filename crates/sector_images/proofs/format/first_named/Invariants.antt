use Rattle.std.proofs.Common.{◌≡◌, drop, find}
use Rattle.sector_images.proofs.Words.{has_word}
use Rattle.sector_images.proofs.format.first_named.Given as goal

-- no format before this one has the word
abbrev pub invariant-loop-format : goal.invariant-loop-format
invariant-loop-format l = find (has_word l.word) l.formats ≡ find (has_word l.word) (drop l.format-index l.formats)
