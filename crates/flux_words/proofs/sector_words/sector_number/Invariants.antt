use Rattle.std.proofs.Common.{◌<◌, ◌+◌, ℕ}
use Rattle.disk_recordings.specs.TrackSectors.{sectors_of, track_at}
use Rattle.flux_words.specs.SectorWords.{IsSectorWord}
use Rattle.flux_words.proofs.sector_words.sector_number.Given as goal

abbrev pub invariant-loop-index : goal.invariant-loop-index
invariant-loop-index l = (k : ℕ) → k < l.index → ¬ IsSectorWord ((sectors_of l.fn.format (track_at l.fn.format l.number)).first + k) l.word
