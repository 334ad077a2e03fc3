use Rattle.std.proofs.Common.{◌<◌, ℕ}
use Rattle.disk_recordings.specs.TrackSectors.{track_at}
use Rattle.flux_words.specs.SectorWords.{IsTrackWord}
use Rattle.flux_words.proofs.sector_words.track_number.Given as goal

abbrev pub invariant-loop-number : goal.invariant-loop-number
invariant-loop-number l = (k : ℕ) → k < l.number → ¬ IsTrackWord (track_at l.format k) l.word
