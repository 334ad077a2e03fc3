use Rattle.std.proofs.Common.{◌≡◌, ◌++◌, ℕ, List, length}
use Rattle.scp_files.specs.Tracks.{words}
use Rattle.scp_files.specs.inside.Noting.{Noted}
use Rattle.scp_files.proofs.capture.Capture.note.Given as goal

abbrev pub invariant-loop-rest : goal.invariant-loop-rest
invariant-loop-rest l = (passed : List ℕ) × (words l.bytes ≡ passed ++ words l.rest) × Noted passed l.initial.self l.self

abbrev pub decreases-loop-rest : goal.decreases-loop-rest
decreases-loop-rest l = length l.rest
