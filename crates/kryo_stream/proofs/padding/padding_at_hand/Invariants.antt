use Rattle.std.proofs.Common.{◌≡◌, ◌≤◌, ◌<◌, ℕ, get_or}
use Rattle.kryo_stream.proofs.padding.padding_at_hand.Given as goal

abbrev pub invariant-loop-place : goal.invariant-loop-place
invariant-loop-place l = record { few : l.place ≤ 17; run : (k : ℕ) → k < l.place → get_or l.bytes k 0 ≡ 13 }
