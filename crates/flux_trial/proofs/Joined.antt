-- A trial's input is its streams, one after another.
use Rattle.std.specs.Prelude.{◌≡◌, ℕ, List, [], flat_map, length, refl}
use Rattle.std.specs.List.{range_with_len}
use Rattle.std.proofs.Common.{append-nil, arith, sym}
use Rattle.std.proofs.lemmas.List.Elements.{All-nil}
use Rattle.kryo_stream.specs.Joined.{MayStandBefore}
use Rattle.kryo_stream.specs.Protocol.{OUT_OF_BAND}
use Rattle.law_captured_disks.specs.Inputs.{AreJoined}
use Rattle.sector_images.specs.Places.{tracks}
use Rattle.sector_images.specs.declared.format.Format.{Format}
use Rattle.flux_trial.specs.Tracks.{trial_input, trial_stream}

none_before : (stream : List ℕ) → MayStandBefore [] stream
none_before stream = record { each = All-nil (λ (byte : ℕ). byte ≡ OUT_OF_BAND); few = omega arith; none_in_stream = λ other. refl }

pub input_joined : (format : Format) (seed : ℕ) → AreJoined (length (tracks format)) (trial_stream format seed) (trial_input format seed)
unfolding trial_input
input_joined format seed = record {
  padding = λ k. [];
  later = [];
  joined = sym (append-nil (flat_map (trial_stream format seed) (range_with_len 0 (length (tracks format)))));
  first = refl;
  padded = λ k known. none_before (trial_stream format seed k);
}
