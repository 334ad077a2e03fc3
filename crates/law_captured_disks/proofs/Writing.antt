-- What is written of an image is a captured disk.
use Rattle.std.specs.Prelude.{◌≡◌, ℕ, List, [], flat_map, length, refl}
use Rattle.std.specs.List.{range_with_len}
use Rattle.std.proofs.Common.{append-nil, arith, sym}
use Rattle.std.proofs.lemmas.List.Elements.{All-nil}
use Rattle.kryo_stream.specs.Protocol.{OUT_OF_BAND}
use Rattle.sector_images.specs.Places.{tracks}
use Rattle.sector_images.specs.declared.format.Format.{Format}
use Rattle.flux_engine.specs.Captures.{WritesCaptures}
use Rattle.flux_engine.specs.Rings.{streams_of, track_stream}
use Rattle.law_captured_disks.specs.Inputs.{AreJoined, WritesCapturedDisks}

written_joined : (format : Format) (image : List ℕ) → AreJoined (length (tracks format)) (track_stream format image) (streams_of format image)
unfolding streams_of
written_joined format image = record {
  padding = λ k. [];
  later = [];
  joined = sym (append-nil (flat_map (track_stream format image) (range_with_len 0 (length (tracks format)))));
  first = refl;
  padded = λ k known. record { each = All-nil (λ (byte : ℕ). byte ≡ OUT_OF_BAND); few = omega arith; none_in_stream = λ other. refl };
}

pub writes_captured_disks : WritesCaptures → WritesCapturedDisks
writes_captured_disks writes format image is = record {
  stream = track_stream format image;
  joined = written_joined format image;
  captured = λ k known. writes format image k is known;
}
