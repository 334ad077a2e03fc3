use Rattle.flux_engine.specs.Rings.{streams_of}
use Rattle.library_calls.proofs.captured.written_disks_decode.Goals as goal

pub returns : goal.returns
returns c = λ format image o is decoded.
    c.captured_disks_decode.ensures.whole format image (streams_of format image) o is (c.written_disks_are_captured.ensures format image is) decoded
