-- What is read of a track's sectors can be noted in a book that knows of them.
use Rattle.std.specs.Prelude.{◌≡◌, ℕ, List, length}
use Rattle.std.proofs.Common.{sym, ◌∙◌, arith}
use Rattle.frame_law.specs.declared.reading.Reading.{Reading as Frame}
use Rattle.frame_law.specs.declared.reading.Reading.TheVariants.{Nothing, Bad, Good}
use Rattle.frame_law.specs.Readings.{Reads}
use Rattle.track_rings.specs.Rings.{IsSectorNumber}
use Rattle.turn_merge.specs.Book.{Knowledge, SameShape}
use Rattle.flux_engine.specs.Gathering.{CanBeNoted}

-- a sector of the track is one that the book knows of
pub can_note : (header : ℕ → Type 0) (sector : ℕ → List ℕ → Type 0) (first count size : ℕ)
    (old book : Knowledge) (frame : Frame) (bytes : List ℕ)
    → old.first_sector ≡ first → length old.found ≡ count → old.size ≡ size → SameShape old book
    → ((s : ℕ) → header s → IsSectorNumber first count s)
    → ((s : ℕ) (xs : List ℕ) → sector s xs → header s)
    → ((s : ℕ) (xs : List ℕ) → sector s xs → length xs ≡ size)
    → Reads header sector frame bytes → CanBeNoted book frame bytes
can_note header sector first count size old book Nothing bytes f c z shape numbers headers sizes
    reads = tt
can_note header sector first count size old book (Bad s) bytes f c z shape numbers headers sizes
    reads =
    let number = numbers s reads.1 in (
      omega (arith, f, shape.first_is, number.least),
      omega (arith, f, c, shape.first_is, shape.sectors_are, number.most),
    )
can_note header sector first count size old book (Good s) bytes f c z shape numbers headers sizes
    reads =
    let number = numbers s (headers s bytes reads) in (
      (
        omega (arith, f, shape.first_is, number.least),
        omega (arith, f, c, shape.first_is, shape.sectors_are, number.most),
      ),
      sizes s bytes reads ∙ sym (shape.size_is ∙ z),
    )
