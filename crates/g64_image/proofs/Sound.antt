-- A track without a fault lies in its file.
use Rattle.std.specs.Prelude.{◌≡◌, ◌≤◌, ◌<◌, ◌==◌, ℕ, ◌+◌, Bool, true, false, nat_lt, if◌then◌else◌, List, [], ◌++◌, length, take, Option, Some, None, refl}
use Rattle.std.proofs.Common.{ap, sym, ◌∙◌, arith, inl, inr}
use Rattle.std.proofs.lemmas.Bool.{cases_lt, lt-ltb, ne_eqb}
use Rattle.std.proofs.lemmas.List.{length-take-le}
use Rattle.std.proofs.Math.Seq.{take-append_seam}
use Rattle.std.specs.Io.KnownBytes.{IsAtEnd}
use Rattle.g64_image.specs.Answers.{IsTakenFile}
use Rattle.sector_images.specs.declared.format.Format.{Format}
use Rattle.g64_image.specs.Faults.{MOST_BYTES, fault_at, first_fault, table_fault, track_fault}
use Rattle.g64_image.specs.Layout.{cells_at, cells_of_bytes, length_at, offset_of, track_cells}
use Rattle.g64_image.specs.declared.fault.G64Fault.{G64Fault}
use Rattle.g64_image.specs.declared.fault.G64Fault.TheVariants.{BadOffset, ShortTrack, TooLarge}

pub no_track : (file : List ℕ) (track : ℕ) → offset_of file track ≡ 0 → cells_of_bytes [] ≡ track_cells file track
unfolding track_cells cells_of_bytes
no_track file track none = sym (ap (cells_at file) none)

some_offset : (offset : ℕ) → 0 < offset → (offset == 0) ≡ false
some_offset offset some = ne_eqb offset 0 (λ same. omega (arith, same, some))

-- the choice by three tests
by_tests : (a b c : Bool) (first second : G64Fault) → (if a then None else if b then Some first else if c then Some second else None) ≡ None
    → a ≡ false → (b ≡ false) × (c ≡ false)
by_tests true b c first second none is = absurd (cc)
by_tests false true c first second none is = absurd (cc)
by_tests false false true first second none is = absurd (cc)
by_tests false false false first second none is = (refl, refl)

not_less : (a b : ℕ) → nat_lt a b ≡ false → b ≤ a
not_less a b is =
    elim (cases_lt a b) [
      | inl low ↦ absurd (let yes = lt-ltb a b low in cc)
      | inr least ↦ least
    ]

pub in_file : (file : List ℕ) (track offset : ℕ) → offset ≡ offset_of file track → track_fault file track ≡ None → 0 < offset
    → (offset + 2 ≤ length file) × (offset + 2 + length_at file offset ≤ length file)
unfolding track_fault
in_file file track offset is sound some =
    let here : fault_at file track offset ≡ None = ap (fault_at file track) is ∙ sound in
    let tests = by_tests (offset == 0) (nat_lt (length file) (offset + 2)) (nat_lt (length file) (offset + 2 + length_at file offset))
    (BadOffset (track + 1) offset) (ShortTrack (track + 1) (length_at file offset)) here (some_offset offset some) in
    (not_less (length file) (offset + 2) tests.0, not_less (length file) (offset + 2 + length_at file offset) tests.1)

pub too_large : (format : Format) (file : List ℕ) → MOST_BYTES < length file → first_fault format file ≡ Some TooLarge
unfolding first_fault table_fault
too_large format file over = rw (lt-ltb MOST_BYTES (length file) over) refl

-- a file without a fault is no longer than a file may be
pub not_large : (format : Format) (file : List ℕ) → first_fault format file ≡ None → length file ≤ MOST_BYTES
not_large format file none =
    elim (cases_lt MOST_BYTES (length file)) [
      | inl over ↦ absurd (let large = too_large format file over in cc)
      | inr least ↦ least
    ]

-- the bytes that were read to the front of a buffer
pub taken_file : (count : ℕ) (buffer : List ℕ) (left : Option (List ℕ)) → length buffer ≡ MOST_BYTES + 1 → count ≤ length buffer
    → (count < length buffer → IsAtEnd left) → IsTakenFile (take count buffer) left
taken_file count buffer left size within ended =
    let many = length-take-le count buffer within in record {
      most = omega (arith, many, size, within);
      ended = λ few. ended (omega (arith, few, many, size));
    }

pub take-front : (count : ℕ) (xs ys : List ℕ) → length xs ≡ count → take count (xs ++ ys) ≡ xs
take-front count xs ys size = ap (λ (n : ℕ). take n (xs ++ ys)) (sym size) ∙ take-append_seam xs ys
