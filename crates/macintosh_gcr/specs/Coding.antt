-- The coding of the data fields of the Macintosh's disks (6-and-2 GCR with three sums): bytes in
-- groups of three, each group as four values of six bits, and check values after the last one.
use Rattle.std.specs.Prelude.{◌≡◌, ℕ, ◌+◌, ◌*◌, ◌/◌, ◌%◌, ◌<◌, List, [], ◌∷◌, ◌++◌, length, get_or}
use Rattle.std.specs.Prelude.{map, replicate, bit_xor}
use Rattle.std.specs.List.{range_with_len}
use Rattle.track_rings.specs.Rings.{AreBytes}
use Rattle.macintosh_gcr.specs.declared.sums.Sums.{Sums}

-- a byte turned left by one: its top bit goes to its lowest one
abbrev pub turned : ℕ → ℕ
turned byte = 2 * byte % 256 + byte / 128

-- Three sums of eight bits run over the bytes. With each group `a` is turned, and carries its top
-- bit to the sum of the first byte and `c`; what of this has more than eight bits carries to that
-- of the second byte and `b`, and that to the one of the third and `a`.
abbrev pub c_sum : Sums → ℕ → ℕ
c_sum sums first = sums.c + first + sums.a / 128

abbrev pub b_sum : Sums → ℕ → ℕ → ℕ
b_sum sums first second = sums.b + second + c_sum sums first / 256

abbrev pub a_sum : Sums → ℕ → ℕ → ℕ → ℕ
a_sum sums first second third = turned sums.a + third + b_sum sums first second / 256

-- the sums after a group of two bytes, which is the last one, and after one of three
abbrev pub after_two : Sums → ℕ → ℕ → Sums
after_two sums first second =
    record { a = turned sums.a; b = b_sum sums first second % 256; c = c_sum sums first % 256 }

abbrev pub after_three : Sums → ℕ → ℕ → ℕ → Sums
after_three sums first second third =
    record {
      a = a_sum sums first second third % 256;
      b = b_sum sums first second % 256;
      c = c_sum sums first % 256;
    }

-- The bytes of a group as they are stored: each exclusive-or a sum.
abbrev pub stored_first : Sums → ℕ → ℕ
stored_first sums first = bit_xor first (turned sums.a)

abbrev pub stored_second : Sums → ℕ → ℕ → ℕ
stored_second sums first second = bit_xor second (c_sum sums first % 256)

abbrev pub stored_third : Sums → ℕ → ℕ → ℕ → ℕ
stored_third sums first second third = bit_xor third (b_sum sums first second % 256)

-- The values of a group of stored bytes: the top two bits of each, the first byte's highest, and
-- then the low six of each. The last group has two bytes, and two bits to spare.
abbrev pub three_values : ℕ → ℕ → ℕ → List ℕ
three_values first second third =
    (16 * (first / 64) + 4 * (second / 64) + third / 64) ∷ first % 64 ∷ second % 64 ∷ third % 64
    ∷ []

abbrev pub two_values : (spare : ℕ) → ℕ → ℕ → List ℕ
two_values spare first second =
    (16 * (first / 64) + 4 * (second / 64) + spare) ∷ first % 64 ∷ second % 64 ∷ []

-- The check values: the top two bits of the sums, and then the low six of each.
abbrev pub check_values : Sums → List ℕ
check_values sums =
    (sums.a / 64 + 4 * (sums.b / 64) + 16 * (sums.c / 64)) ∷ sums.c % 64 ∷ sums.b % 64 ∷ sums.a % 64
    ∷ []

-- The values of bytes, group by group after these sums, with their check values.
-- The last group has two bytes.
unfoldable pub data_values : (spare : ℕ) → Sums → List ℕ → List ℕ
data_values spare sums [] = check_values sums
data_values spare sums (first ∷ []) = check_values sums
data_values spare sums (first ∷ second ∷ []) =
    two_values spare (stored_first sums first) (stored_second sums first second)
    ++ check_values (after_two sums first second)
data_values spare sums (first ∷ second ∷ third ∷ bytes) =
    three_values (stored_first sums first) (stored_second sums first second)
    (stored_third sums first second third)
    ++ data_values spare (after_three sums first second third) bytes

-- before the first byte the sums are zeros
abbrev pub NO_SUMS : Sums
NO_SUMS = record { a = 0; b = 0; c = 0 }

-- A sector's bytes as they are coded: twelve tags before them, which the image does not
-- have. They are written as zeros.
abbrev pub TAGS : ℕ
TAGS = 12

abbrev pub CODED_BYTES : ℕ
CODED_BYTES = 524

unfoldable pub with_tags : List ℕ → List ℕ
with_tags bytes = map (λ k. get_or (replicate TAGS 0 ++ bytes) k 0) (range_with_len 0 CODED_BYTES)

-- values of six bits
abbrev pub AreSixBits : List ℕ → Type 0
AreSixBits values = (k : ℕ) → get_or values k 0 < 64

-- so many bytes have these values, whatever the spare bits are
pub record IsCoded (values bytes : List ℕ) : Type 0 where
  pub spare : ℕ
  pub spare_fits : spare < 4
  pub size : length bytes ≡ CODED_BYTES
  pub fit : AreBytes bytes
  pub values_are : values ≡ data_values spare NO_SUMS bytes
