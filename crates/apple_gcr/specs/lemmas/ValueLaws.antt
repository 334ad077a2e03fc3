-- The values of 6-and-2: those that are written carry the bytes, and nibbles that stand have one
-- list of values, which carries one list of bytes.
use Rattle.std.specs.Prelude.{◌≡◌, ℕ, zero, suc, ◌+◌, ◌-◌, ◌*◌, ◌/◌, ◌<◌, ◌≤◌, List, [], ◌∷◌}
use Rattle.std.specs.Prelude.{length, get_or, bit_xor}
use Rattle.std.proofs.Common.{ap, sym, subst, ◌∙◌, arith, inl, inr, lit<}
use Rattle.std.proofs.lemmas.Bool.{cases_lt}
use Rattle.std.proofs.lemmas.Bool.Decides.{nat_tests}
use Rattle.std.proofs.lemmas.List.{ext_get_or, get_or_past, length-map}
use Rattle.std.proofs.lemmas.List.FromFn.{get_or-map-range_with_len, length-range_with_len}
use Rattle.std.proofs.lemmas.Nat.{xor_lt}
use Rattle.std.specs.Int.Bits.{xor_zero_r}
use Rattle.std.specs.List.{range_with_len}
use Rattle.track_rings.specs.Rings.{AreBytes}
use Rattle.apple_nibbles.specs.Nibbles.{nibble}
use Rattle.apple_nibbles.specs.lemmas.FieldBytes.{AreFieldBytes, AreFieldBytes-map}
use Rattle.apple_nibbles.specs.lemmas.FieldBytes.{IsFieldByte-nibble}
use Rattle.apple_nibbles.specs.lemmas.NibbleLaws.{one_value, xor-undo}
use Rattle.apple_gcr.specs.SixAndTwo.{Carries, code_at, data_nibbles, swapped, value_at, values_of}

-- each of a list of bytes
each-byte : (bytes : List ℕ) → AreBytes bytes → (k : ℕ) → get_or bytes k 0 < 256
unfolding AreBytes
each-byte [] fit k = lit< tt
each-byte (byte ∷ bytes) fit zero = fit.0
each-byte (byte ∷ bytes) fit (suc k) = each-byte bytes fit.1 k

pub length-values_of : (bytes : List ℕ) → length (values_of bytes) ≡ 342
unfolding values_of
length-values_of bytes =
    length-map (range_with_len 0 342) (value_at bytes) ∙ length-range_with_len 0 342

pub get_or-values_of : (bytes : List ℕ) (k : ℕ) → k < 342
    → get_or (values_of bytes) k 0 ≡ value_at bytes k
unfolding values_of
get_or-values_of bytes k within =
    get_or-map-range_with_len (value_at bytes) 0 342 k k 0 within (omega arith)

value-low : (bytes : List ℕ) (k : ℕ) → k < 86
    → value_at bytes k
    ≡ swapped (get_or bytes k 0) + 4 * swapped (get_or bytes (86 + k) 0)
    + 16 * swapped (get_or bytes (172 + k) 0)
value-low bytes k low = grind (arith, nat_tests)

value-high : (bytes : List ℕ) (k : ℕ) → value_at bytes (86 + k) ≡ get_or bytes k 0 / 4
value-high bytes k =
    let e : 86 + k - 86 ≡ k = omega arith in
    let same = ap (λ (n : ℕ). get_or bytes n 0 / 4) e in
    grind (arith, nat_tests)

value-fits : (bytes : List ℕ) (k : ℕ) → AreBytes bytes → value_at bytes k < 64
value-fits bytes k fit = let byte = each-byte bytes fit (k - 86) in grind (arith, nat_tests)

pub values_of-fit : (bytes : List ℕ) (k : ℕ) → AreBytes bytes → get_or (values_of bytes) k 0 < 64
values_of-fit bytes k fit =
    elim (cases_lt k 342) [
      | inl within ↦
          subst (λ (n : ℕ). n < 64) (sym (get_or-values_of bytes k within)) (value-fits bytes k fit)
      | inr past ↦
          let size : length (values_of bytes) ≤ k = omega (arith, length-values_of bytes) in
          subst (λ (n : ℕ). n < 64) (sym (get_or_past (values_of bytes) k 0 size)) (lit< tt)
    ]

-- written values carry the bytes
pub values_of-carry : (bytes : List ℕ) → length bytes ≡ 256 → Carries (values_of bytes) bytes
values_of-carry bytes size =
    let low : (k : ℕ) → k < 86
    → get_or (values_of bytes) k 0
    ≡ swapped (get_or bytes k 0) + 4 * swapped (get_or bytes (86 + k) 0)
    + 16 * swapped (get_or bytes (172 + k) 0) =
    λ k within. get_or-values_of bytes k (omega arith) ∙ value-low bytes k within in
    record {
      size = size;
      high = λ k within. sym (get_or-values_of bytes (86 + k) (omega arith) ∙ value-high bytes k);
      first = λ k within. omega (arith, low k within);
      second = λ k within. omega (arith, low k within);
      third = λ k within. omega (arith, low k (omega arith));
    }

-- six bits
pub code-fits : (values : List ℕ) (k : ℕ) → ((k : ℕ) → get_or values k 0 < 64)
    → code_at values k < 64
code-fits values zero fit = subst (λ (n : ℕ). n < 64) (sym (xor_zero_r (get_or values 0 0))) (fit 0)
code-fits values (suc k) fit =
    xor_lt 6 (get_or values (suc k) 0) (get_or values k 0) (fit (suc k)) (fit k)

pub data_nibbles-are : (bytes : List ℕ) → AreBytes bytes → AreFieldBytes (data_nibbles bytes)
unfolding data_nibbles
data_nibbles-are bytes fit =
    AreFieldBytes-map (λ k. nibble (code_at (values_of bytes) k))
    (λ k.
    IsFieldByte-nibble (code_at (values_of bytes) k)
    (code-fits (values_of bytes) k (λ i. values_of-fit bytes i fit))) (range_with_len 0 343)

pub length-data_nibbles : (bytes : List ℕ) → length (data_nibbles bytes) ≡ 343
unfolding data_nibbles
length-data_nibbles bytes =
    length-map (range_with_len 0 343) (λ k. nibble (code_at (values_of bytes) k))
    ∙ length-range_with_len 0 343

pub get_or-data_nibbles : (bytes : List ℕ) (k : ℕ) → k < 343
    → get_or (data_nibbles bytes) k 0 ≡ nibble (code_at (values_of bytes) k)
unfolding data_nibbles
get_or-data_nibbles bytes k within =
    get_or-map-range_with_len (λ k. nibble (code_at (values_of bytes) k)) 0 343 k k 0 within
    (omega arith)

-- the first disk bytes that are read, so many, are the nibbles of the values
abbrev pub FirstStand : (ℕ → ℕ) → List ℕ → ℕ → Type 0
FirstStand read values count = (k : ℕ) → k < count → read k ≡ nibble (code_at values k)

abbrev pub AreSixBits : List ℕ → Type 0
AreSixBits values = (k : ℕ) → get_or values k 0 < 64

module _ (read : ℕ → ℕ) (xs ys : List ℕ) (count : ℕ) (fit : AreSixBits xs) (also : AreSixBits ys)
    (first : FirstStand read xs count) (second : FirstStand read ys count) where
  one_code : (k : ℕ) → k < count → code_at xs k ≡ code_at ys k
  one_code k within =
      one_value (code_at xs k) (code_at ys k) (code-fits xs k fit) (code-fits ys k also)
      (sym (first k within) ∙ second k within)

  -- they have one value at each place
  pub same_value : (k : ℕ) → k < count → get_or xs k 0 ≡ get_or ys k 0
  same_value zero within =
      sym (xor_zero_r (get_or xs 0 0)) ∙ one_code 0 within ∙ xor_zero_r (get_or ys 0 0)
  same_value (suc k) within =
      let before : get_or xs k 0 ≡ get_or ys k 0 = same_value k (omega arith) in
      sym (xor-undo (get_or xs (suc k) 0) (get_or xs k 0))
      ∙ ap (λ (n : ℕ). bit_xor n (get_or xs k 0)) (one_code (suc k) within)
      ∙ ap (bit_xor (bit_xor (get_or ys (suc k) 0) (get_or ys k 0))) before
      ∙ xor-undo (get_or ys (suc k) 0) (get_or ys k 0)

-- one list of values, which all nibbles but that of the check value tell
pub one_list : (read : ℕ → ℕ) (xs ys : List ℕ) → length xs ≡ 342 → length ys ≡ 342 → AreSixBits xs
    → AreSixBits ys
    → FirstStand read xs 342 → FirstStand read ys 342 → xs ≡ ys
one_list read xs ys size same fit also first second =
    ext_get_or 0 xs ys (size ∙ sym same)
    (λ k within.
    same_value read xs ys 342 fit also first second k (omega (arith, size, within)))

same_byte : (x y : ℕ) → x / 4 ≡ y / 4 → swapped x ≡ swapped y → x ≡ y
same_byte x y high low = omega arith

low_bits : (values xs ys : List ℕ) (k : ℕ) → Carries values xs → Carries values ys → k < 256
    → swapped (get_or xs k 0) ≡ swapped (get_or ys k 0)
low_bits values xs ys k first second within =
    elim (cases_lt k 86) [
      | inl low ↦ first.first k low ∙ sym (second.first k low)
      | inr more ↦ elim (cases_lt k 172) [
        | inl middle ↦
            let e : 86 + (k - 86) ≡ k = omega arith in
            let i : k - 86 < 86 = omega arith in
            subst (λ (n : ℕ). swapped (get_or xs n 0) ≡ swapped (get_or ys n 0)) e
            (first.second (k - 86) i ∙ sym (second.second (k - 86) i))
        | inr high ↦
            let e : 172 + (k - 172) ≡ k = omega arith in
            let i : k - 172 < 84 = omega arith in
            subst (λ (n : ℕ). swapped (get_or xs n 0) ≡ swapped (get_or ys n 0)) e
            (first.third (k - 172) i ∙ sym (second.third (k - 172) i))
      ]
    ]

-- one list of bytes
pub one_carried : (values others xs ys : List ℕ) → values ≡ others → Carries values xs
    → Carries others ys → xs ≡ ys
one_carried values others xs ys same carried second =
    let first = subst (λ (some : List ℕ). Carries some xs) same carried in
    ext_get_or 0 xs ys (first.size ∙ sym second.size)
    (λ k below.
    let within : k < 256 = omega (arith, first.size, below) in
    same_byte (get_or xs k 0) (get_or ys k 0) (first.high k within ∙ sym (second.high k within))
    (low_bits others xs ys k first second within))
