-- What is read after a part of known length, and bytes in a row.
use Rattle.std.specs.Prelude.{◌≡◌, ℕ, zero, suc, ◌+◌, ◌*◌, ◌/◌, ◌%◌, Bool, List, [], ◌∷◌, ◌++◌}
use Rattle.std.specs.Prelude.{length, take, refl}
use Rattle.std.proofs.Common.{ap, ◌∙◌, arith, add-one, sym}
use Rattle.cell_bits.specs.Bytes.{data_byte, data_cells}
use Rattle.cell_bits.specs.Word.{number_of}
use Rattle.track_rings.specs.lemmas.Parts.{drop-past}
use Rattle.flux_base.specs.declared.track.TrackId.{TrackId}
use Rattle.flux_base.specs.declared.header_name.HeaderName.{HeaderName}
use Rattle.flux_base.specs.declared.header_name.HeaderName.TheVariants.{Address, TrackSector}
use Rattle.flux_base.specs.declared.header_name.HeaderName.TheVariants.{TrackSectorSide}
use Rattle.ibm_fields.specs.Fields.{address_named, bytes_at, high_first, number_at, sector_name}

pub data_byte-past : (xs ys : List Bool) (size offset : ℕ) → length xs ≡ size
    → data_byte (xs ++ ys) (size + offset) ≡ data_byte ys offset
unfolding data_byte
data_byte-past xs ys size offset is =
    ap (λ (cells : List Bool). number_of (data_cells (take 16 cells)))
    (drop-past xs ys size offset is)

pub bytes_at-past : (xs ys : List Bool) (size offset count : ℕ) → length xs ≡ size
    → bytes_at (xs ++ ys) (size + offset) count ≡ bytes_at ys offset count
unfolding bytes_at
bytes_at-past xs ys size offset zero is = refl
bytes_at-past xs ys size offset (suc count) is =
    let e : size + offset + 16 ≡ size + (offset + 16) = omega arith in
    ap (λ (byte : ℕ). byte ∷ bytes_at (xs ++ ys) (size + offset + 16) count)
    (data_byte-past xs ys size offset is)
    ∙ ap (λ (rest : List ℕ). data_byte ys offset ∷ rest)
    (ap (λ (n : ℕ). bytes_at (xs ++ ys) n count) e
    ∙ bytes_at-past xs ys size (offset + 16) count is)

pub number_at-past : (xs ys : List Bool) (size offset : ℕ) → length xs ≡ size
    → number_at (xs ++ ys) (size + offset) ≡ number_at ys offset
number_at-past xs ys size offset is =
    let e : size + offset + 16 ≡ size + (offset + 16) = omega arith in
    ap (λ (byte : ℕ). 256 * byte + data_byte (xs ++ ys) (size + offset + 16))
    (data_byte-past xs ys size offset is)
    ∙ ap (λ (byte : ℕ). 256 * data_byte ys offset + byte)
    (ap (data_byte (xs ++ ys)) e ∙ data_byte-past xs ys size (offset + 16) is)

pub length-bytes_at : (cells : List Bool) (place count : ℕ)
    → length (bytes_at cells place count) ≡ count
unfolding bytes_at
length-bytes_at cells place zero = refl
length-bytes_at cells place (suc count) = let e = length-bytes_at cells (place + 16) count in
    omega (arith, e)

-- the first byte, where it is known
pub data_byte-first : (cells : List Bool) (place count byte : ℕ) (bytes : List ℕ)
    → bytes_at cells place (suc count) ≡ byte ∷ bytes
    → data_byte cells place ≡ byte
unfolding bytes_at
data_byte-first cells place count byte bytes same = cc

-- a number reads back where its two bytes do
pub number_at-high_first : (cells : List Bool) (place number : ℕ)
    → bytes_at cells place 2 ≡ high_first number → number_at cells place ≡ number
unfolding bytes_at
number_at-high_first cells place number same =
    let high : data_byte cells place ≡ number / 256 = cc in
    let low : data_byte cells (place + 16) ≡ number % 256 = cc in
    omega (arith, high, low)

bytes_at-next : (cells : List Bool) (place count : ℕ)
    → bytes_at cells place (suc count)
    ≡ bytes_at cells place count ++ data_byte cells (place + 16 * count) ∷ []
unfolding bytes_at
bytes_at-next cells place zero =
    let e : place ≡ place + 16 * 0 = omega arith in
    ap (λ (p : ℕ). data_byte cells p ∷ []) e
bytes_at-next cells place (suc count) =
    let e : place + 16 + 16 * count ≡ place + 16 * suc count = omega arith in
    ap (λ (rest : List ℕ). data_byte cells place ∷ rest)
    (bytes_at-next cells (place + 16) count
    ∙ ap (λ (p : ℕ). bytes_at cells (place + 16) count ++ data_byte cells p ∷ []) e)

-- one more byte
pub bytes_at-suc : (cells : List Bool) (place count : ℕ)
    → bytes_at cells place (count + 1)
    ≡ bytes_at cells place count ++ data_byte cells (place + 16 * count) ∷ []
bytes_at-suc cells place count = rw add-one (bytes_at-next cells place count)

pub bytes_at-none : (cells : List Bool) (place : ℕ) → bytes_at cells place 0 ≡ []
unfolding bytes_at
bytes_at-none cells place = refl

-- four of them
pub bytes_at-four : (cells : List Bool) (place : ℕ)
    → bytes_at cells place 4
    ≡ data_byte cells place ∷ data_byte cells (place + 16) ∷ data_byte cells (place + 32)
    ∷ data_byte cells (place + 48) ∷ []
unfolding bytes_at
bytes_at-four cells place =
    let third : place + 16 + 16 ≡ place + 32 = omega arith in
    let fourth : place + 16 + 16 + 16 ≡ place + 48 = omega arith in
    ap
    (λ (p : ℕ).
    data_byte cells place ∷ data_byte cells (place + 16) ∷ data_byte cells p
    ∷ data_byte cells (place + 16 + 16 + 16) ∷ []) third
    ∙ ap
    (λ (p : ℕ).
    data_byte cells place ∷ data_byte cells (place + 16) ∷ data_byte cells (place + 32)
    ∷ data_byte cells p ∷ []) fourth

-- some bytes, and those after them
bytes_at-add : (cells : List Bool) (place m n : ℕ)
    → bytes_at cells place (m + n) ≡ bytes_at cells place m ++ bytes_at cells (place + 16 * m) n
unfolding bytes_at
bytes_at-add cells place zero n =
    let none : 0 + n ≡ n = omega arith in
    let here : place ≡ place + 16 * 0 = omega arith in
    ap (bytes_at cells place) none ∙ ap (λ (p : ℕ). bytes_at cells p n) here
bytes_at-add cells place (suc m) n =
    let more : suc m + n ≡ suc (m + n) = omega arith in
    let there : place + 16 + 16 * m ≡ place + 16 * suc m = omega arith in
    ap (bytes_at cells place) more
    ∙ ap (λ (rest : List ℕ). data_byte cells place ∷ rest)
    (bytes_at-add cells (place + 16) m n
    ∙ ap (λ (p : ℕ). bytes_at cells (place + 16) m ++ bytes_at cells p n) there)

-- four more bytes
pub bytes_at-four_more : (cells : List Bool) (place fours : ℕ) (four : List ℕ)
    → four ≡ data_byte cells (place + 64 * fours) ∷ data_byte cells (place + 64 * fours + 16)
    ∷ data_byte cells (place + 64 * fours + 32) ∷ data_byte cells (place + 64 * fours + 48) ∷ []
    → bytes_at cells place (4 * fours) ++ four ≡ bytes_at cells place (4 * (fours + 1))
bytes_at-four_more cells place fours four is =
    let there : place + 16 * (4 * fours) ≡ place + 64 * fours = omega arith in
    let more : 4 * fours + 4 ≡ 4 * (fours + 1) = omega arith in
    ap (λ (bytes : List ℕ). bytes_at cells place (4 * fours) ++ bytes)
    (is ∙ sym (bytes_at-four cells (place + 64 * fours))
    ∙ ap (λ (p : ℕ). bytes_at cells p 4) (sym there))
    ∙ sym (bytes_at-add cells place (4 * fours) 4) ∙ ap (bytes_at cells place) more

-- an address is that of one name
pub one_address : (bytes : List ℕ) (n m : HeaderName) → length bytes ≡ 4 → bytes ≡ address_named n
    → bytes ≡ address_named m → n ≡ m
one_address bytes (Address a b c d) (Address e f g h) size first second =
    let same : a ∷ b ∷ c ∷ d ∷ [] ≡ e ∷ f ∷ g ∷ h ∷ [] = sym first ∙ second in
    cc
one_address bytes (TrackSector track sector) m size first second =
    absurd (let none = ap length first in omega (arith, size, none))
one_address bytes (TrackSectorSide track sector side format) m size first second =
    absurd (let none = ap length first in omega (arith, size, none))
one_address bytes (Address a b c d) (TrackSector track sector) size first second =
    absurd (let none = ap length second in omega (arith, size, none))
one_address bytes (Address a b c d) (TrackSectorSide track sector side format) size first second =
    absurd (let none = ap length second in omega (arith, size, none))

pub one_sector : (track : TrackId) (s t size : ℕ)
    → sector_name track s size ≡ sector_name track t size → s ≡ t
one_sector track s t size same = cc
