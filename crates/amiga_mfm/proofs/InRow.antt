-- Longs and halves in a row, one more at a time, and their exclusive or.
use Rattle.std.proofs.Common.{◌≡◌, ℕ, zero, suc, ◌+◌, ◌*◌, ◌/◌, ◌<◌, ◌≤◌, Bool, List, [], ◌∷◌, ◌++◌, length, drop, map, fold, get_or, bit_xor, refl, sym, ap, ◌∙◌, arith, length-drop, get_or-drop}
use Rattle.std.specs.List.{flat_map}
use Rattle.std.specs.Simd.Lanes.{zip2}
use Rattle.std.specs.Int.{from_be_bytes, to_be_bytes, w32}
use Rattle.std.specs.Int.Bits.{xor_assoc, xor_zero_l, xor_zero_r}
use Rattle.std.proofs.lemmas.List.{drop-drop, map-append}
use Rattle.std.proofs.lemmas.List.Concat.{flat_map-append}
use Rattle.std.proofs.lemmas.List.Sums.{fold-append}
use Rattle.check_values.specs.Sums.{data_xor, xor}
use Rattle.cell_bits.specs.Word.{word}
use Rattle.amiga_mfm.specs.declared.half.Half.{Half}
use Rattle.amiga_mfm.specs.declared.half.Half.TheVariants.{Odd, Even}
use Rattle.amiga_mfm.specs.lemmas.LongLaws.{length-raw, raw-last}
use Rattle.amiga_mfm.specs.Longs.{bytes_at, half_of, halves, long_at, long_of_halves, longs_at, longs_of, raw_longs, without_clocks}
use Rattle.amiga_mfm.specs.lemmas.Masks.{check-masked, without_clocks-twice}

-- the exclusive or of one more
pub xor-more : (xs : List ℕ) (x : ℕ) → xor (xs ++ x ∷ []) ≡ bit_xor (xor xs) x
xor-more xs x = fold-append bit_xor 0 xs (x ∷ [])

xor-start : (xs : List ℕ) (start : ℕ) → fold bit_xor start xs ≡ bit_xor start (xor xs)
xor-start [] start = sym (xor_zero_r start)
xor-start (x ∷ xs) start =
    xor-start xs (bit_xor start x) ∙ xor_assoc start x (xor xs)
    ∙ sym (ap (bit_xor start) (xor-start xs (bit_xor 0 x) ∙ ap (λ (n : ℕ). bit_xor n (xor xs)) (xor_zero_l x)))

half-masked : (half : Half) (long : ℕ) → without_clocks (half_of half long) ≡ half_of half long
half-masked Odd long = without_clocks-twice (long / 2)
half-masked Even long = without_clocks-twice long

halves-masked : (half : Half) (longs : List ℕ) → map without_clocks (map (half_of half) longs) ≡ map (half_of half) longs
halves-masked half [] = refl
halves-masked half (long ∷ longs) =
    ap (λ (n : ℕ). n ∷ map without_clocks (map (half_of half) longs)) (half-masked half long)
    ∙ ap (λ (rest : List ℕ). half_of half long ∷ rest) (halves-masked half longs)

-- the check value of longs, from those of their odd halves and of their even ones
pub check-both : (longs : List ℕ) → bit_xor (xor (map (half_of Odd) longs)) (xor (map (half_of Even) longs)) ≡ data_xor (halves longs)
check-both longs =
    let odd = map (half_of Odd) longs in
    let even = map (half_of Even) longs in
    sym (check-masked (odd ++ even)
    ∙ ap xor (map-append without_clocks odd even)
    ∙ ap (λ (some : List ℕ). xor (some ++ map without_clocks even)) (halves-masked Odd longs)
    ∙ ap (λ (some : List ℕ). xor (odd ++ some)) (halves-masked Even longs)
    ∙ fold-append bit_xor 0 odd even
    ∙ xor-start even (xor odd))

-- raw longs in a row
pub raw-none : (cells : List Bool) (place : ℕ) → xor (raw_longs cells place 0) ≡ 0
unfolding raw_longs
raw-none cells place = refl

pub raw-next : (cells : List Bool) (place count : ℕ)
    → xor (raw_longs cells place (count + 1)) ≡ bit_xor (xor (raw_longs cells place count)) (word cells (place + 32 * count) 32)
raw-next cells place count =
    ap xor (raw-last cells place count)
    ∙ xor-more (raw_longs cells place count) (word cells (place + 32 * count) 32)

-- longs in a row, as bytes
zip-more : (xs ys : List ℕ) (x y : ℕ) → length xs ≡ length ys
    → zip2 long_of_halves (xs ++ x ∷ []) (ys ++ y ∷ []) ≡ zip2 long_of_halves xs ys ++ long_of_halves x y ∷ []
zip-more [] [] x y size = refl
zip-more [] (b ∷ ys) x y size = absurd (omega (arith, size))
zip-more (a ∷ xs) [] x y size = absurd (omega (arith, size))
zip-more (a ∷ xs) (b ∷ ys) x y size = ap (λ (rest : List ℕ). long_of_halves a b ∷ rest) (zip-more xs ys x y (omega (arith, size)))

longs-more : (cells : List Bool) (place further count : ℕ)
    → longs_at cells place further (count + 1) ≡ longs_at cells place further count ++ long_at cells (place + 32 * count) further ∷ []
longs-more cells place further count =
    let odd = raw-last cells place count in
    let even = raw-last cells (place + further) count in
    let e : place + further + 32 * count ≡ place + 32 * count + further = omega arith in
    (λ i. zip2 long_of_halves (odd i) (even i))
    ∙ zip-more (raw_longs cells place count) (raw_longs cells (place + further) count) _ _
    (length-raw cells place count ∙ sym (length-raw cells (place + further) count))
    ∙ ap (λ (p : ℕ). longs_at cells place further count ++ long_of_halves (word cells (place + 32 * count) 32) (word cells p 32) ∷ []) e

pub bytes-none : (cells : List Bool) (place further : ℕ) → bytes_at cells place further 0 ≡ []
unfolding raw_longs
bytes-none cells place further = refl

pub bytes-next : (cells : List Bool) (place further count : ℕ)
    → bytes_at cells place further (count + 1) ≡ bytes_at cells place further count ++ to_be_bytes w32 (long_at cells (place + 32 * count) further)
bytes-next cells place further count =
    ap (flat_map (to_be_bytes w32)) (longs-more cells place further count)
    ∙ flat_map-append (to_be_bytes w32) (longs_at cells place further count) (long_at cells (place + 32 * count) further ∷ [])

-- bytes as longs, the first of them
longs-first : (bytes : List ℕ) → 4 ≤ length bytes
    → longs_of bytes
    ≡ from_be_bytes w32 (get_or bytes 0 0 ∷ get_or bytes 1 0 ∷ get_or bytes 2 0 ∷ get_or bytes 3 0 ∷ []) ∷ longs_of (drop 4 bytes)
unfolding longs_of
longs-first [] enough = absurd (omega arith)
longs-first (a ∷ []) enough = absurd (omega arith)
longs-first (a ∷ b ∷ []) enough = absurd (omega arith)
longs-first (a ∷ b ∷ c ∷ []) enough = absurd (omega arith)
longs-first (a ∷ b ∷ c ∷ d ∷ bytes) enough = refl

pub longs-next : (bytes : List ℕ) (index : ℕ) → 4 * index + 4 ≤ length bytes
    → longs_of (drop (4 * index) bytes)
    ≡ from_be_bytes w32 (get_or bytes (4 * index) 0 ∷ get_or bytes (4 * index + 1) 0 ∷ get_or bytes (4 * index + 2) 0 ∷ get_or bytes (4 * index + 3) 0 ∷ [])
    ∷ longs_of (drop (4 * (index + 1)) bytes)
longs-next bytes index within =
    let rest = drop (4 * index) bytes in
    let at = λ (k : ℕ). get_or-drop (4 * index) bytes k 0 in
    let first : get_or rest 0 0 ≡ get_or bytes (4 * index) 0 =
    at 0 ∙ ap (λ (n : ℕ). get_or bytes n 0) (let e : 4 * index + 0 ≡ 4 * index = omega arith in e) in
    let end : 4 * index + 4 ≡ 4 * (index + 1) = omega arith in
    longs-first rest (omega (arith, length-drop (4 * index) bytes, within))
    ∙ ap (λ (a : ℕ). from_be_bytes w32 (a ∷ get_or rest 1 0 ∷ get_or rest 2 0 ∷ get_or rest 3 0 ∷ []) ∷ longs_of (drop 4 rest)) first
    ∙ ap (λ (b : ℕ). from_be_bytes w32 (get_or bytes (4 * index) 0 ∷ b ∷ get_or rest 2 0 ∷ get_or rest 3 0 ∷ []) ∷ longs_of (drop 4 rest)) (at 1)
    ∙ ap (λ (c : ℕ). from_be_bytes w32 (get_or bytes (4 * index) 0 ∷ get_or bytes (4 * index + 1) 0 ∷ c ∷ get_or rest 3 0 ∷ []) ∷ longs_of (drop 4 rest)) (at 2)
    ∙ ap (λ (d : ℕ). from_be_bytes w32 (get_or bytes (4 * index) 0 ∷ get_or bytes (4 * index + 1) 0 ∷ get_or bytes (4 * index + 2) 0 ∷ d ∷ []) ∷ longs_of (drop 4 rest)) (at 3)
    ∙ ap (λ (more : List ℕ).
    from_be_bytes w32 (get_or bytes (4 * index) 0 ∷ get_or bytes (4 * index + 1) 0 ∷ get_or bytes (4 * index + 2) 0 ∷ get_or bytes (4 * index + 3) 0 ∷ [])
    ∷ longs_of more) (drop-drop 4 (4 * index) bytes ∙ ap (λ (n : ℕ). drop n bytes) end)

pub longs-none : (bytes : List ℕ) (count : ℕ) → length bytes < count + 4 → longs_of (drop count bytes) ≡ []
unfolding longs_of
longs-none [] zero within = refl
longs-none (a ∷ []) zero within = refl
longs-none (a ∷ b ∷ []) zero within = refl
longs-none (a ∷ b ∷ c ∷ []) zero within = refl
longs-none (a ∷ b ∷ c ∷ d ∷ bytes) zero within = absurd (omega arith)
longs-none [] (suc count) within = refl
longs-none (byte ∷ bytes) (suc count) within = longs-none bytes count (omega arith)
