-- Cells as bytes, and bytes as cells.
use Rattle.std.specs.Prelude.{◌≡◌, ◌≤◌, ◌<◌, ℕ, zero, suc, ◌+◌, ◌*◌, ◌/◌, Bool, List, [], ◌∷◌, ◌++◌, length, map, take, drop, flat_map, get_or, refl}
use Rattle.std.specs.List.{range_with_len}
use Rattle.std.proofs.Common.{ap, sym, ◌∙◌, arith, append_assoc, append-nil, length-append, length-drop}
use Rattle.std.proofs.lemmas.List.{drop-drop, drop_all, length-take-le, take-append-drop}
use Rattle.std.proofs.lemmas.List.Concat.{flat_map-append}
use Rattle.std.proofs.lemmas.List.FromFn.{map-range_with_len_more}
use Rattle.std.proofs.Math.Seq.{take-suc}
use Rattle.cell_bits.specs.Word.{number_of, word, word_cells}
use Rattle.cell_bits.specs.lemmas.WordLaws.{length-word_cells, number_of-lt, word_cells-number_of}
use Rattle.g64_image.specs.Layout.{bytes_of_cells, cells_of_bytes}

length-take-most : (n : ℕ) (xs : List Bool) → length (take n xs) ≤ n
length-take-most zero xs = omega arith
length-take-most (suc n) [] = omega arith
length-take-most (suc n) (x ∷ xs) = let less = length-take-most n xs in omega (arith, less)

number-less : (xs : List Bool) → length xs ≤ 8 → number_of xs < 256
number-less [] few = let low = number_of-lt [] in omega (arith, low)
number-less (a ∷ []) few = let low = number_of-lt (a ∷ []) in omega (arith, low)
number-less (a ∷ b ∷ []) few = let low = number_of-lt (a ∷ b ∷ []) in omega (arith, low)
number-less (a ∷ b ∷ c ∷ []) few = let low = number_of-lt (a ∷ b ∷ c ∷ []) in omega (arith, low)
number-less (a ∷ b ∷ c ∷ d ∷ []) few = let low = number_of-lt (a ∷ b ∷ c ∷ d ∷ []) in omega (arith, low)
number-less (a ∷ b ∷ c ∷ d ∷ e ∷ []) few = let low = number_of-lt (a ∷ b ∷ c ∷ d ∷ e ∷ []) in omega (arith, low)
number-less (a ∷ b ∷ c ∷ d ∷ e ∷ f ∷ []) few = let low = number_of-lt (a ∷ b ∷ c ∷ d ∷ e ∷ f ∷ []) in omega (arith, low)
number-less (a ∷ b ∷ c ∷ d ∷ e ∷ f ∷ g ∷ []) few = let low = number_of-lt (a ∷ b ∷ c ∷ d ∷ e ∷ f ∷ g ∷ []) in omega (arith, low)
number-less (a ∷ b ∷ c ∷ d ∷ e ∷ f ∷ g ∷ h ∷ []) few = let low = number_of-lt (a ∷ b ∷ c ∷ d ∷ e ∷ f ∷ g ∷ h ∷ []) in omega (arith, low)
number-less (a ∷ b ∷ c ∷ d ∷ e ∷ f ∷ g ∷ h ∷ i ∷ more) few = absurd (omega (arith, few))

-- eight cells are a byte
pub word-byte : (cells : List Bool) (place : ℕ) → word cells place 8 < 256
unfolding word
word-byte cells place = number-less (take 8 (drop place cells)) (length-take-most 8 (drop place cells))

-- one byte more of the cells
pub cells_more : (cells : List Bool) (old items : List ℕ) (byte index : ℕ)
    → items ≡ old ++ map (λ i. word cells (8 * i) 8) (range_with_len 0 index) → byte ≡ word cells (8 * index) 8
    → items ++ byte ∷ [] ≡ old ++ map (λ i. word cells (8 * i) 8) (range_with_len 0 (index + 1))
cells_more cells old items byte index before is =
    let f : ℕ → ℕ = λ (i : ℕ). word cells (8 * i) 8 in
    let done : List ℕ = map f (range_with_len 0 index) in
    let at : 0 + index ≡ index = omega arith in
    ap (λ (xs : List ℕ). xs ++ byte ∷ []) before ∙ ap (λ (b : ℕ). (old ++ done) ++ b ∷ []) is
    ∙ append_assoc old done (f index ∷ [])
    ∙ ap (λ (xs : List ℕ). old ++ xs) (sym (map-range_with_len_more f 0 index index at))

pub no_cells : (old : List Bool) → old ≡ old ++ cells_of_bytes []
unfolding cells_of_bytes
no_cells old = sym (append-nil old)

-- the cells of one byte more
pub bytes_more : (bytes : List ℕ) (old cells now : List Bool) (byte index : ℕ) → index < length bytes → byte ≡ get_or bytes index 0
    → cells ≡ old ++ cells_of_bytes (take index bytes) → now ≡ cells ++ word_cells 8 byte → now ≡ old ++ cells_of_bytes (take (index + 1) bytes)
unfolding cells_of_bytes
bytes_more bytes old cells now byte index low is before pushed =
    let f : ℕ → List Bool = word_cells 8 in
    let done : List Bool = flat_map f (take index bytes) in
    let one : index + 1 ≡ suc index = omega arith in
    let all : flat_map f (take (index + 1) bytes) ≡ done ++ f (get_or bytes index 0) =
    ap (λ (n : ℕ). flat_map f (take n bytes)) one ∙ ap (flat_map f) (take-suc bytes index 0 low)
    ∙ flat_map-append f (take index bytes) (get_or bytes index 0 ∷ [])
    ∙ ap (λ (xs : List Bool). done ++ xs) (append-nil (f (get_or bytes index 0))) in
    pushed ∙ ap (λ (xs : List Bool). xs ++ f byte) before ∙ ap (λ (b : ℕ). (old ++ done) ++ f b) is
    ∙ append_assoc old done (f (get_or bytes index 0)) ∙ ap (λ (xs : List Bool). old ++ xs) (sym all)

pub length-cells_of_bytes : (bytes : List ℕ) → length (cells_of_bytes bytes) ≡ 8 * length bytes
unfolding cells_of_bytes
length-cells_of_bytes [] = refl
length-cells_of_bytes (byte ∷ bytes) =
    let both = length-append (word_cells 8 byte) (flat_map (word_cells 8) bytes) in
    omega (arith, both, length-word_cells 8 byte, length-cells_of_bytes bytes)

-- the cells of the bytes of a ring, from a byte's place on
cells-from : (ring : List Bool) (from count : ℕ) → length ring ≡ 8 * (from + count)
    → flat_map (word_cells 8) (map (λ i. word ring (8 * i) 8) (range_with_len from count)) ≡ drop (8 * from) ring
unfolding word
cells-from ring from zero whole = sym (drop_all (8 * from) ring (omega (arith, whole)))
cells-from ring from (suc count) whole =
    let here : List Bool = drop (8 * from) ring in
    let later : List Bool = flat_map (word_cells 8) (map (λ i. word ring (8 * i) 8) (range_with_len (from + 1) count)) in
    let size : length here ≡ 8 * suc count = omega (arith, whole, length-drop (8 * from) ring) in
    let eight : length (take 8 here) ≡ 8 = length-take-le 8 here (omega (arith, size)) in
    let first : word_cells 8 (number_of (take 8 here)) ≡ take 8 here =
    ap (λ (n : ℕ). word_cells n (number_of (take 8 here))) (sym eight) ∙ word_cells-number_of (take 8 here) in
    let next : 8 * from + 8 ≡ 8 * (from + 1) = omega arith in
    let rest : later ≡ drop 8 here =
    cells-from ring (from + 1) count (omega (arith, whole)) ∙ sym (drop-drop 8 (8 * from) ring ∙ ap (λ (n : ℕ). drop n ring) next) in
    ap (λ (xs : List Bool). xs ++ later) first ∙ ap (λ (xs : List Bool). take 8 here ++ xs) rest ∙ take-append-drop 8 here

-- a ring of whole bytes comes back from its bytes
pub cells-back : (ring : List Bool) → length ring ≡ 8 * (length ring / 8) → cells_of_bytes (bytes_of_cells ring) ≡ ring
unfolding cells_of_bytes bytes_of_cells
cells-back ring whole =
    let all : length ring ≡ 8 * (0 + length ring / 8) = omega (arith, whole) in
    let none : 8 * 0 ≡ 0 = omega arith in
    cells-from ring 0 (length ring / 8) all ∙ ap (λ (n : ℕ). drop n ring) none
