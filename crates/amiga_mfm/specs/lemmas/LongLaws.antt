-- Longs read back where their halves are written.
use Rattle.std.specs.Prelude.{◌≡◌, ℕ, zero, suc, ◌+◌, ◌*◌, ◌/◌, ◌^◌, ◌<◌, Bool, List, [], ◌∷◌, ◌++◌}
use Rattle.std.specs.Prelude.{length, take, drop, map, refl}
use Rattle.std.specs.Simd.Lanes.{zip2}
use Rattle.std.proofs.Common.{ap, sym, ◌∙◌, arith, append_assoc}
use Rattle.std.proofs.lemmas.List.{length-map, map-append}
use Rattle.cell_bits.specs.Bytes.{data_byte, data_cells, mfm, mfm_cells}
use Rattle.cell_bits.specs.Word.{number_of, word, word_cells}
use Rattle.cell_bits.specs.lemmas.WordLaws.{length-word_cells, number_of-word_cells}
use Rattle.cell_bits.specs.lemmas.WordLaws.{word_cells-number_of}
use Rattle.track_rings.specs.lemmas.Parts.{word-past}
use Rattle.mfm_coding.specs.declared.symbol.Symbol.{Symbol}
use Rattle.mfm_coding.specs.declared.symbol.Symbol.TheVariants.{Data}
use Rattle.mfm_coding.specs.Coding.{coded, low_bit, symbol_cells}
use Rattle.mfm_coding.specs.lemmas.CodingLaws.{coded-append, last_bit, length-coded}
use Rattle.amiga_mfm.specs.declared.half.Half.TheVariants.{Odd, Even}
use Rattle.amiga_mfm.specs.Layout.{halves_symbols}
use Rattle.amiga_mfm.specs.Longs.{half_bytes, half_of, halves, long_at, long_of_halves, longs_at}
use Rattle.amiga_mfm.specs.Longs.{raw_longs, without_clocks}
use Rattle.amiga_mfm.specs.lemmas.Masks.{halves-joined, unclocked, with_zeros, without_clocks-cells}
use Rattle.amiga_mfm.specs.lemmas.Masks.{without_clocks-mod, without_clocks-twice}

-- numbers of 32 cells after a part of known length
raw-past : (xs ys : List Bool) (size offset count : ℕ) → length xs ≡ size
    → raw_longs (xs ++ ys) (size + offset) count ≡ raw_longs ys offset count
unfolding raw_longs
raw-past xs ys size offset zero is = refl
raw-past xs ys size offset (suc count) is =
    let e : size + offset + 32 ≡ size + (offset + 32) = omega arith in
    let first = word-past xs ys size offset 32 is in
    let rest = ap (λ (n : ℕ). raw_longs (xs ++ ys) n count) e
    ∙ raw-past xs ys size (offset + 32) count is in
    λ i. first i ∷ rest i

-- the cells of two bytes, and those of a half that has their bits
module _ (before between : Bool) (a b : ℕ) where
  length-two : length (mfm before a ++ mfm between b) ≡ 32
  unfolding mfm mfm_cells word_cells
  length-two = refl

  two_cells : (rest : List Bool) → (length (take 32 ((mfm before a ++ mfm between b) ++ rest)) ≡ 32)
      × (unclocked (take 32 ((mfm before a ++ mfm between b) ++ rest))
      ≡ with_zeros (word_cells 8 a ++ word_cells 8 b))
  unfolding mfm mfm_cells word_cells with_zeros
  two_cells rest = (refl, refl)

half_unclocked : (half : ℕ)
    → with_zeros (data_cells (word_cells 32 half)) ≡ unclocked (word_cells 32 half)
unfolding word_cells data_cells with_zeros
half_unclocked half = refl

half_bits : (half : ℕ)
    → word_cells 8 (data_byte (word_cells 32 half) 0)
    ++ word_cells 8 (data_byte (word_cells 32 half) 16)
    ≡ data_cells (word_cells 32 half)
unfolding data_byte word_cells data_cells
half_bits half =
    let first = word_cells-number_of (take 8 (data_cells (word_cells 32 half))) in
    let second = word_cells-number_of (drop 8 (data_cells (word_cells 32 half))) in
    λ i. first i ++ second i

-- a half reads back from the first 32 of its cells
half_reads : (before between : Bool) (half : ℕ) (rest : List Bool)
    → without_clocks
    (word
    ((mfm before (data_byte (word_cells 32 half) 0)
    ++ mfm between (data_byte (word_cells 32 half) 16))
    ++ rest) 0 32)
    ≡ without_clocks half
unfolding word
half_reads before between half rest =
    let a = data_byte (word_cells 32 half) 0 in
    let b = data_byte (word_cells 32 half) 16 in
    let two = two_cells before between a b rest in
    without_clocks-cells (take 32 ((mfm before a ++ mfm between b) ++ rest)) two.0
    ∙ ap number_of (two.1 ∙ ap with_zeros (half_bits half) ∙ half_unclocked half)
    ∙ sym (without_clocks-cells (word_cells 32 half) (length-word_cells 32 half))
    ∙ ap without_clocks (number_of-word_cells 32 half) ∙ without_clocks-mod half

-- halves read back, one after another
regroup : (a b c d : List Bool) → (a ++ (b ++ c)) ++ d ≡ (a ++ b) ++ (c ++ d)
regroup a b c d = simp append_assoc

halves-read : (before : Bool) (some : List ℕ) (after : List Symbol) (rest : List Bool)
    → map without_clocks
    (raw_longs (coded before (halves_symbols some ++ after) ++ rest) 0 (length some))
    ≡ map without_clocks some
unfolding raw_longs half_bytes coded symbol_cells
halves-read before [] after rest = refl
halves-read before (half ∷ some) after rest =
    let a = data_byte (word_cells 32 half) 0 in
    let b = data_byte (word_cells 32 half) 16 in
    let bit = low_bit (Data a) in
    let more = coded (low_bit (Data b)) (halves_symbols some ++ after) in
    let first = half_reads before bit half (more ++ rest) in
    let others =
    ap (map without_clocks)
    (raw-past (mfm before a ++ mfm bit b) (more ++ rest) 32 0 (length some)
    (length-two before bit a b))
    ∙ halves-read (low_bit (Data b)) some after rest in
    ap (λ (cells : List Bool). map without_clocks (raw_longs cells 0 (suc (length some))))
    (regroup (mfm before a) (mfm bit b) more rest)
    ∙ (λ i. first i ∷ others i)

-- also after other symbols
pub halves-after : (before : Bool) (others : List Symbol) (some : List ℕ) (after : List Symbol)
    (rest : List Bool)
    → map without_clocks
    (raw_longs (coded before (others ++ (halves_symbols some ++ after)) ++ rest)
    (16 * length others) (length some))
    ≡ map without_clocks some
halves-after before others some after rest =
    let bit = last_bit before others in
    let then = halves_symbols some ++ after in
    let cells = ap (λ (all : List Bool). all ++ rest) (coded-append before others then)
    ∙ append_assoc (coded before others) (coded bit then) rest in
    let e : 16 * length others ≡ 16 * length others + 0 = omega arith in
    (λ i. map without_clocks (raw_longs (cells i) (e i) (length some)))
    ∙ ap (map without_clocks)
    (raw-past (coded before others) (coded bit then ++ rest) (16 * length others) 0
    (length some) (length-coded before others))
    ∙ halves-read bit some after rest

-- a long whose halves read back
pub long-joined : (long : ℕ) → long < 2 ^ 32
    → long_of_halves (half_of Odd long) (half_of Even long) ≡ long
long-joined long fits =
    let odd = without_clocks-twice (long / 2) in
    let even = without_clocks-twice long in
    (λ i. 2 * odd i + even i) ∙ halves-joined long fits

-- one long, its halves side by side
pub long-reads : (cells : List Bool) (place long : ℕ) → long < 2 ^ 32
    → map without_clocks (raw_longs cells place 2) ≡ map without_clocks (halves (long ∷ []))
    → long_at cells place 32 ≡ long
unfolding raw_longs
long-reads cells place long fits same =
    let odd : without_clocks (word cells place 32) ≡ without_clocks (half_of Odd long) = cc in
    let even : without_clocks (word cells (place + 32) 32) ≡ without_clocks (half_of Even long) =
    cc in
    (λ i. 2 * odd i + even i) ∙ long-joined long fits

-- longs do not ask for the clock cells of their halves
masked-longs : (odd even : List ℕ)
    → zip2 long_of_halves odd even
    ≡ zip2 (λ x y. 2 * x + y) (map without_clocks odd) (map without_clocks even)
masked-longs [] even = refl
masked-longs (x ∷ odd) [] = refl
masked-longs (x ∷ odd) (y ∷ even) =
    ap (λ (longs : List ℕ). long_of_halves x y ∷ longs) (masked-longs odd even)

pub length-raw : (cells : List Bool) (place count : ℕ)
    → length (raw_longs cells place count) ≡ count
unfolding raw_longs
length-raw cells place zero = refl
length-raw cells place (suc count) = ap suc (length-raw cells (place + 32) count)

-- halves in a row, and then more of them
pub raw-append : (cells : List Bool) (place first then : ℕ)
    → raw_longs cells place (first + then)
    ≡ raw_longs cells place first ++ raw_longs cells (place + 32 * first)
    then
unfolding raw_longs
raw-append cells place zero then =
    let e : place ≡ place + 32 * 0 = omega arith in
    let n : 0 + then ≡ then = omega arith in
    λ i. raw_longs cells (e i) (n i)
raw-append cells place (suc first) then =
    let e : place + 32 + 32 * first ≡ place + 32 * suc first = omega arith in
    let n : suc first + then ≡ suc (first + then) = omega arith in
    ap (raw_longs cells place) n
    ∙ ap (λ (rest : List ℕ). word cells place 32 ∷ rest)
    (raw-append cells (place + 32) first
    then ∙ ap (λ (p : ℕ). raw_longs cells (place + 32) first ++ raw_longs cells p then) e)

pub raw-last : (cells : List Bool) (place count : ℕ)
    → raw_longs cells place (count + 1)
    ≡ raw_longs cells place count ++ word cells (place + 32 * count) 32 ∷ []
unfolding raw_longs
raw-last cells place count = raw-append cells place count 1

apart : (xs ys us vs : List ℕ) → length xs ≡ length us → xs ++ ys ≡ us ++ vs → (xs ≡ us) × (ys ≡ vs)
apart [] ys [] vs size same = (refl, same)
apart [] ys (u ∷ us) vs size same = absurd (omega (arith, size))
apart (x ∷ xs) ys [] vs size same = absurd (omega (arith, size))
apart (x ∷ xs) ys (u ∷ us) vs size same =
    let rest = apart xs ys us vs (omega (arith, size)) (cc) in
    let first : x ≡ u = cc in
    ((λ i. first i ∷ rest.0 i), rest.1)

-- as many odd halves as even ones in a row give these longs
pub longs-read : (cells : List Bool) (place count : ℕ) (odd even : List ℕ) → length odd ≡ count
    → map without_clocks (raw_longs cells place (count + count)) ≡ map without_clocks (odd ++ even)
    → longs_at cells place (32 * count) count ≡ zip2 long_of_halves odd even
longs-read cells place count odd even size same =
    let first = raw_longs cells place count in
    let then = raw_longs cells (place + 32 * count) count in
    let halves_same = apart (map without_clocks first) (map without_clocks then)
    (map without_clocks odd) (map without_clocks even)
    (length-map first without_clocks ∙ length-raw cells place count
    ∙ sym (length-map odd without_clocks ∙ size))
    (sym
    (ap (map without_clocks) (raw-append cells place count count)
    ∙ map-append without_clocks first then)
    ∙ same ∙ map-append without_clocks odd even) in
    masked-longs first
    then ∙ (λ i. zip2 (λ x y. 2 * x + y) (halves_same.0 i) (halves_same.1 i))
    ∙ sym (masked-longs odd even)
