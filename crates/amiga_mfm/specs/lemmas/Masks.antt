-- Numbers of cells without their clock cells.
use Rattle.std.specs.Prelude.{◌≡◌, ℕ, zero, suc, ◌+◌, ◌*◌, ◌/◌, ◌%◌, ◌^◌, ◌<◌, Bool, true, false}
use Rattle.std.specs.Prelude.{cond, ◌&&◌, List, [], ◌∷◌, length, min, refl, replicate, bit_and}
use Rattle.std.specs.Prelude.{bit_xor, fold, map}
use Rattle.std.specs.Int.{bit_at}
use Rattle.std.specs.Int.Bits.{and_block, and_self, and_step}
use Rattle.std.specs.Simd.Lanes.{zip2}
use Rattle.std.proofs.Common.{ap, sym, subst, ◌∙◌, arith, lit<, mod-eq_of_lt}
use Rattle.std.proofs.Math.Nat.{min-eq_left, min-zero, zero-min}
use Rattle.std.proofs.lemmas.Nat.{and-not, and_assoc, and_comm, and_le_r, and_mod}
use Rattle.std.proofs.lemmas.Nat.Bits.{bit_at-lt, bit_at_and, bit_at_xor, same_from_bits}
use Rattle.check_values.specs.Sums.{data_xor, xor}
use Rattle.cell_bits.specs.Word.{number_of}
use Rattle.cell_bits.specs.lemmas.WordLaws.{number_of-lt}
use Rattle.amiga_mfm.specs.Longs.{DATA_CELLS, without_clocks, half_of}
use Rattle.amiga_mfm.specs.declared.half.Half.TheVariants.{Odd, Even}

masked_digit : (cell mask : Bool)
    → bit_and (cond cell 1 0) (cond mask 1 0) ≡ cond (mask && cell) 1 0
masked_digit true true = refl
masked_digit true false = refl
masked_digit false true = refl
masked_digit false false = refl

-- a mask leaves of cells those where it has ones
masked-cells : (cells mask : List Bool) → length cells ≡ length mask
    → (bit_and (number_of cells) (number_of mask)
    ≡ number_of (zip2 (λ cell one. one && cell) cells mask))
    × (length (zip2 (λ (cell one : Bool). one && cell) cells mask) ≡ length mask)
unfolding number_of
masked-cells [] [] size = (refl, refl)
masked-cells [] (one ∷ mask) size = absurd (omega (arith, size))
masked-cells (cell ∷ cells) [] size = absurd (omega (arith, size))
masked-cells (cell ∷ cells) (one ∷ mask) size =
    let k = length mask in
    let same : length cells ≡ k = omega (arith, size) in
    let rest = masked-cells cells mask same in
    let low : number_of cells < 2 ^ k =
    subst (λ (n : ℕ). number_of cells < 2 ^ n) same (number_of-lt cells) in (
      ap
          (λ (n : ℕ).
          bit_and (cond cell 1 0 * 2 ^ n + number_of cells) (cond one 1 0 * 2 ^ k + number_of mask))
          same
          ∙ and_block k (cond cell 1 0) (cond one 1 0) (number_of cells) (number_of mask) low
          (number_of-lt mask)
          ∙ (λ i. masked_digit cell one i * 2 ^ k + rest.0 i)
          ∙ ap
          (λ (n : ℕ).
          cond (one && cell) 1 0 * 2 ^ n + number_of (zip2 (λ c m. m && c) cells mask))
          (sym rest.1),
      ap suc rest.1,
    )

-- data bits with zeros as clock cells
unfoldable pub with_zeros : List Bool → List Bool
with_zeros [] = []
with_zeros (bit ∷ bits) = false ∷ bit ∷ with_zeros bits

-- every second one of 32 cells, the last among them
abbrev data_mask : List Bool
data_mask = with_zeros (replicate 16 true)

mask-is : number_of data_mask ≡ DATA_CELLS
unfolding number_of with_zeros
mask-is = refl

-- so it leaves their data cells
abbrev pub unclocked : List Bool → List Bool
unclocked cells = zip2 (λ cell one. one && cell) cells data_mask

pub without_clocks-cells : (cells : List Bool) → length cells ≡ 32
    → without_clocks (number_of cells) ≡ number_of (unclocked cells)
unfolding with_zeros
without_clocks-cells cells size =
    ap (bit_and (number_of cells)) (sym mask-is) ∙ (masked-cells cells data_mask size).0

-- they have 32 bits
pub without_clocks-lt : (raw : ℕ) → without_clocks raw < 2 ^ 32
without_clocks-lt raw = omega (arith, and_le_r raw DATA_CELLS)

pub without_clocks-mod : (raw : ℕ) → without_clocks (raw % 2 ^ 32) ≡ without_clocks raw
without_clocks-mod raw = sym (and_mod raw DATA_CELLS 32) ∙ mod-eq_of_lt (without_clocks-lt raw)

pub without_clocks-twice : (raw : ℕ) → without_clocks (without_clocks raw) ≡ without_clocks raw
without_clocks-twice raw =
    and_assoc DATA_CELLS raw DATA_CELLS ∙ ap (bit_and raw) (and_self DATA_CELLS)

-- the two halves of a long give it back
pub halves-joined : (long : ℕ) → long < 2 ^ 32 → 2 * half_of Odd long + half_of Even long ≡ long
halves-joined long fits =
    let odd = and_step 0xAAAAAAAA long in
    let both = and-not 32 0x55555555 long (lit< tt) fits in
    let last : bit_and 0x55555555 long ≡ half_of Even long = and_comm 0x55555555 long in
    let first : bit_and 0x55555555 (long / 2) ≡ half_of Odd long = and_comm 0x55555555 (long / 2) in
    omega (arith, odd, both, last, first, zero-min (long % 2))

digits-apart : (a b m : ℕ) → a < 2 → b < 2 → m < 2 → min ((a + b) % 2) m ≡ (min a m + min b m) % 2
digits-apart a b zero p q r = min-zero ((a + b) % 2) ∙ sym (λ i. (min-zero a i + min-zero b i) % 2)
digits-apart a b (suc zero) p q r =
    let one : (n : ℕ) → n < 2 → min n 1 ≡ n = λ n low. min-eq_left (omega arith) in
    one ((a + b) % 2) (omega arith) ∙ sym (λ i. (one a p i + one b q i) % 2)
digits-apart a b (suc (suc m)) p q r = absurd (omega arith)

pub masked-xor : (a b : ℕ)
    → without_clocks (bit_xor a b) ≡ bit_xor (without_clocks a) (without_clocks b)
masked-xor a b =
    same_from_bits (without_clocks (bit_xor a b)) (bit_xor (without_clocks a) (without_clocks b))
    (λ i.
    let m = bit_at DATA_CELLS i in
    let x = bit_at_and a DATA_CELLS i in
    let y = bit_at_and b DATA_CELLS i in
    bit_at_and (bit_xor a b) DATA_CELLS i ∙ ap (λ (n : ℕ). min n m) (bit_at_xor a b i)
    ∙ digits-apart (bit_at a i) (bit_at b i) m (bit_at-lt a i) (bit_at-lt b i)
    (bit_at-lt DATA_CELLS i)
    ∙ sym (bit_at_xor (without_clocks a) (without_clocks b) i ∙ (λ j. (x j + y j) % 2)))

xor-from : (longs : List ℕ) (start : ℕ)
    → without_clocks (fold bit_xor start longs)
    ≡ fold bit_xor (without_clocks start) (map without_clocks longs)
xor-from [] start = refl
xor-from (long ∷ longs) start =
    xor-from longs (bit_xor start long)
    ∙ ap (λ (n : ℕ). fold bit_xor n (map without_clocks longs)) (masked-xor start long)

-- the check value does not ask for clock cells
pub check-masked : (longs : List ℕ) → data_xor longs ≡ xor (map without_clocks longs)
check-masked longs = xor-from longs 0

pub check-same : (xs ys : List ℕ) → map without_clocks xs ≡ map without_clocks ys
    → data_xor xs ≡ data_xor ys
check-same xs ys same = check-masked xs ∙ ap xor same ∙ sym (check-masked ys)
