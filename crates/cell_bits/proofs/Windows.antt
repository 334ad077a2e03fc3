-- What a window of 64 cells says of the list.
use Rattle.std.proofs.Common.{◌≡◌, ℕ, zero, suc, ◌+◌, ◌-◌, ◌*◌, ◌/◌, ◌%◌, ◌^◌, ◌<◌, ◌≤◌, Bool, false, cond, List, ◌∷◌, length, take, drop, get_or, sym, ap, ◌∙◌, subst, arith, length-take-le, length-drop, get_or-take, get_or-drop, ext_get_or, take-add, drop-drop, mod-eq_of_lt, lt_of_lt_of_le, length-take, lit≤, lit<, bit_and}
use Rattle.std.specs.Int.{bit_at}
use Rattle.std.specs.Int.Count.{ones as count_of, ones-ones}
use Rattle.std.proofs.lemmas.Nat.{and_mask, pow_pos, shr_below, mod-pow-add, ones_cat}
use Rattle.std.proofs.lemmas.List.Sums.{sum_by-append, sum_by-cons, count_by-le-length}
use Rattle.std.proofs.lemmas.Nat.Bits.{bit_at-lt}
use Rattle.std.proofs.Math.Nat.{pow-le-pow_right}
use Rattle.cell_bits.specs.Word.{digit, word_cells, number_of, word}
use Rattle.cell_bits.specs.lemmas.WordLaws.{digit-number, length-word_cells, get_or-word_cells, number_of-word_cells}
use Rattle.cell_bits.specs.Bytes.{data_byte, data_cells}
use Rattle.cell_bits.specs.Ones.{ones, ones_from_to}
use Rattle.cell_bits.specs.inside.Window.{IsWindow}
use Rattle.cell_bits.proofs.Joining.{digit-mod, digit-shr}

-- the first cells of a window are those cells of the list
pub window-cells : (cells : List Bool) (place block count : ℕ) → IsWindow cells place block → count ≤ 64 → place + count ≤ length cells
    → take count (drop place cells) ≡ word_cells count (block / 2 ^ (64 - count))
window-cells cells place block count shown few within =
    let long : length (take count (drop place cells)) ≡ count = length-take-le count (drop place cells) (omega (arith, length-drop place cells)) in
    ext_get_or false (take count (drop place cells)) (word_cells count (block / 2 ^ (64 - count))) (long ∙ sym (length-word_cells count (block / 2 ^ (64 - count))))
    (λ k low. let below : k < count = omega (arith, long) in each k below)
  where
    each : (k : ℕ) → k < count → get_or (take count (drop place cells)) k false ≡ get_or (word_cells count (block / 2 ^ (64 - count))) k false
    each k below =
        let at : 64 - count + (count - 1 - k) ≡ 63 - k = omega arith in
        get_or-take count (drop place cells) k false below ∙ get_or-drop place cells k false ∙ sym (shown k (omega arith)) ∙ ap (digit block) (sym at)
        ∙ sym (digit-shr block (64 - count) (count - 1 - k)) ∙ sym (get_or-word_cells count (block / 2 ^ (64 - count)) k below)

pub word-is : (cells : List Bool) (place block count : ℕ) → IsWindow cells place block → block < 2 ^ 64 → count ≤ 64 → place + count ≤ length cells
    → block / 2 ^ (64 - count) ≡ word cells place count
unfolding word
word-is cells place block count shown fits few within =
    let parts : count + (64 - count) ≡ 64 = omega arith in
    let small : block / 2 ^ (64 - count) < 2 ^ count = shr_below block count (64 - count) (subst (λ n. block < 2 ^ n) (sym parts) fits) in
    sym (ap number_of (window-cells cells place block count shown few within) ∙ number_of-word_cells count (block / 2 ^ (64 - count)) ∙ mod-eq_of_lt small)

pub data_byte-is : (cells : List Bool) (place block : ℕ) → IsWindow cells place block → place + 16 ≤ length cells
    → number_of (data_cells (word_cells 16 (block / 2 ^ 48))) ≡ data_byte cells place
unfolding data_byte
data_byte-is cells place block shown within =
    ap (λ list. number_of (data_cells list)) (sym (window-cells cells place block 16 shown (lit≤ tt) within))

-- a quarter of a window, from the cell so many places on
quarter-cells : (cells : List Bool) (place block skip : ℕ) → IsWindow cells place block → skip ≤ 48 → place + skip + 16 ≤ length cells
    → take 16 (drop (place + skip) cells) ≡ word_cells 16 (bit_and (block / 2 ^ (48 - skip)) 65535)
quarter-cells cells place block skip shown near within =
    let low : ℕ = bit_and (block / 2 ^ (48 - skip)) 65535 in
    let long : length (take 16 (drop (place + skip) cells)) ≡ 16 = length-take-le 16 (drop (place + skip) cells) (omega (arith, length-drop (place + skip) cells)) in
    ext_get_or false (take 16 (drop (place + skip) cells)) (word_cells 16 low) (long ∙ sym (length-word_cells 16 low))
    (λ k small. each k (omega (arith, long)))
  where
    each : (k : ℕ) → k < 16 → get_or (take 16 (drop (place + skip) cells)) k false ≡ get_or (word_cells 16 (bit_and (block / 2 ^ (48 - skip)) 65535)) k false
    each k below =
        let at : 48 - skip + (15 - k) ≡ 63 - (skip + k) = omega arith in
        let there : place + (skip + k) ≡ place + skip + k = omega arith in
        get_or-take 16 (drop (place + skip) cells) k false below ∙ get_or-drop (place + skip) cells k false
        ∙ ap (λ n. get_or cells n false) (sym there) ∙ sym (shown (skip + k) (omega arith)) ∙ ap (digit block) (sym at)
        ∙ sym (digit-shr block (48 - skip) (15 - k)) ∙ sym (digit-mod (block / 2 ^ (48 - skip)) 16 (15 - k) (omega arith))
        ∙ ap (λ n. digit n (15 - k)) (sym (and_mask (block / 2 ^ (48 - skip)) 16))
        ∙ sym (get_or-word_cells 16 (bit_and (block / 2 ^ (48 - skip)) 65535) k below)

pub quarter_byte-is : (cells : List Bool) (place block skip : ℕ) → IsWindow cells place block → skip ≤ 48 → place + skip + 16 ≤ length cells
    → number_of (data_cells (word_cells 16 (bit_and (block / 2 ^ (48 - skip)) 65535))) ≡ data_byte cells (place + skip)
unfolding data_byte
quarter_byte-is cells place block skip shown near within =
    ap (λ list. number_of (data_cells list)) (sym (quarter-cells cells place block skip shown near within))

-- a word of at most 32 cells
pub word-lt : (block count : ℕ) → block < 2 ^ 64 → count ≤ 32 → block / 2 ^ (64 - count) < 2 ^ 32
word-lt block count fits few =
    let parts : count + (64 - count) ≡ 64 = omega arith in
    lt_of_lt_of_le (shr_below block count (64 - count) (subst (λ n. block < 2 ^ n) (sym parts) fits)) (pow-le-pow_right {n = 2} (lit< tt) {i = count} {j = 32} few)

-- the ones of a number of so many digits
bit-ones : (bit : ℕ) → bit < 2 → count_of bit ≡ bit
bit-ones zero low = ones-ones 0
bit-ones (suc zero) low = ones-ones 1
bit-ones (suc (suc bit)) low = absurd (omega arith)

ones-word_cells : (count value : ℕ) → ones (word_cells count value) ≡ count_of (value % 2 ^ count)
unfolding word_cells
ones-word_cells zero value = let none : 0 ≡ value % 1 = omega arith in sym (ones-ones 0) ∙ ap count_of none
ones-word_cells (suc count) value =
    let e : 1 + count ≡ suc count = omega arith in
    let bit : ℕ = bit_at value count in
    let split : value % 2 ^ suc count ≡ bit * 2 ^ count + value % 2 ^ count = ap (λ k. value % 2 ^ k) (sym e) ∙ mod-pow-add value 1 count in
    let digits : count_of (value % 2 ^ suc count) ≡ bit + count_of (value % 2 ^ count) =
    ap count_of split ∙ ones_cat count bit (value % 2 ^ count) (omega (arith, pow_pos count)) ∙ ap (λ n. n + count_of (value % 2 ^ count)) (bit-ones bit (bit_at-lt value count)) in
    let first : ones (digit value count ∷ word_cells count value) ≡ cond (digit value count) 1 0 + ones (word_cells count value) =
    sum_by-cons (λ c. cond c 1 0) (digit value count) (word_cells count value) in
    first ∙ ap (λ n. n + ones (word_cells count value)) (digit-number value count) ∙ ap (λ n. bit + n) (ones-word_cells count value) ∙ sym digits

-- the ones of a stretch, and of as many cells of a window after it
pub ones-more : (cells : List Bool) (from place block count total : ℕ) → from ≤ place → total ≡ ones_from_to cells from place
    → IsWindow cells place block → block < 2 ^ 64 → count ≤ 64 → place + count ≤ length cells
    → total + count_of (block / 2 ^ (64 - count)) ≡ ones_from_to cells from (place + count)
ones-more cells from place block count total order so_far shown fits few within =
    let parts : count + (64 - count) ≡ 64 = omega arith in
    let small : block / 2 ^ (64 - count) < 2 ^ count = shr_below block count (64 - count) (subst (λ n. block < 2 ^ n) (sym parts) fits) in
    let here : count_of (block / 2 ^ (64 - count)) ≡ ones (take count (drop place cells)) =
    ap count_of (whole (block / 2 ^ (64 - count)) count small) ∙ sym (ones-word_cells count (block / 2 ^ (64 - count))) ∙ ap ones (sym (window-cells cells place block count shown few within)) in
    let rest : drop (place - from) (drop from cells) ≡ drop place cells = drop-drop (place - from) from cells ∙ ap (λ n. drop n cells) (back from place order) in
    let long : place + count - from ≡ place - from + count = omega arith in
    let both : ones_from_to cells from (place + count) ≡ ones_from_to cells from place + ones (take count (drop place cells)) =
    ap (λ n. ones (take n (drop from cells))) long ∙ ap ones (take-add (place - from) count (drop from cells))
    ∙ sum_by-append (λ c. cond c 1 0) (take (place - from) (drop from cells)) (take count (drop (place - from) (drop from cells)))
    ∙ ap (λ list. ones_from_to cells from place + ones (take count list)) rest in
    ap (λ n. n + count_of (block / 2 ^ (64 - count))) so_far ∙ ap (λ n. ones_from_to cells from place + n) here ∙ sym both
  where
    whole : (v n : ℕ) → v < 2 ^ n → v ≡ v % 2 ^ n
    whole v n low = sym (mod-eq_of_lt low)

    back : (a b : ℕ) → a ≤ b → a + (b - a) ≡ b
    back a b order = omega arith

pub ones-bound : (cells : List Bool) (from to : ℕ) → ones_from_to cells from to ≤ to - from
ones-bound cells from to = omega (arith, count_by-le-length (λ cell. cell) (take (to - from) (drop from cells)), length-take (to - from) (drop from cells))

-- the ones before a place, and those from there to another
pub ones-walk : (cells : List Bool) (from to : ℕ) → from ≤ to → ones (take from cells) + ones_from_to cells from to ≡ ones (take to cells)
ones-walk cells from to order =
    let long : from + (to - from) ≡ to = omega arith in
    sym (ap (λ n. ones (take n cells)) (sym long) ∙ ap ones (take-add from (to - from) cells) ∙ sum_by-append (λ c. cond c 1 0) (take from cells) (take (to - from) (drop from cells)))
