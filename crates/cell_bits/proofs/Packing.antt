-- Where a cell of the list lies in the words that hold it.
use Rattle.std.proofs.Common.{◌≡◌, ℕ, ◌+◌, ◌-◌, ◌*◌, ◌%◌, ◌^◌, ◌<◌, ◌≤◌, min, Bool, false, ◌==◌, List, [], ◌∷◌, ◌++◌, length, take, drop, get_or, refl, sym, ap, ◌∙◌, subst, arith, append_assoc, length-append, length-take-le, ◌⊎◌, inl, inr}
use Rattle.std.specs.List.{flat_map}
use Rattle.std.proofs.lemmas.Nat.{shl_whole, pow_pos}
use Rattle.std.proofs.lemmas.Bool.{cases_lt}
use Rattle.std.proofs.lemmas.Nat.Bits.{bit_at-zero, bit_at_cat_low, bit_at_cat_high}
use Rattle.std.proofs.lemmas.List.{get_or_append_left, get_or-append_right, get_or_past, take-append-drop}
use Rattle.std.proofs.Math.Seq.{take-append_seam}
use Rattle.std.proofs.lemmas.List.Concat.{flat_map-append, get_or-flat_map}
use Rattle.cell_bits.specs.Word.{digit, word_cells}
use Rattle.cell_bits.specs.lemmas.WordLaws.{length-word_cells, get_or-word_cells}
use Rattle.cell_bits.specs.inside.Window.{IsWindow}
use Rattle.cell_bits.specs.inside.Packed.{most_words}

-- the cells of whole words, and those after them
abbrev pub all_cells : List ℕ → ℕ → ℕ → List Bool
all_cells words filled last = flat_map (word_cells 64) words ++ word_cells filled last

pub length-whole : (words : List ℕ) → length (flat_map (word_cells 64) words) ≡ 64 * length words
length-whole [] = refl
length-whole (word ∷ words) =
    omega (arith, length-append (word_cells 64 word) (flat_map (word_cells 64) words), length-word_cells 64 word, length-whole words)

pub length-all : (words : List ℕ) (filled last : ℕ) → length (all_cells words filled last) ≡ 64 * length words + filled
length-all words filled last =
    omega (arith, length-append (flat_map (word_cells 64) words) (word_cells filled last), length-word_cells filled last, length-whole words)

-- a digit of 0
zero-digit : (place : ℕ) → digit 0 place ≡ false
zero-digit place = ap (λ bit. bit == 1) (bit_at-zero place)

pub block-whole : (words : List ℕ) (filled last index : ℕ) → index < length words → IsWindow (all_cells words filled last) (64 * index) (get_or words index 0)
block-whole words filled last index within k low =
    let f : ℕ → List Bool = word_cells 64 in
    let before : length (flat_map f (take index words)) ≡ 64 * index = omega (arith, length-whole (take index words), length-take-le index words (omega arith)) in
    let inside : k < length (f (get_or words index 0)) = omega (arith, length-word_cells 64 (get_or words index 0)) in
    let at : get_or (flat_map f words) (64 * index + k) false ≡ get_or (f (get_or words index 0)) k false =
    ap (λ n. get_or (flat_map f words) (n + k) false) (sym before) ∙ get_or-flat_map f words index k 0 false within inside in
    let left : get_or (all_cells words filled last) (64 * index + k) false ≡ get_or (flat_map f words) (64 * index + k) false =
    get_or_append_left (flat_map f words) (word_cells filled last) false (64 * index + k) (omega (arith, length-whole words)) in
    sym (left ∙ at ∙ get_or-word_cells 64 (get_or words index 0) k low)

-- a cell after the whole words
behind : (words : List ℕ) (filled last k : ℕ) → get_or (all_cells words filled last) (64 * length words + k) false ≡ get_or (word_cells filled last) k false
behind words filled last k =
    let e : 64 * length words + k - 64 * length words ≡ k = omega arith in
    get_or-append_right (flat_map (word_cells 64) words) (word_cells filled last) (64 * length words) (64 * length words + k) false (length-whole words) (omega arith)
    ∙ ap (λ n. get_or (word_cells filled last) n false) e

pub block-last : (words : List ℕ) (filled last : ℕ) → filled < 64 → last < 2 ^ filled
    → IsWindow (all_cells words filled last) (64 * length words) (last * 2 ^ (64 - filled) % 2 ^ 64)
block-last words filled last few fits k low =
    let whole : last * 2 ^ (64 - filled) % 2 ^ 64 ≡ last * 2 ^ (64 - filled) + 0 = omega (arith, shl_whole last filled (64 - filled) 64 fits (omega arith)) in
    ap (λ n. digit n (63 - k)) whole ∙ by_place (cases_lt k filled) ∙ sym (behind words filled last k)
  where
    by_place : (k < filled) ⊎ (filled ≤ k) → digit (last * 2 ^ (64 - filled) + 0) (63 - k) ≡ get_or (word_cells filled last) k false
    by_place (inl within) =
        let e : 63 - k - (64 - filled) ≡ filled - 1 - k = omega arith in
        ap (λ bit. bit == 1) (bit_at_cat_high last (64 - filled) 0 (63 - k) (pow_pos (64 - filled)) (omega arith)) ∙ ap (digit last) e ∙ sym (get_or-word_cells filled last k within)
    by_place (inr past) =
        ap (λ bit. bit == 1) (bit_at_cat_low last (64 - filled) 0 (63 - k) (omega arith)) ∙ zero-digit (63 - k)
        ∙ sym (get_or_past (word_cells filled last) k false (omega (arith, length-word_cells filled last)))

pub block-past : (words : List ℕ) (filled last index : ℕ) → 64 * length words + filled ≤ 64 * index → IsWindow (all_cells words filled last) (64 * index) 0
block-past words filled last index past k low =
    zero-digit (63 - k) ∙ sym (get_or_past (all_cells words filled last) (64 * index + k) false (omega (arith, length-all words filled last)))

-- the same of a list that is known to be these cells
module _ (words : List ℕ) (filled last : ℕ) (cells : List Bool) (seen : all_cells words filled last ≡ cells) where
  pub whole-window : (index word : ℕ) → index < length words → get_or words index 0 ≡ word → IsWindow cells (64 * index) word
  whole-window index word within same =
      let at : IsWindow (all_cells words filled last) (64 * index) word = subst (λ w. IsWindow (all_cells words filled last) (64 * index) w) same (block-whole words filled last index within) in
      subst (λ list. IsWindow list (64 * index) word) seen at

  pub last-window : (index : ℕ) → filled < 64 → last < 2 ^ filled → index ≡ length words → IsWindow cells (64 * index) (last * 2 ^ (64 - filled) % 2 ^ 64)
  last-window index few fits same =
      let block : ℕ = last * 2 ^ (64 - filled) % 2 ^ 64 in
      let at : IsWindow (all_cells words filled last) (64 * index) block =
      subst (λ i. IsWindow (all_cells words filled last) (64 * i) block) (sym same) (block-last words filled last few fits) in
      subst (λ list. IsWindow list (64 * index) block) seen at

  pub past-window : (index : ℕ) → 64 * length words + filled ≤ 64 * index → IsWindow cells (64 * index) 0
  past-window index past = subst (λ list. IsWindow list (64 * index) 0) seen (block-past words filled last index past)

-- neither the length nor the memory fell, so the room did not
pub room-grows : (words words' : List ℕ) (filled filled' last last' n n' cap cap' : ℕ) → length words ≡ n → length words' ≡ n' → 64 * n + filled ≤ 64 * n' + filled' → cap ≤ cap'
    → length (all_cells words filled last) + (64 * min cap most_words + 63 - (64 * n + filled))
    ≤ length (all_cells words' filled' last') + (64 * min cap' most_words + 63 - (64 * n' + filled'))
room-grows words words' filled filled' last last' n n' cap cap' e e' more grown =
    omega (arith, length-all words filled last, length-all words' filled' last')

-- the room of a list is what its memory holds
pub room-within : (words : List ℕ) (filled last n cap : ℕ) → length words ≡ n → n ≤ cap → n ≤ most_words → filled < 64
    → length (all_cells words filled last) + (64 * min cap most_words + 63 - (64 * n + filled)) ≤ 64 * min cap most_words + 63
room-within words filled last n cap e capacity most few = omega (arith, length-all words filled last)

-- cells were appended: the first words, and what stood after them, are the cells from before
pub taken_back : (words words' : List ℕ) (filled last filled' last' : ℕ) (more : List Bool) → filled' < 64
    → all_cells words' filled' last' ≡ all_cells words filled last ++ more
    → all_cells (take (length words) words') filled last ≡ all_cells words filled last
taken_back words words' filled last filled' last' more few is = ap (λ cells. cells ++ word_cells filled last) same
  where
    first : List Bool
    first = flat_map (word_cells 64) (take (length words) words')

    rest : List Bool
    rest = flat_map (word_cells 64) (drop (length words) words')

    whole : List Bool
    whole = flat_map (word_cells 64) words

    split : first ++ (rest ++ word_cells filled' last') ≡ whole ++ (word_cells filled last ++ more)
    split = sym (append_assoc first rest (word_cells filled' last'))
        ∙ ap (λ cells. cells ++ word_cells filled' last') (sym (flat_map-append (word_cells 64) (take (length words) words') (drop (length words) words')))
        ∙ ap (λ ws. all_cells ws filled' last') (take-append-drop (length words) words')
        ∙ is ∙ append_assoc whole (word_cells filled last) more

    enough : length words ≤ length words'
    enough = omega (arith, ap length is, length-all words' filled' last', length-all words filled last, length-append (all_cells words filled last) more)

    even : length first ≡ length whole
    even = omega (arith, length-whole (take (length words) words'), length-whole words, length-take-le (length words) words' enough)

    same : first ≡ whole
    same = sym (take-append_seam first (rest ++ word_cells filled' last')) ∙ ap (take (length first)) split
        ∙ ap (λ n. take n (whole ++ (word_cells filled last ++ more))) even ∙ take-append_seam whole (word_cells filled last ++ more)
