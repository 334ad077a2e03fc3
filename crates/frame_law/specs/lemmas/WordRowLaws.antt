-- What holds of words at places of cells, and of items in a row.
use Rattle.std.specs.Prelude.{◌≡◌, ℕ, zero, suc, ◌+◌, ◌*◌, ◌/◌, ◌%◌, ◌^◌, ◌<◌, ◌≤◌, Bool, List, []}
use Rattle.std.specs.Prelude.{◌∷◌, ◌++◌}
use Rattle.std.specs.Prelude.{length, take, drop, get_or, flat_map}
use Rattle.std.proofs.Common.{ap, sym, subst, ◌∙◌, arith, append_assoc, inl, inr, length-append}
use Rattle.std.proofs.Common.{length-drop, lit<, mod-eq_of_lt, mul-zero, mul-suc}
use Rattle.std.proofs.lemmas.Bool.{cases_lt}
use Rattle.std.proofs.lemmas.List.{drop-drop, drop-take, ext_get_or, length-take, take-take}
use Rattle.std.proofs.lemmas.Nat.{pow_pos, shr_below, shr_split}
use Rattle.std.proofs.Math.ListN.{get_or-append}
use Rattle.std.proofs.Math.Nat.{mod-lt, mul-le-mul_left, pow-le-pow_right}
use Rattle.std.proofs.Math.Seq.{get_or-append_seam}
use Rattle.cell_bits.specs.Word.{Stands, number_of, word, word_cells}
use Rattle.cell_bits.specs.lemmas.WordLaws.{length-word_cells, number_of-lt, number_of-word_cells}
use Rattle.cell_bits.specs.lemmas.WordLaws.{word_cells-append, word_cells-number_of}
use Rattle.track_rings.specs.lemmas.Parts.{drop-past, take-first}
use Rattle.track_rings.specs.Rings.{AreBytes}
use Rattle.frame_law.specs.WordRows.{ListStands}

-- so many cells make no greater number
pub word-lt : (cells : List Bool) (place count : ℕ) → word cells place count < 2 ^ count
unfolding word
word-lt cells place count =
    let part = take count (drop place cells) in
    let short : length part ≤ count = omega (arith, length-take count (drop place cells)) in
    let grows : 2 ^ length part ≤ 2 ^ count = pow-le-pow_right (lit< tt) short in
    omega (arith, number_of-lt part, grows)

-- the cells of the number at a place are those that stand there
pub word_cells-word : (cells : List Bool) (place count : ℕ) → place + count ≤ length cells
    → word_cells count (word cells place count) ≡ take count (drop place cells)
unfolding word
word_cells-word cells place count within =
    let part = take count (drop place cells) in
    let size : count ≡ length part =
    omega (arith, length-take count (drop place cells), length-drop place cells) in
    ap (λ (n : ℕ). word_cells n (number_of part)) size ∙ word_cells-number_of part

-- the number of a word that stands at a place
pub word-stands : (cells : List Bool) (value count place : ℕ) → value < 2 ^ count
    → Stands cells value count place → word cells place count ≡ value
unfolding word
word-stands cells value count place fits stands =
    ap number_of stands ∙ number_of-word_cells count value ∙ mod-eq_of_lt fits

-- the number of so many cells has those of its first and of its last cells one after the other
pub word-split : (cells : List Bool) (place m n : ℕ) → place + (m + n) ≤ length cells
    → (word cells place m ≡ word cells place (m + n) / 2 ^ n)
    × (word cells (place + m) n ≡ word cells place (m + n) % 2 ^ n)
word-split cells place m n within =
    let value : ℕ = word cells place (m + n) in
    let high : ℕ = value / 2 ^ n in
    let low : ℕ = value % 2 ^ n in
    let low_fits : low < 2 ^ n = mod-lt value (pow_pos n) in
    let high_fits : high < 2 ^ m = shr_below value m n (word-lt cells place (m + n)) in
    let here : List Bool = drop place cells in
    let sized : length (word_cells m high) ≡ m = length-word_cells m high in
    let stand : take (m + n) here ≡ word_cells m high ++ word_cells n low =
    sym (word_cells-word cells place (m + n) within)
    ∙ ap (word_cells (m + n)) (sym (shr_split value n)) ∙ word_cells-append m n high low low_fits in
    let first : take m here ≡ word_cells m high =
    sym (take-take m (m + n) here (omega arith)) ∙ ap (take m) stand
    ∙ take-first (word_cells m high) (word_cells n low) m sized in
    let behind : drop (place + m) cells ≡ drop m here =
    ap (λ (k : ℕ). drop k cells) (omega arith) ∙ sym (drop-drop m place cells) in
    let last : take n (drop (place + m) cells) ≡ word_cells n low =
    ap (take n) behind ∙ sym (drop-take m n here) ∙ ap (drop m) stand
    ∙ ap (λ (k : ℕ). drop k (word_cells m high ++ word_cells n low)) (omega arith)
    ∙ drop-past (word_cells m high) (word_cells n low) m 0 sized in (
      word-stands cells high m place high_fits first,
      word-stands cells low n (place + m) low_fits last,
    )

pub word-first : (value count : ℕ) (rest : List Bool) → value < 2 ^ count
    → word (word_cells count value ++ rest) 0 count ≡ value
word-first value count rest fits =
    word-stands (word_cells count value ++ rest) value count 0 fits
    (take-first (word_cells count value) rest count (length-word_cells count value))

module _ (size : ℕ) (At : List Bool → ℕ → ℕ → Type 0) where
  -- one more
  pub row-more : (cells : List Bool) (place : ℕ) (items : List ℕ) (item : ℕ)
      → ListStands size At cells place items
      → At cells (place + size * length items) item
      → ListStands size At cells place (items ++ item ∷ [])
  row-more cells place items item stand last k within =
      elim (cases_lt k (length items)) [
        | inl before ↦
            subst (At cells (place + size * k)) (sym (get_or-append items (item ∷ []) 0 k before))
            (stand k before)
        | inr after ↦
            let here : length items ≡ k = omega (arith, within, length-append items (item ∷ [])) in
            subst (λ (n : ℕ). At cells (place + size * n) (get_or (items ++ item ∷ []) n 0)) here
            (subst (At cells (place + size * length items))
            (sym (get_or-append_seam items item [] 0)) last)
      ]

  -- after a part of known length
  pub row-past : (xs ys : List Bool) (before offset : ℕ) (items : List ℕ) → length xs ≡ before
      → ((place item : ℕ) → At ys place item → At (xs ++ ys) (before + place) item)
      → ListStands size At ys offset items → ListStands size At (xs ++ ys) (before + offset) items
  row-past xs ys before offset items is past stand k within =
      let e : before + (offset + size * k) ≡ before + offset + size * k = omega arith in
      subst (λ (place : ℕ). At (xs ++ ys) place (get_or items k 0)) e
      (past (offset + size * k) (get_or items k 0) (stand k within))

  -- in cells that agree
  pub row-agree : (total : ℕ) (xs ys : List Bool) (place : ℕ) (items : List ℕ)
      → place + size * length items ≤ total
      → ((here item : ℕ) → here + size ≤ total → At xs here item → At ys here item)
      → ListStands size At xs place items → ListStands size At ys place items
  row-agree total xs ys place items within agree stand k low =
      let upto : size * suc k ≤ size * length items = mul-le-mul_left size (omega arith) in
      let e : size * suc k ≡ size * k + size = mul-suc size k in
      agree (place + size * k) (get_or items k 0) (omega (arith, within, upto, e)) (stand k low)

  -- one list of so many
  pub row-one : (cells : List Bool) (place : ℕ) (xs ys : List ℕ)
      → ((here x y : ℕ) → At cells here x → At cells here y → x ≡ y)
      → length xs ≡ length ys → ListStands size At cells place xs
      → ListStands size At cells place ys → xs ≡ ys
  row-one cells place xs ys one same first second =
      ext_get_or 0 xs ys same
      (λ k within.
      one (place + size * k) (get_or xs k 0) (get_or ys k 0) (first k within)
      (second k (omega (arith, same, within))))

  -- as they are written
  module _ (code : ℕ → List Bool) (sized : (item : ℕ) → length (code item) ≡ size)
      (front : (item : ℕ) (rest : List Bool) → item < 256 → At (code item ++ rest) 0 item)
      (past : (xs ys : List Bool) (before place item : ℕ) → length xs ≡ before → At ys place item
      → At (xs ++ ys) (before + place) item) where
    pub row-front : (bytes : List ℕ) (rest : List Bool) → AreBytes bytes
        → ListStands size At (flat_map code bytes ++ rest) 0 bytes
    unfolding AreBytes
    row-front [] rest fit k within = absurd (omega arith)
    row-front (byte ∷ bytes) rest fit zero within =
        let e : 0 ≡ 0 + size * 0 = let none = mul-zero size in omega (arith, none) in
        let apart = append_assoc (code byte) (flat_map code bytes) rest in
        subst (λ (place : ℕ). At (flat_map code (byte ∷ bytes) ++ rest) place byte) e
        (subst (λ (cells : List Bool). At cells 0 byte) (sym apart)
        (front byte (flat_map code bytes ++ rest) fit.0))
    row-front (byte ∷ bytes) rest fit (suc k) within =
        let more = row-front bytes rest fit.1 k (omega arith) in
        let e : size + (0 + size * k) ≡ 0 + size * suc k = let more_is = mul-suc size k in
        omega (arith, more_is) in
        let apart = append_assoc (code byte) (flat_map code bytes) rest in
        subst (λ (place : ℕ). At (flat_map code (byte ∷ bytes) ++ rest) place (get_or bytes k 0)) e
        (subst (λ (cells : List Bool). At cells (size + (0 + size * k)) (get_or bytes k 0))
        (sym apart)
        (past (code byte) (flat_map code bytes ++ rest) size (0 + size * k) (get_or bytes k 0)
        (sized byte) more))

-- how many cells they take
pub length-row : (size : ℕ) (code : ℕ → List Bool) → ((item : ℕ) → length (code item) ≡ size)
    → (items : List ℕ)
    → length (flat_map code items) ≡ size * length items
length-row size code sized [] = sym (mul-zero size)
length-row size code sized (item ∷ items) =
    let e = mul-suc size (length items) in
    omega (
      arith,
      length-append (code item) (flat_map code items),
      sized item,
      length-row size code sized items,
      e,
    )
