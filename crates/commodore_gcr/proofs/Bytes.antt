-- Bytes that are read from ten cells each.
use Rattle.std.proofs.Common.{◌≡◌, ℕ, zero, suc, ◌+◌, ◌*◌, ◌/◌, ◌%◌, ◌<◌, ◌≤◌, Bool, List, [], ◌∷◌, ◌++◌, length, length-append, get_or, arith, Option, Some, None, IfSome, IfNone, ap, subst, sym, ◌∙◌}
use Rattle.cell_bits.specs.Word.{word, word_cells}
use Rattle.frame_law.specs.lemmas.WordRowLaws.{row-more, word-split, word_cells-word}
use Rattle.commodore_gcr.specs.Coding.{ByteAt, BytesAt, gcr}
use Rattle.commodore_gcr.specs.lemmas.CodingLaws.{one_list_at}
use Rattle.commodore_gcr.specs.Sectors.{Names, numbered_bytes}
use Rattle.flux_base.specs.declared.header_name.HeaderName.{HeaderName}
use Rattle.flux_base.specs.declared.header_name.HeaderName.TheVariants.{Address, TrackSector, TrackSectorSide}

pub byte_at-some : (cells : List Bool) (place number : ℕ) (result : Option ℕ) → place + 10 ≤ length cells → number ≡ word cells place 10
    → IfSome result (λ byte. byte < 256) → IfSome result (λ byte. gcr byte ≡ word_cells 10 number)
    → IfSome result (λ byte. ByteAt cells place byte)
byte_at-some cells place number None within is fits stands = tt
byte_at-some cells place number (Some byte) within is fits stands =
    (fits, sym (stands ∙ ap (word_cells 10) is ∙ word_cells-word cells place 10 within))

pub byte_at-none : (cells : List Bool) (place number : ℕ) (result : Option ℕ) → place + 10 ≤ length cells → number ≡ word cells place 10
    → IfNone result ((byte : ℕ) → byte < 256 → ¬ (gcr byte ≡ word_cells 10 number))
    → IfNone result ((byte : ℕ) → ¬ ByteAt cells place byte)
byte_at-none cells place number None within is none = λ byte stands.
    none byte stands.0 (sym stands.1 ∙ sym (word_cells-word cells place 10 within) ∙ ap (word_cells 10) (sym is))
byte_at-none cells place number (Some byte) within is none = tt

-- a header's bytes, one after another
pub six_bytes : (cells : List Bool) (first second third fourth fifth sixth : ℕ) → ByteAt cells 10 first → ByteAt cells 20 second
    → ByteAt cells 30 third → ByteAt cells 40 fourth → ByteAt cells 50 fifth → ByteAt cells 60 sixth
    → BytesAt cells 10 (first ∷ second ∷ third ∷ fourth ∷ fifth ∷ sixth ∷ [])
six_bytes cells first second third fourth fifth sixth a b c d e f = at
  where
    at : BytesAt cells 10 (first ∷ second ∷ third ∷ fourth ∷ fifth ∷ sixth ∷ [])
    at zero within = a
    at (suc zero) within = b
    at (suc (suc zero)) within = c
    at (suc (suc (suc zero))) within = d
    at (suc (suc (suc (suc zero)))) within = e
    at (suc (suc (suc (suc (suc zero))))) within = f
    at (suc (suc (suc (suc (suc (suc k)))))) within = absurd (omega arith)

-- a header that has a name has six bytes
pub named_bytes : (cells : List Bool) (name : HeaderName) → Names cells name
    → (id1 id2 track sector : ℕ) × BytesAt cells 10 (numbered_bytes id1 id2 track sector)
named_bytes cells (TrackSector track sector) names = (names.id1, names.id2, track, sector, names.bytes)
named_bytes cells (Address cylinder head sector size) names = absurd names
named_bytes cells (TrackSectorSide number sector side format) names = absurd names

-- which are these
pub header_is : (cells : List Bool) (header : List ℕ) (name : HeaderName) → length header ≡ 6 → BytesAt cells 10 header
    → Names cells name → (id1 id2 track sector : ℕ) × (header ≡ numbered_bytes id1 id2 track sector)
header_is cells header name size bytes names =
    let there = named_bytes cells name names in
    (there.0, there.1, there.2, there.3, one_list_at cells 10 header (numbered_bytes there.0 there.1 there.2 there.3) size bytes there.4)

-- what holds whether or not there is a value
pub in_any_case : {X P : Type 0} (found : Option X) → P → IfNone found P
in_any_case None p = p
in_any_case (Some x) p = tt

-- the numbers of three bytes are parts of the number of their thirty cells
pub three_numbers : (cells : List Bool) (place number : ℕ) → place + 30 ≤ length cells → number ≡ word cells place 30
    → (number / 1048576 ≡ word cells place 10) × (number / 1024 % 1024 ≡ word cells (place + 10) 10)
    × (number % 1024 ≡ word cells (place + 20) 10)
three_numbers cells place number within is =
    let last : (word cells place 20 ≡ word cells place 30 / 1024) × (word cells (place + 20) 10 ≡ word cells place 30 % 1024) =
    word-split cells place 20 10 within in
    let first : (word cells place 10 ≡ word cells place 20 / 1024) × (word cells (place + 10) 10 ≡ word cells place 20 % 1024) =
    word-split cells place 10 10 (omega (arith, within)) in (
      omega (arith, is, last.0, first.0),
      omega (arith, is, last.0, first.1),
      omega (arith, is, last.1),
    )

pub three_bytes : (cells : List Bool) (place first second third : ℕ) → ByteAt cells place first → ByteAt cells (place + 10) second
    → ByteAt cells (place + 20) third → BytesAt cells place (first ∷ second ∷ third ∷ [])
three_bytes cells place first second third a b c = at
  where
    at : BytesAt cells place (first ∷ second ∷ third ∷ [])
    at zero within = subst (λ (n : ℕ). ByteAt cells n first) (omega arith) a
    at (suc zero) within = subst (λ (n : ℕ). ByteAt cells n second) (omega arith) b
    at (suc (suc zero)) within = subst (λ (n : ℕ). ByteAt cells n third) (omega arith) c
    at (suc (suc (suc k))) within = absurd (omega arith)

-- three bytes more
pub three-more : (cells : List Bool) (place count : ℕ) (bytes three : List ℕ) → BytesAt cells place bytes → length bytes ≡ 3 * count
    → length three ≡ 3 → BytesAt cells (place + 30 * count) three
    → BytesAt cells place (((bytes ++ get_or three 0 0 ∷ []) ++ get_or three 1 0 ∷ []) ++ get_or three 2 0 ∷ [])
three-more cells place count bytes three stand size three_size more =
    let first = get_or three 0 0 in
    let second = get_or three 1 0 in
    let third = get_or three 2 0 in
    let one = bytes ++ first ∷ [] in
    let two = one ++ second ∷ [] in
    let one_size = length-append bytes (first ∷ []) in
    let two_size = length-append one (second ∷ []) in
    row-more 10 ByteAt cells place two third
    (row-more 10 ByteAt cells place one second
    (row-more 10 ByteAt cells place bytes first stand
    (subst (λ (n : ℕ). ByteAt cells n first) (omega (arith, size)) (more 0 (omega (arith, three_size)))))
    (subst (λ (n : ℕ). ByteAt cells n second) (omega (arith, size, one_size)) (more 1 (omega (arith, three_size)))))
    (subst (λ (n : ℕ). ByteAt cells n third) (omega (arith, size, one_size, two_size)) (more 2 (omega (arith, three_size))))

-- three of the bytes that stand
pub three-stand : (cells : List Bool) (place count : ℕ) (bytes : List ℕ) → count < 85 → length bytes ≡ 256 → BytesAt cells place bytes
    → BytesAt cells (place + 30 * count) (get_or bytes (3 * count) 0 ∷ get_or bytes (3 * count + 1) 0 ∷ get_or bytes (3 * count + 2) 0 ∷ [])
three-stand cells place count bytes few size stand =
    three_bytes cells (place + 30 * count) (get_or bytes (3 * count) 0) (get_or bytes (3 * count + 1) 0) (get_or bytes (3 * count + 2) 0)
    (subst (λ (n : ℕ). ByteAt cells n (get_or bytes (3 * count) 0)) (omega arith) (stand (3 * count) (omega (arith, few, size))))
    (subst (λ (n : ℕ). ByteAt cells n (get_or bytes (3 * count + 1) 0)) (omega arith) (stand (3 * count + 1) (omega (arith, few, size))))
    (subst (λ (n : ℕ). ByteAt cells n (get_or bytes (3 * count + 2) 0)) (omega arith) (stand (3 * count + 2) (omega (arith, few, size))))

-- the number of ten cells tells the byte that stands there, or that none does
pub number_some : (cells : List Bool) (place number byte : ℕ) → place + 10 ≤ length cells → number ≡ word cells place 10 → byte < 256
    → gcr byte ≡ word_cells 10 number → ByteAt cells place byte
number_some cells place number byte within is fits stands = byte_at-some cells place number (Some byte) within is fits stands

pub number_none : (cells : List Bool) (place number : ℕ) → place + 10 ≤ length cells → number ≡ word cells place 10
    → ((byte : ℕ) → byte < 256 → ¬ (gcr byte ≡ word_cells 10 number)) → (byte : ℕ) → ¬ ByteAt cells place byte
number_none cells place number within is none = byte_at-none cells place number None within is none
