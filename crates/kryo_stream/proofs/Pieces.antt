-- The block at one place of a stream does not depend on the bytes after it, and lies within the bytes and the limit.
use Rattle.std.proofs.Common.{◌≡◌, ℕ, ◌+◌, ◌-◌, ◌==◌, ◌<◌, ◌≤◌, ◌++◌, Bool, true, false, List, length, drop, nat_le, refl, sym, ap, ◌∙◌, arith, length-append, length-drop, Ok, Err, inl, inr, subst}
use Rattle.std.proofs.lemmas.List.{drop-append-le, get_or_append_left}
use Rattle.std.proofs.lemmas.Bool.Decides.{nat_tests}
use Rattle.std.specs.Prelude.{slice_index}
use Rattle.byteorder.specs.Endian.{little_number}
use Rattle.kryo_stream.specs.declared.block.Block.TheVariants.{Flux, Overflow, Nop, Info, End}
use Rattle.kryo_stream.specs.declared.fault.StreamFault.TheVariants.{Truncated, UnknownType, BadSize, WrongPosition, DeviceFault, DataAfterEnd}
use Rattle.kryo_stream.specs.declared.block.SpelledBlock.{SpelledBlock}
use Rattle.kryo_stream.specs.declared.before.Before.{Before}
use Rattle.kryo_stream.specs.inside.Tally.{MayFollow}
use Rattle.kryo_stream.specs.Pieces.{BlockOrFault, piece, unless_fault, of_size, at_position, without_failure, number_at, ticks_at, in_stream_piece, stream_info_piece, index_piece, stream_end_piece, info_piece, out_of_band_piece, piece_from, piece_at}
use Rattle.kryo_stream.specs.inside.Pieces.{IsText}
use Rattle.kryo_stream.proofs.Readings.{has-short, has-enough, Grows, grows_same, grows_not, grows_if, grows_needs, Lies, lies_if, lies_needs, lies_text}

little_number-append : (y z : List ℕ) → 4 ≤ length y → little_number 4 (y ++ z) ≡ little_number 4 y
little_number-append y z inside =
    rw (
      get_or_append_left y z 0 0 (omega arith),
      get_or_append_left y z 0 1 (omega arith),
      get_or_append_left y z 0 2 (omega arith),
      get_or_append_left y z 0 3 (omega arith),
    ) refl

little_pair-append : (y z : List ℕ) → 2 ≤ length y → little_number 2 (y ++ z) ≡ little_number 2 y
little_pair-append y z inside =
    rw (get_or_append_left y z 0 0 (omega arith), get_or_append_left y z 0 1 (omega arith)) refl

size-append : (y z : List ℕ) → 4 ≤ length y → little_number 2 (drop 2 (y ++ z)) ≡ little_number 2 (drop 2 y)
size-append y z inside =
    ap (little_number 2) (drop-append-le 2 y z (omega arith))
    ∙ little_pair-append (drop 2 y) z (omega (arith, length-drop 2 y))

number_at-append : (y z : List ℕ) (k : ℕ) → k + 4 ≤ length y → number_at k (y ++ z) ≡ number_at k y
number_at-append y z k inside =
    ap (little_number 4) (drop-append-le k y z (omega arith))
    ∙ little_number-append (drop k y) z (omega (arith, length-drop k y))

ticks_at-append : (y z : List ℕ) (k : ℕ) → k + 2 ≤ length y → ticks_at k (y ++ z) ≡ ticks_at k y
ticks_at-append y z k inside = rw (get_or_append_left y z 0 k (omega arith), get_or_append_left y z 0 (k + 1) (omega arith)) refl

in_stream_piece-grows : (offset first : ℕ) (y z : List ℕ)
    → Grows (in_stream_piece offset first y) (in_stream_piece offset first (y ++ z))
in_stream_piece-grows offset first y z =
    grows_if (nat_le first 7) _ _ _ _ (grows_needs offset 2 y z _ _ (λ enough. grows_same _ _
    (ap (λ t. piece (Flux t) 2) (ticks_at-append y z 0 (omega (arith, enough))))))
    (grows_if (nat_le first 10) _ _ _ _ (grows_needs offset (first - 7) y z _ _ (λ _. grows_not (piece (Nop (first - 7)) (first - 7))))
    (grows_if (first == 11) _ _ _ _ (grows_not (piece Overflow 1))
    (grows_if (first == 12) _ _ _ _ (grows_needs offset 3 y z _ _ (λ enough. grows_same _ _
    (ap (λ t. piece (Flux t) 3) (ticks_at-append y z 1 (omega (arith, enough))))))
    (grows_not (piece (Flux first) 1)))))

stream_info_piece-grows : (offset counted : ℕ) (y z : List ℕ)
    → Grows (stream_info_piece offset counted y) (stream_info_piece offset counted (y ++ z))
stream_info_piece-grows offset counted y z = grows_needs offset 12 y z _ _ (λ enough. grows_same _ _
    (rw (number_at-append y z 4 (omega (arith, enough)), number_at-append y z 8 (omega (arith, enough))) refl))

index_piece-grows : (offset : ℕ) (y z : List ℕ) → Grows (index_piece offset y) (index_piece offset (y ++ z))
index_piece-grows offset y z = grows_needs offset 16 y z _ _ (λ enough. grows_same _ _
    (rw (
      number_at-append y z 4 (omega (arith, enough)),
      number_at-append y z 8 (omega (arith, enough)),
      number_at-append y z 12 (omega (arith, enough)),
    ) refl))

stream_end_piece-grows : (offset counted : ℕ) (y z : List ℕ)
    → Grows (stream_end_piece offset counted y) (stream_end_piece offset counted (y ++ z))
stream_end_piece-grows offset counted y z = grows_needs offset 12 y z _ _ (λ enough. grows_same _ _
    (rw (number_at-append y z 4 (omega (arith, enough)), number_at-append y z 8 (omega (arith, enough))) refl))

of_size-grows : (wanted size : ℕ) (a b : BlockOrFault) → Grows a b → Grows (of_size wanted size a) (of_size wanted size b)
of_size-grows wanted size a b grows =
    grows_if (size == wanted) a (Err (BadSize size)) b (Err (BadSize size)) grows (grows_not (Err (BadSize size)))

out_of_band_piece-grows : (offset counted kind size : ℕ) (y z : List ℕ)
    → Grows (out_of_band_piece offset counted kind size y) (out_of_band_piece offset counted kind size (y ++ z))
out_of_band_piece-grows offset counted kind size y z =
    grows_if (kind == 1) _ _ _ _ (of_size-grows 8 size _ _ (stream_info_piece-grows offset counted y z))
    (grows_if (kind == 2) _ _ _ _ (of_size-grows 12 size _ _ (index_piece-grows offset y z))
    (grows_if (kind == 3) _ _ _ _ (of_size-grows 8 size _ _ (stream_end_piece-grows offset counted y z))
    (grows_if (kind == 4) _ _ _ _ (grows_needs offset (4 + size) y z _ _ (λ _. grows_not (piece (Info size) (4 + size))))
    (grows_if (kind == 13) _ _ _ _ (of_size-grows 3341 size _ _ (grows_not (piece End 4)))
    (grows_not (Err (UnknownType kind)))))))

piece_from-grows : (offset counted : ℕ) (ended : Bool) (first : ℕ) (y z : List ℕ)
    → Grows (piece_from offset counted ended first y) (piece_from offset counted ended first (y ++ z))
piece_from-grows offset counted ended first y z =
    grows_if (first == 13) _ _ _ _ (grows_needs offset 4 y z _ _ (λ header.
    subst (λ kind. Grows (out_of_band_piece offset counted (slice_index y 1) (little_number 2 (drop 2 y)) y)
    (out_of_band_piece offset counted kind (little_number 2 (drop 2 (y ++ z))) (y ++ z)))
    (sym (get_or_append_left y z 0 1 (omega (arith, header))))
    (subst (λ size. Grows (out_of_band_piece offset counted (slice_index y 1) (little_number 2 (drop 2 y)) y)
    (out_of_band_piece offset counted (slice_index y 1) size (y ++ z)))
    (sym (size-append y z header))
    (out_of_band_piece-grows offset counted (slice_index y 1) (little_number 2 (drop 2 y)) y z))))
    (grows_if ended _ _ _ _ (grows_not (Err DataAfterEnd)) (in_stream_piece-grows offset first y z))

-- more bytes change the block only where the bytes at hand are too few
pub piece_at-grows : (offset counted : ℕ) (ended : Bool) (y z : List ℕ)
    → Grows (piece_at offset counted ended y) (piece_at offset counted ended (y ++ z))
piece_at-grows offset counted ended y z = grows_needs offset 1 y z _ _ (λ one.
    subst (λ first. Grows (piece_from offset counted ended (slice_index y 0) y) (piece_from offset counted ended first (y ++ z)))
    (sym (get_or_append_left y z 0 0 (omega (arith, one))))
    (piece_from-grows offset counted ended (slice_index y 0) y z))

at_most : (a b : ℕ) → nat_le a b ≡ true → a ≤ b
at_most a b test = grind (arith, nat_tests)

more_than : (a b : ℕ) → nat_le a b ≡ false → b < a
more_than a b test = grind (arith, nat_tests)

equal_to : (a b : ℕ) → (a == b) ≡ true → a ≡ b
equal_to a b test = grind (arith, nat_tests)

in_stream_piece-lies : (offset first : ℕ) (y : List ℕ) → 1 ≤ length y → offset + 1 ≤ 4194304
    → Lies offset y (in_stream_piece offset first y)
in_stream_piece-lies offset first y one room =
    lies_if offset y (nat_le first 7) _ _
    (λ _. lies_needs offset 2 y _ (omega arith) (λ enough within. (omega arith, enough, within)))
    (λ two. lies_if offset y (nat_le first 10) _ _
    (λ nop. let bound : first ≤ 10 = at_most first 10 nop in
    let above : 7 < first = more_than first 7 two in
    lies_needs offset (first - 7) y _ (omega (arith, bound))
    (λ enough within. (omega (arith, above), enough, within)))
    (λ _. lies_if offset y (first == 11) _ _ (λ _. (omega arith, one, room))
    (λ _. lies_if offset y (first == 12) _ _
    (λ _. lies_needs offset 3 y _ (omega arith) (λ enough within. (omega arith, enough, within)))
    (λ _. (omega arith, one, room)))))

bad_size-lies : (offset size : ℕ) (y : List ℕ) → Lies offset y (Err (BadSize size))
bad_size-lies offset size y = λ same. cc

of_size-lies : (offset wanted size : ℕ) (y : List ℕ) (a : BlockOrFault) → Lies offset y a → Lies offset y (of_size wanted size a)
of_size-lies offset wanted size y a lies =
    lies_if offset y (size == wanted) a (Err (BadSize size)) (λ _. lies) (λ _. bad_size-lies offset size y)

at_position-lies : (offset counted said : ℕ) (y : List ℕ) (a : BlockOrFault) → Lies offset y a → Lies offset y (at_position counted said a)
at_position-lies offset counted said y a lies =
    lies_if offset y (said == counted) a (Err (WrongPosition said counted)) (λ _. lies) (λ _ same. cc)

without_failure-lies : (offset code : ℕ) (y : List ℕ) (a : BlockOrFault) → Lies offset y a → Lies offset y (without_failure code a)
without_failure-lies offset code y a lies =
    lies_if offset y (code == 0) a (Err (DeviceFault code)) (λ _. lies) (λ _ same. cc)

out_of_band_piece-lies : (offset counted kind size : ℕ) (y : List ℕ) → 4 ≤ length y → offset + 4 ≤ 4194304
    → slice_index y 0 ≡ 13 → kind ≡ slice_index y 1 → size ≡ little_number 2 (drop 2 y)
    → Lies offset y (out_of_band_piece offset counted kind size y)
out_of_band_piece-lies offset counted kind size y header room first kind_is size_is =
    lies_if offset y (kind == 1) _ _ (λ _. of_size-lies offset 8 size y _
    (lies_needs offset 12 y _ (omega arith) (λ enough within. at_position-lies offset counted (number_at 4 y) y _ (omega arith, enough, within))))
    (λ _. lies_if offset y (kind == 2) _ _ (λ _. of_size-lies offset 12 size y _
    (lies_needs offset 16 y _ (omega arith) (λ enough within. (omega arith, enough, within))))
    (λ _. lies_if offset y (kind == 3) _ _ (λ _. of_size-lies offset 8 size y _
    (lies_needs offset 12 y _ (omega arith) (λ enough within. at_position-lies offset counted (number_at 4 y) y _
    (without_failure-lies offset (number_at 8 y) y _ (omega arith, enough, within)))))
    (λ _. lies_if offset y (kind == 4) _ _ (λ text. lies_text offset (4 + size) y _
    (λ within. (size, record { header = header; first = first; kind = sym kind_is ∙ equal_to kind 4 text; size_is = sym size_is; room = within }))
    (λ enough within. (omega arith, enough, within)))
    (λ _. lies_if offset y (kind == 13) _ _ (λ _. of_size-lies offset 3341 size y _ (omega arith, header, room))
    (λ _ same. cc)))))

piece_from-lies : (offset counted : ℕ) (ended : Bool) (first : ℕ) (y : List ℕ) → 1 ≤ length y → offset + 1 ≤ 4194304
    → first ≡ slice_index y 0 → Lies offset y (piece_from offset counted ended first y)
piece_from-lies offset counted ended first y one room first_is =
    lies_if offset y (first == 13) _ _ (λ band. lies_needs offset 4 y _ (omega arith) (λ header within.
    out_of_band_piece-lies offset counted (slice_index y 1) (little_number 2 (drop 2 y)) y header within
    (sym first_is ∙ equal_to first 13 band) refl refl))
    (λ _. lies_if offset y ended _ _ (λ _ same. cc) (λ _. in_stream_piece-lies offset first y one room))

-- a block takes at least one byte, and lies within the bytes and the limit; 16 bytes are enough, but for a text
pub piece_at-lies : (offset counted : ℕ) (ended : Bool) (y : List ℕ) → Lies offset y (piece_at offset counted ended y)
piece_at-lies offset counted ended y =
    lies_needs offset 1 y _ (omega arith) (λ one room. piece_from-lies offset counted ended (slice_index y 0) y one room refl)

-- the block at the front of the bytes may follow on those before it
pub piece_at-follows : (b : Before) (y : List ℕ) (p : SpelledBlock) → piece_at b.offset b.counted b.ended y ≡ Ok p
    → MayFollow b p × (p.bytes ≤ length y)
piece_at-follows b y p is =
    let lies : Lies b.offset y (Ok p) = subst (Lies b.offset y) is (piece_at-lies b.offset b.counted b.ended y) in
    (record { some = lies.0; room = lies.2 }, lies.1)

pub piece_at-short : (b : Before) (y : List ℕ) → piece_at b.offset b.counted b.ended y ≡ Err Truncated
    → ((size : ℕ) → IsText b.offset y size → ⊥) → length y < 16
piece_at-short b y is none =
    let lies : Lies b.offset y (Err Truncated) = subst (Lies b.offset y) is (piece_at-lies b.offset b.counted b.ended y) in
    elim (lies refl) [ inl short ↦ short | inr text ↦ absurd (none text.0 text.1) ]

-- a text needs its header and its content
pub piece_at-text : (b : Before) (y z : List ℕ) (size : ℕ) → IsText b.offset y size
    → piece_at b.offset b.counted b.ended (y ++ z) ≡ info_piece b.offset size (y ++ z)
piece_at-text b y z size text =
    let w : List ℕ = y ++ z in
    let long : length w ≡ length y + length z = length-append y z in
    let kind : slice_index w 1 ≡ 4 = get_or_append_left y z 0 1 (omega (arith, text.header)) ∙ text.kind in
    let size_is : little_number 2 (drop 2 w) ≡ size = size-append y z text.header ∙ text.size_is in
    ap (λ h. unless_fault h (piece_from b.offset b.counted b.ended (slice_index w 0) w))
    (has-enough b.offset 1 w (omega (arith, text.room)) (omega (arith, text.header, long)))
    ∙ ap (λ first. piece_from b.offset b.counted b.ended first w) (get_or_append_left y z 0 0 (omega (arith, text.header)) ∙ text.first)
    ∙ ap (λ h. unless_fault h (out_of_band_piece b.offset b.counted (slice_index w 1) (little_number 2 (drop 2 w)) w))
    (has-enough b.offset 4 w (omega (arith, text.room)) (omega (arith, text.header, long)))
    ∙ ap (λ k. out_of_band_piece b.offset b.counted k (little_number 2 (drop 2 w)) w) kind
    ∙ ap (λ s. out_of_band_piece b.offset b.counted 4 s w) size_is

pub piece_at-text_whole : (b : Before) (y z : List ℕ) (size : ℕ) → IsText b.offset y size → 4 + size ≤ length (y ++ z)
    → piece_at b.offset b.counted b.ended (y ++ z) ≡ piece (Info size) (4 + size)
piece_at-text_whole b y z size text whole = piece_at-text b y z size text
    ∙ ap (λ h. unless_fault h (piece (Info size) (4 + size))) (has-enough b.offset (4 + size) (y ++ z) text.room whole)

pub piece_at-text_cut : (b : Before) (y z : List ℕ) (size : ℕ) → IsText b.offset y size → length (y ++ z) < 4 + size
    → piece_at b.offset b.counted b.ended (y ++ z) ≡ Err Truncated
piece_at-text_cut b y z size text short = piece_at-text b y z size text
    ∙ ap (λ h. unless_fault h (piece (Info size) (4 + size))) (has-short b.offset (4 + size) (y ++ z) text.room short)
