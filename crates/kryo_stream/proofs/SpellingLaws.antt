-- What is read as a block is spelled so, and the other way round.
use Rattle.std.proofs.Common.{◌≡◌, ◌≤◌, ◌<◌, ◌+◌, ◌-◌, ◌*◌, ◌/◌, ◌%◌, ◌^◌, ◌++◌, ◌&&◌, ◌==◌, ℕ, zero, suc, Bool, true, false, List, [], ◌∷◌, length, take, drop, slice_index, nat_lt, nat_le, refl, ap, sym, ◌∙◌, subst, arith, length-append, Ok, if◌then◌else◌, inl, inr}
use Rattle.std.proofs.lemmas.Bool.{eq-eqb}
use Rattle.std.proofs.lemmas.Bool.Decides.{nat_tests}
use Rattle.std.proofs.lemmas.List.{length-replicate, append-nil, length-take-le, take-append-drop}
use Rattle.std.proofs.Math.ListN.{replicate}
use Rattle.byteorder.specs.Endian.{little_bytes, little_number}
use Rattle.byteorder.specs.Numbers.{little_number-reads_back}
use Rattle.kryo_stream.specs.declared.block.Block.{Block}
use Rattle.kryo_stream.specs.declared.block.Block.TheVariants.{Flux, Overflow, Nop, StreamInfo, Index, StreamEnd, Info, End}
use Rattle.kryo_stream.specs.declared.block.SpelledBlock.{SpelledBlock}
use Rattle.kryo_stream.specs.Blocks.{Spells, out_of_band}
use Rattle.kryo_stream.specs.Protocol.{LIMIT}
use Rattle.kryo_stream.specs.Pieces.{BlockOrFault, needs, piece, at_position, number_at, out_of_band_piece, piece_from, piece_at}
use Rattle.kryo_stream.specs.Spelling.{spelling, IsWritable}
use Rattle.kryo_stream.specs.WellFormed.{MayStand, IsBlockOf}

-- the spelling of a flux value spells it
flux_spelling-spells : (ticks : ℕ) → ticks < 65536 → (one two : Bool) → (nat_le 14 ticks && nat_lt ticks 256) ≡ one
    → nat_lt ticks 2048 ≡ two
    → Spells (if one then ticks ∷ [] else (if two then (ticks / 256) ∷ (ticks % 256) ∷ []
    else 12 ∷ (ticks / 256) ∷ (ticks % 256) ∷ [])) (Flux ticks)
flux_spelling-spells ticks fits true two is_one is_two = inl (grind (arith, nat_tests), grind (arith, nat_tests), refl)
flux_spelling-spells ticks fits false true is_one is_two =
    inr (inl (ticks / 256, ticks % 256, (let small : ticks < 2048 = grind (arith, nat_tests) in omega arith), refl, omega arith))
flux_spelling-spells ticks fits false false is_one is_two = inr (inr (ticks / 256, ticks % 256, refl, omega arith))

pub spelling-spells : (block : Block) → IsWritable block → Spells (spelling block) block
spelling-spells (Flux ticks) fits = flux_spelling-spells ticks fits _ _ refl refl
spelling-spells Overflow fits = refl
spelling-spells (Nop count) fits =
    (replicate (count - 1) 0, omega (arith, fits.1), omega (arith, length-replicate {A = ℕ} (count - 1) 0, fits.0), refl)
spelling-spells (StreamInfo position time) fits = refl
spelling-spells (Index position sample counter) fits = refl
spelling-spells (StreamEnd position code) fits = refl
spelling-spells (Info size) fits = (replicate size 32, length-replicate size 32, refl)
spelling-spells End fits = refl

-- how long a spelling is, as its first bytes tell
abbrev pub spelled_length : List ℕ → ℕ
spelled_length xs =
    if nat_lt (slice_index xs 0) 8 then 2
    else (if nat_le (slice_index xs 0) 10 then slice_index xs 0 - 7
    else (if slice_index xs 0 == 12 then 3
    else (if slice_index xs 0 == 13 then (if slice_index xs 1 == 13 then 4 else 4 + little_number 2 (drop 2 xs))
    else 1)))

spelled_length-flux : (ticks : ℕ) → ticks < 65536 → (later : List ℕ) (one two : Bool)
    → (nat_le 14 ticks && nat_lt ticks 256) ≡ one → nat_lt ticks 2048 ≡ two
    → spelled_length ((if one then ticks ∷ [] else (if two then (ticks / 256) ∷ (ticks % 256) ∷ []
    else 12 ∷ (ticks / 256) ∷ (ticks % 256) ∷ [])) ++ later)
    ≡ length {A = ℕ} (if one then ticks ∷ [] else (if two then (ticks / 256) ∷ (ticks % 256) ∷ []
    else 12 ∷ (ticks / 256) ∷ (ticks % 256) ∷ []))
spelled_length-flux ticks fits later true two is_one is_two =
    let low : 14 ≤ ticks = grind (arith, nat_tests) in
    let a : nat_lt ticks 8 ≡ false = grind (arith, nat_tests, low) in
    let b : nat_le ticks 10 ≡ false = grind (arith, nat_tests, low) in
    let c : (ticks == 12) ≡ false = grind (arith, nat_tests, low) in
    let d : (ticks == 13) ≡ false = grind (arith, nat_tests, low) in
    rw (a, b, c, d) refl
spelled_length-flux ticks fits later false true is_one is_two =
    let small : ticks < 2048 = grind (arith, nat_tests) in
    let high : ticks / 256 < 8 = omega arith in
    let a : nat_lt (ticks / 256) 8 ≡ true = grind (arith, nat_tests, high) in
    rw a refl
spelled_length-flux ticks fits later false false is_one is_two = refl

spelled_length-nop : (count : ℕ) (later : List ℕ) → 1 ≤ count → count ≤ 3
    → spelled_length (spelling (Nop count) ++ later) ≡ length (spelling (Nop count))
spelled_length-nop zero later low high = absurd (omega arith)
spelled_length-nop (suc zero) later low high = refl
spelled_length-nop (suc (suc zero)) later low high = refl
spelled_length-nop (suc (suc (suc zero))) later low high = refl
spelled_length-nop (suc (suc (suc (suc n)))) later low high = absurd (omega arith)

spelled_length-is : (block : Block) (later : List ℕ) → IsWritable block
    → spelled_length (spelling block ++ later) ≡ length (spelling block)
spelled_length-is (Flux ticks) later fits = spelled_length-flux ticks fits later _ _ refl refl
spelled_length-is Overflow later fits = refl
spelled_length-is (Nop count) later fits = spelled_length-nop count later fits.0 fits.1
spelled_length-is (StreamInfo position time) later fits = refl
spelled_length-is (Index position sample counter) later fits = refl
spelled_length-is (StreamEnd position code) later fits = refl
spelled_length-is (Info size) later fits =
    let e = little_number-reads_back 2 size (replicate size 32 ++ later) fits in
    omega (arith, e, length-replicate {A = ℕ} size 32)
spelled_length-is End later fits = refl

-- no spelling begins another
pub spelling-prefix : (a b : Block) (later : List ℕ) → IsWritable a → IsWritable b → spelling a ++ later ≡ spelling b
    → spelling a ≡ spelling b
spelling-prefix a b later fits_a fits_b is =
    let lengths : length (spelling a) ≡ length (spelling b) =
    sym (spelled_length-is a later fits_a) ∙ ap spelled_length (is ∙ sym (append-nil (spelling b)))
    ∙ spelled_length-is b [] fits_b in
    let empty : length later ≡ 0 = omega (arith, lengths, length-append (spelling a) later, ap length is) in
    sym (append-nil (spelling a)) ∙ ap (λ l. spelling a ++ l) (sym (length-zero later empty)) ∙ is
  where
    length-zero : (l : List ℕ) → length l ≡ 0 → l ≡ []
    length-zero [] e = refl
    length-zero (x ∷ xs) e = absurd (omega arith)

-- a block that needs no more than there is
needs-enough : (offset count : ℕ) (bytes : List ℕ) (reading : BlockOrFault) → offset + count ≤ LIMIT → count ≤ length bytes
    → needs offset count bytes reading ≡ reading
needs-enough offset count bytes reading limit enough =
    let a : nat_lt LIMIT (offset + count) ≡ false = grind (arith, nat_tests, limit) in
    let b : nat_lt (length bytes) count ≡ false = grind (arith, nat_tests, enough) in
    rw (a, b) refl

-- four bytes of a number read back
number_back : (n : ℕ) (rest : List ℕ) → n < 2 ^ 32 → little_number 4 (little_bytes 4 n ++ rest) ≡ n
number_back n rest fits = little_number-reads_back 4 n rest fits

at_position-same : (counted : ℕ) (reading : BlockOrFault) → at_position counted counted reading ≡ reading
at_position-same counted reading = rw (eq-eqb counted counted refl) refl

read_info : (offset counted : ℕ) (ended : Bool) (position time : ℕ) (rest : List ℕ) → position < 2 ^ 32 → time < 2 ^ 32
    → offset + 12 ≤ LIMIT → position ≡ counted
    → piece_at offset counted ended (spelling (StreamInfo position time) ++ rest) ≡ piece (StreamInfo position time) 12
read_info offset counted ended position time rest fits more limit at =
    let y : List ℕ = spelling (StreamInfo position time) ++ rest in
    let enough : 12 ≤ length y = omega arith in
    let first : number_at 4 y ≡ position = number_back position (little_bytes 4 time ++ rest) fits in
    let second : number_at 8 y ≡ time = number_back time rest more in
    needs-enough offset 1 y (piece_from offset counted ended 13 y) (omega arith) (omega arith)
    ∙ needs-enough offset 4 y (out_of_band_piece offset counted 1 8 y) (omega arith) (omega arith)
    ∙ needs-enough offset 12 y (at_position counted (number_at 4 y) (piece (StreamInfo (number_at 4 y) (number_at 8 y)) 12))
    limit enough
    ∙ ap (λ n. at_position counted n (piece (StreamInfo n (number_at 8 y)) 12)) (first ∙ at)
    ∙ at_position-same counted (piece (StreamInfo counted (number_at 8 y)) 12)
    ∙ ap (λ n. piece (StreamInfo n (number_at 8 y)) 12) (sym at)
    ∙ ap (λ n. piece (StreamInfo position n) 12) second

read_index : (offset counted : ℕ) (ended : Bool) (position sample counter : ℕ) (rest : List ℕ) → position < 2 ^ 32
    → sample < 2 ^ 32 → counter < 2 ^ 32 → offset + 16 ≤ LIMIT
    → piece_at offset counted ended (spelling (Index position sample counter) ++ rest)
    ≡ piece (Index position sample counter) 16
read_index offset counted ended position sample counter rest fits more most limit =
    let y : List ℕ = spelling (Index position sample counter) ++ rest in
    let first : number_at 4 y ≡ position =
    number_back position (little_bytes 4 sample ++ (little_bytes 4 counter ++ rest)) fits in
    let second : number_at 8 y ≡ sample = number_back sample (little_bytes 4 counter ++ rest) more in
    let third : number_at 12 y ≡ counter = number_back counter rest most in
    needs-enough offset 1 y (piece_from offset counted ended 13 y) (omega arith) (omega arith)
    ∙ needs-enough offset 4 y (out_of_band_piece offset counted 2 12 y) (omega arith) (omega arith)
    ∙ needs-enough offset 16 y (piece (Index (number_at 4 y) (number_at 8 y) (number_at 12 y)) 16) limit (omega arith)
    ∙ ap (λ n. piece (Index n (number_at 8 y) (number_at 12 y)) 16) first
    ∙ ap (λ n. piece (Index position n (number_at 12 y)) 16) second
    ∙ ap (λ n. piece (Index position sample n) 16) third

read_stream_end : (offset counted : ℕ) (ended : Bool) (position : ℕ) (rest : List ℕ) → position < 2 ^ 32
    → offset + 12 ≤ LIMIT → position ≡ counted
    → piece_at offset counted ended (spelling (StreamEnd position 0) ++ rest) ≡ piece (StreamEnd position 0) 12
read_stream_end offset counted ended position rest fits limit at =
    let y : List ℕ = spelling (StreamEnd position 0) ++ rest in
    let first : number_at 4 y ≡ position = number_back position (little_bytes 4 0 ++ rest) fits in
    needs-enough offset 1 y (piece_from offset counted ended 13 y) (omega arith) (omega arith)
    ∙ needs-enough offset 4 y (out_of_band_piece offset counted 3 8 y) (omega arith) (omega arith)
    ∙ needs-enough offset 12 y (at_position counted (number_at 4 y) (piece (StreamEnd (number_at 4 y) 0) 12))
    limit (omega arith)
    ∙ ap (λ n. at_position counted n (piece (StreamEnd n 0) 12)) (first ∙ at)
    ∙ at_position-same counted (piece (StreamEnd counted 0) 12)
    ∙ ap (λ n. piece (StreamEnd n 0) 12) (sym at)

read_text : (offset counted : ℕ) (ended : Bool) (size : ℕ) (content rest : List ℕ) → size < 2 ^ 16 → length content ≡ size
    → offset + (4 + size) ≤ LIMIT
    → piece_at offset counted ended ((out_of_band 4 size ++ content) ++ rest) ≡ piece (Info size) (4 + size)
read_text offset counted ended size content rest fits long limit =
    let y : List ℕ = (out_of_band 4 size ++ content) ++ rest in
    let size_is : little_number 2 (drop 2 y) ≡ size = little_number-reads_back 2 size (content ++ rest) fits in
    needs-enough offset 1 y (piece_from offset counted ended 13 y) (omega arith) (omega arith)
    ∙ needs-enough offset 4 y (out_of_band_piece offset counted 4 (little_number 2 (drop 2 y)) y) (omega arith) (omega arith)
    ∙ ap (λ n. out_of_band_piece offset counted 4 n y) size_is
    ∙ needs-enough offset (4 + size) y (piece (Info size) (4 + size)) limit
    (omega (arith, long, length-append content rest))

read_end : (offset counted : ℕ) (ended : Bool) (rest : List ℕ) → offset + 4 ≤ LIMIT
    → piece_at offset counted ended (13 ∷ 13 ∷ 13 ∷ 13 ∷ rest) ≡ piece End 4
read_end offset counted ended rest limit =
    let y : List ℕ = 13 ∷ 13 ∷ 13 ∷ 13 ∷ rest in
    needs-enough offset 1 y (piece_from offset counted ended 13 y) (omega arith) (omega arith)
    ∙ needs-enough offset 4 y (out_of_band_piece offset counted 13 3341 y) (omega arith) (omega arith)

read_overflow : (offset counted : ℕ) (rest : List ℕ) → offset + 1 ≤ LIMIT
    → piece_at offset counted false (11 ∷ rest) ≡ piece Overflow 1
read_overflow offset counted rest limit =
    needs-enough offset 1 (11 ∷ rest) (piece_from offset counted false 11 (11 ∷ rest)) (omega arith) (omega arith)

read_nop : (offset counted count : ℕ) (content rest : List ℕ) → 1 ≤ count → count < 4 → length content + 1 ≡ count
    → offset + count ≤ LIMIT
    → piece_at offset counted false ((7 + count) ∷ (content ++ rest)) ≡ piece (Nop count) count
read_nop offset counted count content rest some few long limit =
    let y : List ℕ = (7 + count) ∷ (content ++ rest) in
    let a : (7 + count == 13) ≡ false = grind (arith, nat_tests, few) in
    let b : nat_le (7 + count) 7 ≡ false = grind (arith, nat_tests, some) in
    let c : nat_le (7 + count) 10 ≡ true = grind (arith, nat_tests, few) in
    let back : (7 + count) - 7 ≡ count = omega arith in
    needs-enough offset 1 y (piece_from offset counted false (7 + count) y) (omega arith) (omega arith)
    ∙ rw (a, b, c, back) (needs-enough offset count y (piece (Nop count) count) limit
    (omega (arith, long, length-append content rest)))

read_one : (offset counted ticks : ℕ) (rest : List ℕ) → 14 ≤ ticks → offset + 1 ≤ LIMIT
    → piece_at offset counted false (ticks ∷ rest) ≡ piece (Flux ticks) 1
read_one offset counted ticks rest low limit =
    let a : (ticks == 13) ≡ false = grind (arith, nat_tests, low) in
    let b : nat_le ticks 7 ≡ false = grind (arith, nat_tests, low) in
    let c : nat_le ticks 10 ≡ false = grind (arith, nat_tests, low) in
    let d : (ticks == 11) ≡ false = grind (arith, nat_tests, low) in
    let e : (ticks == 12) ≡ false = grind (arith, nat_tests, low) in
    needs-enough offset 1 (ticks ∷ rest) (piece_from offset counted false ticks (ticks ∷ rest)) (omega arith) (omega arith)
    ∙ rw (a, b, c, d, e) refl

read_two : (offset counted high low : ℕ) (rest : List ℕ) → high < 8 → offset + 2 ≤ LIMIT
    → piece_at offset counted false (high ∷ low ∷ rest) ≡ piece (Flux (high * 256 + low)) 2
read_two offset counted high low rest small limit =
    let y : List ℕ = high ∷ low ∷ rest in
    let a : (high == 13) ≡ false = grind (arith, nat_tests, small) in
    let b : nat_le high 7 ≡ true = grind (arith, nat_tests, small) in
    needs-enough offset 1 y (piece_from offset counted false high y) (omega arith) (omega arith)
    ∙ rw (a, b) (needs-enough offset 2 y (piece (Flux (high * 256 + low)) 2) limit (omega arith))

read_three : (offset counted high low : ℕ) (rest : List ℕ) → offset + 3 ≤ LIMIT
    → piece_at offset counted false (12 ∷ high ∷ low ∷ rest) ≡ piece (Flux (high * 256 + low)) 3
read_three offset counted high low rest limit =
    let y : List ℕ = 12 ∷ high ∷ low ∷ rest in
    needs-enough offset 1 y (piece_from offset counted false 12 y) (omega arith) (omega arith)
    ∙ needs-enough offset 3 y (piece (Flux (high * 256 + low)) 3) limit (omega arith)

abbrev Reads : ℕ → ℕ → Bool → Block → List ℕ → List ℕ → Type 0
Reads offset counted ended block rest bytes = piece_at offset counted ended (bytes ++ rest) ≡ piece block (length bytes)

-- after no StreamEnd
in_stream : (offset counted : ℕ) (ended : Bool) (bytes : List ℕ) (reading : BlockOrFault) → ended ≡ false
    → piece_at offset counted false bytes ≡ reading → piece_at offset counted ended bytes ≡ reading
in_stream offset counted ended bytes reading free is = ap (λ e. piece_at offset counted e bytes) free ∙ is

-- a spelling reads as its block
pub read_spelled : (offset counted : ℕ) (ended : Bool) (block : Block) (bytes rest : List ℕ) → Spells bytes block
    → IsWritable block → MayStand counted ended block → offset + length bytes ≤ LIMIT
    → piece_at offset counted ended (bytes ++ rest) ≡ piece block (length bytes)
read_spelled offset counted ended (Flux ticks) bytes rest (inl (low, small, is)) fits stands limit =
    subst (Reads offset counted ended (Flux ticks) rest) (sym is)
    (in_stream offset counted ended (ticks ∷ rest) (piece (Flux ticks) 1) stands
    (read_one offset counted ticks rest low (omega (arith, limit, ap length is))))
read_spelled offset counted ended (Flux ticks) bytes rest (inr (inl (high, low, small, is, value))) fits stands limit =
    subst (Reads offset counted ended (Flux ticks) rest) (sym is)
    (in_stream offset counted ended (high ∷ low ∷ rest) (piece (Flux ticks) 2) stands
    (read_two offset counted high low rest small (omega (arith, limit, ap length is))
    ∙ ap (λ t. piece (Flux t) 2) (sym value)))
read_spelled offset counted ended (Flux ticks) bytes rest (inr (inr (high, low, is, value))) fits stands limit =
    subst (Reads offset counted ended (Flux ticks) rest) (sym is)
    (in_stream offset counted ended (12 ∷ high ∷ low ∷ rest) (piece (Flux ticks) 3) stands
    (read_three offset counted high low rest (omega (arith, limit, ap length is))
    ∙ ap (λ t. piece (Flux t) 3) (sym value)))
read_spelled offset counted ended Overflow bytes rest is fits stands limit =
    subst (Reads offset counted ended Overflow rest) (sym is)
    (in_stream offset counted ended (11 ∷ rest) (piece Overflow 1) stands
    (read_overflow offset counted rest (omega (arith, limit, ap length is))))
read_spelled offset counted ended (Nop count) bytes rest (content, few, long, is) fits stands limit =
    let size : suc (length content) ≡ count = omega (arith, long) in
    subst (Reads offset counted ended (Nop count) rest) (sym is)
    (in_stream offset counted ended ((7 + count) ∷ (content ++ rest)) (piece (Nop count) (suc (length content))) stands
    (read_nop offset counted count content rest fits.0 few long (omega (arith, limit, ap length is, long))
    ∙ ap (piece (Nop count)) (sym size)))
read_spelled offset counted ended (StreamInfo position time) bytes rest is fits stands limit =
    subst (Reads offset counted ended (StreamInfo position time) rest) (sym is)
    (read_info offset counted ended position time rest fits.0 fits.1 (omega (arith, limit, ap length is)) stands)
read_spelled offset counted ended (Index position sample counter) bytes rest is fits stands limit =
    subst (Reads offset counted ended (Index position sample counter) rest) (sym is)
    (read_index offset counted ended position sample counter rest fits.0 fits.1 fits.2 (omega (arith, limit, ap length is)))
read_spelled offset counted ended (StreamEnd position code) bytes rest is fits stands limit =
    let good : bytes ≡ spelling (StreamEnd position 0) = is ∙ ap (λ n. spelling (StreamEnd position n)) stands.1 in
    subst (λ n. Reads offset counted ended (StreamEnd position n) rest bytes) (sym stands.1)
    (subst (Reads offset counted ended (StreamEnd position 0) rest) (sym good)
    (read_stream_end offset counted ended position rest fits.0 (omega (arith, limit, ap length is)) stands.0))
read_spelled offset counted ended (Info size) bytes rest (content, long, is) fits stands limit =
    let whole : length (out_of_band 4 size ++ content) ≡ 4 + size = omega (arith, long) in
    subst (Reads offset counted ended (Info size) rest) (sym is)
    (read_text offset counted ended size content rest fits long (omega (arith, limit, ap length is, whole))
    ∙ ap (piece (Info size)) (sym whole))
read_spelled offset counted ended End bytes rest is fits stands limit =
    subst (Reads offset counted ended End rest) (sym is)
    (read_end offset counted ended rest (omega (arith, limit, ap length is)))

-- a block that may stand there is the one that is read
pub read_block : (offset counted : ℕ) (ended : Bool) (bytes : List ℕ) (p : SpelledBlock) → IsBlockOf counted ended bytes p
    → offset + p.bytes ≤ LIMIT → piece_at offset counted ended bytes ≡ Ok p
read_block offset counted ended bytes p block limit =
    let long : length (take p.bytes bytes) ≡ p.bytes = length-take-le p.bytes bytes block.within in
    ap (piece_at offset counted ended) (sym (take-append-drop p.bytes bytes))
    ∙ read_spelled offset counted ended p.block (take p.bytes bytes) (drop p.bytes bytes) block.spelled block.numbers block.place
    (omega (arith, limit, long))
    ∙ ap (piece p.block) long
