-- A stream with an Info block in front of it is a stream of the same times.
use Rattle.std.proofs.Common.{◌≡◌, ◌≤◌, ◌<◌, ◌⊎◌, ℕ, zero, suc, ◌+◌, ◌-◌, ◌^◌, ◌++◌, Bool, true, false, cond, List, [], ◌∷◌, length, drop, find, unwrap_or, refl, sym, ap, ◌∙◌, arith, inl, inr, length-append, Option, Some, None, Ok, Err}
use Rattle.std.specs.List.{range_with_len}
use Rattle.std.proofs.Math.Seq.{drop-append-add}
use Rattle.std.proofs.lemmas.Bool.{cases_lt}
use Rattle.byteorder.specs.Endian.{little_bytes, little_number}
use Rattle.flux_base.specs.lemmas.Finding.{find-first}
use Rattle.kryo_stream.specs.Blocks.{out_of_band}
use Rattle.kryo_stream.specs.Growth.{StreamsStay}
use Rattle.kryo_stream.specs.Pieces.{BlockOrFault, info_piece, out_of_band_piece, piece, piece_at, piece_from}
use Rattle.kryo_stream.specs.Protocol.{INFO_TYPE, LIMIT}
use Rattle.kryo_stream.specs.Stream.{fault_at, first_fault, has_ended, in_stream_bytes, is_last, last_block, piece_behind, pieces, stops_at, stream, indexes_of, stream_length, times_of, total_bytes, turn_fault, with_piece}
use Rattle.kryo_stream.specs.declared.block.Block.TheVariants.{Info}
use Rattle.kryo_stream.specs.declared.block.SpelledBlock.{SpelledBlock}
use Rattle.std.proofs.lemmas.List.Sums.{sum_by_push}
use Rattle.stream_texts.specs.Texts.{IsBehindText, text_block}
use Rattle.stream_texts.proofs.FrontTexts.{in_stream-front, indexes-front, times-front, total-front, turn-front}
use Rattle.stream_texts.proofs.Moved.{moved_at, needs-ok}

-- where a search for the first number that passes ends, or would: all before it fail, and it passes or is the last
before_found : (f : ℕ → Bool) (a n last : ℕ) → last ≤ a + n → (k : ℕ) → a ≤ k → k < unwrap_or (find f (range_with_len a n)) last → f k ≡ false
before_found f a zero last within k from below = absurd (omega (arith, within, from, below))
before_found f a (suc n) last within k from below =
    by (λ more low. before_found f (a + 1) n last (omega (arith, within)) k (omega (arith, more)) low) (f a) refl (cases_lt a k) below
  where
    by : (a < k → k < unwrap_or (find f (range_with_len (a + 1) n)) last → f k ≡ false)
        → (b : Bool) → f a ≡ b → (a < k) ⊎ (k ≤ a) → k < unwrap_or (cond b (Some a) (find f (range_with_len (a + 1) n))) last → f k ≡ false
    by rest true passes more low = absurd (omega (arith, from, low))
    by rest false fails (inl more) low = rest more low
    by rest false fails (inr here) low = let same : a ≡ k = omega (arith, from, here) in ap f (sym same) ∙ fails

found_or : (f : ℕ → Bool) (a n last : ℕ) → (f (unwrap_or (find f (range_with_len a n)) last) ≡ true) ⊎ (unwrap_or (find f (range_with_len a n)) last ≡ last)
found_or f a zero last = inr refl
found_or f a (suc n) last = by (found_or f (a + 1) n last) (f a) refl
  where
    by : (f (unwrap_or (find f (range_with_len (a + 1) n)) last) ≡ true) ⊎ (unwrap_or (find f (range_with_len (a + 1) n)) last ≡ last)
        → (b : Bool) → f a ≡ b → (f (unwrap_or (cond b (Some a) (find f (range_with_len (a + 1) n))) last) ≡ true) ⊎ (unwrap_or (cond b (Some a) (find f (range_with_len (a + 1) n))) last ≡ last)
    by rest true passes = inl passes
    by rest false fails = rest

found_within : (f : ℕ → Bool) (a n last : ℕ) → last < a + n → unwrap_or (find f (range_with_len a n)) last < a + n
found_within f a zero last within = within
found_within f a (suc n) last within = by (found_within f (a + 1) n last (omega (arith, within))) (f a)
  where
    by : unwrap_or (find f (range_with_len (a + 1) n)) last < a + 1 + n → (b : Bool) → unwrap_or (cond b (Some a) (find f (range_with_len (a + 1) n))) last < a + suc n
    by rest true = omega arith
    by rest false = omega (arith, rest)

-- a block that is not the last, and one whose stream has no fault, is there
going_on : (r : BlockOrFault) → is_last r ≡ false → (p : SpelledBlock) × (r ≡ Ok p)
going_on (Ok p) goes = (p, refl)
going_on (Err fault) goes = absurd (cc)

ended : (x : List ℕ) (n : ℕ) (r : BlockOrFault) → fault_at x n r ≡ None → (p : SpelledBlock) × (r ≡ Ok p) × (turn_fault (pieces x (n + 1)) ≡ None)
ended x n (Ok p) none = (p, refl, none)
ended x n (Err fault) none = absurd (cc)

pushed : (ps : List SpelledBlock) (p : SpelledBlock) → total_bytes (ps ++ p ∷ []) ≡ total_bytes ps + p.bytes
pushed ps p = sum_by_push (λ q. q.bytes) ps p

-- what stands before a number of blocks has no more bytes than what stands before a later one
with_more : (ps : List SpelledBlock) (r : BlockOrFault) → total_bytes ps ≤ total_bytes (with_piece ps r)
with_more ps (Ok p) = omega (arith, pushed ps p)
with_more ps (Err fault) = omega arith

grows : (x : List ℕ) (k more : ℕ) → total_bytes (pieces x k) ≤ total_bytes (pieces x (k + more))
grows x k zero = (let same : k + 0 ≡ k = omega arith in omega (arith, ap (λ (n : ℕ). total_bytes (pieces x n)) same))
grows x k (suc more) =
    let next : k + suc more ≡ suc (k + more) = omega arith in
    let rest = grows x k more in
    let step = with_more (pieces x (k + more)) (piece_behind x (pieces x (k + more))) in
    omega (arith, rest, step, ap (λ (n : ℕ). total_bytes (pieces x n)) next)

grows_to : (x : List ℕ) (k n : ℕ) → k ≤ n → total_bytes (pieces x k) ≤ total_bytes (pieces x n)
grows_to x k n low =
    let whole : k + (n - k) ≡ n = omega (arith, low) in
    let rest = grows x k (n - k) in
    omega (arith, rest, ap (λ (m : ℕ). total_bytes (pieces x m)) whole)

-- the number in two bytes
pair_is : (n : ℕ) (rest : List ℕ) → n < 65536 → little_number 2 (little_bytes 2 n ++ rest) ≡ n
pair_is n rest low = omega (arith, low)

module _ (stay : StreamsStay) (text x : List ℕ) (short : length text < 2 ^ 16) (none : first_fault x ≡ None)
    (room : length (text_block text) + stream_length x ≤ LIMIT) where
  abbrev size : ℕ
  size = length text

  abbrev front : SpelledBlock
  front = record { block = Info size; bytes = 4 + size }

  abbrev y : List ℕ
  y = text_block text ++ x

  abbrev last : ℕ
  last = last_block x

  length-block : length (text_block text) ≡ 4 + size
  length-block = length-append (out_of_band INFO_TYPE size) text

  length-y : length y ≡ 4 + size + length x
  length-y = (let sum = length-append (text_block text) x in omega (arith, sum, length-block))

  -- each block of x, up to the last
  is_there : (k : ℕ) → k ≤ last → (p : SpelledBlock) × (piece_behind x (pieces x k) ≡ Ok p)
  is_there k low = by (cases_lt k last)
    where
      by : (k < last) ⊎ (last ≤ k) → (p : SpelledBlock) × (piece_behind x (pieces x k) ≡ Ok p)
      by (inl less) = going_on (piece_behind x (pieces x k)) (before_found (stops_at x) 0 (length x + 1) (length x) (omega arith) k (omega arith) less)
      by (inr at) =
          let same : last ≡ k = omega (arith, low, at) in
          let end = ended x last (piece_behind x (pieces x last)) none in
          (end.0, ap (λ (n : ℕ). piece_behind x (pieces x n)) (sym same) ∙ end.1)

  next-is : (k : ℕ) (low : k ≤ last) → pieces x (suc k) ≡ pieces x k ++ (is_there k low).0 ∷ []
  next-is k low = ap (with_piece (pieces x k)) (is_there k low).1

  next-bytes : (k : ℕ) (low : k ≤ last) → total_bytes (pieces x (suc k)) ≡ total_bytes (pieces x k) + (is_there k low).0.bytes
  next-bytes k low = ap total_bytes (next-is k low) ∙ pushed (pieces x k) (is_there k low).0

  next-few : (k : ℕ) (low : k ≤ last) → total_bytes (pieces x k) + (is_there k low).0.bytes ≤ stream_length x
  next-few k low =
      let all = grows_to x (suc k) (last + 1) (omega (arith, low)) in
      omega (arith, all, next-bytes k low)

  -- the same block stands behind the text
  behind-front : (k : ℕ) (low : k ≤ last) → piece_behind y (front ∷ pieces x k) ≡ Ok (is_there k low).0
  behind-front k low =
      let ps = pieces x k in
      let p = (is_there k low).0 in
      let total : total_bytes (front ∷ ps) ≡ (4 + size) + total_bytes ps = total-front size (4 + size) ps in
      let place : total_bytes (front ∷ ps) ≡ length (text_block text) + total_bytes ps = omega (arith, total, length-block) in
      let rest : drop (total_bytes (front ∷ ps)) y ≡ drop (total_bytes ps) x = ap (λ (n : ℕ). drop n y) place ∙ drop-append-add (text_block text) x (total_bytes ps) in
      let moved = moved_at (4 + size) (total_bytes ps) (in_stream_bytes ps) (has_ended ps) (drop (total_bytes ps) x) p (is_there k low).1 in
      let few = next-few k low in
      ap (λ (n : ℕ). piece_at n (in_stream_bytes (front ∷ ps)) (has_ended ps) (drop (total_bytes (front ∷ ps)) y)) total
      ∙ ap (λ (n : ℕ). piece_at ((4 + size) + total_bytes ps) n (has_ended ps) (drop (total_bytes (front ∷ ps)) y)) (in_stream-front size (4 + size) ps)
      ∙ ap (piece_at ((4 + size) + total_bytes ps) (in_stream_bytes ps) (has_ended ps)) rest
      ∙ moved.1 (omega (arith, few, room, length-block))

  -- the text is the first block
  first-is : piece_behind y [] ≡ Ok front
  first-is =
      let has_size : little_number 2 (little_bytes 2 size ++ (text ++ x)) ≡ size = pair_is size (text ++ x) short in
      needs-ok 0 1 y (piece_from 0 0 false 13 y) (omega arith) (omega (arith, length-y))
      ∙ needs-ok 0 4 y (out_of_band_piece 0 0 4 (little_number 2 (drop 2 y)) y) (omega arith) (omega (arith, length-y))
      ∙ ap (λ (n : ℕ). info_piece 0 n y) has_size
      ∙ needs-ok 0 (4 + size) y (piece (Info size) (4 + size)) (omega (arith, room, length-block)) (omega (arith, length-y))

  pieces-front : (k : ℕ) → k ≤ last + 1 → pieces y (suc k) ≡ front ∷ pieces x k
  pieces-front zero low = ap (with_piece []) first-is
  pieces-front (suc k) low =
      let here : k ≤ last = omega (arith, low) in
      let before = pieces-front k (omega (arith, low)) in
      ap (λ (ps : List SpelledBlock). with_piece ps (piece_behind y ps)) before
      ∙ ap (with_piece (front ∷ pieces x k)) (behind-front k here)
      ∙ ap (λ (ps : List SpelledBlock). front ∷ ps) (sym (next-is k here))

  stops-front : (k : ℕ) → k ≤ last → stops_at y (suc k) ≡ stops_at x k
  stops-front k low =
      ap (λ (ps : List SpelledBlock). is_last (piece_behind y ps)) (pieces-front k (omega (arith, low)))
      ∙ ap is_last (behind-front k low ∙ sym (is_there k low).1)

  -- each block has bytes
  many : (k : ℕ) → k ≤ last + 1 → k ≤ total_bytes (pieces x k)
  many zero low = omega arith
  many (suc k) low =
      let here : k ≤ last = omega (arith, low) in
      let before = many k (omega (arith, low)) in
      let ps = pieces x k in
      let some = moved_at 0 (total_bytes ps) (in_stream_bytes ps) (has_ended ps) (drop (total_bytes ps) x) (is_there k here).0 (is_there k here).1 in
      omega (arith, before, some.0, next-bytes k here)

  last-stops : stops_at x last ≡ true
  last-stops = by (found_or (stops_at x) 0 (length x + 1) (length x))
    where
      by : (stops_at x last ≡ true) ⊎ (last ≡ length x) → stops_at x last ≡ true
      by (inl stops) = stops
      by (inr long) =
          let within = (stay x [] none).within in
          absurd (omega (arith, many (last + 1) (omega arith), within, long))

  last-low : last < length x + 1
  last-low = (let below = found_within (stops_at x) 0 (length x + 1) (length x) (omega arith) in omega (arith, below))

  last-front : last_block y ≡ suc last
  last-front =
      let at : 0 + suc last ≡ suc last = omega arith in
      ap (λ (o : Option ℕ). unwrap_or o (length y))
      (find-first (stops_at y) 0 (suc last) (length y + 1) (omega (arith, length-y, last-low)) earlier
      (ap (stops_at y) at ∙ stops-front last (omega arith) ∙ last-stops)) ∙ at
    where
      earlier : (k : ℕ) → 0 ≤ k → k < 0 + suc last → stops_at y k ≡ false
      earlier zero from low = ap is_last first-is
      earlier (suc k) from low =
          stops-front k (omega (arith, low)) ∙ before_found (stops_at x) 0 (length x + 1) (length x) (omega arith) k (omega arith) (omega (arith, low))

  stream-front : stream y ≡ front ∷ stream x
  stream-front =
      let next : suc last + 1 ≡ suc (last + 1) = omega arith in
      ap (λ (n : ℕ). pieces y (n + 1)) last-front ∙ ap (pieces y) next ∙ pieces-front (last + 1) (omega arith)

  pub is_behind : IsBehindText text x
  is_behind =
      let end = ended x last (piece_behind x (pieces x last)) none in
      let at = behind-front last (omega arith) in
      let next : suc last + 1 ≡ suc (last + 1) = omega arith in
      record {
        no_fault =
            ap (λ (n : ℕ). fault_at y n (piece_behind y (pieces y n))) last-front
            ∙ ap (λ (ps : List SpelledBlock). fault_at y (suc last) (piece_behind y ps)) (pieces-front last (omega arith))
            ∙ ap (fault_at y (suc last)) at
            ∙ ap turn_fault (ap (pieces y) next ∙ pieces-front (last + 1) (omega arith))
            ∙ turn-front size (4 + size) (pieces x (last + 1)) end.2;
        times_are = ap times_of stream-front ∙ times-front size (4 + size) (stream x);
        indexes_are = ap indexes_of stream-front ∙ indexes-front size (4 + size) (stream x);
        whole = (let sum = ap total_bytes stream-front ∙ total-front size (4 + size) (stream x) in omega (arith, sum, length-block));
      }
