-- The blocks of a list of bytes, and how they stay as more bytes come.
use Rattle.std.proofs.Common.{◌≡◌, ◌≢◌, ℕ, zero, suc, ◌+◌, ◌<◌, ◌≤◌, ◌++◌, true, false, List, length, drop, refl, sym, ap, ◌∙◌, arith, length-drop, Ok, Err, subst}
use Rattle.std.proofs.lemmas.List.{drop-append-le}
use Rattle.std.specs.Prelude.{unwrap_or}
use Rattle.flux_base.specs.lemmas.Finding.{find-first}
use Rattle.kryo_stream.specs.declared.block.SpelledBlock.{SpelledBlock}
use Rattle.kryo_stream.specs.declared.fault.StreamFault.TheVariants.{Truncated}
use Rattle.kryo_stream.specs.Pieces.{BlockOrFault}
use Rattle.kryo_stream.specs.Stream.{total_bytes, in_stream_bytes, has_ended, piece_after, piece_behind, pieces, with_piece, more_pieces, is_last, stops_at, last_block}
use Rattle.kryo_stream.proofs.Lists.{sum_by-push}
use Rattle.kryo_stream.proofs.Pieces.{piece_at-grows, piece_at-lies}
use Rattle.kryo_stream.proofs.Readings.{Grows, Lies}

-- a block that was read lies within the bytes and the limit
pub piece_behind-lies : (x : List ℕ) (ps : List SpelledBlock) → Lies (total_bytes ps) (drop (total_bytes ps) x) (piece_behind x ps)
piece_behind-lies x ps = piece_at-lies (total_bytes ps) (in_stream_bytes ps) (has_ended ps) (drop (total_bytes ps) x)

with_piece-inside : (x : List ℕ) (ps : List SpelledBlock) (r : BlockOrFault) → Lies (total_bytes ps) (drop (total_bytes ps) x) r
    → total_bytes ps ≤ length x → total_bytes (with_piece ps r) ≤ length x
with_piece-inside x ps (Ok p) lies inside =
    omega (arith, lies.1, length-drop (total_bytes ps) x, inside, sum_by-push (λ q. q.bytes) ps p)
with_piece-inside x ps (Err _) lies inside = inside

-- the blocks lie within the bytes
pub pieces-inside : (x : List ℕ) (n : ℕ) → total_bytes (pieces x n) ≤ length x
pieces-inside x zero = omega arith
pieces-inside x (suc n) = with_piece-inside x (pieces x n) (piece_behind x (pieces x n)) (piece_behind-lies x (pieces x n)) (pieces-inside x n)

-- a block stays as it is as more bytes come, unless the bytes were too few
piece_behind-grows : (x z : List ℕ) (ps : List SpelledBlock) → total_bytes ps ≤ length x
    → Grows (piece_behind x ps) (piece_behind (x ++ z) ps)
piece_behind-grows x z ps inside = subst (λ y. Grows (piece_behind x ps) (piece_after ps y)) (sym (drop-append-le (total_bytes ps) x z inside))
    (piece_at-grows (total_bytes ps) (in_stream_bytes ps) (has_ended ps) (drop (total_bytes ps) x) z)

not_last : (r : BlockOrFault) → is_last r ≡ false → r ≢ Err Truncated
not_last (Ok p) is = λ same. cc
not_last (Err f) is = cc

-- so the blocks before the last one stay
pub pieces-grow : (x z : List ℕ) (n : ℕ) → ((k : ℕ) → k < n → stops_at x k ≡ false) → pieces (x ++ z) n ≡ pieces x n
pieces-grow x z zero going = refl
pieces-grow x z (suc n) going =
    let before : pieces (x ++ z) n ≡ pieces x n = pieces-grow x z n (λ k low. going k (omega (arith, low))) in
    let next : piece_behind (x ++ z) (pieces x n) ≡ piece_behind x (pieces x n) =
    piece_behind-grows x z (pieces x n) (pieces-inside x n) (not_last (piece_behind x (pieces x n)) (going n (omega arith))) in
    ap (more_pieces (x ++ z)) before ∙ ap (with_piece (pieces x n)) next

-- and the block after them too, unless the bytes were too few
pub next-grows : (x z : List ℕ) (n : ℕ) → ((k : ℕ) → k < n → stops_at x k ≡ false) → piece_behind x (pieces x n) ≢ Err Truncated
    → piece_behind (x ++ z) (pieces (x ++ z) n) ≡ piece_behind x (pieces x n)
next-grows x z n going enough =
    ap (piece_behind (x ++ z)) (pieces-grow x z n going) ∙ piece_behind-grows x z (pieces x n) (pieces-inside x n) enough

pub goes_on-grow : (x z : List ℕ) (n : ℕ) → ((k : ℕ) → k < n → stops_at x k ≡ false) → (k : ℕ) → k < n → stops_at (x ++ z) k ≡ false
goes_on-grow x z n going k low =
    ap is_last (next-grows x z k (λ j lower. going j (omega (arith, lower, low))) (not_last (piece_behind x (pieces x k)) (going k low)))
    ∙ going k low

-- the last block is the first one that stops the reading
pub last_block-is : (x : List ℕ) (n : ℕ) → n ≤ length x → ((k : ℕ) → k < n → stops_at x k ≡ false) → stops_at x n ≡ true → last_block x ≡ n
last_block-is x n inside going stops =
    let here : 0 + n ≡ n = omega arith in
    ap (λ o. unwrap_or o (length x)) (find-first (stops_at x) 0 n (length x + 1) (omega arith)
    (λ k _ below. going k (omega (arith, below))) (ap (stops_at x) here ∙ stops)) ∙ here
