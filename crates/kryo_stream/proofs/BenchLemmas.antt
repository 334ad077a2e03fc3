-- What a bench holds after one block more.
use Rattle.std.proofs.Common.{◌^◌, ◌≡◌, ◌≤◌, ◌<◌, ◌+◌, ◌*◌, ◌++◌, ℕ, suc, Bool, true, false, List, [], ◌∷◌, All, length, refl, ap, sym, ◌∙◌, arith, append_assoc, length-append, Option, Some, None, slice_get, if◌then◌else◌}
use Rattle.std.specs.List.{filter_map, range_with_len, cons_option}
use Rattle.std.proofs.lemmas.List.{append-nil}
use Rattle.std.proofs.lemmas.List.Sums.{sum_by-append, sum_by-cons}
use Rattle.std.proofs.lemmas.List.Elements.{All-nil, All-append, All-cons, All-head, All-tail}
use Rattle.kryo_stream.specs.declared.block.Block.{Block}
use Rattle.kryo_stream.specs.declared.block.Block.TheVariants.{Flux, Overflow, Nop, StreamInfo, Index, StreamEnd, Info, End}
use Rattle.kryo_stream.specs.declared.block.SpelledBlock.{SpelledBlock}
use Rattle.kryo_stream.specs.declared.block.Mark.{Mark}
use Rattle.kryo_stream.specs.Protocol.{LIMIT}
use Rattle.kryo_stream.specs.Stream.{is_in_stream, in_stream_bytes, total_bytes, marks, mark_at, mark_of}
use Rattle.kryo_stream.specs.Bench.{BenchState, IsNoted, HasFullBench, IsSized, IsSizedBlock, stream_step, flux_ends, end_of, overflow_begins, overflow_of}
use Rattle.kryo_stream.specs.inside.Keeping.{AddsNotes, HasRoomFor}

-- how far a block of this size moves the stream position
abbrev pub step_of : Block → ℕ → ℕ
step_of block bytes = if is_in_stream block then bytes else 0

pub in_stream_bytes-cons : (p : SpelledBlock) (ps : List SpelledBlock) → in_stream_bytes (p ∷ ps) ≡ stream_step p + in_stream_bytes ps
in_stream_bytes-cons p ps = sum_by-cons stream_step p ps

pub in_stream_bytes-append : (ps qs : List SpelledBlock) → in_stream_bytes (ps ++ qs) ≡ in_stream_bytes ps + in_stream_bytes qs
in_stream_bytes-append ps qs = sum_by-append stream_step ps qs

pub flux_ends-append : (q : ℕ) (ps qs : List SpelledBlock)
    → flux_ends q (ps ++ qs) ≡ flux_ends q ps ++ flux_ends (q + in_stream_bytes ps) qs
flux_ends-append q [] qs = ap (λ n. flux_ends n qs) (omega arith)
flux_ends-append q (p ∷ ps) qs =
    let e : (q + stream_step p) + in_stream_bytes ps ≡ q + in_stream_bytes (p ∷ ps) =
    omega (arith, in_stream_bytes-cons p ps) in
    ap (λ l. end_of (q + stream_step p) p.block ++ l) (flux_ends-append (q + stream_step p) ps qs)
    ∙ sym (append_assoc (end_of (q + stream_step p) p.block) (flux_ends (q + stream_step p) ps)
    (flux_ends ((q + stream_step p) + in_stream_bytes ps) qs))
    ∙ ap (λ n. (end_of (q + stream_step p) p.block ++ flux_ends (q + stream_step p) ps) ++ flux_ends n qs) e

pub overflow_begins-append : (q : ℕ) (ps qs : List SpelledBlock)
    → overflow_begins q (ps ++ qs) ≡ overflow_begins q ps ++ overflow_begins (q + in_stream_bytes ps) qs
overflow_begins-append q [] qs = ap (λ n. overflow_begins n qs) (omega arith)
overflow_begins-append q (p ∷ ps) qs =
    let e : (q + stream_step p) + in_stream_bytes ps ≡ q + in_stream_bytes (p ∷ ps) =
    omega (arith, in_stream_bytes-cons p ps) in
    ap (λ l. overflow_of q p.block ++ l) (overflow_begins-append (q + stream_step p) ps qs)
    ∙ sym (append_assoc (overflow_of q p.block) (overflow_begins (q + stream_step p) ps)
    (overflow_begins ((q + stream_step p) + in_stream_bytes ps) qs))
    ∙ ap (λ n. (overflow_of q p.block ++ overflow_begins (q + stream_step p) ps) ++ overflow_begins n qs) e

-- the Index blocks, where the first block has this number
abbrev pub marks_from : ℕ → List SpelledBlock → List Mark
marks_from n [] = []
marks_from n (p ∷ ps) = cons_option (mark_of n p.block) (marks_from (n + 1) ps)

pub slice_get-seam : {X : Type 0} (xs : List X) (y : X) (ys : List X) → slice_get (xs ++ y ∷ ys) (length xs) ≡ Some y
slice_get-seam [] y ys = refl
slice_get-seam (x ∷ xs) y ys = slice_get-seam xs y ys

mark_at-seam : (done : List SpelledBlock) (p : SpelledBlock) (rest : List SpelledBlock)
    → mark_at (done ++ p ∷ rest) (length done) ≡ mark_of (length done) p.block
mark_at-seam done p rest = rw (slice_get-seam done p rest)

marks-rest : (done rest : List SpelledBlock)
    → filter_map (mark_at (done ++ rest)) (range_with_len (length done) (length rest)) ≡ marks_from (length done) rest
marks-rest done [] = refl
marks-rest done (p ∷ rest) =
    let longer : length (done ++ p ∷ []) ≡ length done + 1 = omega (arith, length-append done (p ∷ [])) in
    let same : (done ++ p ∷ []) ++ rest ≡ done ++ p ∷ rest = append_assoc done (p ∷ []) rest in
    ap (λ m. cons_option m (filter_map (mark_at (done ++ p ∷ rest)) (range_with_len (length done + 1) (length rest))))
    (mark_at-seam done p rest)
    ∙ ap (cons_option (mark_of (length done) p.block))
    (ap (λ l. filter_map (mark_at l) (range_with_len (length done + 1) (length rest))) (sym same)
    ∙ ap (λ n. filter_map (mark_at ((done ++ p ∷ []) ++ rest)) (range_with_len n (length rest))) (sym longer)
    ∙ marks-rest (done ++ p ∷ []) rest
    ∙ ap (λ n. marks_from n rest) longer)

pub marks-from : (ps : List SpelledBlock) → marks ps ≡ marks_from 0 ps
marks-from ps = marks-rest [] ps

marks_from-append : (n : ℕ) (ps qs : List SpelledBlock) → marks_from n (ps ++ qs) ≡ marks_from n ps ++ marks_from (n + length ps) qs
marks_from-append n [] qs = ap (λ m. marks_from m qs) (omega arith)
marks_from-append n (p ∷ ps) qs =
    let e : (n + 1) + length ps ≡ n + suc (length ps) = omega arith in
    ap (cons_option (mark_of n p.block)) (marks_from-append (n + 1) ps qs ∙ ap (λ m. marks_from (n + 1) ps ++ marks_from m qs) e)
    ∙ cons_option-append (mark_of n p.block) (marks_from (n + 1) ps) (marks_from (n + suc (length ps)) qs)
  where
    cons_option-append : (m : Option Mark) (xs ys : List Mark) → cons_option m (xs ++ ys) ≡ cons_option m xs ++ ys
    cons_option-append None xs ys = refl
    cons_option-append (Some x) xs ys = refl

pub marks-snoc : (ps : List SpelledBlock) (p : SpelledBlock) → marks (ps ++ p ∷ []) ≡ marks ps ++ cons_option (mark_of (length ps) p.block) []
marks-snoc ps p = marks-from (ps ++ p ∷ []) ∙ marks_from-append 0 ps (p ∷ [])
    ∙ ap (λ n. marks_from 0 ps ++ cons_option (mark_of n p.block) []) (omega arith)
    ∙ ap (λ l. l ++ cons_option (mark_of (length ps) p.block) []) (sym (marks-from ps))

-- one block more is noted
pub IsNoted-step : (ps : List SpelledBlock) (p : SpelledBlock) (b b' : BenchState) → IsNoted ps b → IsSized p
    → b'.counted ≡ b.counted + stream_step p
    → b'.ends ≡ b.ends ++ end_of (in_stream_bytes ps + stream_step p) p.block
    → b'.overflows ≡ b.overflows ++ overflow_of (in_stream_bytes ps) p.block
    → b'.indexes ≡ b.indexes ++ cons_option (mark_of (length ps) p.block) []
    → IsNoted (ps ++ p ∷ []) b'
IsNoted-step ps p b b' noted size counted ends overflows indexes = record {
  sizes = All-append IsSized ps (p ∷ []) noted.sizes (All-cons IsSized p [] size (λ k d below. absurd (omega arith)));
  counted = omega (arith, counted, noted.counted, in_stream_bytes-append ps (p ∷ []), in_stream_bytes-cons p []);
  flux = ends ∙ ap (λ l. l ++ end_of (in_stream_bytes ps + stream_step p) p.block) noted.flux
      ∙ ap (λ l. flux_ends 0 ps ++ l) (ends_one (in_stream_bytes ps)) ∙ sym (flux_ends-append 0 ps (p ∷ []));
  overflow = overflows ∙ ap (λ l. l ++ overflow_of (in_stream_bytes ps) p.block) noted.overflow
      ∙ ap (λ l. overflow_begins 0 ps ++ l) (overflows_one (in_stream_bytes ps)) ∙ sym (overflow_begins-append 0 ps (p ∷ []));
  index = indexes ∙ ap (λ l. l ++ cons_option (mark_of (length ps) p.block) []) noted.index ∙ sym (marks-snoc ps p);
}
  where
    ends_one : (n : ℕ) → end_of (n + stream_step p) p.block ≡ flux_ends (0 + n) (p ∷ [])
    ends_one n = sym (append-nil (end_of ((0 + n) + stream_step p) p.block) ∙ ap (λ m. end_of (m + stream_step p) p.block) (omega arith))

    overflows_one : (n : ℕ) → overflow_of n p.block ≡ overflow_begins (0 + n) (p ∷ [])
    overflows_one n = sym (append-nil (overflow_of (0 + n) p.block) ∙ ap (λ m. overflow_of m p.block) (omega arith))

-- so are the in-stream bytes of a block that is no Index
pub noted_bytes : (ps : List SpelledBlock) (p : SpelledBlock) (b b' : BenchState) → ((x y z : ℕ) → p.block ≡ Index x y z → ⊥) → IsSized p
    → AddsNotes (stream_step p) (end_of (b.counted + stream_step p) p.block) (overflow_of b.counted p.block) b b'
    → IsNoted ps b → IsNoted (ps ++ p ∷ []) b'
noted_bytes ps p b b' no_index size adds noted =
    IsNoted-step ps p b b' noted size adds.counted
    (adds.ends ∙ ap (λ n. b.ends ++ end_of (n + stream_step p) p.block) noted.counted)
    (adds.overflows ∙ ap (λ n. b.overflows ++ overflow_of n p.block) noted.counted)
    (adds.indexes ∙ sym (append-nil b.indexes) ∙ ap (λ (m : Option Mark). b.indexes ++ cons_option m []) (sym (no_mark (length ps) p.block no_index)))
  where
    no_mark : (n : ℕ) (block : Block) → ((x y z : ℕ) → block ≡ Index x y z → ⊥) → mark_of n block ≡ None
    no_mark n (Flux _) no_index = refl
    no_mark n Overflow no_index = refl
    no_mark n (Nop _) no_index = refl
    no_mark n (StreamInfo _ _) no_index = refl
    no_mark n (Index x y z) no_index = absurd (no_index x y z refl)
    no_mark n (StreamEnd _ _) no_index = refl
    no_mark n (Info _) no_index = refl
    no_mark n End no_index = refl

pub noted_index : (ps : List SpelledBlock) (p : SpelledBlock) (b b' : BenchState) (number position sample counter : ℕ)
    → p.block ≡ Index position sample counter → IsSized p → length ps ≡ number
    → b'.indexes ≡ b.indexes ++ record { number = number; position = position; sample = sample } ∷ []
    → b'.counted ≡ b.counted → b'.ends ≡ b.ends → b'.overflows ≡ b.overflows → IsNoted ps b → IsNoted (ps ++ p ∷ []) b'
noted_index ps p b b' number position sample counter is size number_is indexes counted ends overflows noted =
    let nothing : stream_step p ≡ 0 = ap (λ block. step_of block p.bytes) is in
    IsNoted-step ps p b b' noted size (omega (arith, counted, nothing))
    (ends ∙ sym (append-nil b.ends)
    ∙ ap (λ block. b.ends ++ end_of (in_stream_bytes ps + step_of block p.bytes) block) (sym is))
    (overflows ∙ sym (append-nil b.overflows)
    ∙ ap (λ block. b.overflows ++ overflow_of (in_stream_bytes ps) block) (sym is))
    (indexes ∙ ap (λ n. b.indexes ++ cons_option (mark_of n (Index position sample counter)) []) (sym number_is)
    ∙ ap (λ block. b.indexes ++ cons_option (mark_of (length ps) block) []) (sym is))

overflow_of-length : (block : Block) (bytes q : ℕ) → IsSizedBlock block bytes → length (overflow_of q block) ≤ bytes
overflow_of-length (Flux _) bytes q size = omega arith
overflow_of-length Overflow bytes q size = omega arith
overflow_of-length (Nop _) bytes q size = omega arith
overflow_of-length (StreamInfo _ _) bytes q size = omega arith
overflow_of-length (Index _ _ _) bytes q size = omega arith
overflow_of-length (StreamEnd _ _) bytes q size = omega arith
overflow_of-length (Info _) bytes q size = omega arith
overflow_of-length End bytes q size = omega arith

mark_of-length : (block : Block) (bytes n : ℕ) (rest : List Mark) → IsSizedBlock block bytes
    → 16 * length (cons_option (mark_of n block) rest) ≤ bytes + 16 * length rest
mark_of-length (Flux _) bytes n rest size = omega arith
mark_of-length Overflow bytes n rest size = omega arith
mark_of-length (Nop _) bytes n rest size = omega arith
mark_of-length (StreamInfo _ _) bytes n rest size = omega arith
mark_of-length (Index _ _ _) bytes n rest size = omega arith
mark_of-length (StreamEnd _ _) bytes n rest size = omega arith
mark_of-length (Info _) bytes n rest size = omega arith
mark_of-length End bytes n rest size = omega arith

total_bytes-cons : (p : SpelledBlock) (ps : List SpelledBlock) → total_bytes (p ∷ ps) ≡ p.bytes + total_bytes ps
total_bytes-cons p ps = sum_by-cons (λ p. p.bytes) p ps

pub in_stream-few : (ps : List SpelledBlock) → in_stream_bytes ps ≤ total_bytes ps
in_stream-few [] = omega arith
in_stream-few (p ∷ ps) =
    omega (arith, in_stream_bytes-cons p ps, total_bytes-cons p ps, few (is_in_stream p.block) p.bytes, in_stream-few ps)
  where
    few : (in_stream : Bool) (bytes : ℕ) → (if in_stream then bytes else 0) ≤ bytes
    few true bytes = omega arith
    few false bytes = omega arith

pub overflow_begins-length : (q : ℕ) (ps : List SpelledBlock) → All IsSized ps → length (overflow_begins q ps) ≤ total_bytes ps
overflow_begins-length q [] sizes = omega arith
overflow_begins-length q (p ∷ ps) sizes =
    omega (
      arith,
      length-append (overflow_of q p.block) (overflow_begins (q + stream_step p) ps),
      overflow_of-length p.block p.bytes q (All-head IsSized p ps sizes),
      overflow_begins-length (q + stream_step p) ps (All-tail IsSized p ps sizes),
      total_bytes-cons p ps,
    )

marks_from-length : (n : ℕ) (ps : List SpelledBlock) → All IsSized ps → 16 * length (marks_from n ps) ≤ total_bytes ps
marks_from-length n [] sizes = omega arith
marks_from-length n (p ∷ ps) sizes =
    omega (
      arith,
      mark_of-length p.block p.bytes n (marks_from (n + 1) ps) (All-head IsSized p ps sizes),
      marks_from-length (n + 1) ps (All-tail IsSized p ps sizes),
      total_bytes-cons p ps,
    )

pub marks-length : (ps : List SpelledBlock) → All IsSized ps → 16 * length (marks ps) ≤ total_bytes ps
marks-length ps sizes = rw (marks-from ps) (marks_from-length 0 ps sizes)

-- room for one block more
pub some_bytes : (block : Block) (bytes : ℕ) → IsSizedBlock block bytes → 1 ≤ bytes
some_bytes (Flux _) bytes size = size.0
some_bytes Overflow bytes size = omega (arith, size)
some_bytes (Nop _) bytes size = size
some_bytes (StreamInfo _ _) bytes size = size
some_bytes (Index _ _ _) bytes size = omega (arith, size.0)
some_bytes (StreamEnd _ _) bytes size = size
some_bytes (Info _) bytes size = size
some_bytes End bytes size = size

pub room_for_bytes : (ps : List SpelledBlock) (b : BenchState) (bytes : ℕ) → HasFullBench b → IsNoted ps b
    → total_bytes ps + bytes ≤ LIMIT → HasRoomFor bytes b
room_for_bytes ps b bytes full noted fits =
    omega (arith, full.for_ends, noted.counted, in_stream-few ps, fits)

pub spare_for_overflow : (ps : List SpelledBlock) (b : BenchState) (bytes : ℕ) → HasFullBench b → IsNoted ps b
    → total_bytes ps + bytes ≤ LIMIT → 1 ≤ bytes → 0 < b.spare_overflows
spare_for_overflow ps b bytes full noted fits some =
    omega (arith, full.for_overflows, overflow_begins-length 0 ps noted.sizes, ap length noted.overflow)

pub spare_for_index : (ps : List SpelledBlock) (b : BenchState) (bytes : ℕ) → HasFullBench b → IsNoted ps b
    → total_bytes ps + bytes ≤ LIMIT → bytes ≡ 16 → 0 < b.spare_indexes
spare_for_index ps b bytes full noted fits some =
    omega (arith, full.for_indexes, marks-length ps noted.sizes, ap length noted.index)

mark_of-samples : (block : Block) (bytes n : ℕ) (rest : List Mark) → IsSizedBlock block bytes → All (λ mark. mark.sample < 2 ^ 32) rest
    → All (λ mark. mark.sample < 2 ^ 32) (cons_option (mark_of n block) rest)
mark_of-samples (Flux _) bytes n rest size all = all
mark_of-samples Overflow bytes n rest size all = all
mark_of-samples (Nop _) bytes n rest size all = all
mark_of-samples (StreamInfo _ _) bytes n rest size all = all
mark_of-samples (Index position sample _) bytes n rest size all =
    let made : Mark = record { number = n; position = position; sample = sample } in
    All-cons (λ mark. mark.sample < 2 ^ 32) made rest size.1 all
mark_of-samples (StreamEnd _ _) bytes n rest size all = all
mark_of-samples (Info _) bytes n rest size all = all
mark_of-samples End bytes n rest size all = all

marks_from-samples : (n : ℕ) (ps : List SpelledBlock) → All IsSized ps → All (λ mark. mark.sample < 2 ^ 32) (marks_from n ps)
marks_from-samples n [] sizes = All-nil _
marks_from-samples n (p ∷ ps) sizes = mark_of-samples p.block p.bytes n (marks_from (n + 1) ps) (All-head IsSized p ps sizes)
    (marks_from-samples (n + 1) ps (All-tail IsSized p ps sizes))

-- the sample counters have 32 bits
pub marks-samples : (ps : List SpelledBlock) → All IsSized ps → All (λ mark. mark.sample < 2 ^ 32) (marks ps)
marks-samples ps sizes = rw (marks-from ps) (marks_from-samples 0 ps sizes)
