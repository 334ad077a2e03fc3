-- The time at which a block begins, from the transitions' ends and the overflows.
use Rattle.std.proofs.Common.{◌≡◌, ◌≤◌, ◌<◌, ◌+◌, ◌-◌, ◌*◌, ◌^◌, ◌++◌, ◌&&◌, ℕ, zero, suc, Bool, true, false, List, [], ◌∷◌, All, length, count_by, get_or, find, take, drop, unwrap_or, refl, ap, sym, ◌∙◌, subst, arith, append_assoc, length-append, Option, Some, None, nat_lt, nat_le}
use Rattle.std.specs.List.{filter_map, range_with_len, cons_option}
use Rattle.std.proofs.lemmas.List.{append-nil, take-append-drop, get_or_append_left, take_all, take_more, drop_all}
use Rattle.std.proofs.lemmas.List.Sums.{sum_by-append, sum_by-cons}
use Rattle.std.proofs.lemmas.List.Elements.{All-append, All-cons, All-head, All-tail, All-take, All-drop}
use Rattle.std.proofs.lemmas.Bool.Decides.{nat_tests}
use Rattle.std.proofs.Math.Seq.{get_or-append_seam, take-append_seam, drop-cons}
use Rattle.kryo_stream.specs.declared.block.Block.{Block}
use Rattle.kryo_stream.specs.declared.block.Block.TheVariants.{Flux, Overflow, Nop, StreamInfo, Index, StreamEnd, Info, End}
use Rattle.kryo_stream.specs.declared.block.SpelledBlock.{SpelledBlock}
use Rattle.std.specs.List.Sorted.{IsNonDecreasing}
use Rattle.kryo_stream.specs.Stream.{in_stream_bytes, total_bytes, ticks, block_ticks, times_of, time_at, flux_time, block_of_byte, holds_byte}
use Rattle.kryo_stream.specs.Bench.{BenchState, IsSized, IsSizedBlock, stream_step, flux_ends, end_of, overflow_begins, overflow_of}
use Rattle.kryo_stream.specs.inside.Bench.{IsComplete, IsSearchable, base_time}
use Rattle.kryo_stream.specs.Sequence.{IsHeld}
use Rattle.kryo_stream.proofs.BenchLemmas.{step_of, in_stream_bytes-cons, in_stream_bytes-append, flux_ends-append, overflow_begins-append, in_stream-few, overflow_begins-length, slice_get-seam}
use Rattle.kryo_stream.proofs.FindLemmas.{find-range, FindsFirst, count_by-append, count_by-all, count_by-none, count_by-same, count_by-between}

pub ticks-append : (ps qs : List SpelledBlock) → ticks (ps ++ qs) ≡ ticks ps + ticks qs
ticks-append ps qs = sum_by-append (λ p. block_ticks p.block) ps qs

pub ticks-snoc : (ps : List SpelledBlock) (p : SpelledBlock) → ticks (ps ++ p ∷ []) ≡ ticks ps + block_ticks p.block
ticks-snoc ps p = omega (arith, ticks-append ps (p ∷ []), sum_by-cons (λ p. block_ticks p.block) p [])

-- the transition of a block that ends at this time
abbrev pub time_of : ℕ → Block → Option ℕ
time_of time (Flux _) = Some time
time_of _ _ = None

-- the times of the transitions, where the first block begins at this time
abbrev pub times_from : ℕ → List SpelledBlock → List ℕ
times_from t [] = []
times_from t (p ∷ ps) = cons_option (time_of (t + block_ticks p.block) p.block) (times_from (t + block_ticks p.block) ps)

flux_time-is : (ps : List SpelledBlock) (block : Block) → flux_time ps block ≡ time_of (ticks ps) block
flux_time-is ps (Flux _) = refl
flux_time-is ps Overflow = refl
flux_time-is ps (Nop _) = refl
flux_time-is ps (StreamInfo _ _) = refl
flux_time-is ps (Index _ _ _) = refl
flux_time-is ps (StreamEnd _ _) = refl
flux_time-is ps (Info _) = refl
flux_time-is ps End = refl

pub take-seam : {X : Type 0} (xs : List X) (y : X) (ys : List X) → take (length xs + 1) (xs ++ y ∷ ys) ≡ xs ++ y ∷ []
take-seam {X} xs y ys =
    let longer : length (xs ++ y ∷ []) ≡ length xs + 1 = omega (arith, length-append xs (y ∷ [])) in
    ap (λ n. take n (xs ++ y ∷ ys)) (sym longer) ∙ ap (take (length (xs ++ y ∷ []))) (sym (append_assoc xs (y ∷ []) ys))
    ∙ take-append_seam (xs ++ y ∷ []) ys

time_at-seam : (done : List SpelledBlock) (p : SpelledBlock) (rest : List SpelledBlock)
    → time_at (done ++ p ∷ rest) (length done) ≡ time_of (ticks done + block_ticks p.block) p.block
time_at-seam done p rest =
    rw (slice_get-seam done p rest) (ap (λ up_to. flux_time up_to p.block) (take-seam done p rest)
    ∙ flux_time-is (done ++ p ∷ []) p.block ∙ ap (λ t. time_of t p.block) (ticks-snoc done p))

times-rest : (done rest : List SpelledBlock)
    → filter_map (time_at (done ++ rest)) (range_with_len (length done) (length rest)) ≡ times_from (ticks done) rest
times-rest done [] = refl
times-rest done (p ∷ rest) =
    let longer : length (done ++ p ∷ []) ≡ length done + 1 = omega (arith, length-append done (p ∷ [])) in
    let same : (done ++ p ∷ []) ++ rest ≡ done ++ p ∷ rest = append_assoc done (p ∷ []) rest in
    ap (λ m. cons_option m (filter_map (time_at (done ++ p ∷ rest)) (range_with_len (length done + 1) (length rest))))
    (time_at-seam done p rest)
    ∙ ap (cons_option (time_of (ticks done + block_ticks p.block) p.block))
    (ap (λ l. filter_map (time_at l) (range_with_len (length done + 1) (length rest))) (sym same)
    ∙ ap (λ n. filter_map (time_at ((done ++ p ∷ []) ++ rest)) (range_with_len n (length rest))) (sym longer)
    ∙ times-rest (done ++ p ∷ []) rest
    ∙ ap (λ t. times_from t rest) (ticks-snoc done p))

pub times-from : (ps : List SpelledBlock) → times_of ps ≡ times_from 0 ps
times-from ps = times-rest [] ps

times_from-append : (t : ℕ) (ps qs : List SpelledBlock) → times_from t (ps ++ qs) ≡ times_from t ps ++ times_from (t + ticks ps) qs
times_from-append t [] qs = ap (λ m. times_from m qs) (omega arith)
times_from-append t (p ∷ ps) qs =
    let e : (t + block_ticks p.block) + ticks ps ≡ t + ticks (p ∷ ps) =
    omega (arith, sum_by-cons (λ p. block_ticks p.block) p ps) in
    ap (cons_option (time_of (t + block_ticks p.block) p.block))
    (times_from-append (t + block_ticks p.block) ps qs
    ∙ ap (λ m. times_from (t + block_ticks p.block) ps ++ times_from m qs) e)
    ∙ cons_option-append (time_of (t + block_ticks p.block) p.block) (times_from (t + block_ticks p.block) ps)
    (times_from (t + ticks (p ∷ ps)) qs)
  where
    cons_option-append : (m : Option ℕ) (xs ys : List ℕ) → cons_option m (xs ++ ys) ≡ cons_option m xs ++ ys
    cons_option-append None xs ys = refl
    cons_option-append (Some x) xs ys = refl

pub times_of-append : (ps qs : List SpelledBlock) → times_of (ps ++ qs) ≡ times_of ps ++ times_from (ticks ps) qs
times_of-append ps qs = times-from (ps ++ qs) ∙ times_from-append 0 ps qs
    ∙ ap (λ t. times_from 0 ps ++ times_from t qs) (omega arith)
    ∙ ap (λ l. l ++ times_from (ticks ps) qs) (sym (times-from ps))

pub times_of-snoc : (ps : List SpelledBlock) (p : SpelledBlock)
    → times_of (ps ++ p ∷ []) ≡ times_of ps ++ cons_option (time_of (ticks ps + block_ticks p.block) p.block) []
times_of-snoc ps p = times_of-append ps (p ∷ [])

-- where the last Flux block among these ends, or 0, and the time of its transition, or 0
abbrev pub last_end : List SpelledBlock → ℕ
last_end ps = get_or (0 ∷ flux_ends 0 ps) (length (flux_ends 0 ps)) 0

abbrev pub last_time : List SpelledBlock → ℕ
last_time ps = get_or (0 ∷ times_of ps) (length (flux_ends 0 ps)) 0

-- how many overflows stand after the last Flux block among these
abbrev pub overflows_since : List SpelledBlock → ℕ
overflows_since ps = count_by (λ begin. nat_le (last_end ps) begin) (overflow_begins 0 ps)

-- the overflows among these stand before their end
abbrev begins_within : ℕ → List SpelledBlock → Type 0
begins_within q ps = All (λ begin. (q ≤ begin) × (begin + 1 ≤ q + in_stream_bytes ps)) (overflow_begins q ps)

overflow_of-within : (block : Block) (bytes q more : ℕ) → IsSizedBlock block bytes
    → All (λ begin. (q ≤ begin) × (begin + 1 ≤ q + (step_of block bytes + more))) (overflow_of q block)
overflow_of-within (Flux _) bytes q more size = λ k d below. absurd (omega arith)
overflow_of-within Overflow bytes q more size =
    All-cons (λ begin. (q ≤ begin) × (begin + 1 ≤ q + (bytes + more))) q [] (omega arith, omega arith)
    (λ k d below. absurd (omega arith))
overflow_of-within (Nop _) bytes q more size = λ k d below. absurd (omega arith)
overflow_of-within (StreamInfo _ _) bytes q more size = λ k d below. absurd (omega arith)
overflow_of-within (Index _ _ _) bytes q more size = λ k d below. absurd (omega arith)
overflow_of-within (StreamEnd _ _) bytes q more size = λ k d below. absurd (omega arith)
overflow_of-within (Info _) bytes q more size = λ k d below. absurd (omega arith)
overflow_of-within End bytes q more size = λ k d below. absurd (omega arith)

overflow_begins-within : (q : ℕ) (ps : List SpelledBlock) → All IsSized ps → begins_within q ps
overflow_begins-within q [] sizes = λ k d below. absurd (omega arith)
overflow_begins-within q (p ∷ ps) sizes =
    All-append (λ begin. (q ≤ begin) × (begin + 1 ≤ q + in_stream_bytes (p ∷ ps))) (overflow_of q p.block)
    (overflow_begins (q + stream_step p) ps)
    (rw (in_stream_bytes-cons p ps)
    (overflow_of-within p.block p.bytes q (in_stream_bytes ps) (All-head IsSized p ps sizes)))
    (λ k d below. let rest = overflow_begins-within (q + stream_step p) ps (All-tail IsSized p ps sizes) k d below in
    (omega (arith, rest.0), omega (arith, rest.1, in_stream_bytes-cons p ps)))

-- what the lists of the blocks so far tell of their time
pub record Told (ps : List SpelledBlock) : Type 0 where
  pub matched : length (times_of ps) ≡ length (flux_ends 0 ps)
  pub within : last_end ps ≤ in_stream_bytes ps
  pub sum : ticks ps ≡ last_time ps + 65536 * overflows_since ps

get_or-last : (xs : List ℕ) (y d : ℕ) → get_or (d ∷ (xs ++ y ∷ [])) (length (xs ++ y ∷ [])) d ≡ y
get_or-last xs y d =
    let longer : length (xs ++ y ∷ []) ≡ suc (length xs) = omega (arith, length-append xs (y ∷ [])) in
    rw longer (get_or-append_seam xs y [] d)

pub in_stream_bytes-snoc : (ps : List SpelledBlock) (p : SpelledBlock) → in_stream_bytes (ps ++ p ∷ []) ≡ in_stream_bytes ps + stream_step p
in_stream_bytes-snoc ps p = omega (arith, in_stream_bytes-append ps (p ∷ []), in_stream_bytes-cons p [])

-- the three kinds of blocks, as the lists see them
pub record IsFluxStep (ps : List SpelledBlock) (p : SpelledBlock) : Type 0 where
  pub ends : flux_ends 0 (ps ++ p ∷ []) ≡ flux_ends 0 ps ++ in_stream_bytes (ps ++ p ∷ []) ∷ []
  pub times : times_of (ps ++ p ∷ []) ≡ times_of ps ++ ticks (ps ++ p ∷ []) ∷ []
  pub overflows : overflow_begins 0 (ps ++ p ∷ []) ≡ overflow_begins 0 ps

pub record IsOverflowStep (ps : List SpelledBlock) (p : SpelledBlock) : Type 0 where
  pub ends : flux_ends 0 (ps ++ p ∷ []) ≡ flux_ends 0 ps
  pub times : times_of (ps ++ p ∷ []) ≡ times_of ps
  pub overflows : overflow_begins 0 (ps ++ p ∷ []) ≡ overflow_begins 0 ps ++ in_stream_bytes ps ∷ []
  pub sum : ticks (ps ++ p ∷ []) ≡ ticks ps + 65536

pub record IsOtherStep (ps : List SpelledBlock) (p : SpelledBlock) : Type 0 where
  pub ends : flux_ends 0 (ps ++ p ∷ []) ≡ flux_ends 0 ps
  pub times : times_of (ps ++ p ∷ []) ≡ times_of ps
  pub overflows : overflow_begins 0 (ps ++ p ∷ []) ≡ overflow_begins 0 ps
  pub sum : ticks (ps ++ p ∷ []) ≡ ticks ps

Told-flux : (ps : List SpelledBlock) (p : SpelledBlock) → All IsSized ps → IsFluxStep ps p → Told ps → Told (ps ++ p ∷ [])
Told-flux ps p sizes step told =
    let grows : in_stream_bytes ps ≤ in_stream_bytes (ps ++ p ∷ []) = omega (arith, in_stream_bytes-snoc ps p) in
    let end_is : last_end (ps ++ p ∷ []) ≡ in_stream_bytes (ps ++ p ∷ []) =
    rw step.ends (get_or-last (flux_ends 0 ps) (in_stream_bytes (ps ++ p ∷ [])) 0) in
    let lengths : length (flux_ends 0 (ps ++ p ∷ [])) ≡ length (times_of (ps ++ p ∷ [])) =
    ap length step.ends ∙ omega (
      arith,
      told.matched,
      length-append (flux_ends 0 ps) (in_stream_bytes (ps ++ p ∷ []) ∷ []),
      length-append (times_of ps) (ticks (ps ++ p ∷ []) ∷ []),
    ) ∙ sym (ap length step.times) in
    let time_is : last_time (ps ++ p ∷ []) ≡ ticks (ps ++ p ∷ []) =
    ap (λ n. get_or (0 ∷ times_of (ps ++ p ∷ [])) n 0) lengths
    ∙ ap (λ l. get_or (0 ∷ l) (length l) 0) step.times ∙ get_or-last (times_of ps) (ticks (ps ++ p ∷ [])) 0 in
    let none : overflows_since (ps ++ p ∷ []) ≡ 0 =
    ap (λ l. count_by (λ begin. nat_le (last_end (ps ++ p ∷ [])) begin) l) step.overflows
    ∙ count_by-none (λ begin. nat_le (last_end (ps ++ p ∷ [])) begin) (overflow_begins 0 ps)
    (λ k d below. let it = overflow_begins-within 0 ps sizes k d below in
    let far : get_or (overflow_begins 0 ps) k d < last_end (ps ++ p ∷ []) = omega (arith, it.1, end_is, grows) in
    grind (arith, nat_tests, far)) in
    record {
      matched = sym lengths;
      within = omega (arith, end_is);
      sum = omega (arith, time_is, none);
    }

Told-overflow : (ps : List SpelledBlock) (p : SpelledBlock) → IsOverflowStep ps p → Told ps → Told (ps ++ p ∷ [])
Told-overflow ps p step told =
    let end_is : last_end (ps ++ p ∷ []) ≡ last_end ps = ap (λ l. get_or (0 ∷ l) (length l) 0) step.ends in
    let time_is : last_time (ps ++ p ∷ []) ≡ last_time ps =
    ap (λ l. get_or (0 ∷ times_of (ps ++ p ∷ [])) (length l) 0) step.ends
    ∙ ap (λ l. get_or (0 ∷ l) (length (flux_ends 0 ps)) 0) step.times in
    let here : nat_le (last_end ps) (in_stream_bytes ps) ≡ true = grind (arith, nat_tests, told.within) in
    let one : overflows_since (ps ++ p ∷ []) ≡ overflows_since ps + 1 =
    ap (λ n. count_by (λ begin. nat_le n begin) (overflow_begins 0 (ps ++ p ∷ []))) end_is
    ∙ ap (count_by (λ begin. nat_le (last_end ps) begin)) step.overflows
    ∙ count_by-append (λ begin. nat_le (last_end ps) begin) (overflow_begins 0 ps) (in_stream_bytes ps ∷ [])
    ∙ ap (λ n. overflows_since ps + n) (count_by-all (λ begin. nat_le (last_end ps) begin) (in_stream_bytes ps ∷ [])
    (All-cons (λ begin. nat_le (last_end ps) begin ≡ true) (in_stream_bytes ps) [] here (λ k d below. absurd (omega arith)))) in
    record {
      matched = ap length step.times ∙ told.matched ∙ sym (ap length step.ends);
      within = omega (arith, end_is, told.within, in_stream_bytes-snoc ps p);
      sum = omega (arith, time_is, one, told.sum, step.sum);
    }

Told-other : (ps : List SpelledBlock) (p : SpelledBlock) → IsOtherStep ps p → Told ps → Told (ps ++ p ∷ [])
Told-other ps p step told =
    let end_is : last_end (ps ++ p ∷ []) ≡ last_end ps = ap (λ l. get_or (0 ∷ l) (length l) 0) step.ends in
    let time_is : last_time (ps ++ p ∷ []) ≡ last_time ps =
    ap (λ l. get_or (0 ∷ times_of (ps ++ p ∷ [])) (length l) 0) step.ends
    ∙ ap (λ l. get_or (0 ∷ l) (length (flux_ends 0 ps)) 0) step.times in
    let same : overflows_since (ps ++ p ∷ []) ≡ overflows_since ps =
    ap (λ n. count_by (λ begin. nat_le n begin) (overflow_begins 0 (ps ++ p ∷ []))) end_is
    ∙ ap (count_by (λ begin. nat_le (last_end ps) begin)) step.overflows in
    record {
      matched = ap length step.times ∙ told.matched ∙ sym (ap length step.ends);
      within = omega (arith, end_is, told.within, in_stream_bytes-snoc ps p);
      sum = omega (arith, time_is, same, told.sum, step.sum);
    }

flux_ends-snoc : (ps : List SpelledBlock) (p : SpelledBlock)
    → flux_ends 0 (ps ++ p ∷ []) ≡ flux_ends 0 ps ++ end_of (in_stream_bytes (ps ++ p ∷ [])) p.block
flux_ends-snoc ps p =
    let at : (0 + in_stream_bytes ps) + stream_step p ≡ in_stream_bytes (ps ++ p ∷ []) =
    omega (arith, in_stream_bytes-snoc ps p) in
    flux_ends-append 0 ps (p ∷ [])
    ∙ ap (λ l. flux_ends 0 ps ++ l) (append-nil (end_of ((0 + in_stream_bytes ps) + stream_step p) p.block)
    ∙ ap (λ n. end_of n p.block) at)

overflow_begins-snoc : (ps : List SpelledBlock) (p : SpelledBlock)
    → overflow_begins 0 (ps ++ p ∷ []) ≡ overflow_begins 0 ps ++ overflow_of (in_stream_bytes ps) p.block
overflow_begins-snoc ps p =
    let at : 0 + in_stream_bytes ps ≡ in_stream_bytes ps = omega arith in
    overflow_begins-append 0 ps (p ∷ [])
    ∙ ap (λ l. overflow_begins 0 ps ++ l) (append-nil (overflow_of (0 + in_stream_bytes ps) p.block)
    ∙ ap (λ n. overflow_of n p.block) at)

flux_step : (ps : List SpelledBlock) (p : SpelledBlock) (t : ℕ) → p.block ≡ Flux t → IsFluxStep ps p
flux_step ps p t is = record {
  ends = flux_ends-snoc ps p ∙ ap (λ b. flux_ends 0 ps ++ end_of (in_stream_bytes (ps ++ p ∷ [])) b) is;
  times = times_of-snoc ps p
      ∙ ap (λ n. times_of ps ++ cons_option (time_of n p.block) []) (sym (ticks-snoc ps p))
      ∙ ap (λ b. times_of ps ++ cons_option (time_of (ticks (ps ++ p ∷ [])) b) []) is;
  overflows = overflow_begins-snoc ps p ∙ ap (λ b. overflow_begins 0 ps ++ overflow_of (in_stream_bytes ps) b) is
      ∙ append-nil (overflow_begins 0 ps);
}

overflow_step : (ps : List SpelledBlock) (p : SpelledBlock) → p.block ≡ Overflow → IsOverflowStep ps p
overflow_step ps p is = record {
  ends = flux_ends-snoc ps p ∙ ap (λ b. flux_ends 0 ps ++ end_of (in_stream_bytes (ps ++ p ∷ [])) b) is
      ∙ append-nil (flux_ends 0 ps);
  times = times_of-snoc ps p
      ∙ ap (λ b. times_of ps ++ cons_option (time_of (ticks ps + block_ticks p.block) b) []) is
      ∙ append-nil (times_of ps);
  overflows = overflow_begins-snoc ps p ∙ ap (λ b. overflow_begins 0 ps ++ overflow_of (in_stream_bytes ps) b) is;
  sum = ticks-snoc ps p ∙ ap (λ b. ticks ps + block_ticks b) is;
}

other_step : (ps : List SpelledBlock) (p : SpelledBlock) (block : Block) → p.block ≡ block → ((q : ℕ) → end_of q block ≡ [])
    → ((q : ℕ) → overflow_of q block ≡ []) → ((t : ℕ) → time_of t block ≡ None) → block_ticks block ≡ 0 → IsOtherStep ps p
other_step ps p block is ends overflows times ticks_zero = record {
  ends = flux_ends-snoc ps p
      ∙ ap (λ l. flux_ends 0 ps ++ l) (ap (end_of (in_stream_bytes (ps ++ p ∷ []))) is ∙ ends (in_stream_bytes (ps ++ p ∷ [])))
      ∙ append-nil (flux_ends 0 ps);
  times = times_of-snoc ps p
      ∙ ap (λ m. times_of ps ++ cons_option m [])
      (ap (time_of (ticks ps + block_ticks p.block)) is ∙ times (ticks ps + block_ticks p.block))
      ∙ append-nil (times_of ps);
  overflows = overflow_begins-snoc ps p
      ∙ ap (λ l. overflow_begins 0 ps ++ l) (ap (overflow_of (in_stream_bytes ps)) is ∙ overflows (in_stream_bytes ps))
      ∙ append-nil (overflow_begins 0 ps);
  sum = (let e : block_ticks p.block ≡ 0 = ap block_ticks is ∙ ticks_zero in omega (arith, ticks-snoc ps p, e));
}

Told-step : (ps : List SpelledBlock) (p : SpelledBlock) (block : Block) → p.block ≡ block → All IsSized ps → Told ps → Told (ps ++ p ∷ [])
Told-step ps p (Flux t) is sizes told = Told-flux ps p sizes (flux_step ps p t is) told
Told-step ps p Overflow is sizes told = Told-overflow ps p (overflow_step ps p is) told
Told-step ps p (Nop n) is sizes told =
    Told-other ps p (other_step ps p (Nop n) is (λ q. refl) (λ q. refl) (λ t. refl) refl) told
Told-step ps p (StreamInfo x y) is sizes told =
    Told-other ps p (other_step ps p (StreamInfo x y) is (λ q. refl) (λ q. refl) (λ t. refl) refl) told
Told-step ps p (Index x y z) is sizes told =
    Told-other ps p (other_step ps p (Index x y z) is (λ q. refl) (λ q. refl) (λ t. refl) refl) told
Told-step ps p (StreamEnd x y) is sizes told =
    Told-other ps p (other_step ps p (StreamEnd x y) is (λ q. refl) (λ q. refl) (λ t. refl) refl) told
Told-step ps p (Info n) is sizes told =
    Told-other ps p (other_step ps p (Info n) is (λ q. refl) (λ q. refl) (λ t. refl) refl) told
Told-step ps p End is sizes told =
    Told-other ps p (other_step ps p End is (λ q. refl) (λ q. refl) (λ t. refl) refl) told

Told-nil : Told []
Told-nil = record { matched = refl; within = omega arith; sum = refl }

Told-more : (done rest : List SpelledBlock) → All IsSized done → All IsSized rest → Told done → Told (done ++ rest)
Told-more done [] sizes more told = subst Told (sym (append-nil done)) told
Told-more done (p ∷ rest) sizes more told =
    subst Told (append_assoc done (p ∷ []) rest)
    (Told-more (done ++ p ∷ []) rest
    (All-append IsSized done (p ∷ []) sizes
    (All-cons IsSized p [] (All-head IsSized p rest more) (λ k d below. absurd (omega arith))))
    (All-tail IsSized p rest more) (Told-step done p p.block refl sizes told))

pub Told-all : (ps : List SpelledBlock) → All IsSized ps → Told ps
Told-all ps sizes = Told-more [] ps (λ k d below. absurd (omega arith)) sizes Told-nil

-- the ends among these stand within them
end_of-within : (block : Block) (q low high : ℕ) → low ≤ q → q ≤ high → All (λ e. (low ≤ e) × (e ≤ high)) (end_of q block)
end_of-within (Flux _) q low high a b =
    All-cons (λ e. (low ≤ e) × (e ≤ high)) q [] (a, b) (λ k d below. absurd (omega arith))
end_of-within Overflow q low high a b = λ k d below. absurd (omega arith)
end_of-within (Nop _) q low high a b = λ k d below. absurd (omega arith)
end_of-within (StreamInfo _ _) q low high a b = λ k d below. absurd (omega arith)
end_of-within (Index _ _ _) q low high a b = λ k d below. absurd (omega arith)
end_of-within (StreamEnd _ _) q low high a b = λ k d below. absurd (omega arith)
end_of-within (Info _) q low high a b = λ k d below. absurd (omega arith)
end_of-within End q low high a b = λ k d below. absurd (omega arith)

pub flux_ends-within : (q : ℕ) (ps : List SpelledBlock)
    → All (λ e. (q ≤ e) × (e ≤ q + in_stream_bytes ps)) (flux_ends q ps)
flux_ends-within q [] = λ k d below. absurd (omega arith)
flux_ends-within q (p ∷ ps) =
    All-append (λ e. (q ≤ e) × (e ≤ q + in_stream_bytes (p ∷ ps))) (end_of (q + stream_step p) p.block)
    (flux_ends (q + stream_step p) ps)
    (end_of-within p.block (q + stream_step p) q (q + in_stream_bytes (p ∷ ps)) (omega arith)
    (omega (arith, in_stream_bytes-cons p ps)))
    (λ k d below. let rest = flux_ends-within (q + stream_step p) ps k d below in
    (omega (arith, rest.0), omega (arith, rest.1, in_stream_bytes-cons p ps)))

ends_behind : (before from : List SpelledBlock) (position : ℕ) → IsHeld before from position
    → All (λ e. nat_le e position ≡ false) (flux_ends (in_stream_bytes before) from)
ends_behind before [] position held = λ k d below. absurd (omega arith)
ends_behind before (p ∷ ps) position held = λ k d below.
    let q = in_stream_bytes before + stream_step p in
    let far : position < get_or (end_of q p.block ++ flux_ends q ps) k d =
    omega (
      arith,
      held,
      (All-append (λ e. q ≤ e) (end_of q p.block) (flux_ends q ps)
          (λ i d' low. (end_of-within p.block q q q (omega arith) (omega arith) i d' low).0)
          (λ i d' low. (flux_ends-within q ps i d' low).0)) k d below,
    ) in
    grind (arith, nat_tests, far)

overflow_of-behind : (block : Block) (bytes q position : ℕ) → IsSizedBlock block bytes → position < q + step_of block bytes
    → All (λ begin. position ≤ begin) (overflow_of q block)
overflow_of-behind (Flux _) bytes q position size held = λ k d below. absurd (omega arith)
overflow_of-behind Overflow bytes q position size held =
    All-cons (λ begin. position ≤ begin) q [] (omega arith) (λ k d below. absurd (omega arith))
overflow_of-behind (Nop _) bytes q position size held = λ k d below. absurd (omega arith)
overflow_of-behind (StreamInfo _ _) bytes q position size held = λ k d below. absurd (omega arith)
overflow_of-behind (Index _ _ _) bytes q position size held = λ k d below. absurd (omega arith)
overflow_of-behind (StreamEnd _ _) bytes q position size held = λ k d below. absurd (omega arith)
overflow_of-behind (Info _) bytes q position size held = λ k d below. absurd (omega arith)
overflow_of-behind End bytes q position size held = λ k d below. absurd (omega arith)

overflows_behind : (before from : List SpelledBlock) (position : ℕ) → All IsSized from → IsHeld before from position
    → All (λ begin. position ≤ begin) (overflow_begins (in_stream_bytes before) from)
overflows_behind before [] position sizes held = λ k d below. absurd (omega arith)
overflows_behind before (p ∷ ps) position sizes held =
    All-append (λ begin. position ≤ begin) (overflow_of (in_stream_bytes before) p.block)
    (overflow_begins (in_stream_bytes before + stream_step p) ps)
    (overflow_of-behind p.block p.bytes (in_stream_bytes before) position (All-head IsSized p ps sizes) held)
    (λ k d below. omega (
      arith,
      held,
      (overflow_begins-within (in_stream_bytes before + stream_step p) ps (All-tail IsSized p ps sizes) k d below).0,
    ))

-- how many Flux blocks end at or before the position
count_ends : (before from : List SpelledBlock) (position : ℕ) → in_stream_bytes before ≤ position → IsHeld before from position
    → count_by (λ e. nat_le e position) (flux_ends 0 (before ++ from)) ≡ length (flux_ends 0 before)
count_ends before from position low held =
    let passes : All (λ e. nat_le e position ≡ true) (flux_ends 0 before) = λ k d below.
    let it = flux_ends-within 0 before k d below in
    let near : get_or (flux_ends 0 before) k d ≤ position = omega (arith, it.1) in
    grind (arith, nat_tests, near) in
    let rest : count_by (λ e. nat_le e position) (flux_ends (0 + in_stream_bytes before) from) ≡ 0 =
    ap (λ n. count_by (λ e. nat_le e position) (flux_ends n from)) (omega arith)
    ∙ count_by-none (λ e. nat_le e position) (flux_ends (in_stream_bytes before) from) (ends_behind before from position held) in
    ap (count_by (λ e. nat_le e position)) (flux_ends-append 0 before from)
    ∙ count_by-append (λ e. nat_le e position) (flux_ends 0 before) (flux_ends (0 + in_stream_bytes before) from)
    ∙ omega (arith, rest, count_by-all (λ e. nat_le e position) (flux_ends 0 before) passes)

-- how many overflows stand between the last transition before the position and the position
count_overflows : (before from : List SpelledBlock) (position : ℕ) → All IsSized before → All IsSized from
    → in_stream_bytes before ≤ position → IsHeld before from position
    → count_by (λ begin. nat_le (last_end before) begin && nat_lt begin position) (overflow_begins 0 (before ++ from))
    ≡ overflows_since before
count_overflows before from position sizes more low held =
    let test : ℕ → Bool = λ begin. nat_le (last_end before) begin && nat_lt begin position in
    let same : All (λ begin. (nat_le (last_end before) begin && nat_lt begin position) ≡ nat_le (last_end before) begin)
    (overflow_begins 0 before) = λ k d below.
    let it = overflow_begins-within 0 before sizes k d below in
    let near : get_or (overflow_begins 0 before) k d < position = omega (arith, it.1) in
    grind (arith, nat_tests, near) in
    let none : All (λ begin. (nat_le (last_end before) begin && nat_lt begin position) ≡ false)
    (overflow_begins (in_stream_bytes before) from) = λ k d below.
    let far = overflows_behind before from position more held k d below in
    grind (arith, nat_tests, far) in
    let rest : count_by test (overflow_begins (0 + in_stream_bytes before) from) ≡ 0 =
    ap (λ n. count_by test (overflow_begins n from)) (omega arith)
    ∙ count_by-none test (overflow_begins (in_stream_bytes before) from) none in
    ap (count_by test) (overflow_begins-append 0 before from)
    ∙ count_by-append test (overflow_begins 0 before) (overflow_begins (0 + in_stream_bytes before) from)
    ∙ omega (arith, rest, count_by-same test (λ begin. nat_le (last_end before) begin) (overflow_begins 0 before) same)

base_time-parts : (before from : List SpelledBlock) (position : ℕ) → All IsSized before → All IsSized from
    → in_stream_bytes before ≤ position → IsHeld before from position
    → base_time (flux_ends 0 (before ++ from)) (overflow_begins 0 (before ++ from)) (times_of (before ++ from)) position
    ≡ ticks before
base_time-parts before from position sizes more low held =
    let ps = before ++ from in
    let count : ℕ = count_by (λ e. nat_le e position) (flux_ends 0 ps) in
    let told = Told-all before sizes in
    let counted : count ≡ length (flux_ends 0 before) = count_ends before from position low held in
    let time_is : get_or (0 ∷ times_of ps) count 0 ≡ last_time before =
    ap (λ n. get_or (0 ∷ times_of ps) n 0) counted
    ∙ ap (λ l. get_or (0 ∷ l) (length (flux_ends 0 before)) 0) (times_of-append before from)
    ∙ get_or_append_left (0 ∷ times_of before) (times_from (ticks before) from) 0 (length (flux_ends 0 before))
    (omega (arith, told.matched)) in
    let end_is : get_or (0 ∷ flux_ends 0 ps) count 0 ≡ last_end before =
    ap (λ n. get_or (0 ∷ flux_ends 0 ps) n 0) counted
    ∙ ap (λ l. get_or (0 ∷ l) (length (flux_ends 0 before)) 0) (flux_ends-append 0 before from)
    ∙ get_or_append_left (0 ∷ flux_ends 0 before) (flux_ends (0 + in_stream_bytes before) from) 0
    (length (flux_ends 0 before)) (omega arith) in
    let since : count_by (λ begin. nat_le (get_or (0 ∷ flux_ends 0 ps) count 0) begin && nat_lt begin position)
    (overflow_begins 0 ps) ≡ overflows_since before =
    ap (λ e. count_by (λ begin. nat_le e begin && nat_lt begin position) (overflow_begins 0 ps)) end_is
    ∙ count_overflows before from position sizes more low held in
    omega (arith, time_is, since, told.sum)

nothing : SpelledBlock
nothing = record { block = End; bytes = 0 }

held_at : (ps : List SpelledBlock) (j position : ℕ) → j < length ps → position < in_stream_bytes (take (j + 1) ps)
    → IsHeld (take j ps) (drop j ps) position
held_at ps j position inside high =
    rw (drop-cons ps j nothing inside)
    (omega (arith, high, ap in_stream_bytes (take_more ps j nothing inside), in_stream_bytes-snoc (take j ps) (get_or ps j nothing)))

holds_low : (ps : List SpelledBlock) (position j : ℕ) → holds_byte ps position j ≡ true → in_stream_bytes (take j ps) ≤ position
holds_low ps position j holds = grind (arith, nat_tests, holds)

holds_high : (ps : List SpelledBlock) (position j : ℕ) → holds_byte ps position j ≡ true
    → position < in_stream_bytes (take (j + 1) ps)
holds_high ps position j holds = grind (arith, nat_tests, holds)

passed_one : (ps : List SpelledBlock) (position j : ℕ) → holds_byte ps position j ≡ false → in_stream_bytes (take j ps) ≤ position
    → in_stream_bytes (take (j + 1) ps) ≤ position
passed_one ps position j fails low = grind (arith, nat_tests, fails, low)

-- where no block holds the byte, all stand before it
passed_all : (ps : List SpelledBlock) (position : ℕ) → ((j : ℕ) → j < length ps → holds_byte ps position j ≡ false)
    → (n : ℕ) → n ≤ length ps → in_stream_bytes (take n ps) ≤ position
passed_all ps position fails zero bound = omega arith
passed_all ps position fails (suc n) bound =
    let next : n + 1 ≡ suc n = omega arith in
    subst (λ m. in_stream_bytes (take m ps) ≤ position) next
    (passed_one ps position n (fails n (omega arith)) (passed_all ps position fails n (omega arith)))

-- what the position asks of the number of the block that holds its byte
pub record IsBlockOf (ps : List SpelledBlock) (position j : ℕ) : Type 0 where
  pub low : in_stream_bytes (take j ps) ≤ position
  pub held : IsHeld (take j ps) (drop j ps) position

block_of_found : (ps : List SpelledBlock) (position : ℕ) (found : Option ℕ) → position ≤ in_stream_bytes ps
    → FindsFirst (holds_byte ps position) 0 (0 + length ps) found → IsBlockOf ps position (unwrap_or found (length ps))
block_of_found ps position (Some j) within first = record {
  low = holds_low ps position j first.passes;
  held = held_at ps j position (omega (arith, first.to)) (holds_high ps position j first.passes);
}
block_of_found ps position None within fails =
    let all : take (length ps) ps ≡ ps = take_all (length ps) ps (omega arith) in
    let low = passed_all ps position (λ j bound. fails j (omega arith) (omega arith)) (length ps) (omega arith) in
    record {
      low = low;
      held = rw (drop_all (length ps) ps (omega arith)) (omega (arith, low, ap in_stream_bytes all, within));
    }

pub block_of_byte-is : (ps : List SpelledBlock) (position : ℕ) → position ≤ in_stream_bytes ps
    → IsBlockOf ps position (block_of_byte ps position)
block_of_byte-is ps position within =
    block_of_found ps position (find (holds_byte ps position) (range_with_len 0 (length ps))) within
    (find-range (holds_byte ps position) 0 (length ps))

-- the three lists tell the time at which the block begins that holds a byte
pub base_time-is : (ps : List SpelledBlock) (position : ℕ) → All IsSized ps → position ≤ in_stream_bytes ps
    → base_time (flux_ends 0 ps) (overflow_begins 0 ps) (times_of ps) position ≡ ticks (take (block_of_byte ps position) ps)
base_time-is ps position sizes within =
    let j : ℕ = block_of_byte ps position in
    let block = block_of_byte-is ps position within in
    let whole : take j ps ++ drop j ps ≡ ps = take-append-drop j ps in
    ap (λ l. base_time (flux_ends 0 l) (overflow_begins 0 l) (times_of l) position) (sym whole)
    ∙ base_time-parts (take j ps) (drop j ps) position (All-take IsSized j ps sizes) (All-drop IsSized j ps sizes)
    block.low block.held

-- the counts that the code makes give the time at which the block begins
pub base_time-from_counts : (ends overflows transitions : List ℕ) (position count end behind before time : ℕ)
    → count ≡ count_by (λ e. nat_le e position) ends → end ≡ get_or (0 ∷ ends) count 0 → end ≤ position
    → behind ≡ count_by (λ x. nat_lt x position) overflows → before ≡ count_by (λ x. nat_lt x end) overflows
    → time ≡ get_or (0 ∷ transitions) count 0
    → (before ≤ behind) × (time + 65536 * (behind - before) ≡ base_time ends overflows transitions position)
base_time-from_counts ends overflows transitions position count end behind before time counted end_is order behind_is before_is
    time_is =
    let whole : ℕ = count_by (λ e. nat_le e position) ends in
    let time_at_whole : time ≡ get_or (0 ∷ transitions) whole 0 = time_is ∙ ap (λ n. get_or (0 ∷ transitions) n 0) counted in
    let end_at_whole : end ≡ get_or (0 ∷ ends) whole 0 = end_is ∙ ap (λ n. get_or (0 ∷ ends) n 0) counted in
    let since : count_by (λ begin. nat_le end begin && nat_lt begin position) overflows
    ≡ count_by (λ begin. nat_le (get_or (0 ∷ ends) whole 0) begin && nat_lt begin position) overflows =
    ap (λ e. count_by (λ begin. nat_le e begin && nat_lt begin position) overflows) end_at_whole in
    let between = count_by-between end position overflows order in
    (omega (arith, between, behind_is, before_is), omega (arith, between, behind_is, before_is, since, time_at_whole))

-- lists of numbers in order, one after the other
IsNonDecreasing-cons : (x : ℕ) (xs : List ℕ) → All (λ y. x ≤ y) xs → IsNonDecreasing xs → IsNonDecreasing (x ∷ xs)
IsNonDecreasing-cons x xs above order zero zero d low high = omega arith
IsNonDecreasing-cons x xs above order zero (suc j) d low high = above j d (omega arith)
IsNonDecreasing-cons x xs above order (suc i) zero d low high = absurd (omega arith)
IsNonDecreasing-cons x xs above order (suc i) (suc j) d low high = order i j d (omega arith) (omega arith)

IsNonDecreasing-end_of : (block : Block) (q : ℕ) (xs : List ℕ) → All (λ y. q ≤ y) xs → IsNonDecreasing xs
    → IsNonDecreasing (end_of q block ++ xs)
IsNonDecreasing-end_of (Flux _) q xs above order = IsNonDecreasing-cons q xs above order
IsNonDecreasing-end_of Overflow q xs above order = order
IsNonDecreasing-end_of (Nop _) q xs above order = order
IsNonDecreasing-end_of (StreamInfo _ _) q xs above order = order
IsNonDecreasing-end_of (Index _ _ _) q xs above order = order
IsNonDecreasing-end_of (StreamEnd _ _) q xs above order = order
IsNonDecreasing-end_of (Info _) q xs above order = order
IsNonDecreasing-end_of End q xs above order = order

IsNonDecreasing-overflow_of : (block : Block) (q : ℕ) (xs : List ℕ) → All (λ y. q ≤ y) xs → IsNonDecreasing xs
    → IsNonDecreasing (overflow_of q block ++ xs)
IsNonDecreasing-overflow_of (Flux _) q xs above order = order
IsNonDecreasing-overflow_of Overflow q xs above order = IsNonDecreasing-cons q xs above order
IsNonDecreasing-overflow_of (Nop _) q xs above order = order
IsNonDecreasing-overflow_of (StreamInfo _ _) q xs above order = order
IsNonDecreasing-overflow_of (Index _ _ _) q xs above order = order
IsNonDecreasing-overflow_of (StreamEnd _ _) q xs above order = order
IsNonDecreasing-overflow_of (Info _) q xs above order = order
IsNonDecreasing-overflow_of End q xs above order = order

flux_ends-order : (q : ℕ) (ps : List SpelledBlock) → IsNonDecreasing (flux_ends q ps)
flux_ends-order q [] = λ i j d low high. absurd (omega arith)
flux_ends-order q (p ∷ ps) =
    IsNonDecreasing-end_of p.block (q + stream_step p) (flux_ends (q + stream_step p) ps)
    (λ k d below. (flux_ends-within (q + stream_step p) ps k d below).0) (flux_ends-order (q + stream_step p) ps)

overflow_begins-order : (q : ℕ) (ps : List SpelledBlock) → All IsSized ps → IsNonDecreasing (overflow_begins q ps)
overflow_begins-order q [] sizes = λ i j d low high. absurd (omega arith)
overflow_begins-order q (p ∷ ps) sizes =
    let more = All-tail IsSized p ps sizes in
    IsNonDecreasing-overflow_of p.block q (overflow_begins (q + stream_step p) ps)
    (λ k d below. omega (arith, (overflow_begins-within (q + stream_step p) ps more k d below).0))
    (overflow_begins-order (q + stream_step p) ps more)

-- no time is later than that of all blocks
time_of-within : (block : Block) (t high : ℕ) (xs : List ℕ) → t ≤ high → All (λ time. time ≤ high) xs
    → All (λ time. time ≤ high) (cons_option (time_of t block) xs)
time_of-within (Flux _) t high xs below rest = All-cons (λ time. time ≤ high) t xs below rest
time_of-within Overflow t high xs below rest = rest
time_of-within (Nop _) t high xs below rest = rest
time_of-within (StreamInfo _ _) t high xs below rest = rest
time_of-within (Index _ _ _) t high xs below rest = rest
time_of-within (StreamEnd _ _) t high xs below rest = rest
time_of-within (Info _) t high xs below rest = rest
time_of-within End t high xs below rest = rest

times_from-within : (t : ℕ) (ps : List SpelledBlock) → All (λ time. time ≤ t + ticks ps) (times_from t ps)
times_from-within t [] = λ k d below. absurd (omega arith)
times_from-within t (p ∷ ps) =
    let sum = sum_by-cons (λ p. block_ticks p.block) p ps in
    time_of-within p.block (t + block_ticks p.block) (t + ticks (p ∷ ps)) (times_from (t + block_ticks p.block) ps)
    (omega (arith, sum))
    (λ k d below. omega (arith, sum, times_from-within (t + block_ticks p.block) ps k d below))

block_ticks-sized : (block : Block) (bytes : ℕ) → IsSizedBlock block bytes → block_ticks block ≤ 65536 * bytes
block_ticks-sized (Flux t) bytes size = omega (arith, size.0, size.1)
block_ticks-sized Overflow bytes size = omega arith
block_ticks-sized (Nop _) bytes size = omega arith
block_ticks-sized (StreamInfo _ _) bytes size = omega arith
block_ticks-sized (Index _ _ _) bytes size = omega arith
block_ticks-sized (StreamEnd _ _) bytes size = omega arith
block_ticks-sized (Info _) bytes size = omega arith
block_ticks-sized End bytes size = omega arith

pub ticks-sized : (ps : List SpelledBlock) → All IsSized ps → ticks ps ≤ 65536 * total_bytes ps
ticks-sized [] sizes = omega arith
ticks-sized (p ∷ ps) sizes =
    omega (
      arith,
      sum_by-cons (λ p. block_ticks p.block) p ps,
      sum_by-cons (λ p. p.bytes) p ps,
      block_ticks-sized p.block p.bytes (All-head IsSized p ps sizes),
      ticks-sized ps (All-tail IsSized p ps sizes),
    )

pub IsSearchable-from_complete : (ps : List SpelledBlock) (b : BenchState) (transitions : List ℕ) (total end : ℕ)
    → IsComplete ps b transitions total end → IsSearchable b transitions
IsSearchable-from_complete ps b transitions total end c =
    let noted = c.noted in
    record {
      end_order = subst IsNonDecreasing (sym noted.flux) (flux_ends-order 0 ps);
      overflow_order = subst IsNonDecreasing (sym noted.overflow) (overflow_begins-order 0 ps noted.sizes);
      matched = ap length c.times ∙ (Told-all ps noted.sizes).matched ∙ sym (ap length noted.flux);
      few = omega (arith, ap length noted.overflow, overflow_begins-length 0 ps noted.sizes, c.limit);
      near = omega (arith, noted.counted, in_stream-few ps, c.limit);
      early = subst (All (λ time. time < 2 ^ 48)) (sym (c.times ∙ times-from ps))
          (λ k d below. omega (arith, times_from-within 0 ps k d below, ticks-sized ps noted.sizes, c.limit));
    }
