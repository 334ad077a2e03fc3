-- A run of transitions of one byte is read as its blocks are, one after another.
use Rattle.std.proofs.Common.{◌≡◌, ℕ, suc, ◌+◌, ◌==◌, ◌<◌, ◌≤◌, ◌++◌, ◌||◌, Bool, false, List, [], ◌∷◌, All, length, take, drop, nat_le, refl, sym, ap, ◌∙◌, arith, append_assoc, append-nil, length-take, subst}
use Rattle.std.specs.List.{range_with_len, sum}
use Rattle.std.proofs.lemmas.Bool.Decides.{nat_tests}
use Rattle.std.proofs.lemmas.List.{take-append-drop}
use Rattle.std.proofs.lemmas.List.Elements.{All-head, All-tail}
use Rattle.std.proofs.lemmas.List.Sums.{sum_by-cons}
use Rattle.index_turns.specs.Track.{TrackState, KeepsRoom, times_after}
use Rattle.kryo_stream.specs.declared.before.Before.{Before}
use Rattle.kryo_stream.specs.declared.block.Block.TheVariants.{Flux, Index}
use Rattle.kryo_stream.specs.declared.block.SpelledBlock.{SpelledBlock}
use Rattle.kryo_stream.specs.Bench.{BenchState, HasFullBench, IsNoted, KeepsBenchRoom}
use Rattle.kryo_stream.specs.inside.Blocks.{IsShortFlux}
use Rattle.kryo_stream.specs.inside.Keeping.{AddsNotes}
use Rattle.kryo_stream.specs.Outcome.{HasFullRoom}
use Rattle.kryo_stream.specs.Pieces.{piece, piece_at, piece_from, unless_fault}
use Rattle.kryo_stream.specs.inside.Progress.{IsReading, ReadsOn}
use Rattle.kryo_stream.specs.Protocol.{LIMIT}
use Rattle.kryo_stream.specs.Stream.{pieces}
use Rattle.kryo_stream.specs.inside.Tally.{behind, IsWithin}
use Rattle.kryo_stream.proofs.BenchLemmas.{overflow_begins-length, noted_bytes}
use Rattle.kryo_stream.proofs.Progressing.{IsReading-push}
use Rattle.kryo_stream.proofs.Readings.{has-enough}

-- a transition of one byte
abbrev pub one_byte : ℕ → SpelledBlock
one_byte ticks = record { block = Flux ticks; bytes = 1 }

piece_at-one_byte : (b : Before) (byte : ℕ) (rest : List ℕ) → 13 < byte → b.ended ≡ false → b.offset + 1 ≤ LIMIT
    → piece_at b.offset b.counted b.ended (byte ∷ rest) ≡ piece (Flux byte) 1
piece_at-one_byte b byte rest low going room =
    let not_band : (byte == 13) ≡ false = grind (arith, nat_tests) in
    let not_two : nat_le byte 7 ≡ false = grind (arith, nat_tests) in
    let not_nop : nat_le byte 10 ≡ false = grind (arith, nat_tests) in
    let not_overflow : (byte == 11) ≡ false = grind (arith, nat_tests) in
    let not_three : (byte == 12) ≡ false = grind (arith, nat_tests) in
    ap (λ h. unless_fault h (piece_from b.offset b.counted b.ended byte (byte ∷ rest))) (has-enough b.offset 1 (byte ∷ rest) room (omega arith))
    ∙ rw (not_band, going, not_two, not_nop, not_overflow, not_three) refl

-- what stands before the block after a run
abbrev pub behind_run : Before → List ℕ → Before
behind_run b run = record { offset = b.offset + length run; counted = b.counted + length run; ended = b.ended; time = b.time + sum run }

pub before_same : (a b : Before) → a.offset ≡ b.offset → a.counted ≡ b.counted → a.ended ≡ b.ended → a.time ≡ b.time → a ≡ b
before_same a b offset counted ended time =
    ap (λ n. made n a.counted a.ended a.time) offset ∙ ap (λ n. made b.offset n a.ended a.time) counted
    ∙ ap (λ e. made b.offset b.counted e a.time) ended ∙ ap (λ n. made b.offset b.counted b.ended n) time
  where
    made : ℕ → ℕ → Bool → ℕ → Before
    made offset counted ended time = record { offset = offset; counted = counted; ended = ended; time = time }

pub or_false : (b : Bool) → b ≡ false → (b || false) ≡ b
or_false b is = rw is refl

-- the same reading, said in other words
pub same_reading : {x : List ℕ} {n n' : ℕ} {rest : List ℕ} {b b' : Before} {ts ts' : List ℕ} {bench : BenchState}
    → IsReading x n rest b ts bench → n ≡ n' → b ≡ b' → ts ≡ ts' → IsReading x n' rest b' ts' bench
same_reading {x} {n} {n'} {rest} {b} {b'} {ts} {ts'} {bench} r number before times =
    subst (λ k. IsReading x k rest b' ts' bench) number
    (subst (λ a. IsReading x n rest a ts' bench) before (subst (λ t. IsReading x n rest b t bench) times r))

-- the same reading, with a bench that holds the same
pub IsReading-bench : {x : List ℕ} {n : ℕ} {rest : List ℕ} {b : Before} {ts : List ℕ} {bench bench' : BenchState} → IsReading x n rest b ts bench
    → bench'.counted ≡ bench.counted → bench'.ends ≡ bench.ends → bench'.overflows ≡ bench.overflows → bench'.indexes ≡ bench.indexes
    → IsReading x n rest b ts bench'
IsReading-bench r counted ends overflows indexes = record {
  place = r.place;
  inside = r.inside;
  count = r.count;
  size = r.size;
  goes_on = r.goes_on;
  tally = r.tally;
  noted = record {
    sizes = r.noted.sizes;
    counted = counted ∙ r.noted.counted;
    flux = ends ∙ r.noted.flux;
    overflow = overflows ∙ r.noted.overflow;
    index = indexes ∙ r.noted.index;
  };
}

-- a bench holds a run more
abbrev pub HoldsRun : ℕ → BenchState → BenchState → Type 0
HoldsRun count bench bench' = AddsNotes count (range_with_len (bench.counted + 1) count) [] bench bench'

pub IsReading-run : (x : List ℕ) (n : ℕ) (run rest : List ℕ) (b : Before) (ts : List ℕ) (bench bench' : BenchState)
    → All IsShortFlux run → (0 < length run → b.ended ≡ false) → b.offset + length run ≤ LIMIT
    → HoldsRun (length run) bench bench' → IsReading x n (run ++ rest) b ts bench
    → IsReading x (n + length run) rest (behind_run b run) (ts ++ times_after b.time run) bench'
IsReading-run x n [] rest b ts bench bench' short going room holds r =
    let kept : IsReading x n ([] ++ rest) b ts bench' = IsReading-bench r (omega (arith, holds.counted)) (holds.ends ∙ append-nil bench.ends) (holds.overflows ∙ append-nil bench.overflows) holds.indexes in
    same_reading kept (omega arith)
    (before_same b (behind_run b []) (omega arith) (omega arith) refl (omega arith)) (sym (append-nil ts))
IsReading-run x n (byte ∷ run) rest b ts bench bench' short going room holds r =
    let ended : b.ended ≡ false = going (omega arith) in
    let flux : IsShortFlux byte = All-head IsShortFlux byte run short in
    let high : byte < 256 = flux.1 in
    let p : SpelledBlock = one_byte byte in
    let next : Before = behind b p in
    let step : BenchState = record bench { counted = bench.counted + 1; ends = bench.ends ++ (bench.counted + 1) ∷ [] } in
    let reads = piece_at-one_byte b byte (run ++ rest) flux.0 ended (omega (arith, room)) in
    let within : IsWithin next = record {
      offset = omega (arith, room);
      counted = omega (arith, r.tally.within.counted);
      time = omega (arith, r.tally.within.time, high);
    } in
    let noted : IsNoted (pieces x n ++ p ∷ []) step =
    noted_bytes (pieces x n) p bench step (λ x y z same. no_index byte x y z same) (omega arith, omega (arith, high))
    (record { counted = refl; ends = refl; overflows = sym (append-nil bench.overflows); indexes = refl }) r.noted in
    let read : IsReading x (suc n) (run ++ rest) next (ts ++ (b.time + byte) ∷ []) step =
    IsReading-push x n ((byte ∷ run) ++ rest) b ts bench step p r reads refl within noted in
    let more : HoldsRun (length run) step bench' = record {
      counted = omega (arith, holds.counted);
      ends = holds.ends ∙ sym (append_assoc bench.ends ((bench.counted + 1) ∷ []) (range_with_len (bench.counted + 1 + 1) (length run)));
      overflows = holds.overflows;
      indexes = holds.indexes;
    } in
    same_reading
    (IsReading-run x (suc n) run rest next (ts ++ (b.time + byte) ∷ []) step bench'
    (All-tail IsShortFlux byte run short) (λ _. or_false b.ended ended ∙ ended) (omega (arith, room)) more read)
    (omega arith)
    (before_same (behind_run next run) (behind_run b (byte ∷ run)) (omega arith) (omega arith) (or_false b.ended ended)
    (omega (arith, sum_by-cons (λ x. x) byte run)))
    (append_assoc ts ((b.time + byte) ∷ []) (times_after (b.time + byte) run))
  where
    no_index : (t x y z : ℕ) → Flux t ≡ Index x y z → ⊥
    no_index t x y z same = cc

-- nothing is passed over
pub reads_none : (rest : List ℕ) (b : Before) (ts : List ℕ) (bench : BenchState) → ReadsOn 0 rest rest b b ts ts bench bench
reads_none rest b ts bench x n r = same_reading r (omega arith) refl refl

-- one stretch of blocks after another
pub reads_on_both : {rest mid rest' : List ℕ} {b c b' : Before} {ts us ts' : List ℕ} {bench between bench' : BenchState} (k m total : ℕ)
    → ReadsOn k rest mid b c ts us bench between → ReadsOn m mid rest' c b' us ts' between bench' → total ≡ k + m
    → ReadsOn total rest rest' b b' ts ts' bench bench'
reads_on_both k m total first second is x n r = same_reading (second x (n + k) (first x n r)) (omega (arith, is)) refl refl

-- the bytes at hand begin with a run, which is passed over
pub run_of_front : (x : List ℕ) (n count : ℕ) (held held' : List ℕ) (b : Before) (ts ts' : List ℕ) (bench bench' : BenchState) (end : ℕ)
    → count ≤ length held → All IsShortFlux (take count held) → (0 < count → b.ended ≡ false) → b.offset + count ≤ LIMIT
    → HoldsRun count bench bench' → ts' ≡ ts ++ times_after b.time (take count held) → end ≡ b.time + sum (take count held)
    → held' ≡ drop count held → IsReading x n held b ts bench
    → IsReading x (n + count) held' (record { offset = b.offset + count; counted = b.counted + count; ended = b.ended; time = end }) ts' bench'
run_of_front x n count held held' b ts ts' bench bench' end inside short going room holds times end_is rest r =
    let run : List ℕ = take count held in
    let size : length run ≡ count = omega (arith, length-take count held, inside) in
    let whole : run ++ drop count held ≡ held = take-append-drop count held in
    let passed : IsReading x (n + length run) (drop count held) (behind_run b run) (ts ++ times_after b.time run) bench' =
    IsReading-run x n run (drop count held) b ts bench bench' short (λ some. going (omega (arith, some, size))) (omega (arith, room, size))
    (subst (λ k. HoldsRun k bench bench') (sym size) holds)
    (subst (λ bytes. IsReading x n bytes b ts bench) (sym whole) r) in
    subst (λ bytes. IsReading x (n + count) bytes (record { offset = b.offset + count; counted = b.counted + count; ended = b.ended; time = end }) ts' bench') (sym rest)
    (same_reading passed (omega (arith, size))
    (before_same (behind_run b run) (record { offset = b.offset + count; counted = b.counted + count; ended = b.ended; time = end })
    (omega (arith, size)) (omega (arith, size)) refl (sym end_is)) (sym times))

-- what a reading has kept is within the limit, so that full room is enough for more
pub record IsRoomy (b : Before) (ts : List ℕ) (bench : BenchState) : Type 0 where
  pub within : IsWithin b
  pub in_order : All (λ time. time ≤ b.time) ts
  pub few_times : length ts ≤ b.offset
  pub counted : bench.counted ≡ b.counted
  pub few_overflows : length bench.overflows ≤ b.offset

pub is_roomy : (x : List ℕ) (n : ℕ) (rest : List ℕ) (b : Before) (ts : List ℕ) (bench : BenchState) → IsReading x n rest b ts bench → IsRoomy b ts bench
is_roomy x n rest b ts bench r = record {
  within = r.tally.within;
  in_order = r.tally.in_order;
  few_times = r.tally.few_times;
  counted = r.noted.counted ∙ sym r.tally.counted;
  few_overflows = (let few = overflow_begins-length 0 (pieces x n) r.noted.sizes in omega (arith, few, ap length r.noted.overflow, r.tally.offset));
}

pub still_full_room : {flux flux' : TrackState} → HasFullRoom flux → KeepsRoom flux flux' → HasFullRoom flux'
still_full_room full keeps = record { times = omega (arith, full.times, keeps.times); indexes = omega (arith, full.indexes, keeps.indexes) }

pub still_full_bench : {bench bench' : BenchState} → HasFullBench bench → KeepsBenchRoom bench bench' → HasFullBench bench'
still_full_bench full keeps = record {
  for_ends = omega (arith, full.for_ends, keeps.for_ends);
  for_overflows = omega (arith, full.for_overflows, keeps.for_overflows);
  for_indexes = omega (arith, full.for_indexes, keeps.for_indexes);
}

pub keeps_room_both : {flux mid flux' : TrackState} → KeepsRoom flux mid → KeepsRoom mid flux' → KeepsRoom flux flux'
keeps_room_both first second = record { times = omega (arith, first.times, second.times); indexes = omega (arith, first.indexes, second.indexes) }

pub keeps_bench_both : {bench mid bench' : BenchState} → KeepsBenchRoom bench mid → KeepsBenchRoom mid bench' → KeepsBenchRoom bench bench'
keeps_bench_both first second = record {
  for_ends = omega (arith, first.for_ends, second.for_ends);
  for_overflows = omega (arith, first.for_overflows, second.for_overflows);
  for_indexes = omega (arith, first.for_indexes, second.for_indexes);
}
