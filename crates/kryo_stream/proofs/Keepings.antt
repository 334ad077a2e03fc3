-- What is kept of the transitions that some bytes begin with, as one row or one transition more comes.
use Rattle.std.proofs.Common.{◌≡◌, ℕ, suc, ◌+◌, ◌-◌, ◌<◌, ◌≤◌, ◌++◌, false, List, [], ◌∷◌, All, length, take, drop, refl, sym, ap, ◌∙◌, arith, length-append, length-drop, length-take, append-nil, subst, Ok}
use Rattle.std.specs.List.{range_with_len, sum}
use Rattle.std.proofs.lemmas.List.{take-append-le, drop-append-le, drop-drop, take_rest, take-append-drop}
use Rattle.std.proofs.lemmas.List.FromFn.{length-range_with_len}
use Rattle.index_turns.specs.Track.{TrackState, times_after}
use Rattle.kryo_stream.specs.declared.before.Before.{Before}
use Rattle.kryo_stream.specs.declared.block.Block.TheVariants.{Flux}
use Rattle.kryo_stream.specs.declared.block.SpelledBlock.{SpelledBlock}
use Rattle.kryo_stream.specs.declared.front.LongFlux.{LongFlux}
use Rattle.kryo_stream.specs.Bench.{BenchState, KeepsNotes}
use Rattle.kryo_stream.specs.inside.Blocks.{IsShortFlux}
use Rattle.kryo_stream.specs.inside.Keeping.{AddsTimes, AddsEnds, HasRoomFor, IsLongFlux, KeepsFlux, past}
use Rattle.kryo_stream.specs.Pieces.{piece_at}
use Rattle.kryo_stream.specs.inside.Progress.{IsReading, ReadsOn}
use Rattle.kryo_stream.specs.Protocol.{LIMIT}
use Rattle.kryo_stream.specs.inside.Tally.{behind, IsWithin}
use Rattle.kryo_stream.proofs.BlockReadings.{reads_block}
use Rattle.kryo_stream.proofs.Pieces.{piece_at-grows}
use Rattle.kryo_stream.proofs.Progressing.{ok_not}
use Rattle.kryo_stream.proofs.Runs.{IsReading-bench, before_same, or_false, same_reading, reads_on_both, run_of_front, is_roomy, IsRoomy, keeps_room_both, keeps_bench_both}

length-times_after : (start : ℕ) (intervals : List ℕ) → length (times_after start intervals) ≡ length intervals
length-times_after start [] = refl
length-times_after start (interval ∷ intervals) = ap suc (length-times_after (start + interval) intervals)

-- nothing is kept yet
pub keeps_start : (bytes : List ℕ) (b : Before) (t : TrackState) (bench : BenchState) → length bytes ≤ t.spare_times → HasRoomFor (length bytes) bench
    → KeepsFlux bytes b t t bench bench 0 b.time
keeps_start bytes b t bench room bench_room = record {
  inside = omega arith;
  more = omega arith;
  fewer = omega arith;
  reading = λ rest x n r. same_reading r (omega arith) (before_same b (past b 0 b.time) (omega arith) (omega arith) refl refl) refl;
  indexes = refl;
  room = record { times = omega arith; indexes = omega arith };
  bench_room = record { for_ends = omega arith; for_overflows = omega arith; for_indexes = omega arith };
  spare = omega (arith, room);
  spare_ends = omega (arith, bench_room);
}

-- so much more is kept, if it is read
keeps_more : (bytes : List ℕ) (b : Before) (old mid new : TrackState) (bench bmid bnew : BenchState) (place time count size time' : ℕ)
    (added ends : List ℕ) → KeepsFlux bytes b old mid bench bmid place time → count ≤ size → place + size ≤ length bytes
    → length added ≡ count → length ends ≡ count → AddsTimes count added mid new → AddsEnds size count ends bmid bnew
    → ((rest : List ℕ) → ReadsOn count (drop place bytes ++ rest) (drop (place + size) bytes ++ rest) (past b place time) (past b (place + size) time')
    mid.times new.times bmid bnew)
    → KeepsFlux bytes b old new bench bnew (place + size) time'
keeps_more bytes b old mid new bench bmid bnew place time count size time' added ends kept few inside added_are ends_are times adds reads =
    let grown : length new.times ≡ length mid.times + count = omega (arith, ap length times.times, length-append mid.times added, added_are) in
    let more_ends : length bnew.ends ≡ length bmid.ends + count = omega (arith, ap length adds.ends, length-append bmid.ends ends, ends_are) in record {
      inside = inside;
      more = omega (arith, kept.more, grown);
      fewer = omega (arith, kept.fewer, grown, few);
      reading = λ rest. reads_on_both (length mid.times - length old.times) count (length new.times - length old.times) (kept.reading rest) (reads rest)
          (omega (arith, kept.more, grown));
      indexes = times.indexes ∙ kept.indexes;
      room = keeps_room_both kept.room (record {
        times = omega (arith, grown, times.spare_times);
        indexes = omega (arith, ap length times.indexes, times.spare_indexes);
      });
      bench_room = keeps_bench_both kept.bench_room (record {
        for_ends = omega (arith, more_ends, adds.spare_ends);
        for_overflows = omega (arith, ap length adds.overflows, adds.spare_overflows);
        for_indexes = omega (arith, ap length adds.indexes, adds.spare_indexes);
      });
      spare = omega (arith, kept.spare, times.spare_times, few);
      spare_ends = omega (arith, kept.spare_ends, adds.spare_ends, adds.counted, more_ends);
    }

-- what is left of the bytes
rest_of : (bytes rest : List ℕ) (place size : ℕ) → place + size ≤ length bytes
    → drop (place + size) bytes ++ rest ≡ drop size (drop place bytes ++ rest)
rest_of bytes rest place size inside =
    ap (λ l. l ++ rest) (sym (drop-drop size place bytes))
    ∙ sym (drop-append-le size (drop place bytes) rest (omega (arith, length-drop place bytes, inside)))

-- the bytes from a place on, as a slice of them is seen
abbrev pub part : List ℕ → ℕ → List ℕ
part bytes place = take (length bytes - place) (drop place bytes)

pub part_length : (bytes : List ℕ) (place : ℕ) → length (part bytes place) ≡ length bytes - place
part_length bytes place = ap length (take_rest bytes place) ∙ length-drop place bytes

-- a row of them is as long as it is said to be, and lies within the bytes
row_inside : (bytes : List ℕ) (place count : ℕ) → place ≤ length bytes → count ≤ length (part bytes place)
    → (length (take count (part bytes place)) ≡ count) × (place + count ≤ length bytes)
row_inside bytes place count inside few =
    (omega (arith, length-take count (part bytes place), few), omega (arith, few, part_length bytes place, inside))

-- what was kept is within the limit
pub keeps_roomy : {x : List ℕ} {n : ℕ} {bytes : List ℕ} {b : Before} {old mid : TrackState} {bench bmid : BenchState} {place time : ℕ} (rest : List ℕ)
    → IsReading x n (bytes ++ rest) b old.times bench → KeepsFlux bytes b old mid bench bmid place time → IsRoomy (past b place time) mid.times bmid
keeps_roomy {x} {n} {bytes} {b} {old} {mid} {bench} {bmid} {place} {time} rest r kept =
    is_roomy x (n + (length mid.times - length old.times)) (drop place bytes ++ rest) (past b place time) mid.times bmid (kept.reading rest x n r)

-- a row of transitions of one byte more
pub keeps_row : {bytes : List ℕ} {b : Before} {old mid new : TrackState} {bench bmid bnew : BenchState} {place time place' time' : ℕ} (count : ℕ)
    → KeepsFlux bytes b old mid bench bmid place time → b.ended ≡ false → b.offset + length bytes ≤ LIMIT
    → count ≤ length (part bytes place) → All IsShortFlux (take count (part bytes place))
    → AddsTimes count (times_after time (take count (part bytes place))) mid new
    → AddsEnds count count (range_with_len (bmid.counted + 1) count) bmid bnew
    → place' ≡ place + count → time' ≡ time + sum (take count (part bytes place))
    → KeepsFlux bytes b old new bench bnew place' time'
keeps_row {bytes} {b} {old} {mid} {new} {bench} {bmid} {bnew} {place} {time} {place'} {time'} count kept ended limit few short added more_ends place_is time_is =
    subst (λ p. KeepsFlux bytes b old new bench bnew p time') (ap (λ (n : ℕ). place + n) size ∙ sym place_is)
    (keeps_more bytes b old mid new bench bmid bnew place time (length row) (length row) time' (times_after time row)
    (range_with_len (bmid.counted + 1) (length row)) kept (omega arith) inside (length-times_after time row)
    (length-range_with_len (bmid.counted + 1) (length row)) times ends reads)
  where
    row : List ℕ
    row = take count (part bytes place)

    size : length row ≡ count
    size = (row_inside bytes place count kept.inside few).0

    times : AddsTimes (length row) (times_after time row) mid new
    times = subst (λ (n : ℕ). AddsTimes n (times_after time row) mid new) (sym size) added

    ends : AddsEnds (length row) (length row) (range_with_len (bmid.counted + 1) (length row)) bmid bnew
    ends = subst (λ (n : ℕ). AddsEnds n n (range_with_len (bmid.counted + 1) n) bmid bnew) (sym size) more_ends

    inside : place + length row ≤ length bytes
    inside = omega (arith, size, (row_inside bytes place count kept.inside few).1)

    is : row ≡ take (length row) (drop place bytes)
    is = ap (take count) (take_rest bytes place) ∙ ap (λ n. take n (drop place bytes)) (sym size)

    reads : (rest : List ℕ) → ReadsOn (length row) (drop place bytes ++ rest) (drop (place + length row) bytes ++ rest) (past b place time)
        (past b (place + length row) time') mid.times new.times bmid bnew
    reads rest x n r =
        let held : List ℕ = drop place bytes ++ rest in
        let within : length row ≤ length (drop place bytes) = omega (arith, length-drop place bytes, inside) in
        let front : row ≡ take (length row) held = is ∙ sym (take-append-le (length row) (drop place bytes) rest within) in
        let passed : IsReading x (n + length row) (drop (place + length row) bytes ++ rest)
        (record { offset = (b.offset + place) + length row; counted = (b.counted + place) + length row; ended = b.ended; time = time' }) new.times bnew =
        run_of_front x n (length row) held (drop (place + length row) bytes ++ rest) (past b place time) mid.times new.times bmid bnew time'
        (omega (arith, within, length-append (drop place bytes) rest)) (subst (All IsShortFlux) front short) (λ _. ended) (omega (arith, limit, inside))
        (record { counted = ends.counted; ends = ends.ends; overflows = ends.overflows ∙ sym (append-nil bmid.overflows); indexes = ends.indexes })
        (times.times ∙ ap (λ l. mid.times ++ times_after time l) front) (time_is ∙ ap (λ l. time + sum l) front)
        (rest_of bytes rest place (length row) inside) r in
        same_reading passed refl
        (before_same (record { offset = (b.offset + place) + length row; counted = (b.counted + place) + length row; ended = b.ended; time = time' })
        (past b (place + length row) time') (omega arith) (omega arith) refl refl) refl

-- a transition of two or three bytes more
pub keeps_long : {bytes : List ℕ} {b : Before} {old mid new : TrackState} {bench bmid bnew : BenchState} {place time place' time' : ℕ} (long : LongFlux)
    → KeepsFlux bytes b old mid bench bmid place time → b.ended ≡ false → b.offset + length bytes ≤ LIMIT
    → IsLongFlux (part bytes place) long → 1 ≤ long.bytes → long.bytes ≤ length (part bytes place) → long.ticks < 65536
    → AddsTimes 1 ((time + long.ticks) ∷ []) mid new → AddsEnds long.bytes 1 ((bmid.counted + long.bytes) ∷ []) bmid bnew
    → place' ≡ place + long.bytes → time' ≡ time + long.ticks → KeepsFlux bytes b old new bench bnew place' time'
keeps_long {bytes} {b} {old} {mid} {new} {bench} {bmid} {bnew} {place} {time} {place'} {time'} long kept ended limit is some few sized times ends place_is time_is =
    subst (λ p. KeepsFlux bytes b old new bench bnew p time') (sym place_is)
    (keeps_more bytes b old mid new bench bmid bnew place time 1 long.bytes time' ((time + long.ticks) ∷ []) ((bmid.counted + long.bytes) ∷ [])
    kept some inside (omega arith) (omega arith) times ends reads)
  where
    inside : place + long.bytes ≤ length bytes
    inside = (row_inside bytes place long.bytes kept.inside few).1

    reads : (rest : List ℕ) → ReadsOn 1 (drop place bytes ++ rest) (drop (place + long.bytes) bytes ++ rest) (past b place time)
        (past b (place + long.bytes) time') mid.times new.times bmid bnew
    reads rest x n r =
        let p : SpelledBlock = record { block = Flux long.ticks; bytes = long.bytes } in
        let held : List ℕ = drop place bytes ++ rest in
        let c : Before = past b place time in
        let here : piece_at c.offset c.counted false (drop place bytes) ≡ Ok p =
        subst (λ l. piece_at c.offset c.counted false l ≡ Ok p) (take_rest bytes place) (is c.offset c.counted (omega (arith, limit, inside))) in
        let read : piece_at c.offset c.counted c.ended held ≡ Ok p =
        rw ended (piece_at-grows c.offset c.counted false (drop place bytes) rest (λ same. ok_not (sym here ∙ same)) ∙ here) in
        let roomy : IsRoomy c mid.times bmid = is_roomy x n held c mid.times bmid r in
        let within : IsWithin (behind c p) = record {
          offset = omega (arith, limit, inside);
          counted = omega (arith, roomy.within.counted);
          time = omega (arith, roomy.within.time, sized, some);
        } in
        let next : past b (place + long.bytes) time' ≡ behind c p =
        before_same (past b (place + long.bytes) time') (behind c p) (omega arith) (omega arith) (sym (or_false b.ended ended)) time_is in
        reads_block held (drop (place + long.bytes) bytes ++ rest) c (past b (place + long.bytes) time') mid.times new.times bmid bnew p
        read refl (some, sized) (rest_of bytes rest place long.bytes inside) next within times.times
        (record { counted = ends.counted; ends = ends.ends; overflows = ends.overflows ∙ sym (append-nil bmid.overflows); indexes = ends.indexes }) x n r

-- room that is made changes no reading
pub reading_of_notes : {x : List ℕ} {n : ℕ} {rest : List ℕ} {b : Before} {ts us : List ℕ} {bench bench' : BenchState}
    → IsReading x n rest b ts bench → us ≡ ts → KeepsNotes bench bench' → IsReading x n rest b us bench'
reading_of_notes {x} {n} {rest} {b} {ts} {us} {bench} {bench'} r times notes =
    same_reading (IsReading-bench r notes.counted notes.ends notes.overflows notes.indexes) refl refl (sym times)

-- the bytes at hand and a front of them
pub reading_of_front : {x : List ℕ} {n : ℕ} {held : List ℕ} {b : Before} {ts us : List ℕ} {bench bench' : BenchState} (reach : ℕ)
    → IsReading x n held b ts bench → us ≡ ts → KeepsNotes bench bench' → IsReading x n (take reach held ++ drop reach held) b us bench'
reading_of_front {x} {n} {held} {b} {ts} {us} {bench} {bench'} reach r times notes =
    subst (λ bytes. IsReading x n bytes b us bench') (sym (take-append-drop reach held)) (reading_of_notes r times notes)

-- what was kept of a front of the bytes at hand is passed over
pub passes_flux : {held held' : List ℕ} {b : Before} {ts : List ℕ} {mid new : TrackState} {bench bmid bnew : BenchState} {place time : ℕ} (reach : ℕ)
    → KeepsFlux (take reach held) b mid new bmid bnew place time → mid.times ≡ ts → KeepsNotes bench bmid → held' ≡ drop place held
    → ReadsOn (length new.times - length ts) held held' b (past b place time) ts new.times bench bnew
passes_flux {held} {held'} {b} {ts} {mid} {new} {bench} {bmid} {bnew} {place} {time} reach kept times notes rest x n r =
    let front : List ℕ = take reach held in
    let read : IsReading x (n + (length new.times - length mid.times)) (drop place front ++ drop reach held) (past b place time) new.times bnew =
    kept.reading (drop reach held) x n (reading_of_front reach r times notes) in
    let left : drop place front ++ drop reach held ≡ held' =
    sym (drop-append-le place front (drop reach held) kept.inside) ∙ ap (drop place) (take-append-drop reach held) ∙ sym rest in
    subst (λ bytes. IsReading x (n + (length new.times - length ts)) bytes (past b place time) new.times bnew) left
    (same_reading read (omega (arith, ap length times)) refl refl)
