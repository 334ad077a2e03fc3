-- What has been read so far says what an answer means for the input.
use Rattle.std.proofs.Common.{◌≡◌, ℕ, suc, ◌+◌, ◌*◌, ◌-◌, ◌<◌, ◌≤◌, ◌++◌, Bool, false, List, [], ◌∷◌, length, drop, refl, sym, ap, ◌∙◌, arith, length-append, length-drop, append_assoc, append-nil, Option, Some, None, Result, Ok, Err, subst, OnOk, IfErr, if◌then◌else◌}
use Rattle.std.proofs.lemmas.List.{length-map}
use Rattle.std.proofs.lemmas.List.Elements.{All-map, All-weaker}
use Rattle.std.proofs.lemmas.List.Sums.{sum_by-take-le}
use Rattle.std.specs.Prelude.{All, ◌^◌}
use Rattle.std.specs.Io.KnownBytes.{Consumes, IsAtEnd}
use Rattle.flux_base.specs.declared.outside.Failed.{Failed}
use Rattle.index_turns.specs.Track.{TrackState, KeepsRoom}
use Rattle.flux_base.specs.Counts.{FaultCounts, Counts}
use Rattle.kryo_stream.specs.declared.block.Block.{Block}
use Rattle.kryo_stream.specs.declared.block.Block.TheVariants.{Flux, Overflow, Nop, StreamInfo, Index, StreamEnd, Info, End}
use Rattle.kryo_stream.specs.declared.block.SpelledBlock.{SpelledBlock}
use Rattle.kryo_stream.specs.declared.before.Before.{Before}
use Rattle.kryo_stream.specs.declared.fault.StreamFault.{StreamFault}
use Rattle.kryo_stream.specs.declared.fault.StreamFault.TheVariants.{Truncated}
use Rattle.kryo_stream.specs.declared.fault.TrackFault.{TrackFault}
use Rattle.kryo_stream.specs.declared.fault.TrackFault.TheVariants.{ReadFault, Memory, Refused}
use Rattle.kryo_stream.specs.Bench.{BenchState, IsNoted, HasFullBench, KeepsBenchRoom, IsSized}
use Rattle.kryo_stream.specs.inside.Bench.{IsComplete, TurnCause}
use Rattle.kryo_stream.specs.Pieces.{BlockOrFault, piece_at}
use Rattle.kryo_stream.specs.Stream.{total_bytes, ticks, marks, index_time, block_of_byte, is_in_stream, block_ticks, pieces, is_end, turn_fault, indexes_of}
use Rattle.kryo_stream.specs.Outcome.{Answer, Says, IsTruncated, IsCut, IsRead, IsReadOfInput, DoNotTell, input_of, HasFullRoom, IsSmall, IsNotMemory, is_read_fault}
use Rattle.kryo_stream.specs.Tally.{new_times}
use Rattle.kryo_stream.specs.inside.Tally.{at_start, behind, IsWithin, MayFollow, IsTally}
use Rattle.kryo_stream.specs.Reads.{SourceMoment}
use Rattle.kryo_stream.specs.inside.Reads.{Takes}
use Rattle.kryo_stream.specs.inside.Progress.{TakesOpenly, IsReading, ReadsOn, Progress, IsBlockOpen, TakesBlock}
use Rattle.kryo_stream.proofs.BenchLemmas.{marks-length, marks-samples}
use Rattle.kryo_stream.proofs.Pieces.{piece_at-follows}
use Rattle.kryo_stream.proofs.Progressing.{IsReading-start, IsReading-more, IsReading-push, first_fault-here, first_fault-later, IsEnding, end-later}
use Rattle.kryo_stream.proofs.Taking.{Takes-nothing, Takes-trans}
use Rattle.kryo_stream.proofs.Tallies.{IsTally-push}
use Rattle.kryo_stream.proofs.Turnings.{turn_fault-not}

pub Progress-start : (m : SourceMoment) (held : List ℕ) (bench : BenchState) → IsNoted [] bench
    → Progress m m held held 0 at_start [] bench
Progress-start m held bench noted = record {
  taken = [];
  takes = Takes-nothing (λ so_far. DoNotTell false (held ++ so_far)) m;
  reading = subst (λ x. IsReading x 0 held at_start [] bench) (sym (append-nil held)) (IsReading-start held bench noted);
}

-- the bytes from the next block on, with those that were taken for it
at_block : {old mid new : SourceMoment} {held now : List ℕ} {n : ℕ} {b : Before} {ts : List ℕ} {bench : BenchState} (taken : List ℕ)
    → Progress old mid held now n b ts bench → Takes (IsBlockOpen b now) mid new taken → Progress old new held (now ++ taken) n b ts bench
at_block {old} {mid} {new} {held} {now} {n} {b} {ts} {bench} taken p takes =
    let reading : (more : List ℕ) → IsReading (held ++ (p.taken ++ more)) n (now ++ more) b ts bench =
    λ more. subst (λ x. IsReading x n (now ++ more) b ts bench) (append_assoc held p.taken more)
    (IsReading-more (held ++ p.taken) more n now b ts bench p.reading) in record {
      taken = p.taken ++ taken;
      takes = Takes-trans p.takes takes
          (λ more untold. (n, first_fault-here (held ++ (p.taken ++ more)) n (now ++ more) b ts bench Truncated (reading more) untold));
      reading = reading taken;
    }

pub Progress-push : {old mid new : SourceMoment} {held now next : List ℕ} {n : ℕ} {b : Before} {ts : List ℕ} {bench : BenchState} (p : SpelledBlock) (bench' : BenchState)
    → Progress old mid held now n b ts bench → TakesBlock mid new now next b (Ok (Ok p))
    → is_end p.block ≡ false → IsWithin (behind b p)
    → ((ps : List SpelledBlock) → IsNoted ps bench → length ps ≡ n → IsNoted (ps ++ p ∷ []) bench')
    → Progress old new held next (n + 1) (behind b p) (ts ++ new_times b.time p.block) bench'
Progress-push {old} {mid} {new} {held} {now} {next} {n} {b} {ts} {bench} p bench' r t going within noted =
    let one : suc n ≡ n + 1 = omega arith in
    let here : Progress old new held (now ++ t.taken) n b ts bench = at_block t.taken r t.takes in
    let more : IsNoted (pieces (held ++ here.taken) n ++ p ∷ []) bench' =
    noted (pieces (held ++ here.taken) n) here.reading.noted here.reading.size in record {
      taken = here.taken;
      takes = here.takes;
      reading = subst (λ rest. IsReading (held ++ here.taken) (n + 1) rest (behind b p) (ts ++ new_times b.time p.block) bench') (sym t.says.1)
          (subst (λ k. IsReading (held ++ here.taken) k (drop p.bytes (now ++ t.taken)) (behind b p) (ts ++ new_times b.time p.block) bench')
          one (IsReading-push (held ++ here.taken) n (now ++ t.taken) b ts bench bench' p here.reading t.says.0 going within more));
    }

-- more blocks of what is held are read
pub Progress-on : {old new : SourceMoment} {held now next : List ℕ} {n : ℕ} {b b' : Before} {ts ts' : List ℕ} {bench bench' : BenchState} (count : ℕ)
    → Progress old new held now n b ts bench → ReadsOn count now next b b' ts ts' bench bench'
    → Progress old new held next (n + count) b' ts' bench'
Progress-on {held = held} {n = n} count r on = record { taken = r.taken; takes = r.takes; reading = on (held ++ r.taken) n r.reading }

-- the bytes at hand are few, since the blocks that were read are within the limit
pub few_at_hand : {old new : SourceMoment} {held rest : List ℕ} {n : ℕ} {b : Before} {ts : List ℕ} {bench : BenchState}
    → (p : Progress old new held rest n b ts bench) → b.offset + length rest ≤ 4198400 → length (held ++ p.taken) ≤ 0 + 4198400
few_at_hand {held = held} {rest = rest} {b = b} p bound =
    let size : length rest ≡ length (held ++ p.taken) - b.offset = ap length p.reading.place ∙ length-drop b.offset (held ++ p.taken) in
    omega (arith, size, bound, p.reading.inside)

-- what is answered where a block begins that is not read whole
answered : {old new : SourceMoment} {held rest next : List ℕ} {n : ℕ} {b : Before} {ts : List ℕ} {bench : BenchState} (flux : TrackState) (answer : Answer)
    → (here : Progress old new held rest n b ts bench) → b.offset + length rest ≤ 4198400
    → ((later : List ℕ) → (IsTruncated answer → later ≡ []) → Says answer (input_of false ((held ++ here.taken) ++ later)) flux (next ++ later))
    → (IsTruncated answer → IsAtEnd new.left) → IsCut answer (input_of false (held ++ here.taken))
    → IsRead old.left new.left false held next flux answer
answered flux answer here few says ended cut = record {
  taken = here.taken;
  consumed = here.takes.consumed;
  few = few_at_hand here few;
  says = says;
  ended = ended;
  cut = cut;
}

pub read_refused : {old mid new : SourceMoment} {held now next : List ℕ} {n : ℕ} {b : Before} {ts : List ℕ} {bench : BenchState} (flux : TrackState) (fault : StreamFault)
    → Progress old mid held now n b ts bench → TakesBlock mid new now next b (Ok (Err fault))
    → IsRead old.left new.left false held next flux (Err (Refused n fault))
read_refused {held = held} {now = now} {n = n} {b = b} {ts = ts} {bench = bench} flux fault r t =
    let here = at_block t.taken r t.takes in
    answered flux (Err (Refused n fault)) here t.few
    (λ later none. first_fault-later (held ++ here.taken) later n (now ++ t.taken) b ts bench fault here.reading t.says.0 none) t.says.1 tt

pub read_failed : {old mid new : SourceMoment} {held now next : List ℕ} {n : ℕ} {b : Before} {ts : List ℕ} {bench : BenchState} (flux : TrackState) (failed : Failed)
    → Progress old mid held now n b ts bench → TakesBlock mid new now next b (Err failed)
    → IsRead old.left new.left false held next flux (Err ReadFault)
read_failed {held = held} {now = now} {n = n} {b = b} {ts = ts} {bench = bench} flux failed r t =
    let here = at_block t.taken r t.takes in
    answered flux (Err ReadFault) here t.few (λ later none. tt) (λ never. absurd never)
    (n, first_fault-here (held ++ here.taken) n (now ++ t.taken) b ts bench Truncated here.reading t.says)

pub read_memory : {old mid new : SourceMoment} {held now next : List ℕ} {n : ℕ} {b : Before} {ts : List ℕ} {bench : BenchState} (flux : TrackState) (answer : Result BlockOrFault Failed)
    → Progress old mid held now n b ts bench → TakesBlock mid new now next b answer
    → IsRead old.left new.left false held next flux (Err Memory)
read_memory flux answer r t =
    answered flux (Err Memory) (at_block t.taken r t.takes) t.few (λ later none. tt) (λ never. absurd never) tt

-- where memory is wanted for a run, nothing is said
pub run_memory : {old new : SourceMoment} {held now next : List ℕ} {n : ℕ} {b : Before} {ts : List ℕ} {bench : BenchState} (flux : TrackState)
    → Progress old new held now n b ts bench → length now ≤ 4096 → IsRead old.left new.left false held next flux (Err Memory)
run_memory flux r few =
    answered flux (Err Memory) r (omega (arith, few, r.reading.tally.within.offset)) (λ later none. tt) (λ never. absurd never) tt

-- what was taken for a block was needed
pub taken_for_block : {old mid new : SourceMoment} {held now next : List ℕ} {n : ℕ} {b : Before} {ts : List ℕ} {bench : BenchState} {answer : Result BlockOrFault Failed}
    → Progress old mid held now n b ts bench → TakesBlock mid new now next b answer → (taken : List ℕ) × TakesOpenly false held old new taken
taken_for_block r t = let here = at_block t.taken r t.takes in (here.taken, here.takes)

end-within : (b : Before) (p : SpelledBlock) → p.block ≡ End → IsWithin b → MayFollow b p → IsWithin (behind b p)
end-within b p is within follows =
    let counted : (if is_in_stream p.block then p.bytes else 0) ≡ 0 = ap (λ k. if is_in_stream k then p.bytes else 0) is in
    let time : block_ticks p.block ≡ 0 = ap block_ticks is in record {
      offset = follows.room;
      counted = omega (arith, counted, within.counted);
      time = omega (arith, time, within.time);
    }

-- the End was read: all blocks are noted, and what is left stands after it
pub record AtEnd (old new : SourceMoment) (held next : List ℕ) (n : ℕ) (b : Before) (ts : List ℕ) (bench bench' : BenchState) (p : SpelledBlock)
    (transitions : List ℕ) : Type 0 where
  pub rest : List ℕ
  pub progress : Progress old new held rest n b ts bench
  pub few : b.offset + length rest ≤ 4198400
  pub reads : piece_at b.offset b.counted b.ended rest ≡ Ok p
  pub stays : next ≡ drop p.bytes rest
  pub within : IsWithin (behind b p)
  pub early : ticks (pieces (held ++ progress.taken) n ++ p ∷ []) ≤ 274877906944
  pub few_times : length transitions ≤ 4194304
  pub in_order : All (λ t. t ≤ 274877906944) transitions
  pub complete : IsComplete (pieces (held ++ progress.taken) n ++ p ∷ []) bench' transitions b.counted n

pub at_end : {old mid new : SourceMoment} {held now next : List ℕ} {n : ℕ} {b : Before} {ts : List ℕ} {bench bench' : BenchState} (p : SpelledBlock)
    (transitions : List ℕ) → Progress old mid held now n b ts bench → TakesBlock mid new now next b (Ok (Ok p)) → p.block ≡ End
    → ((ps : List SpelledBlock) → IsNoted ps bench → length ps ≡ n → IsNoted (ps ++ p ∷ []) bench')
    → transitions ≡ ts ++ new_times b.time p.block
    → AtEnd old new held next n b ts bench bench' p transitions
at_end {old} {mid} {new} {held} {now} {next} {n} {b} {ts} {bench} {bench'} p transitions r t ends noted times =
    let here : Progress old new held (now ++ t.taken) n b ts bench = at_block t.taken r t.takes in
    let ps : List SpelledBlock = pieces (held ++ here.taken) n in
    let follows = piece_at-follows b (now ++ t.taken) p t.says.0 in
    let within : IsWithin (behind b p) = end-within b p ends here.reading.tally.within follows.0 in
    let tally : IsTally (ps ++ p ∷ []) (behind b p) (ts ++ new_times b.time p.block) =
    IsTally-push ps b ts p here.reading.tally follows.0 within in
    let still : (if is_in_stream p.block then p.bytes else 0) ≡ 0 = ap (λ k. if is_in_stream k then p.bytes else 0) ends in record {
      rest = now ++ t.taken;
      progress = here;
      few = t.few;
      reads = t.says.0;
      stays = t.says.1;
      within = within;
      early = omega (arith, tally.time, within.time, within.offset);
      few_times = omega (arith, ap length times, tally.few_times, within.offset);
      in_order = subst (All (λ t. t ≤ 274877906944)) (sym times)
          (All-weaker (λ t. t ≤ (behind b p).time) (λ t. t ≤ 274877906944)
          (λ t low. omega (arith, low, within.time, within.offset)) (ts ++ new_times b.time p.block) tally.in_order);
      complete = record {
        noted = noted ps here.reading.noted here.reading.size;
        times = times ∙ tally.times_are;
        counted = omega (arith, still, tally.counted);
        limit = omega (arith, tally.offset, within.offset);
        blocks = omega (arith, length-append ps (p ∷ []), here.reading.size);
      };
    }

-- some blocks complete the bench
pub complete : {old new : SourceMoment} {held next : List ℕ} {n : ℕ} {b : Before} {ts : List ℕ} {bench bench' : BenchState} {p : SpelledBlock} {transitions : List ℕ}
    → AtEnd old new held next n b ts bench bench' p transitions → (ps : List SpelledBlock) × IsComplete ps bench' transitions b.counted n
complete {held = held} {n = n} {p = p} e = (pieces (held ++ e.progress.taken) n ++ p ∷ [], e.complete)

on_ok_at : {bench' : BenchState} {transitions : List ℕ} {counted n : ℕ} (P : List SpelledBlock → Type 0) (answer : Answer) (ps : List SpelledBlock)
    → IsComplete ps bench' transitions counted n
    → OnOk answer ((qs : List SpelledBlock) → IsComplete qs bench' transitions counted n → P qs) → OnOk answer (P ps)
on_ok_at P (Ok _) ps whole ok = ok ps whole
on_ok_at P (Err _) ps whole ok = tt

if_err_at : {bench' : BenchState} {transitions : List ℕ} {counted n : ℕ} (answer : Answer) (ps : List SpelledBlock) (spare : ℕ)
    → IsComplete ps bench' transitions counted n
    → IfErr answer (λ fault. (qs : List SpelledBlock) → IsComplete qs bench' transitions counted n → TurnCause qs spare fault)
    → IfErr answer (TurnCause ps spare)
if_err_at (Ok _) ps spare whole err = tt
if_err_at (Err _) ps spare whole err = err ps whole

end_says : (ps : List SpelledBlock) (x rest ts : List ℕ) (flux : TrackState) (answer : Answer) (spare : ℕ) → IsEnding x ps rest ts
    → flux.times ≡ ts → OnOk answer (turn_fault ps ≡ None) → OnOk answer (flux.indexes ≡ indexes_of ps)
    → IfErr answer (TurnCause ps spare) → Says answer x flux rest
end_says ps x rest ts flux (Ok _) spare e times ok indexes err = record {
  no_fault = e.fault ∙ ok;
  times = times ∙ e.times;
  indexes = indexes ∙ e.indexes;
  rest = e.stays;
}
end_says ps x rest ts flux (Err ReadFault) spare e times ok indexes err = tt
end_says ps x rest ts flux (Err Memory) spare e times ok indexes err = tt
end_says ps x rest ts flux (Err (Refused block fault)) spare e times ok indexes err = e.fault ∙ err

end_ended : (ps : List SpelledBlock) (answer : Answer) (spare : ℕ) (left' : Option (List ℕ)) → IfErr answer (TurnCause ps spare)
    → IsTruncated answer → IsAtEnd left'
end_ended ps (Ok _) spare left' err never = absurd never
end_ended ps (Err ReadFault) spare left' err never = absurd never
end_ended ps (Err Memory) spare left' err never = absurd never
end_ended ps (Err (Refused block fault)) spare left' err is = absurd (turn_fault-not ps block fault err is)

end_cut : (ps : List SpelledBlock) (answer : Answer) (spare : ℕ) (x : List ℕ) → IfErr answer (TurnCause ps spare) → IsCut answer x
end_cut ps (Ok _) spare x err = tt
end_cut ps (Err ReadFault) spare x err = absurd err
end_cut ps (Err Memory) spare x err = tt
end_cut ps (Err (Refused block fault)) spare x err = tt

pub read_end : {old new : SourceMoment} {held next : List ℕ} {n : ℕ} {b : Before} {ts : List ℕ} {bench bench' : BenchState} {p : SpelledBlock} {transitions : List ℕ}
    (flux : TrackState) (answer : Answer) (spare : ℕ) → AtEnd old new held next n b ts bench bench' p transitions → p.block ≡ End
    → transitions ≡ ts ++ new_times b.time p.block → flux.times ≡ transitions
    → OnOk answer ((ps : List SpelledBlock) → IsComplete ps bench' transitions b.counted n → turn_fault ps ≡ None)
    → OnOk answer ((ps : List SpelledBlock) → IsComplete ps bench' transitions b.counted n → flux.indexes ≡ indexes_of ps)
    → IfErr answer (λ fault. (ps : List SpelledBlock) → IsComplete ps bench' transitions b.counted n → TurnCause ps spare fault)
    → IsRead old.left new.left false held next flux answer
read_end {old} {new} {held} {next} {n} {b} {ts} {bench} {bench'} {p} {transitions} flux answer spare e ends times kept ok indexes err =
    let x : List ℕ = held ++ e.progress.taken in
    let ps : List SpelledBlock = pieces x n ++ p ∷ [] in
    let cause : IfErr answer (TurnCause ps spare) = if_err_at answer ps spare e.complete err in record {
      taken = e.progress.taken;
      consumed = e.progress.takes.consumed;
      few = few_at_hand e.progress e.few;
      says = λ later none. subst (λ rest. Says answer (x ++ later) flux (rest ++ later)) (sym e.stays)
          (end_says ps (x ++ later) (drop p.bytes e.rest ++ later) (ts ++ new_times b.time p.block) flux answer spare
          (end-later x later n e.rest b ts bench p e.progress.reading e.reads (ap is_end ends) e.within)
          (kept ∙ times) (on_ok_at (λ qs. turn_fault qs ≡ None) answer ps e.complete ok) (on_ok_at (λ qs. flux.indexes ≡ indexes_of qs) answer ps e.complete indexes) cause);
      ended = end_ended ps answer spare new.left cause;
      cut = end_cut ps answer spare x cause;
    }

pub not_end : (block : Block) → (block ≡ End → ⊥) → is_end block ≡ false
not_end (Flux _) other = refl
not_end Overflow other = refl
not_end (Nop _) other = refl
not_end (StreamInfo _ _) other = refl
not_end (Index _ _ _) other = refl
not_end (StreamEnd _ _) other = refl
not_end (Info _) other = refl
not_end End other = absurd (other refl)

-- an answer other than Ok says nothing of the track
pub IsRead-fault : {left left' : Option (List ℕ)} {used : Bool} {held held' : List ℕ} (flux other : TrackState) (fault : TrackFault)
    → IsRead left left' used held held' flux (Err fault) → IsRead left left' used held held' other (Err fault)
IsRead-fault flux other ReadFault r = record { taken = r.taken; consumed = r.consumed; few = r.few; says = r.says; ended = r.ended; cut = r.cut }
IsRead-fault flux other Memory r = record { taken = r.taken; consumed = r.consumed; few = r.few; says = r.says; ended = r.ended; cut = r.cut }
IsRead-fault flux other (Refused _ _) r = record { taken = r.taken; consumed = r.consumed; few = r.few; says = r.says; ended = r.ended; cut = r.cut }

told_after : (left' : Option (List ℕ)) (used : Bool) (held held' : List ℕ) (flux : TrackState) (answer : Answer) (bytes taken : List ℕ)
    → Consumes (Some bytes) left' taken
    → ((later : List ℕ) → (IsTruncated answer → later ≡ []) → Says answer (input_of used ((held ++ taken) ++ later)) flux (held' ++ later))
    → (IsTruncated answer → IsAtEnd left') → IsReadOfInput (input_of used (held ++ bytes)) left' held' flux answer
told_after None used held held' flux answer bytes taken consumed says ended = absurd consumed
told_after (Some stays) used held held' flux answer bytes taken consumed says ended = (
  stays,
  refl,
  subst (λ input. Says answer (input_of used input) flux (held' ++ stays))
      (append_assoc held taken stays ∙ ap (λ xs. held ++ xs) (sym consumed)) (says stays ended),
)

-- what an answer says whatever follows, it says of the input
pub IsRead-told : {left left' : Option (List ℕ)} {used : Bool} {held held' : List ℕ} (flux : TrackState) (answer : Answer) (bytes : List ℕ)
    → IsRead left left' used held held' flux answer → left ≡ Some bytes
    → IsReadOfInput (input_of used (held ++ bytes)) left' held' flux answer
IsRead-told {left} {left'} {used} {held} {held'} flux answer bytes r told =
    told_after left' used held held' flux answer bytes r.taken (subst (λ l. Consumes l left' r.taken) told r.consumed) r.says r.ended

-- where there is full room, a block finds room
pub note_finds_room : {old mid new : SourceMoment} {held now next : List ℕ} {n : ℕ} {b : Before} {p : SpelledBlock} (Q : Type 0) (flux flux' : TrackState) (bench bench' : BenchState)
    → Progress old mid held now n b flux'.times bench' → TakesBlock mid new now next b (Ok (Ok p))
    → HasFullRoom flux → KeepsRoom flux flux' → HasFullBench bench → KeepsBenchRoom bench bench'
    → (0 < flux'.spare_times → HasFullBench bench' → (ps : List SpelledBlock) → IsNoted ps bench' → total_bytes ps + p.bytes ≤ 4194304 → Q) → Q
note_finds_room {held = held} {now = now} {n = n} {b = b} {p = p} Q flux flux' bench bench' r t full room full_bench bench_room finds =
    let here = at_block t.taken r t.takes in
    let follows = piece_at-follows b (now ++ t.taken) p t.says.0 in
    finds (omega (arith, full.times, room.times, r.reading.tally.few_times, follows.0.some, follows.0.room))
    (record {
      for_ends = omega (arith, full_bench.for_ends, bench_room.for_ends);
      for_overflows = omega (arith, full_bench.for_overflows, bench_room.for_overflows);
      for_indexes = omega (arith, full_bench.for_indexes, bench_room.for_indexes);
    })
    (pieces (held ++ r.taken) n) r.reading.noted (omega (arith, r.reading.tally.offset, follows.0.room))

-- where there is full room, the index times find room
pub end_finds_room : {old new : SourceMoment} {held next : List ℕ} {n : ℕ} {b : Before} {ts : List ℕ} {bench bench' : BenchState} {p : SpelledBlock} {transitions : List ℕ}
    (answer : Answer) (spare : ℕ) → AtEnd old new held next n b ts bench bench' p transitions → 262144 ≤ spare
    → IfErr answer (λ fault. (ps : List SpelledBlock) → IsComplete ps bench' transitions b.counted n → TurnCause ps spare fault) → IsNotMemory answer
end_finds_room (Ok _) spare e room err = tt
end_finds_room (Err ReadFault) spare e room err = tt
end_finds_room (Err (Refused _ _)) spare e room err = tt
end_finds_room {held = held} {n = n} {p = p} (Err Memory) spare e room err =
    let ps : List SpelledBlock = pieces (held ++ e.progress.taken) n ++ p ∷ [] in
    let many : spare < length (marks ps) = err ps e.complete in
    let few : 16 * length (marks ps) ≤ total_bytes ps = marks-length ps e.complete.noted.sizes in
    absurd (omega (arith, many, few, room, e.complete.limit))

-- no source is read for the turns
pub end_counts : {old new : SourceMoment} {held next : List ℕ} {n : ℕ} {b : Before} {ts : List ℕ} {bench bench' : BenchState} {p : SpelledBlock} {transitions : List ℕ}
    {before now : FaultCounts} (answer : Answer) (spare : ℕ) → AtEnd old new held next n b ts bench bench' p transitions
    → IfErr answer (λ fault. (ps : List SpelledBlock) → IsComplete ps bench' transitions b.counted n → TurnCause ps spare fault)
    → Counts false before now → Counts (is_read_fault answer) before now
end_counts (Ok _) spare e err counts = counts
end_counts (Err (Refused _ _)) spare e err counts = counts
end_counts (Err Memory) spare e err counts = counts
end_counts {held = held} {n = n} {p = p} (Err ReadFault) spare e err counts =
    absurd (err (pieces (held ++ e.progress.taken) n ++ p ∷ []) e.complete)

index_times-within : (ps : List SpelledBlock) → All IsSized ps → ticks ps ≤ 274877906944 → All (λ time. time < 2 ^ 39) (indexes_of ps)
index_times-within ps sizes early = All-map (λ time. time < 2 ^ 39) (index_time ps) (marks ps)
    (All-weaker (λ mark. mark.sample < 2 ^ 32) (λ mark. index_time ps mark < 2 ^ 39)
    (λ mark few. omega (arith, few, early, sum_by-take-le (λ p. block_ticks p.block) ps (block_of_byte ps mark.position)))
    (marks ps) (marks-samples ps sizes))

-- the track is as small as the limit makes it
pub end_small : {old new : SourceMoment} {held next : List ℕ} {n : ℕ} {b : Before} {ts : List ℕ} {bench bench' : BenchState} {p : SpelledBlock} {transitions : List ℕ}
    (flux : TrackState) (answer : Answer) → AtEnd old new held next n b ts bench bench' p transitions → flux.times ≡ transitions
    → OnOk answer ((ps : List SpelledBlock) → IsComplete ps bench' transitions b.counted n → flux.indexes ≡ indexes_of ps)
    → OnOk answer (IsSmall flux)
end_small {held = held} {n = n} {p = p} flux (Ok _) e kept indexes =
    let ps : List SpelledBlock = pieces (held ++ e.progress.taken) n ++ p ∷ [] in
    let are : flux.indexes ≡ indexes_of ps = indexes ps e.complete in
    let sizes : All IsSized ps = e.complete.noted.sizes in record {
      few_times = omega (arith, ap length kept, e.few_times);
      few_indexes = omega (arith, ap length are, length-map (marks ps) (index_time ps), marks-length ps sizes, e.complete.limit);
      times_within = subst (All (λ t. t ≤ 274877906944)) (sym kept) e.in_order;
      indexes_within = subst (All (λ t. t < 2 ^ 39)) (sym are) (index_times-within ps sizes e.early);
    }
end_small flux (Err _) e kept indexes = tt
