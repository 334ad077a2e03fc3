-- How far the reading of a stream has come, step by step.
use Rattle.std.proofs.Common.{◌≡◌, ◌≢◌, ◌⊎◌, ℕ, suc, ◌+◌, ◌-◌, ◌<◌, ◌++◌, true, false, List, [], ◌∷◌, length, drop, refl, sym, ap, ◌∙◌, arith, length-append, length-drop, append-nil, Some, Ok, Err, subst, inl, inr}
use Rattle.std.proofs.lemmas.List.{drop-append-le, drop-drop}
use Rattle.std.proofs.lemmas.Bool.{cases_lt}
use Rattle.kryo_stream.specs.declared.block.SpelledBlock.{SpelledBlock}
use Rattle.kryo_stream.specs.declared.before.Before.{Before}
use Rattle.kryo_stream.specs.declared.fault.StreamFault.{StreamFault}
use Rattle.kryo_stream.specs.declared.fault.StreamFault.TheVariants.{Truncated, UnknownType, BadSize, WrongPosition, DeviceFault, DataAfterEnd, IndexPosition, IndexOrder, NoTurn, TooLong}
use Rattle.kryo_stream.specs.Bench.{BenchState, IsNoted}
use Rattle.kryo_stream.specs.Pieces.{BlockOrFault, piece_at}
use Rattle.kryo_stream.specs.Stream.{total_bytes, times_of, piece_behind, pieces, with_piece, is_end, is_last, stops_at, last_block, fault_at, first_fault, turn_fault, stream, stream_length, indexes_of, times, indexes}
use Rattle.kryo_stream.specs.Tally.{new_times}
use Rattle.kryo_stream.specs.inside.Tally.{at_start, behind, IsWithin, IsTally}
use Rattle.kryo_stream.specs.inside.Progress.{IsReading}
use Rattle.kryo_stream.proofs.Pieces.{piece_at-grows, piece_at-follows}
use Rattle.kryo_stream.proofs.Streams.{pieces-grow, goes_on-grow, last_block-is}
use Rattle.kryo_stream.proofs.Tallies.{IsTally-start, IsTally-push}

pub IsReading-start : (x : List ℕ) (bench : BenchState) → IsNoted [] bench → IsReading x 0 x at_start [] bench
IsReading-start x bench noted = record {
  place = refl;
  inside = omega arith;
  count = omega arith;
  size = refl;
  goes_on = λ k low. absurd (omega (arith, low));
  tally = IsTally-start;
  noted = noted;
}

-- more bytes come
pub IsReading-more : (x z : List ℕ) (n : ℕ) (rest : List ℕ) (b : Before) (ts : List ℕ) (bench : BenchState) → IsReading x n rest b ts bench
    → IsReading (x ++ z) n (rest ++ z) b ts bench
IsReading-more x z n rest b ts bench r =
    let same : pieces (x ++ z) n ≡ pieces x n = pieces-grow x z n r.goes_on in record {
      place = ap (λ xs. xs ++ z) r.place ∙ sym (drop-append-le b.offset x z r.inside);
      inside = omega (arith, r.inside, length-append x z);
      count = r.count;
      size = ap length same ∙ r.size;
      goes_on = goes_on-grow x z n r.goes_on;
      tally = subst (λ ps. IsTally ps b ts) (sym same) r.tally;
      noted = subst (λ ps. IsNoted ps bench) (sym same) r.noted;
    }

-- what stands at the front of the rest is the next block
pub next_is : (x : List ℕ) (n : ℕ) (rest : List ℕ) (b : Before) (ts : List ℕ) (bench : BenchState) → IsReading x n rest b ts bench
    → piece_behind x (pieces x n) ≡ piece_at b.offset b.counted b.ended rest
next_is x n rest b ts bench r = rw (← r.tally.ended, ← r.tally.counted, ← r.tally.offset, r.place) refl

-- a block was read
pub pieces-push : (x : List ℕ) (n : ℕ) (rest : List ℕ) (b : Before) (ts : List ℕ) (bench : BenchState) (p : SpelledBlock)
    → IsReading x n rest b ts bench → piece_at b.offset b.counted b.ended rest ≡ Ok p → pieces x (suc n) ≡ pieces x n ++ p ∷ []
pieces-push x n rest b ts bench p r reads = ap (with_piece (pieces x n)) (next_is x n rest b ts bench r ∙ reads)

below_more_of : (P : ℕ → Type 0) (n : ℕ) → ((k : ℕ) → k < n → P k) → P n → (k : ℕ) → k < suc n → P k
below_more_of P n below here k low = elim (cases_lt k n) [
  | inl less ↦ below k less
  | inr more ↦ (let same : n ≡ k = omega (arith, low, more) in subst P same here)
]

pub IsReading-push : (x : List ℕ) (n : ℕ) (rest : List ℕ) (b : Before) (ts : List ℕ) (bench bench' : BenchState) (p : SpelledBlock)
    → IsReading x n rest b ts bench → piece_at b.offset b.counted b.ended rest ≡ Ok p → is_end p.block ≡ false
    → IsWithin (behind b p) → IsNoted (pieces x n ++ p ∷ []) bench'
    → IsReading x (suc n) (drop p.bytes rest) (behind b p) (ts ++ new_times b.time p.block) bench'
IsReading-push x n rest b ts bench bench' p r reads going within noted =
    let follows = piece_at-follows b rest p reads in
    let pushed : pieces x (suc n) ≡ pieces x n ++ p ∷ [] = pieces-push x n rest b ts bench p r reads in
    let left : length rest ≡ length x - b.offset = ap length r.place ∙ length-drop b.offset x in record {
      place = ap (drop p.bytes) r.place ∙ drop-drop p.bytes b.offset x;
      inside = omega (arith, follows.1, left, r.inside);
      count = omega (arith, follows.0.some, r.count);
      size = ap length pushed ∙ omega (arith, length-append (pieces x n) (p ∷ []), r.size);
      goes_on = below_more_of (λ k. stops_at x k ≡ false) n r.goes_on (ap is_last (next_is x n rest b ts bench r ∙ reads) ∙ going);
      tally = subst (λ ps. IsTally ps (behind b p) (ts ++ new_times b.time p.block)) (sym pushed)
          (IsTally-push (pieces x n) b ts p r.tally follows.0 within);
      noted = subst (λ ps. IsNoted ps bench') (sym pushed) noted;
    }

err_same : (a b : StreamFault) → ◌≡◌ {A = BlockOrFault} (Err a) (Err b) → a ≡ b
err_same a b same = cc

pub ok_not : {p : SpelledBlock} {fault : StreamFault} → ◌≡◌ {A = BlockOrFault} (Ok p) (Err fault) → ⊥
ok_not same = cc

truncated_or : (fault : StreamFault) → (fault ≡ Truncated) ⊎ (fault ≢ Truncated)
truncated_or Truncated = inl refl
truncated_or (UnknownType _) = inr (λ same. cc)
truncated_or (BadSize _) = inr (λ same. cc)
truncated_or (WrongPosition _ _) = inr (λ same. cc)
truncated_or (DeviceFault _) = inr (λ same. cc)
truncated_or DataAfterEnd = inr (λ same. cc)
truncated_or IndexPosition = inr (λ same. cc)
truncated_or IndexOrder = inr (λ same. cc)
truncated_or NoTurn = inr (λ same. cc)
truncated_or TooLong = inr (λ same. cc)

-- a fault stays as it is, whatever follows
fault-later : (b : Before) (rest later : List ℕ) (fault : StreamFault) → piece_at b.offset b.counted b.ended rest ≡ Err fault
    → (fault ≡ Truncated → later ≡ []) → piece_at b.offset b.counted b.ended (rest ++ later) ≡ Err fault
fault-later b rest later fault is none = elim (truncated_or fault) [
  | inl truncated ↦ ap (piece_at b.offset b.counted b.ended) (ap (λ z. rest ++ z) (none truncated) ∙ append-nil rest) ∙ is
  | inr other ↦ piece_at-grows b.offset b.counted b.ended rest later (λ same. other (err_same _ _ (sym is ∙ same))) ∙ is
]

-- the fault of the next block is the first fault
pub first_fault-here : (x : List ℕ) (n : ℕ) (rest : List ℕ) (b : Before) (ts : List ℕ) (bench : BenchState) (fault : StreamFault)
    → IsReading x n rest b ts bench → piece_at b.offset b.counted b.ended rest ≡ Err fault → first_fault x ≡ Some (n, fault)
first_fault-here x n rest b ts bench fault r reads =
    let next : piece_behind x (pieces x n) ≡ Err fault = next_is x n rest b ts bench r ∙ reads in
    let last : last_block x ≡ n = last_block-is x n (omega (arith, r.count, r.inside)) r.goes_on (ap is_last next) in
    ap (λ k. fault_at x k (piece_behind x (pieces x k))) last ∙ ap (fault_at x n) next

pub first_fault-later : (x later : List ℕ) (n : ℕ) (rest : List ℕ) (b : Before) (ts : List ℕ) (bench : BenchState) (fault : StreamFault)
    → IsReading x n rest b ts bench → piece_at b.offset b.counted b.ended rest ≡ Err fault → (fault ≡ Truncated → later ≡ [])
    → first_fault (x ++ later) ≡ Some (n, fault)
first_fault-later x later n rest b ts bench fault r reads none =
    first_fault-here (x ++ later) n (rest ++ later) b ts bench fault (IsReading-more x later n rest b ts bench r)
    (fault-later b rest later fault reads none)

-- a stream of these blocks, with these times and what is left after it
pub record IsEnding (x : List ℕ) (ps : List SpelledBlock) (rest : List ℕ) (ts : List ℕ) : Type 0 where
  pub fault : first_fault x ≡ turn_fault ps
  pub times : ts ≡ times x
  pub indexes : indexes_of ps ≡ indexes x
  pub stays : rest ≡ drop (stream_length x) x

end-here : (x : List ℕ) (n : ℕ) (rest : List ℕ) (b : Before) (ts : List ℕ) (bench : BenchState) (p : SpelledBlock)
    → IsReading x n rest b ts bench → piece_at b.offset b.counted b.ended rest ≡ Ok p → is_end p.block ≡ true → IsWithin (behind b p)
    → IsEnding x (pieces x n ++ p ∷ []) (drop p.bytes rest) (ts ++ new_times b.time p.block)
end-here x n rest b ts bench p r reads ends within =
    let follows = piece_at-follows b rest p reads in
    let next : piece_behind x (pieces x n) ≡ Ok p = next_is x n rest b ts bench r ∙ reads in
    let last : last_block x ≡ n = last_block-is x n (omega (arith, r.count, r.inside)) r.goes_on (ap is_last next ∙ ends) in
    let one : n + 1 ≡ suc n = omega arith in
    let pushed : pieces x (n + 1) ≡ pieces x n ++ p ∷ [] = ap (pieces x) one ∙ pieces-push x n rest b ts bench p r reads in
    let all : stream x ≡ pieces x n ++ p ∷ [] = ap (λ k. pieces x (k + 1)) last ∙ pushed in
    let tally : IsTally (pieces x n ++ p ∷ []) (behind b p) (ts ++ new_times b.time p.block) =
    IsTally-push (pieces x n) b ts p r.tally follows.0 within in record {
      fault = ap (λ k. fault_at x k (piece_behind x (pieces x k))) last ∙ ap (fault_at x n) next ∙ ap turn_fault pushed;
      times = tally.times_are ∙ ap times_of (sym all);
      indexes = ap indexes_of (sym all);
      stays = ap (drop p.bytes) r.place ∙ drop-drop p.bytes b.offset x ∙ ap (λ k. drop k x) (tally.offset ∙ ap total_bytes (sym all));
    }

pub end-later : (x later : List ℕ) (n : ℕ) (rest : List ℕ) (b : Before) (ts : List ℕ) (bench : BenchState) (p : SpelledBlock)
    → IsReading x n rest b ts bench → piece_at b.offset b.counted b.ended rest ≡ Ok p → is_end p.block ≡ true → IsWithin (behind b p)
    → IsEnding (x ++ later) (pieces x n ++ p ∷ []) (drop p.bytes rest ++ later) (ts ++ new_times b.time p.block)
end-later x later n rest b ts bench p r reads ends within =
    let follows = piece_at-follows b rest p reads in
    let reads_on : piece_at b.offset b.counted b.ended (rest ++ later) ≡ Ok p =
    piece_at-grows b.offset b.counted b.ended rest later (λ same. ok_not (sym reads ∙ same)) ∙ reads in
    subst (λ ps. IsEnding (x ++ later) (ps ++ p ∷ []) (drop p.bytes rest ++ later) (ts ++ new_times b.time p.block))
    (pieces-grow x later n r.goes_on)
    (subst (λ stays. IsEnding (x ++ later) (pieces (x ++ later) n ++ p ∷ []) stays (ts ++ new_times b.time p.block))
    (drop-append-le p.bytes rest later follows.1)
    (end-here (x ++ later) n (rest ++ later) b ts bench p (IsReading-more x later n rest b ts bench r) reads_on ends within))
