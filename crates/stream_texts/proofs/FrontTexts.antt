-- Blocks with an Info block in front of them: their times and their faults are the same.
use Rattle.std.proofs.Common.{◌≡◌, ℕ, zero, suc, ◌+◌, ◌-◌, ◌&&◌, Bool, true, false, cond, if◌then◌else◌, List, [], ◌∷◌, length, take, map, find, filter_map, get_or, slice_get, nat_lt, nat_le, unwrap_or, refl, ap, ◌∙◌, arith, Option, Some, None}
use Rattle.std.specs.List.{cons_option, range_with_len}
use Rattle.std.specs.Option.{option_and_then, option_map, option_or}
use Rattle.std.proofs.lemmas.Bool.Decides.{nat_tests}
use Rattle.std.proofs.lemmas.List.{length-map}
use Rattle.std.proofs.lemmas.Option.{slice_get-map}
use Rattle.std.proofs.lemmas.List.Sums.{sum_by-cons}
use Rattle.kryo_stream.specs.Stream.{block_of_byte, block_ticks, flux_time, holds_byte, in_stream_bytes, index_time, indexes_of, is_in_stream, mark_at, mark_fault, mark_fault_at, mark_faults, mark_of, marks, ticks, time_at, times_of, total_bytes, turn_fault}
use Rattle.kryo_stream.specs.declared.block.Block.{Block}
use Rattle.kryo_stream.specs.declared.block.Block.TheVariants.{End, Flux, Index, Info, Nop, Overflow, StreamEnd, StreamInfo}
use Rattle.kryo_stream.specs.declared.block.Mark.{Mark}
use Rattle.kryo_stream.specs.declared.block.SpelledBlock.{SpelledBlock}
use Rattle.kryo_stream.specs.declared.fault.StreamFault.{StreamFault}
use Rattle.kryo_stream.specs.declared.fault.StreamFault.TheVariants.{IndexOrder, IndexPosition, NoTurn}

-- a range that begins at the next number
filter-next : {X : Type 0} (h : ℕ → Option X) (a n : ℕ) → filter_map h (range_with_len (a + 1) n) ≡ filter_map (λ i. h (suc i)) (range_with_len a n)
filter-next h a zero = refl
filter-next h a (suc n) =
    let next : a + 1 ≡ suc a = omega arith in
    ap (λ (i : ℕ). cons_option (h i) (filter_map h (range_with_len (a + 1 + 1) n))) next
    ∙ ap (cons_option (h (suc a))) (filter-next h (a + 1) n)

find-next : (f : ℕ → Bool) (a n : ℕ) → find f (range_with_len (a + 1) n) ≡ option_map suc (find (λ i. f (suc i)) (range_with_len a n))
find-next f a zero = refl
find-next f a (suc n) =
    let next : a + 1 ≡ suc a = omega arith in
    ap (λ (i : ℕ). cond (f i) (Some i) (find f (range_with_len (a + 1 + 1) n))) next
    ∙ ap (cond (f (suc a)) (Some (suc a))) (find-next f (a + 1) n)
    ∙ by (f (suc a)) (find (λ i. f (suc i)) (range_with_len (a + 1) n))
  where
    by : (b : Bool) (rest : Option ℕ) → cond b (Some (suc a)) (option_map suc rest) ≡ option_map suc (cond b (Some a) rest)
    by true rest = refl
    by false rest = refl

-- functions that agree
filter-same : {X : Type 0} (h g : ℕ → Option X) → ((i : ℕ) → h i ≡ g i) → (xs : List ℕ) → filter_map h xs ≡ filter_map g xs
filter-same h g same [] = refl
filter-same h g same (x ∷ xs) = ap (λ o. cons_option o (filter_map h xs)) (same x) ∙ ap (cons_option (g x)) (filter-same h g same xs)

find-same : (f g : ℕ → Bool) → ((i : ℕ) → f i ≡ g i) → (xs : List ℕ) → find f xs ≡ find g xs
find-same f g same [] = refl
find-same f g same (x ∷ xs) = ap (λ b. cond b (Some x) (find f xs)) (same x) ∙ ap (cond (g x) (Some x)) (find-same f g same xs)

filter-map : {X Y : Type 0} (f : X → Y) (h : ℕ → Option X) (xs : List ℕ) → filter_map (λ i. option_map f (h i)) xs ≡ map f (filter_map h xs)
filter-map f h [] = refl
filter-map f h (x ∷ xs) = ap (cons_option (option_map f (h x))) (filter-map f h xs) ∙ by (h x)
  where
    by : (o : Option _) → cons_option (option_map f o) (map f (filter_map h xs)) ≡ map f (cons_option o (filter_map h xs))
    by None = refl
    by (Some y) = refl

none_below : (a : ℕ) → nat_lt a 0 ≡ false
none_below a = grind (arith, nat_tests)

not_both : (a b : Bool) → b ≡ false → (a && b) ≡ false
not_both true b is = is
not_both false b is = refl

-- the number of a block behind it
abbrev next_mark : Mark → Mark
next_mark mark = record mark { number = suc mark.number }

abbrev next_fault : ℕ × StreamFault → ℕ × StreamFault
next_fault at = (suc at.0, at.1)

module _ (size bytes : ℕ) where
  abbrev info : SpelledBlock
  info = record { block = Info size; bytes = bytes }

  pub total-front : (ps : List SpelledBlock) → total_bytes (info ∷ ps) ≡ bytes + total_bytes ps
  total-front ps = sum_by-cons (λ p. p.bytes) info ps

  pub in_stream-front : (ps : List SpelledBlock) → in_stream_bytes (info ∷ ps) ≡ in_stream_bytes ps
  in_stream-front ps =
      let sum : in_stream_bytes (info ∷ ps) ≡ 0 + in_stream_bytes ps = sum_by-cons (λ (p : SpelledBlock). if is_in_stream p.block then p.bytes else 0) info ps in
      omega (arith, sum)

  ticks-front : (ps : List SpelledBlock) → ticks (info ∷ ps) ≡ ticks ps
  ticks-front ps =
      let sum : ticks (info ∷ ps) ≡ 0 + ticks ps = sum_by-cons (λ (p : SpelledBlock). block_ticks p.block) info ps in
      omega (arith, sum)

  flux-front : (up : List SpelledBlock) (block : Block) → flux_time (info ∷ up) block ≡ flux_time up block
  flux-front up (Flux _) = ap Some (ticks-front up)
  flux-front up Overflow = refl
  flux-front up (Nop _) = refl
  flux-front up (StreamInfo _ _) = refl
  flux-front up (Index _ _ _) = refl
  flux-front up (StreamEnd _ _) = refl
  flux-front up (Info _) = refl
  flux-front up End = refl

  mark-front : (j : ℕ) (block : Block) → mark_of (suc j) block ≡ option_map next_mark (mark_of j block)
  mark-front j (Flux _) = refl
  mark-front j Overflow = refl
  mark-front j (Nop _) = refl
  mark-front j (StreamInfo _ _) = refl
  mark-front j (Index _ _ _) = refl
  mark-front j (StreamEnd _ _) = refl
  mark-front j (Info _) = refl
  mark-front j End = refl

  module _ (ps : List SpelledBlock) where
    abbrev all : List SpelledBlock
    all = info ∷ ps

    time-front : (j : ℕ) → time_at all (suc j) ≡ time_at ps j
    time-front j =
        let next : suc j + 1 ≡ suc (j + 1) = omega arith in
        ap (λ (n : ℕ). option_and_then (λ (p : SpelledBlock). flux_time (take n all) p.block) (slice_get ps j)) next ∙ by (slice_get ps j)
      where
        by : (o : Option SpelledBlock)
            → option_and_then (λ (p : SpelledBlock). flux_time (info ∷ take (j + 1) ps) p.block) o ≡ option_and_then (λ (p : SpelledBlock). flux_time (take (j + 1) ps) p.block) o
        by None = refl
        by (Some p) = flux-front (take (j + 1) ps) p.block

    pub times-front : times_of all ≡ times_of ps
    times-front = filter-next (time_at all) 0 (length ps) ∙ filter-same (λ i. time_at all (suc i)) (time_at ps) time-front (range_with_len 0 (length ps))

    mark_at-front : (j : ℕ) → mark_at all (suc j) ≡ option_map next_mark (mark_at ps j)
    mark_at-front j = by (slice_get ps j)
      where
        by : (o : Option SpelledBlock)
            → option_and_then (λ (p : SpelledBlock). mark_of (suc j) p.block) o ≡ option_map next_mark (option_and_then (λ (p : SpelledBlock). mark_of j p.block) o)
        by None = refl
        by (Some p) = mark-front j p.block

    marks-front : marks all ≡ map next_mark (marks ps)
    marks-front =
        filter-next (mark_at all) 0 (length ps)
        ∙ filter-same (λ i. mark_at all (suc i)) (λ i. option_map next_mark (mark_at ps i)) mark_at-front (range_with_len 0 (length ps))
        ∙ filter-map next_mark (mark_at ps) (range_with_len 0 (length ps))

    holds-front : (position j : ℕ) → holds_byte all position (suc j) ≡ holds_byte ps position j
    holds-front position j =
        let next : suc j + 1 ≡ suc (j + 1) = omega arith in
        ap (λ (n : ℕ). nat_le (in_stream_bytes (info ∷ take j ps)) position && nat_lt position (in_stream_bytes (take n all))) next
        ∙ ap (λ (n : ℕ). nat_le n position && nat_lt position (in_stream_bytes (info ∷ take (j + 1) ps))) (in_stream-front (take j ps))
        ∙ ap (λ (n : ℕ). nat_le (in_stream_bytes (take j ps)) position && nat_lt position n) (in_stream-front (take (j + 1) ps))

    holds-first : (position : ℕ) → holds_byte all position 0 ≡ false
    holds-first position = not_both _ _ (none_below position)

    block-front : (position : ℕ) → block_of_byte all position ≡ suc (block_of_byte ps position)
    block-front position =
        ap (λ (b : Bool). unwrap_or (cond b (Some 0) (find (holds_byte all position) (range_with_len (0 + 1) (length ps)))) (suc (length ps))) (holds-first position)
        ∙ ap (λ (o : Option ℕ). unwrap_or o (suc (length ps)))
        (find-next (holds_byte all position) 0 (length ps)
        ∙ ap (option_map suc) (find-same (λ i. holds_byte all position (suc i)) (holds_byte ps position) (holds-front position) (range_with_len 0 (length ps))))
        ∙ by (find (holds_byte ps position) (range_with_len 0 (length ps)))
      where
        by : (o : Option ℕ) → unwrap_or (option_map suc o) (suc (length ps)) ≡ suc (unwrap_or o (length ps))
        by None = refl
        by (Some n) = refl

    index-front : (mark : Mark) → index_time all (next_mark mark) ≡ index_time ps mark
    index-front mark =
        ap (λ (n : ℕ). ticks (take n all) + mark.sample) (block-front mark.position)
        ∙ ap (λ (n : ℕ). n + mark.sample) (ticks-front (take (block_of_byte ps mark.position) ps))

    map-front : (ms : List Mark) → map (index_time all) (map next_mark ms) ≡ map (index_time ps) ms
    map-front [] = refl
    map-front (m ∷ ms) = ap (λ (n : ℕ). n ∷ map (index_time all) (map next_mark ms)) (index-front m) ∙ ap (λ (ns : List ℕ). index_time ps m ∷ ns) (map-front ms)

    pub indexes-front : indexes_of all ≡ indexes_of ps
    indexes-front = ap (map (index_time all)) marks-front ∙ map-front (marks ps)

    fault-front : (k : ℕ) (mark : Mark) → mark_fault all k (next_mark mark) ≡ option_map next_fault (mark_fault ps k mark)
    fault-front k mark =
        ap (λ (n : ℕ). of n (index_time all (next_mark mark)) (indexes_of all)) (in_stream-front ps)
        ∙ ap (λ (n : ℕ). of (in_stream_bytes ps) n (indexes_of all)) (index-front mark)
        ∙ ap (λ (ns : List ℕ). of (in_stream_bytes ps) (index_time ps mark) ns) indexes-front
        ∙ by (nat_lt (in_stream_bytes ps) mark.position) (nat_lt 0 k && nat_le (index_time ps mark) (get_or (indexes_of ps) (k - 1) 0))
      where
        of : ℕ → ℕ → List ℕ → Option (ℕ × StreamFault)
        of bytes_in time times =
            if nat_lt bytes_in mark.position then Some (suc mark.number, IndexPosition)
            else (if nat_lt 0 k && nat_le time (get_or times (k - 1) 0) then Some (suc mark.number, IndexOrder) else None)

        by : (past early : Bool)
            → (if past then Some (suc mark.number, IndexPosition) else (if early then Some (suc mark.number, IndexOrder) else None))
            ≡ option_map next_fault (if past then Some (mark.number, IndexPosition) else (if early then Some (mark.number, IndexOrder) else None))
        by true early = refl
        by false true = refl
        by false false = refl

    fault_at-front : (k : ℕ) → mark_fault_at all k ≡ option_map next_fault (mark_fault_at ps k)
    fault_at-front k =
        ap (λ (ms : List Mark). option_and_then (mark_fault all k) (slice_get ms k)) marks-front
        ∙ ap (option_and_then (mark_fault all k)) (slice_get-map next_mark (marks ps) k)
        ∙ by (slice_get (marks ps) k)
      where
        by : (o : Option Mark) → option_and_then (mark_fault all k) (option_map next_mark o) ≡ option_map next_fault (option_and_then (mark_fault ps k) o)
        by None = refl
        by (Some mark) = fault-front k mark

    faults-front : mark_faults all ≡ map next_fault (mark_faults ps)
    faults-front =
        let many : length (marks all) ≡ length (marks ps) = ap length marks-front ∙ length-map (marks ps) next_mark in
        ap (λ (n : ℕ). filter_map (mark_fault_at all) (range_with_len 0 n)) many
        ∙ filter-same (mark_fault_at all) (λ k. option_map next_fault (mark_fault_at ps k)) fault_at-front (range_with_len 0 (length (marks ps)))
        ∙ filter-map next_fault (mark_fault_at ps) (range_with_len 0 (length (marks ps)))

    pub turn-front : turn_fault ps ≡ None → turn_fault all ≡ None
    turn-front none =
        let many : length (marks all) ≡ length (marks ps) = ap length marks-front ∙ length-map (marks ps) next_mark in
        ap (λ (fs : List (ℕ × StreamFault)). option_or (slice_get fs 0) (if nat_lt (length (marks all)) 2 then Some (length all - 1, NoTurn) else None)) faults-front
        ∙ ap (λ (n : ℕ). option_or (slice_get (map next_fault (mark_faults ps)) 0) (if nat_lt n 2 then Some (length all - 1, NoTurn) else None)) many
        ∙ by (mark_faults ps) (nat_lt (length (marks ps)) 2) _ _ none
      where
        by : (faults : List (ℕ × StreamFault)) (few : Bool) (a b : ℕ × StreamFault) → option_or (slice_get faults 0) (if few then Some a else None) ≡ None
            → option_or (slice_get (map next_fault faults) 0) (if few then Some b else None) ≡ None
        by [] true a b is = absurd (cc)
        by [] false a b is = refl
        by (fault ∷ faults) few a b is = absurd (cc)
