-- A list begins with a well-formed stream exactly where it has no first fault.
use Rattle.std.proofs.Common.{◌≡◌, ◌≤◌, ◌<◌, ◌+◌, ◌-◌, ◌++◌, ◌&&◌, ℕ, zero, suc, Bool, true, false, List, [], ◌∷◌, All, length, take, drop, find, get_or, slice_get, unwrap_or, nat_lt, nat_le, refl, ap, sym, ◌∙◌, subst, arith, length-append, length-drop, Option, Some, None, Ok, Err, if◌then◌else◌, ◌⊎◌, inl, inr, ◌↔◌}
use Rattle.std.specs.List.{filter_map, range_with_len, cons_option}
use Rattle.std.specs.List.Sorted.{IsStrictlyIncreasing}
use Rattle.std.specs.Option.{option_or}
use Rattle.std.proofs.lemmas.Bool.{cases_lt}
use Rattle.std.proofs.lemmas.Bool.Decides.{nat_tests}
use Rattle.std.proofs.lemmas.List.{take-append-le, take_all, take_more, length-map, get_or_default}
use Rattle.std.proofs.lemmas.List.Sums.{sum_by-append, sum_by-cons, sum_by-take-le}
use Rattle.std.proofs.lemmas.List.Elements.{All-drop}
use Rattle.std.proofs.lemmas.Option.{slice_get_within, get_or_from_slice_get}
use Rattle.std.proofs.Math.Seq.{take-append_seam}
use Rattle.kryo_stream.specs.declared.block.Mark.{Mark}
use Rattle.kryo_stream.specs.declared.block.SpelledBlock.{SpelledBlock}
use Rattle.kryo_stream.specs.declared.fault.StreamFault.{StreamFault}
use Rattle.kryo_stream.specs.declared.fault.StreamFault.TheVariants.{NoTurn}
use Rattle.kryo_stream.specs.Protocol.{LIMIT}
use Rattle.kryo_stream.specs.Pieces.{BlockOrFault}
use Rattle.kryo_stream.specs.Stream.{total_bytes, in_stream_bytes, has_ended, is_end, is_last, marks, index_time, indexes_of, mark_fault, mark_fault_at, mark_faults, turn_fault, piece_behind, with_piece, more_pieces, pieces, stops_at, last_block, fault_at, first_fault, stream}
use Rattle.kryo_stream.specs.WellFormed.{IsBlockBehind, BeginsWith}
use Rattle.kryo_stream.proofs.BenchLemmas.{slice_get-seam}
use Rattle.kryo_stream.proofs.FindLemmas.{find-range, FindsFirst, IsFirst}
use Rattle.kryo_stream.proofs.ResolveLemmas.{index_at, mark_fault_at-is, filter_map-none, fault_none, blank}
use Rattle.kryo_stream.proofs.SpellingLaws.{read_block}
use Rattle.kryo_stream.proofs.ReadingLaws.{IsByte, Found, found_block}

-- these blocks stand at the front of x
pub record Stand (x : List ℕ) (ps : List SpelledBlock) : Type 0 where
  pub blocks : (j : ℕ) (p : SpelledBlock) → slice_get ps j ≡ Some p → IsBlockBehind x (take j ps) p
  pub limit : total_bytes ps ≤ LIMIT
  pub within : total_bytes ps ≤ length x
  pub sizes : length ps ≤ total_bytes ps

Stand-nil : (x : List ℕ) → Stand x []
Stand-nil x = record { blocks = λ j p is. absurd (none_some p is); limit = omega arith; within = omega arith; sizes = omega arith }
  where
    none_some : (p : SpelledBlock) → None ≡ Some p → ⊥
    none_some p e = cc

total_bytes-snoc : (ps : List SpelledBlock) (p : SpelledBlock) → total_bytes (ps ++ p ∷ []) ≡ total_bytes ps + p.bytes
total_bytes-snoc ps p = omega (arith, sum_by-append (λ q. q.bytes) ps (p ∷ []), sum_by-cons (λ q. q.bytes) p [])

slice_get-front : {X : Type 0} (xs ys : List X) (j : ℕ) → j < length xs → slice_get (xs ++ ys) j ≡ slice_get xs j
slice_get-front [] ys j below = absurd (omega arith)
slice_get-front (x ∷ xs) ys zero below = refl
slice_get-front (x ∷ xs) ys (suc j) below = slice_get-front xs ys j (omega arith)

-- a place of a list with one element more is a place of the list, or the last
slice_get-snoc : {X : Type 0} (xs : List X) (y z : X) (j : ℕ) → slice_get (xs ++ y ∷ []) j ≡ Some z
    → ((j < length xs) × (slice_get xs j ≡ Some z)) ⊎ ((j ≡ length xs) × (y ≡ z))
slice_get-snoc xs y z j is = elim (cases_lt j (length xs)) [
  | inl below ↦ inl (below, sym (slice_get-front xs (y ∷ []) j below) ∙ is)
  | inr above ↦
      (let inside : j < length (xs ++ y ∷ []) = slice_get_within (xs ++ y ∷ []) j z is in
      let at : j ≡ length xs = omega (arith, inside, length-append xs (y ∷ [])) in
      inr (at, some_same (sym (slice_get-seam xs y []) ∙ ap (slice_get (xs ++ y ∷ [])) (sym at) ∙ is)))
]
  where
    some_same : {X : Type 0} {a b : X} → Some a ≡ Some b → a ≡ b
    some_same e = cc

Stand-snoc : (x : List ℕ) (ps : List SpelledBlock) (p : SpelledBlock) → All IsByte x → Stand x ps → piece_behind x ps ≡ Ok p
    → Stand x (ps ++ p ∷ [])
Stand-snoc x ps p all s is =
    let found : Found (total_bytes ps) (in_stream_bytes ps) (has_ended ps) (drop (total_bytes ps) x) p =
    found_block (total_bytes ps) (in_stream_bytes ps) (has_ended ps) (drop (total_bytes ps) x) p
    (All-drop IsByte (total_bytes ps) x all) is in
    record {
      blocks = λ j q at. elim (slice_get-snoc ps p q j at) [
        | inl before ↦ subst (λ front. IsBlockBehind x front q) (sym (take-append-le j ps (p ∷ []) (omega (arith, before.0))))
            (s.blocks j q before.1)
        | inr last ↦ subst (λ front. IsBlockBehind x front q)
            (sym (ap (λ n. take n (ps ++ p ∷ [])) last.0 ∙ take-append_seam ps (p ∷ [])))
            (subst (IsBlockBehind x ps) last.1 found.block)
      ];
      limit = omega (arith, found.limit, total_bytes-snoc ps p);
      within = omega (arith, found.block.within, length-drop (total_bytes ps) x, s.within, total_bytes-snoc ps p);
      sizes = omega (arith, found.some, s.sizes, total_bytes-snoc ps p, length-append ps (p ∷ []));
    }

-- no block among these is an End
abbrev NoEnd : List SpelledBlock → Type 0
NoEnd ps = (j : ℕ) (p : SpelledBlock) → slice_get ps j ≡ Some p → is_end p.block ≡ false

NoEnd-snoc : (ps : List SpelledBlock) (p : SpelledBlock) → NoEnd ps → is_end p.block ≡ false → NoEnd (ps ++ p ∷ [])
NoEnd-snoc ps p none last j q is = elim (slice_get-snoc ps p q j is) [
  | inl before ↦ none j q before.1
  | inr at ↦ subst (λ r. is_end r.block ≡ false) at.1 last
]

-- a block that is not the last was read, and is no End
not_last : (r : BlockOrFault) → is_last r ≡ false → (p : SpelledBlock) × (r ≡ Ok p) × (is_end p.block ≡ false)
not_last (Ok p) is = (p, refl, is)
not_last (Err f) is = cc

-- the first n blocks, where none of them is the last
pub record Front (x : List ℕ) (n : ℕ) : Type 0 where
  pub stand : Stand x (pieces x n)
  pub count : length (pieces x n) ≡ n
  pub none : NoEnd (pieces x n)

pieces_front : (x : List ℕ) (n : ℕ) → All IsByte x → ((k : ℕ) → k < n → stops_at x k ≡ false) → Front x n
pieces_front x zero all go_on = record { stand = Stand-nil x; count = refl; none = λ j p is. absurd (none_some p is) }
  where
    none_some : (p : SpelledBlock) → None ≡ Some p → ⊥
    none_some p e = cc
pieces_front x (suc n) all go_on =
    let front = pieces_front x n all (λ k below. go_on k (omega arith)) in
    let next = not_last (piece_behind x (pieces x n)) (go_on n (omega arith)) in
    let more : pieces x (suc n) ≡ pieces x n ++ next.0 ∷ [] = ap (with_piece (pieces x n)) next.1 in
    record {
      stand = subst (Stand x) (sym more) (Stand-snoc x (pieces x n) next.0 all front.stand next.1);
      count = ap length more ∙ omega (arith, length-append (pieces x n) (next.0 ∷ []), front.count);
      none = subst NoEnd (sym more) (NoEnd-snoc (pieces x n) next.0 front.none next.2);
    }

-- the last block that is read is the first at which reading stops
last_block_found : (x : List ℕ) (found : Option ℕ) → All IsByte x → FindsFirst (stops_at x) 0 (0 + (length x + 1)) found
    → IsFirst (stops_at x) 0 (0 + (length x + 1)) (unwrap_or found (length x))
last_block_found x (Some n) all first = first
last_block_found x None all none =
    let front = pieces_front x (length x + 1) all (λ k below. none k (omega arith) (omega arith)) in
    absurd (omega (arith, front.count, front.stand.within, front.stand.sizes))

last_block-first : (x : List ℕ) → All IsByte x → IsFirst (stops_at x) 0 (0 + (length x + 1)) (last_block x)
last_block-first x all =
    last_block_found x (find (stops_at x) (range_with_len 0 (length x + 1))) all (find-range (stops_at x) 0 (length x + 1))

-- where the last block has no fault it was read, and the turns have none
no_fault : (x : List ℕ) (n : ℕ) (r : BlockOrFault) → fault_at x n r ≡ None
    → (p : SpelledBlock) × (r ≡ Ok p) × (turn_fault (pieces x (n + 1)) ≡ None)
no_fault x n (Ok p) is = (p, refl, is)
no_fault x n (Err f) is = cc

-- the conditions on the Index blocks, as a list of faults has them
no_first : {X : Type 0} (xs : List X) (o : Option X) → option_or (slice_get xs 0) o ≡ None → (xs ≡ []) × (o ≡ None)
no_first [] o is = (refl, is)
no_first (x ∷ xs) o is = cc

filter_map-empty : {X : Type 0} (h : ℕ → Option X) (a n : ℕ) → filter_map h (range_with_len a n) ≡ []
    → (i : ℕ) → a ≤ i → i < a + n → h i ≡ None
filter_map-empty h a zero is i low high = absurd (omega arith)
filter_map-empty {X} h a (suc n) is i low high =
    let both = cons_option-empty (h a) (filter_map h (range_with_len (a + 1) n)) is in
    elim (cases_lt a i) [
      | inl later ↦ filter_map-empty h (a + 1) n both.1 i (omega arith) (omega arith)
      | inr at ↦ subst (λ k. h k ≡ None) (omega arith) both.0
    ]
  where
    cons_option-empty : (o : Option X) (rest : List X) → cons_option o rest ≡ [] → (o ≡ None) × (rest ≡ [])
    cons_option-empty None rest e = (refl, e)
    cons_option-empty (Some y) rest e = cc

mark_within : (ps : List SpelledBlock) (k : ℕ) (m : Mark) → mark_fault ps k m ≡ None → m.position ≤ in_stream_bytes ps
mark_within ps k m is = elim (cases_lt (in_stream_bytes ps) m.position) [
  | inl behind ↦ (let test : nat_lt (in_stream_bytes ps) m.position ≡ true = grind (arith, nat_tests, behind) in
      absurd (some_none (rw test at is)))
  | inr within ↦ within
]
  where
    some_none : {fault : ℕ × StreamFault} → Some fault ≡ None → ⊥
    some_none e = cc

mark_rises : (ps : List SpelledBlock) (k : ℕ) (m : Mark) → mark_fault ps k m ≡ None → 0 < k
    → get_or (indexes_of ps) (k - 1) 0 < index_time ps m
mark_rises ps k m is some = elim (cases_lt (get_or (indexes_of ps) (k - 1) 0) (index_time ps m)) [
  | inl rises ↦ rises
  | inr falls ↦
      (let inside : nat_lt (in_stream_bytes ps) m.position ≡ false =
      (let within = mark_within ps k m is in grind (arith, nat_tests, within)) in
      let test : (nat_lt 0 k && nat_le (index_time ps m) (get_or (indexes_of ps) (k - 1) 0)) ≡ true =
      grind (arith, nat_tests, some, falls) in
      absurd (some_none (rw (inside, test) at is)))
]
  where
    some_none : {fault : ℕ × StreamFault} → Some fault ≡ None → ⊥
    some_none e = cc

-- what it is to have turns
pub record Turns (ps : List SpelledBlock) : Type 0 where
  pub turns : 2 ≤ length (marks ps)
  pub positions : All (λ mark. mark.position ≤ in_stream_bytes ps) (marks ps)
  pub order : IsStrictlyIncreasing (indexes_of ps)

enough_marks : (n : ℕ) (fault : ℕ × StreamFault) → (if nat_lt n 2 then Some fault else None) ≡ None → 2 ≤ n
enough_marks n fault is = elim (cases_lt n 2) [
  | inl few ↦ (let test : nat_lt n 2 ≡ true = grind (arith, nat_tests, few) in absurd (some_none (rw test at is)))
  | inr many ↦ many
]
  where
    some_none : Some fault ≡ None → ⊥
    some_none e = cc

pub Turns-from_fault : (ps : List SpelledBlock) → turn_fault ps ≡ None → Turns ps
Turns-from_fault ps is =
    let both = no_first (mark_faults ps) (if nat_lt (length (marks ps)) 2 then Some (length ps - 1, NoTurn) else None) is in
    let none : (k : ℕ) → k < length (marks ps) → mark_fault ps k (get_or (marks ps) k blank) ≡ None = λ k below.
    sym (mark_fault_at-is ps k (get_or (marks ps) k blank) below refl)
    ∙ filter_map-empty (mark_fault_at ps) 0 (length (marks ps)) both.0 k (omega arith) (omega arith) in
    record {
      turns = enough_marks (length (marks ps)) (length ps - 1, NoTurn) both.1;
      positions = λ k d below. subst (λ m. m.position ≤ in_stream_bytes ps) (get_or_default (marks ps) k blank d below)
          (mark_within ps k (get_or (marks ps) k blank) (none k below));
      order = λ k below.
          let inside : k + 1 < length (marks ps) = omega (arith, below, length-map (marks ps) (index_time ps)) in
          let rises = mark_rises ps (k + 1) (get_or (marks ps) (k + 1) blank) (none (k + 1) inside) (omega arith) in
          let at = index_at ps (k + 1) (get_or (marks ps) (k + 1) blank) inside refl in
          let before : (k + 1) - 1 ≡ k = omega arith in
          omega (arith, rises, at, ap (λ n. get_or (indexes_of ps) n 0) before);
    }

pub fault-from_turns : (ps : List SpelledBlock) → Turns ps → turn_fault ps ≡ None
fault-from_turns ps t =
    let none : mark_faults ps ≡ [] = filter_map-none (mark_fault_at ps) 0 (length (marks ps)) (λ k low high.
    let below : k < length (marks ps) = omega arith in
    let m : Mark = get_or (marks ps) k blank in
    mark_fault_at-is ps k m below refl
    ∙ fault_none ps k m (t.positions k blank below) (λ some.
    let step = t.order (k - 1) (omega (arith, some, below, length-map (marks ps) (index_time ps))) in
    let next : (k - 1) + 1 ≡ k = omega arith in
    omega (arith, step, index_at ps k m below refl, ap (λ n. get_or (indexes_of ps) n 0) next))) in
    let test : nat_lt (length (marks ps)) 2 ≡ false = (let many = t.turns in grind (arith, nat_tests, many)) in
    ap (λ l. option_or (slice_get l 0) (if nat_lt (length (marks ps)) 2 then Some (length ps - 1, NoTurn) else None)) none
    ∙ ap (λ b. if b then Some (length ps - 1, NoTurn) else None) test

-- the blocks of the stream, where x has no first fault
pub record Whole (x : List ℕ) (n : ℕ) : Type 0 where
  pub front : Front x n
  pub p : SpelledBlock
  pub more : pieces x (n + 1) ≡ pieces x n ++ p ∷ []
  pub stand : Stand x (pieces x n ++ p ∷ [])
  pub end : is_end p.block ≡ true
  pub turns : Turns (pieces x n ++ p ∷ [])

whole_of : (x : List ℕ) → All IsByte x → first_fault x ≡ None → Whole x (last_block x)
whole_of x all is =
    let n : ℕ = last_block x in
    let first = last_block-first x all in
    let front = pieces_front x n all (λ k below. first.before k (omega arith) below) in
    let read = no_fault x n (piece_behind x (pieces x n)) is in
    let next : n + 1 ≡ suc n = omega arith in
    let more : pieces x (n + 1) ≡ pieces x n ++ read.0 ∷ [] = ap (pieces x) next ∙ ap (with_piece (pieces x n)) read.1 in
    record {
      front = front;
      p = read.0;
      more = more;
      stand = Stand-snoc x (pieces x n) read.0 all front.stand read.1;
      end = sym (ap is_last read.1) ∙ first.passes;
      turns = Turns-from_fault (pieces x n ++ read.0 ∷ []) (ap turn_fault (sym more) ∙ read.2);
    }

-- the last block, and no other, is an End
last_is_end : (ps : List SpelledBlock) (p : SpelledBlock) → NoEnd ps → is_end p.block ≡ true → (j : ℕ) (q : SpelledBlock)
    → slice_get (ps ++ p ∷ []) j ≡ Some q → (is_end q.block ≡ true) ↔ (j + 1 ≡ length (ps ++ p ∷ []))
last_is_end ps p none end j q is = elim (slice_get-snoc ps p q j is) [
  | inl before ↦ (
    (λ e. absurd (true_false (sym e ∙ none j q before.1))),
    (λ at. absurd (omega (arith, at, before.0, length-append ps (p ∷ [])))),
  )
  | inr last ↦ (
    (λ e. omega (arith, last.0, length-append ps (p ∷ []))),
    (λ at. subst (λ r. is_end r.block ≡ true) last.1 end),
  )
]
  where
    true_false : true ≡ false → ⊥
    true_false e = cc

begins_from_whole : (x : List ℕ) (n : ℕ) (w : Whole x n) → BeginsWith x (pieces x n ++ w.p ∷ [])
begins_from_whole x n w = record {
  limit = w.stand.limit;
  blocks = w.stand.blocks;
  some = omega (arith, length-append (pieces x n) (w.p ∷ []));
  last = last_is_end (pieces x n) w.p w.front.none w.end;
  turns = w.turns.turns;
  positions = w.turns.positions;
  order = w.turns.order;
}

pub begins_without_fault : (x : List ℕ) → All IsByte x → first_fault x ≡ None → BeginsWith x (stream x)
begins_without_fault x all is =
    let w = whole_of x all is in subst (BeginsWith x) (sym w.more) (begins_from_whole x (last_block x) w)

-- the other way: blocks that stand at the front of x, of which the last and no other is an End, are those that are read,
-- whatever their turns are
pub record Laid (x : List ℕ) (ps : List SpelledBlock) : Type 0 where
  pub limit : total_bytes ps ≤ LIMIT
  pub blocks : (j : ℕ) (p : SpelledBlock) → slice_get ps j ≡ Some p → IsBlockBehind x (take j ps) p
  pub some : 0 < length ps
  pub last : (j : ℕ) (p : SpelledBlock) → slice_get ps j ≡ Some p → (is_end p.block ≡ true) ↔ (j + 1 ≡ length ps)

Laid-from_begins : (x : List ℕ) (ps : List SpelledBlock) → BeginsWith x ps → Laid x ps
Laid-from_begins x ps b = record { limit = b.limit; blocks = b.blocks; some = b.some; last = b.last }

read_at : (x : List ℕ) (ps : List SpelledBlock) → Laid x ps → (j : ℕ) (p : SpelledBlock) → slice_get ps j ≡ Some p
    → piece_behind x (take j ps) ≡ Ok p
read_at x ps b j p is =
    let below : j < length ps = slice_get_within ps j p is in
    let next : take (j + 1) ps ≡ take j ps ++ p ∷ [] =
    take_more ps j p below ∙ ap (λ q. take j ps ++ q ∷ []) (get_or_from_slice_get ps j p p is) in
    read_block (total_bytes (take j ps)) (in_stream_bytes (take j ps)) (has_ended (take j ps))
    (drop (total_bytes (take j ps)) x) p (b.blocks j p is)
    (omega (arith, b.limit, sum_by-take-le (λ q. q.bytes) ps (j + 1), ap total_bytes next, total_bytes-snoc (take j ps) p))

piece_of : (ps : List SpelledBlock) (j : ℕ) → j < length ps → (p : SpelledBlock) × (slice_get ps j ≡ Some p)
piece_of [] j below = absurd (omega arith)
piece_of (p ∷ ps) zero below = (p, refl)
piece_of (p ∷ ps) (suc j) below = piece_of ps j (omega arith)

same_pieces : (x : List ℕ) (ps : List SpelledBlock) → Laid x ps → (j : ℕ) → j ≤ length ps → pieces x j ≡ take j ps
same_pieces x ps b zero bound = refl
same_pieces x ps b (suc j) bound =
    let below : j < length ps = omega arith in
    let it = piece_of ps j below in
    let before = same_pieces x ps b j (omega arith) in
    let next : j + 1 ≡ suc j = omega arith in
    ap (more_pieces x) before ∙ ap (with_piece (take j ps)) (read_at x ps b j it.0 it.1)
    ∙ sym (take_more ps j it.0 below ∙ ap (λ q. take j ps ++ q ∷ []) (get_or_from_slice_get ps j it.0 it.0 it.1))
    ∙ ap (λ n. take n ps) next

stops_is : (x : List ℕ) (ps : List SpelledBlock) → Laid x ps → (j : ℕ) (p : SpelledBlock) → slice_get ps j ≡ Some p
    → stops_at x j ≡ is_end p.block
stops_is x ps b j p is =
    let below : j < length ps = slice_get_within ps j p is in
    ap (λ qs. is_last (piece_behind x qs)) (same_pieces x ps b j (omega arith)) ∙ ap is_last (read_at x ps b j p is)

not_true : (b : Bool) → (b ≡ true → ⊥) → b ≡ false
not_true true f = absurd (f refl)
not_true false f = refl

-- reading stops at the last of them, and not before
stops_last : (x : List ℕ) (ps : List SpelledBlock) → Laid x ps → stops_at x (length ps - 1) ≡ true
stops_last x ps b =
    let it = piece_of ps (length ps - 1) (omega (arith, b.some)) in
    stops_is x ps b (length ps - 1) it.0 it.1
    ∙ (b.last (length ps - 1) it.0 it.1).1 (omega (arith, b.some))

goes_on : (x : List ℕ) (ps : List SpelledBlock) → Laid x ps → (j : ℕ) → j < length ps - 1 → stops_at x j ≡ false
goes_on x ps b j below =
    let it = piece_of ps j (omega arith) in
    stops_is x ps b j it.0 it.1
    ∙ not_true (is_end it.0.block) (λ e. absurd (let at = (b.last j it.0 it.1).0 e in omega (arith, at, below)))

last_block-is : (x : List ℕ) (ps : List SpelledBlock) → All IsByte x → Laid x ps → last_block x ≡ length ps - 1
last_block-is x ps all b =
    let first = last_block-first x all in
    elim (cases_lt (last_block x) (length ps - 1)) [
      | inl early ↦ absurd (true_false (sym first.passes ∙ goes_on x ps b (last_block x) early))
      | inr late ↦ elim (cases_lt (length ps - 1) (last_block x)) [
        | inl past ↦ absurd (true_false (sym (stops_last x ps b) ∙ first.before (length ps - 1) (omega arith) past))
        | inr at ↦ omega arith
      ]
    ]
  where
    true_false : true ≡ false → ⊥
    true_false e = cc

pub stream-laid : (x : List ℕ) (ps : List SpelledBlock) → All IsByte x → Laid x ps → stream x ≡ ps
stream-laid x ps all b =
    let whole : (length ps - 1) + 1 ≡ length ps = omega (arith, b.some) in
    ap (λ n. pieces x (n + 1)) (last_block-is x ps all b) ∙ ap (pieces x) whole
    ∙ same_pieces x ps b (length ps) (omega arith) ∙ take_all (length ps) ps (omega arith)

-- nothing is wrong with them but what is wrong with their turns
pub fault-laid : (x : List ℕ) (ps : List SpelledBlock) → All IsByte x → Laid x ps → first_fault x ≡ turn_fault ps
fault-laid x ps all b =
    let n : ℕ = last_block x in
    let it = piece_of ps (length ps - 1) (omega (arith, b.some)) in
    let read : piece_behind x (pieces x n) ≡ Ok it.0 =
    ap (λ m. piece_behind x (pieces x m)) (last_block-is x ps all b)
    ∙ ap (piece_behind x) (same_pieces x ps b (length ps - 1) (omega arith))
    ∙ read_at x ps b (length ps - 1) it.0 it.1 in
    ap (fault_at x n) read ∙ ap turn_fault (stream-laid x ps all b)

-- the stream that is read is the one that x begins with
pub stream-is : (x : List ℕ) (ps : List SpelledBlock) → All IsByte x → BeginsWith x ps → stream x ≡ ps
stream-is x ps all b = stream-laid x ps all (Laid-from_begins x ps b)

pub no_fault_at_start : (x : List ℕ) (ps : List SpelledBlock) → All IsByte x → BeginsWith x ps → first_fault x ≡ None
no_fault_at_start x ps all b =
    fault-laid x ps all (Laid-from_begins x ps b)
    ∙ fault-from_turns ps (record { turns = b.turns; positions = b.positions; order = b.order })

-- two well-formed streams at the front of one list are the same
pub stream-same : (x : List ℕ) (ps qs : List SpelledBlock) → All IsByte x → BeginsWith x ps → BeginsWith x qs → ps ≡ qs
stream-same x ps qs all b c = sym (stream-is x ps all b) ∙ stream-is x qs all c
