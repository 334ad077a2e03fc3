-- The index times and the first fault of the Index blocks, as a bench finds them.
use Rattle.std.proofs.Common.{◌≡◌, Bool, ◌≤◌, ◌<◌, ◌+◌, ◌-◌, ◌++◌, ◌&&◌, ℕ, zero, suc, true, false, List, [], ◌∷◌, length, get_or, slice_get, slice_index, take, map, refl, ap, sym, ◌∙◌, subst, arith, Option, Some, None, nat_lt, nat_le, if◌then◌else◌, inl, inr}
use Rattle.std.specs.List.{filter_map, range_with_len, cons_option}
use Rattle.std.specs.Option.{option_and_then, option_or}
use Rattle.std.proofs.lemmas.Option.{slice_get-get_or}
use Rattle.std.proofs.lemmas.List.{ext_get_or, get_or-map, get_or-take, get_or_default, get_or_append_left, length-take-le, length-map, map-append, take_more}
use Rattle.std.proofs.Math.Seq.{get_or-append_seam}
use Rattle.std.proofs.lemmas.Bool.{cases_lt}
use Rattle.std.proofs.lemmas.Bool.Decides.{nat_tests}
use Rattle.kryo_stream.specs.declared.block.Mark.{Mark}
use Rattle.kryo_stream.specs.declared.block.SpelledBlock.{SpelledBlock}
use Rattle.kryo_stream.specs.declared.fault.StreamFault.{StreamFault}
use Rattle.kryo_stream.specs.declared.fault.StreamFault.TheVariants.{IndexPosition, IndexOrder, NoTurn}
use Rattle.kryo_stream.specs.declared.fault.TrackFault.{TrackFault}
use Rattle.kryo_stream.specs.declared.fault.TrackFault.TheVariants.{ReadFault, Memory, Refused}
use Rattle.kryo_stream.specs.Stream.{in_stream_bytes, marks, index_time, indexes_of, mark_fault, mark_fault_at, mark_faults, turn_fault}
use Rattle.kryo_stream.specs.Bench.{flux_ends, overflow_begins, BenchState}
use Rattle.kryo_stream.specs.inside.Bench.{IsComplete, TurnCause, PlaceCause, mark_time, base_time}
use Rattle.kryo_stream.proofs.IndexLemmas.{base_time-is}

-- the first k Index blocks have index times, without a fault
pub record Placing (b : BenchState) (transitions : List ℕ) (total : ℕ) (k spare_before spare : ℕ) (placed : List ℕ) : Type 0 where
  pub count : k ≤ length b.indexes
  pub placed_are : placed ≡ map (mark_time b transitions) (take k b.indexes)
  pub within : (i : ℕ) (d : Mark) → i < k → (get_or b.indexes i d).position ≤ total
  pub rising : (i : ℕ) → 0 < i → i < k → get_or placed (i - 1) 0 < get_or placed i 0
  pub room : spare_before ≤ spare + k

-- none passes below k
pub filter_map-none : {X : Type 0} (h : ℕ → Option X) (a n : ℕ) → ((i : ℕ) → a ≤ i → i < a + n → h i ≡ None)
    → filter_map h (range_with_len a n) ≡ []
filter_map-none h a zero none = refl
filter_map-none h a (suc n) none =
    ap (λ o. cons_option o (filter_map h (range_with_len (a + 1) n))) (none a (omega arith) (omega arith))
    ∙ filter_map-none h (a + 1) n (λ i low high. none i (omega arith) (omega arith))

filter_map-first : {X : Type 0} (h : ℕ → Option X) (a n k : ℕ) (x : X) → k < n
    → ((i : ℕ) → a ≤ i → i < a + k → h i ≡ None) → h (a + k) ≡ Some x
    → slice_get (filter_map h (range_with_len a n)) 0 ≡ Some x
filter_map-first h a zero k x inside none here = absurd (omega arith)
filter_map-first h a (suc n) zero x inside none here =
    ap (λ o. slice_get (cons_option o (filter_map h (range_with_len (a + 1) n))) 0)
    (ap h (omega arith) ∙ here)
filter_map-first h a (suc n) (suc k) x inside none here =
    ap (λ o. slice_get (cons_option o (filter_map h (range_with_len (a + 1) n))) 0) (none a (omega arith) (omega arith))
    ∙ filter_map-first h (a + 1) n k x (omega arith) (λ i low high. none i (omega arith) (omega arith))
    (ap h (omega arith) ∙ here)

-- an Index block within the stream has the index time that the bench gives
mark_time-is : (ps : List SpelledBlock) (b : BenchState) (transitions : List ℕ) (total end : ℕ) → IsComplete ps b transitions total end
    → (m : Mark) → m.position ≤ total → mark_time b transitions m ≡ index_time ps m
mark_time-is ps b transitions total end c m within =
    let noted = c.noted in
    ap (λ l. base_time l b.overflows transitions m.position + m.sample) noted.flux
    ∙ ap (λ l. base_time (flux_ends 0 ps) l transitions m.position + m.sample) noted.overflow
    ∙ ap (λ l. base_time (flux_ends 0 ps) (overflow_begins 0 ps) l m.position + m.sample) c.times
    ∙ ap (λ n. n + m.sample) (base_time-is ps m.position noted.sizes (omega (arith, within, c.counted)))

-- an Index block that does not name a byte past the stream's end, and is above the one before it
pub fault_none : (ps : List SpelledBlock) (k : ℕ) (m : Mark) → m.position ≤ in_stream_bytes ps
    → (0 < k → get_or (indexes_of ps) (k - 1) 0 < index_time ps m) → mark_fault ps k m ≡ None
fault_none ps k m within rises =
    let inside : nat_lt (in_stream_bytes ps) m.position ≡ false = grind (arith, nat_tests, within) in
    let above : (nat_lt 0 k && nat_le (index_time ps m) (get_or (indexes_of ps) (k - 1) 0)) ≡ false =
    grind (arith, nat_tests, rises) in
    rw (inside, above)

fault_position : (ps : List SpelledBlock) (k : ℕ) (m : Mark) → in_stream_bytes ps < m.position
    → mark_fault ps k m ≡ Some (m.number, IndexPosition)
fault_position ps k m behind =
    let outside : nat_lt (in_stream_bytes ps) m.position ≡ true = grind (arith, nat_tests, behind) in
    rw outside

pub fault_order : (ps : List SpelledBlock) (k : ℕ) (m : Mark) → m.position ≤ in_stream_bytes ps → 0 < k
    → index_time ps m ≤ get_or (indexes_of ps) (k - 1) 0 → mark_fault ps k m ≡ Some (m.number, IndexOrder)
fault_order ps k m within some falls =
    let inside : nat_lt (in_stream_bytes ps) m.position ≡ false = grind (arith, nat_tests, within) in
    let order : (nat_lt 0 k && nat_le (index_time ps m) (get_or (indexes_of ps) (k - 1) 0)) ≡ true =
    grind (arith, nat_tests, some, falls) in
    rw (inside, order)

abbrev pub blank : Mark
blank = record { number = 0; position = 0; sample = 0 }

pub mark_fault_at-is : (ps : List SpelledBlock) (k : ℕ) (m : Mark) → k < length (marks ps) → get_or (marks ps) k blank ≡ m
    → mark_fault_at ps k ≡ mark_fault ps k m
mark_fault_at-is ps k m inside is =
    ap (option_and_then (mark_fault ps k)) (slice_get-get_or (marks ps) k blank inside ∙ ap (λ x. Some x) is)

pub index_at : (ps : List SpelledBlock) (k : ℕ) (m : Mark) → k < length (marks ps) → get_or (marks ps) k blank ≡ m
    → get_or (indexes_of ps) k 0 ≡ index_time ps m
index_at ps k m inside is = get_or-map (index_time ps) (marks ps) k blank 0 inside ∙ ap (index_time ps) is

placed_at : (b : BenchState) (transitions : List ℕ) (total k before spare : ℕ) (placed : List ℕ)
    → Placing b transitions total k before spare placed
    → (i : ℕ) → i < k → get_or placed i 0 ≡ mark_time b transitions (get_or b.indexes i blank)
placed_at b transitions total k before spare placed p i inside =
    let within : i < length (take k b.indexes) = omega (arith, length-take-le k b.indexes p.count, inside) in
    ap (λ l. get_or l i 0) p.placed_are
    ∙ get_or-map (mark_time b transitions) (take k b.indexes) i blank 0 within
    ∙ ap (mark_time b transitions) (get_or-take k b.indexes i blank inside)

-- what the Index blocks so far are, as the whole stream sees them
pub record Seen (ps : List SpelledBlock) (k : ℕ) (placed : List ℕ) : Type 0 where
  pub count : k ≤ length (marks ps)
  pub times : (i : ℕ) → i < k → get_or placed i 0 ≡ index_time ps (get_or (marks ps) i blank)
  pub within : (i : ℕ) → i < k → (get_or (marks ps) i blank).position ≤ in_stream_bytes ps
  pub rising : (i : ℕ) → 0 < i → i < k → get_or placed (i - 1) 0 < get_or placed i 0
  pub size : length placed ≡ k

Seen-from_placing : (ps : List SpelledBlock) (b : BenchState) (transitions : List ℕ) (total end k before spare : ℕ) (placed : List ℕ)
    → IsComplete ps b transitions total end → Placing b transitions total k before spare placed → Seen ps k placed
Seen-from_placing ps b transitions total end k before spare placed c p =
    let index = c.noted.index in
    let inside : (i : ℕ) → i < k → (get_or (marks ps) i blank).position ≤ total = λ i below.
    subst (λ l. (get_or l i blank).position ≤ total) index (p.within i blank below) in
    record {
      count = omega (arith, p.count, ap length index);
      times = λ i below. placed_at b transitions total k before spare placed p i below
          ∙ ap (λ l. mark_time b transitions (get_or l i blank)) index
          ∙ mark_time-is ps b transitions total end c (get_or (marks ps) i blank) (inside i below);
      within = λ i below. omega (arith, inside i below, c.counted);
      rising = p.rising;
      size = ap length p.placed_are ∙ length-map (take k b.indexes) (mark_time b transitions)
          ∙ length-take-le k b.indexes p.count;
    }

seen_before : (ps : List SpelledBlock) (k : ℕ) (placed : List ℕ) → Seen ps k placed → (i : ℕ) → 0 < i → i ≤ k
    → get_or (indexes_of ps) (i - 1) 0 ≡ get_or placed (i - 1) 0
seen_before ps k placed s i some below =
    let inside : i - 1 < length (marks ps) = omega (arith, s.count) in
    index_at ps (i - 1) (get_or (marks ps) (i - 1) blank) inside refl ∙ sym (s.times (i - 1) (omega arith))

seen_none : (ps : List SpelledBlock) (k : ℕ) (placed : List ℕ) → Seen ps k placed → (i : ℕ) → i < k → mark_fault_at ps i ≡ None
seen_none ps k placed s i below =
    mark_fault_at-is ps i (get_or (marks ps) i blank) (omega (arith, s.count)) refl
    ∙ fault_none ps i (get_or (marks ps) i blank) (s.within i below)
    (λ some. omega (arith, seen_before ps k placed s i some (omega arith), s.rising i some below, s.times i below))

pub seen_faults : (ps : List SpelledBlock) (placed : List ℕ) → Seen ps (length (marks ps)) placed → mark_faults ps ≡ []
seen_faults ps placed s =
    filter_map-none (mark_fault_at ps) 0 (length (marks ps))
    (λ i low high. seen_none ps (length (marks ps)) placed s i (omega arith))

pub seen_first : (ps : List SpelledBlock) (k : ℕ) (placed : List ℕ) (fault : ℕ × StreamFault) → Seen ps k placed → k < length (marks ps)
    → mark_fault_at ps k ≡ Some fault → turn_fault ps ≡ Some fault
seen_first ps k placed fault s inside here =
    let first : slice_get (mark_faults ps) 0 ≡ Some fault =
    filter_map-first (mark_fault_at ps) 0 (length (marks ps)) k fault inside
    (λ i low high. seen_none ps k placed s i (omega arith)) (ap (mark_fault_at ps) (omega arith) ∙ here) in
    ap (λ o. option_or o (if nat_lt (length (marks ps)) 2 then Some (length ps - 1, NoTurn) else None)) first

-- one Index block more has its index time
pub Placing-step : (b : BenchState) (transitions : List ℕ) (total k before spare spare' time : ℕ) (placed placed' : List ℕ) (m : Mark)
    → Placing b transitions total k before spare placed → k < length b.indexes → m ≡ get_or b.indexes k m
    → time ≡ mark_time b transitions m → placed' ≡ placed ++ time ∷ [] → m.position ≤ total
    → (0 < length placed → slice_index placed (length placed - 1) < time) → spare ≤ spare' + 1
    → Placing b transitions total (k + 1) before spare' placed'
Placing-step b transitions total k before spare spare' time placed placed' m p inside is time_is placed_is within rises room =
    let size : length placed ≡ k = ap length p.placed_are ∙ length-map (take k b.indexes) (mark_time b transitions)
    ∙ length-take-le k b.indexes p.count in
    let here : get_or placed' k 0 ≡ time =
    ap (λ l. get_or l k 0) placed_is ∙ ap (λ n. get_or (placed ++ time ∷ []) n 0) (sym size)
    ∙ get_or-append_seam placed time [] 0 in
    let earlier : (i : ℕ) → i < k → get_or placed' i 0 ≡ get_or placed i 0 = λ i below.
    let inner : i < length placed = omega (arith, size, below) in
    ap (λ l. get_or l i 0) placed_is ∙ get_or_append_left placed (time ∷ []) 0 i inner in
    record {
      count = omega (arith, inside);
      placed_are = placed_is ∙ ap (λ l. l ++ time ∷ []) p.placed_are
          ∙ ap (λ t. map (mark_time b transitions) (take k b.indexes) ++ t ∷ []) (time_is ∙ ap (mark_time b transitions) is)
          ∙ sym (map-append (mark_time b transitions) (take k b.indexes) (get_or b.indexes k m ∷ []))
          ∙ ap (map (mark_time b transitions)) (sym (take_more b.indexes k m inside));
      within = λ i d below. elim (cases_lt i k) [
        | inl lower ↦ p.within i d lower
        | inr last ↦ (let at : i ≡ k = omega arith in
            let same : get_or b.indexes i d ≡ m =
            ap (λ n. get_or b.indexes n d) at ∙ get_or_default b.indexes k d m inside ∙ sym is in
            subst (λ x. x.position ≤ total) (sym same) within)
      ];
      rising = λ i some below. elim (cases_lt i k) [
        | inl lower ↦ omega (arith, earlier i lower, earlier (i - 1) (omega arith), p.rising i some lower)
        | inr last ↦ (let at : i ≡ k = omega arith in
            omega (
              arith,
              here,
              ap (λ n. get_or placed' n 0) at,
              earlier (i - 1) (omega arith),
              size,
              ap (λ n. get_or placed n 0) (let e : i - 1 ≡ length placed - 1 = omega (arith, size, at) in e),
              rises (omega (arith, size)),
            ))
      ];
      room = omega (arith, p.room, room);
    }

-- the Index block after those placed is at fault
pub TurnCause-placing : (ps : List SpelledBlock) (b : BenchState) (transitions : List ℕ) (total end k before spare : ℕ)
    (placed : List ℕ) (m : Mark) (fault : TrackFault) → IsComplete ps b transitions total end
    → Placing b transitions total k before spare placed → k < length b.indexes → m ≡ get_or b.indexes k m
    → PlaceCause b transitions placed total m spare fault → TurnCause ps before fault
TurnCause-placing ps b transitions total end k before spare placed m ReadFault c p inside is cause = absurd cause
TurnCause-placing ps b transitions total end k before spare placed m Memory c p inside is cause =
    omega (arith, cause, p.room, ap length c.noted.index)
TurnCause-placing ps b transitions total end k before spare placed m (Refused block fault) c p inside is cause =
    let s = Seen-from_placing ps b transitions total end k before spare placed c p in
    let within : k < length (marks ps) = omega (arith, inside, ap length c.noted.index) in
    let same : get_or (marks ps) k blank ≡ m =
    ap (λ l. get_or l k blank) (sym c.noted.index) ∙ get_or_default b.indexes k blank m inside ∙ sym is in
    seen_first ps k placed (block, fault) s within (mark_fault_at-is ps k m within same
    ∙ elim cause.1 [
      | inl position ↦ fault_position ps k m (omega (arith, position.1, c.counted))
          ∙ ap (λ f. Some (m.number, f)) (sym position.0) ∙ ap (λ n. Some (n, fault)) (sym cause.0)
      | inr order ↦ fault_order ps k m (omega (arith, order.1, c.counted)) (omega (arith, order.2, s.size))
          (omega (
            arith,
            order.3,
            mark_time-is ps b transitions total end c m order.1,
            seen_before ps k placed s k (omega (arith, order.2, s.size)) (omega arith),
            ap (λ n. get_or placed (n - 1) 0) s.size,
          ))
          ∙ ap (λ f. Some (m.number, f)) (sym order.0) ∙ ap (λ n. Some (n, fault)) (sym cause.0)
    ])

-- where no Index block is at fault, only their number counts
pub turn_fault-counted : (ps : List SpelledBlock) (few : Bool) → mark_faults ps ≡ [] → nat_lt (length (marks ps)) 2 ≡ few
    → turn_fault ps ≡ (if few then Some (length ps - 1, NoTurn) else None)
turn_fault-counted ps few none test =
    ap (λ l. option_or (slice_get l 0) (if nat_lt (length (marks ps)) 2 then Some (length ps - 1, NoTurn) else None)) none
    ∙ ap (λ t. if t then Some (length ps - 1, NoTurn) else None) test

-- all are placed, but there are fewer than two
pub turn_fault-few : (ps : List SpelledBlock) (b : BenchState) (transitions : List ℕ) (total end k before spare : ℕ) (placed : List ℕ)
    → IsComplete ps b transitions total end → Placing b transitions total k before spare placed → k ≡ length b.indexes
    → length placed < 2 → turn_fault ps ≡ Some (end, NoTurn)
turn_fault-few ps b transitions total end k before spare placed c p whole few =
    let s = Seen-from_placing ps b transitions total end k before spare placed c p in
    let all : k ≡ length (marks ps) = whole ∙ ap length c.noted.index in
    let none : mark_faults ps ≡ [] = seen_faults ps placed (subst (λ n. Seen ps n placed) all s) in
    let small : length (marks ps) < 2 = omega (arith, few, s.size, all) in
    let test : nat_lt (length (marks ps)) 2 ≡ true = grind (arith, nat_tests, small) in
    let last : length ps - 1 ≡ end = omega (arith, c.blocks) in
    turn_fault-counted ps true none test ∙ ap (λ n. Some (n, NoTurn)) last

pub turn_fault-none : (ps : List SpelledBlock) (b : BenchState) (transitions : List ℕ) (total end k before spare : ℕ) (placed : List ℕ)
    → IsComplete ps b transitions total end → Placing b transitions total k before spare placed → k ≡ length b.indexes
    → 2 ≤ length placed → turn_fault ps ≡ None
turn_fault-none ps b transitions total end k before spare placed c p whole many =
    let s = Seen-from_placing ps b transitions total end k before spare placed c p in
    let all : k ≡ length (marks ps) = whole ∙ ap length c.noted.index in
    let none : mark_faults ps ≡ [] = seen_faults ps placed (subst (λ n. Seen ps n placed) all s) in
    let large : 2 ≤ length (marks ps) = omega (arith, many, s.size, all) in
    let test : nat_lt (length (marks ps)) 2 ≡ false = grind (arith, nat_tests, large) in
    turn_fault-counted ps false none test

-- the times placed are the index times of the stream
pub indexes_of-placed : (ps : List SpelledBlock) (b : BenchState) (transitions : List ℕ) (total end k before spare : ℕ) (placed : List ℕ)
    → IsComplete ps b transitions total end → Placing b transitions total k before spare placed → k ≡ length b.indexes
    → placed ≡ indexes_of ps
indexes_of-placed ps b transitions total end k before spare placed c p whole =
    let s = Seen-from_placing ps b transitions total end k before spare placed c p in
    let all : k ≡ length (marks ps) = whole ∙ ap length c.noted.index in
    ext_get_or 0 placed (indexes_of ps) (s.size ∙ all ∙ sym (length-map (marks ps) (index_time ps)))
    (λ i below. s.times i (omega (arith, s.size, below))
    ∙ sym (index_at ps i (get_or (marks ps) i blank) (omega (arith, s.size, all, below)) refl))

-- the Index block that the loop reads
pub mark-read : (b : BenchState) (list : List Mark) (k : ℕ) → list ≡ b.indexes → k < length list
    → get_or list k blank ≡ get_or b.indexes k (get_or list k blank)
mark-read b list k is inside =
    get_or_default list k blank (get_or list k blank) inside ∙ ap (λ l. get_or l k (get_or list k blank)) is
