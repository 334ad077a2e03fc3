-- The Index blocks of a written stream are read at the index times that were given.
use Rattle.std.proofs.Common.{◌≡◌, ◌≤◌, ◌<◌, ◌+◌, ◌-◌, ◌*◌, ◌/◌, ◌%◌, ◌++◌, ℕ, zero, suc, List, [], ◌∷◌, All, length, map, get_or, replicate, refl, ap, sym, ◌∙◌, subst, arith, append_assoc, append-nil}
use Rattle.std.proofs.lemmas.List.{map-append}
use Rattle.std.proofs.lemmas.List.Elements.{All-head, All-tail, All-take}
use Rattle.std.proofs.lemmas.List.Sums.{sum_by-append, sum_by-cons}
use Rattle.kryo_stream.specs.declared.block.Block.{Block}
use Rattle.kryo_stream.specs.declared.block.Block.TheVariants.{Flux, Overflow}
use Rattle.kryo_stream.specs.Bench.{stream_step}
use Rattle.kryo_stream.specs.Stream.{in_stream_bytes, block_ticks, ticks}
use Rattle.kryo_stream.specs.Sequence.{spellings, spelled, all_spelled, IsTurnAt, TurnsAre}
use Rattle.flux_writer.specs.Written.{index_block, interval_blocks}
use Rattle.flux_writer.specs.Trailing.{trailing_block}
use Rattle.flux_writer.specs.inside.Writing.{count_before, indexes_before, indexes_from, last_blocks, many_blocks, next_position, position_after, time_after, indexes_after}
use Rattle.flux_writer.proofs.Steps.{length-flux_spelling}
use Rattle.flux_writer.proofs.Rising.{Climbs, Climbs-from, before-from, from_is_late, front_is_early}
use Rattle.flux_writer.proofs.Stands.{InOrder, interval_takes}

-- the in-stream bytes and the ticks of blocks
abbrev pub moved : List Block → ℕ
moved bs = in_stream_bytes (all_spelled bs)

abbrev pub passed : List Block → ℕ
passed bs = ticks (all_spelled bs)

pub moved-append : (bs cs : List Block) → moved (bs ++ cs) ≡ moved bs + moved cs
moved-append bs cs = ap in_stream_bytes (map-append spelled bs cs)
    ∙ sum_by-append stream_step (all_spelled bs) (all_spelled cs)

passed-append : (bs cs : List Block) → passed (bs ++ cs) ≡ passed bs + passed cs
passed-append bs cs = ap ticks (map-append spelled bs cs) ∙ sum_by-append (λ p. block_ticks p.block) (all_spelled bs) (all_spelled cs)

moved-cons : (b : Block) (bs : List Block) → moved (b ∷ bs) ≡ stream_step (spelled b) + moved bs
moved-cons b bs = sum_by-cons stream_step (spelled b) (all_spelled bs)

passed-cons : (b : Block) (bs : List Block) → passed (b ∷ bs) ≡ block_ticks b + passed bs
passed-cons b bs = sum_by-cons (λ p. block_ticks p.block) (spelled b) (all_spelled bs)

moved_indexes : (position begin : ℕ) (xs : List ℕ) → moved (map (index_block position begin) xs) ≡ 0
moved_indexes position begin [] = refl
moved_indexes position begin (x ∷ xs) =
    omega (arith, moved-cons (index_block position begin x) (map (index_block position begin) xs), moved_indexes position begin xs)

passed_indexes : (position begin : ℕ) (xs : List ℕ) → passed (map (index_block position begin) xs) ≡ 0
passed_indexes position begin [] = refl
passed_indexes position begin (x ∷ xs) =
    omega (arith, passed-cons (index_block position begin x) (map (index_block position begin) xs), passed_indexes position begin xs)

moved_overflows : (n : ℕ) → moved (replicate n Overflow) ≡ n
moved_overflows zero = refl
moved_overflows (suc n) = omega (arith, moved-cons Overflow (replicate n Overflow), moved_overflows n)

passed_overflows : (n : ℕ) → passed (replicate n Overflow) ≡ 65536 * n
passed_overflows zero = refl
passed_overflows (suc n) = omega (arith, passed-cons Overflow (replicate n Overflow), passed_overflows n)

moved_interval : (ticks : ℕ) → moved (interval_blocks ticks) ≡ length (spellings (interval_blocks ticks))
moved_interval t =
    let n = t / 65536 in
    let r = t % 65536 in
    omega (
      arith,
      moved-append (replicate n Overflow) (Flux r ∷ []),
      moved-cons (Flux r) [],
      moved_overflows n,
      interval_takes t,
    )

passed_interval : (t : ℕ) → passed (interval_blocks t) ≡ t
passed_interval t =
    let n = t / 65536 in
    let r = t % 65536 in
    omega (arith, passed-append (replicate n Overflow) (Flux r ∷ []), passed-cons (Flux r) [], passed_overflows n)

-- the block that stands after some of an interval's overflows
record Seam (j : ℕ) (bs : List Block) : Type 0 where
  next : Block
  rest : List Block
  some : 1 ≤ stream_step (spelled next)
  whole : bs ≡ replicate j Overflow ++ next ∷ rest

seam : (n j r : ℕ) (cs : List Block) → j ≤ n → Seam j (replicate n Overflow ++ Flux r ∷ cs)
seam zero zero r cs order = record { next = Flux r; rest = cs; some = (length-flux_spelling r).0; whole = refl }
seam zero (suc j) r cs order = absurd (omega arith)
seam (suc n) zero r cs order = record { next = Overflow; rest = replicate n Overflow ++ Flux r ∷ cs; some = omega arith; whole = refl }
seam (suc n) (suc j) r cs order =
    let inner = seam n j r cs (omega arith) in
    record { next = inner.next; rest = inner.rest; some = inner.some; whole = ap (λ bs. Overflow ∷ bs) inner.whole }

-- an index of the interval after some blocks
module _ (done : List Block) (position begin : ℕ) (at : moved done ≡ position) (now : passed done ≡ begin) where
  index_here : (xs : List ℕ) (t : ℕ) (cs : List Block) (index : ℕ) → begin ≤ index → index < t
      → IsTurnAt (done ++ (map (index_block position begin) xs ++ (interval_blocks (t - begin) ++ cs)))
      (position + (index - begin) / 65536) ((index - begin) % 65536) index
  index_here xs t cs index begun early =
      let j = (index - begin) / 65536 in
      let front = map (index_block position begin) xs in
      let n = (t - begin) / 65536 in
      let r = (t - begin) % 65536 in
      let s = seam n j r cs (omega arith) in
      let before = done ++ (front ++ replicate j Overflow) in
      let inner : interval_blocks (t - begin) ++ cs ≡ replicate j Overflow ++ s.next ∷ s.rest =
      append_assoc (replicate n Overflow) (Flux r ∷ []) cs ∙ s.whole in
      let whole : before ++ s.next ∷ s.rest ≡ done ++ (front ++ (interval_blocks (t - begin) ++ cs)) =
      append_assoc done (front ++ replicate j Overflow) (s.next ∷ s.rest)
      ∙ ap (λ bs. done ++ bs) (append_assoc front (replicate j Overflow) (s.next ∷ s.rest) ∙ ap (λ bs. front ++ bs) (sym inner)) in
      let bytes : position + j ≡ moved before =
      omega (arith, at, moved-append done (front ++ replicate j Overflow), moved-append front (replicate j Overflow), moved_indexes position begin xs, moved_overflows j) in
      record {
        before = before;
        behind = s.next ∷ s.rest;
        whole = whole;
        from = omega (arith, bytes);
        to = omega (arith, bytes, s.some);
        time_is = omega (arith, now, begun, passed-append done (front ++ replicate j Overflow), passed-append front (replicate j Overflow), passed_indexes position begin xs, passed_overflows j);
      }

read_indexes : (all : List Block) (position begin : ℕ) (xs ts : List ℕ) (cs : List Block)
    → All (λ x. IsTurnAt all (position + (x - begin) / 65536) ((x - begin) % 65536) x) xs → TurnsAre all cs ts
    → TurnsAre all (map (index_block position begin) xs ++ cs) (xs ++ ts)
read_indexes all position begin [] ts cs read rest = rest
read_indexes all position begin (x ∷ xs) ts cs read rest = (
  All-head (λ y. IsTurnAt all (position + (y - begin) / 65536) ((y - begin) % 65536) y) x xs read,
  read_indexes all position begin xs ts cs
      (All-tail (λ y. IsTurnAt all (position + (y - begin) / 65536) ((y - begin) % 65536) y) x xs read) rest,
)

turns_of_overflows : (all : List Block) (n : ℕ) (cs : List Block) (ts : List ℕ) → TurnsAre all cs ts → TurnsAre all (replicate n Overflow ++ cs) ts
turns_of_overflows all zero cs ts turns = turns
turns_of_overflows all (suc n) cs ts turns = turns_of_overflows all n cs ts turns

turns_of_interval : (all : List Block) (t : ℕ) (cs : List Block) (ts : List ℕ) → TurnsAre all cs ts → TurnsAre all (interval_blocks t ++ cs) ts
turns_of_interval all t cs ts turns =
    subst (λ bs. TurnsAre all bs ts) (sym (append_assoc (replicate (t / 65536) Overflow) (Flux (t % 65536) ∷ []) cs))
    (turns_of_overflows all (t / 65536) (Flux (t % 65536) ∷ cs) ts turns)

-- the Index blocks of several transitions, and those of what stands after them
pub read_many : (done : List Block) (position begin : ℕ) (times indexes : List ℕ) (cs : List Block) → moved done ≡ position → passed done ≡ begin
    → InOrder begin times → All (λ index. begin ≤ index) indexes → Climbs indexes
    → TurnsAre (done ++ (many_blocks position begin times indexes ++ cs)) cs (indexes_after times indexes)
    → TurnsAre (done ++ (many_blocks position begin times indexes ++ cs)) (many_blocks position begin times indexes ++ cs) indexes
read_many done position begin [] indexes cs at now order begun rises over = over
read_many done position begin (t ∷ ts) indexes cs at now order begun rises over =
    let front = map (index_block position begin) (indexes_before t indexes) in
    let interval = interval_blocks (t - begin) in
    let next = next_position position begin t in
    let behind = indexes_from t indexes in
    let rest = many_blocks next t ts behind in
    let more = done ++ (front ++ interval) in
    let flat : (front ++ interval) ++ (rest ++ cs) ≡ front ++ (interval ++ (rest ++ cs)) = append_assoc front interval (rest ++ cs) in
    let blocks : ((front ++ interval) ++ rest) ++ cs ≡ front ++ (interval ++ (rest ++ cs)) =
    append_assoc (front ++ interval) rest cs ∙ flat in
    let all = done ++ (front ++ (interval ++ (rest ++ cs))) in
    let same : more ++ (rest ++ cs) ≡ all = append_assoc done (front ++ interval) (rest ++ cs) ∙ ap (λ bs. done ++ bs) flat in
    let at_next : moved more ≡ next =
    omega (arith, at, moved-append done (front ++ interval), moved-append front interval, moved_indexes position begin (indexes_before t indexes), moved_interval (t - begin)) in
    let now_next : passed more ≡ t =
    omega (arith, now, order.0, passed-append done (front ++ interval), passed-append front interval, passed_indexes position begin (indexes_before t indexes), passed_interval (t - begin)) in
    let whole : all ≡ done ++ (((front ++ interval) ++ rest) ++ cs) = ap (λ bs. done ++ bs) (sym blocks) in
    let later : TurnsAre all (rest ++ cs) behind =
    subst (λ w. TurnsAre w (rest ++ cs) behind) same
    (read_many more next t ts behind cs at_next now_next order.1 (from_is_late t indexes rises) (Climbs-from t indexes rises)
    (subst (λ w. TurnsAre w cs (indexes_after ts behind)) (sym (same ∙ whole)) over)) in
    let here : All (λ x. IsTurnAt all (position + (x - begin) / 65536) ((x - begin) % 65536) x) (indexes_before t indexes) =
    λ i d below. index_here done position begin at now (indexes_before t indexes) t (rest ++ cs) (get_or (indexes_before t indexes) i d)
    (All-take (λ index. begin ≤ index) (count_before t indexes) indexes begun i d below) (front_is_early t indexes i d below) in
    let found = read_indexes all position begin (indexes_before t indexes) behind (interval ++ (rest ++ cs)) here
    (turns_of_interval all (t - begin) (rest ++ cs) behind later) in
    subst (λ bs. TurnsAre (done ++ bs) bs indexes) (sym blocks)
    (subst (TurnsAre all (front ++ (interval ++ (rest ++ cs)))) (before-from t indexes) found)

-- the in-stream bytes and the ticks of several transitions
moved_many : (position begin : ℕ) (ts xs : List ℕ) → position + moved (many_blocks position begin ts xs) ≡ position_after position begin ts
moved_many position begin [] xs = omega arith
moved_many position begin (t ∷ ts) xs =
    let front = map (index_block position begin) (indexes_before t xs) in
    let interval = interval_blocks (t - begin) in
    let next = next_position position begin t in
    let rest = many_blocks next t ts (indexes_from t xs) in
    omega (
      arith,
      moved_many next t ts (indexes_from t xs),
      moved-append (front ++ interval) rest,
      moved-append front interval,
      moved_indexes position begin (indexes_before t xs),
      moved_interval (t - begin),
    )

passed_many : (position begin : ℕ) (ts xs : List ℕ) → InOrder begin ts → begin + passed (many_blocks position begin ts xs) ≡ time_after begin ts
passed_many position begin [] xs order = omega arith
passed_many position begin (t ∷ ts) xs order =
    let front = map (index_block position begin) (indexes_before t xs) in
    let interval = interval_blocks (t - begin) in
    let next = next_position position begin t in
    let rest = many_blocks next t ts (indexes_from t xs) in
    omega (
      arith,
      order.0,
      passed_many next t ts (indexes_from t xs) order.1,
      passed-append (front ++ interval) rest,
      passed-append front interval,
      passed_indexes position begin (indexes_before t xs),
      passed_interval (t - begin),
    )

-- what stands behind the last transition moves neither
moved_ending : (position last : ℕ) (left : List ℕ) → moved (map (trailing_block position last) left ++ last_blocks position) ≡ 0
moved_ending position last [] = refl
moved_ending position last (x ∷ xs) =
    omega (
      arith,
      moved-cons (trailing_block position last x) (map (trailing_block position last) xs ++ last_blocks position),
      moved_ending position last xs,
    )

passed_ending : (position last : ℕ) (left : List ℕ) → passed (map (trailing_block position last) left ++ last_blocks position) ≡ 0
passed_ending position last [] = refl
passed_ending position last (x ∷ xs) =
    omega (
      arith,
      passed-cons (trailing_block position last x) (map (trailing_block position last) xs ++ last_blocks position),
      passed_ending position last xs,
    )

-- all blocks, of which the Index blocks at the end name the place behind the last byte
module _ (all : List Block) (position last : ℕ) (bytes : moved all ≡ position) (time : passed all ≡ last) where
  turn_at_end : (x : ℕ) → last ≤ x → IsTurnAt all position (x - last) x
  turn_at_end x late = record {
    before = all;
    behind = [];
    whole = append-nil all;
    from = omega (arith, bytes);
    to = sym bytes;
    time_is = omega (arith, time, late);
  }

  pub read_ending : (left : List ℕ) → All (λ x. last ≤ x) left → TurnsAre all (map (trailing_block position last) left ++ last_blocks position) left
  read_ending [] late = refl
  read_ending (x ∷ xs) late =
      (turn_at_end x (All-head (λ y. last ≤ y) x xs late), read_ending xs (All-tail (λ y. last ≤ y) x xs late))

pub bytes_of_all : (ts xs left : List ℕ)
    → moved (many_blocks 0 0 ts xs ++ (map (trailing_block (position_after 0 0 ts) (time_after 0 ts)) left ++ last_blocks (position_after 0 0 ts)))
    ≡ position_after 0 0 ts
bytes_of_all ts xs left =
    let p = position_after 0 0 ts in
    let ending = map (trailing_block p (time_after 0 ts)) left ++ last_blocks p in
    omega (arith, moved-append (many_blocks 0 0 ts xs) ending, moved_many 0 0 ts xs, moved_ending p (time_after 0 ts) left)

pub time_of_all : (ts xs left : List ℕ) → InOrder 0 ts
    → passed (many_blocks 0 0 ts xs ++ (map (trailing_block (position_after 0 0 ts) (time_after 0 ts)) left ++ last_blocks (position_after 0 0 ts)))
    ≡ time_after 0 ts
time_of_all ts xs left order =
    let p = position_after 0 0 ts in
    let ending = map (trailing_block p (time_after 0 ts)) left ++ last_blocks p in
    omega (arith, passed-append (many_blocks 0 0 ts xs) ending, passed_many 0 0 ts xs order, passed_ending p (time_after 0 ts) left)
