-- Blocks that are spelled one after another are read as those blocks.
use Rattle.std.proofs.Common.{◌≡◌, ◌≤◌, ◌<◌, ◌+◌, ◌-◌, ◌/◌, ◌%◌, ◌++◌, ◌&&◌, ◌↔◌, ℕ, zero, suc, Bool, true, false, List, [], ◌∷◌, All, length, map, take, drop, find, get_or, replicate, slice_get, unwrap_or, nat_lt, nat_le, Option, Some, None, refl, ap, sym, ◌∙◌, subst, arith, append-nil, length-append, if◌then◌else◌, inl, inr}
use Rattle.std.specs.List.{range_with_len}
use Rattle.std.specs.List.Sorted.{IsStrictlyIncreasing}
use Rattle.std.proofs.lemmas.Bool.{cases_lt}
use Rattle.std.proofs.lemmas.Bool.Decides.{nat_tests}
use Rattle.std.proofs.lemmas.List.{map-append, length-map, get_or-map, get_or-take, length-take-le, take-append-le, take_all, nil_from_length}
use Rattle.std.proofs.lemmas.List.Concat.{flat_map-append}
use Rattle.std.proofs.lemmas.List.Elements.{All-nil, All-cons, All-append}
use Rattle.std.proofs.lemmas.List.Sums.{sum_by-cons, sum_by-take-le}
use Rattle.std.proofs.Math.Seq.{drop-append_seam, take-append_seam}
use Rattle.byteorder.specs.Endian.{little_bytes}
use Rattle.kryo_stream.specs.declared.block.Block.{Block}
use Rattle.kryo_stream.specs.declared.block.Block.TheVariants.{Flux, Overflow, Nop, StreamInfo, Index, StreamEnd, Info, End}
use Rattle.kryo_stream.specs.declared.block.Mark.{Mark}
use Rattle.kryo_stream.specs.declared.block.SpelledBlock.{SpelledBlock}
use Rattle.kryo_stream.specs.declared.fault.StreamFault.TheVariants.{IndexOrder, NoTurn}
use Rattle.kryo_stream.specs.Bench.{stream_step}
use Rattle.kryo_stream.specs.Blocks.{Spells, out_of_band}
use Rattle.kryo_stream.specs.Spelling.{spelling, IsWritable}
use Rattle.kryo_stream.specs.Stream.{total_bytes, in_stream_bytes, has_ended, block_ticks, ticks, is_end, times_of, marks, mark_faults, holds_byte, block_of_byte, index_time, indexes_of, stream, first_fault, turn_fault}
use Rattle.kryo_stream.specs.WellFormed.{IsBlockOf, IsBlockBehind}
use Rattle.kryo_stream.specs.Sequence.{spellings, spelled, all_spelled, StandsBetween, transitions_from, IsHeld, IsTurnAt, TurnsAre, AreInOrder, AreLaid, HasTurnFault, IsStreamOf, index_numbers}
use Rattle.kryo_stream.proofs.BenchLemmas.{marks_from, marks-from}
use Rattle.kryo_stream.proofs.FindLemmas.{find-range, FindsFirst}
use Rattle.kryo_stream.proofs.IndexLemmas.{take-seam, in_stream_bytes-snoc, times_from, times-from}
use Rattle.kryo_stream.proofs.ResolveLemmas.{Seen, seen_faults, seen_first, fault_order, turn_fault-counted, mark_fault_at-is, index_at, blank}
use Rattle.kryo_stream.proofs.SpellingLaws.{spelling-spells}
use Rattle.kryo_stream.proofs.StreamLaws.{Laid, stream-laid, fault-laid, fault-from_turns}

true_false : true ≡ false → ⊥
true_false e = cc

-- each number of the list is a byte
abbrev AreBytes : List ℕ → Type 0
AreBytes [] = Unit {0}
AreBytes (x ∷ xs) = (x < 256) × AreBytes xs

All-from_bytes : (xs : List ℕ) → AreBytes xs → All (λ byte. byte < 256) xs
All-from_bytes [] bytes = All-nil (λ byte. byte < 256)
All-from_bytes (x ∷ xs) bytes = All-cons (λ byte. byte < 256) x xs bytes.0 (All-from_bytes xs bytes.1)

AreBytes-append : (xs ys : List ℕ) → AreBytes xs → AreBytes ys → AreBytes (xs ++ ys)
AreBytes-append [] ys bytes more = more
AreBytes-append (x ∷ xs) ys bytes more = (bytes.0, AreBytes-append xs ys bytes.1 more)

AreBytes-replicate : (n x : ℕ) → x < 256 → AreBytes (replicate n x)
AreBytes-replicate zero x fits = tt
AreBytes-replicate (suc n) x fits = (fits, AreBytes-replicate n x fits)

flux-bytes : (ticks : ℕ) → ticks < 65536 → (one two : Bool) → (nat_le 14 ticks && nat_lt ticks 256) ≡ one → nat_lt ticks 2048 ≡ two
    → AreBytes (if one then ticks ∷ [] else (if two then (ticks / 256) ∷ (ticks % 256) ∷ []
    else 12 ∷ (ticks / 256) ∷ (ticks % 256) ∷ []))
flux-bytes ticks fits true two is_one is_two = (grind (arith, nat_tests), tt)
flux-bytes ticks fits false true is_one is_two = (omega arith, (omega arith, tt))
flux-bytes ticks fits false false is_one is_two = (omega arith, (omega arith, (omega arith, tt)))

four_bytes : (n : ℕ) → AreBytes (little_bytes 4 n)
four_bytes n = (omega arith, (omega arith, (omega arith, (omega arith, tt))))

-- an out-of-band block with this content
framed_bytes : (kind size : ℕ) (content : List ℕ) → kind < 256 → AreBytes content → AreBytes (out_of_band kind size ++ content)
framed_bytes kind size content fits bytes = (omega arith, (fits, (omega arith, (omega arith, bytes))))

two_numbers : (first second : ℕ) → AreBytes (little_bytes 4 first ++ little_bytes 4 second)
two_numbers first second = AreBytes-append (little_bytes 4 first) (little_bytes 4 second) (four_bytes first) (four_bytes second)

spelling-bytes : (block : Block) → IsWritable block → AreBytes (spelling block)
spelling-bytes (Flux ticks) fits = flux-bytes ticks fits _ _ refl refl
spelling-bytes Overflow fits = (omega arith, tt)
spelling-bytes (Nop bytes) fits = (omega (arith, fits.1), AreBytes-replicate (bytes - 1) 0 (omega arith))
spelling-bytes (StreamInfo position time) fits = framed_bytes 1 8 (little_bytes 4 position ++ little_bytes 4 time) (omega arith) (two_numbers position time)
spelling-bytes (Index position sample counter) fits =
    framed_bytes 2 12 (little_bytes 4 position ++ (little_bytes 4 sample ++ little_bytes 4 counter)) (omega arith)
    (AreBytes-append (little_bytes 4 position) (little_bytes 4 sample ++ little_bytes 4 counter) (four_bytes position) (two_numbers sample counter))
spelling-bytes (StreamEnd position code) fits = framed_bytes 3 8 (little_bytes 4 position ++ little_bytes 4 code) (omega arith) (two_numbers position code)
spelling-bytes (Info size) fits = framed_bytes 4 size (replicate size 32) (omega arith) (AreBytes-replicate size 32 (omega arith))
spelling-bytes End fits = (omega arith, (omega arith, (omega arith, (omega arith, tt))))

spellings-bytes : (blocks : List Block)
    → ((before : List Block) (block : Block) (behind : List Block) → before ++ block ∷ behind ≡ blocks → IsWritable block)
    → All (λ byte. byte < 256) (spellings blocks)
spellings-bytes [] writable = All-nil (λ byte. byte < 256)
spellings-bytes (b ∷ bs) writable =
    All-append (λ byte. byte < 256) (spelling b) (spellings bs) (All-from_bytes (spelling b) (spelling-bytes b (writable [] b bs refl)))
    (spellings-bytes bs (λ before block behind is. writable (b ∷ before) block behind (ap (λ l. b ∷ l) is)))

-- how many bytes blocks take
total_bytes-spelled : (blocks : List Block) → total_bytes (all_spelled blocks) ≡ length (spellings blocks)
total_bytes-spelled [] = refl
total_bytes-spelled (b ∷ bs) =
    omega (arith, sum_by-cons (λ p. p.bytes) (spelled b) (all_spelled bs), total_bytes-spelled bs, length-append (spelling b) (spellings bs))

-- a block that may stand after some is the block after them
block_behind : (before : List Block) (block : Block) (behind : List Block) → StandsBetween before block behind
    → IsBlockBehind (spellings (before ++ block ∷ behind)) (all_spelled before) (spelled block)
block_behind before block behind stands =
    let x = spellings (before ++ block ∷ behind) in
    let here : drop (total_bytes (all_spelled before)) x ≡ spelling block ++ spellings behind =
    ap (λ n. drop n x) (total_bytes-spelled before)
    ∙ ap (drop (length (spellings before))) (flat_map-append spelling before (block ∷ behind))
    ∙ drop-append_seam (spellings before) (spelling block ++ spellings behind) in
    subst (λ bytes. IsBlockOf (in_stream_bytes (all_spelled before)) (has_ended (all_spelled before)) bytes (spelled block)) (sym here)
    (record {
      within = omega (arith, length-append (spelling block) (spellings behind));
      spelled = subst (λ bytes. Spells bytes block) (sym (take-append_seam (spelling block) (spellings behind)))
          (spelling-spells block stands.numbers);
      numbers = stands.numbers;
      place = stands.place;
    })

-- piece number j is the spelled block after j blocks
record IsPlace (blocks : List Block) (j : ℕ) (p : SpelledBlock) : Type 0 where
  before : List Block
  block : Block
  behind : List Block
  whole : before ++ block ∷ behind ≡ blocks
  count : length before ≡ j
  piece_is : spelled block ≡ p

place_of : (blocks : List Block) (j : ℕ) (p : SpelledBlock) → slice_get (all_spelled blocks) j ≡ Some p → IsPlace blocks j p
place_of [] j p is = absurd (none_some is)
  where
    none_some : None ≡ Some p → ⊥
    none_some e = cc
place_of (b ∷ bs) zero p is = record { before = []; block = b; behind = bs; whole = refl; count = refl; piece_is = some_same is }
  where
    some_same : {a c : SpelledBlock} → Some a ≡ Some c → a ≡ c
    some_same e = cc
place_of (b ∷ bs) (suc j) p is =
    let rest = place_of bs j p is in
    record {
      before = b ∷ rest.before;
      block = rest.block;
      behind = rest.behind;
      whole = ap (λ l. b ∷ l) rest.whole;
      count = ap suc rest.count;
      piece_is = rest.piece_is;
    }

place-before : (blocks : List Block) (j : ℕ) (p : SpelledBlock) (at : IsPlace blocks j p) → take j (all_spelled blocks) ≡ all_spelled at.before
place-before blocks j p at =
    let front = all_spelled at.before in
    let size : length front ≡ j = length-map at.before spelled ∙ at.count in
    ap (λ n. take n (all_spelled blocks)) (sym size) ∙ ap (λ bs. take (length front) (all_spelled bs)) (sym at.whole)
    ∙ ap (take (length front)) (map-append spelled at.before (at.block ∷ at.behind))
    ∙ take-append_seam front (all_spelled (at.block ∷ at.behind))

-- the last of the blocks is an End, and no other is
place-end : (blocks : List Block) (j : ℕ) (p : SpelledBlock) (at : IsPlace blocks j p) → StandsBetween at.before at.block at.behind
    → (is_end p.block ≡ true) ↔ (j + 1 ≡ length (all_spelled blocks))
place-end blocks j p at stands =
    let size : length (all_spelled blocks) ≡ j + suc (length at.behind) =
    omega (arith, length-map blocks spelled, ap length at.whole, length-append at.before (at.block ∷ at.behind), at.count) in
    let same : is_end at.block ≡ is_end p.block = ap (λ q. is_end q.block) at.piece_is in (
      (λ e. let none = ap length (stands.end.0 (same ∙ e)) in omega (arith, size, none)),
      (λ e. sym same ∙ stands.end.1 (nil_from_length at.behind (omega (arith, size, e)))),
    )

-- the number of the first that passes, where it is this one
first_is : (test : ℕ → Bool) (n j : ℕ) (found : Option ℕ) → FindsFirst test 0 (0 + n) found → j < n → test j ≡ true
    → ((i : ℕ) → i < j → test i ≡ false) → unwrap_or found n ≡ j
first_is test n j (Some k) first inside passes fails = elim (cases_lt k j) [
  | inl early ↦ absurd (true_false (sym first.passes ∙ fails k early))
  | inr late ↦ elim (cases_lt j k) [
    | inl past ↦ absurd (true_false (sym passes ∙ first.before j (omega arith) past))
    | inr at ↦ omega arith
  ]
]
first_is test n j None none inside passes fails = absurd (true_false (sym passes ∙ none j (omega arith) (omega arith)))

none_is : (test : ℕ → Bool) (n : ℕ) (found : Option ℕ) → FindsFirst test 0 (0 + n) found → ((i : ℕ) → i < n → test i ≡ false)
    → unwrap_or found n ≡ n
none_is test n (Some k) first fails = absurd (true_false (sym first.passes ∙ fails k (omega (arith, first.to))))
none_is test n None none fails = refl

-- no block before these holds a byte after them
not_before : (before behind : List SpelledBlock) (position : ℕ) → in_stream_bytes before ≤ position → (i : ℕ) → i < length before
    → holds_byte (before ++ behind) position i ≡ false
not_before before behind position from i inside =
    let front : take (i + 1) (before ++ behind) ≡ take (i + 1) before = take-append-le (i + 1) before behind (omega (arith, inside)) in
    let bound : in_stream_bytes (take (i + 1) (before ++ behind)) ≤ position =
    omega (arith, ap in_stream_bytes front, sum_by-take-le stream_step before (i + 1), from) in
    grind (arith, nat_tests, bound)

-- the time at which the block begins that holds a byte
ticks-before : (before behind : List SpelledBlock) (position : ℕ) → in_stream_bytes before ≤ position → IsHeld before behind position
    → ticks (take (block_of_byte (before ++ behind) position) (before ++ behind)) ≡ ticks before
ticks-before before [] position from held =
    let ps = before ++ [] in
    let found : block_of_byte ps position ≡ length ps =
    none_is (holds_byte ps position) (length ps) (find (holds_byte ps position) (range_with_len 0 (length ps)))
    (find-range (holds_byte ps position) 0 (length ps))
    (λ i inside. not_before before [] position from i (omega (arith, inside, ap length (append-nil before)))) in
    ap (λ n. ticks (take n ps)) found ∙ ap ticks (take_all (length ps) ps (omega arith) ∙ append-nil before)
ticks-before before (p ∷ behind) position from held =
    let ps = before ++ p ∷ behind in
    let seam = take-append_seam before (p ∷ behind) in
    let at : in_stream_bytes (take (length before) ps) ≡ in_stream_bytes before = ap in_stream_bytes seam in
    let next : in_stream_bytes (take (length before + 1) ps) ≡ in_stream_bytes before + stream_step p =
    ap in_stream_bytes (take-seam before p behind) ∙ in_stream_bytes-snoc before p in
    let passes : holds_byte ps position (length before) ≡ true = grind (arith, nat_tests, at, next, from, held) in
    let found : block_of_byte ps position ≡ length before =
    first_is (holds_byte ps position) (length ps) (length before) (find (holds_byte ps position) (range_with_len 0 (length ps)))
    (find-range (holds_byte ps position) 0 (length ps)) (omega (arith, length-append before (p ∷ behind))) passes
    (not_before before (p ∷ behind) position from) in
    ap (λ n. ticks (take n ps)) found ∙ ap ticks seam

-- the position of a block, or of the end, is in the stream
held-within : (before behind : List SpelledBlock) (position : ℕ) → IsHeld before behind position → position ≤ in_stream_bytes (before ++ behind)
held-within before [] position held = omega (arith, held, ap in_stream_bytes (append-nil before))
held-within before (p ∷ behind) position held =
    omega (
      arith,
      held,
      in_stream_bytes-snoc before p,
      ap in_stream_bytes (take-seam before p behind),
      sum_by-take-le stream_step (before ++ p ∷ behind) (length before + 1),
    )

-- an Index block is in the stream, and is read at its time
record IsRead (blocks : List Block) (mark : Mark) (time : ℕ) : Type 0 where
  within : mark.position ≤ in_stream_bytes (all_spelled blocks)
  time_is : index_time (all_spelled blocks) mark ≡ time

turn-read : (blocks : List Block) (mark : Mark) (time : ℕ) → IsTurnAt blocks mark.position mark.sample time → IsRead blocks mark time
turn-read blocks mark time turn =
    let before = all_spelled turn.before in
    let behind = all_spelled turn.behind in
    let whole : before ++ behind ≡ all_spelled blocks = sym (map-append spelled turn.before turn.behind) ∙ ap all_spelled turn.whole in
    record {
      within = omega (arith, held-within before behind mark.position turn.to, ap in_stream_bytes whole);
      time_is = ap (λ ps. index_time ps mark) (sym whole)
          ∙ ap (λ t. t + mark.sample) (ticks-before before behind mark.position turn.from turn.to) ∙ turn.time_is;
    }

-- the Index blocks among some of the blocks are read at their times
record AreRead (blocks : List Block) (ms : List Mark) (turns : List ℕ) : Type 0 where
  within : All (λ mark. mark.position ≤ in_stream_bytes (all_spelled blocks)) ms
  times_are : map (index_time (all_spelled blocks)) ms ≡ turns

turns-read : (blocks some : List Block) (turns : List ℕ) (k : ℕ) → TurnsAre blocks some turns
    → AreRead blocks (marks_from k (all_spelled some)) turns
turns-read blocks [] turns k are = record { within = All-nil (λ mark. mark.position ≤ in_stream_bytes (all_spelled blocks)); times_are = sym are }
turns-read blocks (Index position sample counter ∷ some) [] k are = absurd are
turns-read blocks (Index position sample counter ∷ some) (turn ∷ turns) k are =
    let mark : Mark = record { number = k; position = position; sample = sample } in
    let first = turn-read blocks mark turn are.0 in
    let rest = turns-read blocks some turns (k + 1) are.1 in
    record {
      within = All-cons (λ m. m.position ≤ in_stream_bytes (all_spelled blocks)) mark (marks_from (k + 1) (all_spelled some)) first.within rest.within;
      times_are = ap (λ t. t ∷ map (index_time (all_spelled blocks)) (marks_from (k + 1) (all_spelled some))) first.time_is
          ∙ ap (λ ts. turn ∷ ts) rest.times_are;
    }
turns-read blocks (_ ∷ some) turns k are = turns-read blocks some turns (k + 1) are

-- the numbers of the Index blocks
numbers-are : (n : ℕ) (blocks : List Block) → map (λ m. m.number) (marks_from n (all_spelled blocks)) ≡ index_numbers n blocks
numbers-are n [] = refl
numbers-are n (Index position sample counter ∷ blocks) = ap (λ ns. n ∷ ns) (numbers-are (n + 1) blocks)
numbers-are n (_ ∷ blocks) = numbers-are (n + 1) blocks

-- the transitions of blocks
transitions-are : (time : ℕ) (blocks : List Block) → times_from time (all_spelled blocks) ≡ transitions_from time blocks
transitions-are time [] = refl
transitions-are time (Flux t ∷ blocks) = ap (λ ts. (time + t) ∷ ts) (transitions-are (time + t) blocks)
transitions-are time (b ∷ blocks) = transitions-are (time + block_ticks b) blocks

module _ (blocks : List Block) (turns : List ℕ) (o : AreLaid blocks turns) where
  read : AreRead blocks (marks (all_spelled blocks)) turns
  read = subst (λ ms. AreRead blocks ms turns) (sym (marks-from (all_spelled blocks))) (turns-read blocks blocks turns 0 o.turns_are)

  many : length (marks (all_spelled blocks)) ≡ length turns
  many = sym (length-map (marks (all_spelled blocks)) (index_time (all_spelled blocks))) ∙ ap length read.times_are

  stands : (j : ℕ) (p : SpelledBlock) (at : IsPlace blocks j p) → StandsBetween at.before at.block at.behind
  stands j p at = o.each at.before at.block at.behind at.whole

  laid : Laid (spellings blocks) (all_spelled blocks)
  laid = record {
    limit = omega (arith, total_bytes-spelled blocks, o.limit);
    blocks = λ j p is.
        let at = place_of blocks j p is in
        subst (λ front. IsBlockBehind (spellings blocks) front p) (sym (place-before blocks j p at))
        (subst (IsBlockBehind (spellings blocks) (all_spelled at.before)) at.piece_is
        (subst (λ bs. IsBlockBehind (spellings bs) (all_spelled at.before) (spelled at.block)) at.whole
        (block_behind at.before at.block at.behind (stands j p at))));
    some = omega (arith, o.some, length-map blocks spelled);
    last = λ j p is. let at = place_of blocks j p is in place-end blocks j p at (stands j p at);
  }

  bytes : All (λ byte. byte < 256) (spellings blocks)
  bytes = spellings-bytes blocks (λ before block behind is. (o.each before block behind is).numbers)

  -- what is wrong is wrong with the turns
  fault_is : first_fault (spellings blocks) ≡ turn_fault (all_spelled blocks)
  fault_is = fault-laid (spellings blocks) (all_spelled blocks) bytes laid

  stream_is : stream (spellings blocks) ≡ all_spelled blocks
  stream_is = stream-laid (spellings blocks) (all_spelled blocks) bytes laid

  -- the first index times, where they rise
  seen : (k : ℕ) → k ≤ length turns → ((i : ℕ) → 0 < i → i < k → get_or turns (i - 1) 0 < get_or turns i 0)
      → Seen (all_spelled blocks) k (take k turns)
  seen k few rising =
      let ps : List SpelledBlock = all_spelled blocks in
      record {
        count = omega (arith, many, few);
        times = λ i below. get_or-take k turns i 0 below ∙ ap (λ ts. get_or ts i 0) (sym read.times_are)
            ∙ index_at ps i (get_or (marks ps) i blank) (omega (arith, many, few, below)) refl;
        within = λ i below. read.within i blank (omega (arith, many, few, below));
        rising = λ i some below. omega (arith, rising i some below, get_or-take k turns i 0 below, get_or-take k turns (i - 1) 0 (omega arith));
        size = length-take-le k turns few;
      }

  number_is : (k : ℕ) → k < length turns → (get_or (marks (all_spelled blocks)) k blank).number ≡ get_or (index_numbers 0 blocks) k 0
  number_is k inside =
      sym (get_or-map (λ m. m.number) (marks (all_spelled blocks)) k blank 0 (omega (arith, many, inside)))
      ∙ ap (λ ms. get_or (map (λ m. m.number) ms) k 0) (marks-from (all_spelled blocks)) ∙ ap (λ ns. get_or ns k 0) (numbers-are 0 blocks)

  falls_at : (k : ℕ) → k + 1 < length turns → get_or turns (k + 1) 0 ≤ get_or turns k 0
      → ((j : ℕ) → j < k → get_or turns j 0 < get_or turns (j + 1) 0)
      → first_fault (spellings blocks) ≡ Some (get_or (index_numbers 0 blocks) (k + 1) 0, IndexOrder)
  falls_at k inside falls rise =
      let ps : List SpelledBlock = all_spelled blocks in
      let m : Mark = get_or (marks ps) (k + 1) blank in
      let within : k + 1 < length (marks ps) = omega (arith, many, inside) in
      let before : (k + 1) - 1 ≡ k = omega arith in
      let time : (i : ℕ) → i < length turns → get_or (indexes_of ps) i 0 ≡ get_or turns i 0 = λ i low. ap (λ ts. get_or ts i 0) read.times_are in
      fault_is
      ∙ seen_first ps (k + 1) (take (k + 1) turns) (m.number, IndexOrder)
      (seen (k + 1) (omega (arith, inside)) (λ i some below.
      let next : (i - 1) + 1 ≡ i = omega (arith, some) in
      omega (arith, rise (i - 1) (omega (arith, some, below)), ap (λ n. get_or turns n 0) next)))
      within
      (mark_fault_at-is ps (k + 1) m within refl
      ∙ fault_order ps (k + 1) m (read.within (k + 1) blank within) (omega arith)
      (omega (arith, falls, time (k + 1) inside, index_at ps (k + 1) m within refl, ap (λ n. get_or (indexes_of ps) n 0) before, time k (omega (arith, inside)))))
      ∙ ap (λ n. Some (n, IndexOrder)) (number_is (k + 1) inside)

  too_few : IsStrictlyIncreasing turns → length turns < 2 → first_fault (spellings blocks) ≡ Some (length blocks - 1, NoTurn)
  too_few rising few =
      let ps : List SpelledBlock = all_spelled blocks in
      let all : length turns ≡ length (marks ps) = sym many in
      let none : mark_faults ps ≡ [] =
      seen_faults ps (take (length turns) turns) (subst (λ n. Seen ps n (take (length turns) turns)) all
      (seen (length turns) (omega arith) (λ i some below.
      let next : (i - 1) + 1 ≡ i = omega (arith, some) in
      omega (arith, rising (i - 1) (omega (arith, some, below)), ap (λ n. get_or turns n 0) next)))) in
      let small : length (marks ps) < 2 = omega (arith, few, many) in
      let test : nat_lt (length (marks ps)) 2 ≡ true = grind (arith, nat_tests, small) in
      fault_is ∙ turn_fault-counted ps true none test ∙ ap (λ n. Some (n - 1, NoTurn)) (length-map blocks spelled)

  pub blocks_faulty : HasTurnFault (spellings blocks) blocks turns
  blocks_faulty = record { order = falls_at; none = too_few }

some_blocks : (blocks : List Block) (turns : List ℕ) → TurnsAre blocks blocks turns → 2 ≤ length turns → 0 < length blocks
some_blocks [] turns are two = absurd (omega (arith, two, ap length are))
some_blocks (b ∷ bs) turns are two = omega arith

module _ (blocks : List Block) (turns : List ℕ) (o : AreInOrder blocks turns) where
  ordered : AreLaid blocks turns
  ordered = record { limit = o.limit; some = some_blocks blocks turns o.turns_are o.enough; each = o.each; turns_are = o.turns_are }

  pub blocks_read : IsStreamOf (spellings blocks) (transitions_from 0 blocks) turns
  blocks_read =
      let ps : List SpelledBlock = all_spelled blocks in
      let are = read blocks turns ordered in
      let same : stream (spellings blocks) ≡ ps = stream_is blocks turns ordered in
      record {
        no_fault = fault_is blocks turns ordered ∙ fault-from_turns ps (record {
          turns = omega (arith, o.enough, many blocks turns ordered);
          positions = are.within;
          order = subst IsStrictlyIncreasing (sym are.times_are) o.order;
        });
        transitions_are = ap times_of same ∙ times-from ps ∙ transitions-are 0 blocks;
        turns_are = ap indexes_of same ∙ are.times_are;
        whole = ap total_bytes same ∙ total_bytes-spelled blocks;
      }
