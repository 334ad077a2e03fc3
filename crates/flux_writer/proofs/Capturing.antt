-- The stream of a capture whose last index times may stand behind its last transition.
use Rattle.std.proofs.Common.{◌≡◌, ◌≤◌, ◌<◌, ◌+◌, ◌-◌, ◌*◌, ◌++◌, ◌&&◌, ℕ, true, false, List, [], ◌∷◌, All, length, map, filter, get_or, nat_le, Some, refl, ap, sym, ◌∙◌, subst, arith, append-nil, length-append}
use Rattle.std.specs.List.Sorted.{IsNonDecreasing, IsStrictlyIncreasing}
use Rattle.std.proofs.lemmas.Bool.Decides.{nat_tests}
use Rattle.std.proofs.lemmas.List.{length-map}
use Rattle.std.proofs.lemmas.List.Elements.{All-drop, All-weaker, filter-append}
use Rattle.std.proofs.lemmas.List.Sums.{count_by-le-length}
use Rattle.kryo_stream.specs.declared.block.Block.{Block}
use Rattle.kryo_stream.specs.declared.fault.StreamFault.TheVariants.{IndexOrder, NoTurn}
use Rattle.kryo_stream.specs.Sequence.{spellings, transitions_from, AreLaid, HasTurnFault, IsStreamOf, index_numbers}
use Rattle.kryo_stream.specs.Stream.{first_fault}
use Rattle.kryo_stream.specs.lemmas.Standing.{Stand, Stand-each}
use Rattle.flux_writer.specs.Reading.{EndsWithTransition}
use Rattle.flux_writer.specs.Written.{begin_of, in_stream_before, stream_of_times}
use Rattle.flux_writer.specs.Trailing.{HasCaptureFault, blocks_before, capture_blocks, passed_by, stream_of_capture, trailing_block, trailing_indexes}
use Rattle.flux_writer.specs.inside.Writing.{count_before, indexes_before, indexes_from, last_blocks, many_blocks, position_after, time_after, indexes_after}
use Rattle.flux_writer.proofs.Rising.{Climbs, Climbs-from, Climbs-from_sorted, Climbs-from_increasing, before-from, from_is_late, front_is_early, filter-none, filter-same}
use Rattle.flux_writer.proofs.Equal.{in_stream-after, is_past, begin_after, transitions-are, stream_blocks-is}
use Rattle.flux_writer.proofs.Stands.{InOrder, InOrder-from_sorted, stand_before, stand_ending, ending_some}
use Rattle.flux_writer.proofs.ReadTimes.{times_before, times_of_ending}
use Rattle.flux_writer.proofs.ReadIndexes.{read_many, read_ending, bytes_of_all, time_of_all}
use Rattle.flux_writer.proofs.ReadsBack.{BlocksLaw, all_written, from_zero}
use Rattle.flux_writer.proofs.Numbering.{number_of, blocks_before-is, length-many, all_take}

filter-all : (xs : List ℕ) → filter (λ x. true) xs ≡ xs
filter-all [] = refl
filter-all (x ∷ xs) = ap (λ l. x ∷ l) (filter-all xs)

-- the index times that no transition is above are those that are left behind the last
trailing-is : (ts xs : List ℕ) → Climbs xs → filter (is_past ts) xs ≡ indexes_after ts xs
trailing-is [] xs climbs = filter-all xs
trailing-is (t ∷ ts) xs climbs =
    let front = indexes_before t xs in
    let behind = indexes_from t xs in
    ap (filter (is_past (t ∷ ts))) (sym (before-from t xs)) ∙ filter-append (is_past (t ∷ ts)) front behind
    ∙ ap (λ l. l ++ filter (is_past (t ∷ ts)) behind)
    (filter-none (is_past (t ∷ ts)) front (All-weaker (λ x. x < t) (λ x. is_past (t ∷ ts) x ≡ false) early front (front_is_early t xs)))
    ∙ filter-same (is_past (t ∷ ts)) (is_past ts) behind
    (All-weaker (λ x. t ≤ x) (λ x. is_past (t ∷ ts) x ≡ is_past ts x) late behind (from_is_late t xs climbs))
    ∙ trailing-is ts behind (Climbs-from t xs climbs)
  where
    early : (x : ℕ) → x < t → is_past (t ∷ ts) x ≡ false
    early x below =
        let test : nat_le t x ≡ false = grind (arith, nat_tests, below) in ap (λ b. b && is_past ts x) test

    late : (x : ℕ) → t ≤ x → is_past (t ∷ ts) x ≡ is_past ts x
    late x above =
        let test : nat_le t x ≡ true = grind (arith, nat_tests, above) in ap (λ b. b && is_past ts x) test

-- the blocks that are written a transition at a time
abbrev pub all_of : List ℕ → List ℕ → List Block
all_of ts xs =
    many_blocks 0 0 ts xs
    ++ (map (trailing_block (position_after 0 0 ts) (time_after 0 ts)) (indexes_after ts xs) ++ last_blocks (position_after 0 0 ts))

end_time : (ts : List ℕ) → begin_of ts (length ts) ≡ time_after 0 ts
end_time ts = ap (λ l. get_or (0 ∷ l) (length ts) 0) (sym (append-nil ts)) ∙ begin_after 0 ts []

pub capture_blocks-is : (ts xs : List ℕ) → Climbs xs → capture_blocks ts xs ≡ all_of ts xs
capture_blocks-is ts xs climbs =
    let P = in_stream_before ts (length ts) in
    ap (λ bs. bs ++ (map (trailing_block P (begin_of ts (length ts))) (trailing_indexes ts xs) ++ last_blocks P)) (transitions-are ts xs climbs)
    ∙ ap (λ p. many_blocks 0 0 ts xs ++ (map (trailing_block p (begin_of ts (length ts))) (trailing_indexes ts xs) ++ last_blocks p)) (in_stream-after [] ts)
    ∙ ap (λ l. many_blocks 0 0 ts xs ++ (map (trailing_block (position_after 0 0 ts) l) (trailing_indexes ts xs) ++ last_blocks (position_after 0 0 ts))) (end_time ts)
    ∙ ap (λ left. many_blocks 0 0 ts xs ++ (map (trailing_block (position_after 0 0 ts) (time_after 0 ts)) left ++ last_blocks (position_after 0 0 ts))) (trailing-is ts xs climbs)

-- where all lie before the last transition, it is the stream of the times
pub capture_same : (ts xs : List ℕ) → IsStrictlyIncreasing xs → EndsWithTransition ts xs → stream_of_capture ts xs ≡ stream_of_times ts xs
capture_same ts xs rising ends =
    ap spellings (capture_blocks-is ts xs (Climbs-from_increasing xs rising)
    ∙ ap (λ left. many_blocks 0 0 ts xs ++ (map (trailing_block (position_after 0 0 ts) (time_after 0 ts)) left ++ last_blocks (position_after 0 0 ts)))
    (none xs rising ends) ∙ sym (stream_blocks-is ts xs rising))
  where
    past_nothing : (us : List ℕ) → indexes_after us [] ≡ []
    past_nothing [] = refl
    past_nothing (u ∷ us) = past_nothing us

    none : (ys : List ℕ) → IsStrictlyIncreasing ys → EndsWithTransition ts ys → indexes_after ts ys ≡ []
    none [] up before = past_nothing ts
    none (y ∷ ys) up before = all_written ts (y ∷ ys) up before (omega arith)

-- those that are left are not before the last transition
left_late : (begin : ℕ) (ts xs : List ℕ) → Climbs xs → All (λ x. begin ≤ x) xs → All (λ x. time_after begin ts ≤ x) (indexes_after ts xs)
left_late begin [] xs climbs late = late
left_late begin (t ∷ ts) xs climbs late = left_late t ts (indexes_from t xs) (Climbs-from t xs climbs) (from_is_late t xs climbs)

left_among : (P : ℕ → Type 0) (ts xs : List ℕ) → All P xs → All P (indexes_after ts xs)
left_among P [] xs all = all
left_among P (t ∷ ts) xs all = left_among P ts (indexes_from t xs) (All-drop P (count_before t xs) xs all)

-- what turn_faults_law says
abbrev pub FaultsLaw : Type 0
FaultsLaw = (blocks : List Block) (turns : List ℕ) → AreLaid blocks turns → HasTurnFault (spellings blocks) blocks turns

-- a capture of at most so many bytes, whose index times fit the sample counter
module _ (ts xs : List ℕ) (order : IsNonDecreasing ts) (climbs : Climbs xs) (near : All (λ x. x < 4294967296) xs)
    (short : length (stream_of_capture ts xs) ≤ 4194304) where
  abbrev P : ℕ
  P = position_after 0 0 ts

  abbrev L : ℕ
  L = time_after 0 ts

  abbrev left : List ℕ
  left = indexes_after ts xs

  sorted : InOrder 0 ts
  sorted = InOrder-from_sorted 0 ts (from_zero ts order)

  is_all : stream_of_capture ts xs ≡ spellings (all_of ts xs)
  is_all = ap spellings (capture_blocks-is ts xs climbs)

  fits : P < 4294967296
  fits = omega (arith, short, ap length is_all, all_take P L ts xs)

  stand : Stand 0 false (all_of ts xs)
  stand = stand_before 0 0 ts xs (map (trailing_block P L) left ++ last_blocks P) fits (ending_some P L left)
      (stand_ending P L left fits (All-weaker (λ x. x < 4294967296) (λ x. x - L < 4294967296) (λ x below. omega (arith, below)) left
      (left_among (λ x. x < 4294967296) ts xs near)))

  laid : AreLaid (all_of ts xs) xs
  laid = record {
    limit = omega (arith, short, ap length is_all);
    some = omega (
      arith,
      length-append (many_blocks 0 0 ts xs) (map (trailing_block P L) left ++ last_blocks P),
      length-append (map (trailing_block P L) left) (last_blocks P),
    );
    each = λ before block behind is. Stand-each [] before block behind (subst (Stand 0 false) (sym is) stand);
    turns_are = read_many [] 0 0 ts xs (map (trailing_block P L) left ++ last_blocks P) refl refl sorted (λ k d below. omega arith) climbs
        (read_ending (all_of ts xs) P L (bytes_of_all ts xs left) (time_of_all ts xs left sorted) left
        (left_late 0 ts xs climbs (λ k d below. omega arith)));
  }

  number : (k : ℕ) → k < length xs
      → get_or (index_numbers 0 (all_of ts xs)) k 0 ≡ blocks_before ts (passed_by ts (get_or xs k 0)) + k
  number k inside =
      number_of P L 0 0 0 k ts xs climbs sorted inside
      ∙ omega (arith, blocks_before-is ts (passed_by ts (get_or xs k 0)) (count_by-le-length (λ time. nat_le time (get_or xs k 0)) ts))

  many : length (all_of ts xs) - 1 ≡ blocks_before ts (length ts) + length xs + 1
  many = omega (
    arith,
    length-many 0 0 ts xs,
    length-append (many_blocks 0 0 ts xs) (map (trailing_block P L) left ++ last_blocks P),
    length-append (map (trailing_block P L) left) (last_blocks P),
    length-map left (trailing_block P L),
    blocks_before-is ts (length ts) (omega arith),
  )

  pub capture_faults : FaultsLaw → HasCaptureFault ts xs
  capture_faults law =
      let faults = law (all_of ts xs) xs laid in
      record {
        order = λ k inside falls rise. ap first_fault is_all ∙ faults.order k inside falls rise
            ∙ ap (λ n. Some (n, IndexOrder)) (number (k + 1) inside);
        none = λ rising few. ap first_fault is_all ∙ faults.none rising few ∙ ap (λ n. Some (n, NoTurn)) many;
      }

  pub capture_reads : BlocksLaw → IsStrictlyIncreasing xs → 2 ≤ length xs → IsStreamOf (stream_of_capture ts xs) ts xs
  capture_reads law rising two =
      let times : transitions_from 0 (all_of ts xs) ≡ ts =
      times_before 0 0 ts xs (map (trailing_block P L) left ++ last_blocks P) sorted
      ∙ ap (λ l. ts ++ l) (times_of_ending L P L left) ∙ append-nil ts in
      subst (λ x. IsStreamOf x ts xs) (sym is_all)
      (subst (λ l. IsStreamOf (spellings (all_of ts xs)) l xs) times
      (law (all_of ts xs) xs (record { limit = laid.limit; each = laid.each; turns_are = laid.turns_are; enough = two; order = rising })))

pub capture_takes : (ts xs : List ℕ) → IsNonDecreasing xs
    → length (stream_of_capture ts xs) ≡ in_stream_before ts (length ts) + 16 * length xs + 16
capture_takes ts xs order =
    omega (
      arith,
      ap (λ bs. length (spellings bs)) (capture_blocks-is ts xs (Climbs-from_sorted xs order)),
      all_take (position_after 0 0 ts) (time_after 0 ts) ts xs,
      in_stream-after [] ts,
    )

pub reads_back : BlocksLaw → (ts xs : List ℕ) → IsNonDecreasing ts → IsStrictlyIncreasing xs → All (λ x. x < 4294967296) xs
    → 2 ≤ length xs → length (stream_of_capture ts xs) ≤ 4194304 → IsStreamOf (stream_of_capture ts xs) ts xs
reads_back law ts xs order rising near two short = capture_reads ts xs order (Climbs-from_increasing xs rising) near short law rising two

pub faults_of : FaultsLaw → (ts xs : List ℕ) → IsNonDecreasing ts → IsNonDecreasing xs → All (λ x. x < 4294967296) xs
    → length (stream_of_capture ts xs) ≤ 4194304 → HasCaptureFault ts xs
faults_of law ts xs order rising near short = capture_faults ts xs order (Climbs-from_sorted xs rising) near short law
