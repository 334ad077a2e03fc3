-- The in-stream bytes and the blocks of a capture's intervals, one interval after another.
use Rattle.std.proofs.Common.{◌≡◌, ◌≤◌, ◌<◌, ◌+◌, ◌-◌, ◌/◌, ◌%◌, ◌++◌, ℕ, zero, suc, true, false, cond, List, [], ◌∷◌, length, get_or, slice_index, flat_map, replicate, nat_le, ap, ◌∙◌, arith, append-nil, length-append}
use Rattle.std.specs.List.{range_with_len}
use Rattle.std.specs.List.Sorted.{IsNonDecreasing, IsStrictlyIncreasing}
use Rattle.std.proofs.lemmas.Bool.Decides.{nat_tests}
use Rattle.std.proofs.lemmas.List.{get_or_default, length-replicate}
use Rattle.std.proofs.lemmas.List.Concat.{flat_map-append}
use Rattle.std.proofs.lemmas.List.Sums.{sum_by-cons}
use Rattle.kryo_stream.specs.declared.block.Block.{Block}
use Rattle.kryo_stream.specs.declared.block.Block.TheVariants.{Flux, Overflow}
use Rattle.kryo_stream.specs.Spelling.{spelling}
use Rattle.kryo_stream.specs.Sequence.{spellings}
use Rattle.flux_writer.specs.Written.{begin_of, in_stream_before, interval_blocks, interval_of}
use Rattle.flux_writer.specs.Trailing.{blocks_before, passed_by}
use Rattle.scp_files.proofs.Lists.{range-more}

intervals-more : (times : List ℕ) (k : ℕ) → flat_map (interval_of times) (range_with_len 0 (k + 1))
    ≡ flat_map (interval_of times) (range_with_len 0 k) ++ interval_of times k
intervals-more times k =
    ap (flat_map (interval_of times)) (range-more k)
    ∙ flat_map-append (interval_of times) (range_with_len 0 k) (k ∷ [])
    ∙ ap (λ l. flat_map (interval_of times) (range_with_len 0 k) ++ l) (append-nil (interval_of times k))

-- one interval more
pub bytes-more : (times : List ℕ) (k : ℕ) → in_stream_before times (k + 1) ≡ in_stream_before times k + length (spellings (interval_of times k))
bytes-more times k =
    let before = flat_map (interval_of times) (range_with_len 0 k) in
    ap (λ bs. length (spellings bs)) (intervals-more times k) ∙ ap length (flat_map-append spelling before (interval_of times k))
    ∙ length-append (spellings before) (spellings (interval_of times k))

length-interval : (t : ℕ) → length (interval_blocks t) ≡ t / 65536 + 1
length-interval t =
    omega (arith, length-append (replicate (t / 65536) Overflow) (Flux (t % 65536) ∷ []), length-replicate {A = Block} (t / 65536) Overflow)

pub blocks-more : (times : List ℕ) (k : ℕ) → blocks_before times (k + 1) ≡ blocks_before times k + ((slice_index times k - begin_of times k) / 65536 + 1)
blocks-more times k =
    ap length (intervals-more times k) ∙ length-append (flat_map (interval_of times) (range_with_len 0 k)) (interval_of times k)
    ∙ ap (λ n. blocks_before times k + n) (length-interval (slice_index times k - begin_of times k))

-- an interval ends no earlier than it begins
pub begin-le : (times : List ℕ) (k : ℕ) → IsNonDecreasing times → k < length times → begin_of times k ≤ get_or times k 0
begin-le times zero order inside = omega arith
begin-le times (suc k) order inside = order k (suc k) 0 (omega arith) inside

passed-cons : (t : ℕ) (ts : List ℕ) (x : ℕ) → passed_by (t ∷ ts) x ≡ cond (nat_le t x) 1 0 + passed_by ts x
passed-cons t ts x = sum_by-cons (λ time. cond (nat_le time x) 1 0) t ts

-- where the first k are not above an index time, and no other is not, they are k
pub passed-is : (ts : List ℕ) (k x : ℕ) → k ≤ length ts → ((i : ℕ) → i < k → get_or ts i 0 ≤ x)
    → ((i : ℕ) → k ≤ i → i < length ts → x < get_or ts i 0) → passed_by ts x ≡ k
passed-is [] k x few low high = omega (arith, few)
passed-is (t ∷ ts) zero x few low high =
    let test : nat_le t x ≡ false = (let above = high 0 (omega arith) (omega arith) in grind (arith, nat_tests, above)) in
    omega (
      arith,
      passed-cons t ts x,
      ap (λ b. cond b 1 0 + passed_by ts x) test,
      passed-is ts 0 x (omega arith) (λ i below. absurd (omega (arith, below))) (λ i from inside. high (suc i) (omega arith) (omega (arith, inside))),
    )
passed-is (t ∷ ts) (suc k) x few low high =
    let test : nat_le t x ≡ true = (let below = low 0 (omega arith) in grind (arith, nat_tests, below)) in
    omega (
      arith,
      passed-cons t ts x,
      ap (λ b. cond b 1 0 + passed_by ts x) test,
      passed-is ts k x (omega (arith, few)) (λ i below. low (suc i) (omega (arith, below))) (λ i from inside. high (suc i) (omega (arith, from)) (omega (arith, inside))),
    )

-- the first that is above it is the first of all that are
pub passed-until : (ts : List ℕ) (k x : ℕ) → IsNonDecreasing ts → k < length ts → ((i : ℕ) → i < k → get_or ts i 0 ≤ x) → x < get_or ts k 0
    → passed_by ts x ≡ k
passed-until ts k x order inside low above =
    passed-is ts k x (omega (arith, inside)) low (λ i from within. omega (arith, above, order k i 0 from within))

pub passed-all : (ts : List ℕ) (x : ℕ) → ((i : ℕ) → i < length ts → get_or ts i 0 ≤ x) → passed_by ts x ≡ length ts
passed-all ts x low = passed-is ts (length ts) x (omega arith) low (λ i from inside. absurd (omega (arith, from, inside)))

-- the next interval begins where one ends
pub begin-next : (times : List ℕ) (k : ℕ) → begin_of times (k + 1) ≡ get_or times k 0
begin-next times k =
    let next : k + 1 ≡ suc k = omega arith in ap (λ n. get_or (0 ∷ times) n 0) next

-- what rises does not fall
rises-to : (xs : List ℕ) → IsStrictlyIncreasing xs → (i n : ℕ) → i + n < length xs → get_or xs i 0 ≤ get_or xs (i + n) 0
rises-to xs up i zero inside =
    let here : i + zero ≡ i = omega arith in
    omega (arith, ap (λ k. get_or xs k 0) here)
rises-to xs up i (suc n) inside =
    let next : i + suc n ≡ (i + n) + 1 = omega arith in
    omega (arith, rises-to xs up i n (omega (arith, inside)), up (i + n) (omega (arith, inside)), ap (λ k. get_or xs k 0) next)

pub rising-climbs : (xs : List ℕ) → IsStrictlyIncreasing xs → IsNonDecreasing xs
rising-climbs xs up i j d order inside =
    let there : i + (j - i) ≡ j = omega (arith, order) in
    omega (
      arith,
      get_or_default xs i 0 d (omega (arith, order, inside)),
      get_or_default xs j 0 d inside,
      rises-to xs up i (j - i) (omega (arith, there, inside)),
      ap (λ k. get_or xs k 0) there,
    )
