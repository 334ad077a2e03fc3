-- What the stream is that a capture stands for.
use Rattle.std.proofs.Common.{◌≡◌, ◌≤◌, ◌<◌, ◌+◌, ◌-◌, ◌*◌, ◌||◌, ℕ, zero, suc, Bool, true, false, List, [], ◌∷◌, All, length, take, get_or, nat_le, nat_lt, if◌then◌else◌, Some, None, ap, sym, ◌∙◌, subst, arith}
use Rattle.std.specs.List.{cons_option, range_with_len, sum}
use Rattle.std.specs.List.Sorted.{IsNonDecreasing, IsStrictlyIncreasing}
use Rattle.std.proofs.lemmas.Bool.Decides.{nat_tests}
use Rattle.std.proofs.lemmas.List.{get_or-map, get_or-take, get_or_default, take_all}
use Rattle.std.proofs.lemmas.List.FromFn.{get_or-range_with_len, length-range_with_len}
use Rattle.std.proofs.lemmas.List.Elements.{All-nil, All-cons, All-weaker}
use Rattle.std.proofs.lemmas.List.Sums.{sum_by-cons}
use Rattle.kryo_stream.specs.Sequence.{IsStreamOf}
use Rattle.kryo_stream.specs.Stream.{first_fault}
use Rattle.kryo_stream.specs.declared.fault.StreamFault.TheVariants.{IndexOrder, NoTurn}
use Rattle.track_rings.specs.Rings.{last_in}
use Rattle.flux_writer.specs.Written.{in_stream_before}
use Rattle.flux_writer.specs.Trailing.{HasCaptureFault, blocks_before, passed_by, stream_of_capture}
use Rattle.scp_files.specs.Captures.{AreKept, CaptureState, Holds}
use Rattle.scp_files.specs.Streams.{IsStream, is_too_long_of, stream_of}
use Rattle.scp_files.specs.Units.{entry_units, moments, ticks_of, transitions}
use Rattle.scp_files.specs.inside.Noting.{is_too_long_at, transitions_from}
use Rattle.scp_files.proofs.Noting.{length-moments, transitions-from}

-- more units are not fewer ticks
pub ticks_of-le : (q a b : ℕ) → a ≤ b → ticks_of q a ≤ ticks_of q b
ticks_of-le q a b order =
    let scaled : a * (q + 1) ≤ b * (q + 1) = grind arith in omega (arith, scaled)

-- the first so many are no more than all
sum-grows : (xs : List ℕ) (i n : ℕ) → sum (take i xs) ≤ sum (take (i + n) xs)
sum-grows xs i zero = omega (arith, ap (λ k. sum (take k xs)) (let e : i + 0 ≡ i = omega arith in e))
sum-grows xs i (suc n) =
    let next : (i + n) + 1 ≡ i + suc n = omega arith in
    omega (arith, sum-grows xs i n, sum-step xs (i + n), ap (λ k. sum (take k xs)) next)
  where
    sum-step : (ys : List ℕ) (k : ℕ) → sum (take k ys) ≤ sum (take (k + 1) ys)
    sum-step [] zero = omega arith
    sum-step [] (suc k) =
        let next : suc k + 1 ≡ suc (k + 1) = omega arith in
        omega (arith, ap (λ m. sum (take {A = ℕ} m [])) next)
    sum-step (y ∷ ys) zero = omega arith
    sum-step (y ∷ ys) (suc k) =
        let next : suc k + 1 ≡ suc (k + 1) = omega arith in
        omega (
          arith,
          sum-step ys k,
          ap (λ m. sum (take m (y ∷ ys))) next,
          sum_by-cons (λ x. x) y (take k ys),
          sum_by-cons (λ x. x) y (take (k + 1) ys),
        )

moment-at : (q : ℕ) (ds : List ℕ) (k : ℕ) → k < length ds + 1 → get_or (moments q ds) k 0 ≡ ticks_of q (sum (take k ds))
moment-at q ds k inside =
    let all : List ℕ = range_with_len 0 (length ds + 1) in
    let within : k < length all = omega (arith, length-range_with_len 0 (length ds + 1), inside) in
    get_or-map (λ i. ticks_of q (sum (take i ds))) all k 0 0 within
    ∙ ap (λ i. ticks_of q (sum (take i ds))) (get_or-range_with_len 0 (length ds + 1) k 0 inside ∙ omega arith)

pub last-moment : (q : ℕ) (ds : List ℕ) → last_in (moments q ds) ≡ ticks_of q (sum ds)
last-moment q ds =
    let last : length (moments q ds) - 1 ≡ length ds = omega (arith, length-moments q ds) in
    ap (λ k. get_or (moments q ds) k 0) last ∙ moment-at q ds (length ds) (omega arith)
    ∙ ap (λ l. ticks_of q (sum l)) (take_all (length ds) ds (omega arith))

pub moments-climb : (q : ℕ) (ds : List ℕ) → IsNonDecreasing (moments q ds)
moments-climb q ds i j d order inside =
    let size = length-moments q ds in
    let n : ℕ = j - i in
    let at : i + n ≡ j = omega (arith, order) in
    omega (
      arith,
      get_or_default (moments q ds) i 0 d (omega (arith, order, inside)),
      get_or_default (moments q ds) j 0 d inside,
      moment-at q ds i (omega (arith, order, inside, size)),
      moment-at q ds j (omega (arith, inside, size)),
      ticks_of-le q (sum (take i ds)) (sum (take (i + n) ds)) (sum-grows ds i n),
      ap (λ k. ticks_of q (sum (take k ds))) at,
    )

-- all of what does not fall are below what the last is below
climbing-below : (xs : List ℕ) (most : ℕ) → IsNonDecreasing xs → last_in xs < most → All (λ x. x < most) xs
climbing-below xs most climbs last k d inside =
    omega (
      arith,
      last,
      get_or_default xs k 0 d inside,
      climbs k (length xs - 1) 0 (omega (arith, inside)) (omega (arith, inside)),
    )

-- what capture_law says
abbrev pub SizeLaw : Type 0
SizeLaw = (ts xs : List ℕ) → IsNonDecreasing xs → length (stream_of_capture ts xs) ≡ in_stream_before ts (length ts) + 16 * length xs + 16

abbrev pub ReadsLaw : Type 0
ReadsLaw = (ts xs : List ℕ) → IsNonDecreasing ts → IsStrictlyIncreasing xs → All (λ x. x < 4294967296) xs → 2 ≤ length xs
    → length (stream_of_capture ts xs) ≤ 4194304 → IsStreamOf (stream_of_capture ts xs) ts xs

abbrev pub FaultsLaw : Type 0
FaultsLaw = (ts xs : List ℕ) → IsNonDecreasing ts → IsNonDecreasing xs → All (λ x. x < 4294967296) xs
    → length (stream_of_capture ts xs) ≤ 4194304 → HasCaptureFault ts xs

module _ (size : SizeLaw) (values durations : List ℕ) (c : CaptureState) (h : Holds values durations c) where
  abbrev q : ℕ
  q = c.resolution

  abbrev ts : List ℕ
  ts = transitions q values

  abbrev xs : List ℕ
  xs = moments q durations

  pub too_long-is : is_too_long_at c ≡ is_too_long_of q values durations
  too_long-is =
      let bytes : in_stream_before c.flux.times (length c.flux.times) + 16 * (c.revolutions + 1) + 16 ≡ length (stream_of_capture ts xs) =
      omega (
        arith,
        ap (λ l. in_stream_before l (length l)) h.times,
        size ts xs (moments-climb q durations),
        length-moments q durations,
        h.revolutions,
      ) in
      ap (λ l. (nat_le 4294967296 (last_in l) || nat_le 4294967296 (ticks_of q c.moment))
      || nat_lt 4194304 (in_stream_before c.flux.times (length c.flux.times) + 16 * (c.revolutions + 1) + 16)) h.times
      ∙ ap (λ t. (nat_le 4294967296 (last_in ts) || nat_le 4294967296 t)
      || nat_lt 4194304 (in_stream_before c.flux.times (length c.flux.times) + 16 * (c.revolutions + 1) + 16))
      (ap (ticks_of q) h.moment ∙ sym (last-moment q durations))
      ∙ ap (λ n. (nat_le 4294967296 (last_in ts) || nat_le 4294967296 (last_in xs)) || nat_lt 4194304 n) bytes

  -- what a capture that is not too long is
  module _ (short : is_too_long_at c ≡ false) (order : IsNonDecreasing c.flux.times) (rising : IsStrictlyIncreasing c.flux.indexes) where
    pub within : is_too_long_of q values durations ≡ false
    within = sym too_long-is ∙ short

    early : last_in xs < 4294967296
    early = grind (arith, nat_tests, within)

    few : length (stream_of_capture ts xs) ≤ 4194304
    few = grind (arith, nat_tests, within)

    sorted : IsNonDecreasing ts
    sorted = subst IsNonDecreasing h.times order

    near : All (λ x. x < 4294967296) xs
    near = climbing-below xs 4294967296 (moments-climb q durations) early

    pub finish_reads : ReadsLaw → c.falls ≡ false → 2 ≤ length c.flux.indexes → IsStream q values durations c.flux
    finish_reads law rises two =
        let same : c.flux.indexes ≡ xs = subst (AreKept xs c.flux.indexes) rises h.indexes in
        record {
          short = within;
          stream = subst (λ l. IsStreamOf (stream_of q values durations) l c.flux.indexes) (sym h.times)
              (subst (IsStreamOf (stream_of q values durations) ts) (sym same)
              (law ts xs sorted (subst IsStrictlyIncreasing same rising) near (omega (arith, two, ap length same)) few));
          times = h.times;
          indexes = same;
        }

    pub finish_none : FaultsLaw → c.falls ≡ false → length c.flux.indexes < 2 → (block : ℕ)
        → block ≡ blocks_before c.flux.times (length c.flux.times) + length c.flux.indexes + 1
        → first_fault (stream_of q values durations) ≡ Some (block, NoTurn)
    finish_none law rises small block is =
        let same : c.flux.indexes ≡ xs = subst (AreKept xs c.flux.indexes) rises h.indexes in
        (law ts xs sorted (moments-climb q durations) near few).none (subst IsStrictlyIncreasing same rising) (omega (arith, small, ap length same))
        ∙ ap (λ n. Some (n, NoTurn)) (omega (arith, is, ap length same, ap (λ l. blocks_before l (length l)) h.times))

    pub finish_order : FaultsLaw → c.falls ≡ true → (block : ℕ)
        → block ≡ blocks_before c.flux.times (passed_by c.flux.times (last_in c.flux.indexes)) + length c.flux.indexes
        → first_fault (stream_of q values durations) ≡ Some (block, IndexOrder)
    finish_order law falls block is =
        let kept : List ℕ = c.flux.indexes in
        let are : AreKept xs kept true = subst (AreKept xs kept) falls h.indexes in
        let k : ℕ = length kept - 1 in
        let next : k + 1 ≡ length kept = omega (arith, are.1) in
        let at : (i : ℕ) → i < length kept → get_or kept i 0 ≡ get_or xs i 0 = λ i low.
        ap (λ l. get_or l i 0) are.0 ∙ get_or-take (length kept) xs i 0 low in
        let down : get_or xs (k + 1) 0 ≤ get_or xs k 0 = omega (arith, are.3, ap (λ i. get_or xs i 0) next) in
        let up = moments-climb q durations k (k + 1) 0 (omega arith) (omega (arith, next, are.2)) in
        let last : get_or xs (k + 1) 0 ≡ last_in kept = omega (arith, down, up, at k (omega (arith, next))) in
        (law ts xs sorted (moments-climb q durations) near few).order k (omega (arith, next, are.2)) down
        (λ j low. omega (
          arith,
          rising j (omega (arith, low, next)),
          at j (omega (arith, low, next)),
          at (j + 1) (omega (arith, low, next)),
        ))
        ∙ ap (λ n. Some (n, IndexOrder)) (omega (
          arith,
          is,
          next,
          ap (λ x. blocks_before ts (passed_by ts x)) last,
          ap (λ l. blocks_before l (passed_by l (last_in kept))) h.times,
        ))

-- what the value's entries come to does not fall
transitions_from-late : (q u : ℕ) (values : List ℕ) → All (λ x. ticks_of q u ≤ x) (transitions_from q u values)
transitions_from-late q u [] = All-nil (λ x. ticks_of q u ≤ x)
transitions_from-late q u (v ∷ vs) =
    let next : ticks_of q u ≤ ticks_of q (u + entry_units v) = ticks_of-le q u (u + entry_units v) (omega arith) in
    let rest = All-weaker (λ x. ticks_of q (u + entry_units v) ≤ x) (λ x. ticks_of q u ≤ x) (λ x late. omega (arith, next, late))
    (transitions_from q (u + entry_units v) vs) (transitions_from-late q (u + entry_units v) vs) in
    first (nat_lt 0 v) next rest
  where
    first : (b : Bool) → ticks_of q u ≤ ticks_of q (u + entry_units v) → All (λ x. ticks_of q u ≤ x) (transitions_from q (u + entry_units v) vs)
        → All (λ x. ticks_of q u ≤ x) (cons_option (if b then Some (ticks_of q (u + entry_units v)) else None) (transitions_from q (u + entry_units v) vs))
    first true next rest = All-cons (λ x. ticks_of q u ≤ x) (ticks_of q (u + entry_units v)) (transitions_from q (u + entry_units v) vs) next rest
    first false next rest = rest

climbs-cons : (t : ℕ) (ts : List ℕ) → All (λ x. t ≤ x) ts → IsNonDecreasing ts → IsNonDecreasing (t ∷ ts)
climbs-cons t ts late climbs zero zero d order inside = omega arith
climbs-cons t ts late climbs zero (suc j) d order inside = late j d (omega (arith, inside))
climbs-cons t ts late climbs (suc i) zero d order inside = absurd (omega (arith, order))
climbs-cons t ts late climbs (suc i) (suc j) d order inside = climbs i j d (omega (arith, order)) (omega (arith, inside))

transitions_from-climb : (q u : ℕ) (values : List ℕ) → IsNonDecreasing (transitions_from q u values)
transitions_from-climb q u [] = λ i j d order inside. absurd (omega (arith, inside))
transitions_from-climb q u (v ∷ vs) =
    first (nat_lt 0 v) (transitions_from-late q (u + entry_units v) vs) (transitions_from-climb q (u + entry_units v) vs)
  where
    first : (b : Bool) → All (λ x. ticks_of q (u + entry_units v) ≤ x) (transitions_from q (u + entry_units v) vs)
        → IsNonDecreasing (transitions_from q (u + entry_units v) vs)
        → IsNonDecreasing (cons_option (if b then Some (ticks_of q (u + entry_units v)) else None) (transitions_from q (u + entry_units v) vs))
    first true late climbs = climbs-cons (ticks_of q (u + entry_units v)) (transitions_from q (u + entry_units v) vs) late climbs
    first false late climbs = climbs

pub reads_back : ReadsLaw → (q : ℕ) (values durations : List ℕ) → is_too_long_of q values durations ≡ false
    → IsStrictlyIncreasing (moments q durations) → 2 ≤ length (moments q durations)
    → IsStreamOf (stream_of q values durations) (transitions q values) (moments q durations)
reads_back law q values durations within rising two =
    let early : last_in (moments q durations) < 4294967296 = grind (arith, nat_tests, within) in
    let few : length (stream_of_capture (transitions q values) (moments q durations)) ≤ 4194304 = grind (arith, nat_tests, within) in
    law (transitions q values) (moments q durations)
    (subst IsNonDecreasing (sym (transitions-from q values)) (transitions_from-climb q 0 values)) rising
    (climbing-below (moments q durations) 4294967296 (moments-climb q durations) early) two few
