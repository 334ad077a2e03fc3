-- What holds of streams by their numbers in an input holds of them by track and capture, and the other way round.
use Rattle.std.specs.Prelude.{◌≡◌, ◌<◌, ◌≤◌, ◌↔◌, ℕ, ◌+◌, ◌*◌, ◌/◌, ◌%◌, refl, suc, zero}
use Rattle.std.proofs.Common.{arith, ap, sym, subst, ◌∙◌, div-lt_iff_lt-mul, mod-lt, mul-le-mul_right}
use Rattle.std.proofs.lemmas.Nat.{mod-mul-add}
use Rattle.std.proofs.Math.Bridge.{le_prop}
use Rattle.std.proofs.Math.Nat.{div-eq_of_lt, mod-add-div', mul-add-div_right}

track_is : (count k q : ℕ) → q < count → (k * count + q) / count ≡ k
track_is count k q low =
    let none : q / count ≡ 0 = div-eq_of_lt low in
    let at : (k * count + q) / count ≡ k + q / count = mul-add-div_right (omega (arith, low)) k q in
    omega (arith, at, none)

number_is : (count i : ℕ) → i / count * count + i % count ≡ i
number_is count i = (let all = mod-add-div' i count in omega (arith, all))

number_below : (n count k q : ℕ) → k < n → q < count → k * count + q < n * count
number_below n count k q known low =
    let most : (k + 1) * count ≤ n * count = mul-le-mul_right count (omega (arith, known)) in
    let next : (k + 1) * count ≡ k * count + count = omega arith in
    omega (arith, most, next, low)

some_count : (n count i : ℕ) → i < n * count → 0 < count
some_count n zero i below = absurd (let none : n * zero ≡ 0 = omega arith in omega (arith, below, none))
some_count n (suc c) i below = omega arith

pub track_below : (n count i : ℕ) → i < n * count → i / count < n
track_below n count i below = (div-lt_iff_lt-mul {k = count} {x = i} {y = n} (some_count n count i below)).1 below

capture_below : (n count i : ℕ) → i < n * count → i % count < count
capture_below n count i below = mod-lt i (some_count n count i below)

-- Things of a stream and a track, spelled in two ways, with a fact of each, and one of each and a sector.
module _ (n count : ℕ) (A B : ℕ → ℕ → Type 0) (PA : (j k : ℕ) → A j k → Type 0) (PB : (j k : ℕ) → B j k → Type 0)
    (QA : (j k : ℕ) → A j k → ℕ → Type 0) (QB : (j k : ℕ) → B j k → ℕ → Type 0) where
  abbrev pub ByNumber : Type 0
  ByNumber = (i : ℕ) → i < n * count → A i (i / count)

  abbrev pub ByTrack : Type 0
  ByTrack = (k q : ℕ) → k < n → q < count → B (k * count + q) k

  -- a stream of a track has the fact, by its number, or by its track and capture
  abbrev SomeNumber : ByNumber → (k s : ℕ) → Type 0
  SomeNumber e k s = (i : ℕ) × (below : i < n * count) × (i / count ≡ k) × QA i (i / count) (e i below) s

  abbrev SomeTrack : ByTrack → (k s : ℕ) → Type 0
  SomeTrack c k s = (known : k < n) × (q : ℕ) × (low : q < count) × QB (k * count + q) k (c k q known low) s

  -- the facts of all are the same, and so are those of some
  pub record AreSame (e : ByNumber) (c : ByTrack) : Type 0 where
    pub all : ((i : ℕ) (below : i < n * count) → PA i (i / count) (e i below)) ↔ ((k q : ℕ) (known : k < n) (low : q < count) → PB (k * count + q) k (c k q known low))
    pub some : (k s : ℕ) → SomeNumber e k s ↔ SomeTrack c k s

  abbrev pub Same : (j k j' k' : ℕ) → A j k → B j' k' → Type 0
  Same j k j' k' a b = (PA j k a ↔ PB j' k' b) × ((s : ℕ) → QA j k a s ↔ QB j' k' b s)

  module _ (to : (j k : ℕ) → k < n → (a : A j k) → (b : B j k) × Same j k j k a b) (e : ByNumber) where
    abbrev at : (k q : ℕ) → ℕ
    at k q = k * count + q

    abbrev below_at : (k q : ℕ) → k < n → q < count → at k q < n * count
    below_at k q known low = number_below n count k q known low

    moved : (k q : ℕ) (known : k < n) (low : q < count)
        → (b : B (at k q) k) × Same (at k q) (at k q / count) (at k q) k (e (at k q) (below_at k q known low)) b
    moved k q known low =
        let i : ℕ = at k q in
        let below : i < n * count = below_at k q known low in
        subst (λ (m : ℕ). (b : B i m) × Same i (i / count) i m (e i below) b) (track_is count k q low) (to i (i / count) (track_below n count i below) (e i below))

    abbrev by_track : ByTrack
    by_track k q known low = (moved k q known low).0

    all_back : ((k q : ℕ) (known : k < n) (low : q < count) → PB (at k q) k (by_track k q known low)) → (i : ℕ) (below : i < n * count) → PA i (i / count) (e i below)
    all_back each i below =
        let k : ℕ = i / count in
        let q : ℕ = i % count in
        let known : k < n = track_below n count i below in
        let low : q < count = capture_below n count i below in
        let here : PA (at k q) (at k q / count) (e (at k q) (below_at k q known low)) = (moved k q known low).1.0.1 (each k q known low) in
        subst (λ (j : ℕ). (w : j < n * count) → PA j (j / count) (e j w)) (number_is count i)
        (λ w. subst (λ (v : at k q < n * count). PA (at k q) (at k q / count) (e (at k q) v)) (le_prop (below_at k q known low) w) here) below

    some_forth : (k s : ℕ) → SomeNumber e k s → SomeTrack by_track k s
    some_forth k s some =
        let i : ℕ = some.0 in
        let q : ℕ = i % count in
        let known : k < n = subst (λ (m : ℕ). m < n) some.2 (track_below n count i some.1) in
        let low : q < count = capture_below n count i some.1 in
        let same : i ≡ at k q = sym (ap (λ (m : ℕ). m * count + q) (sym some.2) ∙ number_is count i) in
        let there : QA (at k q) (at k q / count) (e (at k q) (below_at k q known low)) s =
        subst (λ (j : ℕ). (w : j < n * count) → QA j (j / count) (e j w) s) same
        (λ w. subst (λ (v : i < n * count). QA i (i / count) (e i v) s) (le_prop some.1 w) some.3) (below_at k q known low) in
        (known, q, low, ((moved k q known low).1.1 s).0 there)

    pub forth : (c : ByTrack) × AreSame e c
    forth = (
      by_track,
      record {
        all = (λ each k q known low. (moved k q known low).1.0.0 (each (at k q) (below_at k q known low)), all_back);
        some = λ k s. (
          some_forth k s,
          λ some. (at k some.1, below_at k some.1 some.0 some.2, track_is count k some.1 some.2, ((moved k some.1 some.0 some.2).1.1 s).1 some.3),
        );
      },
    )

  module _ (of : (j k : ℕ) → k < n → (b : B j k) → (a : A j k) × Same j k j k a b) (c : ByTrack) where
    move : (S : (k q : ℕ) → k < n → q < count → Type 0) (k' k q' q : ℕ) → k' ≡ k → q' ≡ q → (known' : k' < n) (low' : q' < count) (known : k < n) (low : q < count)
        → S k' q' known' low' → S k q known low
    move S k' k q' q same same' known' low' known low is =
        let first : S k q' known low' =
        subst (λ (m : ℕ). (w : m < n) → S m q' w low') same (λ w. subst (λ (v : k' < n). S k' q' v low') (le_prop known' w) is) known in
        subst (λ (m : ℕ). (w : m < count) → S k m known w) same' (λ w. subst (λ (v : q' < count). S k q' known v) (le_prop low' w) first) low

    track : (i : ℕ) → i < n * count → i / count < n
    track i below = track_below n count i below

    capture : (i : ℕ) → i < n * count → i % count < count
    capture i below = capture_below n count i below

    moved' : (i : ℕ) (below : i < n * count)
        → (a : A i (i / count)) × Same i (i / count) (i / count * count + i % count) (i / count) a (c (i / count) (i % count) (track i below) (capture i below))
    moved' i below =
        let k : ℕ = i / count in
        let q : ℕ = i % count in
        subst (λ (j : ℕ). (a : A j k) × Same j k (k * count + q) k a (c k q (track i below) (capture i below))) (number_is count i)
        (of (k * count + q) k (track i below) (c k q (track i below) (capture i below)))

    abbrev by_number : ByNumber
    by_number i below = (moved' i below).0

    capture_is : (k q : ℕ) → q < count → (k * count + q) % count ≡ q
    capture_is k q low = mod-mul-add k count q low

    pub back : (e : ByNumber) × AreSame e c
    back = (
      by_number,
      record {
        all = (
          λ each k q known low.
              let i : ℕ = k * count + q in
              let below : i < n * count = number_below n count k q known low in
              move (λ k q known low. PB (k * count + q) k (c k q known low)) (i / count) k (i % count) q (track_is count k q low) (capture_is k q low)
              (track i below) (capture i below) known low ((moved' i below).1.0.0 (each i below)),
          λ each i below. (moved' i below).1.0.1 (each (i / count) (i % count) (track i below) (capture i below)),
        );
        some = λ k s. (
          λ some.
              let i : ℕ = some.0 in
              let below : i < n * count = some.1 in
              let known : k < n = subst (λ (m : ℕ). m < n) some.2 (track i below) in (
                known,
                i % count,
                capture i below,
                move (λ k q known low. QB (k * count + q) k (c k q known low) s) (i / count) k (i % count) (i % count) some.2 refl
                    (track i below) (capture i below) known (capture i below) (((moved' i below).1.1 s).0 some.3),
              ),
          λ some.
              let q : ℕ = some.1 in
              let i : ℕ = k * count + q in
              let below : i < n * count = number_below n count k q some.0 some.2 in (
                i,
                below,
                track_is count k q some.2,
                ((moved' i below).1.1 s).1
                    (move (λ k q known low. QB (k * count + q) k (c k q known low) s) k (i / count) q (i % count) (sym (track_is count k q some.2)) (sym (capture_is k q some.2))
                    some.0 some.2 (track i below) (capture i below) some.3),
              ),
        );
      },
    )
