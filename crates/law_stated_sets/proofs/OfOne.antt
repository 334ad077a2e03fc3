-- A set of one capture of each track is a disk of one stream of each.
use Rattle.std.specs.Prelude.{◌≡◌, ◌<◌, ◌↔◌, ℕ, ◌*◌, ◌/◌, List, length, refl}
use Rattle.std.proofs.Common.{arith, sym, subst, ◌∙◌}
use Rattle.std.proofs.Math.Bridge.{le_prop}
use Rattle.flux_engine.specs.Rings.{nominal_of, ring_of}
use Rattle.law_stated_captures.specs.Streams.{IsStatedSteady, IsStatedSteadyErased, StatedCapture, StatedErasedCapture}
use Rattle.law_stated_disks.specs.Joined.{StandInOrder}
use Rattle.law_stated_disks.specs.Lies.{LiesInAPiece}
use Rattle.law_stated_sets.specs.Laws.{StatedDisksAreSets, StatedErasedDisksAreSets, StatedErasedSetsAreDisks, StatedSetsAreDisks}
use Rattle.sector_images.specs.Places.{tracks}
use Rattle.sector_images.specs.declared.format.Format.{Format}

by_one : (i : ℕ) → i / 1 ≡ i
by_one i = omega arith

as_many : (n : ℕ) → n * 1 ≡ n
as_many n = omega arith

-- Things of a stream and a track, with a fact of each, and one of each and a sector.
module _ (n : ℕ) (A : ℕ → ℕ → Type 0) (P : (j k : ℕ) → A j k → Type 0) (Q : (j k : ℕ) → A j k → ℕ → Type 0) where
  abbrev pub OnDisk : Type 0
  OnDisk = (k : ℕ) → k < n → A k k

  abbrev pub InSet : Type 0
  InSet = (i : ℕ) → i < n * 1 → A i (i / 1)

  abbrev Alike : (j k m : ℕ) → A j k → A j m → Type 0
  Alike j k m a b = (P j k a ↔ P j m b) × ((s : ℕ) → Q j k a s ↔ Q j m b s)

  abbrev AreAlike : OnDisk → InSet → Type 0
  AreAlike e c = (i : ℕ) (known : i < n) (below : i < n * 1) → Alike i i (i / 1) (e i known) (c i below)

  pub record AreSame (e : OnDisk) (c : InSet) : Type 0 where
    pub all : ((k : ℕ) (known : k < n) → P k k (e k known)) ↔ ((i : ℕ) (below : i < n * 1) → P i (i / 1) (c i below))
    pub some : (k s : ℕ) → ((known : k < n) × Q k k (e k known) s) ↔ ((i : ℕ) × (below : i < n * 1) × (i / 1 ≡ k) × Q i (i / 1) (c i below) s)

  known_of : (i : ℕ) → i < n * 1 → i < n
  known_of i below = subst (λ (m : ℕ). i < m) (as_many n) below

  below_of : (i : ℕ) → i < n → i < n * 1
  below_of i known = subst (λ (m : ℕ). i < m) (sym (as_many n)) known

  same : (e : OnDisk) (c : InSet) → AreAlike e c → AreSame e c
  same e c alike = record {
    all = (
      λ each i below. (alike i (known_of i below) below).0.0 (each i (known_of i below)),
      λ each k known. (alike k known (below_of k known)).0.1 (each k (below_of k known)),
    );
    some = λ k s. (
      λ has. (k, below_of k has.0, by_one k, ((alike k has.0 (below_of k has.0)).1 s).0 has.1),
      λ has.
          let i : ℕ = has.0 in
          let same : i ≡ k = sym (by_one i) ∙ has.2 in
          subst (λ (j : ℕ). (known : j < n) × Q j j (e j known) s) same
          (known_of i has.1, ((alike i (known_of i has.1) has.1).1 s).1 has.3),
    );
  }

  -- so it is with itself
  alike_self : (j k : ℕ) (a : A j k) → Alike j k k a a
  alike_self j k a = ((λ p. p, λ p. p), λ s. (λ q. q, λ q. q))

  moved : (e : OnDisk) (i : ℕ) (known : i < n) → (b : A i (i / 1)) × Alike i i (i / 1) (e i known) b
  moved e i known =
      subst (λ (m : ℕ). (b : A i m) × Alike i i m (e i known) b) (sym (by_one i)) (e i known, alike_self i i (e i known))

  pub forth : (e : OnDisk) → (c : InSet) × AreSame e c
  forth e =
      let c : InSet = λ i below. (moved e i (known_of i below)).0 in (
        c,
        same e c
            (λ i known below.
            subst (λ (w : i < n). Alike i i (i / 1) (e i w) (c i below)) (le_prop (known_of i below) known) (moved e i (known_of i below)).1),
      )

  moved_back : (c : InSet) (i : ℕ) (below : i < n * 1) → (a : A i i) × Alike i i (i / 1) a (c i below)
  moved_back c i below =
      subst (λ (m : ℕ). (a : A i m) × Alike i m (i / 1) a (c i below)) (by_one i) (c i below, alike_self i (i / 1) (c i below))

  pub back : (c : InSet) → (e : OnDisk) × AreSame e c
  back c =
      let e : OnDisk = λ k known. (moved_back c k (below_of k known)).0 in (
        e,
        same e c
            (λ i known below.
            subst (λ (w : i < n * 1). Alike i i (i / 1) (e i known) (c i w)) (le_prop (below_of i known) below) (moved_back c i (below_of i known)).1),
      )

-- what captures the ring of track number k, and what stands of it
module _ (format : Format) (image : List ℕ) (stream : ℕ → List ℕ) where
  abbrev Stated : ℕ → ℕ → Type 0
  Stated j k = StatedCapture (stream j) (ring_of format image k) (nominal_of format k)

  abbrev Steady : (j k : ℕ) → Stated j k → Type 0
  Steady j k one = IsStatedSteady (stream j) (ring_of format image k) (nominal_of format k) one

  abbrev Any : (j k : ℕ) → Stated j k → ℕ → Type 0
  Any j k one s = Unit {0}

  abbrev InPieces : ℕ → ℕ → Type 0
  InPieces j k = StatedErasedCapture (stream j) (ring_of format image k) (nominal_of format k)

  abbrev SteadyIn : (j k : ℕ) → InPieces j k → Type 0
  SteadyIn j k one = IsStatedSteadyErased (stream j) (ring_of format image k) (nominal_of format k) one

  abbrev Lies : (j k : ℕ) → InPieces j k → ℕ → Type 0
  Lies j k one s = LiesInAPiece format image k s one.pieces

abbrev count_of : Format → ℕ
count_of format = length (tracks format)

to_set : (format : Format) (stream : ℕ → List ℕ) (x : List ℕ) → StandInOrder (count_of format) stream x → StandInOrder (count_of format * 1) stream x
to_set format stream x stand = subst (λ (n : ℕ). StandInOrder n stream x) (sym (as_many (count_of format))) stand

to_disk : (format : Format) (stream : ℕ → List ℕ) (x : List ℕ) → StandInOrder (count_of format * 1) stream x → StandInOrder (count_of format) stream x
to_disk format stream x stand = subst (λ (n : ℕ). StandInOrder n stream x) (as_many (count_of format)) stand

pub disks_are_sets : StatedDisksAreSets
disks_are_sets format image x disk =
    let s : ℕ → List ℕ = disk.stream in
    let made = forth (count_of format) (Stated format image s) (Steady format image s) (Any format image s) disk.each in
    (record { stream = s; stand = to_set format s x disk.stand; each = made.0 }, refl, made.1.all)

pub sets_are_disks : StatedSetsAreDisks
sets_are_disks format image x set =
    let s : ℕ → List ℕ = set.stream in
    let made = back (count_of format) (Stated format image s) (Steady format image s) (Any format image s) set.each in
    (record { stream = s; stand = to_disk format s x set.stand; each = made.0 }, refl, made.1.all)

pub erased_disks_are_sets : StatedErasedDisksAreSets
erased_disks_are_sets format image x disk =
    let s : ℕ → List ℕ = disk.stream in
    let made = forth (count_of format) (InPieces format image s) (SteadyIn format image s) (Lies format image s) disk.each in (
      record { stream = s; stand = to_set format s x disk.stand; each = made.0 },
      refl,
      made.1.all,
      λ n sector. (
        λ has. (let some = (made.1.some n sector).0 (has.known, has.lies) in record { i = some.0; below = some.1; of = some.2; lies = some.3 }),
        λ has. (let some = (made.1.some n sector).1 (has.i, has.below, has.of, has.lies) in record { known = some.0; lies = some.1 }),
      ),
    )

pub erased_sets_are_disks : StatedErasedSetsAreDisks
erased_sets_are_disks format image x set =
    let s : ℕ → List ℕ = set.stream in
    let made = back (count_of format) (InPieces format image s) (SteadyIn format image s) (Lies format image s) set.each in (
      record { stream = s; stand = to_disk format s x set.stand; each = made.0 },
      refl,
      made.1.all,
      λ n sector. (
        λ has. (let some = (made.1.some n sector).0 (has.known, has.lies) in record { i = some.0; below = some.1; of = some.2; lies = some.3 }),
        λ has. (let some = (made.1.some n sector).1 (has.i, has.below, has.of, has.lies) in record { known = some.0; lies = some.1 }),
      ),
    )
