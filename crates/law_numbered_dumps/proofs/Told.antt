-- What the sets of a captured disk's tracks tell: each whole one has the numbers of its sectors, and no set has others.
use Rattle.std.proofs.Common.{◌≡◌, ◌<◌, ◌≤◌, ◌⊎◌, ◌+◌, ◌-◌, ◌*◌, ◌/◌, ◌%◌, ◌∙◌, ℕ, zero, suc, Bool, true, false, List, [], length, refl, sym, ap, subst, inl, inr, arith}
use Rattle.std.specs.Prelude.{count_by, nat_lt}
use Rattle.std.proofs.Math.Bool.{and-false}
use Rattle.std.proofs.lemmas.Bool.{cases_lt, false_from_ne_true}
use Rattle.std.proofs.lemmas.List.{get_or_past}
use Rattle.dump_numbers.specs.Sets.{track_number}
use Rattle.flux_base.specs.declared.track.TrackId.{TrackId}
use Rattle.ibm_disks.specs.declared.sector_size.SectorSize.{SectorSize}
use Rattle.told_disks.specs.Names.{Counts, HasCounted, count_of, has, set_at}
use Rattle.told_disks.specs.Told.{Tells}
use Rattle.track_rings.specs.Rings.{IsSectorNumber}
use Rattle.law_numbered_dumps.proofs.Counting.{count_none, pairs, tracks_in}

no : false ≡ true → ⊥
no e = cc

-- a set stands on a track of the list alone
pub is_there : (sets : List (List Bool)) (size : SectorSize) (track number : ℕ) → has (set_at sets track) size number ≡ true → track < length sets
unfolding has
is_there sets size track number is = by (cases_lt track (length sets))
  where
    by : (track < length sets) ⊎ (length sets ≤ track) → track < length sets
    by (inl low) = low
    by (inr past) =
        absurd (no (sym (and-false (nat_lt number 256)) ∙ ap (λ (set : List Bool). has set size number) (sym (get_or_past sets track [] past)) ∙ is))

abbrev pub Decided : Type 0 → Type 0
Decided A = A ⊎ (A → ⊥)

pub in_number : (first sectors number : ℕ) → Decided (IsSectorNumber first sectors number)
in_number first sectors number = by (cases_lt number first) (cases_lt number (first + sectors))
  where
    by : (number < first) ⊎ (first ≤ number) → (number < first + sectors) ⊎ (first + sectors ≤ number) → Decided (IsSectorNumber first sectors number)
    by (inl below) _ = inr (λ is. let least = is.least in omega (arith, below, least))
    by (inr least) (inl most) = inl (record { least = least; most = most })
    by (inr least) (inr past) = inr (λ is. let most = is.most in omega (arith, past, most))

-- a set has one of so many numbers
has_one : (set : List Bool) (size : SectorSize) (first sectors : ℕ) → Decided ((number : ℕ) × IsSectorNumber first sectors number × (has set size number ≡ true))
has_one set size first zero = inr (λ one. let least = one.1.least in let most = one.1.most in omega (arith, least, most))
has_one set size first (suc sectors) = by (has_one set size first sectors) (has set size (first + sectors)) refl
  where
    by : Decided ((number : ℕ) × IsSectorNumber first sectors number × (has set size number ≡ true)) → (b : Bool) → has set size (first + sectors) ≡ b
        → Decided ((number : ℕ) × IsSectorNumber first (suc sectors) number × (has set size number ≡ true))
    by (inl one) b e = let most = one.1.most in inl (one.0, record { least = one.1.least; most = omega (arith, most) }, one.2)
    by (inr none) true e = inl (first + sectors, record { least = omega arith; most = omega arith }, e)
    by (inr none) false e =
        inr
        (λ one.
        last one (cases_lt one.0 (first + sectors)))
      where
        last : (one : (number : ℕ) × IsSectorNumber first (suc sectors) number × (has set size number ≡ true)) → (one.0 < first + sectors) ⊎ (first + sectors ≤ one.0) → ⊥
        last one (inl before) = none (one.0, record { least = one.1.least; most = before }, one.2)
        last one (inr past) =
            let most = one.1.most in
            let at : one.0 ≡ first + sectors = omega (arith, past, most) in
            no (sym e ∙ ap (has set size) (sym at) ∙ one.2)

-- of the tracks below a number that have something, one lies furthest
furthest : (P : ℕ → Type 0) (far : ℕ → ℕ) → ((k : ℕ) → Decided (P k)) → (to : ℕ)
    → ((k : ℕ) × P k × ((u : ℕ) → u < to → P u → far u ≤ far k)) ⊎ ((k : ℕ) → k < to → P k → ⊥)
furthest P far decide zero = inr (λ k low is. omega (arith, low))
furthest P far decide (suc to) = by (furthest P far decide to) (decide to)
  where
    below : (u : ℕ) → u < suc to → (u < to) ⊎ (u ≡ to)
    below u low = at (cases_lt u to)
      where
        at : (u < to) ⊎ (to ≤ u) → (u < to) ⊎ (u ≡ to)
        at (inl early) = inl early
        at (inr past) = inr (omega (arith, low, past))

    by : ((k : ℕ) × P k × ((u : ℕ) → u < to → P u → far u ≤ far k)) ⊎ ((k : ℕ) → k < to → P k → ⊥) → Decided (P to)
        → ((k : ℕ) × P k × ((u : ℕ) → u < suc to → P u → far u ≤ far k)) ⊎ ((k : ℕ) → k < suc to → P k → ⊥)
    by (inr none) (inr out) = inr (λ k low is. neither k (below k low) is)
      where
        neither : (k : ℕ) → (k < to) ⊎ (k ≡ to) → P k → ⊥
        neither k (inl early) is = none k early is
        neither k (inr same) is = out (subst P same is)
    by (inr none) (inl is) = inl (to, is, λ u low there. only u (below u low) there)
      where
        only : (u : ℕ) → (u < to) ⊎ (u ≡ to) → P u → far u ≤ far to
        only u (inl early) there = absurd (none u early there)
        only u (inr same) there = let e : far u ≡ far to = ap far same in omega (arith, e)
    by (inl (k, is, most)) (inr out) = inl (k, is, λ u low there. still u (below u low) there)
      where
        still : (u : ℕ) → (u < to) ⊎ (u ≡ to) → P u → far u ≤ far k
        still u (inl early) there = most u early there
        still u (inr same) there = absurd (out (subst P same there))
    by (inl (k, is, most)) (inl here) = further (cases_lt (far k) (far to))
      where
        further : (far k < far to) ⊎ (far to ≤ far k) → ((k : ℕ) × P k × ((u : ℕ) → u < suc to → P u → far u ≤ far k)) ⊎ ((k : ℕ) → k < suc to → P k → ⊥)
        further (inl less) = inl (to, here, λ u low there. at u (below u low) there)
          where
            at : (u : ℕ) → (u < to) ⊎ (u ≡ to) → P u → far u ≤ far to
            at u (inl early) there = let before = most u early there in omega (arith, before, less)
            at u (inr same) there = let e : far u ≡ far to = ap far same in omega (arith, e)
        further (inr past) = inl (k, is, λ u low there. at u (below u low) there)
          where
            at : (u : ℕ) → (u < to) ⊎ (u ≡ to) → P u → far u ≤ far k
            at u (inl early) there = most u early there
            at u (inr same) there = let e : far u ≡ far to = ap far same in omega (arith, e, past)

-- a track of so many cylinders and heads
abbrev pub IsWithin : (cylinders heads track : ℕ) → Type 0
IsWithin cylinders heads track = (track / 2 < cylinders) × (track % 2 < heads)

-- Each whole track within these cylinders and heads has these numbers, nothing else stands, and a quarter of the tracks is whole.
pub record AreSetsOfPart (sets : List (List Bool)) (size : SectorSize) (cylinders heads first sectors : ℕ) (whole : TrackId → Bool) : Type 0 where
  pub some_heads : 1 ≤ heads
  pub few_heads : heads ≤ 2
  pub some_sectors : 1 ≤ sectors
  pub some_tracks : 0 < length (tracks_in cylinders heads)
  pub long : 2 * cylinders ≤ length sets
  pub only : (track : ℕ) → track < length sets → (number : ℕ) → has (set_at sets track) size number ≡ true → IsWithin cylinders heads track × IsSectorNumber first sectors number
  pub whole_has : (track : ℕ) → IsWithin cylinders heads track → whole (track_number track) ≡ true → (number : ℕ) → IsSectorNumber first sectors number
      → has (set_at sets track) size number ≡ true
  pub quarter : length (tracks_in cylinders heads) ≤ 4 * count_by whole (tracks_in cylinders heads)

module _ (sets : List (List Bool)) (size : SectorSize) (cylinders heads first sectors : ℕ) (whole : TrackId → Bool) (are : AreSetsOfPart sets size cylinders heads first sectors whole) where
  abbrev tracks : List TrackId
  tracks = tracks_in cylinders heads

  some_number : IsSectorNumber first sectors first
  some_number = let some = are.some_sectors in record { least = omega arith; most = omega (arith, some) }

  between : (number : ℕ) → IsSectorNumber first sectors number → (count_by whole tracks ≤ count_of sets size number) × (count_of sets size number ≤ length tracks)
  between number is =
      pairs whole size number heads are.some_heads are.few_heads cylinders 0 sets are.long (λ k low here. (are.only k low number here).0)
      (λ k row side here.
      let at : 0 + k / 2 ≡ k / 2 = omega arith in
      are.whole_has k (row, side) (ap (λ (c : ℕ). whole (record { cylinder = c; head = k % 2 })) (sym at) ∙ here) number is)

  none : (number : ℕ) → (IsSectorNumber first sectors number → ⊥) → count_of sets size number ≡ 0
  none number out =
      count_none size sets number (λ track low. false_from_ne_true (has (set_at sets track) size number) (λ is. out (are.only track low number is).1))

  -- its sectors' numbers count, and no other
  counts : (number : ℕ) → IsSectorNumber first sectors number → Counts sets size number
  counts number is = record {
    some = (let least = (between number is).0 in let quarter = are.quarter in let some = are.some_tracks in omega (arith, least, quarter, some));
    often = λ other. by other (in_number first sectors other);
  }
    where
      by : (other : ℕ) → Decided (IsSectorNumber first sectors other) → count_of sets size other ≤ 4 * count_of sets size number
      by other (inl within) =
          let most = (between other within).1 in let least = (between number is).0 in let quarter = are.quarter in omega (arith, most, least, quarter)
      by other (inr out) = let zero = none other out in omega (arith, zero)

  counts_only : (number : ℕ) → Counts sets size number → IsSectorNumber first sectors number
  counts_only number has_count = by (in_number first sectors number)
    where
      by : Decided (IsSectorNumber first sectors number) → IsSectorNumber first sectors number
      by (inl is) = is
      by (inr out) = absurd (let zero = none number out in let some = has_count.some in omega (arith, zero, some))

  -- a track has one that counts
  counted : (track : ℕ) → Decided (HasCounted sets size track)
  counted track = by (has_one (set_at sets track) size first sectors)
    where
      by : Decided ((number : ℕ) × IsSectorNumber first sectors number × (has (set_at sets track) size number ≡ true)) → Decided (HasCounted sets size track)
      by (inl one) = inl (one.0, counts one.0 one.1, one.2)
      by (inr out) = inr (λ one. out (one.0, counts_only one.0 one.1, one.2))

  pub counted_within : (track : ℕ) → HasCounted sets size track → IsWithin cylinders heads track
  counted_within track one = (are.only track (is_there sets size track one.0 one.2) one.0 one.2).0

  pub whole_counted : (track : ℕ) → IsWithin cylinders heads track → whole (track_number track) ≡ true → HasCounted sets size track
  whole_counted track within is = (first, counts first some_number, are.whole_has track within is first some_number)

  -- and one of them lies furthest
  far_track : (far : ℕ → ℕ) → (k : ℕ) × HasCounted sets size k × ((u : ℕ) → HasCounted sets size u → far u ≤ far k)
  far_track far = by (furthest (HasCounted sets size) far counted (length sets))
    where
      by : ((k : ℕ) × HasCounted sets size k × ((u : ℕ) → u < length sets → HasCounted sets size u → far u ≤ far k)) ⊎ ((k : ℕ) → k < length sets → HasCounted sets size k → ⊥)
          → (k : ℕ) × HasCounted sets size k × ((u : ℕ) → HasCounted sets size u → far u ≤ far k)
      by (inl (k, is, most)) = (k, is, λ u there. most u (is_there sets size u there.0 there.2) there)
      by (inr out) =
          absurd
          (let zero = count_none size sets first (λ track low. false_from_ne_true (has (set_at sets track) size first) (λ is. out track low (first, counts first some_number, is))) in
          let some = (counts first some_number).some in
          omega (arith, zero, some))

  pub far_row : (k : ℕ) × HasCounted sets size k × ((u : ℕ) → HasCounted sets size u → u / 2 ≤ k / 2)
  far_row = far_track (λ k. k / 2)

  pub far_side : (k : ℕ) × HasCounted sets size k × ((u : ℕ) → HasCounted sets size u → u % 2 ≤ k % 2)
  far_side = far_track (λ k. k % 2)

  pub tells : Tells sets size (record { first = first; last = first + sectors - 1; cylinders = far_row.0 / 2 + 1; heads = far_side.0 % 2 + 1 })
  tells = record {
    first = counts first some_number;
    last = counts (first + sectors - 1) (let some = are.some_sectors in record { least = omega (arith, some); most = omega (arith, some) });
    within = λ number has_count. (
      (counts_only number has_count).least,
      (let most = (counts_only number has_count).most in omega (arith, most)),
    );
    cylinder = (far_row.0, far_row.1, refl);
    head = (far_side.0, far_side.1, refl);
    reach = λ track one. (
      (let most = far_row.2 track one in omega (arith, most)),
      (let most = far_side.2 track one in omega (arith, most)),
    );
  }
