-- The names of a track by the heads that they name.
use Rattle.std.proofs.Common.{◌≡◌, ◌<◌, ◌≤◌, ◌⊎◌, ◌↔◌, ◌+◌, ◌∙◌, ℕ, Bool, true, false, List, length, refl, sym, ap, subst, inl, inr, arith}
use Rattle.std.specs.Prelude.{◌&&◌, ◌||◌, nat_eq, nat_lt}
use Rattle.std.proofs.lemmas.Bool.{and_from, and_parts, cases_lt, eq-eqb, eqb-true, ltb-true, or_cases, or_left, or_right}
use Rattle.flux_base.specs.declared.track.TrackId.{TrackId}
use Rattle.ibm_disks.specs.Numbers.{code_of}
use Rattle.ibm_disks.specs.declared.rate.Rate.{Rate}
use Rattle.ibm_disks.specs.declared.sector_size.SectorSize.{SectorSize}
use Rattle.ibm_disks.specs.declared.sector_size.SectorSize.TheVariants.{Bytes128, Bytes256, Bytes512, Bytes1024}
use Rattle.told_disks.specs.Names.{HasAny, has}
use Rattle.told_disks.specs.declared.heads.NamedHeads.{NamedHeads}
use Rattle.told_disks.specs.declared.heads.NamedHeads.TheVariants.{Changed, First, Own}
use Rattle.dump_numbers.specs.OwnNames.{HasName, HasNameAt, HasOtherName, other_head}
use Rattle.dump_numbers.specs.declared.heads.HeadNames.{HeadNames}
use Rattle.dump_numbers.specs.inside.Headed.{AreHeadNames, names_at}
use Rattle.dump_numbers.proofs.Walks.{one_code}

no : false ≡ true → ⊥
no e = cc

-- a set has no number of 256 or more
has_low : (set : List Bool) (size : SectorSize) (number : ℕ) → has set size number ≡ true → number < 256
unfolding has
has_low set size number is = ltb-true number 256 ((and_parts (nat_lt number 256) _ is).0)

-- The numbers below a number that one set has of a size were added to another.
abbrev pub IsAddedTo : (size : SectorSize) → (from old new : List Bool) → (number : ℕ) → Type 0
IsAddedTo size from old new number = (s : SectorSize) (n : ℕ)
    → (has new s n ≡ true) ↔ ((has old s n ≡ true) ⊎ ((s ≡ size) × (n < number) × (has from s n ≡ true)))

module _ (size : SectorSize) (from old : List Bool) where
  pub added_none : IsAddedTo size from old old 0
  added_none s n = (λ is. inl is, back)
    where
      back : (has old s n ≡ true) ⊎ ((s ≡ size) × (n < 0) × (has from s n ≡ true)) → has old s n ≡ true
      back (inl is) = is
      back (inr more) = absurd (let below = more.1 in omega (arith, below))

  module _ (mid : List Bool) (number : ℕ) (added : IsAddedTo size from old mid number) where
    pub added_past : has from size number ≡ false → IsAddedTo size from old mid (number + 1)
    added_past none s n = (λ is. there ((added s n).0 is), back)
      where
        there : (has old s n ≡ true) ⊎ ((s ≡ size) × (n < number) × (has from s n ≡ true)) → (has old s n ≡ true) ⊎ ((s ≡ size) × (n < number + 1) × (has from s n ≡ true))
        there (inl is) = inl is
        there (inr more) = inr (more.0, (let below = more.1 in omega (arith, below)), more.2)

        late : (same : s ≡ size) (is : has from s n ≡ true) → n < number + 1 → (n < number) ⊎ (number ≤ n) → has mid s n ≡ true
        late same is below (inl early) = (added s n).1 (inr (same, early, is))
        late same is below (inr past) =
            let at : n ≡ number = omega (arith, below, past) in
            absurd (no (sym none ∙ ap (has from size) (sym at) ∙ ap (λ (k : SectorSize). has from k n) (sym same) ∙ is))

        back : (has old s n ≡ true) ⊎ ((s ≡ size) × (n < number + 1) × (has from s n ≡ true)) → has mid s n ≡ true
        back (inl is) = (added s n).1 (inl is)
        back (inr more) = late more.0 more.2 more.1 (cases_lt n number)

    pub added_one : (new : List Bool) → has from size number ≡ true
        → ((s : SectorSize) (n : ℕ) → has new s n ≡ ((nat_eq (code_of s) (code_of size) && nat_eq n number) || has mid s n)) → IsAddedTo size from old new (number + 1)
    added_one new one says s n = (λ is. there (or_cases (nat_eq (code_of s) (code_of size) && nat_eq n number) (has mid s n) (sym (says s n) ∙ is)), back)
      where
        before : (has old s n ≡ true) ⊎ ((s ≡ size) × (n < number) × (has from s n ≡ true)) → (has old s n ≡ true) ⊎ ((s ≡ size) × (n < number + 1) × (has from s n ≡ true))
        before (inl is) = inl is
        before (inr more) = inr (more.0, (let below = more.1 in omega (arith, below)), more.2)

        there : ((nat_eq (code_of s) (code_of size) && nat_eq n number) ≡ true) ⊎ (has mid s n ≡ true) → (has old s n ≡ true) ⊎ ((s ≡ size) × (n < number + 1) × (has from s n ≡ true))
        there (inr is) = before ((added s n).0 is)
        there (inl both) =
            let parts = and_parts (nat_eq (code_of s) (code_of size)) (nat_eq n number) both in
            let same = one_code s size (eqb-true (code_of s) (code_of size) parts.0) in
            let at = eqb-true n number parts.1 in
            inr (same, omega (arith, at), ap (has from s) at ∙ ap (λ (k : SectorSize). has from k number) same ∙ one)

        kept : has mid s n ≡ true → has new s n ≡ true
        kept is = says s n ∙ or_right (nat_eq (code_of s) (code_of size) && nat_eq n number) (has mid s n) is

        late : (same : s ≡ size) (is : has from s n ≡ true) → n < number + 1 → (n < number) ⊎ (number ≤ n) → has new s n ≡ true
        late same is below (inl early) = kept ((added s n).1 (inr (same, early, is)))
        late same is below (inr past) =
            let at : n ≡ number = omega (arith, below, past) in
            says s n ∙ or_left (nat_eq (code_of s) (code_of size) && nat_eq n number) (has mid s n)
            (and_from (nat_eq (code_of s) (code_of size)) (nat_eq n number) (eq-eqb (code_of s) (code_of size) (ap code_of same)) (eq-eqb n number at))

        back : (has old s n ≡ true) ⊎ ((s ≡ size) × (n < number + 1) × (has from s n ≡ true)) → has new s n ≡ true
        back (inl is) = kept ((added s n).1 (inl is))
        back (inr more) = late more.0 more.2 more.1 (cases_lt n number)

  pub added_all : (new : List Bool) → IsAddedTo size from old new 256 → (s : SectorSize) (n : ℕ) → (has new s n ≡ true) ↔ ((has old s n ≡ true) ⊎ ((s ≡ size) × (has from s n ≡ true)))
  added_all new added s n = (λ is. there ((added s n).0 is), λ either. (added s n).1 (back either))
    where
      there : (has old s n ≡ true) ⊎ ((s ≡ size) × (n < 256) × (has from s n ≡ true)) → (has old s n ≡ true) ⊎ ((s ≡ size) × (has from s n ≡ true))
      there (inl is) = inl is
      there (inr more) = inr (more.0, more.2)

      back : (has old s n ≡ true) ⊎ ((s ≡ size) × (has from s n ≡ true)) → (has old s n ≡ true) ⊎ ((s ≡ size) × (n < 256) × (has from s n ≡ true))
      back (inl is) = inl is
      back (inr more) = inr (more.0, has_low from s n more.1, more.1)

-- Those of a size were added of which another set has none.
abbrev pub AddsOnly : (own other : List Bool) → SectorSize → (old new : List Bool) → Type 0
AddsOnly own other size old new = (s : SectorSize) (n : ℕ)
    → (has new s n ≡ true) ↔ ((has old s n ≡ true) ⊎ ((s ≡ size) × (has other s n ≡ true) × (HasAny own s → ⊥)))

module _ (own other : List Bool) where
  pub only_all : (size : SectorSize) (old new : List Bool) → (HasAny own size → ⊥) → ((s : SectorSize) (n : ℕ) → (has new s n ≡ true) ↔ ((has old s n ≡ true) ⊎ ((s ≡ size) × (has other s n ≡ true))))
      → AddsOnly own other size old new
  only_all size old new none says s n = (λ is. there ((says s n).0 is), λ either. (says s n).1 (back either))
    where
      there : (has old s n ≡ true) ⊎ ((s ≡ size) × (has other s n ≡ true)) → (has old s n ≡ true) ⊎ ((s ≡ size) × (has other s n ≡ true) × (HasAny own s → ⊥))
      there (inl is) = inl is
      there (inr more) = inr (more.0, more.1, subst (λ (k : SectorSize). HasAny own k → ⊥) (sym more.0) none)

      back : (has old s n ≡ true) ⊎ ((s ≡ size) × (has other s n ≡ true) × (HasAny own s → ⊥)) → (has old s n ≡ true) ⊎ ((s ≡ size) × (has other s n ≡ true))
      back (inl is) = inl is
      back (inr more) = inr (more.0, more.1)

  pub only_kept : (size : SectorSize) (old : List Bool) → HasAny own size → AddsOnly own other size old old
  only_kept size old any s n = (λ is. inl is, back)
    where
      back : (has old s n ≡ true) ⊎ ((s ≡ size) × (has other s n ≡ true) × (HasAny own s → ⊥)) → has old s n ≡ true
      back (inl is) = is
      back (inr more) = absurd (more.2 (subst (HasAny own) (sym more.0) any))

  -- those of all sizes, added to none
  pub only_four : (a b c d e : List Bool) → ((s : SectorSize) (n : ℕ) → has a s n ≡ false) → AddsOnly own other Bytes128 a b → AddsOnly own other Bytes256 b c → AddsOnly own other Bytes512 c d
      → AddsOnly own other Bytes1024 d e → (s : SectorSize) (n : ℕ) → (has e s n ≡ true) ↔ ((has other s n ≡ true) × (HasAny own s → ⊥))
  only_four a b c d e none to_b to_c to_d to_e s n = (λ is. from_e ((to_e s n).0 is), back s)
    where
      from_b : (has a s n ≡ true) ⊎ ((s ≡ Bytes128) × (has other s n ≡ true) × (HasAny own s → ⊥)) → (has other s n ≡ true) × (HasAny own s → ⊥)
      from_b (inl is) = absurd (no (sym (none s n) ∙ is))
      from_b (inr more) = (more.1, more.2)

      from_c : (has b s n ≡ true) ⊎ ((s ≡ Bytes256) × (has other s n ≡ true) × (HasAny own s → ⊥)) → (has other s n ≡ true) × (HasAny own s → ⊥)
      from_c (inl is) = from_b ((to_b s n).0 is)
      from_c (inr more) = (more.1, more.2)

      from_d : (has c s n ≡ true) ⊎ ((s ≡ Bytes512) × (has other s n ≡ true) × (HasAny own s → ⊥)) → (has other s n ≡ true) × (HasAny own s → ⊥)
      from_d (inl is) = from_c ((to_c s n).0 is)
      from_d (inr more) = (more.1, more.2)

      from_e : (has d s n ≡ true) ⊎ ((s ≡ Bytes1024) × (has other s n ≡ true) × (HasAny own s → ⊥)) → (has other s n ≡ true) × (HasAny own s → ⊥)
      from_e (inl is) = from_d ((to_d s n).0 is)
      from_e (inr more) = (more.1, more.2)

      back : (size : SectorSize) → (has other size n ≡ true) × (HasAny own size → ⊥) → has e size n ≡ true
      back Bytes128 only = (to_e Bytes128 n).1 (inl ((to_d Bytes128 n).1 (inl ((to_c Bytes128 n).1 (inl ((to_b Bytes128 n).1 (inr (refl, only.0, only.1))))))))
      back Bytes256 only = (to_e Bytes256 n).1 (inl ((to_d Bytes256 n).1 (inl ((to_c Bytes256 n).1 (inr (refl, only.0, only.1))))))
      back Bytes512 only = (to_e Bytes512 n).1 (inl ((to_d Bytes512 n).1 (inr (refl, only.0, only.1))))
      back Bytes1024 only = (to_e Bytes1024 n).1 (inr (refl, only.0, only.1))

-- the names of a track by the heads that they name
module _ (rate : Rate) (own : TrackId) (times indexes : List ℕ) (cells : List Bool) (names : HeadNames) (other : List Bool)
    (own_are : (size : SectorSize) (number : ℕ) → (has names.own size number ≡ true) ↔ HasName rate own times indexes cells size number)
    (other_are : (size : SectorSize) (number : ℕ) → (has other size number ≡ true) ↔ HasName rate (other_head own) times indexes cells size number)
    (changed_are : (size : SectorSize) (number : ℕ) → (has names.changed size number ≡ true) ↔ ((has other size number ≡ true) × (HasAny names.own size → ⊥)))
    (full_own : length names.own ≡ 1024) (full_changed : length names.changed ≡ 1024) where
  changed_name : (size : SectorSize) (number : ℕ) → (has names.changed size number ≡ true) ↔ HasOtherName rate own times indexes cells size number
  changed_name size number = (there, back)
    where
      there : has names.changed size number ≡ true → HasOtherName rate own times indexes cells size number
      there is =
          let only = (changed_are size number).0 is in
          record { named = (other_are size number).0 only.0; alone = λ n name. only.1 (n, (own_are size n).1 name) }

      back : HasOtherName rate own times indexes cells size number → has names.changed size number ≡ true
      back name = (changed_are size number).1 ((other_are size number).1 name.named, λ any. name.alone any.0 ((own_are size any.0).0 any.1))

  pub on_first : own.head ≡ 0 → names.first ≡ names.own → AreHeadNames rate own times indexes cells names
  on_first at same = record { full = full; has_name = each }
    where
      full : (heads : NamedHeads) → length (names_at names heads) ≡ 1024
      full Own = full_own
      full First = ap length same ∙ full_own
      full Changed = full_changed

      first : (size : SectorSize) (number : ℕ) → (has names.first size number ≡ true) ↔ HasNameAt First rate own times indexes cells size number
      first size number = (λ is. inl (at, (own_are size number).0 (ap (λ (set : List Bool). has set size number) (sym same) ∙ is)), back)
        where
          back : HasNameAt First rate own times indexes cells size number → has names.first size number ≡ true
          back (inl name) = ap (λ (set : List Bool). has set size number) same ∙ (own_are size number).1 name.1
          back (inr name) = absurd (let above = name.0 in omega (arith, at, above))

      each : (heads : NamedHeads) (size : SectorSize) (number : ℕ) → (has (names_at names heads) size number ≡ true) ↔ HasNameAt heads rate own times indexes cells size number
      each Own = own_are
      each First = first
      each Changed = changed_name

  pub on_second : (own.head ≡ 0 → ⊥) → names.first ≡ names.changed → AreHeadNames rate own times indexes cells names
  on_second not same = record { full = full; has_name = each }
    where
      full : (heads : NamedHeads) → length (names_at names heads) ≡ 1024
      full Own = full_own
      full First = ap length same ∙ full_changed
      full Changed = full_changed

      first : (size : SectorSize) (number : ℕ) → (has names.first size number ≡ true) ↔ HasNameAt First rate own times indexes cells size number
      first size number = (λ is. inr (omega (arith, not), (changed_name size number).0 (ap (λ (set : List Bool). has set size number) (sym same) ∙ is)), back)
        where
          back : HasNameAt First rate own times indexes cells size number → has names.first size number ≡ true
          back (inl name) = absurd (not name.0)
          back (inr name) = ap (λ (set : List Bool). has set size number) same ∙ (changed_name size number).1 name.1

      each : (heads : NamedHeads) (size : SectorSize) (number : ℕ) → (has (names_at names heads) size number ≡ true) ↔ HasNameAt heads rate own times indexes cells size number
      each Own = own_are
      each First = first
      each Changed = changed_name
