-- The walk over the headers of a track, which adds the numbers of own names with whole data to a set.
use Rattle.std.proofs.Common.{◌≡◌, ◌≢◌, ◌<◌, ◌≤◌, ◌⊎◌, ◌↔◌, ◌+◌, ℕ, Bool, true, false, List, Some, None, drop, refl, sym, ap, subst, ◌∙◌, inl, inr, arith}
use Rattle.std.specs.Prelude.{◌&&◌, ◌||◌, nat_eq}
use Rattle.std.proofs.lemmas.Bool.{and_from, and_parts, cases_lt, eq-eqb, eqb-true, or_cases, or_left, or_right}
use Rattle.disk_recordings.specs.Members.{named_at}
use Rattle.flux_base.specs.declared.header_name.HeaderName.{HeaderName}
use Rattle.flux_base.specs.declared.header_name.HeaderName.TheVariants.{Address}
use Rattle.flux_base.specs.declared.track.TrackId.{TrackId}
use Rattle.frame_law.specs.Controller.{FirstAt}
use Rattle.ibm_disks.specs.Numbers.{code_of}
use Rattle.ibm_disks.specs.declared.rate.Rate.{Rate}
use Rattle.ibm_disks.specs.declared.sector_size.SectorSize.{SectorSize}
use Rattle.ibm_disks.specs.declared.sector_size.SectorSize.TheVariants.{Bytes128, Bytes256, Bytes512, Bytes1024}
use Rattle.told_disks.specs.Names.{has}
use Rattle.dump_numbers.specs.OwnNames.{HasName, HasWholeAt}
use Rattle.dump_numbers.specs.Rates.{format_with_one}
use Rattle.dump_numbers.specs.inside.Walked.{AddsName, IsAdded, name_of}

-- a code is one size's
pub one_code : (a b : SectorSize) → code_of a ≡ code_of b → a ≡ b
one_code Bytes128 Bytes128 same = refl
one_code Bytes128 Bytes256 same = absurd (omega (arith, same))
one_code Bytes128 Bytes512 same = absurd (omega (arith, same))
one_code Bytes128 Bytes1024 same = absurd (omega (arith, same))
one_code Bytes256 Bytes128 same = absurd (omega (arith, same))
one_code Bytes256 Bytes256 same = refl
one_code Bytes256 Bytes512 same = absurd (omega (arith, same))
one_code Bytes256 Bytes1024 same = absurd (omega (arith, same))
one_code Bytes512 Bytes128 same = absurd (omega (arith, same))
one_code Bytes512 Bytes256 same = absurd (omega (arith, same))
one_code Bytes512 Bytes512 same = refl
one_code Bytes512 Bytes1024 same = absurd (omega (arith, same))
one_code Bytes1024 Bytes128 same = absurd (omega (arith, same))
one_code Bytes1024 Bytes256 same = absurd (omega (arith, same))
one_code Bytes1024 Bytes512 same = absurd (omega (arith, same))
one_code Bytes1024 Bytes1024 same = refl

module _ (rate : Rate) (own : TrackId) (times indexes : List ℕ) (cells : List Bool) where
  module _ (place : ℕ) (name : HeaderName) where
    -- the name is no own one
    pub adds_none : (set : List Bool) → ((size : SectorSize) (number : ℕ) → name ≢ name_of own size number) → AddsName rate own times indexes cells place name set set
    adds_none set none size number = (λ is. inl is, λ either. by either)
      where
        by : (has set size number ≡ true) ⊎ IsAdded rate own times indexes cells place name size number → has set size number ≡ true
        by (inl is) = is
        by (inr added) = absurd (none size number added.named)

    module _ (size : SectorSize) (number : ℕ) (low : number < 256) (is : name ≡ name_of own size number) where
      same_number : (other : SectorSize) (n : ℕ) → name ≡ name_of own other n → n ≡ number
      same_number other n named = by (sym named ∙ is)
        where
          by : Address own.cylinder own.head n (code_of other) ≡ Address own.cylinder own.head number (code_of size) → n ≡ number
          by e = cc

      same_size : (other : SectorSize) (n : ℕ) → name ≡ name_of own other n → other ≡ size
      same_size other n named = one_code other size (by (sym named ∙ is))
        where
          by : Address own.cylinder own.head n (code_of other) ≡ Address own.cylinder own.head number (code_of size) → code_of other ≡ code_of size
          by e = cc

      -- it has no whole data
      pub adds_bare : (set : List Bool) → (HasWholeAt rate times indexes cells size place → ⊥) → AddsName rate own times indexes cells place name set set
      adds_bare set none other n = (λ is. inl is, λ either. by either)
        where
          by : (has set other n ≡ true) ⊎ IsAdded rate own times indexes cells place name other n → has set other n ≡ true
          by (inl is) = is
          by (inr added) = absurd (none (subst (λ (s : SectorSize). HasWholeAt rate times indexes cells s place) (same_size other n added.named) added.whole))

      -- it has
      pub adds_one : (old new : List Bool) → HasWholeAt rate times indexes cells size place
          → ((other : SectorSize) (n : ℕ) → has new other n ≡ ((nat_eq (code_of other) (code_of size) && nat_eq n number) || has old other n))
          → AddsName rate own times indexes cells place name old new
      adds_one old new whole says other n = (λ here. there (or_cases (nat_eq (code_of other) (code_of size) && nat_eq n number) (has old other n) (sym (says other n) ∙ here)), λ either. back either)
        where
          there : ((nat_eq (code_of other) (code_of size) && nat_eq n number) ≡ true) ⊎ (has old other n ≡ true)
              → (has old other n ≡ true) ⊎ IsAdded rate own times indexes cells place name other n
          there (inr before) = inl before
          there (inl both) =
              let parts = and_parts (nat_eq (code_of other) (code_of size)) (nat_eq n number) both in
              let size_is = one_code other size (eqb-true (code_of other) (code_of size) parts.0) in
              let number_is = eqb-true n number parts.1 in
              inr (record {
                low = omega (arith, low, number_is);
                named = is ∙ ap (λ (s : SectorSize). name_of own s number) (sym size_is) ∙ ap (name_of own other) (sym number_is);
                whole = subst (λ (s : SectorSize). HasWholeAt rate times indexes cells s place) (sym size_is) whole;
              })

          back : (has old other n ≡ true) ⊎ IsAdded rate own times indexes cells place name other n → has new other n ≡ true
          back (inl before) = says other n ∙ or_right (nat_eq (code_of other) (code_of size) && nat_eq n number) (has old other n) before
          back (inr added) =
              says other n
              ∙ or_left (nat_eq (code_of other) (code_of size) && nat_eq n number) (has old other n)
              (and_from (nat_eq (code_of other) (code_of size)) (nat_eq n number)
              (eq-eqb (code_of other) (code_of size) (ap code_of (same_size other n added.named))) (eq-eqb n number (same_number other n added.named)))

  -- a header before a place has the name, and whole data
  pub record HasBefore (from : ℕ) (size : SectorSize) (number : ℕ) : Type 0 where
    pub low : number < 256
    pub place : ℕ
    pub before : place < from
    pub named : named_at (format_with_one rate Bytes128) (drop place cells) (name_of own size number)
    pub whole : HasWholeAt rate times indexes cells size place

  abbrev pub IsWalk : (from : ℕ) → (set : List Bool) → Type 0
  IsWalk from set = (size : SectorSize) (number : ℕ) → (has set size number ≡ true) ↔ HasBefore from size number

  pub walk_start : (set : List Bool) → ((size : SectorSize) (number : ℕ) → has set size number ≡ false) → IsWalk 0 set
  walk_start set none size number = (λ is. absurd (no (sym (none size number) ∙ is)), λ before. absurd (let at = before.before in omega (arith, at)))
    where
      no : false ≡ true → ⊥
      no e = cc

  abbrev At : ℕ → HeaderName → Type 0
  At place name = named_at (format_with_one rate Bytes128) (drop place cells) name

  pub walk_step : ((here : List Bool) (n m : HeaderName) → named_at (format_with_one rate Bytes128) here n → named_at (format_with_one rate Bytes128) here m → n ≡ m)
      → (from place : ℕ) (name : HeaderName) (old new : List Bool) → IsWalk from old → FirstAt At from (Some (place, name)) → AddsName rate own times indexes cells place name old new
      → IsWalk (place + 1) new
  walk_step one from place name old new walk first adds size number = (λ is. there ((adds size number).0 is), λ before. back before (cases_lt before.place from) (cases_lt before.place place))
    where
      there : (has old size number ≡ true) ⊎ IsAdded rate own times indexes cells place name size number → HasBefore (place + 1) size number
      there (inl is) =
          let b = (walk size number).0 is in
          let at = b.before in
          let above = first.0 in
          record { low = b.low; place = b.place; before = omega (arith, at, above); named = b.named; whole = b.whole }
      there (inr added) = record {
        low = added.low;
        place = place;
        before = omega arith;
        named = subst (At place) added.named first.1;
        whole = added.whole;
      }

      back : (b : HasBefore (place + 1) size number) → (b.place < from) ⊎ (from ≤ b.place) → (b.place < place) ⊎ (place ≤ b.place) → has new size number ≡ true
      back b (inl early) _ = (adds size number).1 (inl ((walk size number).1 (record { low = b.low; place = b.place; before = early; named = b.named; whole = b.whole })))
      back b (inr late) (inl between) = absurd (first.2 b.place (name_of own size number) late between b.named)
      back b (inr late) (inr past) =
          let at = b.before in
          let same : b.place ≡ place = omega (arith, at, past) in
          (adds size number).1 (inr (record {
            low = b.low;
            named = one (drop place cells) name (name_of own size number) first.1 (subst (λ (k : ℕ). At k (name_of own size number)) same b.named);
            whole = subst (HasWholeAt rate times indexes cells size) same b.whole;
          }))

  pub walk_end : (from : ℕ) (set : List Bool) → IsWalk from set → FirstAt At from None → (size : SectorSize) (number : ℕ)
      → (has set size number ≡ true) ↔ HasName rate own times indexes cells size number
  walk_end from set walk none size number = (
    λ is. (let b = (walk size number).0 is in record { low = b.low; place = b.place; named = b.named; whole = b.whole }),
    λ name. (walk size number).1 (by name (cases_lt name.place from)),
  )
    where
      by : (name : HasName rate own times indexes cells size number) → (name.place < from) ⊎ (from ≤ name.place) → HasBefore from size number
      by name (inl early) = record { low = name.low; place = name.place; before = early; named = name.named; whole = name.whole }
      by name (inr late) = absurd (none name.place (name_of own size number) late name.named)
