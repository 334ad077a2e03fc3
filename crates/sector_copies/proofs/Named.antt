-- Each content that is kept of a sector is that of a reading, whose place is named.
use Rattle.std.specs.Prelude.{◌≡◌, ℕ, zero, suc, ◌&&◌, Bool, true, false, not, List, [], ◌∷◌, filter, is_some, map, nat_eq, take, Option, Some, None, refl}
use Rattle.std.proofs.Common.{eqb-true, subst}
use Rattle.sector_copies.specs.Copies.{Copy, MOST_COPIES, copies_over, copy_of, first_holders, holds}
use Rattle.turn_merge.specs.Readings.{NotedReading, bytes_of, good_ones}
use Rattle.turn_merge.specs.declared.verdict.Place.{Place}
use Rattle.flux_engine.specs.lemmas.Each.{Each, each-filter, each-map}

module _ (Named : Place → ℕ → List ℕ → Type 0) (sector : ℕ) where
  abbrev pub IsNamed : NotedReading → Type 0
  IsNamed r = (bytes : List ℕ) → r.bytes ≡ Some bytes → Named r.place r.sector bytes

  abbrev pub IsHolder : NotedReading → Type 0
  IsHolder r = Named r.place sector (bytes_of r)

  of_bytes : (r : NotedReading) (o : Option (List ℕ)) → r.bytes ≡ o → is_some o ≡ true → IsNamed r → Named r.place r.sector (bytes_of r)
  of_bytes r None is some named = absurd (cc)
  of_bytes r (Some bytes) is some named =
      let same : bytes_of r ≡ bytes = rw is refl in
      subst (Named r.place r.sector) (rw same refl) (named bytes is)

  both : (a b : Bool) → (a && b) ≡ true → (a ≡ true) × (b ≡ true)
  both true b is = (refl, is)
  both false b is = absurd (cc)

  of_good : (r : NotedReading) → IsNamed r × ((nat_eq r.sector sector && is_some r.bytes) ≡ true) → IsHolder r
  of_good r (named, test) =
      let parts = both (nat_eq r.sector sector) (is_some r.bytes) test in
      subst (λ (s : ℕ). Named r.place s (bytes_of r)) (eqb-true r.sector sector parts.0) (of_bytes r r.bytes refl parts.1 named)

  each_take : (n : ℕ) (xs : List NotedReading) → Each IsHolder xs → Each IsHolder (take n xs)
  each_take zero xs all = tt
  each_take (suc n) [] all = tt
  each_take (suc n) (x ∷ xs) all = (all.0, each_take n xs all.1)

  each_first : (xs : List NotedReading) → Each IsHolder xs → Each IsHolder (first_holders xs)
  each_first [] all = tt
  each_first (x ∷ xs) all = (
    all.0,
    each-map (λ (r : NotedReading). IsHolder r × (not (holds (bytes_of x) r) ≡ true)) IsHolder (λ r has. has.0) (filter (λ r. not (holds (bytes_of x) r)) (first_holders xs))
        (each-filter (λ (r : NotedReading). not (holds (bytes_of x) r)) IsHolder (first_holders xs) (each_first xs all.1)),
  )

  abbrev pub IsCopy : Copy → Type 0
  IsCopy c = Named c.first sector c.bytes

  each_copy : (goods xs : List NotedReading) → Each IsHolder xs → Each IsCopy (map (copy_of goods) xs)
  each_copy goods [] all = tt
  each_copy goods (x ∷ xs) all = (all.0, each_copy goods xs all.1)

  pub copies_named : (readings : List NotedReading) → Each IsNamed readings → Each IsCopy (copies_over (good_ones readings sector))
  unfolding copies_over
  copies_named readings all =
      let goods : List NotedReading = good_ones readings sector in
      let holders : Each IsHolder goods =
      each-map (λ (r : NotedReading). IsNamed r × ((nat_eq r.sector sector && is_some r.bytes) ≡ true)) IsHolder of_good goods
      (each-filter (λ (r : NotedReading). nat_eq r.sector sector && is_some r.bytes) IsNamed readings all) in
      each_copy goods (take MOST_COPIES (first_holders goods)) (each_take MOST_COPIES (first_holders goods) (each_first goods holders))
