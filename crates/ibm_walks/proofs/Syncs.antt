-- Whether a sync stands behind a header, before the next one.
use Rattle.std.proofs.Common.{◌≡◌, ◌<◌, ◌≤◌, ◌⊎◌, ℕ, ◌+◌, ◌-◌, Bool, true, false, not, List, drop, inl, inr, refl, sym, subst, arith}
use Rattle.std.specs.Prelude.{IsTrue, ◌↔◌}
use Rattle.std.proofs.lemmas.Bool.{cases_lt}
use Rattle.std.proofs.lemmas.List.{drop-drop}
use Rattle.flux_base.specs.declared.header_name.HeaderName.{HeaderName}
use Rattle.frame_law.specs.Frames.{IsFirstSync}
use Rattle.ibm_disks.specs.GapPlans.{density_of}
use Rattle.ibm_disks.specs.declared.rate.Density.{Density}
use Rattle.ibm_disks.specs.declared.rate.Density.TheVariants.{Single, Double}
use Rattle.ibm_disks.specs.declared.rate.Rate.{Rate}
use Rattle.ibm_walks.specs.Headers.{DataSyncAt, HasSync, IsNamed, header_cells}
use Rattle.ibm_walks.specs.inside.Walked.{HasNameFrom}

pub short_header : (density : Density) → header_cells density ≤ 160
short_header Single = omega arith
short_header Double = omega arith

differ : false ≡ true → ⊥
differ e = cc

module _ (rate : Rate) (cells : List Bool) (place sync : ℕ) where
  abbrev Sync : ℕ → Type 0
  Sync = DataSyncAt (density_of rate) (drop place cells)

  abbrev end : ℕ
  end = header_cells (density_of rate)

  here : (other : ℕ) (name : HeaderName) → IsNamed rate (drop other (drop place cells)) name → IsNamed rate (drop (place + other) cells) name
  here other name named = subst (λ (xs : List Bool). IsNamed rate xs name) (drop-drop other place cells) named

  there : (at : ℕ) (name : HeaderName) → place ≤ at → IsNamed rate (drop at cells) name → IsNamed rate (drop (at - place) (drop place cells)) name
  there at name above named =
      let same : place + (at - place) ≡ at = omega arith in
      subst (λ (xs : List Bool). IsNamed rate xs name) (sym (drop-drop (at - place) place cells))
      (subst (λ (k : ℕ). IsNamed rate (drop k cells) name) (sym same) named)

  pub sync_decides : IsFirstSync Sync end (end + 1024) sync → (b : Bool) → IsTrue b ↔ HasNameFrom rate cells (place + end) (place + sync + 1)
      → IsTrue (not b) ↔ HasSync rate (drop place cells)
  sync_decides first true says = (λ yes. absurd (differ yes), λ has. absurd (none has (cases_lt has.place sync)))
    where
      none : (has : HasSync rate (drop place cells)) → (has.place < sync) ⊎ (sync ≤ has.place) → ⊥
      none has (inl before) = first.first has.place has.sync.after before has.sync.stands
      none has (inr past) =
          let name = says.0 refl in
          let lower = name.lower in
          let upper = name.upper in
          has.nearest (name.place - place) name.name (omega (arith, lower)) (omega (arith, upper, past)) (there name.place name.name (omega (arith, lower)) name.named)
  sync_decides first false says = (λ yes. yes_has, λ has. refl)
    where
      yes_has : HasSync rate (drop place cells)
      yes_has = record {
        place = sync;
        sync = record { after = first.after; near = first.near; stands = first.stands };
        nearest = λ other name above short named.
            differ (says.1 (record { place = place + other; name = name; lower = omega (arith, above); upper = omega (arith, short); named = here other name named }));
      }
