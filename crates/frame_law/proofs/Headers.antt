-- Searches for headers of any name.
use Rattle.std.proofs.Common.{◌≡◌, ℕ, ◌+◌, ◌<◌, ◌≤◌, Bool, List, drop, arith, inl, inr, subst}
use Rattle.std.proofs.lemmas.Bool.{cases_lt}
use Rattle.cell_bits.specs.Search.{StandsNowhere}
use Rattle.frame_law.specs.Controller.{NamedHeaderStands}
use Rattle.flux_base.specs.declared.header_name.HeaderName.{HeaderName}

-- no header of any name stands at a place from `from` to below `to`
abbrev pub NoNamed : ℕ → ℕ → (List Bool → ℕ) → (List Bool → HeaderName → Type 0) → List Bool → ℕ → ℕ → Type 0
NoNamed sync sync_cells header_end names cells from to = (place : ℕ) (name : HeaderName) → from ≤ place → place < to
    → ¬ NamedHeaderStands sync sync_cells header_end names (drop place cells) name

module _ (sync sync_cells : ℕ) (header_end : List Bool → ℕ) (names : List Bool → HeaderName → Type 0) (cells : List Bool) where
  -- nor where the sync stands nowhere further on
  pub no_named-to : (from start to : ℕ) → NoNamed sync sync_cells header_end names cells from start
      → StandsNowhere cells sync sync_cells start to → NoNamed sync sync_cells header_end names cells from to
  no_named-to from start to before behind place name above below header =
      elim (cases_lt place start) [
        | inl early ↦ before place name above early header
        | inr late ↦ behind place late below header.begins
      ]

  -- nor one place further, where none stands there
  pub no_named-next : (from place : ℕ) → NoNamed sync sync_cells header_end names cells from place
      → ((name : HeaderName) → ¬ NamedHeaderStands sync sync_cells header_end names (drop place cells) name)
      → NoNamed sync sync_cells header_end names cells from (place + 1)
  no_named-next from place before here other name above below header =
      elim (cases_lt other place) [
        | inl early ↦ before other name above early header
        | inr late ↦ here name (let e : other ≡ place = omega arith in
            subst (λ (n : ℕ). NamedHeaderStands sync sync_cells header_end names (drop n cells) name) e header)
      ]
