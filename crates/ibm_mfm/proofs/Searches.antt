-- A search for three marks that goes from one pair of marks to the next.
use Rattle.std.proofs.Common.{◌≡◌, ℕ, ◌+◌, ◌<◌, ◌≤◌, Bool, List, arith, inl, inr, subst}
use Rattle.std.proofs.lemmas.Bool.{cases_lt}
use Rattle.cell_bits.specs.Search.{StandsNowhere}
use Rattle.ibm_mfm.specs.Syncs.{SyncAt}
use Rattle.ibm_mfm.specs.lemmas.SyncLaws.{TWO_MARKS, sync-two}

-- they stand at no place from `from` to below `to`
abbrev pub NoSync : List Bool → ℕ → ℕ → Type 0
NoSync cells from to = (place : ℕ) → from ≤ place → place < to → ¬ SyncAt cells place

-- nor up to where no pair of marks does
pub no_sync-to : (cells : List Bool) (from start to : ℕ) → NoSync cells from start → StandsNowhere cells TWO_MARKS 32 start to → NoSync cells from to
no_sync-to cells from start to before after place above below sync =
    elim (cases_lt place start) [
      | inl early ↦ before place above early sync
      | inr late ↦ after place late below (sync-two cells place sync)
    ]

-- nor one place further, where none stands there
pub no_sync-next : (cells : List Bool) (from place : ℕ) → NoSync cells from place → ¬ SyncAt cells place → NoSync cells from (place + 1)
no_sync-next cells from place before here other above below sync =
    elim (cases_lt other place) [
      | inl early ↦ before other above early sync
      | inr late ↦ here (let e : other ≡ place = omega arith in subst (SyncAt cells) e sync)
    ]
