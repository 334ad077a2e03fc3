-- How often an object of the outside failed, and what a call does to
-- that: one relation of two moments.
use Rattle.std.specs.Prelude.{ℕ, ◌≤◌, Bool, true, false, Option}
use Rattle.flux_base.specs.Outside.{Rose, IsCounted}

-- how often an object has failed: its count of faults; and how many of its
-- calls failed, where it tells that
pub record FaultCounts : Type 0 where
  pub faults : ℕ
  pub failed : Option ℕ

abbrev pub counts_of : {A : Type 0} → (A → ℕ) → (A → Option ℕ) → A → FaultCounts
counts_of faults failed object = record { faults = faults object; failed = failed object }

-- the count rose in a call that fails
abbrev pub RoseIf : Bool → (before now : ℕ) → Type 0
RoseIf true before now = Rose before now
RoseIf false before now = Unit {0}

-- A call was made that fails for the object's sake, or not: its count of faults did
-- not fall, and rose if the call fails; and it failed once then, in the last of its
-- calls that could, and else never.
pub record Counts (fails : Bool) (before after : FaultCounts) : Type 0 where
  pub later : before.faults ≤ after.faults
  pub cause : RoseIf fails before.faults after.faults
  pub counted : IsCounted fails before.failed after.failed
