-- What is done with the files of a shelf: which are open, and which failed.
use Rattle.std.specs.Prelude.{ℕ, Bool, cond, nat_lt, List, [], ◌∷◌, ◌++◌, drop, take, unwrap_or}
use Rattle.std.specs.Prelude.{Option, Some, None, Result, Ok, Err}
use Rattle.flux_base.specs.declared.outside.Failed.{Failed}

-- by their paths: those that are open, the last opened first; and those that failed as they were
-- opened or read, in the order in which this was known
pub record Handled : Type 0 where
  pub opened : List (List ℕ)
  pub blamed : List (List ℕ)

-- the file of a path is opened, is not there, or fails
abbrev pub handled_open : {F : Type 0} → (path : List ℕ) → Result (Option F) Failed → Handled
    → Handled
handled_open path (Ok (Some file)) handled = record handled { opened = path ∷ handled.opened }
handled_open path (Ok None) handled = handled
handled_open path (Err failed) handled = record handled { blamed = handled.blamed ++ path ∷ [] }

-- a call failed, by how many did, where that is told
abbrev pub has_failed : Option ℕ → Bool
has_failed failed = nat_lt 0 (unwrap_or failed 0)

-- what an object tells of its files it tells only where it tells how many of its calls failed
abbrev pub CountsToo : Option Handled → (failed : Option ℕ) → Type 0
CountsToo None failed = Unit {0}
CountsToo (Some handled) None = ⊥
CountsToo (Some handled) (Some count) = Unit {0}

-- the last one that was opened is closed; it is blamed where a read of it failed
abbrev pub handled_close : (fails : Bool) → Handled → Handled
handled_close fails handled =
    record {
      opened = drop 1 handled.opened;
      blamed = handled.blamed ++ cond fails (take 1 handled.opened) [];
    }

-- these files failed
abbrev pub more_blamed : (paths : List (List ℕ)) → Handled → Handled
more_blamed paths handled = record handled { blamed = handled.blamed ++ paths }
