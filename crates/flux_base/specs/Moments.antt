-- An object of the outside at a moment, and what a call that writes did to a sink between two.
use Rattle.std.specs.Prelude.{◌≡◌, ℕ, ◌≤◌, is_err, List, length, take, drop, Option, Result, Ok}
use Rattle.std.specs.Prelude.{OnOk, OnErr}
use Rattle.std.specs.Io.KnownBytes.{Appends}
use Rattle.flux_base.specs.Counts.{FaultCounts, Counts, counts_of}
use Rattle.flux_base.specs.Outside.{AppendsPart}
use Rattle.flux_base.specs.declared.outside.Failed.{Failed}

-- the object itself; the bytes that it tells, if it does: of a source those still to come, of a
-- sink those that it took; and how often it has failed
pub record Moment (A : Type 0) : Type 0 where
  pub object : A
  pub bytes : Option (List ℕ)
  pub counts : FaultCounts

abbrev pub moment : {A : Type 0} → (A → Option (List ℕ)) → (A → ℕ) → (A → Option ℕ) → A → Moment A
moment bytes faults failed object =
    record { object = object; bytes = bytes object; counts = counts_of faults failed object }

-- a sink was given bytes: it took them all, or it failed, once, and took a
-- front of them that is shorter
pub record Puts {A T : Type 0} (before after : Moment A) (bytes : List ℕ)
    (answer : Result T Failed) : Type 0 where
  pub ok : OnOk answer (Appends before.bytes after.bytes bytes)
  pub err : OnErr answer (AppendsPart before.bytes after.bytes bytes)
  pub counts : Counts (is_err answer) before.counts after.counts

-- a sink took a piece up to the rest
pub record Wrote {A : Type 0} (before after : Moment A) (piece rest : List ℕ) : Type 0 where
  pub taken : ℕ
  pub within : taken ≤ length piece
  pub remains : rest ≡ drop taken piece
  pub puts : Puts {T = Unit {0}} before after (take taken piece) (Ok tt)
