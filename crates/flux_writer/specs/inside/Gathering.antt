-- Bytes that are gathered before they are handed to a sink.
use Rattle.std.specs.Prelude.{◌≡◌, ◌++◌, ℕ, is_err, List, Option, Result, OnOk, OnErr}
use Rattle.std.specs.Io.KnownBytes.{Appends}
use Rattle.flux_base.specs.Counts.{Counts}
use Rattle.flux_base.specs.Moments.{Moment}
use Rattle.flux_base.specs.Outside.{AppendsPart}
use Rattle.flux_base.specs.declared.outside.Failed.{Failed}

-- after the held bytes come more: the sink took some from the front of all
-- these, and the rest is held now
pub record Gathers (old new : Option (List ℕ)) (held held' more : List ℕ) : Type 0 where
  pub taken : List ℕ
  pub appended : Appends old new taken
  pub whole : held ++ more ≡ taken ++ held'

-- a call that puts more bytes after the held ones: they are gathered; or the sink failed, took a
-- front of all these that is shorter, and failed once
pub record Holds {A T : Type 0} (before after : Moment A) (held held' more : List ℕ)
    (answer : Result T Failed) : Type 0 where
  pub ok : OnOk answer (Gathers before.bytes after.bytes held held' more)
  pub err : OnErr answer (AppendsPart before.bytes after.bytes (held ++ more))
  pub counts : Counts (is_err answer) before.counts after.counts
