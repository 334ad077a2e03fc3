-- The notes of one dump, as they are written.
use Rattle.std.specs.Prelude.{◌≡◌, ℕ, Bool, IfOk, List, Result}
use Rattle.flux_base.specs.Moments.{Moment, Puts}
use Rattle.flux_base.specs.declared.outside.Failed.{Failed}
use Rattle.dump_reading.specs.Files.{ShelfNow}
use Rattle.disk_summary.specs.Texts.{notes_text}
use Rattle.disk_summary.specs.Turns.{IsTurnsNoted}
use Rattle.disk_summary.specs.declared.note.Note.{Note}

-- they were, or a part of them
pub record NotedDump {A : Type 0} (dump : List ℕ) (number : ℕ) (start now : ShelfNow)
    (before after : Moment A) (answer : Result Bool Failed) : Type 0 where
  pub noted : List Note
  pub failed : Bool
  pub is : IsTurnsNoted dump number start now noted failed
  pub puts : Puts before after (notes_text noted) answer
  pub tells : IfOk answer (λ told. told ≡ failed)
