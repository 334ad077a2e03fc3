-- How far the looking at dumps has come.
use Rattle.std.specs.Prelude.{◌≡◌, ℕ, Bool, List, length, Ok}
use Rattle.std.specs.List.{list_any}
use Rattle.dump_reading.specs.Files.{ShelfNow}
use Rattle.flux_base.specs.Moments.{Moment, Puts}
use Rattle.scp_notes.specs.Dumps.{AreNoted, DumpNoted, has_failed, texts_of}

-- the first dumps, so many, were looked at, and their lines were written; a file failed, or none
-- did
pub record HasNoted {N : Type 0} (dumps : List (List ℕ)) (count : ℕ) (start now : ShelfNow)
    (before after : Moment N) (fails : Bool) : Type 0 where
  pub noted : List DumpNoted
  pub are : AreNoted dumps start now noted
  pub size : length noted ≡ count
  pub puts : Puts {T = Unit {0}} before after (texts_of noted) (Ok tt)
  pub fails_is : fails ≡ list_any has_failed noted
