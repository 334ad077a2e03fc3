-- What a shelf tells of itself, but for how often it failed.
use Rattle.std.specs.Prelude.{ℕ, Bool, List, Option, option_map}
use Rattle.track_shelf.specs.Files.{File}
use Rattle.track_shelf.specs.Handled.{Handled, handled_close, more_blamed}

-- the files that lie on it; of the shelf itself, as a source, the bytes still to come; what each
-- read of it so far gave; and which of its files are open, and which failed
pub record ShelfTold : Type 0 where
  pub files : Option (List File)
  pub left : Option (List ℕ)
  pub given : Option (List (List ℕ))
  pub handled : Option Handled

-- The same, where these files failed: none is open that was not, and nothing else changed.
abbrev pub with_failed : (paths : List (List ℕ)) → ShelfTold → ShelfTold
with_failed paths told = record told { handled = option_map (more_blamed paths) told.handled }

-- The same, where the file that was opened last was taken back, of which a read failed or none.
abbrev pub with_closed : (fails : Bool) → ShelfTold → ShelfTold
with_closed fails told = record told { handled = option_map (handled_close fails) told.handled }
