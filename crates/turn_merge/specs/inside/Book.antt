-- Steps of the crate's own functions, over what `Book` defines.
use Rattle.std.specs.Prelude.{◌≡◌, ℕ, List}
use Rattle.turn_merge.specs.declared.verdict.Verdict.{Verdict}
use Rattle.turn_merge.specs.Readings.{NotedReading, verdict_of, agreed_of}
use Rattle.turn_merge.specs.Book.{kept}

-- a verdict, and the data held beside it, are those of these good and bad readings of a sector
pub record IsOf (outcome : Verdict) (held : List ℕ) (good bad : List NotedReading) : Type 0 where
  pub is : outcome ≡ verdict_of good bad
  pub bytes : kept outcome held ≡ agreed_of good
