-- The bytes that were taken from a source and not used yet.
use Rattle.std.specs.Prelude.{ℕ, Bool, List}

-- what contracts see of an intake: the bytes that it holds, and
-- whether a stream was read through it
pub record IntakeState : Type 0 where
  pub held : List ℕ
  pub used : Bool
