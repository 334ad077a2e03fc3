-- Steps of the crate's own functions, over what `Held` defines.
use Rattle.std.specs.Prelude.{◌≡◌, ◌<◌, ◌++◌, ℕ, List, length, Option}
use Rattle.std.specs.Io.KnownBytes.{IsAtEnd}
use Rattle.kryo_stream.specs.declared.intake.More.{More}
use Rattle.kryo_stream.specs.declared.intake.More.TheVariants.{Taken, End}
use Rattle.kryo_stream.specs.Reads.{SourceMoment}
use Rattle.kryo_stream.specs.inside.Reads.{Takes}

-- bytes that came from the source were put after the held ones
pub record Took (IsOpen : List ℕ → Type 0) (old new : SourceMoment)
    (held held' : List ℕ) : Type 0 where
  pub taken : List ℕ
  pub takes : Takes IsOpen old new taken
  pub grown : held' ≡ held ++ taken

-- there are more bytes now, or the source has ended
abbrev pub IsMore : More → List ℕ → List ℕ → Option (List ℕ) → Type 0
IsMore Taken held held' left' = length held < length held'
IsMore End held held' left' = (held' ≡ held) × IsAtEnd left'
