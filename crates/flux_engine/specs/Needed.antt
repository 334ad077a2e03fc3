-- When a source is read: only where the bytes that it gave before leave the answer open.
use Rattle.std.specs.Prelude.{◌≡◌, ◌<◌, ℕ, List, [], length, take}
use Rattle.std.specs.List.{concat}
use Rattle.std.specs.Io.KnownBytes.{Consumes}
use Rattle.flux_base.specs.Outside.{Gives}
use Rattle.kryo_stream.specs.Reads.{SourceMoment}

-- Reads gave these pieces, each where what the reads before it gave left the answer open. Without a
-- read the count of faults stays.
pub record ReadsWhereOpen (IsOpen : List ℕ → Type 0) (old new : SourceMoment) : Type 0 where
  pub pieces : List (List ℕ)
  pub gave : Gives old.given new.given pieces
  pub consumed : Consumes old.left new.left (concat pieces)
  pub needed : (k : ℕ) → k < length pieces → IsOpen (concat (take k pieces))
  pub still : pieces ≡ [] → new.faults ≡ old.faults

-- each read was made where fewer than so many bytes were given
unfoldable pub ReadsUpTo : ℕ → (old new : SourceMoment) → Type 0
ReadsUpTo most old new = ReadsWhereOpen (λ so_far. length so_far < most) old new
