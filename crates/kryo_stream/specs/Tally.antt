-- What a reader keeps of the blocks so far.
use Rattle.std.specs.Prelude.{ℕ, ◌+◌, List, [], ◌∷◌}
use Rattle.kryo_stream.specs.declared.block.Block.{Block}
use Rattle.kryo_stream.specs.declared.block.Block.TheVariants.{Flux}
use Rattle.kryo_stream.specs.Stream.{ticks}

-- the transition that a block adds
abbrev pub new_times : ℕ → Block → List ℕ
new_times time (Flux ticks) = (time + ticks) ∷ []
new_times time _ = []
