-- Steps of the crate's own functions, over what `Blocks` defines.
use Rattle.std.specs.Prelude.{◌<◌, ◌≤◌, ℕ}

-- a byte from 0E to FF, which is a transition by itself
abbrev pub IsShortFlux : ℕ → Type 0
IsShortFlux byte = (14 ≤ byte) × (byte < 256)
