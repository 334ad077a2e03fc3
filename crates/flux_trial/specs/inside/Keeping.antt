-- A sink that keeps its bytes.
use Rattle.std.specs.Prelude.{ℕ, List, length, nat_le, if◌then◌else◌}
use Rattle.flux_base.specs.Outside.{GREATEST_COUNT}

-- how many bytes it keeps
abbrev pub ROOM : ℕ
ROOM = 4194304

-- a full one has failed as often as is counted, and any other never
abbrev pub faults_of : List ℕ → ℕ
faults_of bytes = if nat_le ROOM (length bytes) then GREATEST_COUNT else 0
