-- The table of reciprocals.
use Rattle.std.specs.Prelude.{◌≡◌, ◌<◌, ℕ, ◌+◌, ◌*◌, ◌/◌, ◌^◌, List, length, slice_index}
use Rattle.phase_loop.specs.Start.{INTERVALS, LONGEST}

-- place k has the reciprocal of k + 1
abbrev pub AreReciprocals : List ℕ → Type 0
AreReciprocals table = (length table ≡ INTERVALS * LONGEST)
    × ((k : ℕ) → k < INTERVALS * LONGEST → slice_index table k ≡ 2 ^ 40 / (k + 1) + 1)
