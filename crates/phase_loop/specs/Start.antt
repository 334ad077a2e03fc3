-- Where a loop starts: the nominal cell, the first period and the band of its periods, in fine
-- units of which 1024 make a tick.
use Rattle.std.specs.Prelude.{◌≡◌, ℕ, ◌*◌, ◌/◌, ◌≤◌, min, max}
use Rattle.phase_loop.specs.declared.start.Band.{Band}
use Rattle.phase_loop.specs.declared.start.LoopStart.{LoopStart}

-- fine units in a tick
abbrev pub FINE_PER_TICK : ℕ
FINE_PER_TICK = 1024

-- how many intervals make a mean
abbrev pub INTERVALS : ℕ
INTERVALS = 64

-- the most cells of one interval; past them the loop starts anew
abbrev pub LONGEST : ℕ
LONGEST = 32

-- the nominal cells, 16 to 128 ticks
abbrev pub SHORTEST_CELL : ℕ
SHORTEST_CELL = 16 * FINE_PER_TICK

abbrev pub LONGEST_CELL : ℕ
LONGEST_CELL = 128 * FINE_PER_TICK

-- the lowest end of a band and the highest
abbrev pub SHORTEST_PERIOD : ℕ
SHORTEST_PERIOD = 3 * SHORTEST_CELL / 4

abbrev pub LONGEST_PERIOD : ℕ
LONGEST_PERIOD = 5 * LONGEST_CELL / 4

-- v, or where it lies outside the band the band's nearer end
abbrev pub in_band : Band → ℕ → ℕ
in_band band v = max band.lowest (min band.highest v)

-- the band about a nominal cell: from three to five quarters of it, each end rounded down
abbrev pub band_of : ℕ → Band
band_of nominal = record { lowest = 3 * nominal / 4; highest = 5 * nominal / 4 }

-- a nominal cell of 16 to 128 ticks
pub record IsNominal (nominal : ℕ) : Type 0 where
  pub shortest : SHORTEST_CELL ≤ nominal
  pub longest : nominal ≤ LONGEST_CELL

-- the nominal cell is one, the start's band lies in the one about it, and the first
-- period lies in the start's band
pub record IsStart (start : LoopStart) : Type 0 where
  pub nominal : IsNominal start.nominal
  pub low : 3 * start.nominal / 4 ≤ start.band.lowest
  pub from : start.band.lowest ≤ start.first
  pub to : start.first ≤ start.band.highest
  pub high : start.band.highest ≤ 5 * start.nominal / 4

-- the start's band is the whole band about the nominal cell
abbrev pub HasWholeBand : LoopStart → Type 0
HasWholeBand start = start.band ≡ band_of start.nominal

-- the start for a track whose first turn has these ticks and this many cells: the first period is
-- the turn's mean, and the period may follow the drive through the whole band
abbrev pub start_for : ℕ → ℕ → ℕ → LoopStart
start_for nominal turn_ticks ring_cells = record {
  nominal = nominal;
  first = in_band (band_of nominal) (FINE_PER_TICK * turn_ticks / ring_cells);
  band = band_of nominal;
}

-- a start whose band has the first period as both its ends, so that the
-- period is always the first one
abbrev pub held : LoopStart → LoopStart
held start = record {
  nominal = start.nominal;
  first = start.first;
  band = record { lowest = start.first; highest = start.first };
}

-- the start's band is the first period alone
abbrev pub IsHeld : LoopStart → Type 0
IsHeld start = start.band ≡ (held start).band
