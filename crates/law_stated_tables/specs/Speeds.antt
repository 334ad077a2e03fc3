-- How long cells and turns are, in plain numbers: a second spelling, which cites none of the
-- definitions that it is to check. The capture's clock makes 168192000 ticks in seven seconds,
-- 24027428.57 a second, and a tick has 1024 fine units.
use Rattle.std.specs.Prelude.{◌≡◌, ◌<◌, ◌≤◌, ℕ, ◌+◌, ◌*◌}

-- so many cells pass in so many seconds, and the drive turns so often a minute
pub record Speed : Type 0 where
  pub cells : ℕ
  pub seconds : ℕ
  pub turns : ℕ

-- so many kilobits a second, each of two cells, as FM and MFM have them
abbrev pub kilobits : (a_second turns : ℕ) → Speed
kilobits a_second turns = record { cells = 2 * 1000 * a_second; seconds = 1; turns = turns }

-- Where so many cells pass in so many seconds, a cell has so many fine
-- units, rounded down to a whole one.
pub record IsCell (cells seconds fine : ℕ) : Type 0 where
  pub within : 7 * cells * fine ≤ 168192000 * 1024 * seconds
  pub more_is_longer : 168192000 * 1024 * seconds < 7 * cells * (fine + 1)

-- A ring is what one turn takes, rounded down to a whole number of parts behind some cells: one
-- part more, and it would take longer.
pub record IsTurn (speed : Speed) (behind part ring : ℕ) : Type 0 where
  pub parts : ℕ
  pub whole : ring ≡ behind + parts * part
  pub within : ring * speed.turns * speed.seconds ≤ 60 * speed.cells
  pub more_is_longer : 60 * speed.cells < (ring + part) * speed.turns * speed.seconds

-- The ring in cells of this length takes one turn of a drive that turns so often a minute, or
-- less by at most a part in 390: the widest gap of whole bytes on tracks 18 to 24 of a Commodore
-- 1541's disk leaves a part in 400.
pub record TakesATurn (turns fine ring : ℕ) : Type 0 where
  pub within : 7 * turns * (ring * fine) ≤ 60 * 168192000 * 1024
  pub nearly : 60 * 168192000 * 1024 * 389 ≤ 7 * turns * (ring * fine) * 390

-- So many cells and turns a minute are 505300 cells a second, or differ from it by at most a
-- part in 2000: the Macintosh's drive, whose zones have one speed of cells, and speeds of
-- turning in whole turns a minute.
pub record AreMacintoshCells (ring turns : ℕ) : Type 0 where
  pub fast : 60 * 505300 * 1999 ≤ ring * turns * 2000
  pub slow : ring * turns * 2000 ≤ 60 * 505300 * 2001
