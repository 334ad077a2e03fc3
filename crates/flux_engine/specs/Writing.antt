-- The conditions under which a track is written out.
use Rattle.std.specs.Prelude.{◌≡◌, ◌≤◌, ◌+◌, length}
use Rattle.flux_base.specs.Bounds.{MOST_SECTOR_BYTES}
use Rattle.sector_report.specs.declared.totals.Totals.{Totals}
use Rattle.turn_merge.specs.Book.{Knowledge}
use Rattle.disk_recordings.specs.declared.sectors.Sectors.{Sectors}

-- the numbers of the sectors have 8 bits, and a sector has not too many bytes
pub record AreFew (sectors : Sectors) : Type 0 where
  pub below : sectors.first + sectors.count ≤ 256
  pub size : sectors.size ≤ MOST_SECTOR_BYTES

-- the book knows of these sectors
pub record Knows (sectors : Sectors) (book : Knowledge) : Type 0 where
  pub first : book.first_sector ≡ sectors.first
  pub count : length book.found ≡ sectors.count

-- each sector is counted once more by its verdict
abbrev pub IsSum : Totals → Type 0
IsSum totals = totals.sectors ≡ totals.good + totals.bad + totals.missing + totals.contradictory

-- the totals of two parts of a disk
abbrev pub sum_of : Totals → Totals → Totals
sum_of a b = record {
  sectors = a.sectors + b.sectors;
  good = a.good + b.good;
  bad = a.bad + b.bad;
  missing = a.missing + b.missing;
  contradictory = a.contradictory + b.contradictory;
}
