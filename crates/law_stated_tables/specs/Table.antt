-- All formats that have a name once more, as their standards have them: a second table, which
-- cites nothing of the first one.
use Rattle.std.specs.Prelude.{ℕ, ◌*◌, ◌%◌, Bool, true, false, List, [], ◌∷◌, codes, if◌then◌else◌}
use Rattle.std.specs.Prelude.{nat_eq, nat_lt}
use Rattle.law_stated_tables.specs.Speeds.{Speed, kilobits}

-- The cylinders from a first one to before a last one: the sectors of a track, how fast cells pass
-- and the drive turns, the cells before the parts that fill a ring, and the cells of such a part.
-- The drive turns as fast for all cylinders, or not.
pub record StatedZone : Type 0 where
  pub first : ℕ
  pub end : ℕ
  pub sectors : ℕ
  pub speed : Speed
  pub behind : ℕ
  pub part : ℕ
  pub is_even : Bool

-- The word, cylinders, heads, the number of the first sector, the bytes of a sector and of the
-- image, and the zones. In the image stand whole cylinders one after another, or whole heads. The
-- first 15 sectors of a track, from 0 on, stand so many places apart, modulo 15, among those of
-- their track, and the further ones by their numbers.
pub record StatedFormat : Type 0 where
  pub word : List ℕ
  pub cylinders : ℕ
  pub heads : ℕ
  pub first_sector : ℕ
  pub bytes : ℕ
  pub image : ℕ
  pub by_head : Bool
  pub step : ℕ
  pub zones : List StatedZone

-- where a sector stands, from 0 on, among those of its track in the image
abbrev pub stands_at : (step sector : ℕ) → ℕ
stands_at step sector = if nat_lt sector 15 then step * sector % 15 else sector

-- FM and MFM (IBM 3740, System 34, Amiga trackdisk): rings of whole bytes of 16 cells, by
-- kilobits a second and turns a minute.
abbrev pub stated : List ℕ → (cylinders heads sectors bytes first kilobits_a_second turns image : ℕ)
    → StatedFormat
stated word cylinders heads sectors bytes first kilobits_a_second turns image = record {
  word = word;
  cylinders = cylinders;
  heads = heads;
  first_sector = first;
  bytes = bytes;
  image = image;
  by_head = false;
  step = 1;
  zones =
      record { first = 0; end = cylinders; sectors = sectors; speed = kilobits kilobits_a_second turns; behind = 0; part = 16; is_even = true }
      ∷ [];
}

-- Commodore 1541 and 1571: a clock of 16 MHz is divided by 13 to 16, and again by 4, so that a cell
-- has as many quarters of a microsecond; 300 turns a minute. The gap behind each sector of a track
-- has as many bytes, of 8 cells, so that a ring grows by a byte for all of them at once.
abbrev pub commodore : (first end sectors quarters : ℕ) → StatedZone
commodore first end sectors quarters = record {
  first = first;
  end = end;
  sectors = sectors;
  speed = record { cells = 4000000; seconds = quarters; turns = 300 };
  behind = 0;
  part = 8 * sectors;
  is_even = true;
}

-- The zones of tracks 1 to 17, 18 to 24, 25 to 30 and from 31 on; cylinder 0 is track 1. Of the
-- 1571's disk the second head has all tracks from 36 on.
abbrev pub commodore_disk : List ℕ → (cylinders heads image : ℕ) → StatedFormat
commodore_disk word cylinders heads image = record {
  word = word;
  cylinders = cylinders;
  heads = heads;
  first_sector = 0;
  bytes = 256;
  image = image;
  by_head = nat_eq heads 2;
  step = 1;
  zones = commodore 0 17 21 13 ∷ commodore 17 24 19 14 ∷ commodore 24 30 18 15
      ∷ commodore 30 cylinders 17 16 ∷ [];
}

-- Commodore 8050 and 8250: a clock of 12 MHz is divided by 26, 28, 30 or 32, and gives a cell.
abbrev pub commodore_8050 : (first end sectors periods : ℕ) → StatedZone
commodore_8050 first end sectors periods = record {
  first = first;
  end = end;
  sectors = sectors;
  speed = record { cells = 12000000; seconds = periods; turns = 300 };
  behind = 0;
  part = 8 * sectors;
  is_even = true;
}

-- The zones of tracks 1 to 39, 40 to 53, 54 to 64 and 65 to 77. Of the 8250's disk the second head
-- has all tracks from 78 on.
abbrev pub commodore_8050_disk : List ℕ → (heads image : ℕ) → StatedFormat
commodore_8050_disk word heads image = record {
  word = word;
  cylinders = 77;
  heads = heads;
  first_sector = 0;
  bytes = 256;
  image = image;
  by_head = nat_eq heads 2;
  step = 1;
  zones =
      commodore_8050 0 39 29 26 ∷ commodore_8050 39 53 27 28 ∷ commodore_8050 53 64 25 30
      ∷ commodore_8050 64 77 23 32 ∷ [];
}

-- Apple's Disk II: 250000 cells a second, 300 turns a minute; 16 sectors of 3104 cells, and
-- self-syncs of ten cells. Of the sectors by their physical numbers DOS 3.3 has logical ones seven
-- apart, ProDOS half blocks eight apart.
abbrev pub apple_disk : List ℕ → (step : ℕ) → StatedFormat
apple_disk word step = record {
  word = word;
  cylinders = 35;
  heads = 1;
  first_sector = 0;
  bytes = 256;
  image = 143360;
  by_head = false;
  step = step;
  zones =
      record {
        first = 0;
        end = 35;
        sectors = 16;
        speed = record { cells = 250000; seconds = 1; turns = 300 };
        behind = 16 * 3104;
        part = 10;
        is_even = true;
      } ∷ [];
}

-- The Macintosh's drives: so many cells in each of so many turns a minute; sectors of 5988
-- cells, and self-syncs of ten cells.
abbrev pub macintosh : (first end sectors cells_a_turn turns : ℕ) → StatedZone
macintosh first end sectors cells_a_turn turns = record {
  first = first;
  end = end;
  sectors = sectors;
  speed = record { cells = cells_a_turn * turns; seconds = 60; turns = turns };
  behind = sectors * 5988;
  part = 10;
  is_even = false;
}

-- The cells of a turn are those that MAME's disks have.
abbrev pub macintosh_disk : List ℕ → (heads image : ℕ) → StatedFormat
macintosh_disk word heads image = record {
  word = word;
  cylinders = 80;
  heads = heads;
  first_sector = 0;
  bytes = 512;
  image = image;
  by_head = false;
  step = 1;
  zones =
      macintosh 0 16 12 76950 394 ∷ macintosh 16 32 11 70695 429 ∷ macintosh 32 48 10 64234 472
      ∷ macintosh 48 64 9 57749 525 ∷ macintosh 64 80 8 51389 590 ∷ [];
}

-- Of the plain ones: cylinders, heads, sectors, bytes, first, kilobits, turns, image.
abbrev pub stated_formats : List StatedFormat
stated_formats =
    stated (codes "ibm-3740") 77 1 26 128 1 250 360 256256
    ∷ stated (codes "ibm-360") 40 2 9 512 1 250 300 368640
    ∷ stated (codes "ibm-720") 80 2 9 512 1 250 300 737280
    ∷ stated (codes "ibm-1440") 80 2 18 512 1 500 300 1474560
    ∷ stated (codes "amiga") 80 2 11 512 0 250 300 901120
    ∷ commodore_disk (codes "c1541") 35 1 174848
    ∷ commodore_disk (codes "c1541-40") 40 1 196608
    ∷ apple_disk (codes "apple-do") 7
    ∷ apple_disk (codes "apple-po") 8
    ∷ stated (codes "ibm-160") 40 1 8 512 1 250 300 163840
    ∷ stated (codes "ibm-180") 40 1 9 512 1 250 300 184320
    ∷ stated (codes "ibm-320") 40 2 8 512 1 250 300 327680
    ∷ stated (codes "ibm-1200") 80 2 15 512 1 500 360 1228800
    ∷ stated (codes "atari-st-800") 80 2 10 512 1 250 300 819200
    ∷ stated (codes "cpc-data") 40 1 9 512 193 250 300 184320
    ∷ stated (codes "cpc-system") 40 1 9 512 65 250 300 184320
    ∷ stated (codes "acorn-dfs-40") 40 1 10 256 0 125 300 102400
    ∷ stated (codes "acorn-dfs-80") 80 1 10 256 0 125 300 204800
    ∷ apple_disk (codes "apple-dos33") 7
    ∷ apple_disk (codes "apple-prodos") 8
    ∷ macintosh_disk (codes "mac-400") 1 409600
    ∷ macintosh_disk (codes "mac-800") 2 819200
    ∷ commodore_disk (codes "c1571") 35 2 349696
    ∷ stated (codes "amiga-hd") 80 2 22 512 0 500 300 1802240
    ∷ commodore_8050_disk (codes "c8050") 1 533248
    ∷ commodore_8050_disk (codes "c8250") 2 1066496
    ∷ stated (codes "c1581") 80 2 10 512 1 250 300 819200
    ∷ []
