-- The zones of disks whose outer tracks have more sectors than the inner ones.
use Rattle.std.specs.Prelude.{ℕ, List, [], ◌∷◌, nat_lt, if◌then◌else◌}
use Rattle.disk_zones.specs.declared.zones.Zone.{Zone}
use Rattle.disk_zones.specs.Units.{cell_of_turn, fine_units, fine_units_of_12}

-- a zone that ends before a cylinder
pub record Outer : Type 0 where
  pub zone : Zone
  pub end : ℕ

-- the zone of a cylinder: the first of these that ends behind it, or else the last one
abbrev pub zone_in : List Outer → Zone → ℕ → Zone
zone_in [] last cylinder = last
zone_in (outer ∷ others) last cylinder =
    if nat_lt cylinder outer.end then outer.zone else zone_in others last cylinder

-- the zones of a Commodore 1541's disk, whose tracks are numbered from 1: 1 to 17, 18
-- to 24, 25 to 30, and from 31 on
abbrev pub commodore_outer : List Outer
commodore_outer =
    record { zone = record { sectors = 21; nominal = fine_units 13; ring_cells = 61488 }; end = 17 }
    ∷ record { zone = record { sectors = 19; nominal = fine_units 14; ring_cells = 57000 }; end = 24 }
    ∷ record { zone = record { sectors = 18; nominal = fine_units 15; ring_cells = 53280 }; end = 30 }
    ∷ []

abbrev pub commodore_inner : Zone
commodore_inner = record { sectors = 17; nominal = fine_units 16; ring_cells = 49912 }

unfoldable pub commodore_zone : ℕ → Zone
commodore_zone cylinder = zone_in commodore_outer commodore_inner cylinder

-- a zone of a Commodore 8050's disk, by the sectors and the cells of a track, each of so
-- many periods of the drive's clock
abbrev pub of_periods : (sectors periods cells : ℕ) → Zone
of_periods sectors periods cells = record {
  sectors = sectors;
  nominal = fine_units_of_12 periods;
  ring_cells = cells;
}

-- its zones: tracks 1 to 39, 40 to 53, 54 to 64, and from 65 on
abbrev pub commodore_8050_outer : List Outer
commodore_8050_outer =
    record { zone = of_periods 29 26 92104; end = 39 }
    ∷ record { zone = of_periods 27 28 85536; end = 53 }
    ∷ record { zone = of_periods 25 30 80000; end = 64 } ∷ []

abbrev pub commodore_8050_inner : Zone
commodore_8050_inner = of_periods 23 32 74888

unfoldable pub commodore_8050_zone : ℕ → Zone
commodore_8050_zone cylinder = zone_in commodore_8050_outer commodore_8050_inner cylinder

-- a zone of a Macintosh's disk, by the sectors and the cells of a track, each of which takes a
-- turn in a drive of constant speed
abbrev pub of_turn : ℕ → ℕ → Zone
of_turn sectors cells =
    record { sectors = sectors; nominal = cell_of_turn cells; ring_cells = cells }

-- the zones of a Macintosh's disk, of 16 cylinders each
abbrev pub macintosh_outer : List Outer
macintosh_outer =
    record { zone = of_turn 12 76946; end = 16 } ∷ record { zone = of_turn 11 70688; end = 32 }
    ∷ record { zone = of_turn 10 64230; end = 48 } ∷ record { zone = of_turn 9 57742; end = 64 }
    ∷ []

abbrev pub macintosh_inner : Zone
macintosh_inner = of_turn 8 51384

unfoldable pub macintosh_zone : ℕ → Zone
macintosh_zone cylinder = zone_in macintosh_outer macintosh_inner cylinder
