-- Where the parts of a picture lie, in its own units, of which a field has 12 across and 12 down.
use Rattle.std.specs.Prelude.{ℕ, ◌+◌, ◌-◌, ◌*◌, length}
use Rattle.flux_base.specs.declared.track.TrackId.{TrackId}
use Rattle.flux_engine.specs.Recordings.{sectors_of, track_at}
use Rattle.sector_images.specs.Places.{tracks}
use Rattle.sector_images.specs.declared.format.Format.{Format}
use Rattle.disk_map.specs.declared.layout.Layout.{Layout}

-- the last track has the last cylinder and the last head, and no track
-- has more sectors than the first
abbrev pub layout_of : Format → Layout
layout_of format = record {
  last = track_at format (length (tracks format) - 1);
  first = (sectors_of format (track_at format 0)).first;
  rows = (sectors_of format (track_at format 0)).count;
}

-- how wide and how high a grid is
abbrev pub across : Layout → ℕ
across layout = 12 * (layout.last.cylinder + 1)

abbrev pub down : Layout → ℕ
down layout = 12 * layout.rows

-- how wide the row of cylinders' numbers is: a number of two digits, which stands in the middle of
-- its cylinder's field, begins up to half a unit before the field, so the row ends a unit before
-- the field behind the last one
abbrev pub numbers_across : Layout → ℕ
numbers_across layout = 12 * layout.last.cylinder + 11

-- the top of the grid of a head: the grids stand below one another
abbrev pub top_of : Layout → (head : ℕ) → ℕ
top_of layout head = 56 + head * (down layout + 48)

-- the top of the legend, below the last grid
abbrev pub foot_top : Layout → ℕ
foot_top layout = 70 + down layout + layout.last.head * (down layout + 48)

-- how wide and how high the picture is
abbrev pub width_of : Layout → ℕ
width_of layout = 56 + across layout

abbrev pub height_of : Layout → ℕ
height_of layout = foot_top layout + 88

-- the upper left corner of a sector's field: cylinders go across, and sectors by their numbers down
abbrev pub left_of : TrackId → ℕ
left_of track = 40 + 12 * track.cylinder

abbrev pub field_top : Layout → TrackId → (sector : ℕ) → ℕ
field_top layout track sector = top_of layout track.head + 12 * (sector - layout.first)
