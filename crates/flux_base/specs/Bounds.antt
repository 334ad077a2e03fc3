-- What the disks keep to that there are formats of: how large a part of one may be.
use Rattle.std.specs.Prelude.{ℕ}

-- the bytes of a sector
abbrev pub MOST_SECTOR_BYTES : ℕ
MOST_SECTOR_BYTES = 1024

-- the sectors of a track
abbrev pub MOST_SECTORS : ℕ
MOST_SECTORS = 100

-- the bytes that the sectors of a track have together
abbrev pub MOST_TRACK_BYTES : ℕ
MOST_TRACK_BYTES = 11264

-- the cells of a track's ring
abbrev pub SHORTEST_RING : ℕ
SHORTEST_RING = 32768

abbrev pub LONGEST_RING : ℕ
LONGEST_RING = 262144

-- a nominal cell, in fine units
abbrev pub SHORTEST_CELL : ℕ
SHORTEST_CELL = 16384

abbrev pub LONGEST_CELL : ℕ
LONGEST_CELL = 131072

-- the tracks of a disk
abbrev pub MOST_TRACKS : ℕ
MOST_TRACKS = 1000

-- an image has fewer bytes
abbrev pub IMAGE_LIMIT : ℕ
IMAGE_LIMIT = 4194304
