-- In which file of a dump a track lies, by the steps of the drive that captured it.
use Rattle.std.specs.Prelude.{◌*◌, ℕ, Bool, true, nat_lt}
use Rattle.std.specs.List.{list_all}
use Rattle.flux_base.specs.declared.track.TrackId.{TrackId}
use Rattle.sector_images.specs.Places.{tracks}
use Rattle.sector_images.specs.declared.format.Format.{Format}
use Rattle.track_shelf.specs.declared.stepping.Stepping.{Stepping}
use Rattle.track_shelf.specs.declared.stepping.Stepping.TheVariants.{Single, Double}

-- the track by whose numbers the file is named
abbrev pub file_track : Stepping → TrackId → TrackId
file_track Single track = track
file_track Double track = record track { cylinder = 2 * track.cylinder }

-- a drive that makes two steps for one reaches so many cylinders
abbrev pub MOST_DOUBLE_CYLINDERS : ℕ
MOST_DOUBLE_CYLINDERS = 42

-- a drive with these steps reaches the track
abbrev pub reaches : Stepping → TrackId → Bool
reaches Single track = true
reaches Double track = nat_lt track.cylinder MOST_DOUBLE_CYLINDERS

-- it reaches all tracks of the format
unfoldable pub reaches_all : Stepping → Format → Bool
reaches_all stepping format = list_all (reaches stepping) (tracks format)
