-- The disks that a dump may be of.
use Rattle.std.specs.Prelude.{if◌then◌else◌, ℕ, List, [], ◌∷◌, ◌++◌, flat_map, length, map, nat_lt}
use Rattle.sector_images.specs.Formats.{formats}
use Rattle.sector_images.specs.declared.format.Format.{Format}
use Rattle.sector_images.specs.declared.format.Format.TheVariants.{Numbered}
use Rattle.track_shelf.specs.Stepping.{reaches_all}
use Rattle.track_shelf.specs.declared.stepping.Stepping.{Stepping}
use Rattle.track_shelf.specs.declared.stepping.Stepping.TheVariants.{Single, Double}
use Rattle.told_disks.specs.declared.disks.NumberedDisk.{NumberedDisk}
use Rattle.dump_identity.specs.declared.candidate.Candidate.{Candidate}

abbrev pub candidate_of : Stepping → Format → Candidate
candidate_of stepping format = record { stepping = stepping; format = format }

-- those of a format: with one step for each cylinder, and with two where
-- such a drive reaches all tracks
unfoldable pub candidates_of : Format → List Candidate
candidates_of format = candidate_of Single format
    ∷ (if reaches_all Double format then candidate_of Double format ∷ [] else [])

-- all that have names, in the order of the formats
unfoldable pub candidates : List Candidate
candidates = flat_map candidates_of formats

-- a disk by its numbers
abbrev pub by_numbers : NumberedDisk → Candidate
by_numbers told = candidate_of told.stepping (Numbered told.disk)

-- all where the files tell these disks by numbers: those that have names, and these behind them
abbrev pub candidates_with : (told : List NumberedDisk) → List Candidate
candidates_with told = candidates ++ map by_numbers told

-- of two readings of a dump, that in which the candidate of this number is tried: the first one for
-- those that have names
abbrev pub by_reading : {X : Type 0} → (first again : X) → (number : ℕ) → X
by_reading first again number = if nat_lt number (length candidates) then first else again
