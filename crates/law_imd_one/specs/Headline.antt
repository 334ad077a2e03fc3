-- The files of dumps, and which of them failed, decide what is found of them: the file of
-- ImageDisk, the report and the totals are functions of that.
use Rattle.std.specs.Prelude.{◌≡◌, ℕ, List, flat_map, Some}
use Rattle.dump_reading.specs.DumpStreams.{FailedAlike}
use Rattle.dump_reading.specs.Files.{ShelfNow}
use Rattle.dump_turns.specs.declared.reach.Reach.{Reach}
use Rattle.flux_engine.specs.Plans.{Seen}
use Rattle.imd_image.specs.Found.{TrackFound}
use Rattle.imd_image.specs.Outcomes.{AllFound, DumpsAsked, HaveFound}
use Rattle.imd_image.specs.Reaches.{IsWithout}
use Rattle.track_shelf.specs.Files.{File}

-- the streams of all tracks
abbrev pub came_of : {asked : DumpsAsked} {start now : ShelfNow} {reach : Reach}
    {founds : List TrackFound} → HaveFound asked start now reach founds → List Seen
came_of have = flat_map (λ streams. streams) have.came

-- Two findings of all tracks of the same dumps, of which the same files failed, are one.
abbrev pub FoundFilesAreOne : Type 0
FoundFilesAreOne = (asked : DumpsAsked) (files : List File) (start now start' now' : ShelfNow)
    → start.told.files ≡ Some files → start'.told.files ≡ Some files
    → (reach reach' : Reach) (founds founds' : List TrackFound)
    → (one : AllFound asked start now reach founds)
    (other : AllFound asked start' now' reach' founds')
    → FailedAlike (came_of one.have) (came_of other.have)
    → founds ≡ founds'

-- where a dump has none of the files, nothing is found
abbrev pub NoFilesAreNotFound : Type 0
NoFilesAreNotFound = (asked : DumpsAsked) (files : List File) (start now : ShelfNow)
    → start.told.files ≡ Some files → (reach : Reach) (founds : List TrackFound)
    → AllFound asked start now reach founds → (number : ℕ)
    → IsWithout files asked.stepping asked.names number → ⊥

-- and one dump is the first that has none
abbrev pub RefusedDumpsAreOne : Type 0
RefusedDumpsAreOne = (asked : DumpsAsked) (files : List File) (number other : ℕ)
    → IsWithout files asked.stepping asked.names number
    → IsWithout files asked.stepping asked.names other → number ≡ other
