-- What the files of a dump come to.
use Rattle.std.specs.Prelude.{◌≡◌, ◌≤◌, ℕ, List, length, Option, Some}
use Rattle.dump_reading.specs.DumpStreams.{AreOfDumps, FailedAlike}
use Rattle.flux_engine.specs.Plans.{Seen}
use Rattle.track_shelf.specs.Files.{File}
use Rattle.dump_numbers.specs.Found.{FindsDisks, files_of}
use Rattle.dump_numbers.specs.Sets.{FILES}
use Rattle.dump_numbers.specs.declared.finding.NumbersFound.{NumbersFound}

-- Of the same files the same disks are found, whenever and from whatever shelf they are read, where
-- the same of them failed.
abbrev pub NumbersAreOne : Type 0
NumbersAreOne = (dump : List ℕ) (files : List File) (told told' : Option (List File))
    → told ≡ Some files → told' ≡ Some files
    → (came came' : List Seen) → FILES ≤ length came → FILES ≤ length came'
    → AreOfDumps (files_of dump) told came → AreOfDumps (files_of dump) told' came'
    → FailedAlike came came'
    → (a b : NumbersFound) → FindsDisks came a → FindsDisks came' b
    → (a.disks.items ≡ b.disks.items) × (a.foreign.items ≡ b.foreign.items)
