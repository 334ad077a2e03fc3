-- What words ask, as the commands take it: what it keeps to; and of dumps each disk is read by both
-- clocks, and all files of its dumps are looked at.
use Rattle.std.specs.Prelude.{◌≡◌, ◌<◌, true, length, option_map}
use Rattle.flux_engine.specs.Recordings.{track_at}
use Rattle.dump_reading.specs.Outcomes.{DumpDisk}
use Rattle.dump_reading.specs.declared.looks.Looks.TheVariants.{Always}
use Rattle.flux_engine.specs.declared.plan.Clocks.TheVariants.{Both}
use Rattle.sector_images.specs.Places.{IsSector, tracks}
use Rattle.track_shelf.specs.Names.{is_folder}
use Rattle.flux_words.specs.ArchiveWords.{AskedArchive}
use Rattle.flux_words.specs.Asked.{Asked, some_streams, some_dumps, a_sector, an_imd_file}
use Rattle.flux_words.specs.Asked.{an_archive}
use Rattle.flux_words.specs.Asked.{written_files}
use Rattle.flux_words.specs.Counts.{IsManyCaptures}
use Rattle.flux_words.specs.DumpWords.{AskedDumps, CanBeRead}
use Rattle.flux_words.specs.ImdWords.{AreNamed}
use Rattle.flux_words.specs.SectorWords.{AskedSector, CanBeShown}
use Rattle.flux_words.specs.declared.commands.Way.{Way}
use Rattle.flux_words.specs.declared.commands.Way.TheVariants.{Often}
use Rattle.flux_words.specs.declared.archive_words.DiskAsked.{DiskAsked}
use Rattle.disk_archive.specs.Finding.{Asked as Kept}
use Rattle.dump_identity.specs.declared.candidate.Candidate.{Candidate}
use Rattle.sector_copies.specs.Shown.{SectorAsked}

-- the disk that is to be read
abbrev pub asked_disk : AskedDumps → DumpDisk
asked_disk asked =
    record { stepping = asked.stepping; dumps = asked.dumps; format = asked.format; clocks = Both; looks = Always }

-- and the sector that is to be shown of one
abbrev pub shown_sector : AskedSector → SectorAsked
shown_sector asked = record {
  disk = record { stepping = asked.stepping; dumps = asked.dumps; format = asked.format; clocks = Both; looks = Always };
  number = asked.number;
  sector = asked.sector;
  alone = asked.alone;
}

-- and the disk that is to be kept
abbrev pub candidate_of : DiskAsked → Candidate
candidate_of disk = record { stepping = disk.stepping; format = disk.format }

abbrev pub kept_disk : AskedArchive → Kept
kept_disk asked = record {
  disk = option_map candidate_of asked.disk;
  folder = asked.folder;
  dumps = asked.dumps;
}

-- what is asked keeps to this
abbrev pub IsFew : Way → Type 0
IsFew (Often count) = IsManyCaptures count
IsFew _ = Unit {0}

-- a sector is one of a track of its format, and the dumps can be read
pub record IsPlaced (asked : AskedSector) : Type 0 where
  pub shown : CanBeShown asked
  pub low : asked.number < length (tracks asked.format)
  pub is : IsSector asked.format (track_at asked.format asked.number) asked.sector

abbrev pub Keeps : Asked → Type 0
Keeps (some_streams asked) = IsFew asked.way
Keeps (some_dumps asked) = CanBeRead asked
Keeps (a_sector asked) = IsPlaced asked
Keeps (an_imd_file asked) = AreNamed asked.dumps
Keeps (an_archive asked) = AreNamed asked.dumps
Keeps (written_files format folder) = is_folder folder ≡ true
Keeps _ = Unit {0}
