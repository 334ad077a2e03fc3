-- What the words of the command line ask for, as contracts see it.
use Rattle.std.specs.Prelude.{ℕ, List}
use Rattle.flux_help.specs.declared.page.Page.{Page}
use Rattle.sector_images.specs.declared.format.Format.{Format}
use Rattle.stream_files.specs.declared.heads.Heads.{Heads}
use Rattle.flux_words.specs.ArchiveWords.{AskedArchive, asked_archive}
use Rattle.flux_words.specs.DumpWords.{AskedDumps, asked_dumps}
use Rattle.flux_words.specs.ImdWords.{AskedImd, asked_imd}
use Rattle.flux_words.specs.SectorWords.{AskedSector, asked_sector}
use Rattle.flux_words.specs.declared.commands.Command.{Command}
use Rattle.flux_words.specs.declared.commands.Command.TheVariants.{Turns, Streams, Folder, Dumps}
use Rattle.flux_words.specs.declared.commands.Command.TheVariants.{Archive, Sector, Identify, Imd, Info}
use Rattle.flux_words.specs.declared.commands.Command.TheVariants.{Write, WriteFiles, Split, Unpack}
use Rattle.flux_words.specs.declared.commands.Command.TheVariants.{Trial, ToG64, FromG64, Tell}
use Rattle.flux_words.specs.declared.commands.StreamsAsked.{StreamsAsked}
use Rattle.flux_words.specs.declared.g64_disk.G64Disk.{G64Disk}

pub data Asked : Type 0 where
  -- the transitions and the turns of a stream
  the_turns : Asked
  -- a disk of the streams of its tracks
  some_streams : StreamsAsked → Asked
  -- the image of the track files of a folder
  a_folder : Format → (folder : List ℕ) → Asked
  -- a disk of dumps
  some_dumps : AskedDumps → Asked
  -- what dumps have of one sector
  a_sector : AskedSector → Asked
  -- which disk a dump is of
  an_identity : (dump : List ℕ) → Asked
  -- what the files of a dump tell without any format
  told_files : (dump : List ℕ) → Asked
  -- any IBM disk of its dumps, as a file of ImageDisk
  an_imd_file : AskedImd → Asked
  -- all that is kept of a disk of its dumps, as files of a folder
  an_archive : AskedArchive → Asked
  -- the streams of an image
  written_streams : Format → Asked
  -- the same as files of a folder
  written_files : Format → (folder : List ℕ) → Asked
  -- joined streams, as files of a folder, of a disk of so many heads
  split_streams : (folder : List ℕ) → Heads → Asked
  -- the tracks of an SCP file, as files of a folder
  unpacked_file : (file folder : List ℕ) → Asked
  a_trial : Format → (seed : ℕ) → Asked
  -- the file that emulators keep of an image, and the image of such a file
  a_g64_file : G64Disk → Asked
  an_image_of_g64 : G64Disk → Asked
  -- what the program says of itself
  a_page : Page → Asked

abbrev pub asked_of : Command → Asked
asked_of Turns = the_turns
asked_of (Streams asked) = some_streams asked
asked_of (Folder format folder) = a_folder format folder.now
asked_of (Dumps asked) = some_dumps (asked_dumps asked)
asked_of (Sector asked) = a_sector (asked_sector asked)
asked_of (Identify dump) = an_identity dump.now
asked_of (Info dump) = told_files dump.now
asked_of (Imd asked) = an_imd_file (asked_imd asked)
asked_of (Archive asked) = an_archive (asked_archive asked)
asked_of (Write format) = written_streams format
asked_of (WriteFiles format folder) = written_files format folder.now
asked_of (Split folder heads) = split_streams folder.now heads
asked_of (Unpack file folder) = unpacked_file file.now folder.now
asked_of (Trial format seed) = a_trial format seed
asked_of (ToG64 disk) = a_g64_file disk
asked_of (FromG64 disk) = an_image_of_g64 disk
asked_of (Tell page) = a_page page
