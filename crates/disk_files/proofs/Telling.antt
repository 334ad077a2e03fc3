-- What the answers of the call as a whole say.
use Rattle.std.proofs.Common.{◌≡◌, ◌≤◌, ◌<◌, ◌+◌, ◌∙◌, ◌++◌, ℕ, List, drop, length, take, sym, ap, refl, arith, length-append, length-take, Option, Some, None, Err, Ok}
use Rattle.std.proofs.lemmas.List.{take-append-drop, take-append-le}
use Rattle.std.specs.Io.KnownBytes.{Consumes, IsAtEnd}
use Rattle.std.specs.Option.{option_map}
use Rattle.file_maker.specs.Made.{Made, made_folder}
use Rattle.file_maker.specs.Makes.{with_files}
use Rattle.file_maker.specs.lemmas.Making.{made_in}
use Rattle.flux_base.specs.declared.outside.Failed.{Failed}
use Rattle.flux_engine.specs.Writes.{IsWholeImage, most_read}
use Rattle.sector_images.specs.Formats.{row}
use Rattle.sector_images.specs.Places.{tracks}
use Rattle.sector_images.specs.declared.format.Format.{Format}
use Rattle.disk_files.specs.Answers.{IsFirstThere, MakesFiles, WritesFiles}
use Rattle.disk_files.specs.Files.{DiskFolder, disk_files}
use Rattle.disk_files.specs.declared.fault.FilesFault.TheVariants.{Exists, FileFault, FolderFault}
use Rattle.disk_files.proofs.Making.{no-folder}

-- as many bytes were read as an image has, into room for one more
pub whole-image : (format : Format) (buffer : List ℕ) (read : ℕ) (left' : Option (List ℕ)) → length buffer ≡ most_read format → read ≡ (row format).image_size
    → (read < length buffer → IsAtEnd left') → IsWholeImage format (take read buffer) left'
whole-image format buffer read left' room is ended = record {
  size = omega (arith, length-take read buffer, room, is);
  ended = ended (omega (arith, room, is));
}

-- they are at the front of the room after it was written back
pub front-of : (read len : ℕ) (buffer rest : List ℕ) → read ≤ len → read ≤ length buffer → take read (take len (buffer ++ rest)) ≡ take read buffer
front-of read len buffer rest low within =
    let all = buffer ++ rest in
    let enough : read ≤ length (take len all) = omega (arith, length-take len all, length-append buffer rest, low, within) in
    sym (take-append-le read (take len all) (drop len all) enough) ∙ ap (take read) (take-append-drop len all) ∙ take-append-le read buffer rest within

module _ (disk : DiskFolder) (image : List ℕ) (left left' : Option (List ℕ)) (made : Option Made) (consumed : Consumes left left' image)
    (whole : IsWholeImage disk.format image left') where
  pub says-exists : (k : ℕ) → k < length (tracks disk.format) → IsFirstThere made disk (Some k) → WritesFiles disk left left' made made (Err (Exists k))
  says-exists k below first = record { taken = image; consumed = consumed; says = (whole, below, first, refl) }

  module _ (none : IsFirstThere made disk None) where
    pub says-folder : (made' : Option Made) (failed : Failed) → made' ≡ option_map (made_folder disk.folder (Err failed)) made
        → WritesFiles disk left left' made made' (Err FolderFault)
    says-folder made' failed is = record { taken = image; consumed = consumed; says = (whole, none, no-folder disk.folder made made' failed is) }

    module _ (before made' : Option Made) (it : Unit {0}) (is : before ≡ option_map (made_folder disk.folder (Ok it)) made) where
      pub says-all : made' ≡ option_map (with_files (disk_files disk image)) before → WritesFiles disk left left' made made' (Ok it)
      says-all grew =
          record { taken = image; consumed = consumed; says = (whole, none, made_in disk.folder (disk_files disk image) made before made' it is grew) }

      pub says-file : (k : ℕ) → MakesFiles disk image before made' (Err k) → WritesFiles disk left left' made made' (Err (FileFault k))
      says-file k cut = record {
        taken = image;
        consumed = consumed;
        says = (whole, none, cut.0, cut.1, cut.2, made_in disk.folder cut.1 made before made' it is cut.3);
      }
