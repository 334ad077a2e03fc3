-- What is kept of a disk, and the files of it.
use Rattle.std.specs.Prelude.{ℕ, List, map}
use Rattle.file_maker.specs.Made.{path_in}
use Rattle.track_shelf.specs.Files.{File}
use Rattle.disk_summary.specs.declared.summary.Summary.{Summary}
use Rattle.disk_archive.specs.Names.{all_files, name_of}
use Rattle.disk_archive.specs.declared.held.HeldDisk.{HeldDisk}
use Rattle.disk_archive.specs.declared.names.KeptFile.{KeptFile}
use Rattle.disk_archive.specs.declared.names.KeptFile.TheVariants.{Report, Image, Picture}
use Rattle.disk_archive.specs.declared.names.KeptFile.TheVariants.{Summary as TheSummary}

-- the summary's numbers, and the bytes of all
pub record Kept : Type 0 where
  pub summary : Summary
  pub image : List ℕ
  pub report : List ℕ
  pub picture : List ℕ
  pub line : List ℕ

-- what lies in memory
abbrev pub kept_of : HeldDisk → Kept
kept_of held = record {
  summary = held.summary;
  image = held.image.written;
  report = held.report.written;
  picture = held.picture.written;
  line = held.line.written;
}

-- the bytes of a file
abbrev pub text_of : Kept → KeptFile → List ℕ
text_of kept Report = kept.report
text_of kept Image = kept.image
text_of kept Picture = kept.picture
text_of kept TheSummary = kept.line

abbrev pub file_of : (folder : List ℕ) → Kept → KeptFile → File
file_of folder kept file = record {
  path = path_in folder (name_of kept.summary.format file);
  bytes = text_of kept file;
}

abbrev pub files_of : (folder : List ℕ) → Kept → List KeptFile → List File
files_of folder kept files = map (file_of folder kept) files

abbrev pub all_of : (folder : List ℕ) → Kept → List File
all_of folder kept = files_of folder kept all_files
