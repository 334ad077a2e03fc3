-- The files of a disk, as they are made one after another.
use Rattle.std.specs.Prelude.{option_map}
use Rattle.std.proofs.Common.{◌≡◌, ℕ, List, [], ◌∷◌, ◌++◌, Option, Ok, ap, ◌∙◌}
use Rattle.file_maker.specs.Made.{Made, made_folder}
use Rattle.file_maker.specs.Makes.{MakesIn, with_files}
use Rattle.file_maker.specs.lemmas.Making.{made_in, more_files, no_files}
use Rattle.track_shelf.specs.Files.{File}
use Rattle.disk_archive.specs.Kept.{Kept, files_of}
use Rattle.disk_archive.specs.Making.{CutAt, MakesMore}
use Rattle.disk_archive.specs.Names.{before_of}
use Rattle.disk_archive.specs.declared.names.KeptFile.{KeptFile}

-- one file more
pub one-more : (files : List File) (file : File) (made mid now : Option Made) → MakesMore files made mid → now ≡ option_map (with_files (file ∷ [])) mid → MakesMore (files ++ file ∷ []) made now
one-more files file made mid now before grew = grew ∙ ap (option_map (with_files (file ∷ []))) before ∙ more_files files (file ∷ []) made

pub none-yet : (made : Option Made) → MakesMore [] made made
none-yet made = no_files made

-- the folder was made before them
pub in-folder : (folder : List ℕ) (kept : Kept) (file : KeptFile) (made before now : Option Made) (u : Unit {0}) → before ≡ option_map (made_folder folder (Ok u)) made
    → CutAt MakesMore folder kept file before now → CutAt (MakesIn folder) folder kept file made now
in-folder folder kept file made before now u is (mid, makes, cut) = (mid, made_in folder (files_of folder kept (before_of file)) made before mid u is makes, cut)
