-- Whom an answer blames: of which object of the outside it tells a fault.
use Rattle.std.specs.Prelude.{Result, Err}
use Rattle.flux_base.specs.Blames.{Blame, no_one, the_source, the_image}
use Rattle.disk_files.specs.declared.fault.FilesFault.{FilesFault}
use Rattle.disk_files.specs.declared.fault.FilesFault.TheVariants.{FileFault, FolderFault}
use Rattle.disk_files.specs.declared.fault.FilesFault.TheVariants.{ReadFault}

-- files are made in the place of the sink of an image
abbrev pub files_blame : {A : Type 0} → Result A FilesFault → Blame
files_blame (Err ReadFault) = the_source
files_blame (Err FolderFault) = the_image
files_blame (Err (FileFault k)) = the_image
files_blame _ = no_one
