-- Whom an answer blames: of which object of the outside it tells a fault.
use Rattle.std.specs.Prelude.{Bool, true, false, Result, Err}
use Rattle.flux_base.specs.Blames.{Blame, no_one, the_image, the_source}
use Rattle.stream_files.specs.declared.fault.SplitFault.{SplitFault}
use Rattle.stream_files.specs.declared.fault.SplitFault.TheVariants.{FileFault, FolderFault}
use Rattle.stream_files.specs.declared.fault.SplitFault.TheVariants.{ReadFault}

-- files are made in the place of the sink of an image
abbrev pub split_blame : {A : Type 0} → Result A SplitFault → Blame
split_blame (Err ReadFault) = the_source
split_blame (Err FolderFault) = the_image
split_blame (Err (FileFault k)) = the_image
split_blame _ = no_one

-- it tells a fault of what makes files
abbrev pub is_of_maker : {A : Type 0} → Result A SplitFault → Bool
is_of_maker (Err FolderFault) = true
is_of_maker (Err (FileFault k)) = true
is_of_maker _ = false
