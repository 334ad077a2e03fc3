-- Whom an answer blames: of which object of the outside it tells a fault.
use Rattle.std.specs.Prelude.{ℕ, List, [], ◌∷◌, Result, Err}
use Rattle.flux_base.specs.Blames.{Blame, no_one, the_image, the_notes, the_source}
use Rattle.scp_unpack.specs.declared.fault.UnpackFault.{UnpackFault}
use Rattle.scp_unpack.specs.declared.fault.UnpackFault.TheVariants.{FileFault, FolderFault}
use Rattle.scp_unpack.specs.declared.fault.UnpackFault.TheVariants.{NotesFault, ReadFault}

-- the shelf stands in the place of a source, and files are made in that of the sink of an image
abbrev pub unpack_blame : {A : Type 0} → Result A UnpackFault → Blame
unpack_blame (Err ReadFault) = the_source
unpack_blame (Err FolderFault) = the_image
unpack_blame (Err (FileFault n)) = the_image
unpack_blame (Err NotesFault) = the_notes
unpack_blame _ = no_one

-- the path of the file, where it failed
abbrev pub unpack_lost : {A : Type 0} → (path : List ℕ) → Result A UnpackFault → List (List ℕ)
unpack_lost path (Err ReadFault) = path ∷ []
unpack_lost path _ = []
