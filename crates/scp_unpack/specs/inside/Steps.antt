-- One track that is unpacked.
use Rattle.std.specs.Prelude.{◌≡◌, ℕ, List, [], ◌∷◌, option_map, take, Option, Some}
use Rattle.std.specs.Prelude.{Result, Ok, Err}
use Rattle.std.specs.Io.KnownBytes.{Appends}
use Rattle.flux_base.specs.Outside.{AppendsPart}
use Rattle.flux_base.specs.declared.outside.Failed.{Failed}
use Rattle.file_maker.specs.Made.{Made}
use Rattle.file_maker.specs.Makes.{MakesFile, with_files}
use Rattle.scp_files.specs.Files.{FRONT_SIZE}
use Rattle.track_shelf.specs.Files.{File, file_at}
use Rattle.scp_unpack.specs.Answers.{Asked, UnpacksTo, count_of}
use Rattle.scp_unpack.specs.Files.{file_with, files_of, lines_of}
use Rattle.scp_unpack.specs.Tracks.{TrackCame}
use Rattle.scp_unpack.specs.declared.fault.UnpackFault.{UnpackFault}
use Rattle.scp_unpack.specs.declared.fault.UnpackFault.TheVariants.{FileFault, NotesFault}
use Rattle.scp_unpack.specs.declared.fault.UnpackFault.TheVariants.{ReadFault}
use Rattle.scp_unpack.specs.declared.unpacking.Unpacked.{Unpacked}

-- what became of a track of which this is known: it was read, made a file, and told; or which of
-- these failed
abbrev pub UnpacksTrack : (folder : List ℕ) → (number : ℕ) → (Known : TrackCame → Type 0)
    → (made made' : Option Made) → (notes notes' : Option (List ℕ)) → Result Unpacked UnpackFault
    → Type 0
UnpacksTrack folder number Known made made' notes notes' (Ok one) =
    (came : TrackCame) × Known came × (one ≡ count_of folder (came ∷ []))
    × (made' ≡ option_map (with_files (files_of folder (came ∷ []))) made)
    × Appends notes notes' (lines_of (came ∷ []))
UnpacksTrack folder number Known made made' notes notes' (Err ReadFault) =
    (made' ≡ made) × (notes' ≡ notes)
UnpacksTrack folder number Known made made' notes notes' (Err (FileFault n)) =
    (n ≡ number) × (came : TrackCame) × Known came × (bytes : List ℕ)
    × (came.stream ≡ Some bytes) × (failed : Failed)
    × MakesFile (file_with folder number bytes) made made' (Err failed) × (notes' ≡ notes)
UnpacksTrack folder number Known made made' notes notes' (Err NotesFault) =
    (came : TrackCame) × Known came
    × (made' ≡ option_map (with_files (files_of folder (came ∷ []))) made)
    × AppendsPart notes notes' (lines_of (came ∷ []))
UnpacksTrack folder number Known made made' notes notes' (Err _) = ⊥

-- these bytes are the begin of the file
abbrev pub IsFront : Asked → (header : List ℕ) → Type 0
IsFront asked header = (files : List File) (file : File) → asked.shelf ≡ Some files
    → file_at files asked.path ≡ Some file → header ≡ take FRONT_SIZE file.bytes

-- files were made behind these
abbrev pub MakesBehind : (made made' : Option Made) → List File → Type 0
MakesBehind made made' files = made' ≡ option_map (with_files files) made

-- the tracks before number n are unpacked, and counted
abbrev pub HasUnpacked : Asked → (n : ℕ) → (made made' : Option Made)
    → (notes notes' : Option (List ℕ)) → Unpacked → Type 0
HasUnpacked asked n made made' notes notes' unpacked =
    (came : List TrackCame) × UnpacksTo asked n came (MakesBehind made made') notes notes'
    × (unpacked ≡ count_of asked.folder came)
