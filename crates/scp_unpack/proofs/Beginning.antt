-- A file by its begin, and what unpacking it answers behind the tracks.
use Rattle.std.proofs.Common.{◌≡◌, ◌≤◌, if◌then◌else◌, ℕ, Bool, true, false, List, length, nat_lt, Option, Some, None, Err, Ok, inr, refl, sym, ap, subst, ◌∙◌, arith}
use Rattle.std.proofs.lemmas.Bool.Decides.{nat_tests}
use Rattle.std.specs.Option.{option_map}
use Rattle.file_maker.specs.Made.{Made, made_folder}
use Rattle.file_maker.specs.lemmas.Making.{made_in}
use Rattle.track_shelf.specs.Files.{File}
use Rattle.scp_files.specs.Files.{HEADER_SIZE, file_fault}
use Rattle.scp_files.specs.Laws.{FileBeginTells}
use Rattle.scp_files.specs.declared.fault.ScpFault.{ScpFault}
use Rattle.scp_tracks.specs.Tracks.{IsBeginOf}
use Rattle.scp_unpack.specs.Answers.{Answer, Asked, CanUnpack, SaysInFolder, SaysOf, SaysOfTracks}
use Rattle.scp_unpack.specs.declared.fault.UnpackFault.TheVariants.{Exists, FileFault, FolderFault, NotThere, NotesFault, ReadFault, Refused}
use Rattle.scp_unpack.specs.inside.Steps.{MakesBehind}
use Rattle.scp_unpack.proofs.Coming.{says-more}

none_some : {X : Type 0} {x : X} → None ≡ Some x → ⊥
none_some same = cc

-- a fault of the begin is one of the file
pub fault-is : (tells : (file : List ℕ) → FileBeginTells file) (at : Option File) (begin : Option (List ℕ)) (header : List ℕ) (why : Option ScpFault)
    → begin ≡ Some header → IsBeginOf at begin → why ≡ file_fault header
    → (file : File) × (at ≡ Some file) × (file_fault file.bytes ≡ why)
fault-is tells at begin header why is begins fault = by at (subst (IsBeginOf at) is begins)
  where
    by : (it : Option File) → IsBeginOf it (Some header) → (file : File) × (it ≡ Some file) × (file_fault file.bytes ≡ why)
    by None b = absurd b
    by (Some file) b = (file, refl, sym (tells file.bytes).fault ∙ ap file_fault (sym b) ∙ sym fault)

-- the tracks are made files in a folder that was made before
pub says-whole : (asked : Asked) (made mid made' : Option Made) (notes notes' : Option (List ℕ)) (u : Unit {0}) → CanUnpack asked made
    → mid ≡ option_map (made_folder asked.folder (Ok u)) made
    → (answer : Answer) → SaysOfTracks asked (MakesBehind mid made') notes notes' answer → SaysOf asked made made' notes notes' answer
says-whole asked made mid made' notes notes' u can is answer s =
    by answer (can, says-more asked notes notes' (MakesBehind mid made') _ (λ files behind. made_in asked.folder files made mid made' u is behind) answer s)
  where
    by : (a : Answer) → SaysInFolder asked made made' notes notes' a → SaysOf asked made made' notes notes' a
    by (Ok unpacked) it = it
    by (Err ReadFault) it = inr it
    by (Err (FileFault n)) it = it
    by (Err NotesFault) it = it
    by (Err NotThere) it = absurd it.1
    by (Err (Refused why)) it = absurd it.1
    by (Err (Exists n)) it = absurd it.1
    by (Err FolderFault) it = absurd it.1
