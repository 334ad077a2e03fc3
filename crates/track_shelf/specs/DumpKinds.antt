-- What lies under the name of a dump.
use Rattle.std.specs.Prelude.{◌≡◌, ◌+◌, ◌-◌, ◌&&◌, ◌==◌, if◌then◌else◌, ℕ, Bool, not, List, [], ◌∷◌}
use Rattle.std.specs.Prelude.{◌++◌, length, take, drop, nat_le, codes, Option, Some, None, is_some}
use Rattle.std.specs.List.{filter_map, list_all, list_any}
use Rattle.std.specs.Str.{bytes_eq, is_utf8}
use Rattle.track_shelf.specs.Files.{File, file_at}
use Rattle.scp_files.specs.Files.{file_fault}
use Rattle.scp_files.specs.declared.fault.ScpFault.{ScpFault}
use Rattle.track_shelf.specs.Names.{ENDING_SIZE, is_scp, names_file}
use Rattle.track_shelf.specs.declared.kind.DumpKind.{DumpKind}
use Rattle.track_shelf.specs.declared.kind.DumpKind.TheVariants.{NotThere, AFile, NoFiles}
use Rattle.track_shelf.specs.declared.kind.DumpKind.TheVariants.{OtherTracks, Named, RefusedScp}

-- a byte of a name: no control character, and no slash
abbrev pub is_plain : ℕ → Bool
is_plain byte = nat_le 32 byte && (not (byte == 127) && not (byte == 47))

-- a system's names have at most 255 bytes
abbrev pub MOST_PREFIX : ℕ
MOST_PREFIX = 247

abbrev pub is_prefix : List ℕ → Bool
is_prefix bytes = nat_le (length bytes) MOST_PREFIX && (list_all is_plain bytes && is_utf8 bytes)

-- what stands before the ending of a name that ends as that of a track's file
unfoldable pub prefix_of : (name : List ℕ) → Option (List ℕ)
prefix_of name =
    if names_file name && is_prefix (take (length name - ENDING_SIZE) name)
    then Some (take (length name - ENDING_SIZE) name)
    else None

-- what stands in a path behind a folder and a slash
unfoldable pub name_in : (folder path : List ℕ) → Option (List ℕ)
name_in folder path =
    if bytes_eq (take (length folder + 1) path) (folder ++ codes "/")
    then Some (drop (length folder + 1) path) else None

-- the names of what lies in a folder
abbrev pub names_in : List File → (folder : List ℕ) → List (List ℕ)
names_in files folder = filter_map (λ file. name_in folder file.path) files

-- the first prefix is told
abbrev pub first_named : (prefixes : List (List ℕ)) → DumpKind
first_named [] = NoFiles
first_named (prefix ∷ rest) = Named prefix

abbrev pub kind_by : (prefixes : List (List ℕ)) → DumpKind
kind_by prefixes =
    if list_any (bytes_eq (codes "track")) prefixes then OtherTracks else first_named prefixes

-- a folder, by the names of what lies in it; no folder is empty
unfoldable pub kind_of_folder : (names : List (List ℕ)) → DumpKind
kind_of_folder [] = NotThere
kind_of_folder (name ∷ names) = kind_by (filter_map prefix_of (name ∷ names))

-- an SCP file: whether it is there, and why it has no tracks, if it has a fault
abbrev pub kind_by_fault : Option ScpFault → DumpKind
kind_by_fault None = OtherTracks
kind_by_fault (Some fault) = RefusedScp fault

abbrev pub kind_of_scp : Option File → DumpKind
kind_of_scp None = NotThere
kind_of_scp (Some file) = kind_by_fault (file_fault file.bytes)

-- what lies there: of a dump that is named by a file, whether that file does
unfoldable pub kind_in : List File → (dump : List ℕ) → DumpKind
kind_in files dump =
    if names_file dump
    then (if is_some (file_at files dump) then OtherTracks else NotThere)
    else if is_scp dump then kind_of_scp (file_at files dump)
    else (if is_some (file_at files dump) then AFile else kind_of_folder (names_in files dump))

-- what is said of it is so, where the files are told
abbrev pub IsKindOf : Option (List File) → (dump : List ℕ) → DumpKind → Type 0
IsKindOf None dump kind = Unit {0}
IsKindOf (Some files) dump kind = kind ≡ kind_in files dump
