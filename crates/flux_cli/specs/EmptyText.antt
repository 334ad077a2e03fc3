-- What is told of a dump that has none of the tracks that were looked for: its number, its path, and
-- what is there; or why it has no tracks, if it is an SCP file.
use Rattle.std.specs.Prelude.{◌-◌, if◌then◌else◌, nat_le, ℕ, List, ◌++◌, length, drop, codes}
use Rattle.std.specs.Prelude.{decimal}
use Rattle.track_shelf.specs.declared.kind.DumpKind.{DumpKind}
use Rattle.track_shelf.specs.declared.kind.DumpKind.TheVariants.{NotThere, AFile, NoFiles}
use Rattle.track_shelf.specs.declared.kind.DumpKind.TheVariants.{OtherTracks, Named, Unknown}
use Rattle.track_shelf.specs.declared.kind.DumpKind.TheVariants.{RefusedScp}
use Rattle.sector_report.specs.ScpLines.{scp_file_fault_text}

-- a path as it is told: of one that has more than 100 bytes the last 100, behind two points
unfoldable pub told_path : List ℕ → List ℕ
told_path path =
    if nat_le (length path) 100 then path else codes ".." ++ drop (length path - 100) path

-- its path, and what is there; or the fault of the SCP file
abbrev pub kind_text : (dump : List ℕ) → DumpKind → List ℕ
kind_text dump NotThere = told_path dump ++ codes " is not there\n"
kind_text dump AFile = told_path dump ++ codes " is a file\n"
kind_text dump NoFiles = told_path dump ++ codes " has no files trackCC.H.raw\n"
kind_text dump OtherTracks = told_path dump ++ codes " has files of other tracks alone\n"
kind_text dump (Named prefix) =
    told_path dump ++ (codes " has files " ++ (prefix ++ codes "CC.H.raw: name one of them\n"))
kind_text dump (RefusedScp fault) = codes "scp " ++ scp_file_fault_text fault ++ codes "\n"
kind_text dump Unknown = told_path dump ++ codes " cannot be looked at\n"

unfoldable pub empty_text : (number : ℕ) → (dump : List ℕ) → DumpKind → List ℕ
empty_text number dump kind =
    (codes "refused dump " ++ decimal number ++ codes " ") ++ kind_text dump kind
