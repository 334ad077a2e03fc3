-- What is told of an SCP file and of its tracks.
use Rattle.std.specs.Prelude.{ℕ, List, ◌++◌, codes, decimal}
use Rattle.flux_base.specs.declared.track.TrackId.{TrackId}
use Rattle.scp_files.specs.declared.fault.ScpFault.{ScpFault}
use Rattle.sector_report.specs.Lines.{fault_text, two_digits}
use Rattle.sector_report.specs.ScpLines.{scp_fault_text, scp_file_fault_text}
use Rattle.scp_files.specs.declared.fault.TrackTold.{TrackTold}
use Rattle.scp_files.specs.declared.fault.TrackTold.TheVariants.{Fault, Refused}

abbrev pub track_name : TrackId → List ℕ
track_name track = two_digits track.cylinder ++ codes "." ++ decimal track.head

unfoldable pub told_text : TrackId → TrackTold → List ℕ
told_text track (Fault fault) =
    track_name track ++ codes " refused scp " ++ scp_fault_text fault ++ codes "\n"
told_text track (Refused block fault) =
    track_name track ++ (codes " refused block " ++ decimal block) ++ codes " "
    ++ fault_text fault ++ codes "\n"

unfoldable pub total_text : (files refused : ℕ) → List ℕ
total_text files refused =
    codes "total files " ++ decimal files ++ codes " refused " ++ decimal refused ++ codes "\n"

unfoldable pub refused_text : ScpFault → List ℕ
refused_text fault = codes "refused scp " ++ scp_file_fault_text fault ++ codes "\n"
