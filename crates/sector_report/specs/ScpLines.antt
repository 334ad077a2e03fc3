-- The names of the faults of an SCP file and of its tracks, with their numbers.
use Rattle.std.specs.Prelude.{ℕ, List, ◌++◌, codes, decimal}
use Rattle.scp_files.specs.declared.fault.ScpFault.{ScpFault}
use Rattle.scp_files.specs.declared.fault.ScpFault.TheVariants.{BadWidth, NotFloppy, ShortHeader}
use Rattle.scp_files.specs.declared.fault.ScpFault.TheVariants.{BadSignature as BadFileSignature}
use Rattle.scp_files.specs.declared.fault.ScpTrackFault.{ScpTrackFault}
use Rattle.scp_files.specs.declared.fault.ScpTrackFault.TheVariants.{BadNumber, BadSignature}
use Rattle.scp_files.specs.declared.fault.ScpTrackFault.TheVariants.{ShortData, ShortTrack, TooLong}

unfoldable pub scp_fault_text : ScpTrackFault → List ℕ
scp_fault_text ShortTrack = codes "ShortTrack"
scp_fault_text BadSignature = codes "BadSignature"
scp_fault_text (BadNumber number) = codes "BadNumber " ++ decimal number
scp_fault_text TooLong = codes "TooLong"
scp_fault_text (ShortData revolution) = codes "ShortData " ++ decimal revolution

unfoldable pub scp_file_fault_text : ScpFault → List ℕ
scp_file_fault_text (ShortHeader size) = codes "ShortHeader " ++ decimal size
scp_file_fault_text BadFileSignature = codes "BadSignature"
scp_file_fault_text NotFloppy = codes "NotFloppy"
scp_file_fault_text (BadWidth width) = codes "BadWidth " ++ decimal width
