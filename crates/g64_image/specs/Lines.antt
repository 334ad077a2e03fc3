-- The line that says why a file is refused.
use Rattle.std.specs.Prelude.{ℕ, List, ◌++◌, codes, decimal}
use Rattle.g64_image.specs.declared.fault.G64Fault.{G64Fault}
use Rattle.g64_image.specs.declared.fault.G64Fault.TheVariants.{TooLarge, ShortHeader, BadSignature}
use Rattle.g64_image.specs.declared.fault.G64Fault.TheVariants.{BadVersion, BadTracks, ShortTable}
use Rattle.g64_image.specs.declared.fault.G64Fault.TheVariants.{BadOffset, ShortTrack}

-- the name of a fault, and its numbers
unfoldable pub fault_text : G64Fault → List ℕ
fault_text TooLarge = codes "TooLarge"
fault_text (ShortHeader size) = codes "ShortHeader " ++ decimal size
fault_text BadSignature = codes "BadSignature"
fault_text (BadVersion version) = codes "BadVersion " ++ decimal version
fault_text (BadTracks number) = codes "BadTracks " ++ decimal number
fault_text (ShortTable size) = codes "ShortTable " ++ decimal size
fault_text (BadOffset track offset) =
    codes "BadOffset " ++ decimal track ++ codes " " ++ decimal offset
fault_text (ShortTrack track size) =
    codes "ShortTrack " ++ decimal track ++ codes " " ++ decimal size

unfoldable pub g64_text : G64Fault → List ℕ
g64_text fault = codes "refused g64 " ++ fault_text fault ++ codes "\n"
