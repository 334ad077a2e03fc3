-- The words of the fault of an SCP file's track are read back.
use Rattle.std.specs.Prelude.{◌≡◌, ◌==◌, ℕ, List, [], ◌∷◌, ◌++◌, codes, decimal, if◌then◌else◌, refl}
use Rattle.std.specs.Str.Parse.{digits_value}
use Rattle.std.proofs.Common.{ap}
use Rattle.scp_files.specs.declared.fault.ScpTrackFault.{ScpTrackFault}
use Rattle.scp_files.specs.declared.fault.ScpTrackFault.TheVariants.{BadNumber, BadSignature, ShortData, ShortTrack, TooLong}
use Rattle.sector_report.specs.DumpLines.{ScpFaultFits}
use Rattle.sector_report.specs.ScpLines.{scp_fault_text}
use Rattle.sector_report.proofs.FaultWords.{name_key, number-is, number_words}
use Rattle.sector_report.proofs.LineWords.{word-codes, word_at, words}

-- the words of a fault and of the line end behind it
abbrev pub scp_words : ScpTrackFault → List (List ℕ)
scp_words ShortTrack = codes "ShortTrack" ∷ [] ∷ []
scp_words BadSignature = codes "BadSignature" ∷ [] ∷ []
scp_words (BadNumber number) = codes "BadNumber" ∷ decimal number ∷ [] ∷ []
scp_words TooLong = codes "TooLong" ∷ [] ∷ []
scp_words (ShortData revolution) = codes "ShortData" ∷ decimal revolution ∷ [] ∷ []

pub scp_words-are : (fault : ScpTrackFault) → words (scp_fault_text fault ++ codes "\n") ≡ scp_words fault
unfolding scp_fault_text
scp_words-are ShortTrack = refl
scp_words-are BadSignature = refl
scp_words-are (BadNumber number) = number_words (codes "BadNumber") number (word-codes (codes "BadNumber") refl)
scp_words-are TooLong = refl
scp_words-are (ShortData revolution) = number_words (codes "ShortData") revolution (word-codes (codes "ShortData") refl)

-- the fault of these words
abbrev pub scp_of : List (List ℕ) → ScpTrackFault
scp_of ws =
    let key = name_key (word_at ws 0) in
    let number = digits_value 10 (word_at ws 1) in
    if key == name_key (codes "ShortTrack") then ShortTrack else
    if key == name_key (codes "BadSignature") then BadSignature else
    if key == name_key (codes "BadNumber") then BadNumber number else
    if key == name_key (codes "TooLong") then TooLong else ShortData number

pub scp-back : (fault : ScpTrackFault) → ScpFaultFits fault → scp_of (scp_words fault) ≡ fault
scp-back ShortTrack fits = refl
scp-back BadSignature fits = refl
scp-back (BadNumber number) fits = ap BadNumber (number-is number fits)
scp-back TooLong fits = refl
scp-back (ShortData revolution) fits = ap ShortData (number-is revolution fits)
