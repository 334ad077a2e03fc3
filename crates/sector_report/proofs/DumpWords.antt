-- What the line of a stream that was passed over tells: its words are read back.
use Rattle.std.specs.Prelude.{◌≡◌, ◌==◌, ◌<◌, ◌^◌, ◌*◌, ◌+◌, ℕ, List, [], ◌∷◌, ◌++◌, codes, decimal, get_or, length, if◌then◌else◌, refl}
use Rattle.std.specs.Str.Parse.{digits_value}
use Rattle.std.proofs.Common.{ap, sym, ◌∙◌, append_assoc, drop}
use Rattle.std.proofs.lemmas.Fmt.{decimal_is_IsNumeral}
use Rattle.flux_base.specs.declared.track.TrackId.{TrackId}
use Rattle.kryo_stream.specs.declared.fault.StreamFault.{StreamFault}
use Rattle.kryo_stream.specs.declared.fault.StreamFault.TheVariants.{Truncated, UnknownType, BadSize, WrongPosition, DeviceFault, DataAfterEnd, IndexPosition, IndexOrder, NoTurn, TooLong}
use Rattle.sector_report.specs.DumpLines.{FaultFits, PassedFits, PassedLinesTell, dump_name, passed_text}
use Rattle.sector_report.specs.Lines.{fault_text, two_digits}
use Rattle.sector_report.specs.declared.dump_lines.Passed.{Passed}
use Rattle.sector_report.specs.declared.dump_lines.Passed.TheVariants.{Absent, Failed, Refused, RefusedScp}
use Rattle.sector_report.specs.ScpLines.{scp_fault_text}
use Rattle.sector_report.proofs.FaultWords.{name_key, number-is, number_words}
use Rattle.sector_report.proofs.ScpWords.{scp-back, scp_of, scp_words, scp_words-are}
use Rattle.sector_report.proofs.LineWords.{IsWord, next, two-same, word-codes, word-decimal, word-two, word_at, words}

-- the words of a fault and of the line end behind it
abbrev fault_words : StreamFault → List (List ℕ)
fault_words Truncated = codes "Truncated" ∷ [] ∷ []
fault_words (UnknownType kind) = codes "UnknownType" ∷ decimal kind ∷ [] ∷ []
fault_words (BadSize size) = codes "BadSize" ∷ decimal size ∷ [] ∷ []
fault_words (WrongPosition said counted) = codes "WrongPosition" ∷ decimal said ∷ decimal counted ∷ [] ∷ []
fault_words (DeviceFault code) = codes "DeviceFault" ∷ decimal code ∷ [] ∷ []
fault_words DataAfterEnd = codes "DataAfterEnd" ∷ [] ∷ []
fault_words IndexPosition = codes "IndexPosition" ∷ [] ∷ []
fault_words IndexOrder = codes "IndexOrder" ∷ [] ∷ []
fault_words NoTurn = codes "NoTurn" ∷ [] ∷ []
fault_words TooLong = codes "TooLong" ∷ [] ∷ []

numbers_shape : (name a b : List ℕ) → ((((name ++ codes " ") ++ a) ++ codes " ") ++ b) ++ codes "\n" ≡ name ++ 32 ∷ (a ++ 32 ∷ (b ++ 10 ∷ []))
numbers_shape name a b = simp append_assoc

fault_words-are : (fault : StreamFault) → words (fault_text fault ++ codes "\n") ≡ fault_words fault
unfolding fault_text
fault_words-are Truncated = refl
fault_words-are (UnknownType kind) = number_words (codes "UnknownType") kind (word-codes (codes "UnknownType") refl)
fault_words-are (BadSize size) = number_words (codes "BadSize") size (word-codes (codes "BadSize") refl)
fault_words-are (WrongPosition said counted) =
    ap words (numbers_shape (codes "WrongPosition") (decimal said) (decimal counted))
    ∙ next (codes "WrongPosition") (decimal said ++ 32 ∷ (decimal counted ++ 10 ∷ [])) 32 (word-codes (codes "WrongPosition") refl) refl
    ∙ ap (λ ws. codes "WrongPosition" ∷ ws) (next (decimal said) (decimal counted ++ 10 ∷ []) 32 (word-decimal said) refl)
    ∙ ap (λ ws. codes "WrongPosition" ∷ decimal said ∷ ws) (next (decimal counted) [] 10 (word-decimal counted) refl)
fault_words-are (DeviceFault code) = number_words (codes "DeviceFault") code (word-codes (codes "DeviceFault") refl)
fault_words-are DataAfterEnd = refl
fault_words-are IndexPosition = refl
fault_words-are IndexOrder = refl
fault_words-are NoTurn = refl
fault_words-are TooLong = refl

-- the fault of these words
abbrev fault_of : List (List ℕ) → StreamFault
fault_of ws =
    let key = name_key (word_at ws 0) in
    let first = digits_value 10 (word_at ws 1) in
    if key == name_key (codes "Truncated") then Truncated else
    if key == name_key (codes "UnknownType") then UnknownType first else
    if key == name_key (codes "BadSize") then BadSize first else
    if key == name_key (codes "WrongPosition") then WrongPosition first (digits_value 10 (word_at ws 2)) else
    if key == name_key (codes "DeviceFault") then DeviceFault first else
    if key == name_key (codes "DataAfterEnd") then DataAfterEnd else
    if key == name_key (codes "IndexPosition") then IndexPosition else
    if key == name_key (codes "IndexOrder") then IndexOrder else
    if key == name_key (codes "NoTurn") then NoTurn else TooLong

fault-back : (fault : StreamFault) → FaultFits fault → fault_of (fault_words fault) ≡ fault
fault-back Truncated fits = refl
fault-back (UnknownType kind) fits = ap UnknownType (number-is kind fits)
fault-back (BadSize size) fits = ap BadSize (number-is size fits)
fault-back (WrongPosition said counted) fits =
    ap (λ n. WrongPosition n (digits_value 10 (decimal counted))) (number-is said fits.0) ∙ ap (WrongPosition said) (number-is counted fits.1)
fault-back (DeviceFault code) fits = ap DeviceFault (number-is code fits)
fault-back DataAfterEnd fits = refl
fault-back IndexPosition fits = refl
fault-back IndexOrder fits = refl
fault-back NoTurn fits = refl
fault-back TooLong fits = refl

-- the words of the reason, and the reason of these words
abbrev why_words : Passed → List (List ℕ)
why_words Absent = codes "missing" ∷ [] ∷ []
why_words Failed = codes "failed" ∷ [] ∷ []
why_words (Refused block fault) = codes "refused" ∷ codes "block" ∷ decimal block ∷ fault_words fault
why_words (RefusedScp fault) = codes "refused" ∷ codes "scp" ∷ scp_words fault

abbrev why_of : List (List ℕ) → Passed
why_of ws =
    if get_or (word_at ws 0) 0 0 == 109 then Absent else
    if get_or (word_at ws 0) 0 0 == 102 then Failed else
    if get_or (word_at ws 1) 0 0 == 115 then RefusedScp (scp_of (drop 2 ws)) else
    Refused (digits_value 10 (word_at ws 2)) (fault_of (drop 3 ws))

why-back : (why : Passed) → PassedFits why → why_of (why_words why) ≡ why
why-back Absent fits = refl
why-back Failed fits = refl
why-back (Refused block fault) fits =
    ap (λ n. Refused n (fault_of (fault_words fault))) (number-is block fits.0) ∙ ap (Refused block) (fault-back fault fits.1)
why-back (RefusedScp fault) fits = ap RefusedScp (scp-back fault fits)

name_shape : (c h d rest : List ℕ) → (((((c ++ codes ".") ++ h) ++ codes " dump ") ++ d) ++ codes " ") ++ rest ≡ c ++ 46 ∷ (h ++ 32 ∷ (codes "dump" ++ 32 ∷ (d ++ 32 ∷ rest)))
name_shape c h d rest = simp append_assoc

dump_words : (track : TrackId) (dump : ℕ) (rest : List ℕ)
    → words (dump_name track dump ++ rest) ≡ two_digits track.cylinder ∷ decimal track.head ∷ codes "dump" ∷ decimal dump ∷ words rest
unfolding dump_name
dump_words track dump rest =
    let c : List ℕ = two_digits track.cylinder in
    let h : List ℕ = decimal track.head in
    let d : List ℕ = decimal dump in
    ap words (name_shape c h d rest)
    ∙ next c (h ++ 32 ∷ (codes "dump" ++ 32 ∷ (d ++ 32 ∷ rest))) 46 (word-two track.cylinder) refl
    ∙ ap (λ ws. c ∷ ws) (next h (codes "dump" ++ 32 ∷ (d ++ 32 ∷ rest)) 32 (word-decimal track.head) refl)
    ∙ ap (λ ws. c ∷ h ∷ ws) (next (codes "dump") (d ++ 32 ∷ rest) 32 (word-codes (codes "dump") refl) refl)
    ∙ ap (λ ws. c ∷ h ∷ codes "dump" ∷ ws) (next d rest 32 (word-decimal dump) refl)

failed_shape : (name : List ℕ) → (name ++ codes "failed") ++ codes "\n" ≡ name ++ codes "failed\n"
failed_shape name = simp append_assoc

absent_shape : (name : List ℕ) → (name ++ codes "missing") ++ codes "\n" ≡ name ++ codes "missing\n"
absent_shape name = simp append_assoc

refused_shape : (name block fault : List ℕ)
    → (((name ++ (codes "refused block " ++ block)) ++ codes " ") ++ fault) ++ codes "\n" ≡ name ++ (codes "refused" ++ 32 ∷ (codes "block" ++ 32 ∷ (block ++ 32 ∷ (fault ++ codes "\n"))))
refused_shape name block fault = simp append_assoc

scp_shape : (name fault : List ℕ) → ((name ++ codes "refused scp ") ++ fault) ++ codes "\n" ≡ name ++ (codes "refused" ++ 32 ∷ (codes "scp" ++ 32 ∷ (fault ++ codes "\n")))
scp_shape name fault = simp append_assoc

passed_words : (track : TrackId) (dump : ℕ) (why : Passed)
    → words (passed_text track dump why) ≡ two_digits track.cylinder ∷ decimal track.head ∷ codes "dump" ∷ decimal dump ∷ why_words why
unfolding passed_text
passed_words track dump Absent = ap words (absent_shape (dump_name track dump)) ∙ dump_words track dump (codes "missing\n")
passed_words track dump Failed = ap words (failed_shape (dump_name track dump)) ∙ dump_words track dump (codes "failed\n")
passed_words track dump (Refused block fault) =
    let end : List ℕ = fault_text fault ++ codes "\n" in
    ap words (refused_shape (dump_name track dump) (decimal block) (fault_text fault))
    ∙ dump_words track dump (codes "refused" ++ 32 ∷ (codes "block" ++ 32 ∷ (decimal block ++ 32 ∷ end)))
    ∙ ap (λ ws. two_digits track.cylinder ∷ decimal track.head ∷ codes "dump" ∷ decimal dump ∷ ws)
    (next (codes "refused") (codes "block" ++ 32 ∷ (decimal block ++ 32 ∷ end)) 32 (word-codes (codes "refused") refl) refl
    ∙ ap (λ ws. codes "refused" ∷ ws) (next (codes "block") (decimal block ++ 32 ∷ end) 32 (word-codes (codes "block") refl) refl)
    ∙ ap (λ ws. codes "refused" ∷ codes "block" ∷ ws) (next (decimal block) end 32 (word-decimal block) refl)
    ∙ ap (λ ws. codes "refused" ∷ codes "block" ∷ decimal block ∷ ws) (fault_words-are fault))
passed_words track dump (RefusedScp fault) =
    let end : List ℕ = scp_fault_text fault ++ codes "\n" in
    ap words (scp_shape (dump_name track dump) (scp_fault_text fault))
    ∙ dump_words track dump (codes "refused" ++ 32 ∷ (codes "scp" ++ 32 ∷ end))
    ∙ ap (λ ws. two_digits track.cylinder ∷ decimal track.head ∷ codes "dump" ∷ decimal dump ∷ ws)
    (next (codes "refused") (codes "scp" ++ 32 ∷ end) 32 (word-codes (codes "refused") refl) refl
    ∙ ap (λ ws. codes "refused" ∷ ws) (next (codes "scp") end 32 (word-codes (codes "scp") refl) refl)
    ∙ ap (λ ws. codes "refused" ∷ codes "scp" ∷ ws) (scp_words-are fault))

pub passed_lines_tell : PassedLinesTell
passed_lines_tell track track' dump dump' why why' fits fits' same =
    let all = sym (passed_words track dump why) ∙ ap words same ∙ passed_words track' dump' why' in
    let of_numbers : ℕ → ℕ → TrackId = λ c h. record { cylinder = c; head = h } in
    let head : track.head ≡ track'.head = sym (number-is track.head fits.head_fits) ∙ ap (λ ws. digits_value 10 (word_at ws 1)) all ∙ number-is track'.head fits'.head_fits in (
      ap (λ c. of_numbers c track.head) (two-same track.cylinder track'.cylinder fits.cylinder_fits fits'.cylinder_fits (ap (λ ws. word_at ws 0) all))
          ∙ ap (of_numbers track'.cylinder) head,
      sym (number-is dump fits.dump_fits) ∙ ap (λ ws. digits_value 10 (word_at ws 3)) all ∙ number-is dump' fits'.dump_fits,
      sym (why-back why fits.why_fits) ∙ ap (λ ws. why_of (drop 4 ws)) all ∙ why-back why' fits'.why_fits,
    )
