-- Texts that stand in a string of JSON as they are: nothing in them has to be escaped.
use Rattle.std.proofs.Common.{◌≡◌, ℕ, Bool, true, false, List, [], ◌∷◌, ◌++◌, codes, cond, decimal, Option, Some, None, refl, ap, ◌∙◌, arith}
use Rattle.std.specs.Prelude.{find, if◌then◌else◌, nat_eq}
use Rattle.std.proofs.lemmas.List.Concat.{flat_map-append}
use Rattle.json.specs.Print.{escape, escape_byte}
use Rattle.json.proofs.Printed.Strings.{escape_byte_plain}
use Rattle.flux_base.specs.lemmas.Digits.{of_digits}
use Rattle.ibm_disks.specs.Disks.{cylinders_of, disk_word, heads_of, rate_of, sound, track_of_disk, word_by}
use Rattle.ibm_disks.specs.Named.{NamedDisk, named_as, named_disks, same_disk}
use Rattle.ibm_disks.specs.Numbers.{size_of}
use Rattle.ibm_disks.specs.Words.{density_word, first_word, numbers_word, rate_word}
use Rattle.ibm_disks.specs.declared.disk.IbmDisk.{IbmDisk}
use Rattle.ibm_disks.specs.declared.rate.Rate.{Rate}
use Rattle.ibm_disks.specs.declared.rate.Rate.TheVariants.{Double, High, HighAt360, Single, SingleAt360}
use Rattle.ibm_disks.specs.declared.track_numbers.TrackNumbers.{TrackNumbers}
use Rattle.sector_images.specs.Formats.{row}
use Rattle.sector_images.specs.declared.format.Format.{Format}
use Rattle.sector_images.specs.declared.format.Format.TheVariants.{Ibm3740, Ibm360, Ibm720, Ibm1440, Amiga, C1541, C1541Forty, AppleDo, ApplePo, AppleDos33, AppleProdos, Mac400, Mac800, C1571, AmigaHd, C8050, C8250, C1581, Numbered}
use Rattle.kryo_stream.specs.declared.fault.StreamFault.{StreamFault}
use Rattle.kryo_stream.specs.declared.fault.StreamFault.TheVariants.{Truncated, UnknownType, BadSize, WrongPosition, DeviceFault, DataAfterEnd, IndexPosition, IndexOrder, NoTurn, TooLong}
use Rattle.scp_files.specs.declared.fault.ScpTrackFault.{ScpTrackFault}
use Rattle.scp_files.specs.declared.fault.ScpTrackFault.TheVariants.{BadNumber, BadSignature, ShortData, ShortTrack}
use Rattle.scp_files.specs.declared.fault.ScpTrackFault.TheVariants.{TooLong as ScpTooLong}
use Rattle.sector_report.specs.Lines.{fault_text}
use Rattle.sector_report.specs.ScpLines.{scp_fault_text}
use Rattle.flux_help.specs.Pages.{number_text}

abbrev pub IsPlain : List ℕ → Type 0
IsPlain text = escape text ≡ text

plain-append : (a b : List ℕ) → IsPlain a → IsPlain b → IsPlain (a ++ b)
plain-append a b first second = flat_map-append escape_byte a b ∙ (λ i. first i ++ second i)

plain-cons : (byte : ℕ) (rest : List ℕ) → escape_byte byte ≡ byte ∷ [] → IsPlain rest → IsPlain (byte ∷ rest)
plain-cons byte rest first second = λ i. first i ++ second i

pub plain-decimal : (n : ℕ) → IsPlain (decimal n)
plain-decimal n =
    of_digits IsPlain
    (λ digit text low high is. plain-cons digit text
    (escape_byte_plain digit (λ same. omega (arith, same, low)) (λ same. omega (arith, same, high)) (omega (arith, low))) is)
    refl n

pub plain-fault : (fault : StreamFault) → IsPlain (fault_text fault)
unfolding fault_text escape_byte
plain-fault Truncated = refl
plain-fault (UnknownType kind) = ap (λ (l : List ℕ). codes "UnknownType " ++ l) (plain-decimal kind)
plain-fault (BadSize size) = ap (λ (l : List ℕ). codes "BadSize " ++ l) (plain-decimal size)
plain-fault (WrongPosition said counted) =
    plain-append (codes "WrongPosition " ++ decimal said ++ codes " ") (decimal counted)
    (plain-append (codes "WrongPosition " ++ decimal said) (codes " ") (ap (λ (l : List ℕ). codes "WrongPosition " ++ l) (plain-decimal said)) refl)
    (plain-decimal counted)
plain-fault (DeviceFault code) = ap (λ (l : List ℕ). codes "DeviceFault " ++ l) (plain-decimal code)
plain-fault DataAfterEnd = refl
plain-fault IndexPosition = refl
plain-fault IndexOrder = refl
plain-fault NoTurn = refl
plain-fault TooLong = refl

pub plain-scp-fault : (fault : ScpTrackFault) → IsPlain (scp_fault_text fault)
unfolding scp_fault_text escape_byte
plain-scp-fault ShortTrack = refl
plain-scp-fault BadSignature = refl
plain-scp-fault (BadNumber number) = ap (λ (l : List ℕ). codes "BadNumber " ++ l) (plain-decimal number)
plain-scp-fault ScpTooLong = refl
plain-scp-fault (ShortData revolution) = ap (λ (l : List ℕ). codes "ShortData " ++ l) (plain-decimal revolution)

plain-density : (rate : Rate) → IsPlain (density_word rate)
unfolding escape_byte
plain-density Double = refl
plain-density High = refl
plain-density HighAt360 = refl
plain-density Single = refl
plain-density SingleAt360 = refl

plain-rate : (rate : Rate) → IsPlain (rate_word rate)
unfolding escape_byte
plain-rate Double = refl
plain-rate High = refl
plain-rate HighAt360 = refl
plain-rate Single = refl
plain-rate SingleAt360 = refl

-- a byte of a word between its parts: `-`, `x` or `@`
plain-dash : escape_byte 45 ≡ 45 ∷ []
unfolding escape_byte
plain-dash = refl

plain-times : escape_byte 120 ≡ 120 ∷ []
unfolding escape_byte
plain-times = refl

plain-at : escape_byte 64 ≡ 64 ∷ []
unfolding escape_byte
plain-at = refl

plain-first : (first : ℕ) → IsPlain (first_word first)
plain-first first = by (nat_eq first 1)
  where
    by : (b : Bool) → IsPlain (if b then [] else 64 ∷ decimal first)
    by true = refl
    by false = plain-cons 64 (decimal first) plain-at (plain-decimal first)

plain-numbers : (rate : Rate) (cylinders heads : ℕ) (track : TrackNumbers) → IsPlain (numbers_word rate cylinders heads track)
plain-numbers rate cylinders heads track =
    plain-append (density_word rate) _ (plain-density rate)
    (plain-cons 45 _ plain-dash (plain-append (rate_word rate) _ (plain-rate rate)
    (plain-cons 45 _ plain-dash (plain-append (decimal cylinders) _ (plain-decimal cylinders)
    (plain-cons 120 _ plain-times (plain-append (decimal heads) _ (plain-decimal heads)
    (plain-cons 120 _ plain-times (plain-append (decimal track.sectors) _ (plain-decimal track.sectors)
    (plain-cons 120 _ plain-times (plain-append (decimal (size_of track.size)) (first_word track.first_sector) (plain-decimal (size_of track.size))
    (plain-first track.first_sector)))))))))))

-- the words of all rows
abbrev AreWordsPlain : List NamedDisk → Type 0
AreWordsPlain [] = Unit {0}
AreWordsPlain (named ∷ rows) = IsPlain named.word × AreWordsPlain rows

abbrev IsFoundPlain : Option NamedDisk → Type 0
IsFoundPlain None = Unit {0}
IsFoundPlain (Some named) = IsPlain named.word

found-at : (b : Bool) (named : NamedDisk) (found : Option NamedDisk) → IsPlain named.word → IsFoundPlain found → IsFoundPlain (cond b (Some named) found)
found-at true named found first others = first
found-at false named found first others = others

found-plain : (test : NamedDisk → Bool) (rows : List NamedDisk) → AreWordsPlain rows → IsFoundPlain (find test rows)
found-plain test [] are = tt
found-plain test (named ∷ rows) are = found-at (test named) named (find test rows) are.0 (found-plain test rows are.1)

named-plain : AreWordsPlain named_disks
unfolding escape_byte
named-plain = (refl, (refl, (refl, (refl, (refl, (refl, (refl, (refl, (refl, tt)))))))))

word-plain : (disk : IbmDisk) (found : Option NamedDisk) → IsFoundPlain found → IsPlain (word_by found disk)
word-plain disk None is = plain-numbers (rate_of disk) (cylinders_of disk) (heads_of disk) (track_of_disk disk)
word-plain disk (Some named) is = is

pub plain-word : (format : Format) → IsPlain (row format).word
unfolding escape_byte disk_word
plain-word Ibm3740 = refl
plain-word Ibm360 = refl
plain-word Ibm720 = refl
plain-word Ibm1440 = refl
plain-word Amiga = refl
plain-word C1541 = refl
plain-word C1541Forty = refl
plain-word AppleDo = refl
plain-word ApplePo = refl
plain-word AppleDos33 = refl
plain-word AppleProdos = refl
plain-word Mac400 = refl
plain-word Mac800 = refl
plain-word C1571 = refl
plain-word AmigaHd = refl
plain-word C8050 = refl
plain-word C8250 = refl
plain-word C1581 = refl
plain-word (Numbered disk) = word-plain disk (named_as (sound disk)) (found-plain (λ (named : NamedDisk). same_disk named.disk (sound disk)) named_disks named-plain)

pub plain-version : IsPlain number_text
unfolding escape_byte
plain-version = refl
