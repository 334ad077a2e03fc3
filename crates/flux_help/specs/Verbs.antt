-- The commands: the word of each, and what is said of it where commands are listed, where its words
-- are wrong, and where it is asked for.
use Rattle.std.specs.Prelude.{ℕ, List, [], ◌∷◌, Bool, true, false, codes, Option}
use Rattle.std.specs.List.{position_from, slice_get}
use Rattle.std.specs.Option.{option_and_then}
use Rattle.std.specs.Str.{bytes_eq}
use Rattle.flux_help.specs.declared.verb.TheConstants.{ARCHIVE, IDENTIFY, IMD, INFO, READ, SHOW}
use Rattle.flux_help.specs.declared.verb.TheConstants.{DECODE_FOLDER, DECODE_SET, RESCUE, DECODE}
use Rattle.flux_help.specs.declared.verb.TheConstants.{REPORT, MAP}
use Rattle.flux_help.specs.declared.verb.TheConstants.{WRITE, SPLIT, UNPACK, TURNS, TO_G64, FROM_G64, TRIAL}
use Rattle.flux_help.specs.declared.verb.TheConstants.{HELP}
use Rattle.flux_help.specs.declared.verb.Texts.{Texts}
use Rattle.flux_help.specs.declared.verb.Verb.{Verb}
use Rattle.flux_help.specs.declared.verb.Verb.TheVariants.{Archive, Identify, Imd, Info, Read, Show}
use Rattle.flux_help.specs.declared.verb.Verb.TheVariants.{DecodeFolder, DecodeSet, Rescue, Decode}
use Rattle.flux_help.specs.declared.verb.Verb.TheVariants.{Report, Map}
use Rattle.flux_help.specs.declared.verb.Verb.TheVariants.{Write, Split, Unpack, Turns, ToG64}
use Rattle.flux_help.specs.declared.verb.Verb.TheVariants.{FromG64, Trial, Help}

-- all commands, in the order in which the help lists them
abbrev pub verbs : List Verb
verbs = Identify ∷ Info ∷ Imd ∷ Archive ∷ Read ∷ Show ∷ DecodeFolder ∷ DecodeSet ∷ Rescue ∷ Decode ∷ Report
    ∷ Map ∷ Write ∷ Split ∷ Unpack ∷ Turns ∷ ToG64 ∷ FromG64 ∷ Trial ∷ Help ∷ []

-- its first word
unfoldable pub verb_word : Verb → List ℕ
verb_word Identify = codes "identify"
verb_word Info = codes "info"
verb_word Imd = codes "imd"
verb_word Archive = codes "archive"
verb_word Read = codes "read"
verb_word Show = codes "show"
verb_word DecodeFolder = codes "decode-folder"
verb_word DecodeSet = codes "decode-set"
verb_word Rescue = codes "rescue"
verb_word Decode = codes "decode"
verb_word Report = codes "report"
verb_word Map = codes "map"
verb_word Write = codes "write"
verb_word Split = codes "split"
verb_word Unpack = codes "unpack"
verb_word Turns = codes "turns"
verb_word ToG64 = codes "to-g64"
verb_word FromG64 = codes "from-g64"
verb_word Trial = codes "trial"
verb_word Help = codes "help"

-- what is said of it, as the code has it
unfoldable pub verb_texts : Verb → Texts (record { now : List ℕ })
verb_texts Identify = IDENTIFY
verb_texts Info = INFO
verb_texts Imd = IMD
verb_texts Archive = ARCHIVE
verb_texts Read = READ
verb_texts Show = SHOW
verb_texts DecodeFolder = DECODE_FOLDER
verb_texts DecodeSet = DECODE_SET
verb_texts Rescue = RESCUE
verb_texts Decode = DECODE
verb_texts Report = REPORT
verb_texts Map = MAP
verb_texts Write = WRITE
verb_texts Split = SPLIT
verb_texts Unpack = UNPACK
verb_texts Turns = TURNS
verb_texts ToG64 = TO_G64
verb_texts FromG64 = FROM_G64
verb_texts Trial = TRIAL
verb_texts Help = HELP

abbrev pub has_word : List ℕ → Verb → Bool
has_word word verb = bytes_eq (verb_word verb) word

-- the command of this first word
abbrev pub verb_of : List ℕ → Option Verb
verb_of word = option_and_then (slice_get verbs) (position_from (has_word word) 0 verbs)

-- the usage line does not name the command
abbrev pub is_own : Verb → Bool
is_own Identify = true
is_own Info = true
is_own Imd = true
is_own Archive = true
is_own Read = true
is_own Show = true
is_own Rescue = true
is_own Map = true
is_own Split = true
is_own Unpack = true
is_own Help = true
is_own _ = false

-- a format is the first word behind it that is no option; behind `show` that
-- may be the number of a content
abbrev pub asks_format : Verb → Bool
asks_format Identify = false
asks_format Info = false
asks_format Imd = false
asks_format Archive = false
asks_format Show = false
asks_format Split = false
asks_format Unpack = false
asks_format Turns = false
asks_format Help = false
asks_format _ = true
