-- What is told of words that are no command.
use Rattle.std.specs.Prelude.{ℕ, List, [], ◌∷◌, ◌++◌, ◌&&◌, Bool, false, codes, if◌then◌else◌}
use Rattle.std.specs.Prelude.{nat_eq, not, Option, Some, None, is_some}
use Rattle.std.specs.List.{position_from, slice_get}
use Rattle.std.specs.Option.{option_and_then}
use Rattle.std.specs.Str.{bytes_eq}
use Rattle.ibm_disks.specs.Words.{begins_numbers}
use Rattle.ibm_disks.specs.declared.word.DiskNumbers.{DiskNumbers}
use Rattle.sector_images.specs.Formats.{formats, row}
use Rattle.sector_images.specs.declared.format.Format.{Format}
use Rattle.sector_report.specs.Lines.{usage_text}
use Rattle.flux_help.specs.Meanings.{no_format_ending}
use Rattle.flux_help.specs.Unfit.{first_unfit, unfit_text}
use Rattle.flux_help.specs.Verbs.{asks_format, is_own, verb_of, verb_texts}
use Rattle.flux_help.specs.WrittenNumbers.{written_numbers}
use Rattle.flux_help.specs.declared.unfit.Unfit.{Unfit}
use Rattle.flux_help.specs.declared.verb.Verb.{Verb}
use Rattle.flux_help.specs.declared.verb.Verb.TheVariants.{Write}

-- what follows the first word where it is one of those that the usage line does
-- not name; else the usage line
abbrev pub usage_by : Option Verb → List ℕ
usage_by None = usage_text
usage_by (Some verb) = if is_own verb then (verb_texts verb).usage.now else usage_text

-- a format follows this first word, of which the usage line does not tell it
abbrev pub wants_format : Option Verb → Bool
wants_format None = false
wants_format (Some verb) = is_own verb && asks_format verb

abbrev pub has_format_word : List ℕ → Format → Bool
has_format_word word format = bytes_eq (row format).word word

-- a format has this word
abbrev pub is_named : List ℕ → Bool
is_named word = is_some (position_from (has_format_word word) 0 formats)

-- the end of the line on a word that begins as those do that write a disk's numbers:
-- which of its numbers does not fit
abbrev pub unfit_ending : DiskNumbers → Option Unfit → Option (List ℕ)
unfit_ending n None = None
unfit_ending n (Some number) = Some (codes "; " ++ (unfit_text number n ++ codes "\n"))

abbrev pub numbers_ending : Option DiskNumbers → Option (List ℕ)
numbers_ending None = None
numbers_ending (Some n) = unfit_ending n (first_unfit n)

-- the end of the line on a word that no format has: what it means, or else the nearest
abbrev pub ending_of : List ℕ → Option (List ℕ)
ending_of word =
    if is_named word then None
    else (if begins_numbers word then numbers_ending (written_numbers word)
    else Some (no_format_ending word))

-- an option begins with a minus
abbrev pub is_option : List ℕ → Bool
is_option [] = false
is_option (byte ∷ bytes) = nat_eq byte 45

-- the word in a format's place: of those behind the command's the first that is no option
abbrev pub format_word : List (List ℕ) → Option (List ℕ)
format_word words =
    option_and_then (slice_get words) (position_from (λ word. not (is_option word)) 0 words)

-- the end of what is told of it where a format's word should stand
abbrev pub ending_behind : Option Verb → List ℕ → Option (List ℕ)
ending_behind verb word = if wants_format verb then ending_of word else None

-- no format has this word
abbrev pub no_format_text : Option Verb → List ℕ → Option (List ℕ) → List ℕ
no_format_text verb word None = usage_by verb
no_format_text verb word (Some ending) = codes "no format " ++ (word ++ ending)

-- by the command of the first word, and by the word in a format's place
abbrev pub told_by : Option Verb → Option (List ℕ) → List ℕ
told_by verb None = usage_by verb
told_by verb (Some word) = no_format_text verb word (ending_behind verb word)

-- the usage line does not name what these words ask, though it names their command
abbrev pub names_folder : Option Verb → (others : List (List ℕ)) → Bool
names_folder (Some Write) (option ∷ others) = bytes_eq option (codes "--folder")
names_folder _ _ = false

-- by the words behind the command's
abbrev pub told_behind : Option Verb → (others : List (List ℕ)) → List ℕ
told_behind verb others =
    if names_folder verb others then (verb_texts Write).usage.now
    else told_by verb (format_word others)

abbrev pub wrong_text : List (List ℕ) → List ℕ
wrong_text [] = usage_text
wrong_text (first ∷ others) = told_behind (verb_of first) others
