-- The words that ask to read dumps of a disk.
use Rattle.std.specs.Prelude.{◌≡◌, ◌≤◌, ℕ, Bool, true, false, List, [], ◌∷◌, length, None}
use Rattle.std.specs.List.{list_any}
use Rattle.sector_images.specs.Formats.{IsWordOfFormat}
use Rattle.sector_images.specs.declared.format.Format.{Format}
use Rattle.track_shelf.specs.Stepping.{reaches_all}
use Rattle.track_shelf.specs.declared.stepping.Stepping.{Stepping}
use Rattle.flux_words.specs.OptionWords.{HaveOptions}
use Rattle.flux_words.specs.declared.dump_words.DumpsAsked.{DumpsAsked}
use Rattle.flux_words.specs.declared.options.Options.{Options}
use Rattle.flux_words.specs.declared.options.Shown.{Shown}

-- what is asked of dumps: how the drive stepped, what is shown, the dumps by their names, and
-- the format
pub record AskedDumps : Type 0 where
  pub stepping : Stepping
  pub shown : Shown
  pub dumps : List (List ℕ)
  pub format : Format

abbrev pub asked_dumps : DumpsAsked → AskedDumps
asked_dumps asked = record {
  stepping = asked.stepping;
  shown = asked.shown;
  dumps = asked.dumps.now;
  format = asked.format;
}

-- most dumps of a disk
abbrev pub MOST_DUMPS : ℕ
MOST_DUMPS = 8

abbrev pub is_nameless : List ℕ → Bool
is_nameless [] = true
is_nameless (byte ∷ bytes) = false

-- there are 1 to 8 dumps, each with a name, and the drive reaches all tracks of the format
pub record AreReadable (dumps : List (List ℕ)) (stepping : Stepping)
    (format : Format) : Type 0 where
  pub some : 1 ≤ length dumps
  pub most : length dumps ≤ MOST_DUMPS
  pub named : list_any is_nameless dumps ≡ false
  pub reached : reaches_all stepping format ≡ true

abbrev pub CanBeRead : AskedDumps → Type 0
CanBeRead asked = AreReadable asked.dumps asked.stepping asked.format

-- a word of the format and the dumps, which can be read
pub record AreDiskWords (asked : AskedDumps) (words : List (List ℕ)) : Type 0 where
  pub word : List ℕ
  pub are : words ≡ word ∷ asked.dumps
  pub named : IsWordOfFormat word asked.format
  pub can : CanBeRead asked

-- and the options before them
abbrev pub dump_options : AskedDumps → Options
dump_options asked = record { stepping = asked.stepping; shown = asked.shown; alone = None }

-- what the words behind the verb's ask for
abbrev pub AreDumpWords : List (List ℕ) → AskedDumps → Type 0
AreDumpWords words asked = HaveOptions dump_options AreDiskWords words asked
