-- The words that ask to show a sector of dumps.
use Rattle.std.specs.Prelude.{◌≡◌, ◌<◌, ◌≤◌, ℕ, ◌+◌, List, ◌∷◌, ◌++◌, length, codes, decimal}
use Rattle.std.specs.Prelude.{Option, Some, None}
use Rattle.std.specs.Str.Parse.{IsNumeral, digits_value}
use Rattle.flux_base.specs.declared.track.TrackId.{TrackId}
use Rattle.disk_recordings.specs.TrackSectors.{sectors_of, track_at}
use Rattle.sector_images.specs.Formats.{IsWordOfFormat}
use Rattle.sector_images.specs.Places.{tracks}
use Rattle.sector_images.specs.declared.format.Format.{Format}
use Rattle.sector_report.specs.Lines.{two_digits}
use Rattle.track_shelf.specs.declared.stepping.Stepping.{Stepping}
use Rattle.flux_words.specs.DumpWords.{AreReadable}
use Rattle.flux_words.specs.OptionWords.{HaveOptions}
use Rattle.flux_words.specs.declared.options.Options.{Options}
use Rattle.flux_words.specs.declared.options.Shown.TheVariants.{Image}
use Rattle.flux_words.specs.declared.sector_words.ShowAsked.{ShowAsked}

-- what is asked of one sector: how the drive stepped, the dumps by their names, the format, the
-- track by its number, the sector, and the content that is asked for alone
pub record AskedSector : Type 0 where
  pub stepping : Stepping
  pub dumps : List (List ℕ)
  pub format : Format
  pub number : ℕ
  pub sector : ℕ
  pub alone : Option ℕ

abbrev pub asked_sector : ShowAsked → AskedSector
asked_sector asked = record {
  stepping = asked.stepping;
  dumps = asked.dumps.now;
  format = asked.format;
  number = asked.number;
  sector = asked.sector;
  alone = asked.alone;
}

-- the first number below a bound of which something holds, or none
abbrev pub IsFirst : (bound : ℕ) → (Holds : ℕ → Type 0) → Option ℕ → Type 0
IsFirst bound Holds (Some n) = (n < bound) × Holds n × ((k : ℕ) → k < n → ¬ Holds k)
IsFirst bound Holds None = (k : ℕ) → k < bound → ¬ Holds k

-- digits that write a number, at most so many of them: zeros may stand first
pub record AreDigitsOf (number most : ℕ) (word : List ℕ) : Type 0 where
  pub digits : IsNumeral 10 word
  pub few : length word ≤ most
  pub value : digits_value 10 word ≡ number

-- a track as people write it: one or two digits of the cylinder, a dot, and the head
pub record IsTrackWord (track : TrackId) (word : List ℕ) : Type 0 where
  pub cylinder : List ℕ
  pub is : word ≡ cylinder ++ (codes "." ++ decimal track.head)
  pub writes : AreDigitsOf track.cylinder 2 cylinder

-- and a sector: one to three digits
abbrev pub IsSectorWord : (sector : ℕ) → (word : List ℕ) → Type 0
IsSectorWord sector word = AreDigitsOf sector 3 word

-- what reports print of tracks and sectors are such words
pub record ReportsNameThem : Type 0 where
  pub tracks_named : (track : TrackId) → track.cylinder < 100
      → IsTrackWord track (two_digits track.cylinder ++ codes "." ++ decimal track.head)
  pub sectors_named : (sector : ℕ) → sector < 1000 → IsSectorWord sector (two_digits sector)

-- the track of the format that a word names, by its number
abbrev pub NamesTrack : Format → (word : List ℕ) → Option ℕ → Type 0
NamesTrack format word number =
    IsFirst (length (tracks format)) (λ k. IsTrackWord (track_at format k) word) number

-- the sector of the track that a word names, by its number among the
-- track's sectors from the first on
abbrev pub NamesSector : Format → (number : ℕ) → (word : List ℕ) → Option ℕ → Type 0
NamesSector format number word index =
    IsFirst (sectors_of format (track_at format number)).count
    (λ k. IsSectorWord ((sectors_of format (track_at format number)).first + k) word) index

abbrev pub CanBeShown : AskedSector → Type 0
CanBeShown asked = AreReadable asked.dumps asked.stepping asked.format

-- the words that name the format, the track and the sector, and the dumps, which can be read
pub record ArePlaceWords (asked : AskedSector) (words : List (List ℕ)) : Type 0 where
  pub word : List ℕ
  pub named : IsWordOfFormat word asked.format
  pub track : List ℕ
  pub track_is : NamesTrack asked.format track (Some asked.number)
  pub sector : List ℕ
  pub index : ℕ
  pub sector_is : NamesSector asked.format asked.number sector (Some index)
  pub at : asked.sector
      ≡ (sectors_of asked.format (track_at asked.format asked.number)).first + index
  pub are : words ≡ word ∷ track ∷ sector ∷ asked.dumps
  pub can : CanBeShown asked

-- and the options before them
abbrev pub sector_options : AskedSector → Options
sector_options asked = record { stepping = asked.stepping; shown = Image; alone = asked.alone }

-- what the words behind the verb's ask for
abbrev pub AreSectorWords : List (List ℕ) → AskedSector → Type 0
AreSectorWords words asked = HaveOptions sector_options ArePlaceWords words asked
