-- The words that ask for all that is kept of a disk of its dumps.
use Rattle.std.specs.Prelude.{◌≡◌, ℕ, true, List, ◌∷◌, codes, if◌then◌else◌, Option, Some, None}
use Rattle.std.specs.Str.{bytes_eq}
use Rattle.sector_images.specs.Formats.{IsWordOfFormat}
use Rattle.sector_images.specs.declared.format.Format.{Format}
use Rattle.track_shelf.specs.Stepping.{reaches_all}
use Rattle.flux_words.specs.ImdWords.{AreNamed, asked_in}
use Rattle.flux_words.specs.declared.archive_words.ArchiveAsked.{ArchiveAsked}
use Rattle.flux_words.specs.declared.archive_words.DiskAsked.{DiskAsked}

-- what is asked: the disk, if it is named, the folder that is made, and the dumps by their names
pub record AskedArchive : Type 0 where
  pub disk : Option DiskAsked
  pub folder : List ℕ
  pub dumps : List (List ℕ)

abbrev pub asked_archive : ArchiveAsked → AskedArchive
asked_archive asked =
    record { disk = asked.disk; folder = asked.folder.now; dumps = asked.dumps.now }

-- the word of a format behind that of its option, if this stands first, and the words behind both
pub record Fronted : Type 0 where
  pub word : Option (List ℕ)
  pub rest : List (List ℕ)

abbrev pub fronted : (others : List (List ℕ)) → Fronted
fronted (option ∷ word ∷ rest) = if bytes_eq option (codes "--format")
    then record { word = Some word; rest = rest }
    else record { word = None; rest = option ∷ word ∷ rest }
fronted others = record { word = None; rest = others }

-- the word of a format, and behind it that of two steps or not: the drive reaches all its tracks
pub record IsNamedDisk (word : List ℕ) (rest : List (List ℕ)) (disk : DiskAsked)
    (behind : List (List ℕ)) : Type 0 where
  pub named : IsWordOfFormat word disk.format
  pub steps : disk.stepping ≡ (asked_in rest).stepping
  pub reached : reaches_all disk.stepping disk.format ≡ true
  pub behind_is : behind ≡ (asked_in rest).dumps

-- which disk is asked for by words that have this in front, and the words behind
abbrev pub IsDiskOf : (word : Option (List ℕ)) → (rest : List (List ℕ)) → Option DiskAsked
    → (behind : List (List ℕ)) → Type 0
IsDiskOf None rest None behind = behind ≡ rest
IsDiskOf (Some word) rest (Some disk) behind = IsNamedDisk word rest disk behind
IsDiskOf word rest disk behind = ⊥

abbrev pub NamesDisk : (others : List (List ℕ)) → Option DiskAsked → (behind : List (List ℕ))
    → Type 0
NamesDisk others disk behind = IsDiskOf (fronted others).word (fronted others).rest disk behind

-- what the words behind the verb's ask for
pub record AreArchiveWords (others : List (List ℕ)) (asked : AskedArchive) : Type 0 where
  pub disk : NamesDisk others asked.disk (asked.folder ∷ asked.dumps)
  pub named : AreNamed asked.dumps
