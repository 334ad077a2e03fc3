-- The words of a command: its verb's, and those behind it.
use Rattle.std.specs.Prelude.{◌≡◌, ◌≢◌, ◌⊎◌, ℕ, true, List, [], ◌∷◌, codes, Option, Some}
use Rattle.std.specs.Prelude.{None}
use Rattle.flux_help.specs.Verbs.{verb_of}
use Rattle.flux_help.specs.declared.page.Page.{Page}
use Rattle.flux_help.specs.declared.page.Page.TheVariants.{Help as AllPages, Version, About}
use Rattle.flux_help.specs.declared.verb.Verb.{Verb}
use Rattle.flux_help.specs.declared.verb.Verb.TheVariants.{Archive, Identify, Imd, Info, Read, Show}
use Rattle.flux_help.specs.declared.verb.Verb.TheVariants.{DecodeFolder, DecodeSet, Rescue, Decode}
use Rattle.flux_help.specs.declared.verb.Verb.TheVariants.{Report, Map, Write, Split, Unpack, Turns}
use Rattle.flux_help.specs.declared.verb.Verb.TheVariants.{ToG64, FromG64, Trial, Help}
use Rattle.sector_images.specs.Formats.{IsWordOfFormat}
use Rattle.sector_images.specs.declared.format.Format.{Format}
use Rattle.stream_files.specs.declared.heads.Heads.{Heads}
use Rattle.stream_files.specs.declared.heads.Heads.TheVariants.{One, Two}
use Rattle.track_shelf.specs.Names.{is_folder}
use Rattle.flux_words.specs.Asked.{Asked, the_turns, some_streams, a_folder, some_dumps, a_sector}
use Rattle.flux_words.specs.Asked.{an_identity, told_files, written_streams, a_trial, a_g64_file}
use Rattle.flux_words.specs.ArchiveWords.{AskedArchive, AreArchiveWords}
use Rattle.flux_words.specs.Asked.{an_archive, an_imd_file}
use Rattle.flux_words.specs.Asked.{an_image_of_g64, a_page}
use Rattle.flux_words.specs.Asked.{written_files, split_streams, unpacked_file}
use Rattle.flux_words.specs.Counts.{IsCount}
use Rattle.flux_words.specs.DumpWords.{AskedDumps, AreDumpWords}
use Rattle.flux_words.specs.G64Disks.{format_of}
use Rattle.flux_words.specs.ImdWords.{AskedImd, AreImdWords}
use Rattle.flux_words.specs.Names.{Names}
use Rattle.flux_words.specs.SectorWords.{AskedSector, AreSectorWords}
use Rattle.flux_words.specs.Seeds.{IsSeed}
use Rattle.flux_words.specs.declared.commands.Output.{Output}
use Rattle.flux_words.specs.declared.commands.Output.TheVariants.{ImageAndReport, ReportAlone}
use Rattle.flux_words.specs.declared.commands.Output.TheVariants.{Picture}
use Rattle.flux_words.specs.declared.commands.Way.{Way}
use Rattle.flux_words.specs.declared.commands.Way.TheVariants.{Once, Often, ByBothClocks}
use Rattle.flux_words.specs.declared.g64_disk.G64Disk.{G64Disk}

-- one word, of a format
abbrev pub IsFormat : Format → (others : List (List ℕ)) → Type 0
IsFormat format others = (word : List ℕ) × (others ≡ word ∷ []) × IsWordOfFormat word format

-- and a last one
abbrev pub IsFormatWith : Format → (last : List ℕ) → (others : List (List ℕ)) → Type 0
IsFormatWith format last others =
    (word : List ℕ) × (others ≡ word ∷ last ∷ []) × IsWordOfFormat word format

-- and before it a folder, behind the option's word
abbrev pub IsFormatInFolder : Format → (folder : List ℕ) → (others : List (List ℕ)) → Type 0
IsFormatInFolder format folder others =
    (word : List ℕ) × (others ≡ codes "--folder" ∷ folder ∷ word ∷ []) × IsWordOfFormat word format

-- Files can be made in a folder of this name: it has one, and not that of a track's file or of an
-- SCP file, by which a dump may be named.
pub record CanBeMade (folder : List ℕ) : Type 0 where
  pub named : folder ≢ []
  pub a_folder : is_folder folder ≡ true

-- an image's streams as files of a folder
abbrev pub AreFilesWords : (others : List (List ℕ)) → Asked → Type 0
AreFilesWords others asked =
    (format : Format) × (folder : List ℕ) × IsFormatInFolder format folder others
    × CanBeMade folder
    × (asked ≡ written_files format folder)

-- the word says how many heads there are
abbrev pub IsOfHeads : Heads → (word : List ℕ) → Type 0
IsOfHeads One word = word ≡ codes "1"
IsOfHeads Two word = word ≡ codes "2"

-- a disk's streams, read in this way, to this output
abbrev pub streams_of : Way → Output → Format → Asked
streams_of way output format = some_streams (record { format = format; way = way; output = output })

abbrev pub AreStreams : Way → Output → (others : List (List ℕ)) → Asked → Type 0
AreStreams way output others asked =
    (format : Format) × IsFormat format others × (asked ≡ streams_of way output format)

-- one word, of a dump
abbrev pub IsDump : (others : List (List ℕ)) → (dump : List ℕ) → Type 0
IsDump others dump = (others ≡ dump ∷ []) × (dump ≢ [])

-- What the words behind a verb's ask for. A count or a seed may have zeros before it.
abbrev pub AreBehind : Verb → (others : List (List ℕ)) → Asked → Type 0
AreBehind Turns others asked = (others ≡ []) × (asked ≡ the_turns)
AreBehind Decode others asked = AreStreams Once ImageAndReport others asked
AreBehind Report others asked = AreStreams Once ReportAlone others asked
AreBehind Map others asked = AreStreams Once Picture others asked
AreBehind Rescue others asked = AreStreams ByBothClocks ImageAndReport others asked
AreBehind DecodeSet others asked =
    (format : Format) × (number : List ℕ) × (count : ℕ) × IsFormatWith format number others
    × IsCount count number
    × (asked ≡ streams_of (Often count) ImageAndReport format)
AreBehind DecodeFolder others asked =
    (format : Format) × (folder : List ℕ) × IsFormatWith format folder others × (folder ≢ [])
    × (asked ≡ a_folder format folder)
AreBehind Read others asked =
    (dumps : AskedDumps) × AreDumpWords others dumps × (asked ≡ some_dumps dumps)
AreBehind Show others asked =
    (sector : AskedSector) × AreSectorWords others sector × (asked ≡ a_sector sector)
AreBehind Identify others asked =
    (dump : List ℕ) × IsDump others dump × (asked ≡ an_identity dump)
AreBehind Info others asked = (dump : List ℕ) × IsDump others dump × (asked ≡ told_files dump)
AreBehind Imd others asked =
    (disk : AskedImd) × AreImdWords others disk × (asked ≡ an_imd_file disk)
AreBehind Archive others asked =
    (archive : AskedArchive) × AreArchiveWords others archive × CanBeMade archive.folder
    × (asked ≡ an_archive archive)
AreBehind Write others asked =
    ((format : Format) × IsFormat format others × (asked ≡ written_streams format))
    ⊎ AreFilesWords others asked
AreBehind Split others asked =
    (folder : List ℕ) × (word : List ℕ) × (heads : Heads) × (others ≡ folder ∷ word ∷ [])
    × IsOfHeads heads word × CanBeMade folder
    × (asked ≡ split_streams folder heads)
AreBehind Unpack others asked =
    (file : List ℕ) × (folder : List ℕ) × (others ≡ file ∷ folder ∷ []) × (file ≢ [])
    × CanBeMade folder
    × (asked ≡ unpacked_file file folder)
AreBehind Trial others asked =
    (format : Format) × (number : List ℕ) × (seed : ℕ) × IsFormatWith format number others
    × IsSeed seed number
    × (asked ≡ a_trial format seed)
AreBehind ToG64 others asked =
    (disk : G64Disk) × IsFormat (format_of disk) others × (asked ≡ a_g64_file disk)
AreBehind FromG64 others asked =
    (disk : G64Disk) × IsFormat (format_of disk) others × (asked ≡ an_image_of_g64 disk)
AreBehind Help others asked =
    ((others ≡ []) × (asked ≡ a_page AllPages))
    ⊎ ((word : List ℕ) × (verb : Verb) × (others ≡ word ∷ []) × (verb_of word ≡ Some verb)
    × (asked ≡ a_page (About verb)))

-- The words that begin with a dash stand alone.
abbrev pub IsPageWord : (first : List ℕ) → Page → Type 0
IsPageWord first AllPages = (first ≡ codes "--help") ⊎ (first ≡ codes "-h")
IsPageWord first Version = first ≡ codes "--version"
IsPageWord first (About verb) = ⊥

abbrev pub IsDashed : (first : List ℕ) → (others : List (List ℕ)) → Asked → Type 0
IsDashed first others asked =
    (others ≡ []) × ((page : Page) × IsPageWord first page × (asked ≡ a_page page))

-- by the verb whose word stands first, if one's does
abbrev pub AreByVerb : Option Verb → (first : List ℕ) → (others : List (List ℕ)) → Asked → Type 0
AreByVerb (Some verb) first others asked = AreBehind verb others asked
AreByVerb None first others asked = IsDashed first others asked

-- the words ask for this
abbrev pub AreWordsOf : Asked → List (List ℕ) → Type 0
AreWordsOf asked [] = ⊥
AreWordsOf asked (first ∷ others) = AreByVerb (verb_of first) first others asked

-- what the words ask for; nothing where they are not those of a command
abbrev pub AskFor : List (List ℕ) → Option Asked → Type 0
AskFor words asked = Names (λ asked. AreWordsOf asked words) asked

-- words ask for one thing at most
abbrev pub AskOnce : Type 0
AskOnce = (words : List (List ℕ)) (a b : Asked) → AreWordsOf a words → AreWordsOf b words → a ≡ b
