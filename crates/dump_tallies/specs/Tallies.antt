-- What each file of a dump comes to as one of a disk's tracks.
use Rattle.std.specs.Prelude.{◌≡◌, ℕ, ◌<◌, Bool, true, false, List, [], ◌∷◌, ◌++◌, get_or, length}
use Rattle.flux_base.specs.declared.track.TrackId.{TrackId}
use Rattle.sector_images.specs.declared.format.Format.{Format}
use Rattle.track_shelf.specs.Stepping.{file_track}
use Rattle.track_shelf.specs.declared.stepping.Stepping.{Stepping}
use Rattle.flux_engine.specs.Disks.{no_totals}
use Rattle.flux_engine.specs.LoopProgress.{AreWhole, seen_at}
use Rattle.flux_engine.specs.Plans.{Seen}
use Rattle.flux_engine.specs.Tallies.{IsNameTallyOf, IsTallyOf}
use Rattle.flux_engine.specs.declared.track_tally.TrackTally.{TrackTally}
use Rattle.dump_reading.specs.Beside.{is_track, near_track}
use Rattle.dump_tallies.specs.Files.{track_of_file}

-- a stream comes to this as a track, of the format's or beside them
abbrev pub TallyBy : (own : Bool) → Format → TrackId → Seen → TrackTally → Type 0
TallyBy true format track here tally = IsTallyOf format track here tally
TallyBy false format track here tally = IsNameTallyOf format (near_track format track) here tally

abbrev pub IsTallyAs : Format → TrackId → Seen → TrackTally → Type 0
IsTallyAs format track here tally = TallyBy (is_track format track) format track here tally

-- a file does as the track of a disk that lies in it
abbrev pub IsFileTally : Stepping → Format → (file : TrackId) → Seen → TrackTally → Type 0
IsFileTally stepping format file here tally =
    (track : TrackId) → file_track stepping track ≡ file → IsTallyAs format track here tally

-- a disk, and what each file comes to that came so far
pub record TalliedDisk : Type 0 where
  pub stepping : Stepping
  pub format : Format
  pub tallies : List TrackTally

abbrev pub nothing : TrackTally
nothing = record { sectors = no_totals; others = 0; whole = 0 }

abbrev pub tally_at : TalliedDisk → ℕ → TrackTally
tally_at disk i = get_or disk.tallies i nothing

-- none came
abbrev pub no_tallies : Stepping → Format → TalliedDisk
no_tallies stepping format = record { stepping = stepping; format = format; tallies = [] }

-- these are what the files come to of which this came, one after another
pub record AreTallied (disk : TalliedDisk) (came : List Seen) : Type 0 where
  pub many : length disk.tallies ≡ length came
  pub whole : AreWhole came
  pub each : (i : ℕ) → i < length came
      → IsFileTally disk.stepping disk.format (track_of_file i) (seen_at came i) (tally_at disk i)

-- one file more
pub record NotesFile (old new : TalliedDisk) (file : TrackId) (here : Seen) : Type 0 where
  pub tally : TrackTally
  pub is : IsFileTally old.stepping old.format file here tally
  pub disk : new ≡ record old { tallies = old.tallies ++ tally ∷ [] }

abbrev pub disk_at : List TalliedDisk → ℕ → TalliedDisk → TalliedDisk
disk_at disks k d = get_or disks k d

-- one file more of each disk
pub record NoteFile (old new : List TalliedDisk) (file : TrackId) (here : Seen) : Type 0 where
  pub many : length new ≡ length old
  pub each : (k : ℕ) (d : TalliedDisk) → k < length old
      → NotesFile (get_or old k d) (get_or new k d) file here
