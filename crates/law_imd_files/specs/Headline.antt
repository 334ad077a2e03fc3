-- What a file of ImageDisk has of the tracks of an IBM disk that its streams capture.
use Rattle.std.specs.Prelude.{◌≡◌, ◌<◌, ℕ, AllPairs, Contains, List, length, true, false}
use Rattle.std.specs.Prelude.{Option, Some, None}
use Rattle.dump_reading.specs.Files.{ShelfNow}
use Rattle.flux_base.specs.declared.track.TrackId.{TrackId}
use Rattle.flux_engine.specs.Captures.{Capture, IsSteady}
use Rattle.flux_engine.specs.LoopProgress.{seen_at}
use Rattle.flux_engine.specs.Plans.{Seen}
use Rattle.flux_engine.specs.Recordings.{track_at}
use Rattle.flux_engine.specs.Rings.{IsImage, nominal_of, ring_of}
use Rattle.ibm_disks.specs.Disks.{rate_of, track_of_disk}
use Rattle.ibm_disks.specs.Numbers.{code_of}
use Rattle.ibm_disks.specs.declared.disk.IbmDisk.{IbmDisk}
use Rattle.ibm_disks.specs.declared.rate.Rate.{Rate}
use Rattle.ibm_disks.specs.declared.rate.Rate.TheVariants.{Double, High, HighAt360, Single}
use Rattle.ibm_disks.specs.declared.rate.Rate.TheVariants.{SingleAt360}
use Rattle.ibm_walks.specs.Walks.{AreNamesBy}
use Rattle.imd_image.specs.Found.{TrackFound, found_at, sectors_in, IsFoundOf}
use Rattle.imd_image.specs.Outcomes.{DumpsAsked, WroteImd, streams_at}
use Rattle.imd_image.specs.Streams.{readings_of}
use Rattle.imd_image.specs.Totals.{is_complete}
use Rattle.imd_image.specs.declared.totals.ImdTotals.{ImdTotals}
use Rattle.imd_records.specs.declared.mode.Mode.{Mode}
use Rattle.imd_records.specs.declared.mode.Mode.TheVariants.{Fm250, Fm500, Mfm250, Mfm500}
use Rattle.kryo_stream.specs.Stream.{indexes, times}
use Rattle.law_captured_disks.specs.Headline.{IsSectorOf}
use Rattle.law_imd_tracks.specs.Headline.{AreDataOn, IsNameOn, held_on, name_on}
use Rattle.name_book.specs.Names.{NameTold, NotedData}
use Rattle.name_book.specs.declared.name.NamedHeader.{NamedHeader}
use Rattle.sector_images.specs.Places.{tracks}
use Rattle.sector_images.specs.declared.format.Format.TheVariants.{Numbered}
use Rattle.turn_merge.specs.declared.clock.Clock.{Clock}

-- The stream captures track number n of an image of the disk, by a drive that kept its speed.
pub record IsCaptured (disk : IbmDisk) (image : List ℕ) (n : ℕ) (seen : Seen) : Type 0 where
  pub stream : List ℕ
  pub is_read : seen.passed ≡ None
  pub times_are : seen.times ≡ times stream
  pub indexes_are : seen.indexes ≡ indexes stream
  pub capture : Capture stream (ring_of (Numbered disk) image n) (nominal_of (Numbered disk) n)
  pub steady : IsSteady stream (ring_of (Numbered disk) image n) (nominal_of (Numbered disk) n)
      capture

-- one of some sectors is that of the disk, with the bytes of the image behind the mark of data, on
-- which all whole data of its name agree
pub record HasSectorOf (disk : IbmDisk) (image : List ℕ) (n sector : ℕ)
    (sectors : List NameTold) : Type 0 where
  pub told : NameTold
  pub there : Contains sectors told
  pub name : told.name ≡ name_on disk (track_at (Numbered disk) n) sector
  pub agreed : told.agreed ≡ Some (held_on disk image n sector)

-- A file has all of its disk: exit code 0 says so.
abbrev pub LacksNothing : ImdTotals → Type 0
LacksNothing totals = is_complete totals ≡ true

-- Of a file that lacks nothing: where one of the streams of a track captures a track of a disk, the
-- record has each sector of that, whatever the other streams, rates and densities say.
abbrev pub CompleteFilesHaveTheSectors : Type 0
CompleteFilesHaveTheSectors =
    (asked : DumpsAsked) (start now : ShelfNow) (file file' notes notes' : Option (List ℕ))
    (totals : ImdTotals) (disk : IbmDisk) (image : List ℕ) (n k dump : ℕ)
    → (wrote : WroteImd asked start now file file' notes notes' totals)
    → LacksNothing totals
    → IsImage (Numbered disk) image → n < length (tracks (Numbered disk))
    → k < length wrote.founds → dump < length asked.names
    → IsCaptured disk image n (seen_at (streams_at wrote.all.have.came k) dump)
    → (sector : ℕ) → IsSectorOf (Numbered disk) n sector
    → HasSectorOf disk image n sector (sectors_in (found_at wrote.founds k))

-- the mode in which ImageDisk's files have disks of a rate (IMD 1.18)
abbrev pub mode_of : Rate → Mode
mode_of Double = Mfm250
mode_of High = Mfm500
mode_of HighAt360 = Mfm500
mode_of Single = Fm250
mode_of SingleAt360 = Fm500

-- all headers and all whole data are those of the track's sectors
pub record AreOwn (disk : IbmDisk) (image : List ℕ) (n : ℕ) (headers : List NamedHeader)
    (noted : List NotedData) : Type 0 where
  pub names : (header : NamedHeader) → Contains headers header → IsNameOn disk n header.name
  pub held : (d : NotedData) → Contains noted d → AreDataOn disk image n d

-- Read by another rate of the disk's mode, a stream says of no other sector, and of none that it
-- holds other bytes.
abbrev pub OthersSayNoMore : IbmDisk → (image : List ℕ) → (n dump : ℕ) → Seen → Type 0
OthersSayNoMore disk image n dump seen =
    (rate : Rate) (clock : Clock) (headers : List NamedHeader) (noted : List NotedData)
    → Contains (readings_of (mode_of (rate_of disk))) (rate, clock) → (rate ≡ rate_of disk → ⊥)
    → AreNamesBy clock rate dump seen.times seen.indexes headers noted
    → AreOwn disk image n headers noted

-- each stream of a track captures track number n of the disk, and another rate says no more
abbrev pub AllCapture : IbmDisk → (image : List ℕ) → (n : ℕ) → (streams : List Seen) → Type 0
AllCapture disk image n streams = (dump : ℕ) → dump < length streams
    → IsCaptured disk image n (seen_at streams dump)
    × OthersSayNoMore disk image n dump (seen_at streams dump)

-- a sector of a record is one of the track's, and holds its bytes
pub record IsOfTrack (disk : IbmDisk) (image : List ℕ) (n : ℕ) (told : NameTold) : Type 0 where
  pub name : IsNameOn disk n told.name
  pub agreed : told.agreed ≡ Some (held_on disk image n name.sector)

-- The record of a track has the disk's mode and size, and just the track's sectors, each once.
pub record IsTrackOf (disk : IbmDisk) (image : List ℕ) (n : ℕ) (found : TrackFound)
    : Type 0 where
  pub mode : found.choice.mode ≡ mode_of (rate_of disk)
  pub code : found.choice.code ≡ code_of (track_of_disk disk).size
  pub each : (sector : ℕ) → IsSectorOf (Numbered disk) n sector
      → HasSectorOf disk image n sector (sectors_in found)
  pub only : (told : NameTold) → Contains (sectors_in found) told → IsOfTrack disk image n told
  pub once : AllPairs (λ a b. a.name ≡ b.name → ⊥) (sectors_in found)

-- No name of another mode than the disk's has whole data: of each that has any, a line says so.
abbrev pub NoOtherIsWhole : IbmDisk → TrackFound → Type 0
NoOtherIsWhole disk found = (mode : Mode) → (mode ≡ mode_of (rate_of disk) → ⊥)
    → (told : NameTold) → Contains (found.names mode).told told → told.whole ≡ false

-- What is found of streams that all capture a track of a disk is that track, if by no other mode
-- whole data are read of them. (The bytes of an image may be the cells of sectors of another mode,
-- which then may be the most.)
abbrev pub CapturedTracksAreFound : Type 0
CapturedTracksAreFound =
    (disk : IbmDisk) (image : List ℕ) (n : ℕ) (track : TrackId) (streams : List Seen)
    (found : TrackFound)
    → IsImage (Numbered disk) image → n < length (tracks (Numbered disk))
    → IsFoundOf track streams found → 0 < length streams → AllCapture disk image n streams
    → NoOtherIsWhole disk found
    → IsTrackOf disk image n found

-- Of a file that lacks nothing, where one stream of a track captures one of a disk, it is so.
abbrev pub CompleteFilesHaveNoOthers : Type 0
CompleteFilesHaveNoOthers =
    (asked : DumpsAsked) (start now : ShelfNow) (file file' notes notes' : Option (List ℕ))
    (totals : ImdTotals) (disk : IbmDisk) (image : List ℕ) (n k dump : ℕ)
    → (wrote : WroteImd asked start now file file' notes notes' totals)
    → LacksNothing totals
    → IsImage (Numbered disk) image → n < length (tracks (Numbered disk))
    → k < length wrote.founds → dump < length asked.names
    → IsCaptured disk image n (seen_at (streams_at wrote.all.have.came k) dump)
    → NoOtherIsWhole disk (found_at wrote.founds k)

-- Another rate is of high density alone: disks of other modes need nothing of one.
abbrev pub OtherRatesAreOfHighDensity : Type 0
OtherRatesAreOfHighDensity = (disk : IbmDisk) (image : List ℕ) (n dump : ℕ) (seen : Seen)
    → (mode_of (rate_of disk) ≡ Mfm500 → ⊥) → OthersSayNoMore disk image n dump seen
