-- What `unpack` did: a file was made of each track of an SCP file, and the notes tell of its sums and of
-- tracks.
use Rattle.std.specs.Prelude.{◌≡◌, ◌<◌, ◌==◌, ◌&&◌, ◌⊎◌, ℕ, nat_lt, if◌then◌else◌, List, [], ◌∷◌}
use Rattle.std.specs.Prelude.{codes, true, false, Option, Some, None, Ok, Err}
use Rattle.dump_reading.specs.Files.{ShelfNow}
use Rattle.file_maker.specs.declared.maker.FileMaker.{Ghosts as MakerGhosts}
use Rattle.flux_base.specs.Blames.{CountsBy, three_counts}
use Rattle.flux_base.specs.Counts.{FaultCounts}
use Rattle.flux_base.specs.Moments.{Moment, Puts}
use Rattle.flux_base.specs.World.{sink_at}
use Rattle.flux_base.specs.declared.outside.Failed.{Failed}
use Rattle.flux_base.specs.declared.outside.Sink.{Ghosts as SinkGhosts}
use Rattle.flux_base.specs.declared.outside.Source.{Ghosts as SourceGhosts}
use Rattle.flux_base.specs.declared.status.Status.{Status}
use Rattle.flux_base.specs.declared.status.Status.TheVariants.{AllGood, Memory, NotAllGood}
use Rattle.flux_base.specs.declared.status.Status.TheVariants.{NotesFault as Untold}
use Rattle.scp_files.specs.Files.{TABLE_SIZE}
use Rattle.scp_notes.specs.Files.{sums_in}
use Rattle.scp_notes.specs.Lines.{sums_text}
use Rattle.scp_notes.specs.declared.sums.Sums.{Sums}
use Rattle.scp_unpack.specs.Answers.{Answer, SaysOf}
use Rattle.scp_unpack.specs.Blamed.{unpack_blame, unpack_lost}
use Rattle.scp_unpack.specs.Lines.{refused_text}
use Rattle.scp_unpack.specs.Tracks.{track_of}
use Rattle.scp_unpack.specs.declared.fault.UnpackFault.TheVariants.{Exists, FileFault, FolderFault}
use Rattle.scp_unpack.specs.declared.fault.UnpackFault.TheVariants.{NotThere, NotesFault, ReadFault}
use Rattle.scp_unpack.specs.declared.fault.UnpackFault.TheVariants.{Refused}
use Rattle.scp_unpack.specs.declared.unpacking.Unpacked.{Unpacked}
use Rattle.track_shelf.specs.Files.{File, file_at}
use Rattle.track_shelf.specs.Told.{with_failed}
use Rattle.track_shelf.specs.declared.shelf.Shelf.{Ghosts}
use Rattle.flux_cli.specs.Blamed.{AllCounts, CountsOfRun, all_counts, files}
use Rattle.flux_cli.specs.Endings.{EndsBy, ends, refuses}
use Rattle.flux_cli.specs.FilesTold.{exists_text, failed_text}
use Rattle.flux_cli.specs.MakingWork.{TellsUnmade}
use Rattle.flux_cli.specs.World.{InputMoment, MakerMoment, World, maker_at, shelf_input}

-- all is good where there is a file, and nothing is told of any track
abbrev pub unpack_status : Unpacked → Status
unpack_status unpacked =
    if nat_lt 0 unpacked.files && unpacked.refused == 0 then AllGood else NotAllGood

-- a track that it names has a place in the table
abbrev pub AreOfTable : Answer → Type 0
AreOfTable (Err (Exists number)) = number < TABLE_SIZE
AreOfTable (Err (FileFault number)) = number < TABLE_SIZE
AreOfTable _ = Unit {0}

-- how the answer ends the command: by the status, and by a line of what was not done
abbrev pub EndsUnpacking : {N : Type 0} → Answer → Status → (before after : Moment N) → Type 0
EndsUnpacking (Ok unpacked) status before after =
    EndsBy (ends (unpack_status unpacked)) status before after
EndsUnpacking (Err NotThere) status before after =
    EndsBy (refuses (codes "refused scp missing\n")) status before after
EndsUnpacking (Err (Refused why)) status before after =
    EndsBy (refuses (refused_text why)) status before after
EndsUnpacking (Err (Exists number)) status before after =
    TellsUnmade (exists_text number (track_of number)) status before after
EndsUnpacking (Err ReadFault) status before after =
    TellsUnmade (codes "failed scp\n") status before after
EndsUnpacking (Err FolderFault) status before after =
    TellsUnmade (codes "failed folder\n") status before after
EndsUnpacking (Err (FileFault number)) status before after =
    TellsUnmade (failed_text number (track_of number)) status before after
EndsUnpacking (Err NotesFault) status before after = EndsBy (ends Untold) status before after

-- the line of the sums of a file, where they differ
abbrev pub sums_told : Option Sums → List ℕ
sums_told None = []
sums_told (Some sums) = sums_text sums

-- what is noted of the sums of a file, where the files are told
abbrev pub AreSumsOf : Option (List File) → (file : List ℕ) → Option Sums → Type 0
AreSumsOf told file sums =
    (files : List File) → told ≡ Some files → sums ≡ sums_in (file_at files file)

-- the objects that the command has
pub record UnpackMoment (H N M : Type 0) : Type 0 where
  pub shelf : InputMoment H ShelfNow
  pub maker : MakerMoment M
  pub notes : Moment N

abbrev pub unpack_part : {S W N H M : Type 0} → World S W N H M → UnpackMoment H N M
unpack_part now = record { shelf = now.shelf; maker = now.maker; notes = now.notes }

abbrev pub unpack_at : {H F M K N : Type 0} → SourceGhosts H → Ghosts H F → MakerGhosts M K
    → SinkGhosts N → H → M → N → UnpackMoment H N M
unpack_at source own ofm ofn shelf maker notes = record {
  shelf = shelf_input source own shelf;
  maker = maker_at ofm maker;
  notes = sink_at ofn notes;
}

abbrev pub unpack_counts : {H N M : Type 0} → (source image : FaultCounts) → UnpackMoment H N M
    → AllCounts
unpack_counts source image now =
    all_counts source now.shelf.counts image now.notes.counts now.maker.counts

-- how often each object failed, beside the two that the command has no use for
abbrev pub CountsOfUnpacking : {H N M : Type 0} → Status → (before after : UnpackMoment H N M)
    → Type 0
CountsOfUnpacking status before after = (source image : FaultCounts)
    → CountsOfRun true files false status (unpack_counts source image before)
    (unpack_counts source image after)

-- Behind the line of the sums the file was unpacked as the answer says, with what it left of the
-- notes, and that ended the command. An object failed as the answer blames it, and the shelf stayed
-- but for that.
pub record HasDone {H N M : Type 0} (file folder : List ℕ) (status : Status)
    (before after : UnpackMoment H N M) : Type 0 where
  pub sums : Option Sums
  pub sums_are : AreSumsOf before.shelf.seen.told.files file sums
  pub summed : Moment N
  pub sums_put : Puts {T = Unit {0}} before.notes summed (sums_told sums) (Ok tt)
  pub answer : Answer
  pub notes : Moment N
  pub says : SaysOf
      (record { shelf = before.shelf.seen.told.files; path = file; folder = folder })
      before.maker.made after.maker.made summed.bytes notes.bytes answer
  pub told : after.shelf.seen.told ≡ with_failed (unpack_lost file answer) before.shelf.seen.told
  pub blames : CountsBy (unpack_blame answer)
      (three_counts before.shelf.counts before.maker.counts summed.counts)
      (three_counts after.shelf.counts after.maker.counts notes.counts)
  pub ends : EndsUnpacking answer status notes after.notes

-- the notes failed in the line of the sums, and nothing was made
pub record CutInSums {H N M : Type 0} (file : List ℕ) (status : Status)
    (before after : UnpackMoment H N M) : Type 0 where
  pub sums : Option Sums
  pub sums_are : AreSumsOf before.shelf.seen.told.files file sums
  pub failed : Failed
  pub puts : Puts {T = Unit {0}} before.notes after.notes (sums_told sums) (Err failed)
  pub told : after.shelf.seen.told ≡ before.shelf.seen.told
  pub made : after.maker ≡ before.maker
  pub status_is : status ≡ Untold

-- the file failed as it was summed, and nothing was made
pub record FailedInSums {H N M : Type 0} (file : List ℕ) (status : Status)
    (before after : UnpackMoment H N M) : Type 0 where
  pub told : after.shelf.seen.told ≡ with_failed (file ∷ []) before.shelf.seen.told
  pub made : after.maker ≡ before.maker
  pub ends : TellsUnmade (codes "failed scp\n") status before.notes after.notes

-- what is done in a room
abbrev pub UnpacksIn : {H N M : Type 0} → (file folder : List ℕ) → Status
    → (before after : UnpackMoment H N M) → Type 0
UnpacksIn file folder status before after = HasDone file folder status before after
    ⊎ (CutInSums file status before after ⊎ FailedInSums file status before after)

-- or there was no memory to begin
abbrev pub Unpacks : {S W N H M : Type 0} → (file folder : List ℕ) → Status
    → (before after : World S W N H M) → Type 0
Unpacks file folder status before after = ((status ≡ Memory) × (after ≡ before))
    ⊎ UnpacksIn file folder status (unpack_part before) (unpack_part after)
