-- What splitting joined streams may answer, and what that says of the input and of what is made.
use Rattle.std.specs.Prelude.{◌≡◌, ◌≢◌, ◌<◌, ◌⊎◌, ◌+◌, ◌++◌, ℕ, zero, suc, List, [], ◌∷◌, find}
use Rattle.std.specs.Prelude.{length, Option, Some, None, Result, Ok, Err}
use Rattle.std.specs.Io.KnownBytes.{Consumes, IsAtEnd}
use Rattle.std.specs.List.{range_with_len}
use Rattle.std.specs.Option.{is_some}
use Rattle.file_maker.specs.Made.{Made}
use Rattle.file_maker.specs.Makes.{MakesIn, front_of}
use Rattle.flux_engine.specs.Streams.{stream_at}
use Rattle.kryo_stream.specs.Stream.{first_fault}
use Rattle.kryo_stream.specs.declared.fault.StreamFault.TheVariants.{Truncated}
use Rattle.track_shelf.specs.Files.{File, file_of}
use Rattle.stream_files.specs.Streams.{AreSound, SplitFolder, most_streams, stream_file}
use Rattle.stream_files.specs.Streams.{stream_files, stream_track}
use Rattle.stream_files.specs.declared.fault.SplitFault.{SplitFault}
use Rattle.stream_files.specs.declared.fault.SplitFault.TheVariants.{Exists, FileFault}
use Rattle.stream_files.specs.declared.fault.SplitFault.TheVariants.{FolderFault, NoName, ReadFault}
use Rattle.stream_files.specs.declared.fault.SplitFault.TheVariants.{Refused}

abbrev pub Answer : Type 0
Answer = Result ℕ SplitFault

-- the number of the first stream whose file would be one that is there, if one would
abbrev pub first_there : List File → SplitFolder → Option ℕ
first_there files split =
    find (λ k. is_some (file_of files split.folder (stream_track split.heads k)))
    (range_with_len 0 (most_streams split.heads))

-- this is that number, where it is told what lies there
abbrev pub IsFirstThere : Option Made → SplitFolder → Option ℕ → Type 0
IsFirstThere made split first =
    (told : Made) → made ≡ Some told → first_there told.files split ≡ first

-- These are the files of the first streams, so many. Where there is none the folder was not made.
abbrev pub MadeTo : SplitFolder → (count : ℕ) → List File → (made made' : Option Made) → Type 0
MadeTo split zero files made made' = (files ≡ []) × (made' ≡ made)
MadeTo split (suc n) files made made' = MakesIn split.folder files made made'

-- nothing of a file was made, or a front of it that is shorter than it
abbrev pub IsFrontOf : File → List File → Type 0
IsFrontOf file files =
    (files ≡ [])
    ⊎ ((few : ℕ) × (few < length file.bytes) × (files ≡ front_of few file ∷ []))

-- These are the files of the streams before number k, and of its own nothing or a front.
abbrev pub IsCutAt : SplitFolder → (x : List ℕ) → (k : ℕ) → List File → Type 0
IsCutAt split x k files =
    (front : List File) × IsFrontOf (stream_file split x k) front
    × (files ≡ stream_files split x k ++ front)

-- What the answer says of an input of these bytes. No file of any name was there where one is made.
abbrev pub SaysOfStreams : SplitFolder → (x : List ℕ) → (made made' : Option Made) → Answer
    → Type 0
SaysOfStreams split x made made' (Ok count) =
    IsFirstThere made split None × (0 < count) × AreSound x count × (stream_at x count ≡ [])
    × MadeTo split count (stream_files split x count) made made'
SaysOfStreams split x made made' (Err (Refused k block fault)) =
    IsFirstThere made split None × AreSound x k
    × (first_fault (stream_at x k) ≡ Some (block, fault))
    × MadeTo split k (stream_files split x k) made made'
SaysOfStreams split x made made' (Err (NoName k)) =
    IsFirstThere made split None × (k ≡ most_streams split.heads) × AreSound x k
    × (stream_at x k ≢ []) × MadeTo split k (stream_files split x k) made made'
SaysOfStreams split x made made' (Err ReadFault) =
    IsFirstThere made split None
    × (k : ℕ) × AreSound x k × MadeTo split k (stream_files split x k) made made'
SaysOfStreams split x made made' (Err FolderFault) =
    IsFirstThere made split None × AreSound x 1 × (made' ≡ made)
SaysOfStreams split x made made' (Err (FileFault k)) =
    (k < most_streams split.heads) × IsFirstThere made split None × AreSound x (k + 1)
    × (files : List File) × IsCutAt split x k files × MakesIn split.folder files made made'
SaysOfStreams split x made made' (Err (Exists k)) =
    (k < most_streams split.heads) × IsFirstThere made split (Some k) × (made' ≡ made)

-- a file was there
abbrev pub IsThere : Answer → Type 0
IsThere (Err (Exists _)) = Unit {0}
IsThere _ = ⊥

-- the answer is of the bytes that were taken alone, and not of what may follow them
abbrev pub IsOfBytesTaken : Answer → Type 0
IsOfBytesTaken (Ok _) = Unit {0}
IsOfBytesTaken (Err (Refused _ _ fault)) = fault ≡ Truncated
IsOfBytesTaken (Err _) = ⊥

-- A call that splits joined streams: it took these bytes, and its answer is right whatever follows
-- them; only where it is of them alone, nothing follows.
pub record SplitsStreams (split : SplitFolder) (left left' : Option (List ℕ))
    (made made' : Option Made) (answer : Answer) : Type 0 where
  pub taken : List ℕ
  pub consumed : Consumes left left' taken
  pub ended : IsOfBytesTaken answer → IsAtEnd left'
  pub says : (later : List ℕ) → (IsOfBytesTaken answer → later ≡ [])
      → SaysOfStreams split (taken ++ later) made made' answer
