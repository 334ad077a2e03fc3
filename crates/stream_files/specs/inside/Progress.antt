-- How far the splitting of joined streams has come.
use Rattle.std.specs.Prelude.{◌≡◌, ℕ, zero, suc, ◌++◌, List, [], ◌∷◌, drop, take}
use Rattle.std.specs.Prelude.{Option, Some, None, Result, Ok, Err}
use Rattle.std.specs.Io.KnownBytes.{Consumes}
use Rattle.file_maker.specs.Made.{Made, made_folder}
use Rattle.flux_base.specs.declared.outside.Failed.{Failed}
use Rattle.file_maker.specs.Makes.{MakesIn, with_files}
use Rattle.flux_engine.specs.Streams.{behind}
use Rattle.index_turns.specs.Track.{TrackState}
use Rattle.std.specs.Option.{option_map}
use Rattle.track_shelf.specs.Files.{File}
use Rattle.track_shelf.specs.Names.{folder_path}
use Rattle.stream_files.specs.Answers.{IsFrontOf, MadeTo}
use Rattle.stream_files.specs.Streams.{AreSound, SplitFolder, stream_files, stream_track}
use Rattle.stream_files.specs.declared.fault.SplitFault.{SplitFault}
use Rattle.stream_files.specs.declared.fault.SplitFault.TheVariants.{FileFault, FolderFault}
use Rattle.stream_files.specs.declared.fault.SplitFault.TheVariants.{Refused}
use Rattle.kryo_stream.specs.HeldStreams.{HoldsFault, HoldsStream}

-- The first n streams of an input have no fault and were made these files: of the input these bytes
-- were taken, and those behind the streams are at hand. That is so whatever follows them.
pub record IsSplitTo (split : SplitFolder) (n : ℕ) (taken held : List ℕ) (files : List File)
    (made made' : Option Made) : Type 0 where
  pub clean : (later : List ℕ) → AreSound (taken ++ later) n
  pub rest : (later : List ℕ) → behind (taken ++ later) n ≡ held ++ later
  pub files_are : (later : List ℕ) → stream_files split (taken ++ later) n ≡ files
  pub made_to : MadeTo split n files made made'

-- so many streams of a source were split: of those that it gave
pub record HasSplit (split : SplitFolder) (n : ℕ) (left left' : Option (List ℕ)) (held : List ℕ)
    (made made' : Option Made) : Type 0 where
  pub taken : List ℕ
  pub files : List File
  pub consumed : Consumes left left' taken
  pub come : IsSplitTo split n taken held files made made'

-- the file of these bytes, of the stream of this number
abbrev pub file_of_bytes : SplitFolder → (k : ℕ) → (bytes : List ℕ) → File
file_of_bytes split k bytes =
    record { path = folder_path split.folder (stream_track split.heads k); bytes = bytes }

-- what lies there where files are made behind those of the streams before number k: before those
-- of the first stream the folder
abbrev pub MadeNext : SplitFolder → (k : ℕ) → List File → (made made' : Option Made) → Type 0
MadeNext split zero files made made' = MakesIn split.folder files made made'
MadeNext split (suc k) files made made' = made' ≡ option_map (with_files files) made

-- before the file of the first stream the folder is made, and before the others nothing
abbrev pub MakesBefore : (k : ℕ) → (folder : List ℕ) → Result (Unit {0}) Failed
    → (made made' : Option Made) → Type 0
MakesBefore zero folder answer made made' = made' ≡ option_map (made_folder folder answer) made
MakesBefore (suc k) folder (Ok _) made made' = made' ≡ made
MakesBefore (suc k) folder (Err _) made made' = ⊥

-- The bytes at hand begin with the stream of number k, of which a file is made, or why none is.
abbrev pub SplitsOne : SplitFolder → (k : ℕ) → (held held' : List ℕ) → (made made' : Option Made)
    → Result (Unit {0}) SplitFault → Type 0
SplitsOne split k held held' made made' (Ok _) =
    (size : ℕ) × (flux : TrackState) × HoldsStream held flux size × (held' ≡ drop size held)
    × MadeNext split k (file_of_bytes split k (take size held) ∷ []) made made'
SplitsOne split k held held' made made' (Err (Refused n block fault)) =
    (n ≡ k) × HoldsFault held (block, fault) × (made' ≡ made)
SplitsOne split k held held' made made' (Err FolderFault) =
    (k ≡ 0) × (size : ℕ) × (flux : TrackState) × HoldsStream held flux size × (made' ≡ made)
SplitsOne split k held held' made made' (Err (FileFault n)) =
    (n ≡ k) × (size : ℕ) × (flux : TrackState) × HoldsStream held flux size × (files : List File)
    × IsFrontOf (file_of_bytes split k (take size held)) files × MadeNext split k files made made'
SplitsOne split k held held' made made' (Err _) = ⊥
