-- The streams of an input as files, one for each. How many heads the disk has is given; nothing
-- else is known of it.
use Rattle.std.specs.Prelude.{◌≡◌, ◌<◌, ◌*◌, ◌/◌, ◌%◌, ℕ, List, map, take, None}
use Rattle.std.specs.List.{range_with_len}
use Rattle.flux_base.specs.declared.track.TrackId.{TrackId}
use Rattle.flux_engine.specs.Streams.{stream_at}
use Rattle.kryo_stream.specs.Stream.{first_fault, stream_length}
use Rattle.track_shelf.specs.Files.{File}
use Rattle.track_shelf.specs.Names.{folder_path}
use Rattle.stream_files.specs.declared.heads.Heads.{Heads}
use Rattle.stream_files.specs.declared.heads.Heads.TheVariants.{One, Two}

-- how many streams a cylinder has
abbrev pub head_count : Heads → ℕ
head_count One = 1
head_count Two = 2

-- how many streams have names, in which a cylinder has two digits
abbrev pub most_streams : Heads → ℕ
most_streams heads = 100 * head_count heads

-- the track by whose numbers stream number k is named: the first is 00.0
abbrev pub stream_track : Heads → (k : ℕ) → TrackId
stream_track heads k = record { cylinder = k / head_count heads; head = k % head_count heads }

-- where the files are made, and how many heads the disk has
pub record SplitFolder : Type 0 where
  pub folder : List ℕ
  pub heads : Heads

-- the bytes of stream number k of an input, as they came, without padding
abbrev pub stream_bytes : (x : List ℕ) → (k : ℕ) → List ℕ
stream_bytes x k = take (stream_length (stream_at x k)) (stream_at x k)

abbrev pub stream_file : SplitFolder → (x : List ℕ) → (k : ℕ) → File
stream_file split x k = record {
  path = folder_path split.folder (stream_track split.heads k);
  bytes = stream_bytes x k;
}

-- the files of the first streams, in order, so many
abbrev pub stream_files : SplitFolder → (x : List ℕ) → (count : ℕ) → List File
stream_files split x count = map (stream_file split x) (range_with_len 0 count)

-- of the first streams, so many, none has a fault
abbrev pub AreSound : (x : List ℕ) → (count : ℕ) → Type 0
AreSound x count = (k : ℕ) → k < count → first_fault (stream_at x k) ≡ None
