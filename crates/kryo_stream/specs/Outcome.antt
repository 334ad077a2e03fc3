-- What reading one track may answer, and what that says of the input.
use Rattle.std.specs.Prelude.{◌≡◌, ◌≤◌, ◌<◌, ◌^◌, All, ◌+◌, ◌++◌, ℕ, Bool, true, false}
use Rattle.std.specs.Prelude.{if◌then◌else◌, List, [], length, take, drop, Option, Some, None}
use Rattle.std.specs.Prelude.{Result, Ok, Err}
use Rattle.std.specs.List.{concat}
use Rattle.std.specs.Io.KnownBytes.{Consumes, IsAtEnd}
use Rattle.flux_base.specs.Counts.{RoseIf}
use Rattle.flux_base.specs.Outside.{Gives}
use Rattle.index_turns.specs.Track.{TrackState, room_of_times, room_of_indexes}
use Rattle.kryo_stream.specs.declared.fault.StreamFault.TheVariants.{Truncated}
use Rattle.kryo_stream.specs.declared.fault.TrackFault.{TrackFault}
use Rattle.kryo_stream.specs.declared.fault.TrackFault.TheVariants.{ReadFault, Memory, Refused}
use Rattle.kryo_stream.specs.Protocol.{LIMIT, MOST_HELD, MOST_PADDING}
use Rattle.kryo_stream.specs.Padding.{unpadded}
use Rattle.kryo_stream.specs.Reads.{SourceMoment}
use Rattle.kryo_stream.specs.Stream.{first_fault, times, indexes, stream_length}

abbrev pub Answer : Type 0
Answer = Result (Unit {0}) TrackFault

-- x begins with a stream, and these are its times, its index times and what stands after it
pub record IsStream (x : List ℕ) (flux : TrackState) (stays : List ℕ) : Type 0 where
  pub no_fault : first_fault x ≡ None
  pub times : flux.times ≡ times x
  pub indexes : flux.indexes ≡ indexes x
  pub rest : stays ≡ drop (stream_length x) x

-- what an answer says of the input, of which the last part stays
abbrev pub Says : Answer → List ℕ → TrackState → List ℕ → Type 0
Says (Ok _) x flux stays = IsStream x flux stays
Says (Err (Refused block fault)) x flux stays = first_fault x ≡ Some (block, fault)
Says (Err ReadFault) x flux stays = Unit {0}
Says (Err Memory) x flux stays = Unit {0}

-- the answer says that the input ends inside a block
abbrev pub IsTruncated : Answer → Type 0
IsTruncated (Err (Refused _ fault)) = fault ≡ Truncated
IsTruncated _ = ⊥

-- where the source failed, the bytes at hand were too few
abbrev pub IsCut : Answer → List ℕ → Type 0
IsCut (Err ReadFault) x = (block : ℕ) × (first_fault x ≡ Some (block, Truncated))
IsCut _ x = Unit {0}

-- the input without the padding, where a stream was read through the intake before
abbrev pub input_of : Bool → List ℕ → List ℕ
input_of used x = if used then unpadded x else x

-- the most bytes of padding
abbrev pub most_padding : Bool → ℕ
most_padding used = if used then MOST_PADDING else 0

-- the call took these bytes, which with the held ones are no more than padding, a stream and an
-- intake can be, and its answer is right whatever follows them; only where it says that the input
-- ends inside a block, nothing follows
pub record IsRead (left left' : Option (List ℕ)) (used : Bool) (held held' : List ℕ)
    (flux : TrackState) (answer : Answer) : Type 0 where
  pub taken : List ℕ
  pub consumed : Consumes left left' taken
  pub few : length (held ++ taken) ≤ most_padding used + (LIMIT + MOST_HELD)
  pub says : (later : List ℕ) → (IsTruncated answer → later ≡ [])
      → Says answer (input_of used ((held ++ taken) ++ later)) flux (held' ++ later)
  pub ended : IsTruncated answer → IsAtEnd left'
  pub cut : IsCut answer (input_of used (held ++ taken))

-- the bytes at hand end inside a block, so that they do not tell the answer
abbrev pub DoNotTell : Bool → List ℕ → Type 0
DoNotTell used bytes = (block : ℕ) × (first_fault (input_of used bytes) ≡ Some (block, Truncated))

-- each read of the source was made where the held bytes, with those that the reads before it gave,
-- did not tell the answer; without a read the count of faults stays
pub record IsReadWhereNeeded (old new : SourceMoment) (used : Bool) (held : List ℕ) : Type 0 where
  pub pieces : List (List ℕ)
  pub gave : Gives old.given new.given pieces
  pub consumed : Consumes old.left new.left (concat pieces)
  pub needed : (k : ℕ) → k < length pieces → DoNotTell used (held ++ concat (take k pieces))
  pub still : pieces ≡ [] → new.faults ≡ old.faults

-- the source tells what stays in it, and the answer is right for the whole input
abbrev pub IsReadOfInput : List ℕ → Option (List ℕ) → List ℕ → TrackState → Answer → Type 0
IsReadOfInput input left' held' flux answer =
    (stays : List ℕ) × (left' ≡ Some stays) × Says answer input flux (held' ++ stays)

-- the answer is that the source failed
abbrev pub is_read_fault : Answer → Bool
is_read_fault (Err ReadFault) = true
is_read_fault _ = false

-- when an answer may come: that the source failed, where its count rose
abbrev pub TrackCause : ℕ → ℕ → Answer → Type 0
TrackCause before now answer = RoseIf (is_read_fault answer) before now

-- what a stream's limit makes of its times: a block has at most 65536 ticks a
-- byte, and a sample counter 32 bits
pub record IsSmall (flux : TrackState) : Type 0 where
  pub few_times : length flux.times ≤ LIMIT
  pub few_indexes : length flux.indexes ≤ 262144
  pub times_within : All (λ time. time ≤ 2 ^ 38) flux.times
  pub indexes_within : All (λ time. time < 2 ^ 39) flux.indexes

-- room for the transitions and index times of any stream
pub record HasFullRoom (flux : TrackState) : Type 0 where
  pub times : LIMIT ≤ room_of_times flux
  pub indexes : 262144 ≤ room_of_indexes flux

-- an answer other than want of memory
abbrev pub IsNotMemory : Answer → Type 0
IsNotMemory (Err Memory) = ⊥
IsNotMemory _ = Unit {0}
