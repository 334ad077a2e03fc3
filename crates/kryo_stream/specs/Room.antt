-- What contracts see of the room in which streams are read, and of its answers.
use Rattle.std.specs.Prelude.{◌≡◌, ℕ, Bool, false, List, [], Result, Ok, Err}
use Rattle.index_turns.specs.Track.{TrackState}
use Rattle.kryo_stream.specs.declared.fault.CaptureFault.{CaptureFault}
use Rattle.kryo_stream.specs.declared.fault.CaptureFault.TheVariants.{ReadFault, Refused}
use Rattle.kryo_stream.specs.declared.fault.TrackFault.TheVariants.{ReadFault as TrackReadFault}
use Rattle.kryo_stream.specs.declared.fault.TrackFault.TheVariants.{Refused as TrackRefused}
use Rattle.kryo_stream.specs.Outcome.{Answer}

-- the bytes that were taken from a source and not used yet, whether a stream was read, and the
-- transitions and index times of the last one
pub record StreamRoomState : Type 0 where
  pub held : List ℕ
  pub used : Bool
  pub flux : TrackState

-- no stream was read in this room
pub record IsFresh (room : StreamRoomState) : Type 0 where
  pub held : room.held ≡ []
  pub unused : room.used ≡ false
  pub times : room.flux.times ≡ []
  pub indexes : room.flux.indexes ≡ []

-- the same answer of a call that could want memory
abbrev pub track_answer : Result (Unit {0}) CaptureFault → Answer
track_answer (Ok u) = Ok u
track_answer (Err ReadFault) = Err TrackReadFault
track_answer (Err (Refused block fault)) = Err (TrackRefused block fault)
