-- One step of a capture: entries that are noted, and a revolution that ends.
use Rattle.std.specs.Prelude.{◌≡◌, ◌≤◌, ◌<◌, ◌⊎◌, ℕ, ◌+◌, ◌*◌, ◌++◌, ◌||◌, Bool, false, true, List, [], ◌∷◌}
use Rattle.std.specs.Prelude.{length, nat_le, nat_lt, sum_by, if◌then◌else◌, Option, Some, None, Result}
use Rattle.std.specs.Prelude.{Ok, Err}
use Rattle.std.specs.Io.KnownBytes.{Consumes, IsAtEnd}
use Rattle.std.specs.List.{cons_option}
use Rattle.kryo_stream.specs.Protocol.{LIMIT}
use Rattle.track_rings.specs.Rings.{last_in}
use Rattle.flux_writer.specs.Written.{in_stream_before}
use Rattle.scp_files.specs.Captures.{CaptureState, TakesFewer}
use Rattle.scp_files.specs.Streams.{END_OF_TIME}
use Rattle.scp_files.specs.Tracks.{words}
use Rattle.scp_files.specs.Units.{entry_units, ticks_of}
use Rattle.scp_files.specs.declared.fault.RevolutionFault.{RevolutionFault}
use Rattle.scp_files.specs.declared.fault.RevolutionFault.TheVariants.{Ended, ReadFault}

-- the transitions of entries of which the first begins after so many units
abbrev pub transitions_from : (resolution units : ℕ) → (values : List ℕ) → List ℕ
transitions_from resolution units [] = []
transitions_from resolution units (value ∷ values) =
    cons_option
    (if nat_lt 0 value then Some (ticks_of resolution (units + entry_units value)) else None)
    (transitions_from resolution (units + entry_units value) values)

-- nothing but transitions and entries is another
pub record KeepsTurns (old new : CaptureState) : Type 0 where
  pub resolution : new.resolution ≡ old.resolution
  pub indexes : new.flux.indexes ≡ old.flux.indexes
  pub revolutions : new.revolutions ≡ old.revolutions
  pub moment : new.moment ≡ old.moment
  pub falls : new.falls ≡ old.falls

-- these entries were noted
pub record Noted (values : List ℕ) (old new : CaptureState) : Type 0 where
  pub times : new.flux.times
      ≡ old.flux.times ++ transitions_from old.resolution old.units values
  pub units : new.units ≡ old.units + sum_by entry_units values
  pub entries : new.entries ≡ old.entries + length values
  pub turns : KeepsTurns old new

-- some were
abbrev pub HasNoted : (old new : CaptureState) → Type 0
HasNoted old new = (values : List ℕ) × Noted values old new

-- the capture is what it was
pub record IsKept (old new : CaptureState) : Type 0 where
  pub times : new.flux.times ≡ old.flux.times
  pub units : new.units ≡ old.units
  pub entries : new.entries ≡ old.entries
  pub turns : KeepsTurns old new

-- an index time comes behind these: it is kept where it is above the last; from the first that
-- is not on, none is kept
abbrev pub NextIndex : (kept : List ℕ) → (falls : Bool) → (time : ℕ) → (kept' : List ℕ)
    → (falls' : Bool) → Type 0
NextIndex kept true time kept' falls' = (kept' ≡ kept) × (falls' ≡ true)
NextIndex kept false time kept' falls' =
    ((last_in kept < time) × (kept' ≡ kept ++ time ∷ []) × (falls' ≡ false))
    ⊎ ((time ≤ last_in kept) × (kept' ≡ kept) × (falls' ≡ true))

-- a revolution of so many units ended
pub record Turned (duration : ℕ) (old new : CaptureState) : Type 0 where
  pub times : new.flux.times ≡ old.flux.times
  pub resolution : new.resolution ≡ old.resolution
  pub entries : new.entries ≡ old.entries
  pub units : new.units ≡ old.units
  pub revolutions : new.revolutions ≡ old.revolutions + 1
  pub moment : new.moment ≡ old.moment + duration
  pub indexes : NextIndex old.flux.indexes old.falls (ticks_of old.resolution new.moment)
      new.flux.indexes new.falls

-- what came of reading so many bytes of entries: all were noted, or those at the front
abbrev pub ReadsBytes : (left left' : Option (List ℕ)) → (size : ℕ) → (old new : CaptureState)
    → Result (Unit {0}) RevolutionFault → Type 0
ReadsBytes left left' size old new (Ok _) =
    (taken : List ℕ) × Consumes left left' taken × (length taken ≡ size) × Noted (words taken) old new
ReadsBytes left left' size old new (Err Ended) =
    TakesFewer left left' size × IsAtEnd left' × HasNoted old new
ReadsBytes left left' size old new (Err ReadFault) = TakesFewer left left' size × HasNoted old new

-- a time of a capture is too late for a stream, or the stream would be longer than one may be
abbrev pub is_too_long_at : CaptureState → Bool
is_too_long_at c =
    nat_le END_OF_TIME (last_in c.flux.times) || nat_le END_OF_TIME (ticks_of c.resolution c.moment)
    || nat_lt LIMIT
    (in_stream_before c.flux.times (length c.flux.times) + 16 * (c.revolutions + 1) + 16)
