-- Bytes that are taken ahead of a source, up to a stream's most.
use Rattle.std.specs.Prelude.{◌≡◌, ◌≢◌, ◌≤◌, ◌<◌, ℕ, ◌+◌, ◌++◌, Bool, false, true, not, List, []}
use Rattle.std.specs.Prelude.{length, take, Option, Result, Ok, Err}
use Rattle.std.specs.Io.KnownBytes.{Consumes, IsAtEnd}
use Rattle.flux_base.specs.declared.outside.Failed.{Failed}
use Rattle.kryo_stream.specs.Outcome.{input_of}
use Rattle.kryo_stream.specs.Protocol.{MOST_PADDING}
use Rattle.kryo_stream.specs.HeldStreams.{MOST_TAKEN}

-- the most bytes that are at hand
abbrev pub MOST_AHEAD : ℕ
MOST_AHEAD = MOST_TAKEN + MOST_PADDING + 1

-- bytes were taken into the front of a buffer, which is full of them or the source has ended
abbrev pub TakesBehind : (left left' : Option (List ℕ)) → (buffer : List ℕ) → Result ℕ Failed
    → Type 0
TakesBehind left left' buffer (Ok count) =
    Consumes left left' (take count buffer) × (count < length buffer → IsAtEnd left')
TakesBehind left left' buffer (Err _) = (taken : List ℕ) × Consumes left left' taken

-- bytes were taken behind those at hand, as many as there is room for, or the source has ended
abbrev pub Refills : (left left' : Option (List ℕ)) → (held held' : List ℕ)
    → Result (Unit {0}) Failed → Type 0
Refills left left' held held' (Ok _) =
    (taken : List ℕ) × Consumes left left' taken × (held' ≡ held ++ taken)
    × (length held' < MOST_AHEAD → IsAtEnd left')
Refills left left' held held' (Err _) = (taken : List ℕ) × Consumes left left' taken

-- Behind the bytes at hand others were taken, and now those at hand stand behind the padding, or
-- nothing does, whatever follows them.
abbrev pub Finds : (is_first : Bool) → (left left' : Option (List ℕ)) → (held held' : List ℕ)
    → Result Bool Failed → Type 0
Finds is_first left left' held held' (Ok true) =
    (taken : List ℕ) × Consumes left left' taken
    × ((later : List ℕ) → input_of (not is_first) ((held ++ taken) ++ later) ≡ held' ++ later)
    × (length held' ≤ MOST_TAKEN → IsAtEnd left') × (is_first ≡ false → held' ≢ [])
Finds is_first left left' held held' (Ok false) =
    (taken : List ℕ) × Consumes left left' taken × (is_first ≡ false) × IsAtEnd left'
    × (input_of (not is_first) (held ++ taken) ≡ [])
Finds is_first left left' held held' (Err _) = (taken : List ℕ) × Consumes left left' taken
