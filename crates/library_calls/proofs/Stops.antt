-- Where an input stops: a stream of the format has the first fault.
use Rattle.std.specs.Prelude.{◌≡◌, ◌<◌, ℕ, List, find, length, option_and_then, option_map, unwrap_or, Option, Some, None, refl}
use Rattle.std.specs.List.{range_with_len}
use Rattle.std.proofs.Common.{ap, arith, subst}
use Rattle.flux_base.specs.lemmas.Finding.{find-below}
use Rattle.kryo_stream.specs.Stream.{first_fault}
use Rattle.kryo_stream.specs.declared.fault.StreamFault.{StreamFault}
use Rattle.sector_images.specs.Places.{tracks}
use Rattle.sector_images.specs.declared.format.Format.{Format}
use Rattle.flux_engine.specs.Streams.{stream_at}
use Rattle.library_calls.specs.Disks.{Stop, has_fault, stop_at, stop_of}

abbrev pub StopsThere : Format → List ℕ → Stop → Type 0
StopsThere format x s = (s.track < length (tracks format)) × (first_fault (stream_at x s.track) ≡ Some (s.block, s.fault))

by_fault : (format : Format) (x : List ℕ) (n : ℕ) (s : Stop) (fault : Option (ℕ × StreamFault)) → n < length (tracks format) → first_fault (stream_at x n) ≡ fault
    → option_map (λ (f : ℕ × StreamFault). let stop : Stop = record { track = n; block = f.0; fault = f.1 } in stop) fault ≡ Some s → StopsThere format x s
by_fault format x n s None low is stop = absurd (cc)
by_fault format x n s (Some f) low is stop =
    let here : Stop = record { track = n; block = f.0; fault = f.1 } in
    let same : here ≡ s = ap (λ (o : Option Stop). unwrap_or o here) stop in
    subst (StopsThere format x) same (low, is)

by_number : (format : Format) (x : List ℕ) (s : Stop) (found : Option ℕ) → find (has_fault x) (range_with_len 0 (length (tracks format))) ≡ found
    → option_and_then (stop_at x) found ≡ Some s → StopsThere format x s
by_number format x s None at is = absurd (cc)
by_number format x s (Some n) at is =
    let below = find-below (has_fault x) 0 (length (tracks format)) n at in
    by_fault format x n s (first_fault (stream_at x n)) (omega (arith, below)) refl is

pub stops_there : (format : Format) (x : List ℕ) (s : Stop) → stop_of format x ≡ Some s → StopsThere format x s
unfolding stop_of
stops_there format x s is = by_number format x s (find (has_fault x) (range_with_len 0 (length (tracks format)))) refl is
