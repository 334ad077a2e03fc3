-- Where the reading of a disk by a plan stops, by the streams of an input in their order.
use Rattle.std.specs.Prelude.{◌≡◌, ◌<◌, ℕ, ◌+◌, ◌*◌, List, length, None, Some}
use Rattle.std.proofs.Common.{ap, arith, inl, inr}
use Rattle.std.proofs.lemmas.Nat.{mul-add-lt}
use Rattle.std.proofs.Math.Nat.{mul_comm}
use Rattle.kryo_stream.specs.Stream.{first_fault}
use Rattle.kryo_stream.specs.declared.fault.StreamFault.{StreamFault}
use Rattle.sector_images.specs.Places.{tracks}
use Rattle.sector_images.specs.declared.format.Format.{Format}
use Rattle.flux_engine.specs.Plans.{IsBefore, IsFirstFault, StopsAt, streams_in}
use Rattle.flux_engine.specs.Streams.{stream_at}
use Rattle.flux_engine.specs.declared.plan.Plan.{Plan}

-- the number of a stream among all, counted capture by capture
pub counted_before : (plan : Plan) (n q track capture : ℕ) → q < plan.captures
    → IsBefore n q track capture
    → n * plan.captures + q < track * plan.captures + capture
counted_before plan n q track capture few (inl earlier) =
    let all : track * plan.captures ≡ plan.captures * track = mul_comm track plan.captures in
    let below = mul-add-lt n plan.captures q track earlier few in
    omega (arith, below, all)
counted_before plan n q track capture few (inr (same, below)) =
    let at : n * plan.captures ≡ track * plan.captures = ap (λ (k : ℕ). k * plan.captures) same in
    omega (arith, at, below)

-- the stop is the first stream that has a fault, of this track and this capture
pub stops_here : (plan : Plan) (format : Format) (x : List ℕ) (n q block : ℕ) (fault : StreamFault)
    → n < length (tracks format) → q < plan.captures
    → ((i : ℕ) → i < n * plan.captures + q → first_fault (stream_at x i) ≡ None)
    → first_fault (stream_at x (n * plan.captures + q)) ≡ Some (block, fault)
    → IsFirstFault plan format (streams_in plan x)
    (record { track = n; capture = q; block = block; fault = fault })
stops_here plan format x n q block fault low few clean is = record {
  low = low;
  few = few;
  clean = λ k j within before.
      clean (k * plan.captures + j) (counted_before plan k j n q within before);
  is = is;
}

pub stops_nowhere : (plan : Plan) (format : Format) (x : List ℕ)
    → ((i : ℕ) → i < length (tracks format) * plan.captures → first_fault (stream_at x i) ≡ None)
    → StopsAt plan format (streams_in plan x) None
stops_nowhere plan format x clean = λ (n q : ℕ) low few.
    let all : length (tracks format) * plan.captures ≡ plan.captures * length (tracks format) =
    mul_comm (length (tracks format)) plan.captures in
    let below = mul-add-lt n plan.captures q (length (tracks format)) low few in
    clean (n * plan.captures + q) (omega (arith, below, all))
