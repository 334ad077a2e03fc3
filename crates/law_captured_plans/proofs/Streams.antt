-- The streams of a captured set, and that none of them has a fault.
use Rattle.std.specs.Prelude.{◌≡◌, ◌<◌, ℕ, zero, suc, ◌+◌, ◌*◌, ◌/◌, ◌%◌, List, length, Option, None, Some, refl}
use Rattle.std.proofs.Common.{arith, subst}
use Rattle.std.proofs.lemmas.Nat.{div-add-mod', mul-add-lt}
use Rattle.std.proofs.Math.Nat.{div-lt_iff_lt-mul, mod-lt, mul_comm}
use Rattle.kryo_stream.specs.Growth.{StreamsStay}
use Rattle.kryo_stream.specs.Joined.{PaddingIsPassed}
use Rattle.kryo_stream.specs.Stream.{first_fault, stream_length}
use Rattle.sector_images.specs.Places.{tracks}
use Rattle.sector_images.specs.declared.format.Format.{Format}
use Rattle.flux_engine.specs.Plans.{IsPlanned, Planned, StopsAt, streams_in}
use Rattle.flux_engine.specs.declared.fault.RefusedCapture.{RefusedCapture}
use Rattle.flux_engine.specs.Tracks.{part_by}
use Rattle.flux_engine.specs.declared.plan.Plan.{Plan}
use Rattle.law_captured_disks.specs.Inputs.{AreJoined}
use Rattle.law_captured_disks.specs.lemmas.Streams.{IsStreamNumber, is_stream_number}

none_some : {X : Type 0} (o : Option X) (a : X) → o ≡ None → o ≡ Some a → ⊥
none_some o a none some = cc

-- what has a number has a count
some_of : (i a count : ℕ) → i < a * count → 0 < count
some_of i a zero low = (let none : a * 0 ≡ 0 = omega arith in absurd (omega (arith, low, none)))
some_of i a (suc count) low = omega arith

-- the bytes are one stream without a fault
abbrev pub IsSound : List ℕ → Type 0
IsSound bytes = (first_fault bytes ≡ None) × (stream_length bytes ≡ length bytes)

module _ (stay : StreamsStay) (passed : PaddingIsPassed) (plan : Plan) (format : Format) (x : List ℕ) (stream : ℕ → List ℕ)
    (joined : AreJoined (length (tracks format) * plan.captures) stream x)
    (sound : (n q : ℕ) → n < length (tracks format) → q < plan.captures → IsSound (stream (n * plan.captures + q))) where
  abbrev count : ℕ
  count = plan.captures

  number : (n q : ℕ) → n < length (tracks format) → q < count → n * count + q < length (tracks format) * count
  number n q known low =
      let below = mul-add-lt n count q (length (tracks format)) known low in
      subst (λ (m : ℕ). n * count + q < m) (mul_comm count (length (tracks format))) below

  each_sound : (i : ℕ) → i < length (tracks format) * count → IsSound (stream i)
  each_sound i below =
      let positive : 0 < count = some_of i (length (tracks format)) count below in
      subst (λ (j : ℕ). IsSound (stream j)) (div-add-mod' i count)
      (sound (i / count) (i % count) ((div-lt_iff_lt-mul positive).1 below) (mod-lt i positive))

  -- each of them is a stream of the input
  pub stream_is : (n q : ℕ) → n < length (tracks format) → q < count → IsStreamNumber x (n * count + q) (stream (n * count + q))
  stream_is n q known low =
      is_stream_number stay passed (length (tracks format) * count) stream x joined each_sound (n * count + q) (number n q known low)

  -- so reading does not stop
  pub no_stop : (o : Planned) → IsPlanned plan (part_by plan.naming) format (streams_in plan x) o → o.stop ≡ None
  no_stop o read = nowhere o.stop read.stops
    where
      nowhere : (stop : Option RefusedCapture) → StopsAt plan format (streams_in plan x) stop → stop ≡ None
      nowhere None clean = refl
      nowhere (Some s) first = absurd (none_some _ _ (stream_is s.track s.capture first.low first.few).no_fault first.is)
