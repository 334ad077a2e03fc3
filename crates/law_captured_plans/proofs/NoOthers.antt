-- Captured disks that are read by a plan have no headers of other names.
use Rattle.std.specs.Prelude.{◌<◌, ℕ, ◌+◌, ◌*◌, List, length}
use Rattle.std.proofs.Common.{sym, subst}
use Rattle.kryo_stream.specs.Growth.{StreamsStay}
use Rattle.kryo_stream.specs.Joined.{PaddingIsPassed}
use Rattle.kryo_stream.specs.Stream.{indexes, times}
use Rattle.sector_images.specs.Places.{tracks}
use Rattle.sector_images.specs.declared.format.Format.{Format}
use Rattle.turn_merge.specs.declared.clock.Clock.{Clock}
use Rattle.turn_merge.specs.declared.clock.Clock.TheVariants.{Following, Held}
use Rattle.flux_engine.specs.Captured.{IsUsed}
use Rattle.flux_engine.specs.Recordings.{cells_by, track_at}
use Rattle.flux_engine.specs.Streams.{stream_at}
use Rattle.flux_engine.specs.declared.plan.Plan.{Plan}
use Rattle.flux_engine.specs.declared.plan.Rule.{Rule}
use Rattle.flux_engine.specs.declared.plan.Rule.TheVariants.{Controller, Strict}
use Rattle.flux_engine.specs.lemmas.NoOthers.{NoneStands, no_others_to}
use Rattle.law_captured_disks.specs.Inputs.{AreJoined}
use Rattle.law_captured_disks.specs.Others.{CapturesHaveNoOthers, NoOtherIsRead}
use Rattle.law_captured_disks.specs.lemmas.Streams.{IsStreamNumber}
use Rattle.law_captured_plans.specs.Headline.{CapturedPlansHaveNoOthers, ErasedPlansHaveNoOthers, HaveNoOthers}
use Rattle.flux_engine.specs.Plans.{streams_in}
use Rattle.law_captured_plans.proofs.Streams.{IsSound, stream_is}

by_rule : (rule : Rule) (clock : Clock) (format : Format) (k : ℕ) (y : List ℕ) → NoOtherIsRead clock format k y
    → NoneStands rule format (track_at format k) (cells_by clock format (track_at format k) (times y) (indexes y))
by_rule Strict clock format k y none = tt
by_rule Controller clock format k y none = none

-- the stream of this number has these transitions and index times
of_stream : (rule : Rule) (clock : Clock) (format : Format) (k m : ℕ) (x y : List ℕ) → IsStreamNumber x m y → NoOtherIsRead clock format k y
    → NoneStands rule format (track_at format k) (cells_by clock format (track_at format k) (times (stream_at x m)) (indexes (stream_at x m)))
of_stream rule clock format k m x y is none =
    subst (λ (ts : List ℕ). NoneStands rule format (track_at format k) (cells_by clock format (track_at format k) ts (indexes (stream_at x m)))) (sym is.times_are)
    (subst (λ (ts : List ℕ). NoneStands rule format (track_at format k) (cells_by clock format (track_at format k) (times y) ts)) (sym is.indexes_are)
    (by_rule rule clock format k y none))

-- streams of which none has such a header, one by one
no_others_in : StreamsStay → PaddingIsPassed → (plan : Plan) (format : Format) (x : List ℕ) (stream : ℕ → List ℕ)
    → AreJoined (length (tracks format) * plan.captures) stream x
    → ((n q : ℕ) → n < length (tracks format) → q < plan.captures → IsSound (stream (n * plan.captures + q)))
    → ((n q : ℕ) → n < length (tracks format) → q < plan.captures → (clock : Clock) → IsUsed plan.clocks clock → NoOtherIsRead clock format n (stream (n * plan.captures + q)))
    → HaveNoOthers plan format x
no_others_in stay passed plan format x stream joined sound none n others known =
    no_others_to plan format (streams_in plan x) n plan.captures others
    (λ q low clock used. of_stream plan.rule clock format n (n * plan.captures + q) x (stream (n * plan.captures + q)) (stream_is stay passed plan format x stream joined sound n q known low)
    (none n q known low clock used))

pub captured_plans_have_no_others : CapturesHaveNoOthers → StreamsStay → PaddingIsPassed → CapturedPlansHaveNoOthers
captured_plans_have_no_others none stay passed plan format image x is set steady =
    no_others_in stay passed plan format x set.stream set.joined (λ n q known low. (let here = set.captured n q known low in (here.no_fault, here.whole))) by
  where
    by : (n q : ℕ) → n < length (tracks format) → q < plan.captures → (clock : Clock) → IsUsed plan.clocks clock → NoOtherIsRead clock format n (set.stream (n * plan.captures + q))
    by n q known low Following used = none.whole format image (set.stream (n * plan.captures + q)) n is known (set.captured n q known low)
    by n q known low Held used = none.steady Held format image (set.stream (n * plan.captures + q)) n is known (set.captured n q known low) (steady used n q known low)

pub erased_plans_have_no_others : CapturesHaveNoOthers → StreamsStay → PaddingIsPassed → ErasedPlansHaveNoOthers
erased_plans_have_no_others none stay passed plan format image x is set steady =
    no_others_in stay passed plan format x set.stream set.joined (λ n q known low. (let here = set.captured n q known low in (here.no_fault, here.whole))) by
  where
    by : (n q : ℕ) → n < length (tracks format) → q < plan.captures → (clock : Clock) → IsUsed plan.clocks clock → NoOtherIsRead clock format n (set.stream (n * plan.captures + q))
    by n q known low Following used = none.erased format image (set.stream (n * plan.captures + q)) n is known (set.captured n q known low)
    by n q known low Held used = none.steady_erased Held format image (set.stream (n * plan.captures + q)) n is known (set.captured n q known low) (steady used n q known low)
