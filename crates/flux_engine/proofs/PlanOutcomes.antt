-- Streams come to one outcome.
use Rattle.std.specs.Prelude.{◌≡◌, ◌⊎◌, ℕ, List, [], get_or, length, Option, Some, None, refl}
use Rattle.std.proofs.Common.{ap, sym, subst, ◌∙◌, arith, inl, inr}
use Rattle.std.proofs.lemmas.Bool.{cases_lt}
use Rattle.std.proofs.lemmas.List.{ext_get_or}
use Rattle.flux_base.specs.declared.track.TrackId.{TrackId}
use Rattle.kryo_stream.specs.declared.fault.StreamFault.{StreamFault}
use Rattle.sector_images.specs.declared.format.Format.{Format}
use Rattle.turn_merge.specs.Readings.{NotedReading}
use Rattle.turn_merge.specs.declared.clock.Clock.{Clock}
use Rattle.flux_engine.specs.Disks.{report_over}
use Rattle.flux_engine.specs.Captured.{AreReadingsBy, AreReadingsOf}
use Rattle.flux_engine.specs.PlanLaws.{OnePlanned, ReadingsInPlansAreOne}
use Rattle.flux_engine.specs.declared.fault.RefusedCapture.{RefusedCapture}
use Rattle.flux_engine.specs.Plans.{IsBefore, IsFirstFault, StopsAt, Streams, planned_count}
use Rattle.flux_engine.specs.Recordings.{cells_by, track_at}
use Rattle.flux_engine.specs.Tracks.{Found, TrackPart, readings_in}
use Rattle.flux_engine.specs.declared.plan.Clocks.{Clocks}
use Rattle.flux_engine.specs.Rules.{RulesAreRead}
use Rattle.flux_engine.specs.lemmas.OneParts.{joined-same, one_parts}
use Rattle.flux_engine.specs.declared.plan.Plan.{Plan}
use Rattle.flux_engine.specs.declared.plan.Rule.{Rule}

none_some : {X : Type 0} (o : Option X) (x : X) → o ≡ None → o ≡ Some x → ⊥
none_some o x none some = cc

some_same : {X : Type 0} (o : Option X) (x y : X) → o ≡ Some x → o ≡ Some y → x ≡ y
some_same o x y first second = cc

-- two places among the streams: one is read before the other, or they are one
ordered : (n q m p : ℕ) → (IsBefore n q m p ⊎ IsBefore m p n q) ⊎ ((n ≡ m) × (q ≡ p))
ordered n q m p =
    elim (cases_lt n m) [
      | inl before ↦ inl (inl (inl before))
      | inr least ↦
          elim (cases_lt m n) [
            | inl before ↦ inl (inr (inl before))
            | inr most ↦
                let same : n ≡ m = omega (arith, least, most) in
                elim (cases_lt q p) [
                  | inl before ↦ inl (inl (inr (same, before)))
                  | inr from ↦
                      elim (cases_lt p q) [
                        | inl before ↦ inl (inr (inr (sym same, before)))
                        | inr to ↦ inr (same, omega (arith, from, to))
                      ]
                ]
          ]
    ]

module _ (plan : Plan) (format : Format) (streams : Streams) where
  stop-same : (a b : RefusedCapture) → IsFirstFault plan format streams a → IsFirstFault plan format streams b → a ≡ b
  stop-same a b f g =
      elim (ordered a.track a.capture b.track b.capture) [
        | inl (inl before) ↦ absurd (none_some (streams a.track a.capture).fault (a.block, a.fault) (g.clean a.track a.capture f.few before) f.is)
        | inl (inr before) ↦ absurd (none_some (streams b.track b.capture).fault (b.block, b.fault) (f.clean b.track b.capture g.few before) g.is)
        | inr (track, capture) ↦
            let of : ℕ → ℕ → ℕ × StreamFault → RefusedCapture = λ n q at. record { track = n; capture = q; block = at.0; fault = at.1 } in
            let there : (streams b.track b.capture).fault ≡ Some (a.block, a.fault) =
            subst (λ (n : ℕ). (streams n b.capture).fault ≡ Some (a.block, a.fault)) track
            (subst (λ (q : ℕ). (streams a.track q).fault ≡ Some (a.block, a.fault)) capture f.is) in
            let at = some_same (streams b.track b.capture).fault (a.block, a.fault) (b.block, b.fault) there g.is in
            ap (λ (n : ℕ). of n a.capture (a.block, a.fault)) track ∙ ap (λ (q : ℕ). of b.track q (a.block, a.fault)) capture ∙ ap (of b.track b.capture) at
      ]

  stops-same : (a b : Option RefusedCapture) → StopsAt plan format streams a → StopsAt plan format streams b → a ≡ b
  stops-same None None f g = refl
  stops-same None (Some b) f g = absurd (none_some (streams b.track b.capture).fault (b.block, b.fault) (f b.track b.capture g.low g.few) g.is)
  stops-same (Some a) None f g = absurd (none_some (streams a.track a.capture).fault (a.block, a.fault) (g a.track a.capture f.low f.few) f.is)
  stops-same (Some a) (Some b) f g = ap Some (stop-same a b f g)

module _ (read : RulesAreRead) where
  one_by_clock : (rule : Rule) (clock : Clock) (format : Format) (track : TrackId) (times indexes : List ℕ) (capture : ℕ) (a b : List NotedReading)
      → AreReadingsBy rule clock format track times indexes capture a → AreReadingsBy rule clock format track times indexes capture b → a ≡ b
  one_by_clock rule clock format track times indexes capture a b p q =
      let cells = cells_by clock format track times indexes in
      p.are ∙ ap (λ (found : List Found). readings_in capture clock times indexes cells found) (read.one rule format track cells p.found q.found p.all q.all) ∙ sym q.are

  one_capture : (rule : Rule) (clocks : Clocks) (format : Format) (track : TrackId) (times indexes : List ℕ) (capture : ℕ) (a b : List NotedReading)
      → AreReadingsOf rule clocks format track times indexes capture a → AreReadingsOf rule clocks format track times indexes capture b → a ≡ b
  one_capture rule clocks format track times indexes capture a b p q =
      p.are
      ∙ joined-same clocks p.by_clock q.by_clock (λ clock used. one_by_clock rule clock format track times indexes capture (p.by_clock clock) (q.by_clock clock) (p.each clock used) (q.each clock used))
      ∙ sym q.are

  pub one_captures : ReadingsInPlansAreOne
  one_captures plan format streams n a b p q same =
      ext_get_or [] a b same
      (λ k low. one_capture plan.rule plan.clocks format (track_at format n) (streams n k).times (streams n k).indexes k (get_or a k []) (get_or b k []) (p k low) (q k (omega (arith, low, same))))

  pub one_planned : OnePlanned
  one_planned plan of format streams a b p q =
      let stop : a.stop ≡ b.stop = stops-same plan format streams a.stop b.stop p.stops q.stops in
      let many : length p.parts ≡ length q.parts = p.many ∙ ap (planned_count format) stop ∙ sym q.many in
      p.is ∙ ap (λ (parts : List TrackPart). report_over parts a.stop) (one_parts read one_captures plan of format streams p.parts q.parts p.each q.each many)
      ∙ ap (report_over q.parts) stop ∙ sym q.is
