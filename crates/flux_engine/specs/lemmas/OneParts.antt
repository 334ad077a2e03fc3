-- Streams come to one part of each track, and to the same others and names.
use Rattle.std.specs.Prelude.{◌≡◌, ℕ, zero, suc, Bool, map, List, [], ◌++◌, length}
use Rattle.std.proofs.Common.{ap, sym, ◌∙◌, arith}
use Rattle.std.proofs.lemmas.List.{ext_get_or}
use Rattle.flux_base.specs.declared.track.TrackId.{TrackId}
use Rattle.sector_images.specs.declared.format.Format.{Format}
use Rattle.turn_merge.specs.Others.{NotedOther}
use Rattle.turn_merge.specs.Readings.{NotedReading}
use Rattle.turn_merge.specs.declared.clock.Clock.{Clock}
use Rattle.turn_merge.specs.declared.clock.Clock.TheVariants.{Following, Held}
use Rattle.flux_engine.specs.Captured.{AreNamesOf, AreNotedOf, AreOthersOf, IsUsed, joined_by}
use Rattle.flux_engine.specs.Captured.{noted_other}
use Rattle.flux_engine.specs.Disks.{no_totals, part_at}
use Rattle.flux_engine.specs.PlanLaws.{ReadingsInPlansAreOne}
use Rattle.flux_engine.specs.Plans.{AreNamesTo, AreOthersTo, ArePlannedParts, IsPlannedPart, PartOf}
use Rattle.flux_engine.specs.Plans.{Seen, Streams, joined, passed_to}
use Rattle.flux_engine.specs.Recordings.{cells_by, track_at}
use Rattle.flux_engine.specs.Rules.{AreNamesIn, AreOthersBy, OtherFound, RulesAreRead}
use Rattle.flux_engine.specs.Tracks.{TrackPart, track_notes}
use Rattle.flux_engine.specs.declared.plan.Clocks.{Clocks}
use Rattle.flux_engine.specs.declared.plan.Clocks.TheVariants.{Both, FollowingAlone}
use Rattle.flux_engine.specs.declared.plan.Plan.{Plan}
use Rattle.flux_engine.specs.declared.plan.Rule.{Rule}

abbrev no_part : TrackPart
no_part = record { image = []; lines = []; totals = no_totals }

pub joined-same : {X : Type 0} (clocks : Clocks) (f g : Clock → List X)
    → ((clock : Clock) → IsUsed clocks clock → f clock ≡ g clock)
    → joined_by clocks f ≡ joined_by clocks g
joined-same FollowingAlone f g same = same Following tt
joined-same Both f g same =
    ap (λ rs. rs ++ f Held) (same Following tt) ∙ ap (λ rs. g Following ++ rs) (same Held tt)

-- all that is noted of a capture is one list, where it is so in cells
one_noted_of : (AreAll : List Bool → List (ℕ × OtherFound) → Type 0)
    → ((cells : List Bool) (xs ys : List (ℕ × OtherFound)) → AreAll cells xs → AreAll cells ys
    → xs ≡ ys)
    → (clocks : Clocks) (format : Format) (track : TrackId) (times indexes : List ℕ) (capture : ℕ)
    (a b : List NotedOther)
    → AreNotedOf AreAll clocks format track times indexes capture a
    → AreNotedOf AreAll clocks format track times indexes capture b → a ≡ b
one_noted_of AreAll one clocks format track times indexes capture a b p q =
    p.are ∙ joined-same clocks p.by_clock q.by_clock (λ clock used.
    let x = p.each clock used in
    let y = q.each clock used in
    let cells = cells_by clock format track times indexes in
    x.are
    ∙ ap (map (noted_other capture clock times indexes cells))
    (one cells x.found y.found x.all y.all)
    ∙ sym y.are)
    ∙ sym q.are

module _ (read : RulesAreRead) where
  one_others_of : (rule : Rule) (clocks : Clocks) (format : Format) (track : TrackId)
      (times indexes : List ℕ) (capture : ℕ) (a b : List NotedOther)
      → AreOthersOf rule clocks format track times indexes capture a
      → AreOthersOf rule clocks format track times indexes capture b → a ≡ b
  one_others_of rule clocks format track times indexes capture a b p q =
      one_noted_of (AreOthersBy rule format track) (read.one_others rule format track) clocks format
      track times indexes capture a b p q

  one_names_of : (clocks : Clocks) (format : Format) (near : TrackId) (times indexes : List ℕ)
      (capture : ℕ) (a b : List NotedOther)
      → AreNamesOf clocks format near times indexes capture a
      → AreNamesOf clocks format near times indexes capture b → a ≡ b
  one_names_of clocks format near times indexes capture a b p q =
      one_noted_of (AreNamesIn format) (read.one_names format) clocks format near times indexes
      capture a b p q

  pub one_names_to : (plan : Plan) (format : Format) (near : TrackId) (captures : ℕ → Seen) (q : ℕ)
      (a b : List NotedOther)
      → AreNamesTo plan format near captures q a → AreNamesTo plan format near captures q b → a ≡ b
  one_names_to plan format near captures zero a b p r = p ∙ sym r
  one_names_to plan format near captures (suc q) a b (before, now, earlier, here, is)
      (before', now', earlier', here', is') =
      is
      ∙ ap (λ (os : List NotedOther). os ++ now)
      (one_names_to plan format near captures q before before' earlier earlier')
      ∙ ap (λ (os : List NotedOther). before' ++ os)
      (one_names_of plan.clocks format near (captures q).times (captures q).indexes q now now' here
      here')
      ∙ sym is'

  pub one_others_to : (plan : Plan) (format : Format) (streams : Streams) (n q : ℕ)
      (a b : List NotedOther)
      → AreOthersTo plan format streams n q a → AreOthersTo plan format streams n q b → a ≡ b
  one_others_to plan format streams n zero a b p r = p ∙ sym r
  one_others_to plan format streams n (suc q) a b (before, now, earlier, here, is)
      (before', now', earlier', here', is') =
      is
      ∙ ap (λ (os : List NotedOther). os ++ now)
      (one_others_to plan format streams n q before before' earlier earlier')
      ∙ ap (λ (os : List NotedOther). before' ++ os)
      (one_others_of plan.rule plan.clocks format (track_at format n) (streams n q).times
      (streams n q).indexes q now now' here here')
      ∙ sym is'

  module _ (one : ReadingsInPlansAreOne) (plan : Plan) (of : PartOf) (format : Format)
      (streams : Streams) where
    one_part : (n : ℕ) (a b : TrackPart) → IsPlannedPart plan of format streams n a
        → IsPlannedPart plan of format streams n b → a ≡ b
    one_part n a b p q =
        p.is
        ∙ ap
        (λ (captures : List (List NotedReading)).
        of format (track_at format n)
        (track_notes (joined captures) (passed_to streams n plan.captures) p.others))
        (one plan format streams n p.captures q.captures p.each q.each (p.many ∙ sym q.many))
        ∙ ap
        (λ (others : List NotedOther).
        of format (track_at format n)
        (track_notes (joined q.captures) (passed_to streams n plan.captures) others))
        (one_others_to plan format streams n plan.captures p.others q.others p.others_are
        q.others_are)
        ∙ sym q.is

    pub one_parts : (ps qs : List TrackPart) → ArePlannedParts plan of format streams ps
        → ArePlannedParts plan of format streams qs → length ps ≡ length qs → ps ≡ qs
    one_parts ps qs are others same =
        ext_get_or no_part ps qs same
        (λ k low.
        one_part k (part_at ps k) (part_at qs k) (are k low)
        (others k (omega (arith, low, same))))
