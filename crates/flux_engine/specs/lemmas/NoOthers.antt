-- Where no other is read of the captures of a track: by the strict rule, or
-- where none stands in their cells.
use Rattle.std.specs.Prelude.{◌≡◌, ◌<◌, ℕ, zero, suc, Bool, Contains, List, [], ◌∷◌, ◌++◌, map}
use Rattle.std.specs.Prelude.{refl}
use Rattle.std.proofs.Common.{ap, sym, subst, ◌∙◌, arith}
use Rattle.disk_recordings.specs.Members.{as_controllers_read, header_at, named_at}
use Rattle.flux_base.specs.declared.track.TrackId.{TrackId}
use Rattle.frame_law.specs.Others.{HasNoOther}
use Rattle.sector_images.specs.declared.format.Format.{Format}
use Rattle.turn_merge.specs.Others.{NotedOther}
use Rattle.turn_merge.specs.declared.clock.Clock.{Clock}
use Rattle.turn_merge.specs.declared.clock.Clock.TheVariants.{Following, Held}
use Rattle.flux_engine.specs.Captured.{AreOthersOf, AreOthersOfClock, IsUsed, noted_other}
use Rattle.flux_engine.specs.Plans.{AreOthersTo, Streams}
use Rattle.flux_engine.specs.Recordings.{cells_by, track_at}
use Rattle.flux_engine.specs.Rules.{AreOthersBy, OtherFound}
use Rattle.flux_engine.specs.declared.plan.Clocks.{Clocks}
use Rattle.flux_engine.specs.declared.plan.Clocks.TheVariants.{Both, FollowingAlone}
use Rattle.flux_engine.specs.declared.plan.Plan.{Plan}
use Rattle.flux_engine.specs.declared.plan.Rule.{Rule}
use Rattle.flux_engine.specs.declared.plan.Rule.TheVariants.{Controller, Strict}

-- by this rule no other stands in the cells
abbrev pub NoneStands : Rule → Format → TrackId → List Bool → Type 0
NoneStands Strict format track cells = Unit {0}
NoneStands Controller format track cells = HasNoOther (named_at (as_controllers_read format))
    (header_at (as_controllers_read format) track) cells

none_has : {X : Type 0} (xs : List X) → ((x : X) → ¬ Contains xs x) → xs ≡ []
none_has [] none = refl
none_has (x ∷ xs) none = absurd (none x (0, omega arith, refl))

no_others_by : (rule : Rule) (format : Format) (track : TrackId) (cells : List Bool)
    (found : List (ℕ × OtherFound))
    → NoneStands rule format track cells
    → AreOthersBy rule format track cells found → found ≡ []
no_others_by Strict format track cells found none all = all
no_others_by Controller format track cells found none all =
    none_has found (λ f has. none f.0 f.1.0 ((all.all.each f.0 f.1).0 has).1.0)

no_others_of_clock : (rule : Rule) (clock : Clock) (format : Format) (track : TrackId)
    (times indexes : List ℕ) (capture : ℕ) (others : List NotedOther)
    → NoneStands rule format track (cells_by clock format track times indexes)
    → AreOthersOfClock rule clock format track times indexes capture others → others ≡ []
no_others_of_clock rule clock format track times indexes capture others none a =
    a.are
    ∙ ap
    (map (noted_other capture clock times indexes (cells_by clock format track times indexes)))
    (no_others_by rule format track (cells_by clock format track times indexes) a.found none a.all)

pub no_others_of : (rule : Rule) (clocks : Clocks) (format : Format) (track : TrackId)
    (times indexes : List ℕ) (capture : ℕ) (others : List NotedOther)
    → ((clock : Clock) → IsUsed clocks clock
    → NoneStands rule format track (cells_by clock format track times indexes))
    → AreOthersOf rule clocks format track times indexes capture others → others ≡ []
no_others_of rule FollowingAlone format track times indexes capture others none a =
    a.are
    ∙ no_others_of_clock rule Following format track times indexes capture
    (a.by_clock Following) (none Following tt) (a.each Following tt)
no_others_of rule Both format track times indexes capture others none a =
    a.are
    ∙ ap (λ (os : List NotedOther). os ++ a.by_clock Held)
    (no_others_of_clock rule Following format track times indexes capture (a.by_clock Following)
    (none Following tt) (a.each Following tt))
    ∙ no_others_of_clock rule Held format track times indexes capture (a.by_clock Held)
    (none Held tt) (a.each Held tt)

pub no_others_to : (plan : Plan) (format : Format) (streams : Streams) (n q : ℕ)
    (others : List NotedOther)
    → ((k : ℕ) → k < q → (clock : Clock) → IsUsed plan.clocks clock
    → NoneStands plan.rule format (track_at format n)
    (cells_by clock format (track_at format n) (streams n k).times (streams n k).indexes))
    → AreOthersTo plan format streams n q others → others ≡ []
no_others_to plan format streams n zero others none a = a
no_others_to plan format streams n (suc q) others none (before, now, earlier, here, is) =
    is
    ∙ ap (λ (os : List NotedOther). os ++ now)
    (no_others_to plan format streams n q before (λ k low. none k (omega (arith, low))) earlier)
    ∙ no_others_of plan.rule plan.clocks format (track_at format n) (streams n q).times
    (streams n q).indexes q now (none q (omega arith)) here

-- the strict rule knows none
pub strict_has_no_others : (plan : Plan) (format : Format) (streams : Streams) (n q : ℕ)
    (others : List NotedOther)
    → plan.rule ≡ Strict
    → AreOthersTo plan format streams n q others → others ≡ []
strict_has_no_others plan format streams n q others strict =
    no_others_to plan format streams n q others
    (λ k low clock used.
    subst
    (λ (rule : Rule).
    NoneStands rule format (track_at format n)
    (cells_by clock format (track_at format n) (streams n k).times (streams n k).indexes))
    (sym strict) tt)
