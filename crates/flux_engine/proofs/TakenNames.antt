-- What was noted of a track that is none of the format's, by several clocks, and of a stream that is passed over.
use Rattle.std.specs.Prelude.{◌≡◌, ℕ, List, [], ◌++◌, Some, refl}
use Rattle.std.proofs.Common.{sym, ◌∙◌, arith, append-nil}
use Rattle.flux_base.specs.declared.track.TrackId.{TrackId}
use Rattle.index_turns.specs.Track.{TrackState}
use Rattle.disk_recordings.specs.Laws.{NamesAreTold}
use Rattle.sector_images.specs.declared.format.Format.{Format}
use Rattle.sector_report.specs.declared.dump_lines.Passed.{Passed}
use Rattle.turn_merge.specs.Others.{NotedOther, OthersKnown}
use Rattle.turn_merge.specs.declared.clock.Clock.{Clock}
use Rattle.turn_merge.specs.declared.clock.Clock.TheVariants.{Following, Held}
use Rattle.flux_engine.specs.Captured.{AreNotedBy, IsUsed}
use Rattle.flux_engine.specs.LoopProgress.{seen_next}
use Rattle.flux_engine.specs.Names.{HasNamesBy, HasNamesOf, HasNotedNames, passed_beside}
use Rattle.phase_loop.specs.Rows.{recovered}
use Rattle.flux_engine.specs.Rules.{AreNamesIn, no_header}
use Rattle.flux_engine.specs.declared.gathered_track.PassedStream.{PassedStream}
use Rattle.flux_engine.specs.declared.plan.Clocks.{Clocks}
use Rattle.flux_engine.specs.declared.plan.Clocks.TheVariants.{Both, FollowingAlone}
use Rattle.flux_engine.specs.declared.track_streams.NextStream.TheVariants.{Read, PassedOver}
use Rattle.flux_engine.proofs.OtherWalks.{appends_no_others}
use Rattle.flux_engine.proofs.Walks.{append_others}
use Rattle.flux_engine.proofs.PassedStreams.{joined_nothing, no_others_in}

-- a list of what is noted for each clock
abbrev of_clocks : (following held : List NotedOther) → Clock → List NotedOther
of_clocks following held Following = following
of_clocks following held Held = held

module _ (format : Format) (near : TrackId) (times indexes : List ℕ) (capture : ℕ) where
  abbrev By : Clock → List NotedOther → Type 0
  By clock others = AreNotedBy (AreNamesIn format) clock format near times indexes capture others

  alone : (following : List NotedOther) → By Following following → (clock : Clock) → IsUsed FollowingAlone clock → By clock (of_clocks following [] clock)
  alone following a Following used = a
  alone following a Held cannot = absurd cannot

  each : (following held : List NotedOther) → By Following following → By Held held → (clock : Clock) → IsUsed Both clock → By clock (of_clocks following held clock)
  each following held a b Following used = a
  each following held a b Held used = b

  pub names_alone : (before after : OthersKnown) → HasNamesBy Following format near times indexes capture before after → HasNamesOf FollowingAlone format near times indexes capture before after
  names_alone before after n = record {
    others = n.others;
    others_are = record { by_clock = of_clocks n.others []; each = alone n.others n.others_are; are = refl };
    others_noted = n.others_noted;
    few_others = omega (arith, n.few_others);
  }

  pub names_both : (before between after : OthersKnown) → HasNamesBy Following format near times indexes capture before between
      → HasNamesBy Held format near times indexes capture between after → HasNamesOf Both format near times indexes capture before after
  names_both before between after n m = record {
    others = n.others ++ m.others;
    others_are = record { by_clock = of_clocks n.others m.others; each = each n.others m.others n.others_are m.others_are; are = refl };
    others_noted = append_others before between after n.others m.others n.others_noted m.others_noted;
    few_others = omega (arith, n.few_others, m.few_others);
  }

-- in no cells no header stands
module _ (names : NamesAreTold) (format : Format) (near : TrackId) (capture : ℕ) where
  no_names_in : AreNamesIn format [] []
  no_names_in = no_others_in names format near no_header

  no_names_by : (clock : Clock) → AreNotedBy (AreNamesIn format) clock format near [] [] capture []
  unfolding recovered
  no_names_by clock = record { found = []; all = no_names_in; are = refl }

  pub no_names : (clocks : Clocks) (known : OthersKnown) → HasNamesOf clocks format near [] [] capture known known
  no_names clocks known = record {
    others = [];
    others_are = record { by_clock = λ clock. []; each = λ clock used. no_names_by clock; are = joined_nothing clocks };
    others_noted = appends_no_others known;
    few_others = omega arith;
  }

  module _ (clocks : Clocks) (flux : TrackState) (passed : List PassedStream) where
    pub names_read : (passed' : List PassedStream) (before after : OthersKnown) → HasNamesOf clocks format near flux.times flux.indexes capture before after → passed' ≡ passed
        → HasNotedNames clocks format near capture (seen_next Read flux) passed passed' before after
    names_read passed' before after n same = record { names = n; passed_are = same ∙ sym (append-nil passed) }

    pub names_passed : (why : Passed) (passed' : List PassedStream) (known : OthersKnown) → passed' ≡ passed ++ passed_beside capture (Some why)
        → HasNotedNames clocks format near capture (seen_next (PassedOver why) flux) passed passed' known known
    names_passed why passed' known more = record { names = no_names clocks known; passed_are = more }
