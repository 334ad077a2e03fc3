-- What is noted of a stream that was read, and of one that is passed over: in no cells nothing stands.
use Rattle.std.specs.Prelude.{◌≡◌, ℕ, zero, suc, Bool, List, [], ◌∷◌, ◌++◌, drop, length, None, refl}
use Rattle.std.proofs.Common.{ap, sym, subst, ◌∙◌, arith, append-nil}
use Rattle.flux_base.specs.declared.track.TrackId.{TrackId}
use Rattle.disk_recordings.specs.Laws.{NamesAreTold, StandAlone}
use Rattle.disk_recordings.specs.Members.{as_controllers_read, header_at, named_at, whole_data_of}
use Rattle.index_turns.specs.Track.{TrackState}
use Rattle.phase_loop.specs.Rows.{recovered}
use Rattle.sector_images.specs.Places.{IsTrack}
use Rattle.sector_images.specs.declared.format.Format.{Format}
use Rattle.sector_report.specs.declared.dump_lines.Passed.{Passed}
use Rattle.turn_merge.specs.Book.{Knowledge, StandsFor}
use Rattle.turn_merge.specs.Others.{OthersKnown}
use Rattle.flux_base.specs.declared.header_name.HeaderName.{HeaderName}
use Rattle.turn_merge.specs.declared.clock.Clock.{Clock}
use Rattle.flux_engine.specs.Captured.{AreOthersOf, AreOthersOfClock, AreReadingsBy, AreReadingsOf, joined_by}
use Rattle.flux_engine.specs.Gathering.{HasNotedBy}
use Rattle.flux_engine.specs.LoopProgress.{HasNotedNext, seen_next}
use Rattle.flux_engine.specs.Rules.{AreAllBy, AreOthersBy, AreOthersIn}
use Rattle.flux_engine.specs.declared.gathered_track.PassedStream.{PassedStream}
use Rattle.flux_engine.specs.declared.plan.Clocks.{Clocks}
use Rattle.flux_engine.specs.declared.plan.Clocks.TheVariants.{Both, FollowingAlone}
use Rattle.flux_engine.specs.declared.plan.Rule.{Rule}
use Rattle.flux_engine.specs.declared.plan.Rule.TheVariants.{Controller, Strict}
use Rattle.flux_engine.specs.declared.track_streams.NextStream.{NextStream}
use Rattle.flux_engine.specs.declared.track_streams.NextStream.TheVariants.{PassedOver, Read}
use Rattle.flux_engine.proofs.AsControllers.{known_too}
use Rattle.flux_engine.proofs.OtherWalks.{appends_no_others}

-- what a stream says that came does not end the disk
pub seen-whole : (next : NextStream) (flux : TrackState) → (seen_next next flux).fault ≡ None
seen-whole Read flux = refl
seen-whole (PassedOver why) flux = refl

pub none-left : (place : ℕ) → drop {A = Bool} place [] ≡ []
none-left zero = refl
none-left (suc place) = refl

-- in no cells there are no others, whichever headers are those of a track's sectors
pub no_others_in : (names : NamesAreTold) (format : Format) (track : TrackId) (header : List Bool → ℕ → Type 0)
    → AreOthersIn (named_at (as_controllers_read format)) header (whole_data_of (as_controllers_read format)) [] []
no_others_in names format track header =
    let by : Format = as_controllers_read format in
    let none : (place : ℕ) (name : HeaderName) → ¬ named_at by (drop {A = Bool} place []) name =
    λ place name here. (let one = (names.told by track).alone [] name (subst (λ (cells : List Bool). named_at by cells name) (none-left place) here) in omega (arith, one.some, one.within)) in
    record {
      all = record {
        rise = λ k within. absurd (omega (arith, within));
        each = λ place x. (λ has. absurd (omega (arith, has.1)), λ here. absurd (none place x.0 here.1.0.0));
      };
      each = λ place name here. absurd (none place name here.0);
    }

pub joined_nothing : {X : Type 0} (clocks : Clocks) → (let none : List X = [] in none) ≡ joined_by clocks (λ (clock : Clock). [])
joined_nothing FollowingAlone = refl
joined_nothing Both = refl

-- of a stream that is passed over nothing is read
module _ (alone : StandAlone) (names : NamesAreTold) (format : Format) (track : TrackId) (known : IsTrack format track) (capture : ℕ) where
  -- in no cells nothing stands, by either rule
  nothing_all : (rule : Rule) → AreAllBy rule format track [] []
  nothing_all Strict = (refl, λ to place s from below. subst (λ (cells : List Bool). ¬ header_at format track cells s) (sym (none-left place)) ((alone format track known).no_header 0 s))
  nothing_all Controller =
      let by : Format = as_controllers_read format in
      let none : (place s : ℕ) → ¬ header_at by track (drop {A = Bool} place []) s =
      λ place s. subst (λ (cells : List Bool). ¬ header_at by track cells s) (sym (none-left place)) ((alone by track (known_too format track known)).no_header 0 s) in
      record {
        headers = [];
        all = record {
          rise = λ k within. absurd (omega (arith, within));
          each = λ place x. (λ has. absurd (omega (arith, has.1)), λ here. absurd (none place x.0 here.1.stands));
        };
        each = λ place s here. absurd (none place s here);
        are = refl;
      }

  nothing_by : (rule : Rule) (clock : Clock) → AreReadingsBy rule clock format track [] [] capture []
  unfolding recovered
  nothing_by rule clock = record { found = []; all = nothing_all rule; are = refl }

  no_others_all : (rule : Rule) → AreOthersBy rule format track [] []
  no_others_all Strict = refl
  no_others_all Controller = no_others_in names format track (header_at (as_controllers_read format) track)

  no_others_by : (rule : Rule) (clock : Clock) → AreOthersOfClock rule clock format track [] [] capture []
  unfolding recovered
  no_others_by rule clock = record { found = []; all = no_others_all rule; are = refl }

  pub nothing_of : (rule : Rule) (clocks : Clocks) → AreReadingsOf rule clocks format track [] [] capture []
  nothing_of rule clocks = record { by_clock = λ clock. []; each = λ clock used. nothing_by rule clock; are = joined_nothing clocks }

  pub no_others_of : (rule : Rule) (clocks : Clocks) → AreOthersOf rule clocks format track [] [] capture []
  no_others_of rule clocks = record { by_clock = λ clock. []; each = λ clock used. no_others_by rule clock; are = joined_nothing clocks }

module _ (rule : Rule) (clocks : Clocks) (format : Format) (track : TrackId) (flux : TrackState) (capture : ℕ) where
  pub noted_read : (old new : Knowledge) (passed passed' : List PassedStream) (before after : OthersKnown)
      → HasNotedBy rule clocks format track flux.times flux.indexes capture old new before after → passed' ≡ passed
      → HasNotedNext Read rule clocks format track flux capture old new passed passed' before after
  noted_read old new passed passed' before after n same = record {
    readings = n.readings;
    are = n.are;
    noted = n.noted;
    passed_are = same ∙ sym (append-nil passed);
    shape = n.shape;
    few = n.few;
    others = n.others;
    others_are = n.others_are;
    others_noted = n.others_noted;
    few_others = n.few_others;
  }

  pub noted_passed : StandAlone → NamesAreTold → IsTrack format track → (why : Passed) (old new : Knowledge) (passed passed' : List PassedStream) (known : OthersKnown) → new ≡ old
      → passed' ≡ passed ++ record { capture = capture; why = why } ∷ [] → HasNotedNext (PassedOver why) rule clocks format track flux capture old new passed passed' known known
  noted_passed alone names known why old new passed passed' others same more = record {
    readings = [];
    are = nothing_of alone names format track known capture rule clocks;
    noted = λ readings stands. subst (StandsFor new) (sym (append-nil readings)) (subst (λ (b : Knowledge). StandsFor b readings) (sym same) stands);
    passed_are = more;
    shape = record {
      first_is = ap (λ (b : Knowledge). b.first_sector) same;
      most_is = ap (λ (b : Knowledge). b.most) same;
      size_is = ap (λ (b : Knowledge). b.size) same;
      sectors_are = ap (λ (b : Knowledge). length b.found) same;
    };
    few = (let notes : new.notes ≡ old.notes = ap (λ (b : Knowledge). b.notes) same in omega (arith, notes));
    others = [];
    others_are = no_others_of alone names format track known capture rule clocks;
    others_noted = appends_no_others others;
    few_others = omega arith;
  }
