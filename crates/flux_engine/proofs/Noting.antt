-- What was gathered of a stream is all that can be read on its track.
use Rattle.std.specs.Prelude.{◌≡◌, ◌<◌, ℕ, suc, ◌+◌, ◌-◌, List, [], ◌∷◌, ◌++◌, length, replicate, slice_index_or, Option, None, Ok, refl, Bool, false}
use Rattle.std.proofs.Common.{ap, sym, subst, ◌∙◌, arith}
use Rattle.flux_base.specs.declared.track.TrackId.{TrackId}
use Rattle.disk_recordings.specs.Members.{as_controllers_read, data_at, header_at, named_at, sector_at, whole_data_of}
use Rattle.frame_law.specs.Readings.{AreReadings}
use Rattle.flux_engine.specs.Rules.{AreReadByControllers}
use Rattle.sector_images.specs.declared.format.Format.{Format}
use Rattle.turn_merge.specs.Book.{Found, HasShape, IsKnown, Knowledge, StandsFor, found_at}
use Rattle.turn_merge.specs.Readings.{NotedReading, verdict, agreed}
use Rattle.turn_merge.specs.declared.verdict.Verdict.{Verdict}
use Rattle.turn_merge.specs.declared.verdict.Verdict.TheVariants.{Missing}
use Rattle.index_turns.specs.Track.{TrackState}
use Rattle.flux_engine.specs.Answers.{ReadsStream}
use Rattle.flux_engine.specs.Captured.{AreOthersOfClock, AreReadingsBy, IsUsed}
use Rattle.flux_engine.specs.Gathering.{Gathers, GathersOthers, HasNoted, HasNotedBy}
use Rattle.flux_engine.specs.PlanAnswers.{ReadsByClocks}
use Rattle.flux_engine.specs.declared.plan.Clocks.{Clocks}
use Rattle.flux_engine.specs.declared.plan.Rule.{Rule}
use Rattle.flux_engine.specs.declared.plan.Rule.TheVariants.{Controller, Strict}
use Rattle.flux_engine.specs.declared.plan.Clocks.TheVariants.{Both, FollowingAlone}
use Rattle.turn_merge.specs.Others.{NotedOther, OthersKnown, OthersStandFor, others_over}
use Rattle.flux_engine.specs.Recordings.{cells_by}
use Rattle.flux_engine.proofs.OtherWalks.{appends_no_others}
use Rattle.flux_engine.proofs.Walks.{append_others, appends_on, shape_on}
use Rattle.turn_merge.specs.declared.clock.Clock.{Clock}
use Rattle.turn_merge.specs.declared.clock.Clock.TheVariants.{Following, Held}

-- by the strict rule, and as controllers read
pub has_noted : (clock : Clock) (format : Format) (track : TrackId) (times indexes : List ℕ) (cells : List Bool) (capture : ℕ) (old new : Knowledge) (known : OthersKnown)
    → cells ≡ cells_by clock format track times indexes
    → Gathers (AreReadings (header_at format track) (sector_at format track) cells 0) times indexes cells capture clock old new
    → HasNoted Strict clock format track times indexes capture old new known known
has_noted clock format track times indexes cells capture old new known is g =
    let h = subst (λ (cs : List Bool). Gathers (AreReadings (header_at format track) (sector_at format track) cs 0) times indexes cs capture clock old new) is g in
    record {
      readings = _;
      are = record { found = h.found; all = h.all; are = refl };
      noted = h.noted;
      shape = g.shape;
      few = g.few;
      others = [];
      others_are = record { found = []; all = refl; are = refl };
      others_noted = appends_no_others known;
      few_others = omega arith;
    }

pub has_noted_too : (clock : Clock) (format other : Format) (track : TrackId) (times indexes : List ℕ) (cells : List Bool) (capture : ℕ) (old new : Knowledge) (before after : OthersKnown)
    → cells ≡ cells_by clock format track times indexes → other ≡ as_controllers_read format
    → Gathers (AreReadByControllers (header_at other track) (data_at other) cells) times indexes cells capture clock old new
    → GathersOthers (named_at other) (header_at other track) (whole_data_of other) times indexes cells capture clock before after
    → HasNoted Controller clock format track times indexes capture old new before after
has_noted_too clock format other track times indexes cells capture old new before after is by g o =
    let there = subst (λ (f : Format). Gathers (AreReadByControllers (header_at f track) (data_at f) cells) times indexes cells capture clock old new) by g in
    let h = subst (λ (cs : List Bool). Gathers (AreReadByControllers (header_at (as_controllers_read format) track) (data_at (as_controllers_read format)) cs) times indexes cs capture clock old new) is there in
    let there_too = subst (λ (f : Format). GathersOthers (named_at f) (header_at f track) (whole_data_of f) times indexes cells capture clock before after) by o in
    let k = subst (λ (cs : List Bool). GathersOthers (named_at (as_controllers_read format)) (header_at (as_controllers_read format) track) (whole_data_of (as_controllers_read format))
    times indexes cs capture clock before after) is there_too in
    record {
      readings = _;
      are = record { found = h.found; all = h.all; are = refl };
      noted = h.noted;
      shape = g.shape;
      few = g.few;
      others = _;
      others_are = record { found = k.found; all = k.all; are = refl };
      others_noted = k.noted;
      few_others = k.few;
    }

pub reads_by_clocks : (rule : Rule) (clocks : Clocks) (format : Format) (track : TrackId) (capture : ℕ) (left left' : Option (List ℕ)) (used : Bool) (held held' : List ℕ) (flux : TrackState) (old new : Knowledge) (before after : OthersKnown)
    (u : Unit {0}) → ReadsStream left left' used held held' flux.times flux.indexes (Ok u) → HasNotedBy rule clocks format track flux.times flux.indexes capture old new before after
    → ReadsByClocks rule clocks format track capture left left' used held held' old new before after (Ok u)
reads_by_clocks rule clocks format track capture left left' used held held' flux old new before after u read n =
    record { times = flux.times; indexes = flux.indexes; read = read; noted = (n.readings, n.are, n.noted); others = (n.others, n.others_are, n.others_noted) }

-- a list of what is noted for each clock
abbrev of_clocks : {X : Type 0} → (following held : List X) → Clock → List X
of_clocks following held Following = following
of_clocks following held Held = held

module _ (rule : Rule) (format : Format) (track : TrackId) (times indexes : List ℕ) (capture : ℕ) where
  alone_of : (following : List NotedReading) → AreReadingsBy rule Following format track times indexes capture following
      → (clock : Clock) → IsUsed FollowingAlone clock → AreReadingsBy rule clock format track times indexes capture (of_clocks following [] clock)
  alone_of following a Following used = a
  alone_of following a Held cannot = absurd cannot

  each_of : (following held : List NotedReading)
      → AreReadingsBy rule Following format track times indexes capture following → AreReadingsBy rule Held format track times indexes capture held
      → (clock : Clock) → IsUsed Both clock → AreReadingsBy rule clock format track times indexes capture (of_clocks following held clock)
  each_of following held a b Following used = a
  each_of following held a b Held used = b

  -- the same of others
  others_alone : (following : List NotedOther) → AreOthersOfClock rule Following format track times indexes capture following
      → (clock : Clock) → IsUsed FollowingAlone clock → AreOthersOfClock rule clock format track times indexes capture (of_clocks following [] clock)
  others_alone following a Following used = a
  others_alone following a Held cannot = absurd cannot

  others_each : (following held : List NotedOther)
      → AreOthersOfClock rule Following format track times indexes capture following → AreOthersOfClock rule Held format track times indexes capture held
      → (clock : Clock) → IsUsed Both clock → AreOthersOfClock rule clock format track times indexes capture (of_clocks following held clock)
  others_each following held a b Following used = a
  others_each following held a b Held used = b

  pub noted_alone : (old new : Knowledge) (before after : OthersKnown) → HasNoted rule Following format track times indexes capture old new before after
      → HasNotedBy rule FollowingAlone format track times indexes capture old new before after
  noted_alone old new before after n = record {
    readings = n.readings;
    are = record { by_clock = of_clocks n.readings []; each = alone_of n.readings n.are; are = refl };
    noted = n.noted;
    shape = n.shape;
    few = omega (arith, n.few);
    others = n.others;
    others_are = record { by_clock = of_clocks n.others []; each = others_alone n.others n.others_are; are = refl };
    others_noted = n.others_noted;
    few_others = omega (arith, n.few_others);
  }

  pub noted_both : (old mid new : Knowledge) (before between after : OthersKnown) → HasNoted rule Following format track times indexes capture old mid before between
      → HasNoted rule Held format track times indexes capture mid new between after → HasNotedBy rule Both format track times indexes capture old new before after
  noted_both old mid new before between after n m = record {
    readings = n.readings ++ m.readings;
    are = record { by_clock = of_clocks n.readings m.readings; each = each_of n.readings m.readings n.are m.are; are = refl };
    noted = appends_on old mid new n.readings m.readings n.noted m.noted;
    shape = shape_on old mid new n.shape m.shape;
    few = omega (arith, n.few, m.few);
    others = n.others ++ m.others;
    others_are = record { by_clock = of_clocks n.others m.others; each = others_each n.others m.others n.others_are m.others_are; are = refl };
    others_noted = append_others before between after n.others m.others n.others_noted m.others_noted;
    few_others = omega (arith, n.few_others, m.few_others);
  }

-- what is known of a sector without a reading
abbrev nothing : Found
nothing = record { verdict = Missing; bytes = None }

found-same : (a : Found) → a.verdict ≡ Missing → a.bytes ≡ None → a ≡ nothing
found-same a v b =
    ap (λ (x : Verdict). let f : Found = record { verdict = x; bytes = a.bytes } in f) v
    ∙ ap (λ x. let f : Found = record { verdict = Missing; bytes = x } in f) b

all-nothing : (found : List Found) → ((i : ℕ) → i < length found → slice_index_or found i nothing ≡ nothing) → found ≡ replicate (length found) nothing
all-nothing [] each = refl
all-nothing (f ∷ fs) each =
    ap (λ (x : Found). x ∷ fs) (each 0 (omega arith))
    ∙ ap (λ (xs : List Found). nothing ∷ xs) (all-nothing fs (λ i below. each (suc i) (omega (arith, below))))

-- a book without a reading is known by its shape
pub empty_is : (book : Knowledge) (first most size sectors : ℕ) → StandsFor book [] → HasShape book first most size sectors
    → book ≡ record { first_sector = first; most = most; size = size; notes = 0; found = replicate sectors nothing }
unfolding verdict agreed
empty_is book first most size sectors stands shape =
    let each : (i : ℕ) → i < length book.found → slice_index_or book.found i nothing ≡ nothing =
    λ i below.
    let known : IsKnown book (book.first_sector + i) = (omega arith, omega (arith, below)) in
    let at : book.first_sector + i - book.first_sector ≡ i = omega arith in
    let here : found_at book (book.first_sector + i) ≡ slice_index_or book.found i nothing = ap (λ (k : ℕ). slice_index_or book.found k nothing) at in
    sym here ∙ found-same (found_at book (book.first_sector + i)) (stands.verdicts (book.first_sector + i) known) (stands.bytes (book.first_sector + i) known) in
    let found : book.found ≡ replicate sectors nothing =
    all-nothing book.found each ∙ ap (λ (n : ℕ). replicate n nothing) shape.sectors_are in
    ap (λ (n : ℕ). let k : Knowledge = record { first_sector = n; most = book.most; size = book.size; notes = book.notes; found = book.found } in k) shape.first_is
    ∙ ap (λ (n : ℕ). let k : Knowledge = record { first_sector = first; most = n; size = book.size; notes = book.notes; found = book.found } in k) shape.most_is
    ∙ ap (λ (n : ℕ). let k : Knowledge = record { first_sector = first; most = most; size = n; notes = book.notes; found = book.found } in k) shape.size_is
    ∙ ap (λ (n : ℕ). let k : Knowledge = record { first_sector = first; most = most; size = size; notes = n; found = book.found } in k) stands.notes
    ∙ ap (λ (fs : List Found). let k : Knowledge = record { first_sector = first; most = most; size = size; notes = 0; found = fs } in k) found

-- nor are others known where none was noted
pub no_others_is : (known : OthersKnown) → OthersStandFor known [] → known ≡ record { notes = 0; told = []; untold = false }
unfolding others_over
no_others_is known stands =
    ap (λ (n : ℕ). let k : OthersKnown = record { notes = n; told = known.told; untold = known.untold } in k) stands.notes
    ∙ ap (λ ts. let k : OthersKnown = record { notes = 0; told = ts; untold = known.untold } in k) stands.told
    ∙ ap (λ (b : Bool). let k : OthersKnown = record { notes = 0; told = []; untold = b } in k) stands.untold
