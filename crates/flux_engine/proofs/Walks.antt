-- The steps of the walk over a track's cells, by either rule.
use Rattle.std.specs.Prelude.{◌≡◌, ◌≤◌, ◌<◌, ℕ, ◌+◌, ◌-◌, Bool, List, [], ◌∷◌, ◌++◌, length, take, slice_index, flat_map, Some, None, refl}
use Rattle.std.proofs.Common.{ap, sym, subst, ◌∙◌, arith, append_assoc, append-nil}
use Rattle.std.proofs.lemmas.List.Concat.{flat_map-append}
use Rattle.cell_bits.specs.Ones.{ones}
use Rattle.frame_law.specs.declared.reading.Reading.{Reading as Frame}
use Rattle.frame_law.specs.Readings.{AreReadings, FirstReading}
use Rattle.turn_merge.specs.Book.{Knowledge, StandsFor, SameShape}
use Rattle.turn_merge.specs.Readings.{NotedReading}
use Rattle.turn_merge.specs.declared.clock.Clock.{Clock}
use Rattle.turn_merge.specs.declared.verdict.Place.{Place}
use Rattle.index_turns.specs.Track.{turn_at}
use Rattle.turn_merge.specs.Others.{NotedOther, OthersKnown, OthersStandFor}
use Rattle.flux_engine.specs.Captured.{AppendsOthers, AppendsReadings}
use Rattle.flux_engine.specs.Gathering.{Gathers, IsWalk, ReadBefore}
use Rattle.flux_engine.specs.Room.{MOST_CELLS}
use Rattle.flux_engine.specs.Tracks.{Found, readings_at, readings_in, place_in}

pub same_shape : (book : Knowledge) → SameShape book book
same_shape book = record { first_is = refl; most_is = refl; size_is = refl; sectors_are = refl }

pub shape_on : (old mid new : Knowledge) → SameShape old mid → SameShape mid new → SameShape old new
shape_on old mid new first second = record {
  first_is = second.first_is ∙ first.first_is;
  most_is = second.most_is ∙ first.most_is;
  size_is = second.size_is ∙ first.size_is;
  sectors_are = second.sectors_are ∙ first.sectors_are;
}

pub appends_none : (book : Knowledge) → AppendsReadings book book []
appends_none book readings stands = subst (StandsFor book) (sym (append-nil readings)) stands

pub appends_on : (old mid new : Knowledge) (more others : List NotedReading) → AppendsReadings old mid more → AppendsReadings mid new others
    → AppendsReadings old new (more ++ others)
appends_on old mid new more others first second readings stands =
    subst (StandsFor new) (append_assoc readings more others) (second (readings ++ more) (first readings stands))

pub append_others : (old mid new : OthersKnown) (more others : List NotedOther) → AppendsOthers old mid more → AppendsOthers mid new others
    → AppendsOthers old new (more ++ others)
append_others old mid new more others first second before stands =
    subst (OthersStandFor new) (append_assoc before more others) (second (before ++ more) (first before stands))

module _ (times indexes : List ℕ) (cells : List Bool) (capture : ℕ) (clock : Clock) where
  -- the place of a cell up to which so many ones stand
  abbrev pub met_at : (ones_to cell : ℕ) → Place
  met_at ones_to cell = record { capture = capture; clock = clock; turn = turn_at indexes (slice_index times (ones_to - 1)); cell = cell }

  pub walk_start : (Before : List Found → Type 0) → Before [] → (book : Knowledge) → IsWalk Before times indexes cells capture clock 0 0 book book
  walk_start Before none book = record {
    found = [];
    before = none;
    noted = appends_none book;
    shape = same_shape book;
    few = omega arith;
    within = omega arith;
    passed_are = refl;
  }

  -- what is found at a cell is noted
  pub walk_step : (Before After : List Found → Type 0) (from passed cell met : ℕ) (more : List Found) (old mid new : Knowledge)
      → IsWalk Before times indexes cells capture clock from passed old mid → ((found : List Found) → Before found → After (found ++ more))
      → from ≤ cell → cell < length cells → ones (take from cells) + met ≡ ones (take (cell + 1) cells)
      → AppendsReadings mid new (readings_in capture clock times indexes cells more) → new.notes ≤ mid.notes + MOST_CELLS → SameShape mid new
      → IsWalk After times indexes cells capture clock (cell + 1) (passed + met) old new
  walk_step Before After from passed cell met more old mid new w next least within counted appends count shape =
      let of_found : Found → List NotedReading = λ (f : Found). readings_at (place_in capture clock times indexes cells f.0) f.1 f.2 in
      record {
        found = w.found ++ more;
        before = next w.found w.before;
        noted = subst (AppendsReadings old new) (sym (flat_map-append of_found w.found more))
            (appends_on old mid new (flat_map of_found w.found) (flat_map of_found more) w.noted appends);
        shape = shape_on old mid new w.shape shape;
        few = omega (arith, count, w.few, least);
        within = omega (arith, within);
        passed_are = ap (λ (n : ℕ). n + met) w.passed_are ∙ counted;
      }

  pub walk_end : (Before AreAll : List Found → Type 0) (from passed : ℕ) (old new : Knowledge)
      → IsWalk Before times indexes cells capture clock from passed old new → ((found : List Found) → Before found → AreAll found) → length cells ≤ MOST_CELLS
      → Gathers AreAll times indexes cells capture clock old new
  walk_end Before AreAll from passed old new w all few = record {
    found = w.found;
    all = all w.found w.before;
    noted = w.noted;
    shape = w.shape;
    few = omega (arith, w.few, w.within, few);
  }

  -- the place that is noted of a cell at which the walk has come
  pub is_met : (Before : List Found → Type 0) (from passed cell met : ℕ) (old mid : Knowledge) (place : Place)
      → IsWalk Before times indexes cells capture clock from passed old mid → ones (take from cells) + met ≡ ones (take (cell + 1) cells)
      → place ≡ met_at (passed + met) cell → place ≡ place_in capture clock times indexes cells cell
  is_met Before from passed cell met old mid place w counted at =
      at ∙ ap (λ (n : ℕ). met_at n cell) (ap (λ (n : ℕ). n + met) w.passed_are ∙ counted)

module _ (header : List Bool → ℕ → Type 0) (sector : List Bool → ℕ → List ℕ → Type 0) (times indexes : List ℕ) (cells : List Bool) (capture : ℕ) (clock : Clock) where
  abbrev Before : ℕ → List Found → Type 0
  Before from = ReadBefore header sector cells from

  pub read_start : (book : Knowledge) → IsWalk (Before 0) times indexes cells capture clock 0 0 book book
  read_start book = walk_start times indexes cells capture clock (Before 0) (λ rest all. all) book

  pub read_step : (from passed cell met : ℕ) (frame : Frame) (bytes piece : List ℕ) (place : Place) (old mid new : Knowledge)
      → IsWalk (Before from) times indexes cells capture clock from passed old mid
      → FirstReading header sector cells from (Some (cell, frame)) bytes → cell < length cells
      → ones (take from cells) + met ≡ ones (take (cell + 1) cells)
      → place ≡ met_at times indexes cells capture clock (passed + met) cell → piece ≡ bytes
      → ((readings : List NotedReading) → StandsFor mid readings → StandsFor new (readings ++ readings_at place frame piece))
      → new.notes ≤ mid.notes + 1 → SameShape mid new
      → IsWalk (Before (cell + 1)) times indexes cells capture clock (cell + 1) (passed + met) old new
  read_step from passed cell met frame bytes piece place old mid new w first within counted at same appends count shape =
      let here : Found = (cell, frame, bytes) in
      let there : Place = place_in capture clock times indexes cells cell in
      let place_is : place ≡ there = is_met times indexes cells capture clock (Before from) from passed cell met old mid place w counted at in
      let Appended : Place → List ℕ → Type 0 = λ (p : Place) (xs : List ℕ). AppendsReadings mid new (readings_at p frame xs) in
      let noted : Appended there bytes =
      subst (λ (p : Place). Appended p bytes) place_is (subst (λ (xs : List ℕ). Appended place xs) same appends) in
      walk_step times indexes cells capture clock (Before from) (Before (cell + 1)) from passed cell met (here ∷ []) old mid new w
      (λ found before rest all. subst (AreReadings header sector cells 0) (sym (append_assoc found (here ∷ []) rest)) (before (here ∷ rest) (first, all)))
      first.0 within counted (subst (AppendsReadings mid new) (sym (append-nil (readings_at there frame bytes))) noted) (omega (arith, count)) shape

  pub read_end : (from passed : ℕ) (bytes : List ℕ) (old new : Knowledge)
      → IsWalk (Before from) times indexes cells capture clock from passed old new → FirstReading header sector cells from None bytes
      → length cells ≤ MOST_CELLS → Gathers (AreReadings header sector cells 0) times indexes cells capture clock old new
  read_end from passed bytes old new w none few =
      walk_end times indexes cells capture clock (Before from) (AreReadings header sector cells 0) from passed old new w
      (λ found before. subst (AreReadings header sector cells 0) (append-nil found) (before [] (refl, none.1))) few
