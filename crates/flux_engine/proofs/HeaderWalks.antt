-- The steps of the walk as controllers read: over a track's headers, and over the data of each.
use Rattle.std.specs.Prelude.{◌≡◌, ◌≤◌, ◌<◌, ℕ, ◌+◌, Bool, Contains, List, [], ◌∷◌, ◌++◌, drop, flat_map, length, map, take, Some, None, refl}
use Rattle.std.proofs.Common.{ap, sym, subst, ◌∙◌, arith, append_assoc, append-nil, inl, inr}
use Rattle.std.proofs.lemmas.Bool.{cases_lt}
use Rattle.std.proofs.lemmas.List.{map-append}
use Rattle.std.proofs.lemmas.List.Concat.{flat_map-append}
use Rattle.std.proofs.lemmas.List.Elements.{Contains-append_left, Contains-append_right}
use Rattle.cell_bits.specs.Ones.{ones}
use Rattle.frame_law.specs.declared.reading.Reading.TheVariants.{Good as GoodFrame}
use Rattle.frame_law.specs.Controller.{AreFound, FirstAt, FirstData, HasHeaderData, HeaderData, SearchesFindAll, readings_of}
use Rattle.turn_merge.specs.Book.{Knowledge, SameShape}
use Rattle.turn_merge.specs.Readings.{NotedReading, bad_reading, good_reading}
use Rattle.turn_merge.specs.declared.clock.Clock.{Clock}
use Rattle.turn_merge.specs.declared.verdict.Place.{Place}
use Rattle.flux_engine.specs.Captured.{AppendsReadings}
use Rattle.flux_engine.specs.Gathering.{Gathers, HeadersBefore, IsDataWalk, IsWalk, NotesData, NotesHeader, header_readings}
use Rattle.flux_engine.specs.Room.{MOST_CELLS}
use Rattle.flux_engine.specs.Rules.{AreReadByControllers}
use Rattle.flux_engine.specs.Tracks.{Found, place_in, readings_in}
use Rattle.flux_engine.proofs.Walks.{appends_none, appends_on, is_met, met_at, same_shape, shape_on, walk_end, walk_start, walk_step}

module _ (data_stand : ℕ → List ℕ → Type 0) (sector : ℕ) (place : Place) (limit : ℕ) where
  abbrev good_of : ℕ × List ℕ → NotedReading
  good_of d = good_reading sector place d.1

  pub data_start : (from : ℕ) (book : Knowledge) → from ≤ limit → IsDataWalk data_stand from from sector place limit book book
  data_start from book within = record {
    found = [];
    before = λ rest all. all;
    noted = appends_none book;
    shape = same_shape book;
    few = omega arith;
    within = within;
  }

  pub data_step : (from start at : ℕ) (bytes piece : List ℕ) (old mid new : Knowledge) → IsDataWalk data_stand from start sector place limit old mid
      → FirstData data_stand start (Some at) bytes → at < limit → piece ≡ bytes → AppendsReadings mid new (good_reading sector place piece ∷ [])
      → new.notes ≡ mid.notes + 1 → SameShape mid new → IsDataWalk data_stand from (at + 1) sector place limit old new
  data_step from start at bytes piece old mid new w first within same appends count shape =
      let here : ℕ × List ℕ = (at, bytes) in
      record {
        found = w.found ++ here ∷ [];
        before = λ rest all. subst (AreFound data_stand from) (sym (append_assoc w.found (here ∷ []) rest)) (w.before (here ∷ rest) (first, all));
        noted = subst (AppendsReadings old new) (sym (map-append good_of w.found (here ∷ [])))
            (appends_on old mid new (map good_of w.found) (good_reading sector place bytes ∷ []) w.noted
            (subst (λ (xs : List ℕ). AppendsReadings mid new (good_reading sector place xs ∷ [])) same appends));
        shape = shape_on old mid new w.shape shape;
        few = (let least : start ≤ at = first.0 in omega (arith, count, w.few, least));
        within = omega (arith, within);
      }

  pub data_end : (from start : ℕ) (buffer : List ℕ) (old new : Knowledge) → IsDataWalk data_stand from start sector place limit old new
      → FirstData data_stand start None buffer → NotesData data_stand from sector place limit old new
  data_end from start buffer old new w none = record {
    found = w.found;
    all = subst (AreFound data_stand from) (append-nil w.found) (w.before [] none.1);
    noted = w.noted;
    shape = w.shape;
    few = omega (arith, w.few, w.within);
  }

  -- a header without data
  pub no_data : (buffer : List ℕ) (old new : Knowledge) → FirstData data_stand 0 None buffer → AppendsReadings old new (bad_reading sector place ∷ [])
      → new.notes ≡ old.notes + 1 → SameShape old new → 1 ≤ limit → NotesHeader data_stand sector place limit old new
  no_data buffer old new none appends count shape some = record {
    found = [];
    all = none.1;
    noted = appends;
    shape = shape;
    few = omega (arith, count, some);
  }

  -- one with data: the first, and all from the next place on
  pub some_data : (at : ℕ) (bytes piece : List ℕ) (old mid new : Knowledge) → FirstData data_stand 0 (Some at) bytes → piece ≡ bytes
      → AppendsReadings old mid (good_reading sector place piece ∷ []) → mid.notes ≡ old.notes + 1 → SameShape old mid
      → NotesData data_stand (at + 1) sector place limit mid new → NotesHeader data_stand sector place limit old new
  some_data at bytes piece old mid new first same appends count shape n =
      let here : ℕ × List ℕ = (at, bytes) in
      record {
        found = here ∷ n.found;
        all = (first, n.all);
        noted = appends_on old mid new (good_reading sector place bytes ∷ []) (map good_of n.found)
            (subst (λ (xs : List ℕ). AppendsReadings old mid (good_reading sector place xs ∷ [])) same appends) n.noted;
        shape = shape_on old mid new shape n.shape;
        few = omega (arith, n.few, count);
      }

module _ (header : List Bool → ℕ → Type 0) (data_stand : List Bool → ℕ → List ℕ → Type 0) (times indexes : List ℕ) (cells : List Bool) (capture : ℕ) (clock : Clock)
    (of_header : (here : List Bool) → SearchesFindAll (data_stand here)) (of_track : SearchesFindAll (HasHeaderData header data_stand cells))
    (one_header : (here : List Bool) (s t : ℕ) → header here s → header here t → s ≡ t) where
  abbrev Before : ℕ → List Found → Type 0
  Before from = HeadersBefore header data_stand cells from

  abbrev Headers : ℕ → HeaderData → Type 0
  Headers = HasHeaderData header data_stand cells

  pub headers_start : (book : Knowledge) → IsWalk (Before 0) times indexes cells capture clock 0 0 book book
  headers_start book =
      walk_start times indexes cells capture clock (Before 0)
      (record { headers = []; before = λ rest all. all; each = λ place sector below here. absurd (omega (arith, below)); are = refl }) book

  -- the readings of a header at its place
  good_readings : (sector cell : ℕ) (found : List (ℕ × List ℕ))
      → readings_in capture clock times indexes cells (map (λ (d : ℕ × List ℕ). let f : Found = (cell, GoodFrame sector, d.1) in f) found)
      ≡ map (λ (d : ℕ × List ℕ). good_reading sector (place_in capture clock times indexes cells cell) d.1) found
  good_readings sector cell [] = refl
  good_readings sector cell (d ∷ ds) =
      ap (λ (rs : List NotedReading). good_reading sector (place_in capture clock times indexes cells cell) d.1 ∷ rs) (good_readings sector cell ds)

  header_readings-are : (sector cell : ℕ) (found : List (ℕ × List ℕ))
      → readings_in capture clock times indexes cells (readings_of (cell, (sector, found))) ≡ header_readings sector (place_in capture clock times indexes cells cell) found
  header_readings-are sector cell [] = refl
  header_readings-are sector cell (d ∷ ds) = good_readings sector cell (d ∷ ds)

  -- one header more
  module _ (from cell sector : ℕ) (first : FirstAt (λ (p s : ℕ). header (drop p cells) s) from (Some (cell, sector)))
      («data» : List (ℕ × List ℕ)) (all : AreFound (data_stand (drop cell cells)) 0 «data») where
    abbrev this : ℕ × HeaderData
    this = (cell, (sector, «data»))

    is_first : FirstAt Headers from (Some this)
    is_first = (
      first.0,
      record { stands = first.1; all = ((of_header (drop cell cells)).all 0 «data»).0 all },
      λ place other above below there. first.2 place other.0 above below there.stands,
    )

    among : (found : List Found) (b : Before from found) (place s : ℕ) → place < cell + 1 → header (drop place cells) s
        → (others : List (ℕ × List ℕ)) × Contains (b.headers ++ this ∷ []) (place, (s, others))
    among found b place s below here =
        elim (cases_lt place from) [
          | inl before ↦ (let e = b.each place s before here in (e.0, Contains-append_left b.headers (this ∷ []) (let h : ℕ × HeaderData = (place, (s, e.0)) in h) e.1))
          | inr above ↦ elim (cases_lt place cell) [
            | inl between ↦ absurd (first.2 place s above between here)
            | inr least ↦
                let at : cell ≡ place = omega (arith, least, below) in
                let same : sector ≡ s = one_header (drop place cells) sector s (subst (λ (p : ℕ). header (drop p cells) sector) at first.1) here in (
                  «data»,
                  subst (λ (h : ℕ × HeaderData). Contains (b.headers ++ this ∷ []) h)
                      (ap (λ (p : ℕ). let h : ℕ × HeaderData = (p, (sector, «data»)) in h) at ∙ ap (λ (n : ℕ). let h : ℕ × HeaderData = (place, (n, «data»)) in h) same)
                      (Contains-append_right b.headers (this ∷ []) this (0, omega arith, refl)),
                )
          ]
        ]

    one_more : (found : List Found) → Before from found → Before (cell + 1) (found ++ readings_of this)
    one_more found b = record {
      headers = b.headers ++ this ∷ [];
      before = λ rest others.
          subst (AreFound Headers 0) (sym (append_assoc b.headers (this ∷ []) rest)) (b.before (this ∷ rest) (is_first, others));
      each = among found b;
      are = ap (λ (fs : List Found). fs ++ readings_of this) b.are ∙ ap (λ (fs : List Found). flat_map readings_of b.headers ++ fs) (sym (append-nil (readings_of this)))
          ∙ sym (flat_map-append readings_of b.headers (this ∷ []));
    }

  pub header_step : (from passed cell met sector : ℕ) (place : Place) (old mid new : Knowledge)
      → IsWalk (Before from) times indexes cells capture clock from passed old mid
      → FirstAt (λ (p s : ℕ). header (drop p cells) s) from (Some (cell, sector)) → cell < length cells
      → ones (take from cells) + met ≡ ones (take (cell + 1) cells) → place ≡ met_at times indexes cells capture clock (passed + met) cell
      → NotesHeader (data_stand (drop cell cells)) sector place (length cells) mid new → length cells ≤ MOST_CELLS
      → IsWalk (Before (cell + 1)) times indexes cells capture clock (cell + 1) (passed + met) old new
  header_step from passed cell met sector place old mid new w first within counted at n few =
      let place_is : place ≡ place_in capture clock times indexes cells cell = is_met times indexes cells capture clock (Before from) from passed cell met old mid place w counted at in
      let noted = subst (λ (p : Place). AppendsReadings mid new (header_readings sector p n.found)) place_is n.noted in
      walk_step times indexes cells capture clock (Before from) (Before (cell + 1)) from passed cell met (readings_of (cell, (sector, n.found))) old mid new w
      (one_more from cell sector first n.found n.all) first.0 within counted
      (subst (AppendsReadings mid new) (sym (header_readings-are sector cell n.found)) noted) (omega (arith, n.few, few)) n.shape

  pub headers_end : (from passed : ℕ) (old new : Knowledge) → IsWalk (Before from) times indexes cells capture clock from passed old new
      → FirstAt (λ (p s : ℕ). header (drop p cells) s) from None → length cells ≤ MOST_CELLS
      → Gathers (AreReadByControllers header data_stand cells) times indexes cells capture clock old new
  headers_end from passed old new w none few =
      walk_end times indexes cells capture clock (Before from) (AreReadByControllers header data_stand cells) from passed old new w
      (λ found b. record {
        headers = b.headers;
        all = (of_track.all 0 b.headers).0
            (subst (AreFound Headers 0) (append-nil b.headers) (b.before [] (λ place other above there. none place other.0 above there.stands)));
        each = λ place s here. elim (cases_lt place from) [
          | inl before ↦ b.each place s before here
          | inr above ↦ absurd (none place s above here)
        ];
        are = b.are;
      }) few
