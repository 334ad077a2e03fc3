-- The steps of the walk over a track's cells that notes the readings of one sector.
use Rattle.std.specs.Prelude.{◌≡◌, ◌≤◌, ◌<◌, ℕ, ◌+◌, ◌-◌, ◌*◌, Bool, false, true, Contains, List, [], ◌∷◌, ◌++◌, cond, drop, flat_map, length, map, nat_eq, slice_index, take, Some, None, refl}
use Rattle.std.proofs.Common.{ap, sym, subst, ◌∙◌, arith}
use Rattle.std.proofs.lemmas.Bool.{eq-eqb, ne_eqb}
use Rattle.std.proofs.lemmas.List.Concat.{flat_map-append}
use Rattle.std.proofs.lemmas.List.Elements.{filter-append}
use Rattle.cell_bits.specs.Ones.{ones}
use Rattle.frame_law.specs.Controller.{AreFound, FirstAt, FirstData, HasHeaderData, HeaderData, SearchesFindAll, readings_of}
use Rattle.frame_law.specs.declared.reading.Reading.TheVariants.{Good as GoodFrame}
use Rattle.index_turns.specs.Track.{turn_at}
use Rattle.turn_merge.specs.Readings.{NotedReading, bad_reading, good_reading}
use Rattle.turn_merge.specs.declared.clock.Clock.{Clock}
use Rattle.turn_merge.specs.declared.verdict.Place.{Place}
use Rattle.flux_engine.specs.Gathering.{header_readings}
use Rattle.flux_engine.specs.Room.{MOST_CELLS}
use Rattle.flux_engine.specs.Rules.{AreReadByControllers}
use Rattle.flux_engine.specs.Tracks.{Found, place_in, readings_at, readings_in}
use Rattle.sector_copies.specs.Notes.{SectorKnown, of_sector}
use Rattle.sector_copies.specs.inside.Notes.{AppendsNotes, IsSameSector, data_readings}
use Rattle.sector_copies.proofs.Searches.{HasCome, appends_none, appends_on, come_end, come_on, come_start}

pub same_sector : (known : SectorKnown) → IsSameSector known known
same_sector known = record { sector = refl; size = refl }

pub same_on : (old mid new : SectorKnown) → IsSameSector old mid → IsSameSector mid new → IsSameSector old new
same_on old mid new first second = record { sector = second.sector ∙ first.sector; size = second.size ∙ first.size }

-- a good reading of a sector for one of its data
abbrev pub one_of : (sector : ℕ) → Place → ℕ × List ℕ → List NotedReading
one_of sector place d = good_reading sector place d.1 ∷ []

-- The search for a header's data has come to a place: those before it are noted.
pub record IsDataWalk (data_stand : ℕ → List ℕ → Type 0) (from start : ℕ) (place : Place) (limit : ℕ) (old new : SectorKnown) : Type 0 where
  pub same : IsSameSector old new
  pub few : new.book.notes + from ≤ old.book.notes + start
  pub lower : from ≤ start
  pub within : start ≤ limit
  pub noted : (found : List (ℕ × List ℕ)) → AreFound data_stand from found → HasCome data_stand (one_of old.sector place) found start old new

module _ (data_stand : ℕ → List ℕ → Type 0) (place : Place) (limit : ℕ) where
  pub data_start : (from : ℕ) (known : SectorKnown) → from ≤ limit → IsDataWalk data_stand from from place limit known known
  data_start from known within = record {
    same = same_sector known;
    few = omega arith;
    lower = omega arith;
    within = within;
    noted = λ found are. come_start data_stand (one_of known.sector place) found from known are;
  }

  -- the good reading that was noted, by the sector and the bytes that it is of
  one_noted : (mid new : SectorKnown) (sector : ℕ) (piece bytes : List ℕ) → mid.sector ≡ sector → piece ≡ bytes
      → AppendsNotes mid new (good_reading mid.sector place piece ∷ []) → AppendsNotes mid new (good_reading sector place bytes ∷ [])
  one_noted mid new sector piece bytes same is noted =
      subst (λ (xs : List ℕ). AppendsNotes mid new (good_reading sector place xs ∷ [])) is
      (subst (λ (s : ℕ). AppendsNotes mid new (good_reading s place piece ∷ [])) same noted)

  pub data_step : ((p : ℕ) (xs ys : List ℕ) → data_stand p xs → data_stand p ys → xs ≡ ys)
      → (from start begin : ℕ) (bytes piece : List ℕ) (old mid new : SectorKnown) → IsDataWalk data_stand from start place limit old mid
      → FirstData data_stand start (Some begin) bytes → begin < limit → piece ≡ bytes
      → AppendsNotes mid new (good_reading mid.sector place piece ∷ []) → new.book.notes ≡ mid.book.notes + 1 → IsSameSector mid new
      → IsDataWalk data_stand from (begin + 1) place limit old new
  data_step one from start begin bytes piece old mid new w first below is noted count same = record {
    same = same_on old mid new w.same same;
    few = (let few = w.few in let least = first.0 in omega (arith, few, least, count));
    lower = (let lower = w.lower in let least = first.0 in omega (arith, lower, least));
    within = omega (arith, below);
    noted = λ found are.
        come_on data_stand (one_of old.sector place) found start begin bytes old mid new (w.noted found are) first.0 first.1 first.2
        (λ ys there. one_noted mid new old.sector piece ys w.same.sector (is ∙ one begin bytes ys first.1 there) noted);
  }

  pub data_end : (from start : ℕ) (bytes : List ℕ) (old new : SectorKnown) → IsDataWalk data_stand from start place limit old new
      → FirstData data_stand start None bytes → (found : List (ℕ × List ℕ)) → AreFound data_stand from found
      → AppendsNotes old new (data_readings old.sector place found)
  data_end from start bytes old new w none found are =
      come_end data_stand (one_of old.sector place) found start old new (w.noted found are) none.1

  -- what was read of a header
  goods : (sector : ℕ) (found : List (ℕ × List ℕ)) → data_readings sector place found ≡ map (λ (d : ℕ × List ℕ). good_reading sector place d.1) found
  goods sector [] = refl
  goods sector (d ∷ ds) = ap (λ (rs : List NotedReading). good_reading sector place d.1 ∷ rs) (goods sector ds)

  pub no_data : (sector : ℕ) (bytes : List ℕ) (old new : SectorKnown) → FirstData data_stand 0 None bytes → AppendsNotes old new (bad_reading sector place ∷ [])
      → (found : List (ℕ × List ℕ)) → AreFound data_stand 0 found → AppendsNotes old new (header_readings sector place found)
  no_data sector bytes old new none noted [] are = noted
  no_data sector bytes old new none noted (d ∷ ds) are = absurd (none.1 d.0 d.1 are.0.0 are.0.1)

  pub some_data : ((p : ℕ) (xs ys : List ℕ) → data_stand p xs → data_stand p ys → xs ≡ ys)
      → (begin : ℕ) (bytes piece : List ℕ) (old mid new : SectorKnown) → FirstData data_stand 0 (Some begin) bytes → piece ≡ bytes
      → AppendsNotes old mid (good_reading old.sector place piece ∷ []) → IsSameSector old mid
      → ((found : List (ℕ × List ℕ)) → AreFound data_stand (begin + 1) found → AppendsNotes mid new (data_readings mid.sector place found))
      → (found : List (ℕ × List ℕ)) → AreFound data_stand 0 found → AppendsNotes old new (header_readings old.sector place found)
  some_data one begin bytes piece old mid new first is noted same more [] are = absurd (are begin bytes (omega arith) first.1)
  some_data one begin bytes piece old mid new first is noted same more (d ∷ ds) are =
      let come = come_on data_stand (one_of old.sector place) (d ∷ ds) 0 begin bytes old old mid (come_start data_stand (one_of old.sector place) (d ∷ ds) 0 old are) first.0 first.1 first.2
      (λ ys there. one_noted old mid old.sector piece ys refl (is ∙ one begin bytes ys first.1 there) noted) in
      let rest = more come.rest come.found in
      subst (AppendsNotes old new) (goods old.sector (d ∷ ds))
      (subst (λ (xs : List (ℕ × List ℕ)). AppendsNotes old new (data_readings old.sector place xs)) (sym come.are)
      (subst (AppendsNotes old new) (sym (flat_map-append (one_of old.sector place) come.before come.rest))
      (appends_on old mid new (data_readings old.sector place come.before) (data_readings old.sector place come.rest) come.noted
      (subst (λ (s : ℕ). AppendsNotes mid new (data_readings s place come.rest)) same.sector rest))))

-- What is read of a header of the sector that is asked for is of that sector, and of another header nothing is.
module _ (asked sector : ℕ) (place : Place) where
  abbrev good_of : ℕ × List ℕ → NotedReading
  good_of d = good_reading sector place d.1

  all_goods : nat_eq sector asked ≡ true → (found : List (ℕ × List ℕ)) → of_sector asked (map good_of found) ≡ map good_of found
  all_goods same [] = refl
  all_goods same (d ∷ ds) =
      ap (λ (b : Bool). cond b (good_of d ∷ of_sector asked (map good_of ds)) (of_sector asked (map good_of ds))) same
      ∙ ap (λ (rs : List NotedReading). good_of d ∷ rs) (all_goods same ds)

  no_goods : nat_eq sector asked ≡ false → (found : List (ℕ × List ℕ)) → of_sector asked (map good_of found) ≡ []
  no_goods other [] = refl
  no_goods other (d ∷ ds) =
      ap (λ (b : Bool). cond b (good_of d ∷ of_sector asked (map good_of ds)) (of_sector asked (map good_of ds))) other ∙ no_goods other ds

  all_of : nat_eq sector asked ≡ true → (found : List (ℕ × List ℕ)) → of_sector asked (header_readings sector place found) ≡ header_readings sector place found
  all_of same [] = ap (λ (b : Bool). cond b (bad_reading sector place ∷ []) []) same
  all_of same (d ∷ ds) = all_goods same (d ∷ ds)

  none_of : nat_eq sector asked ≡ false → (found : List (ℕ × List ℕ)) → of_sector asked (header_readings sector place found) ≡ []
  none_of other [] = ap (λ (b : Bool). cond b (bad_reading sector place ∷ []) []) other
  none_of other (d ∷ ds) = no_goods other (d ∷ ds)

pub this_noted : (old new : SectorKnown) (sector : ℕ) (place : Place) (found : List (ℕ × List ℕ)) → sector ≡ old.sector
    → AppendsNotes old new (header_readings old.sector place found) → AppendsNotes old new (of_sector old.sector (header_readings sector place found))
this_noted old new sector place found same noted =
    subst (λ (s : ℕ). AppendsNotes old new (of_sector old.sector (header_readings s place found))) (sym same)
    (subst (AppendsNotes old new) (sym (all_of old.sector old.sector place (eq-eqb old.sector old.sector refl) found)) noted)

pub other_noted : (known : SectorKnown) (sector : ℕ) (place : Place) (found : List (ℕ × List ℕ)) → (sector ≡ known.sector → ⊥)
    → AppendsNotes known known (of_sector known.sector (header_readings sector place found))
other_noted known sector place found other =
    subst (AppendsNotes known known) (sym (none_of known.sector sector place (ne_eqb sector known.sector other) found)) (appends_none known)

module _ (header : List Bool → ℕ → Type 0) (data_stand : List Bool → ℕ → List ℕ → Type 0) (times indexes : List ℕ) (cells : List Bool) (capture : ℕ) (clock : Clock) where
  -- a header with all its data stands at a place
  abbrev Headers : ℕ → HeaderData → Type 0
  Headers = HasHeaderData header data_stand cells

  -- what is read of one that is of the sector; nothing of any other
  abbrev pub of_header : (sector : ℕ) → ℕ × HeaderData → List NotedReading
  of_header sector h = of_sector sector (header_readings h.1.0 (place_in capture clock times indexes cells h.0) h.1.1)

  -- each header is among these
  abbrev pub HasEach : List (ℕ × HeaderData) → Type 0
  HasEach all = (place s : ℕ) → header (drop place cells) s → («data» : List (ℕ × List ℕ)) × Contains all (place, (s, «data»))

  -- The walk has come to a place: of all headers those before it are noted that are of the sector, and so many ones were passed.
  pub record IsHeaderWalk (from passed : ℕ) (old new : SectorKnown) : Type 0 where
    pub same : IsSameSector old new
    pub few : new.book.notes ≤ old.book.notes + MOST_CELLS * from
    pub within : from ≤ length cells
    pub passed_are : passed ≡ ones (take from cells)
    pub noted : (all : List (ℕ × HeaderData)) → AreFound Headers 0 all → HasEach all → HasCome Headers (of_header old.sector) all from old new

  pub header_start : (known : SectorKnown) → IsHeaderWalk 0 0 known known
  header_start known = record {
    same = same_sector known;
    few = omega arith;
    within = omega arith;
    passed_are = refl;
    noted = λ all found each. come_start Headers (of_header known.sector) all 0 known found;
  }

  -- the place of a cell up to which so many ones stand
  abbrev met_at : (ones_to cell : ℕ) → Place
  met_at ones_to cell = record { capture = capture; clock = clock; turn = turn_at indexes (slice_index times (ones_to - 1)); cell = cell }

  module _ (finds_data : (here : List Bool) → SearchesFindAll (data_stand here)) (finds : SearchesFindAll Headers)
      (one_header : (here : List Bool) (s t : ℕ) → header here s → header here t → s ≡ t) where
    pub header_step : (from passed cell met sector : ℕ) (place : Place) (old mid new : SectorKnown) → IsHeaderWalk from passed old mid
        → FirstAt (λ (p s : ℕ). header (drop p cells) s) from (Some (cell, sector)) → cell < length cells
        → ones (take from cells) + met ≡ ones (take (cell + 1) cells) → place ≡ met_at (passed + met) cell → length cells ≤ MOST_CELLS
        → ((found : List (ℕ × List ℕ)) → AreFound (data_stand (drop cell cells)) 0 found → AppendsNotes mid new (of_sector mid.sector (header_readings sector place found)))
        → new.book.notes ≤ mid.book.notes + length cells → IsSameSector mid new
        → IsHeaderWalk (cell + 1) (passed + met) old new
    header_step from passed cell met sector place old mid new w first below counted at few appends count same =
        let here : Place = place_in capture clock times indexes cells cell in
        let place_is : place ≡ here = at ∙ ap (λ (n : ℕ). met_at n cell) (ap (λ (n : ℕ). n + met) w.passed_are ∙ counted) in
        let noted : (found : List (ℕ × List ℕ)) → AreFound (data_stand (drop cell cells)) 0 found → AppendsNotes mid new (of_sector old.sector (header_readings sector here found)) =
        λ found are. subst (λ (p : Place). AppendsNotes mid new (of_sector old.sector (header_readings sector p found))) place_is
        (subst (λ (s : ℕ). AppendsNotes mid new (of_sector s (header_readings sector place found))) w.same.sector (appends found are)) in
        record {
          same = same_on old mid new w.same same;
          few = (let before = w.few in let least = first.0 in omega (arith, before, least, count, few));
          within = omega (arith, below);
          passed_are = ap (λ (n : ℕ). n + met) w.passed_are ∙ counted;
          noted = λ all found each.
              let this = each cell sector first.1 in
              let stands : Headers cell (sector, this.0) = ((((finds.all 0 all).0 found).each cell (sector, this.0)).0 this.1).1 in
              come_on Headers (of_header old.sector) all from cell (sector, this.0) old mid new (w.noted all found each) first.0 stands
              (λ p y above short there. first.2 p y.0 above short there.stands)
              (λ y there. subst (λ (s : ℕ). AppendsNotes mid new (of_sector old.sector (header_readings s here y.1)))
              (one_header (drop cell cells) sector y.0 first.1 there.stands)
              (noted y.1 (((finds_data (drop cell cells)).all 0 y.1).1 there.all)));
        }

    -- the readings of a header at its place
    good_readings : (sector cell : ℕ) (found : List (ℕ × List ℕ))
        → readings_in capture clock times indexes cells (map (λ (d : ℕ × List ℕ). let f : Found = (cell, GoodFrame sector, d.1) in f) found)
        ≡ map (λ (d : ℕ × List ℕ). good_reading sector (place_in capture clock times indexes cells cell) d.1) found
    good_readings sector cell [] = refl
    good_readings sector cell (d ∷ ds) =
        ap (λ (rs : List NotedReading). good_reading sector (place_in capture clock times indexes cells cell) d.1 ∷ rs) (good_readings sector cell ds)

    readings_are : (h : ℕ × HeaderData) → readings_in capture clock times indexes cells (readings_of h) ≡ header_readings h.1.0 (place_in capture clock times indexes cells h.0) h.1.1
    readings_are (cell, (sector, [])) = refl
    readings_are (cell, (sector, d ∷ ds)) = good_readings sector cell (d ∷ ds)

    -- those of the sector among the readings of all headers
    all_are : (sector : ℕ) (all : List (ℕ × HeaderData))
        → of_sector sector (readings_in capture clock times indexes cells (flat_map readings_of all)) ≡ flat_map (of_header sector) all
    all_are sector [] = refl
    all_are sector (h ∷ hs) =
        let at : Found → List NotedReading = λ (f : Found). readings_at (place_in capture clock times indexes cells f.0) f.1 f.2 in
        let is : NotedReading → Bool = λ (r : NotedReading). nat_eq r.sector sector in
        ap (of_sector sector) (flat_map-append at (readings_of h) (flat_map readings_of hs))
        ∙ filter-append is (flat_map at (readings_of h)) (flat_map at (flat_map readings_of hs))
        ∙ ap (λ (rs : List NotedReading). of_sector sector rs ++ of_sector sector (flat_map at (flat_map readings_of hs))) (readings_are h)
        ∙ ap (λ (rs : List NotedReading). of_header sector h ++ rs) (all_are sector hs)

    pub header_end : (from passed : ℕ) (old new : SectorKnown) → IsHeaderWalk from passed old new → FirstAt (λ (p s : ℕ). header (drop p cells) s) from None
        → (found : List Found) → AreReadByControllers header data_stand cells found
        → AppendsNotes old new (of_sector old.sector (readings_in capture clock times indexes cells found))
    header_end from passed old new w none found all =
        subst (AppendsNotes old new)
        (sym (ap (λ (fs : List Found). of_sector old.sector (readings_in capture clock times indexes cells fs)) all.are ∙ all_are old.sector all.headers))
        (come_end Headers (of_header old.sector) all.headers from old new (w.noted all.headers ((finds.all 0 all.headers).1 all.all) all.each)
        (λ p y above there. none p y.0 above there.stands))
