-- The numbers of a verdict over all readings of a track fit in 64 bits.
use Rattle.std.specs.Prelude.{◌≡◌, ◌≤◌, ◌<◌, ℕ, ◌+◌, ◌-◌, ◌*◌, ◌^◌, Bool, true, false, cond, List}
use Rattle.std.specs.Prelude.{[], ◌∷◌, count_by, filter, find, is_none, is_some, length, nat_eq}
use Rattle.std.specs.Prelude.{nat_le, not, ◌&&◌, Option, Some, None, refl}
use Rattle.std.specs.Str.{bytes_eq}
use Rattle.std.proofs.Common.{subst, sym, arith, length-append, lit<}
use Rattle.std.proofs.lemmas.List.Elements.{All-head}
use Rattle.std.proofs.lemmas.List.Sums.{length-filter, sum_by-cons}
use Rattle.frame_law.specs.Readings.{AreReadings}
use Rattle.frame_law.specs.declared.reading.Reading.{Reading as Frame}
use Rattle.frame_law.specs.declared.reading.Reading.TheVariants.{Nothing, Bad as BadFrame}
use Rattle.frame_law.specs.declared.reading.Reading.TheVariants.{Good as GoodFrame}
use Rattle.flux_base.specs.declared.track.TrackId.{TrackId}
use Rattle.index_turns.specs.Track.{turn_at}
use Rattle.phase_loop.specs.Sizes.{CellsAreFew}
use Rattle.sector_images.specs.declared.format.Format.{Format}
use Rattle.sector_report.specs.LineLaws.{PlaceFits, SourceFits, VerdictFits}
use Rattle.turn_merge.specs.Readings.{NotedReading, bad_ones, bytes_of, first_other, good_ones}
use Rattle.turn_merge.specs.Readings.{verdict, verdict_of, verdict_with}
use Rattle.turn_merge.specs.declared.verdict.Place.{Place}
use Rattle.disk_recordings.specs.Laws.{TracksAreRead}
use Rattle.disk_recordings.specs.Members.{header_at, sector_at}
use Rattle.frame_law.specs.Laws.{places}
use Rattle.sector_report.specs.declared.naming.Naming.{Naming}
use Rattle.sector_report.specs.declared.naming.Naming.TheVariants.{Unnamed}
use Rattle.turn_merge.specs.declared.clock.Clock.{Clock}
use Rattle.turn_merge.specs.declared.clock.Clock.TheVariants.{Following}
use Rattle.flux_engine.specs.Captured.{AreReadingsBy}
use Rattle.flux_engine.specs.declared.plan.Rule.TheVariants.{Strict}
use Rattle.flux_engine.specs.Recordings.{cells_by, cells_of, start_by, start_of}
use Rattle.flux_engine.specs.Tracks.{Found, place_in, readings_at, readings_in, readings_of}
use Rattle.flux_engine.specs.Tracks.{time_of_place}
use Rattle.flux_engine.specs.lemmas.Each.{Each, each-filter, each-flat, each-map}

-- there are no more readings than cells, and each lies in them
record FoundFit (cells : List Bool) (from : ℕ) (found : List Found) : Type 0 where
  few : length found ≤ length cells - from
  inside : Each (λ (f : Found). f.0 < length cells) found

found_fit : TracksAreRead
    → (format : Format) (track : TrackId) (cells : List Bool) (found : List Found) (from : ℕ)
    → AreReadings (header_at format track) (sector_at format track) cells from found
    → FoundFit cells from found
found_fit read format track cells [] from all = record { few = omega arith; inside = tt }
found_fit read format track cells (f ∷ rest) from all =
    let lies = All-head (λ (place : ℕ). (from ≤ place) × (place < length cells)) f.0 (places rest)
    ((read.all format track cells from (f ∷ rest)).0 all).inside in
    let above : from ≤ f.0 = lies.0 in
    let below : f.0 < length cells = lies.1 in
    let later = found_fit read format track cells rest (f.0 + 1) all.1 in record {
      few = omega (arith, above, below, later.few);
      inside = (below, later.inside);
    }

count_few : {X : Type 0} (p : X → Bool) (xs : List X) → count_by p xs ≤ length xs
count_few p [] = omega arith
count_few p (x ∷ xs) = one-more (p x) (count_few p xs) (sum_by-cons (λ y. cond (p y) 1 0) x xs)
  where
    one-more : (b : Bool) → count_by p xs ≤ length xs
        → count_by p (x ∷ xs) ≡ cond b 1 0 + count_by p xs → count_by p (x ∷ xs) ≤ length (x ∷ xs)
    one-more true few is = omega (arith, few, is)
    one-more false few is = omega (arith, few, is)

filter_few : {X : Type 0} (p : X → Bool) (xs : List X) → length (filter p xs) ≤ length xs
filter_few p xs = omega (arith, length-filter p xs, count_few p xs)

-- no more readings than were found
pub one_few : (place : Place) (frame : Frame) (bytes : List ℕ)
    → length (readings_at place frame bytes) ≤ 1
one_few place Nothing bytes = omega arith
one_few place (BadFrame s) bytes = omega arith
one_few place (GoodFrame s) bytes = omega arith

module _ (naming : Naming) where
  abbrev pub ReadingFits : NotedReading → Type 0
  ReadingFits r = PlaceFits naming r.place

  pub at_place : (place : Place) (frame : Frame) (bytes : List ℕ) → PlaceFits naming place
      → Each ReadingFits (readings_at place frame bytes)
  at_place place Nothing bytes fits = tt
  at_place place (BadFrame s) bytes fits = (fits, tt)
  at_place place (GoodFrame s) bytes fits = (fits, tt)

  -- what a clock reads of a capture whose number and clock fit: a place in the cells, and
  -- no more turns than index times
  module _ (capture : ℕ) (clock : Clock) (times indexes : List ℕ) (cells : List Bool)
      (source : (place : ℕ)
      → SourceFits naming (place_in capture clock times indexes cells place)) where
    readings_few : (found : List Found)
        → length (readings_in capture clock times indexes cells found) ≤ length found
    readings_few [] = omega arith
    readings_few (f ∷ rest) =
        let here : List NotedReading =
        readings_at (place_in capture clock times indexes cells f.0) f.1 f.2 in
        let both = length-append here (readings_in capture clock times indexes cells rest) in
        omega (
          arith,
          both,
          one_few (place_in capture clock times indexes cells f.0) f.1 f.2,
          readings_few rest,
        )

    places_fit : (found : List Found) → length cells < 2 ^ 64 → length indexes < 2 ^ 64
        → Each (λ (f : Found). f.0 < length cells) found
        → Each ReadingFits (readings_in capture clock times indexes cells found)
    places_fit found few few' inside =
        each-flat
        (λ (f : Found). readings_at (place_in capture clock times indexes cells f.0) f.1 f.2)
        (λ (f : Found). f.0 < length cells) ReadingFits
        (λ f low.
        let turns : turn_at indexes (time_of_place times cells f.0) ≤ length indexes =
        count_few (λ (index : ℕ). nat_le index (time_of_place times cells f.0)) indexes in
        at_place (place_in capture clock times indexes cells f.0) f.1 f.2
        (omega (arith, turns, few'), omega (arith, low, few), source f.0))
        found inside

  filter_fits : (p : NotedReading → Bool) (readings : List NotedReading) → Each ReadingFits readings
      → Each ReadingFits (filter p readings)
  filter_fits p readings fits =
      each-map (λ (r : NotedReading). ReadingFits r × (p r ≡ true)) ReadingFits (λ r both. both.0)
      (filter p readings) (each-filter p ReadingFits readings fits)

some_same : {X : Type 0} {x y : X} → Some x ≡ Some y → x ≡ y
some_same e = cc

found_here : {X : Type 0} (P : X → Type 0) (x y : X) (rest : Option X) (b : Bool) → P x
    → (rest ≡ Some y → P y) → cond b (Some x) rest ≡ Some y → P y
found_here P x y rest true here later is = subst P (some_same is) here
found_here P x y rest false here later is = later is

find_each : {X : Type 0} (p : X → Bool) (P : X → Type 0) (xs : List X) (y : X) → Each P xs
    → find p xs ≡ Some y → P y
find_each p P [] y each is = absurd (cc)
find_each p P (x ∷ xs) y each is =
    found_here P x y (find p xs) (p x) each.0 (λ later. find_each p P xs y each.1 later) is

module _ (naming : Naming) (few : ℕ) (small : few < 2 ^ 64) where
  with_fits : (good bad : ℕ) (first : Place) (other : Option NotedReading) → good ≤ few → bad ≤ few
      → PlaceFits naming first
      → ((r : NotedReading) → other ≡ Some r → PlaceFits naming r.place)
      → VerdictFits naming (verdict_with good bad first other)
  with_fits good bad first None low low' fits others =
      (omega (arith, low, small), omega (arith, low', small), fits)
  with_fits good bad first (Some r) low low' fits others =
      (omega (arith, low, small), omega (arith, low', small), fits, others r refl)

  of_fits : (goods bads : List NotedReading) → length goods ≤ few → length bads ≤ few
      → Each (ReadingFits naming) goods
      → Each (ReadingFits naming) bads → VerdictFits naming (verdict_of goods bads)
  of_fits [] [] low low' fits fits' = tt
  of_fits [] (b ∷ bads) low low' fits fits' = (omega (arith, low', small), fits'.0)
  of_fits (g ∷ goods) bads low low' fits fits' =
      with_fits (length (g ∷ goods)) (length bads) g.place (first_other (bytes_of g) goods) low low'
      fits.0
      (λ r is.
      find_each (λ (q : NotedReading). not (bytes_eq (bytes_of q) (bytes_of g)))
      (ReadingFits naming) goods r fits.1 is)

  pub readings_fit : (readings : List NotedReading) (sector : ℕ) → length readings ≤ few
      → Each (ReadingFits naming) readings
      → VerdictFits naming (verdict readings sector)
  unfolding verdict
  readings_fit readings sector low fits =
      let is_good : NotedReading → Bool = λ r. nat_eq r.sector sector && is_some r.bytes in
      let is_bad : NotedReading → Bool = λ r. nat_eq r.sector sector && is_none r.bytes in
      let goods : length (good_ones readings sector) ≤ length readings =
      filter_few is_good readings in
      let bads : length (bad_ones readings sector) ≤ length readings = filter_few is_bad readings in
      of_fits (good_ones readings sector) (bad_ones readings sector) (omega (arith, low, goods))
      (omega (arith, low, bads))
      (filter_fits naming is_good readings fits) (filter_fits naming is_bad readings fits)

-- what a clock reads by the strict rule of a stream that has few
-- transitions: few readings, which fit
pub record FewFit (naming : Naming) (readings : List NotedReading) : Type 0 where
  pub few : length readings ≤ 134217728
  pub fit : Each (ReadingFits naming) readings

pub few_fit : TracksAreRead → CellsAreFew
    → (naming : Naming) (clock : Clock) (format : Format) (track : TrackId) (times indexes : List ℕ)
    (capture : ℕ)
    (readings : List NotedReading) → length times ≤ 4194304 → length indexes ≤ 4194304
    → ((place : ℕ)
    → SourceFits naming
    (place_in capture clock times indexes (cells_by clock format track times indexes) place))
    → AreReadingsBy Strict clock format track times indexes capture readings
    → FewFit naming readings
few_fit read cells_few naming clock format track times indexes capture readings few few' source by =
    let cells : List Bool = cells_by clock format track times indexes in
    let size : length cells ≤ 32 * length times =
    cells_few (start_by clock (start_of format track indexes)) times in
    let are = found_fit read format track cells by.found 0 by.all in
    let most : length cells ≤ 134217728 = omega (arith, size, few) in
    let no_more : length by.found ≤ length cells = omega (arith, are.few) in
    let count = readings_few naming capture clock times indexes cells source by.found in
    subst (FewFit naming) (sym by.are)
    (record {
      few = omega (arith, count, no_more, most);
      fit = places_fit naming capture clock times indexes cells source by.found
          (omega (arith, most)) (omega (arith, few')) are.inside;
    })

-- the verdict of a track that has few transitions
pub verdict_fits : TracksAreRead → CellsAreFew
    → (format : Format) (track : TrackId) (times indexes : List ℕ) (found : List Found) (sector : ℕ)
    → length times ≤ 4194304 → length indexes ≤ 4194304
    → AreReadings (header_at format track) (sector_at format track)
    (cells_of format track times indexes) 0 found
    → VerdictFits Unnamed
    (verdict (readings_of times indexes (cells_of format track times indexes) found) sector)
verdict_fits read cells_few format track times indexes found sector few few' all =
    let readings : List NotedReading =
    readings_of times indexes (cells_of format track times indexes) found in
    let fit = few_fit read cells_few Unnamed Following format track times indexes 0 readings few
    few' (λ place. (refl, refl))
    (record { found = found; all = all; are = refl }) in
    readings_fit Unnamed 134217728 (lit< tt) readings sector fit.few fit.fit
