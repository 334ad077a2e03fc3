-- How much can be read of a track as controllers read: no more headers than there are cells, and no more data of each. So the numbers of
-- the lines of dumps fit in 64 bits.
use Rattle.std.specs.Prelude.{◌≡◌, ◌≤◌, ◌<◌, ◌⊎◌, ◌^◌, ℕ, zero, suc, ◌+◌, ◌-◌, ◌*◌, Bool, List, [], ◌∷◌, drop, flat_map, get_or, length, map, nat_le, slice_index, Option, None, Some, Result, Ok, Err, refl}
use Rattle.std.specs.List.Sorted.{IsStrictlyIncreasing}
use Rattle.std.proofs.Common.{ap, sym, subst, arith, inl, inr, length-append, lit<}
use Rattle.std.proofs.Math.Nat.{mul-le-mul_left, mul-suc}
use Rattle.std.proofs.lemmas.Bool.{cases_lt}
use Rattle.std.proofs.lemmas.List.{length-drop, length-map}
use Rattle.std.proofs.lemmas.List.Sums.{count_by-le-length}
use Rattle.disk_recordings.specs.Laws.{DataAreRead, NamesAreTold}
use Rattle.disk_recordings.specs.Members.{as_controllers_read, data_at, header_at}
use Rattle.dump_reading.specs.DumpStreams.{IsOrFailed, seen_of, seen_unless, track_in}
use Rattle.dump_reading.specs.Outcomes.{DumpDisk, plan_of}
use Rattle.flux_base.specs.declared.track.TrackId.{TrackId}
use Rattle.flux_engine.specs.Captured.{AreReadingsBy, IsUsed, joined_by}
use Rattle.flux_engine.specs.Plans.{AreCaptures, Seen, Streams, joined}
use Rattle.flux_engine.specs.Recordings.{cells_by, start_by, start_of, track_at}
use Rattle.flux_engine.specs.Tracks.{Found, place_in, readings_at, readings_in, time_of_place}
use Rattle.flux_engine.specs.declared.plan.Clocks.{Clocks}
use Rattle.flux_engine.specs.declared.plan.Clocks.TheVariants.{Both, FollowingAlone}
use Rattle.flux_engine.specs.declared.plan.Rule.TheVariants.{Controller}
use Rattle.flux_engine.specs.lemmas.Each.{Each, each-append, each-flat, each-map, each-of}
use Rattle.flux_engine.specs.lemmas.JoinedReadings.{each_joined}
use Rattle.flux_engine.specs.lemmas.TrackAt.{is_known_at}
use Rattle.flux_engine.specs.lemmas.VerdictBounds.{ReadingFits, at_place, one_few, readings_fit}
use Rattle.frame_law.specs.Controller.{AreAllAt, HasHeaderData, HeaderData, readings_of}
use Rattle.frame_law.specs.declared.reading.Reading.TheVariants.{Good}
use Rattle.kryo_stream.specs.Growth.{StreamsAreShort}
use Rattle.kryo_stream.specs.Stream.{first_fault}
use Rattle.kryo_stream.specs.declared.fault.StreamFault.{StreamFault}
use Rattle.law_read_dumps.specs.Said.{AreOfFiles}
use Rattle.phase_loop.specs.Sizes.{CellsAreFew}
use Rattle.sector_images.specs.Places.{IsSector, NumbersNameTracks, TracksKeepBounds, tracks}
use Rattle.sector_images.specs.declared.format.Format.{Format}
use Rattle.sector_report.specs.LineLaws.{LineFits}
use Rattle.sector_report.specs.declared.naming.Naming.TheVariants.{ByCaptureAndClock}
use Rattle.scp_files.specs.declared.fault.ScpTrackFault.{ScpTrackFault}
use Rattle.track_shelf.specs.Files.{File}
use Rattle.turn_merge.specs.Readings.{NotedReading, verdict}
use Rattle.turn_merge.specs.declared.clock.Clock.{Clock}
use Rattle.turn_merge.specs.declared.clock.Clock.TheVariants.{Following, Held}

-- of numbers that rise, each is at least its place
at_least : (xs : List ℕ) → IsStrictlyIncreasing xs → (k : ℕ) → k < length xs → k ≤ slice_index xs k
at_least xs rise zero low = omega arith
at_least xs rise (suc k) low =
    let before = at_least xs rise k (omega (arith, low)) in
    let here = rise k (omega (arith, low)) in
    let same : slice_index xs (k + 1) ≡ slice_index xs (suc k) = (let e : k + 1 ≡ suc k = omega arith in ap (slice_index xs) e) in
    omega (arith, before, here, same)

index_below : (xs : List ℕ) (limit : ℕ) → Each (λ (x : ℕ). x < limit) xs → (k : ℕ) → k < length xs → slice_index xs k < limit
index_below [] limit all k low = absurd (omega (arith, low))
index_below (x ∷ xs) limit all zero low = all.0
index_below (x ∷ xs) limit all (suc k) low = index_below xs limit all.1 k (omega (arith, low))

-- so there are no more than there are numbers below them all
rising_few : (xs : List ℕ) (limit : ℕ) → IsStrictlyIncreasing xs → Each (λ (x : ℕ). x < limit) xs → length xs ≤ limit
rising_few xs limit rise below = by (cases_lt 0 (length xs))
  where
    by : (0 < length xs) ⊎ (length xs ≤ 0) → length xs ≤ limit
    by (inl some) =
        let last : ℕ = length xs - 1 in
        let low : last < length xs = omega (arith, some) in
        omega (arith, some, at_least xs rise last low, index_below xs limit below last low)
    by (inr none) = omega (arith, none)

map_each : {X Y : Type 0} (P : Y → Type 0) (g : X → Y) (xs : List X) → Each (λ (x : X). P (g x)) xs → Each P (map g xs)
map_each P g [] all = tt
map_each P g (x ∷ xs) all = (all.0, map_each P g xs all.1)

-- what stands at places below a limit stands at no more places than it
module _ {X : Type 0} (At : ℕ → X → Type 0) (limit : ℕ) (below : (place : ℕ) (x : X) → At place x → place < limit) (found : List (ℕ × X)) (all : AreAllAt At 0 found) where
  each_at : Each (λ (f : ℕ × X). At f.0 f.1) found
  each_at = each-of (λ (f : ℕ × X). At f.0 f.1) found (λ f has. ((all.each f.0 f.1).0 has).1)

  places_below : Each (λ (f : ℕ × X). f.0 < limit) found
  places_below = each-map (λ (f : ℕ × X). At f.0 f.1) (λ (f : ℕ × X). f.0 < limit) (λ f at. below f.0 f.1 at) found each_at

  found_few : length found ≤ limit
  found_few =
      let few = rising_few (map (λ (f : ℕ × X). f.0) found) limit all.rise (map_each (λ (p : ℕ). p < limit) (λ (f : ℕ × X). f.0) found places_below) in
      let same : length (map (λ (f : ℕ × X). f.0) found) ≡ length found = length-map found (λ (f : ℕ × X). f.0) in
      omega (arith, few, same)

-- a place from which cells are left is one of them
place_inside : (cells : List Bool) (place : ℕ) → 0 < length (drop place cells) → place < length cells
place_inside cells place some = (let left = length-drop place cells in omega (arith, some, left))

-- the readings of a header
header_few : (h : ℕ × HeaderData) (limit : ℕ) → 1 ≤ limit → length h.1.1 ≤ limit → length (readings_of h) ≤ limit
header_few (place, (sector, [])) limit some few = omega (arith, some)
header_few (place, (sector, first ∷ more)) limit some few =
    let same : length (readings_of (place, (sector, first ∷ more))) ≡ length (first ∷ more) = length-map (first ∷ more) (λ (d : ℕ × List ℕ). (place, Good sector, d.1)) in
    omega (arith, same, few)

header_inside : (h : ℕ × HeaderData) (limit : ℕ) → h.0 < limit → Each (λ (f : Found). f.0 < limit) (readings_of h)
header_inside (place, (sector, [])) limit low = (low, tt)
header_inside (place, (sector, first ∷ more)) limit low =
    map_each (λ (f : Found). f.0 < limit) (λ (d : ℕ × List ℕ). (place, Good sector, d.1)) (first ∷ more)
    (each-of (λ (d : ℕ × List ℕ). place < limit) (first ∷ more) (λ d has. low))

-- as many times as many
flat_few : {X Y : Type 0} (f : X → List Y) (most : ℕ) (xs : List X) → Each (λ (x : X). length (f x) ≤ most) xs → length (flat_map f xs) ≤ most * length xs
flat_few f most [] all = omega arith
flat_few f most (x ∷ xs) all =
    let rest = flat_few f most xs all.1 in
    let both : length (flat_map f (x ∷ xs)) ≡ length (f x) + length (flat_map f xs) = length-append (f x) (flat_map f xs) in
    let more : most * suc (length xs) ≡ most * length xs + most = mul-suc most (length xs) in
    omega (arith, all.0, rest, both, more)

-- All that can be read as controllers read: as many readings as there are pairs of cells at most, each at a place in the cells.
pub record IsFewFound (cells : List Bool) (found : List Found) : Type 0 where
  pub few : length found ≤ length cells * length cells
  pub inside : Each (λ (f : Found). f.0 < length cells) found

module _ (names : NamesAreTold) (read : DataAreRead) (format : Format) (track : TrackId) (cells : List Bool) where
  abbrev Header : ℕ → HeaderData → Type 0
  Header = HasHeaderData (header_at format track) (data_at format) cells

  header_place : (place : ℕ) (h : HeaderData) → Header place h → place < length cells
  header_place place h has =
      let told = names.told format track in
      let name = told.of_sectors.has_name (drop place cells) h.0 has.stands in
      let alone = told.alone (drop place cells) name.0 name.1 in
      place_inside cells place (omega (arith, alone.some, alone.within))

  data_few : (place : ℕ) (h : HeaderData) → Header place h → length h.1 ≤ length cells
  data_few place h has =
      let few = found_few (data_at format (drop place cells)) (length (drop place cells)) ((read.told format).inside (drop place cells)) h.1 has.all in
      omega (arith, few, length-drop place cells)

  header_fits : (place : ℕ) (h : HeaderData) → Header place h → (place < length cells) × (length (readings_of (place, h)) ≤ length cells)
  header_fits place h has =
      let low = header_place place h has in
      (low, header_few (place, h) (length cells) (omega (arith, low)) (data_few place h has))

  pub few_found : (headers : List (ℕ × HeaderData)) → AreAllAt Header 0 headers → IsFewFound cells (flat_map readings_of headers)
  few_found headers all =
      let fit = each-map (λ (h : ℕ × HeaderData). Header h.0 h.1) (λ (h : ℕ × HeaderData). (h.0 < length cells) × (length (readings_of h) ≤ length cells))
      (λ h has. header_fits h.0 h.1 has) headers (each_at Header (length cells) header_place headers all) in
      let few = flat_few readings_of (length cells) headers (each-map _ (λ (h : ℕ × HeaderData). length (readings_of h) ≤ length cells) (λ h both. both.1) headers fit) in
      let many = found_few Header (length cells) header_place headers all in
      let times = mul-le-mul_left (length cells) many in
      record {
        few = omega (arith, few, times);
        inside = each-flat readings_of (λ (h : ℕ × HeaderData). h.0 < length cells) (λ (f : Found). f.0 < length cells)
            (λ h low. header_inside h (length cells) low) headers
            (each-map _ (λ (h : ℕ × HeaderData). h.0 < length cells) (λ h both. both.0) headers fit);
      }

each_get : {X : Type 0} (P : X → Type 0) (d : X) (xs : List X) → ((k : ℕ) → k < length xs → P (get_or xs k d)) → Each P xs
each_get P d [] all = tt
each_get P d (x ∷ xs) all = (all 0 (omega arith), each_get P d xs (λ k low. all (suc k) (omega (arith, low))))

-- so many readings at most, the numbers of whose places fit
record AreFew (most : ℕ) (readings : List NotedReading) : Type 0 where
  few : length readings ≤ most
  fit : Each (ReadingFits ByCaptureAndClock) readings

module _ (capture : ℕ) (small : capture < 2 ^ 64) (clock : Clock) (times indexes : List ℕ) (cells : List Bool) where
  abbrev read_at : Found → List NotedReading
  read_at f = readings_at (place_in capture clock times indexes cells f.0) f.1 f.2

  noted_few : (found : List Found) → length (readings_in capture clock times indexes cells found) ≤ length found
  noted_few found =
      let few = flat_few read_at 1 found (each-of (λ (f : Found). length (read_at f) ≤ 1) found (λ f has. one_few (place_in capture clock times indexes cells f.0) f.1 f.2)) in
      omega (arith, few)

  noted_fit : (found : List Found) → length cells < 2 ^ 64 → length indexes < 2 ^ 64 → Each (λ (f : Found). f.0 < length cells) found
      → Each (ReadingFits ByCaptureAndClock) (readings_in capture clock times indexes cells found)
  noted_fit found few few' inside =
      each-flat read_at (λ (f : Found). f.0 < length cells) (ReadingFits ByCaptureAndClock)
      (λ f low.
      let turns : (place_in capture clock times indexes cells f.0).turn ≤ length indexes = count_by-le-length (λ (index : ℕ). nat_le index (time_of_place times cells f.0)) indexes in
      at_place ByCaptureAndClock (place_in capture clock times indexes cells f.0) f.1 f.2 (omega (arith, turns, few'), omega (arith, low, few), small))
      found inside

-- what the laws say that this rests on
pub record Laws : Type 0 where
  pub names : NamesAreTold
  pub read : DataAreRead
  pub cells_few : CellsAreFew
  pub short : StreamsAreShort
  pub keep : TracksKeepBounds
  pub numbers : NumbersNameTracks

module _ (laws : Laws) where
  -- what a clock reads of a stream that has few transitions
  few_by_clock : (clock : Clock) (format : Format) (track : TrackId) (times indexes : List ℕ) (capture : ℕ) (readings : List NotedReading) → capture < 2 ^ 64
      → length times ≤ 4194304 → length indexes ≤ 4194304 → AreReadingsBy Controller clock format track times indexes capture readings
      → AreFew 18014398509481984 readings
  few_by_clock clock format track times indexes capture readings small few few' by =
      let cells : List Bool = cells_by clock format track times indexes in
      let size : length cells ≤ 32 * length times = laws.cells_few (start_by clock (start_of format track indexes)) times in
      let most : length cells ≤ 134217728 = omega (arith, size, few) in
      let square : length cells * length cells ≤ length cells * 134217728 = mul-le-mul_left (length cells) most in
      let found = subst (IsFewFound cells) (sym by.all.are)
      (few_found laws.names laws.read (as_controllers_read format) track cells by.all.headers by.all.all) in
      let count = noted_few capture small clock times indexes cells by.found in
      subst (AreFew 18014398509481984) (sym by.are)
      (record {
        few = omega (arith, count, found.few, square, most);
        fit = noted_fit capture small clock times indexes cells by.found (omega (arith, most)) (omega (arith, few')) found.inside;
      })

  few_by_clocks : (clocks : Clocks) (by_clock : Clock → List NotedReading) → ((clock : Clock) → IsUsed clocks clock → AreFew 18014398509481984 (by_clock clock))
      → AreFew 36028797018963968 (joined_by clocks by_clock)
  few_by_clocks FollowingAlone by_clock each = (let one = each Following tt in record { few = omega (arith, one.few); fit = one.fit })
  few_by_clocks Both by_clock each =
      let one = each Following tt in
      let other = each Held tt in
      let both = length-append (by_clock Following) (by_clock Held) in
      record {
        few = omega (arith, one.few, other.few, both);
        fit = each-append (ReadingFits ByCaptureAndClock) (by_clock Following) (by_clock Held) one.fit other.fit;
      }

  -- what came of a file has few transitions
  abbrev pub IsShort : Seen → Type 0
  IsShort s = (length s.times ≤ 4194304) × (length s.indexes ≤ 4194304)

  short_unless : (bytes : List ℕ) (fault : Option (ℕ × StreamFault)) → first_fault bytes ≡ fault → IsShort (seen_unless bytes fault)
  short_unless bytes None is = laws.short bytes is
  short_unless bytes (Some fault) is = (omega arith, omega arith)

  short_of : (it : Option (Result (List ℕ) ScpTrackFault)) → IsShort (seen_of it)
  short_of None = (omega arith, omega arith)
  short_of (Some (Err fault)) = (omega arith, omega arith)
  short_of (Some (Ok bytes)) = short_unless bytes (first_fault bytes) refl

  -- the streams of a track that are those of its files, or whose files failed
  short_by : (file : Option (Result (List ℕ) ScpTrackFault)) (came : Seen) → IsOrFailed came (seen_of file) → IsShort came
  short_by file came (inl same) = subst IsShort (sym same) (short_of file)
  short_by file came (inr failed) = subst IsShort (sym failed) (omega arith, omega arith)

  pub short_came : (disk : DumpDisk) (came : Streams) (files : List File) → AreOfFiles disk came files → (n : ℕ) → n < length (tracks disk.format) → (q : ℕ) → q < length disk.dumps
      → IsShort (came n q)
  short_came disk came files of n low q few = short_by (track_in disk.stepping disk.dumps files (track_at disk.format n) q) (came n q) (of n q low few)

  module _ (disk : DumpDisk) (came : Streams) (most : length disk.dumps ≤ 16) (n : ℕ) (short : (q : ℕ) → q < length disk.dumps → IsShort (came n q))
      (captures : List (List NotedReading)) (many : length captures ≡ length disk.dumps)
      (each : AreCaptures (plan_of disk) disk.format came n captures) where
    capture_few : (q : ℕ) → q < length captures → AreFew 36028797018963968 (get_or captures q [])
    capture_few q low =
        let limit : 16 < 2 ^ 64 = lit< tt in
        let here = short q (omega (arith, low, many)) in
        let noted = each q low in
        subst (AreFew 36028797018963968) (sym noted.are)
        (few_by_clocks disk.clocks noted.by_clock
        (λ clock used.
        few_by_clock clock disk.format (track_at disk.format n) (came n q).times (came n q).indexes q (noted.by_clock clock)
        (omega (arith, low, many, most, limit)) here.0 here.1 (noted.each clock used)))

    all_few : length (joined captures) ≤ 576460752303423488
    all_few =
        let few = flat_few (λ (readings : List NotedReading). readings) 36028797018963968 captures
        (each_get (λ (readings : List NotedReading). length readings ≤ 36028797018963968) [] captures (λ q low. (capture_few q low).few)) in
        omega (arith, few, many, most)

    -- so each line of its sectors has numbers that fit
    pub line_fits : (sector : ℕ) → n < length (tracks disk.format) → IsSector disk.format (track_at disk.format n) sector
        → LineFits ByCaptureAndClock (track_at disk.format n) sector (verdict (joined captures) sector)
    line_fits sector low known =
        let named = laws.numbers disk.format n low in
        let bounds = laws.keep disk.format (track_at disk.format n) (is_known_at disk.format n named.0 named.1 named.2) in
        record {
          cylinder_fits = bounds.cylinder;
          head_fits = omega (arith, bounds.head);
          sector_fits = omega (arith, known.1, bounds.numbers);
          verdict_fits =
              readings_fit ByCaptureAndClock 576460752303423488 (lit< tt) (joined captures) sector all_few
              (each_joined (ReadingFits ByCaptureAndClock) captures (λ q within. (capture_few q within).fit));
        }
