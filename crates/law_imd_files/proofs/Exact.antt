-- What was found of a track of which all streams capture a track of a disk: that track, and no more.
use Rattle.flux_engine.specs.Recordings.{track_at}
use Rattle.imd_records.specs.declared.choice.Choice.{Choice}
use Rattle.imd_records.specs.Modes.{modes, number_of}
use Rattle.ibm_disks.specs.declared.sector_size.SectorSize.TheVariants.{Bytes128, Bytes256, Bytes512, Bytes1024}
use Rattle.ibm_disks.specs.declared.sector_size.SectorSize.{SectorSize}
use Rattle.std.proofs.Common.{◌≡◌, ◌<◌, ◌≤◌, ◌⊎◌, ◌∙◌, ℕ, zero, suc, true, List, length, nat_eq, Option, Some, ap, refl, sym, subst, inl, inr, arith, ◌*◌, ◌^◌, ◌+◌, Bool, false, map}
use Rattle.std.specs.Prelude.{[], ◌∷◌, AllPairs, Contains, not, slice_index_or, if◌then◌else◌, count_by, ◌&&◌}
use Rattle.std.specs.List.{range_with_len, list_any}
use Rattle.std.proofs.lemmas.Bool.{eqb-true, ltb-true, cases_lt, eq-eqb}
use Rattle.std.proofs.lemmas.List.{get_or-map, get_or_default, length-map}
use Rattle.flux_base.specs.declared.track.TrackId.{TrackId}
use Rattle.flux_engine.specs.LoopProgress.{seen_at}
use Rattle.flux_engine.specs.Plans.{Seen}
use Rattle.flux_engine.specs.Rings.{IsImage}
use Rattle.ibm_disks.specs.Disks.{rate_of, track_of_disk}
use Rattle.ibm_disks.specs.GapPlans.{FillAt, density_of}
use Rattle.ibm_disks.specs.Numbers.{code_of, FM_AROUND, fm_before, mfm_around, mfm_before, size_of}
use Rattle.ibm_disks.specs.declared.disk.IbmDisk.{IbmDisk}
use Rattle.ibm_disks.specs.declared.rate.Density.{Density}
use Rattle.ibm_disks.specs.declared.rate.Density.TheVariants.{Single as SingleDensity}
use Rattle.ibm_disks.specs.declared.rate.Density.TheVariants.{Double as DoubleDensity}
use Rattle.ibm_disks.specs.declared.rate.Rate.{Rate}
use Rattle.ibm_disks.specs.declared.rate.Rate.TheVariants.{Double, High, HighAt360, Single, SingleAt360}
use Rattle.ibm_disks.specs.declared.track_numbers.TrackNumbers.{TrackNumbers}
use Rattle.ibm_disks.specs.lemmas.DiskLaws.{all_have_disks}
use Rattle.ibm_walks.specs.Walks.{AreNamesBy}
use Rattle.imd_image.specs.Found.{IsFoundOf, TrackFound, sectors_in}
use Rattle.imd_image.specs.Streams.{AreNamesIn, AreNamesUnless, readings_of}
use Rattle.imd_records.specs.Choices.{AreInOrder, LiesBefore, is_kind, has_whole, is_in, same_kind, weight, weight_of}
use Rattle.imd_records.specs.declared.mode.Mode.{Mode}
use Rattle.imd_records.specs.declared.mode.Mode.TheVariants.{Mfm500}
use Rattle.kryo_stream.specs.Stream.{indexes}
use Rattle.law_captured_disks.specs.Headline.{IsSectorOf}
use Rattle.law_imd_files.proofs.Books.{held_from, once_told, told_from, agreed_is, data_held, met_from, met_once, name_told, same_itself}
use Rattle.law_imd_files.proofs.Joined.{Hold, joined_hold}
use Rattle.law_imd_files.proofs.Lists.{both, element_at, from_range, pairs_cons, any_has, count_has, counted_from, differ, few_apart}
use Rattle.law_imd_files.proofs.Records.{data_are, first_is, header_is, is_mode, one_mode}
use Rattle.law_imd_files.specs.Headline.{AllCapture, HasSectorOf, IsCaptured, IsOfTrack, IsTrackOf, mode_of, NoOtherIsWhole}
use Rattle.law_imd_tracks.specs.Headline.{AreDataOn, CapturedTracksHaveOwnNames, IsNameOn, held_on, name_on}
use Rattle.law_imd_tracks.specs.lemmas.Elements.{map_from, map_has}
use Rattle.name_book.specs.Book.{NamesKnown, told_at}
use Rattle.name_book.specs.Names.{NameTold, NotedData, held_of, is_before, MOST_NAMES, has_more, names_met, same_sector, told_of}
use Rattle.name_book.specs.declared.name.NamedHeader.{NamedHeader}
use Rattle.name_book.specs.declared.name.NameKind.TheVariants.{Bare, Bad, Whole}
use Rattle.name_book.specs.declared.name.SectorName.{SectorName}
use Rattle.name_book.specs.declared.name.SectorPlace.{SectorPlace}
use Rattle.name_book.specs.declared.name.SectorPlace.TheVariants.{Behind, Early}
use Rattle.sector_images.specs.Places.{tracks}
use Rattle.sector_images.specs.declared.format.Format.TheVariants.{Numbered}
use Rattle.turn_merge.specs.declared.clock.Clock.{Clock}

same_rate : (a b : Rate) → (a ≡ b) ⊎ (a ≡ b → ⊥)
same_rate Double Double = inl refl
same_rate Double High = inr (λ e. cc)
same_rate Double HighAt360 = inr (λ e. cc)
same_rate Double Single = inr (λ e. cc)
same_rate Double SingleAt360 = inr (λ e. cc)
same_rate High Double = inr (λ e. cc)
same_rate High High = inl refl
same_rate High HighAt360 = inr (λ e. cc)
same_rate High Single = inr (λ e. cc)
same_rate High SingleAt360 = inr (λ e. cc)
same_rate HighAt360 Double = inr (λ e. cc)
same_rate HighAt360 High = inr (λ e. cc)
same_rate HighAt360 HighAt360 = inl refl
same_rate HighAt360 Single = inr (λ e. cc)
same_rate HighAt360 SingleAt360 = inr (λ e. cc)
same_rate Single Double = inr (λ e. cc)
same_rate Single High = inr (λ e. cc)
same_rate Single HighAt360 = inr (λ e. cc)
same_rate Single Single = inl refl
same_rate Single SingleAt360 = inr (λ e. cc)
same_rate SingleAt360 Double = inr (λ e. cc)
same_rate SingleAt360 High = inr (λ e. cc)
same_rate SingleAt360 HighAt360 = inr (λ e. cc)
same_rate SingleAt360 Single = inr (λ e. cc)
same_rate SingleAt360 SingleAt360 = inl refl

-- modes but high density have one rate
pub one_rate : (r rate : Rate) (clock : Clock) → (mode_of r ≡ Mfm500 → ⊥) → Contains (readings_of (mode_of r)) (rate, clock) → rate ≡ r
one_rate Double rate clock other (zero, low, same) = ap (λ (p : Rate × Clock). p.0) (sym same)
one_rate Double rate clock other (suc zero, low, same) = ap (λ (p : Rate × Clock). p.0) (sym same)
one_rate Double rate clock other (suc (suc k), low, same) = absurd (omega (arith, low))
one_rate Single rate clock other (zero, low, same) = ap (λ (p : Rate × Clock). p.0) (sym same)
one_rate Single rate clock other (suc zero, low, same) = ap (λ (p : Rate × Clock). p.0) (sym same)
one_rate Single rate clock other (suc (suc k), low, same) = absurd (omega (arith, low))
one_rate SingleAt360 rate clock other (zero, low, same) = ap (λ (p : Rate × Clock). p.0) (sym same)
one_rate SingleAt360 rate clock other (suc zero, low, same) = ap (λ (p : Rate × Clock). p.0) (sym same)
one_rate SingleAt360 rate clock other (suc (suc k), low, same) = absurd (omega (arith, low))
one_rate High rate clock other has = absurd (other refl)
one_rate HighAt360 rate clock other has = absurd (other refl)

-- nothing lies before itself
before_itself : (place : SectorPlace) → is_before place place ≡ true → ⊥
before_itself (Behind ticks) is = let low = ltb-true ticks ticks is in omega (arith, low)
before_itself (Early time) is = let low = ltb-true time time is in omega (arith, low)

lies_itself : (known : NamesKnown) (a : ℕ) → LiesBefore known a a → ⊥
lies_itself known a (inl is) = before_itself (told_at known a).place is
lies_itself known a (inr (_, low)) = omega (arith, low)

in_pairs : (known : NamesKnown) (rows : List ℕ) → AreInOrder known rows → AllPairs (LiesBefore known) rows
in_pairs known [] order = λ i j d below low. absurd (omega (arith, low))
in_pairs known (row ∷ rows) order = pairs_cons (LiesBefore known) row rows order.0 (in_pairs known rows order.1)

-- a track has fewer sectors than a record may have
few_by : (before around bytes : ℕ) (t : TrackNumbers) → 128 ≤ bytes → (t.first_sector + t.sectors ≤ 256) × (before + t.sectors * (around + bytes + t.sector_gap) < 16384)
    → t.sectors ≤ MOST_NAMES
few_by before around bytes t wide fills = by (cases_lt t.sectors 256)
  where
    few : t.first_sector + t.sectors ≤ 256
    few = fills.0

    within : before + t.sectors * (around + bytes + t.sector_gap) < 16384
    within = fills.1

    by : (t.sectors < 256) ⊎ (256 ≤ t.sectors) → t.sectors ≤ MOST_NAMES
    by (inl low) = omega (arith, low)
    by (inr high) =
        let all : 256 ≡ t.sectors = omega (arith, high, few) in
        let long = subst (λ (k : ℕ). before + k * (around + bytes + t.sector_gap) < 16384) (sym all) within in
        absurd (omega (arith, long, wide))

wide_is : (size : SectorSize) → 128 ≤ size_of size
wide_is Bytes128 = omega arith
wide_is Bytes256 = omega arith
wide_is Bytes512 = omega arith
wide_is Bytes1024 = omega arith

few_sectors : (density : Density) (t : TrackNumbers) → FillAt density t → t.sectors ≤ MOST_NAMES
few_sectors SingleDensity t fills =
    let within = fills.within in
    let short = fills.short in
    few_by (fm_before t.lead_in) FM_AROUND (size_of t.size) t (wide_is t.size) (fills.few, omega (arith, within, short))
few_sectors DoubleDensity t fills =
    let within = fills.within in
    let short = fills.short in
    few_by (mfm_before t.lead_in) (mfm_around t.lead_in) (size_of t.size) t (wide_is t.size) (fills.few, omega (arith, within, short))

-- a name that is told whole is of that kind, and none that is not
whole_is : (told : NameTold) → told.whole ≡ true → is_kind Whole told ≡ true
whole_is told whole = ap (λ (b : Bool). same_kind Whole (if b then Whole else (if told.opens then Bad else Bare))) whole

not_bare : (told : NameTold) → told.whole ≡ true → is_kind Bare told ≡ false
not_bare told whole = ap (λ (b : Bool). same_kind Bare (if b then Whole else (if told.opens then Bad else Bare))) whole

is_whole : (told : NameTold) → is_kind Whole told ≡ true → told.whole ≡ true
is_whole told is = by told.whole told.opens is
  where
    by : (whole opens : Bool) → same_kind Whole (if whole then Whole else (if opens then Bad else Bare)) ≡ true → whole ≡ true
    by true opens is = refl
    by false true is = absurd (differ is)
    by false false is = absurd (differ is)

-- a weight is there
weight_is : (size : SectorSize) (count : ℕ) → 1 ≤ count → 1 ≤ count * 2 ^ code_of size
weight_is Bytes128 count some = omega (arith, some)
weight_is Bytes256 count some = omega (arith, some)
weight_is Bytes512 count some = omega (arith, some)
weight_is Bytes1024 count some = omega (arith, some)

counts : (count unit : ℕ) → 1 ≤ count * unit → 1 ≤ count
counts zero unit some = absurd (omega (arith, some))
counts (suc count) unit some = omega arith

same_mode : (a b : Mode) → (a ≡ b) ⊎ (a ≡ b → ⊥)
same_mode a b = by (nat_eq (number_of a) (number_of b)) refl
  where
    by : (is : Bool) → nat_eq (number_of a) (number_of b) ≡ is → (a ≡ b) ⊎ (a ≡ b → ⊥)
    by true is = inl (one_mode a b is)
    by false is = inr (λ same. differ (sym is ∙ subst (λ (m : Mode). nat_eq (number_of a) (number_of m) ≡ true) same (eq-eqb (number_of a) (number_of a) refl)))

all_true : {a b : Bool} → a ≡ true → b ≡ true → (a && b) ≡ true
all_true {a} {b} first second = ap (λ (c : Bool). c && b) first ∙ second

code_low : (size : SectorSize) → code_of size < 4
code_low Bytes128 = omega arith
code_low Bytes256 = omega arith
code_low Bytes512 = omega arith
code_low Bytes1024 = omega arith

-- where all streams capture the track, and no other mode has whole data
module _ (law : CapturedTracksHaveOwnNames) (disk : IbmDisk) (image : List ℕ) (n : ℕ) (track : TrackId) (streams : List Seen) (found : TrackFound)
    (is : IsImage (Numbered disk) image) (on : n < length (tracks (Numbered disk))) (are : IsFoundOf track streams found) (some : 0 < length streams)
    (all : AllCapture disk image n streams) (others : NoOtherIsWhole disk found) where
  abbrev mode : Mode
  mode = mode_of (rate_of disk)

  abbrev Named : NamedHeader → Type 0
  Named h = IsNameOn disk n h.name

  abbrev Held : NotedData → Type 0
  Held d = AreDataOn disk image n d

  -- by one reading of a stream
  by_reading : (dump : ℕ) → dump < length streams → (reading : Rate × Clock) (its : List NamedHeader) (held : List NotedData) → Contains (readings_of mode) reading
      → AreNamesBy reading.1 reading.0 dump (seen_at streams dump).times (seen_at streams dump).indexes its held
      → Hold (λ (r : Rate × Clock). AreNamesBy r.1 r.0 dump (seen_at streams dump).times (seen_at streams dump).indexes) Named Held its held
  by_reading dump low (rate, clock) its held has said = by (same_rate rate (rate_of disk))
    where
      seen : Seen
      seen = seen_at streams dump

      captured : IsCaptured disk image n (seen_at streams dump)
      captured = (all dump low).0

      by : (rate ≡ rate_of disk) ⊎ (rate ≡ rate_of disk → ⊥)
          → Hold (λ (r : Rate × Clock). AreNamesBy r.1 r.0 dump (seen_at streams dump).times (seen_at streams dump).indexes) Named Held its held
      by (inl same) =
          let own = law clock disk image captured.stream n dump its held is on captured.capture captured.steady
          (subst (λ (ts : List ℕ). AreNamesBy clock (rate_of disk) dump ts (indexes captured.stream) its held) captured.times_are
          (subst (λ (is_ : List ℕ). AreNamesBy clock (rate_of disk) dump (seen_at streams dump).times is_ its held) captured.indexes_are
          (subst (λ (r : Rate). AreNamesBy clock r dump (seen_at streams dump).times (seen_at streams dump).indexes its held) same said))) in
          record { all = own.names; each = own.held }
      by (inr apart) = let own = (all dump low).1 rate clock its held has apart said in record { all = own.names; each = own.held }

  -- by all readings of a stream
  by_stream : (dump : ℕ) (its : List NamedHeader) (held : List NotedData) → Contains (range_with_len 0 (length streams)) dump
      → AreNamesIn mode (seen_at streams dump) dump its held → Hold (λ (d : ℕ). AreNamesIn mode (seen_at streams d) d) Named Held its held
  by_stream dump its held has said =
      let low = from_range (length streams) dump has in
      let both_are = joined_hold (λ (r : Rate × Clock). AreNamesBy r.1 r.0 dump (seen_at streams dump).times (seen_at streams dump).indexes) Named Held (readings_of mode) its held
      (subst (λ (p : Option _). AreNamesUnless p mode dump (seen_at streams dump).times (seen_at streams dump).indexes its held) (all dump low).0.is_read said)
      (λ reading ones its_held there are_by. by_reading dump low reading ones its_held there are_by) in
      record { all = both_are.all; each = both_are.each }

  abbrev headers : List NamedHeader
  headers = (are.names mode).headers

  abbrev noted : List NotedData
  noted = (are.names mode).«data»

  own_all : Hold (λ (d : ℕ). AreNamesIn mode (seen_at streams d) d) Named Held headers noted
  own_all = joined_hold (λ (d : ℕ). AreNamesIn mode (seen_at streams d) d) Named Held (range_with_len 0 (length streams)) headers noted (are.names mode).are by_stream

  first : IsSectorOf (Numbered disk) n (track_of_disk disk).first_sector
  first = first_is disk n on

  -- the names are no more than the track's sectors
  abbrev known : NamesKnown
  known = found.names (mode_of (rate_of disk))

  met_own : (name : SectorName) → Contains (names_met headers) name → IsNameOn disk n name
  met_own name has = let header = met_from headers name has in subst (λ (k : SectorName). IsNameOn disk n k) header.2 (own_all.all header.0 header.1)

  few_names : length (names_met headers) ≤ (track_of_disk disk).sectors
  few_names =
      let few = few_apart (track_of_disk disk).sectors (track_of_disk disk).first_sector (map (λ (k : SectorName). k.number) (names_met headers)) apart within in
      let long = length-map (names_met headers) (λ (k : SectorName). k.number) in
      omega (arith, few, long)
    where
      no_name : SectorName
      no_name = record { cylinder = 0; head = 0; number = 0; code = 0 }

      at : ℕ → SectorName
      at k = slice_index_or (names_met (are.names (mode_of (rate_of disk))).headers) k no_name

      long : length (map (λ (k : SectorName). k.number) (names_met (are.names (mode_of (rate_of disk))).headers)) ≡ length (names_met (are.names (mode_of (rate_of disk))).headers)
      long = length-map (names_met (are.names (mode_of (rate_of disk))).headers) (λ (k : SectorName). k.number)

      number_at : (k d : ℕ) → k < length (names_met (are.names (mode_of (rate_of disk))).headers)
          → slice_index_or (map (λ (name : SectorName). name.number) (names_met (are.names (mode_of (rate_of disk))).headers)) k d ≡ (at k).number
      number_at k d low = get_or-map (λ (name : SectorName). name.number) (names_met (are.names (mode_of (rate_of disk))).headers) k no_name d low

      named : (k : ℕ) → k < length (names_met (are.names (mode_of (rate_of disk))).headers) → IsNameOn disk n (at k)
      named k low = met_own (at k) (element_at (names_met (are.names (mode_of (rate_of disk))).headers) k no_name low)

      apart : AllPairs (λ a b. a ≡ b → ⊥) (map (λ (k : SectorName). k.number) (names_met (are.names (mode_of (rate_of disk))).headers))
      apart i j d below low = λ same.
          let high : j < length (names_met (are.names (mode_of (rate_of disk))).headers) = omega (arith, low, long) in
          let short : i < length (names_met (are.names (mode_of (rate_of disk))).headers) = omega (arith, below, high) in
          let numbers : (at i).number ≡ (at j).number = sym (number_at i d short) ∙ same ∙ number_at j d high in
          let a = named i short in
          let b = named j high in
          let sectors : a.sector ≡ b.sector = ap (λ (k : SectorName). k.number) (sym a.is) ∙ numbers ∙ ap (λ (k : SectorName). k.number) b.is in
          met_once (are.names (mode_of (rate_of disk))).headers i j no_name below high
          (a.is ∙ ap (name_on disk (track_at (Numbered disk) n)) sectors ∙ sym b.is)

      within : (x : ℕ) → Contains (map (λ (k : SectorName). k.number) (names_met (are.names (mode_of (rate_of disk))).headers)) x
          → ((track_of_disk disk).first_sector ≤ x) × (x < (track_of_disk disk).first_sector + (track_of_disk disk).sectors)
      within x has =
          let name = map_from (λ (k : SectorName). k.number) (names_met (are.names (mode_of (rate_of disk))).headers) x has in
          let its = met_own name.0 name.1 in
          subst (λ (k : ℕ). ((track_of_disk disk).first_sector ≤ k) × (k < (track_of_disk disk).first_sector + (track_of_disk disk).sectors))
          (sym (ap (λ (k : SectorName). k.number) its.is) ∙ name.2) its.known.known

  none_more : known.more ≡ false
  none_more = by (has_more headers) refl
    where
      by : (b : Bool) → has_more (are.names (mode_of (rate_of disk))).headers ≡ b → (found.names (mode_of (rate_of disk))).more ≡ false
      by false is = (are.names (mode_of (rate_of disk))).stand.more ∙ is
      by true is =
          let many = ltb-true MOST_NAMES (length (names_met (are.names (mode_of (rate_of disk))).headers)) is in
          let least = few_sectors (density_of (rate_of disk)) (track_of_disk disk) (all_have_disks disk).fills.0 in
          let few = few_names in
          absurd (omega (arith, many, least, few))

  -- a sector as it is told: whole, and with the image's bytes
  record ToldOf (sector : ℕ) : Type 0 where
    told : NameTold
    there : Contains (found.names (mode_of (rate_of disk))).told told
    name : told.name ≡ name_on disk (track_at (Numbered disk) n) sector
    whole : told.whole ≡ true
    agreed : told.agreed ≡ Some (held_on disk image n sector)

  is_told : (sector : ℕ) → IsSectorOf (Numbered disk) n sector → ToldOf sector
  is_told sector one =
      let header = header_is law disk image n 0 track streams found is on are some (all 0 some).0 sector one in
      let d = data_are law disk image n 0 track streams found is on are some (all 0 some).0 sector one in
      let same : d.0.name ≡ header.0.name = d.2 ∙ sym header.2 in
      let held = subst (λ (ys : List ℕ). Contains (held_of header.0.name noted) ys) d.3 (subst (λ (k : SectorName). Contains (held_of k noted) d.0.held) same (data_held noted d.0 d.1)) in
      record {
        told = told_of headers noted header.0.name;
        there = name_told known headers noted (are.names mode).stand none_more header.0 header.1;
        name = header.2;
        whole = any_has (λ (e : NotedData). same_sector header.0.name e.name) noted d.0 d.1
            (subst (λ (k : SectorName). same_sector header.0.name k ≡ true) (sym same) (same_itself header.0.name));
        agreed = agreed_is (held_of header.0.name noted) (held_on disk image n sector) held (λ ys has. held_by header.0.name sector header.2 ys (held_from header.0.name noted ys has));
      }
    where
      held_by : (name : SectorName) (sector : ℕ) → name ≡ name_on disk (track_at (Numbered disk) n) sector → (ys : List ℕ)
          → (d : NotedData) × Contains (are.names (mode_of (rate_of disk))).«data» d × (d.name ≡ name) × (d.held ≡ ys) → ys ≡ held_on disk image n sector
      held_by name sector is_name ys (d, has, named, holds) =
          let its = own_all.each d has in
          sym holds ∙ its.held ∙ ap (λ (k : SectorName). held_on disk image n k.number) (sym its.name.is ∙ named ∙ is_name)

  -- so the disk's mode and size have the most
  a_told : ToldOf (track_of_disk disk).first_sector
  a_told = is_told (track_of_disk disk).first_sector first

  abbrev ours : Choice
  ours = record { mode = mode_of (rate_of disk); code = code_of (track_of_disk disk).size }

  is_weighed : has_whole found.names ≡ true
  is_weighed =
      any_has (λ (m : Mode). list_any (is_kind Whole) (found.names m).told) modes mode (is_mode mode)
      (any_has (is_kind Whole) known.told a_told.told a_told.there (whole_is a_told.told a_told.whole))

  abbrev is_of : (code : ℕ) → NameTold → Bool
  is_of code told = nat_eq told.name.code code && is_kind Whole told

  weight_whole : (c : Choice) → weight found.names c ≡ weight_of Whole (found.names c.mode) c.code
  weight_whole c = ap (λ (b : Bool). weight_of (if b then Whole else Bad) (found.names c.mode) c.code) is_weighed

  its_weight : 1 ≤ weight found.names found.choice
  its_weight =
      let kind : is_of (code_of (track_of_disk disk).size) a_told.told ≡ true =
      all_true (eq-eqb a_told.told.name.code (code_of (track_of_disk disk).size) (ap (λ (k : SectorName). k.code) a_told.name)) (whole_is a_told.told a_told.whole) in
      let count = count_has (is_of (code_of (track_of_disk disk).size)) known.told a_told.told a_told.there kind in
      let heavy = subst (λ (w : ℕ). 1 ≤ w) (sym (weight_whole ours)) (weight_is (track_of_disk disk).size (count_by (is_of (code_of (track_of_disk disk).size)) known.told) count) in
      let most = are.chosen.most ours (code_low (track_of_disk disk).size) in
      omega (arith, heavy, most)

  a_chosen : (told : NameTold) × Contains (found.names found.choice.mode).told told × (is_of found.choice.code told ≡ true)
  a_chosen =
      counted_from (is_of found.choice.code) (found.names found.choice.mode).told
      (counts (count_by (is_of found.choice.code) (found.names found.choice.mode).told) (2 ^ found.choice.code) (subst (λ (w : ℕ). 1 ≤ w) (weight_whole found.choice) its_weight))

  mode_is : mode_of (rate_of disk) ≡ found.choice.mode
  mode_is = by (same_mode found.choice.mode (mode_of (rate_of disk)))
    where
      by : (found.choice.mode ≡ mode_of (rate_of disk)) ⊎ (found.choice.mode ≡ mode_of (rate_of disk) → ⊥) → mode_of (rate_of disk) ≡ found.choice.mode
      by (inl same) = sym same
      by (inr apart) =
          let kind = both (nat_eq a_chosen.0.name.code found.choice.code) (is_kind Whole a_chosen.0) a_chosen.2 in
          absurd (differ (sym (others found.choice.mode apart a_chosen.0 a_chosen.1) ∙ is_whole a_chosen.0 kind.1))

  own_name : (told : NameTold) → Contains (found.names found.choice.mode).told told → IsNameOn disk n told.name
  own_name told has =
      let here = subst (λ (m : Mode). Contains (found.names m).told told) (sym mode_is) has in
      let header = told_from known headers noted (are.names mode).stand none_more told here in
      subst (λ (t : NameTold). IsNameOn disk n t.name) header.2 (own_all.all header.0 header.1)

  code_is : found.choice.code ≡ code_of (track_of_disk disk).size
  code_is =
      let kind = both (nat_eq a_chosen.0.name.code found.choice.code) (is_kind Whole a_chosen.0) a_chosen.2 in
      let its = own_name a_chosen.0 a_chosen.1 in
      sym (eqb-true a_chosen.0.name.code found.choice.code kind.0) ∙ ap (λ (k : SectorName). k.code) its.is

  each_is : (sector : ℕ) → IsSectorOf (Numbered disk) n sector → HasSectorOf disk image n sector (sectors_in found)
  each_is sector one =
      let its = is_told sector one in
      let there = subst (λ (m : Mode). Contains (found.names m).told its.told) mode_is its.there in
      let here : told_at (found.names found.choice.mode) there.0 ≡ its.told = get_or_default (found.names found.choice.mode).told there.0 _ its.told there.1 ∙ there.2 in
      let kind = all_true (eq-eqb its.told.name.code found.choice.code (ap (λ (k : SectorName). k.code) its.name ∙ sym code_is)) (ap not (not_bare its.told its.whole)) in
      let row = (are.rows.each there.0).1 (there.1, subst (λ (t : NameTold). is_in found.choice.code t ≡ true) (sym here) kind) in
      record {
        told = its.told;
        there = subst (λ (t : NameTold). Contains (sectors_in found) t) here (map_has (told_at (found.names found.choice.mode)) found.rows there.0 row);
        name = its.name;
        agreed = its.agreed;
      }

  -- a sector of the record has a row of the record's size
  row_of : (told : NameTold) → Contains (sectors_in found) told
      → (row : ℕ) × (row < length (found.names found.choice.mode).told) × (told.name.code ≡ found.choice.code) × (told_at (found.names found.choice.mode) row ≡ told)
  row_of told has =
      let its = map_from (told_at (found.names found.choice.mode)) found.rows told has in
      let row = (are.rows.each its.0).0 its.1 in
      let sized = both (nat_eq (told_at (found.names found.choice.mode) its.0).name.code found.choice.code) (not (is_kind Bare (told_at (found.names found.choice.mode) its.0))) row.1 in
      (its.0, row.0, ap (λ (t : NameTold). t.name.code) (sym its.2) ∙ eqb-true _ _ sized.0, its.2)

  only_is : (told : NameTold) → Contains (sectors_in found) told → IsOfTrack disk image n told
  only_is told has =
      let row = row_of told has in
      let there : Contains (found.names found.choice.mode).told told = (row.0, row.1, get_or_default (found.names found.choice.mode).told row.0 told _ row.1 ∙ row.3) in
      let here = subst (λ (m : Mode). Contains (found.names m).told told) (sym mode_is) there in
      let name = own_name told there in
      let its = is_told name.sector name.known in
      record { name = name; agreed = agreed_with told its.told here its.there (name.is ∙ sym its.name) ∙ its.agreed }
    where
      own_told : (t : NameTold) → Contains (found.names (mode_of (rate_of disk))).told t
          → told_of (are.names (mode_of (rate_of disk))).headers (are.names (mode_of (rate_of disk))).«data» t.name ≡ t
      own_told t there =
          let header = told_from (found.names (mode_of (rate_of disk))) (are.names (mode_of (rate_of disk))).headers (are.names (mode_of (rate_of disk))).«data»
          (are.names (mode_of (rate_of disk))).stand none_more t there in
          subst (λ (u : NameTold). told_of (are.names (mode_of (rate_of disk))).headers (are.names (mode_of (rate_of disk))).«data» u.name ≡ u) header.2 refl

      agreed_with : (t u : NameTold) → Contains (found.names (mode_of (rate_of disk))).told t → Contains (found.names (mode_of (rate_of disk))).told u → t.name ≡ u.name
          → t.agreed ≡ u.agreed
      agreed_with t u t_there u_there same =
          ap (λ (v : NameTold). v.agreed) (sym (own_told t t_there) ∙ ap (told_of (are.names (mode_of (rate_of disk))).headers (are.names (mode_of (rate_of disk))).«data») same ∙ own_told u u_there)

  once_is : AllPairs (λ (a b : NameTold). a.name ≡ b.name → ⊥) (sectors_in found)
  once_is i j d below low = λ same. lies_itself here (row_at i) (subst (λ (k : ℕ). LiesBefore here (row_at i) k) (sym (one same)) (in_pairs here found.rows are.rows.order i j 0 below low_j))
    where
      here : NamesKnown
      here = found.names found.choice.mode

      long : length (sectors_in found) ≡ length found.rows
      long = length-map found.rows (told_at (found.names found.choice.mode))

      low_j : j < length found.rows
      low_j = omega (arith, low, long)

      low_i : i < length found.rows
      low_i = omega (arith, low, long, below)

      row_at : ℕ → ℕ
      row_at k = slice_index_or found.rows k 0

      is_row : (k : ℕ) → k < length found.rows → slice_index_or (sectors_in found) k d ≡ told_at (found.names found.choice.mode) (slice_index_or found.rows k 0)
      is_row k low_k = get_or-map (told_at (found.names found.choice.mode)) found.rows k 0 d low_k

      known_row : (k : ℕ) → k < length found.rows → slice_index_or found.rows k 0 < length (found.names found.choice.mode).told
      known_row k low_k = ((are.rows.each (slice_index_or found.rows k 0)).0 (element_at found.rows k 0 low_k)).0

      one : (slice_index_or (sectors_in found) i d).name ≡ (slice_index_or (sectors_in found) j d).name → slice_index_or found.rows i 0 ≡ slice_index_or found.rows j 0
      one same =
          once_told (found.names found.choice.mode) (are.names found.choice.mode).headers (are.names found.choice.mode).«data» (are.names found.choice.mode).stand
          (subst (λ (m : Mode). (found.names m).more ≡ false) mode_is none_more) (slice_index_or found.rows i 0) (slice_index_or found.rows j 0) (known_row i low_i) (known_row j low_j)
          (ap (λ (t : NameTold). t.name) (sym (is_row i low_i)) ∙ same ∙ ap (λ (t : NameTold). t.name) (is_row j low_j))

  pub is_track : IsTrackOf disk image n found
  is_track = record { mode = sym mode_is; code = code_is; each = each_is; only = only_is; once = once_is }
