-- What was found of a track, of which nothing is left out and all is good.
use Rattle.ibm_disks.specs.lemmas.DiskLaws.{all_have_disks}
use Rattle.ibm_disks.specs.declared.track_numbers.TrackNumbers.{TrackNumbers}
use Rattle.ibm_disks.specs.declared.rate.Density.TheVariants.{Single as SingleDensity}
use Rattle.ibm_disks.specs.declared.rate.Density.TheVariants.{Double as DoubleDensity}
use Rattle.ibm_disks.specs.declared.rate.Density.{Density}
use Rattle.ibm_disks.specs.GapPlans.{FillAt, density_of}
use Rattle.std.proofs.Common.{◌≡◌, ◌<◌, ◌∙◌, ◌+◌, ℕ, Bool, true, false, cond, not, List, [], length, nat_eq, Option, Some, ap, refl, sym, subst, arith, ◌≤◌}
use Rattle.std.specs.Prelude.{Contains, count_by}
use Rattle.std.specs.List.{list_any, range_with_len}
use Rattle.std.proofs.lemmas.Bool.{eqb-true}
use Rattle.std.proofs.lemmas.List.{get_or_default}
use Rattle.flux_base.specs.declared.track.TrackId.{TrackId}
use Rattle.flux_engine.specs.LoopProgress.{seen_at}
use Rattle.flux_engine.specs.Plans.{Seen}
use Rattle.flux_engine.specs.Recordings.{track_at}
use Rattle.flux_engine.specs.Rings.{IsImage}
use Rattle.ibm_disks.specs.Disks.{rate_of, track_of_disk}
use Rattle.ibm_disks.specs.declared.disk.IbmDisk.{IbmDisk}
use Rattle.ibm_disks.specs.declared.rate.Rate.{Rate}
use Rattle.ibm_disks.specs.declared.rate.Rate.TheVariants.{Double, High, HighAt360, Single, SingleAt360}
use Rattle.ibm_walks.specs.Walks.{AreNamesBy}
use Rattle.imd_image.specs.Found.{IsFoundOf, TrackFound, sectors_in}
use Rattle.imd_image.specs.Streams.{AreNamesIn, AreNamesUnless, readings_of}
use Rattle.imd_image.specs.Totals.{is_out, left_count, left_in, rows_of}
use Rattle.imd_records.specs.Modes.{modes, number_of}
use Rattle.imd_records.specs.declared.mode.Mode.{Mode}
use Rattle.imd_records.specs.declared.mode.Mode.TheVariants.{Fm250, Fm500, Mfm250, Mfm500}
use Rattle.kryo_stream.specs.Stream.{indexes}
use Rattle.law_captured_disks.specs.Headline.{IsSectorOf}
use Rattle.law_imd_files.proofs.Books.{all_agree, data_held, name_told}
use Rattle.law_imd_files.proofs.Joined.{IsPart, joined_has}
use Rattle.law_imd_files.proofs.Lists.{any_passes, in_range, none_counted, none_summed}
use Rattle.law_imd_files.specs.Headline.{HasSectorOf, IsCaptured, mode_of, NoOtherIsWhole}
use Rattle.law_imd_tracks.specs.Headline.{AreOfTrack, CapturedTracksHaveOwnNames, held_on, name_on}
use Rattle.law_imd_tracks.specs.lemmas.Elements.{map_has}
use Rattle.name_book.specs.Book.{NamesKnown, is_good, told_at}
use Rattle.name_book.specs.Names.{NameTold, NotedData, held_of, told_of}
use Rattle.name_book.specs.declared.name.NamedHeader.{NamedHeader}
use Rattle.name_book.specs.declared.name.SectorName.{SectorName}
use Rattle.sector_images.specs.Places.{tracks}
use Rattle.sector_images.specs.declared.format.Format.TheVariants.{Numbered}
use Rattle.turn_merge.specs.declared.clock.Clock.{Clock}
use Rattle.turn_merge.specs.declared.clock.Clock.TheVariants.{Following}

-- it is read by that rate
is_read : (rate : Rate) → Contains (readings_of (mode_of rate)) (rate, Following)
is_read Double = (0, omega arith, refl)
is_read High = (0, omega arith, refl)
is_read HighAt360 = (2, omega arith, refl)
is_read Single = (0, omega arith, refl)
is_read SingleAt360 = (0, omega arith, refl)

pub is_mode : (mode : Mode) → Contains modes mode
is_mode Mfm250 = (0, omega arith, refl)
is_mode Mfm500 = (1, omega arith, refl)
is_mode Fm250 = (2, omega arith, refl)
is_mode Fm500 = (3, omega arith, refl)

-- modes of one number are one
pub one_mode : (a b : Mode) → nat_eq (number_of a) (number_of b) ≡ true → a ≡ b
one_mode Mfm250 Mfm250 is = refl
one_mode Mfm500 Mfm500 is = refl
one_mode Fm250 Fm250 is = refl
one_mode Fm500 Fm500 is = refl
one_mode Mfm250 Mfm500 is = absurd (cc)
one_mode Mfm250 Fm250 is = absurd (cc)
one_mode Mfm250 Fm500 is = absurd (cc)
one_mode Mfm500 Mfm250 is = absurd (cc)
one_mode Mfm500 Fm250 is = absurd (cc)
one_mode Mfm500 Fm500 is = absurd (cc)
one_mode Fm250 Mfm250 is = absurd (cc)
one_mode Fm250 Mfm500 is = absurd (cc)
one_mode Fm250 Fm500 is = absurd (cc)
one_mode Fm500 Mfm250 is = absurd (cc)
one_mode Fm500 Mfm500 is = absurd (cc)
one_mode Fm500 Fm250 is = absurd (cc)

-- where no name is left out, each of each mode stands in the record
module _ (found : TrackFound) (none : left_in found ≡ 0) (mode : Mode) where
  abbrev known : NamesKnown
  known = found.names mode

  none_left : left_count known (rows_of found mode) ≡ 0
  none_left = none_summed (λ (m : Mode). left_count (found.names m) (rows_of found m)) modes mode none (is_mode mode)

  pub no_more : known.more ≡ false
  no_more = by known.more none_left
    where
      by : (b : Bool) → count_by (is_out (rows_of found mode)) (range_with_len 0 (length known.told)) + cond b 1 0 ≡ 0 → b ≡ false
      by false sum = refl
      by true sum = absurd (omega (arith, sum))

  is_row : (number : ℕ) → number < length known.told → list_any (nat_eq number) (rows_of found mode) ≡ true
  is_row number low =
      by (list_any (nat_eq number) (rows_of found mode))
      (none_counted (is_out (rows_of found mode)) (range_with_len 0 (length known.told)) number (omega (arith, none_left)) (in_range (length known.told) number low))
    where
      by : (b : Bool) → not b ≡ false → b ≡ true
      by true is = refl
      by false is = absurd (cc)

  pub in_record : (number : ℕ) → number < length known.told → (mode ≡ found.choice.mode) × Contains found.rows number
  in_record number low = by (nat_eq (number_of mode) (number_of found.choice.mode)) refl (is_row number low)
    where
      by : (b : Bool) → nat_eq (number_of mode) (number_of found.choice.mode) ≡ b → list_any (nat_eq number) (cond b found.rows []) ≡ true
          → (mode ≡ found.choice.mode) × Contains found.rows number
      by true same is =
          let row = any_passes (nat_eq number) found.rows is in (
            one_mode mode found.choice.mode same,
            subst (λ (k : ℕ). Contains found.rows k) (sym (eqb-true number row.0 row.2)) row.1,
          )
      by false same is = absurd (cc)

  pub told_in_record : (told : NameTold) → Contains known.told told → Contains (sectors_in found) told
  told_in_record told has =
      let there = in_record has.0 has.1 in
      let here : told_at known has.0 ≡ told = get_or_default known.told has.0 _ told has.1 ∙ has.2 in
      subst (λ (t : NameTold). Contains (sectors_in found) t) here
      (subst (λ (m : Mode). Contains (sectors_in found) (told_at (found.names m) has.0)) (sym there.0)
      (map_has (told_at (found.names found.choice.mode)) found.rows has.0 there.1))

-- a track has a sector
some_sectors : (density : Density) (t : TrackNumbers) → FillAt density t → 1 ≤ t.sectors
some_sectors SingleDensity t fills = fills.some
some_sectors DoubleDensity t fills = fills.some

pub first_is : (disk : IbmDisk) (n : ℕ) → n < length (tracks (Numbered disk)) → IsSectorOf (Numbered disk) n (track_of_disk disk).first_sector
first_is disk n on =
    let some = some_sectors (density_of (rate_of disk)) (track_of_disk disk) (all_have_disks disk).fills.0 in
    record { track = on; known = (omega arith, omega (arith, some)) }

-- a stream that captures a track names and holds each of its sectors
module _ (law : CapturedTracksHaveOwnNames) (disk : IbmDisk) (image : List ℕ) (n dump : ℕ) (track : TrackId) (streams : List Seen) (found : TrackFound)
    (is : IsImage (Numbered disk) image) (on : n < length (tracks (Numbered disk))) (are : IsFoundOf track streams found) (low : dump < length streams)
    (captured : IsCaptured disk image n (seen_at streams dump)) where
  abbrev mode : Mode
  mode = mode_of (rate_of disk)

  abbrev seen : Seen
  seen = seen_at streams dump

  abbrev By : Rate × Clock → List NamedHeader → List NotedData → Type 0
  By reading = AreNamesBy reading.1 reading.0 dump seen.times seen.indexes

  of_dump : IsPart (λ (d : ℕ). AreNamesIn mode (seen_at streams d) d) dump (are.names mode).headers (are.names mode).«data»
  of_dump =
      joined_has (λ (d : ℕ). AreNamesIn mode (seen_at streams d) d) (range_with_len 0 (length streams)) (are.names mode).headers (are.names mode).«data» (are.names mode).are dump
      (in_range (length streams) dump low)

  of_rate : IsPart By (rate_of disk, Following) of_dump.its of_dump.held
  of_rate =
      joined_has By (readings_of mode) of_dump.its of_dump.held
      (subst (λ (p : Option _). AreNamesUnless p mode dump seen.times seen.indexes of_dump.its of_dump.held) captured.is_read of_dump.are) (rate_of disk, Following)
      (is_read (rate_of disk))

  own : AreOfTrack disk image n of_rate.its of_rate.held
  own =
      law Following disk image captured.stream n dump of_rate.its of_rate.held is on captured.capture captured.steady
      (subst (λ (ts : List ℕ). AreNamesBy Following (rate_of disk) dump ts (indexes captured.stream) of_rate.its of_rate.held) captured.times_are
      (subst (λ (is_ : List ℕ). AreNamesBy Following (rate_of disk) dump seen.times is_ of_rate.its of_rate.held) captured.indexes_are of_rate.are))

  pub header_is : (sector : ℕ) → IsSectorOf (Numbered disk) n sector
      → (h : NamedHeader) × Contains (are.names (mode_of (rate_of disk))).headers h × (h.name ≡ name_on disk (track_at (Numbered disk) n) sector)
  header_is sector one = let header = own.each sector one in (header.0, of_dump.all header.0 (of_rate.all header.0 header.1), header.2)

  pub data_are : (sector : ℕ) → IsSectorOf (Numbered disk) n sector
      → (d : NotedData) × Contains (are.names (mode_of (rate_of disk))).«data» d × (d.name ≡ name_on disk (track_at (Numbered disk) n) sector) × (d.held ≡ held_on disk image n sector)
  data_are sector one =
      let noted = own.whole sector one in
      let its = own.held noted.0 noted.1 in
      (noted.0, of_dump.each noted.0 (of_rate.each noted.0 noted.1), noted.2, its.held ∙ ap (λ (k : SectorName). held_on disk image n k.number) (sym its.name.is ∙ noted.2))

-- so it has each of them in the record, where nothing is left out
module _ (law : CapturedTracksHaveOwnNames) (disk : IbmDisk) (image : List ℕ) (n dump : ℕ) (track : TrackId) (streams : List Seen) (found : TrackFound)
    (is : IsImage (Numbered disk) image) (on : n < length (tracks (Numbered disk))) (are : IsFoundOf track streams found) (low : dump < length streams)
    (captured : IsCaptured disk image n (seen_at streams dump)) (none : left_in found ≡ 0) where
  abbrev headers : List NamedHeader
  headers = (are.names (mode_of (rate_of disk))).headers

  abbrev noted : List NotedData
  noted = (are.names (mode_of (rate_of disk))).«data»

  its_header : (sector : ℕ) → IsSectorOf (Numbered disk) n sector → (h : NamedHeader) × Contains headers h × (h.name ≡ name_on disk (track_at (Numbered disk) n) sector)
  its_header sector one = header_is law disk image n dump track streams found is on are low captured sector one

  -- its name is told
  is_told : (h : NamedHeader) → Contains headers h → Contains (found.names (mode_of (rate_of disk))).told (told_of headers noted h.name)
  is_told h has =
      name_told (found.names (mode_of (rate_of disk))) headers noted (are.names (mode_of (rate_of disk))).stand (no_more found none (mode_of (rate_of disk))) h has

  pub has_sector : ((told : NameTold) → Contains (sectors_in found) told → is_good told ≡ true) → (sector : ℕ) → IsSectorOf (Numbered disk) n sector
      → HasSectorOf disk image n sector (sectors_in found)
  has_sector good sector one =
      let header = its_header sector one in
      let d = data_are law disk image n dump track streams found is on are low captured sector one in
      let there = told_in_record found none (mode_of (rate_of disk)) (told_of headers noted header.0.name) (is_told header.0 header.1) in
      let held = subst (λ (k : SectorName). Contains (held_of k noted) d.0.held) (d.2 ∙ sym header.2) (data_held noted d.0 d.1) in
      let agreed = all_agree (held_of header.0.name noted) d.0.held held (good (told_of headers noted header.0.name) there) in
      record { told = told_of headers noted header.0.name; there = there; name = header.2; agreed = agreed ∙ ap (λ (ys : List ℕ). Some ys) d.3 }

  -- and no other mode has a name
  pub no_other : NoOtherIsWhole disk found
  no_other other apart told has =
      let header = its_header (track_of_disk disk).first_sector (first_is disk n on) in
      let ours = is_told header.0 header.1 in
      absurd (apart ((in_record found none other has.0 has.1).0 ∙ sym (in_record found none (mode_of (rate_of disk)) ours.0 ours.1).0))
