-- The names, one by one.
use Rattle.std.specs.Prelude.{◌≡◌, ◌<◌, ◌-◌, ◌*◌, ℕ, true, false, All, [], drop, get_or, length, sum_by, refl}
use Rattle.std.proofs.Common.{arith, inl}
use Rattle.std.proofs.lemmas.List.Elements.{All-contains, All-cons, All-nil, Contains-get_or}
use Rattle.disk_zones.specs.Zones.{commodore_8050_zone, commodore_zone, macintosh_zone}
use Rattle.flux_base.specs.declared.track.TrackId.{TrackId}
use Rattle.ibm_disks.specs.declared.disk.IbmDisk.{IbmDisk}
use Rattle.ibm_disks.specs.Disks.{IsWordOfDisk, is_disk, sound}
use Rattle.ibm_disks.specs.Named.{NamedDisk, named_disks}
use Rattle.ibm_disks.specs.Tracks.{pc_8}
use Rattle.ibm_disks.specs.declared.rate.Rate.TheVariants.{Double}
use Rattle.ibm_disks.specs.declared.track_numbers.LeadIn.TheVariants.{Indexed}
use Rattle.sector_images.specs.Formats.{IsWordOfFormat, row, track_order}
use Rattle.sector_images.specs.Places.{comes_before}
use Rattle.sector_images.specs.declared.format.Format.{Format}
use Rattle.sector_images.specs.declared.format.Format.TheVariants.{Ibm3740, Ibm360, Ibm720, Ibm1440, Amiga, C1541, C1541Forty, AppleDo, ApplePo, AppleDos33, AppleProdos, Mac400, Mac800, C1571, AmigaHd, C8050, C8250, C1581, Numbered}
use Rattle.law_stated_tables.specs.Laws.{GapsAreStated, HasStatedGaps, IsStated, NamesAreStated, is_before}
use Rattle.law_stated_tables.specs.Table.{StatedFormat, stated_formats}
use Rattle.law_stated_tables.specs.Words.{StatedGaps, stated_gaps}
use Rattle.law_stated_tables.proofs.Tests.{has-slots, has-zone, has_slots, has_zones}

-- a word of the second table names a format with its numbers
abbrev Names : StatedFormat → Type 0
Names stated = (format : Format) × IsWordOfFormat stated.word format × IsStated stated format

module _ (stated : StatedFormat) where
  -- by a format's numbers, which are computed
  names : (format : Format) → IsWordOfFormat stated.word format → (row format).cylinders ≡ stated.cylinders → (row format).heads ≡ stated.heads
      → (row format).first_sector ≡ stated.first_sector → (row format).sector_size ≡ stated.bytes → (row format).image_size ≡ stated.image
      → stated.heads * stated.bytes * sum_by (λ z. (z.end - z.first) * z.sectors) stated.zones ≡ stated.image → has_zones stated format ≡ true
      → ((a b : TrackId) → comes_before (track_order format) a b ≡ is_before stated.by_head a b) → has_slots stated format ≡ true → Names stated
  names format word cylinders heads first bytes image sum zones tracks slots = (
    format,
    word,
    record {
      cylinders = cylinders;
      heads = heads;
      first_sector = first;
      bytes = bytes;
      image = image;
      sectors_are_image = sum;
      zones = has-zone stated format zones;
      tracks = tracks;
      slots = has-slots stated format slots;
    },
  )

-- the disk of a name, by its number among those that have one
abbrev row_at : ℕ → NamedDisk
row_at k = get_or named_disks k (record { word = []; label = []; disk = record { cylinders = 40; heads = 1; rate = Double; track = pc_8 } })

name_at : (k : ℕ) → k < length named_disks → IsWordOfDisk (row_at k).word (row_at k).disk
name_at k below = inl (record { row = row_at k; listed = Contains-get_or named_disks k _ below; word_is = refl; disk_is = refl })

-- the row of a number
abbrev stated_at : ℕ → StatedFormat
stated_at k = get_or stated_formats k (record { word = []; cylinders = 0; heads = 0; first_sector = 0; bytes = 0; image = 0; by_head = false; step = 1; zones = [] })

-- each of them, from the last one on
each : All Names stated_formats
unfolding commodore_zone commodore_8050_zone macintosh_zone is_disk sound
each =
    let from_26 = All-cons Names (stated_at 26) (drop 27 stated_formats) (names _ C1581 refl refl refl refl refl refl refl refl (λ a b. refl) refl) (All-nil Names) in
    let from_25 = All-cons Names (stated_at 25) (drop 26 stated_formats) (names _ C8250 refl refl refl refl refl refl refl refl (λ a b. refl) refl) from_26 in
    let from_24 = All-cons Names (stated_at 24) (drop 25 stated_formats) (names _ C8050 refl refl refl refl refl refl refl refl (λ a b. refl) refl) from_25 in
    let from_23 = All-cons Names (stated_at 23) (drop 24 stated_formats) (names _ AmigaHd refl refl refl refl refl refl refl refl (λ a b. refl) refl) from_24 in
    let from_22 = All-cons Names (stated_at 22) (drop 23 stated_formats) (names _ C1571 refl refl refl refl refl refl refl refl (λ a b. refl) refl) from_23 in
    let from_21 = All-cons Names (stated_at 21) (drop 22 stated_formats) (names _ Mac800 refl refl refl refl refl refl refl refl (λ a b. refl) refl) from_22 in
    let from_20 = All-cons Names (stated_at 20) (drop 21 stated_formats) (names _ Mac400 refl refl refl refl refl refl refl refl (λ a b. refl) refl) from_21 in
    let from_19 = All-cons Names (stated_at 19) (drop 20 stated_formats) (names _ AppleProdos refl refl refl refl refl refl refl refl (λ a b. refl) refl) from_20 in
    let from_18 = All-cons Names (stated_at 18) (drop 19 stated_formats) (names _ AppleDos33 refl refl refl refl refl refl refl refl (λ a b. refl) refl) from_19 in
    let from_17 = All-cons Names (stated_at 17) (drop 18 stated_formats) (names _ (Numbered (row_at 8).disk) (name_at 8 (omega arith)) refl refl refl refl refl refl refl (λ a b. refl) refl) from_18 in
    let from_16 = All-cons Names (stated_at 16) (drop 17 stated_formats) (names _ (Numbered (row_at 7).disk) (name_at 7 (omega arith)) refl refl refl refl refl refl refl (λ a b. refl) refl) from_17 in
    let from_15 = All-cons Names (stated_at 15) (drop 16 stated_formats) (names _ (Numbered (row_at 6).disk) (name_at 6 (omega arith)) refl refl refl refl refl refl refl (λ a b. refl) refl) from_16 in
    let from_14 = All-cons Names (stated_at 14) (drop 15 stated_formats) (names _ (Numbered (row_at 5).disk) (name_at 5 (omega arith)) refl refl refl refl refl refl refl (λ a b. refl) refl) from_15 in
    let from_13 = All-cons Names (stated_at 13) (drop 14 stated_formats) (names _ (Numbered (row_at 4).disk) (name_at 4 (omega arith)) refl refl refl refl refl refl refl (λ a b. refl) refl) from_14 in
    let from_12 = All-cons Names (stated_at 12) (drop 13 stated_formats) (names _ (Numbered (row_at 3).disk) (name_at 3 (omega arith)) refl refl refl refl refl refl refl (λ a b. refl) refl) from_13 in
    let from_11 = All-cons Names (stated_at 11) (drop 12 stated_formats) (names _ (Numbered (row_at 2).disk) (name_at 2 (omega arith)) refl refl refl refl refl refl refl (λ a b. refl) refl) from_12 in
    let from_10 = All-cons Names (stated_at 10) (drop 11 stated_formats) (names _ (Numbered (row_at 1).disk) (name_at 1 (omega arith)) refl refl refl refl refl refl refl (λ a b. refl) refl) from_11 in
    let from_9 = All-cons Names (stated_at 9) (drop 10 stated_formats) (names _ (Numbered (row_at 0).disk) (name_at 0 (omega arith)) refl refl refl refl refl refl refl (λ a b. refl) refl) from_10 in
    let from_8 = All-cons Names (stated_at 8) (drop 9 stated_formats) (names _ ApplePo refl refl refl refl refl refl refl refl (λ a b. refl) refl) from_9 in
    let from_7 = All-cons Names (stated_at 7) (drop 8 stated_formats) (names _ AppleDo refl refl refl refl refl refl refl refl (λ a b. refl) refl) from_8 in
    let from_6 = All-cons Names (stated_at 6) (drop 7 stated_formats) (names _ C1541Forty refl refl refl refl refl refl refl refl (λ a b. refl) refl) from_7 in
    let from_5 = All-cons Names (stated_at 5) (drop 6 stated_formats) (names _ C1541 refl refl refl refl refl refl refl refl (λ a b. refl) refl) from_6 in
    let from_4 = All-cons Names (stated_at 4) (drop 5 stated_formats) (names _ Amiga refl refl refl refl refl refl refl refl (λ a b. refl) refl) from_5 in
    let from_3 = All-cons Names (stated_at 3) (drop 4 stated_formats) (names _ Ibm1440 refl refl refl refl refl refl refl refl (λ a b. refl) refl) from_4 in
    let from_2 = All-cons Names (stated_at 2) (drop 3 stated_formats) (names _ Ibm720 refl refl refl refl refl refl refl refl (λ a b. refl) refl) from_3 in
    let from_1 = All-cons Names (stated_at 1) (drop 2 stated_formats) (names _ Ibm360 refl refl refl refl refl refl refl refl (λ a b. refl) refl) from_2 in
    All-cons Names (stated_at 0) (drop 1 stated_formats) (names _ Ibm3740 refl refl refl refl refl refl refl refl (λ a b. refl) refl) from_1

pub names_are_stated : NamesAreStated
names_are_stated stated listed = All-contains Names stated_formats stated each listed

-- and the gaps of those that have numbers
abbrev HaveGaps : StatedGaps → Type 0
HaveGaps stated = (disk : IbmDisk) × IsWordOfFormat stated.word (Numbered disk) × HasStatedGaps stated disk

abbrev gaps_at : ℕ → StatedGaps
gaps_at k = get_or stated_gaps k (record { word = []; is_mfm = true; lead_in = Indexed; before = 0; around = 0; gap = 0; end = 0 })

each_gaps : All HaveGaps stated_gaps
unfolding is_disk sound
each_gaps =
    let from_8 = All-cons HaveGaps (gaps_at 8) (drop 9 stated_gaps) ((row_at 8).disk, name_at 8 (omega arith), record { recording = refl; lead_in = refl; gap = refl; end = refl }) (All-nil HaveGaps) in
    let from_7 = All-cons HaveGaps (gaps_at 7) (drop 8 stated_gaps) ((row_at 7).disk, name_at 7 (omega arith), record { recording = refl; lead_in = refl; gap = refl; end = refl }) from_8 in
    let from_6 = All-cons HaveGaps (gaps_at 6) (drop 7 stated_gaps) ((row_at 6).disk, name_at 6 (omega arith), record { recording = refl; lead_in = refl; gap = refl; end = refl }) from_7 in
    let from_5 = All-cons HaveGaps (gaps_at 5) (drop 6 stated_gaps) ((row_at 5).disk, name_at 5 (omega arith), record { recording = refl; lead_in = refl; gap = refl; end = refl }) from_6 in
    let from_4 = All-cons HaveGaps (gaps_at 4) (drop 5 stated_gaps) ((row_at 4).disk, name_at 4 (omega arith), record { recording = refl; lead_in = refl; gap = refl; end = refl }) from_5 in
    let from_3 = All-cons HaveGaps (gaps_at 3) (drop 4 stated_gaps) ((row_at 3).disk, name_at 3 (omega arith), record { recording = refl; lead_in = refl; gap = refl; end = refl }) from_4 in
    let from_2 = All-cons HaveGaps (gaps_at 2) (drop 3 stated_gaps) ((row_at 2).disk, name_at 2 (omega arith), record { recording = refl; lead_in = refl; gap = refl; end = refl }) from_3 in
    let from_1 = All-cons HaveGaps (gaps_at 1) (drop 2 stated_gaps) ((row_at 1).disk, name_at 1 (omega arith), record { recording = refl; lead_in = refl; gap = refl; end = refl }) from_2 in
    All-cons HaveGaps (gaps_at 0) (drop 1 stated_gaps) ((row_at 0).disk, name_at 0 (omega arith), record { recording = refl; lead_in = refl; gap = refl; end = refl }) from_1

pub gaps_are_stated : GapsAreStated
gaps_are_stated stated listed = All-contains HaveGaps stated_gaps stated each_gaps listed
