-- A good line of a file's report names a place that holds the sector.
use Rattle.std.specs.Prelude.{◌≡◌, ◌<◌, ℕ, zero, suc, ◌+◌, ◌*◌, Bool, List, [], ◌∷◌, ◌++◌, drop, flat_map, length, replicate, take, unwrap_or, Option, None, refl}
use Rattle.std.specs.List.{range_with_len}
use Rattle.std.proofs.Common.{ap, sym, ◌∙◌, arith}
use Rattle.std.proofs.lemmas.List.{drop-drop}
use Rattle.std.proofs.Math.Seq.{drop-append-add}
use Rattle.disk_recordings.specs.Laws.{TracksAreRead}
use Rattle.disk_recordings.specs.Members.{header_at, sector_at}
use Rattle.flux_base.specs.declared.track.TrackId.{TrackId}
use Rattle.flux_engine.specs.DiskLaws.{bytes_at}
use Rattle.flux_engine.specs.Disks.{images, part_at}
use Rattle.flux_engine.specs.Recordings.{sectors_of, track_at}
use Rattle.flux_engine.specs.Tracks.{Found, TrackPart, image_bytes, image_of, image_piece}
use Rattle.sector_images.specs.Formats.{row, slot, zone}
use Rattle.sector_images.specs.Places.{IsSector, SectorsFillTracks, bytes_of, place_of, sector_in, sector_place, tracks}
use Rattle.sector_images.specs.declared.format.Format.{Format}
use Rattle.track_rings.specs.lemmas.SectorParts.{sectors-length}
use Rattle.turn_merge.specs.declared.verdict.Place.{Place}
use Rattle.turn_merge.specs.declared.verdict.Verdict.TheVariants.{Good}
use Rattle.g64_image.specs.Faults.{first_fault}
use Rattle.g64_image.specs.FileDisks.{FileDisk, IsFileDisk, read_count, ring_readings}
use Rattle.g64_image.specs.Laws.{AreFileReadings, GoodIsRightInFiles, HasFileVerdict, IsRightlyGoodInFile}
use Rattle.g64_image.specs.Layout.{track_cells}
use Rattle.g64_image.proofs.GoodReadings.{data-size, says_right}
use Rattle.g64_image.proofs.RingReadings.{one_list}
use Rattle.g64_image.proofs.Sound.{take-front}
use Rattle.g64_image.proofs.WrittenFiles.{piece-at}
use Rattle.g64_image.proofs.WrittenImages.{PlaceLaws, before, before-more, place-is}

-- the image's part of a track stands after the bytes of the tracks before it
record StandsAfter (parts : List TrackPart) (k gap : ℕ) : Type 0 where
  later : List ℕ
  is : drop gap (images parts) ≡ (part_at parts k).image ++ later

module _ (places : PlaceLaws) (format : Format) where
  part-after : (parts : List TrackPart) (n k : ℕ) → n + length parts ≡ length (tracks format)
      → ((j : ℕ) → j < length parts → length (part_at parts j).image ≡ bytes_of format (track_at format (n + j))) → k < length parts
      → (gap : ℕ) × (before format (n + k) ≡ before format n + gap) × StandsAfter parts k gap
  part-after [] n k all each low = absurd (omega (arith, low))
  part-after (part ∷ parts) n zero all each low =
      let here : n + 0 ≡ n = omega arith in
      let same : before format (n + 0) ≡ before format n + 0 = ap (before format) here ∙ omega arith in
      (0, same, record { later = images parts; is = refl })
  part-after (part ∷ parts) n (suc k) all each low =
      let known : n < length (tracks format) = omega (arith, all) in
      let here : n + 0 ≡ n = omega arith in
      let size : length part.image ≡ bytes_of format (track_at format n) =
      each 0 (omega arith) ∙ ap (λ (i : ℕ). bytes_of format (track_at format i)) here in
      let rest = part-after parts (n + 1) k (omega (arith, all))
      (λ j less.
      let at : n + suc j ≡ n + 1 + j = omega arith in
      each (suc j) (omega (arith, less)) ∙ ap (λ (i : ℕ). bytes_of format (track_at format i)) at) (omega (arith, low)) in
      let at : n + suc k ≡ n + 1 + k = omega arith in
      let place : before format (n + suc k) ≡ before format n + (length part.image + rest.0) =
      (let next = ap (before format) at in omega (arith, next, rest.1, before-more places format n known, size)) in (
        length part.image + rest.0,
        place,
        record { later = rest.2.later; is = drop-append-add part.image (images parts) rest.0 ∙ rest.2.is },
      )

module _ (places : PlaceLaws) (fills : SectorsFillTracks) (read : TracksAreRead) (format : Format) (file : List ℕ) (o : FileDisk)
    (disk : IsFileDisk format file o) (none : o.stop ≡ None) where
  many : length disk.parts ≡ length (tracks format)
  many =
      let sound : first_fault format file ≡ None = sym (ap (λ (d : FileDisk). d.stop) disk.is) ∙ none in
      disk.many ∙ ap (read_count format) sound

  module _ (n : ℕ) (known : n < length (tracks format)) (found : List Found) (all : AreFileReadings format file n found) where
    abbrev track : TrackId
    track = track_at format n

    abbrev unit : ℕ
    unit = (row format).sector_size

    abbrev sectors : ℕ
    sectors = (zone format track.cylinder).sectors

    abbrev cells : List Bool
    cells = track_cells file n ++ track_cells file n

    abbrev piece : ℕ → List ℕ
    piece = image_piece format track (ring_readings found)

    piece-size : (j : ℕ) → length (piece j) ≡ unit
    piece-size j =
        data-size (header_at format track) (sector_at format track) unit (read.told format track) cells (length (track_cells file n)) (sector_in format track j) found all

    part-size : length (image_of format track (ring_readings found)) ≡ bytes_of format track
    unfolding image_of
    part-size = sectors-length piece unit 0 sectors (λ j least most. piece-size j)

  part-sizes : (n : ℕ) → n < length disk.parts → length (part_at disk.parts n).image ≡ bytes_of format (track_at format n)
  part-sizes n low =
      let part = disk.each n low in
      ap (λ (p : TrackPart). length p.image) part.is ∙ part-size n (omega (arith, low, many)) part.found part.all

  module _ (n s : ℕ) (known : n < length (tracks format)) (one : IsSector format (track_at format n) s)
      (found : List Found) (all : AreFileReadings format file n found) where
    -- the sector's bytes in the image are its data, or zeros
    in_image : bytes_at format o.image (track_at format n) s ≡ image_bytes (sectors_of format (track_at format n)) (ring_readings found) s
    unfolding image_of sector_place
    in_image =
        let track = track_at format n in
        let unit = (row format).sector_size in
        let low : n < length disk.parts = omega (arith, known, many) in
        let part = disk.each n low in
        let same : part.found ≡ found =
        one_list (header_at format track) (sector_at format track) unit (read.told format track) (track_cells file n ++ track_cells file n)
        (length (track_cells file n)) 0 part.found found part.all all in
        let mine : (part_at disk.parts n).image ≡ flat_map (image_piece format track (ring_readings found)) (range_with_len 0 (sectors_of format track).count) =
        ap (λ (p : TrackPart). p.image) part.is ∙ ap (λ (f : List Found). image_of format track (ring_readings f)) same in
        let after = part-after places format disk.parts 0 n (omega (arith, many))
        (λ j less. let at : j ≡ 0 + j = omega arith in part-sizes j less ∙ ap (λ (i : ℕ). bytes_of format (track_at format i)) at) low in
        let fill = fills format track s one in
        let count : ℕ = (sectors_of format track).count in
        let image_is : o.image ≡ images disk.parts = ap (λ (d : FileDisk). d.image) disk.is in
        let at : 0 + n ≡ n = omega arith in
        let start : place_of format track ≡ after.0 = place-is places format n known ∙ ap (before format) (sym at) ∙ after.1 ∙ omega arith in
        let here : place_of format track + unit * slot format s ≡ after.0 + slot format s * unit =
        ap (λ (p : ℕ). p + unit * slot format s) start ∙ omega arith in
        let found_there = piece-at (image_piece format track (ring_readings found)) unit count (slot format s) after.2.later
        (λ j less. piece-size n known found all j) fill.0 in
        ap (λ (xs : List ℕ). take unit (drop (place_of format track + unit * slot format s) xs)) image_is
        ∙ ap (λ (p : ℕ). take unit (drop p (images disk.parts))) here
        ∙ ap (take unit) (sym (drop-drop (slot format s * unit) after.0 (images disk.parts))
        ∙ ap (drop (slot format s * unit)) (after.2.is ∙ ap (λ (xs : List ℕ). xs ++ after.2.later) mine)
        ∙ found_there.1)
        ∙ take-front unit (image_piece format track (ring_readings found) (slot format s)) found_there.0 (piece-size n known found all (slot format s))
        ∙ ap (image_bytes (sectors_of format track) (ring_readings found)) fill.1

  good_is_right : (n s good bad : ℕ) (first : Place) → n < length (tracks format) → IsSector format (track_at format n) s
      → HasFileVerdict format file n s (Good good bad first) → IsRightlyGoodInFile format file o.image n s first
  good_is_right n s good bad first known one has =
      let track = track_at format n in
      let unit = (row format).sector_size in
      let cells : List Bool = track_cells file n ++ track_cells file n in
      let right = says_right (header_at format track) (sector_at format track) unit (read.told format track) cells (length (track_cells file n)) s
      has.found has.all good bad first has.is in
      record {
        bytes = right.bytes;
        low = right.low;
        turn = right.turn;
        stands = right.stands;
        size = (read.told format track).content_size (drop first.cell cells) s right.bytes right.stands;
        in_image = in_image n s known one has.found has.all ∙ ap (λ (data_of : Option (List ℕ)). unwrap_or data_of (replicate unit 0)) right.data_is;
        agreed = right.same;
      }

pub good_is_right_in_files : PlaceLaws → SectorsFillTracks → TracksAreRead → GoodIsRightInFiles
good_is_right_in_files places fills read format file o n sector good bad first disk none known one has =
    good_is_right places fills read format file o disk none n sector good bad first known one has
