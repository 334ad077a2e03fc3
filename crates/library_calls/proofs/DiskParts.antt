-- The parts of a decoded disk in its image and in its lines.
use Rattle.std.specs.Prelude.{◌≡◌, ◌≤◌, ◌<◌, ℕ, zero, suc, ◌+◌, ◌*◌, List, [], ◌∷◌, ◌++◌, length, take, drop, get_or, sum_by, Option, Some, None, refl}
use Rattle.std.proofs.Common.{ap, sym, subst, ◌∙◌, arith, length-append}
use Rattle.std.proofs.Math.Seq.{drop-append_seam, take-append_seam, take-length, take-suc}
use Rattle.std.proofs.lemmas.List.{take-append-drop}
use Rattle.std.proofs.lemmas.List.Concat.{flat_map-append}
use Rattle.std.proofs.lemmas.List.Sums.{sum_by-append}
use Rattle.std.proofs.lemmas.Option.{slice_get-get_or, unwrap_or-slice_get}
use Rattle.flux_base.specs.declared.track.TrackId.{TrackId}
use Rattle.kryo_stream.specs.Stream.{times, indexes}
use Rattle.sector_images.specs.Formats.{row}
use Rattle.sector_images.specs.Places.{TracksFillImages, TracksJoin, bytes_of, place_of, sector_in, tracks}
use Rattle.sector_images.specs.declared.format.Format.{Format}
use Rattle.library_calls.specs.DiskLaws.{PartsFitImages, PartsStandAtTheirPlaces, WholeDisksFillImages}
use Rattle.flux_engine.specs.DiskLaws.{StandsInImage}
use Rattle.library_calls.specs.Disks.{Stop, AreParts, Decoded, IsDecoded, decoded_count, stop_of, IsPart}
use Rattle.flux_engine.specs.Disks.{images, part_at}
use Rattle.disk_recordings.specs.Laws.{TracksAreRead}
use Rattle.disk_recordings.specs.Members.{header_at, sector_at}
use Rattle.flux_engine.specs.Recordings.{cells_of, sectors_of, track_at}
use Rattle.flux_engine.specs.Streams.{stream_at}
use Rattle.flux_engine.specs.Tracks.{TrackPart, image_of}
use Rattle.flux_engine.specs.lemmas.PartLaws.{image_split, no_part}
use Rattle.turn_merge.specs.declared.clock.Clock.TheVariants.{Following}
use Rattle.flux_engine.specs.lemmas.GoodSectors.{lengths, strict_good}
use Rattle.library_calls.proofs.Stops.{stops_there}

-- all that stands after a list, and before another
whole_piece : (before part rest : List ℕ) (place size : ℕ) → length before ≡ place → length part ≡ size
    → take size (drop place (before ++ (part ++ rest))) ≡ part
whole_piece before part rest place size at many =
    let whole : List ℕ = before ++ (part ++ rest) in
    let gone : drop place whole ≡ part ++ rest = ap (λ (n : ℕ). drop n whole) (sym at) ∙ drop-append_seam before (part ++ rest) in
    ap (take size) gone ∙ ap (λ (n : ℕ). take n (part ++ rest)) (sym many) ∙ take-append_seam part rest

-- a track's part of the image has the track's bytes in number
part_size : TracksAreRead → (format : Format) (track : TrackId) (times' indexes' : List ℕ) (part : TrackPart) → IsPart format track times' indexes' part
    → length part.image ≡ bytes_of format track
unfolding image_of
part_size read format track times' indexes' part is =
    let size : ℕ = (row format).sector_size in
    let count : ℕ = (sectors_of format track).count in
    let turned : size * count ≡ count * size = omega arith in
    ap (λ (p : TrackPart). length p.image) is.is
    ∙ lengths (sector_at format track) size (read.told format track).content_size
    0 Following times' indexes' (cells_of format track times' indexes') is.found
    (strict_good (header_at format track) (sector_at format track) (read.all format track) (cells_of format track times' indexes') is.found is.all)
    (sectors_of format track) refl (sector_in format track) 0 count
    ∙ turned

abbrev first_track : TrackId
first_track = record { cylinder = 0; head = 0 }

-- a list of parts up to one, that one and the others
module _ (ps : List TrackPart) (n : ℕ) (low : n < length ps) where
  image_more : length (images (take (suc n) ps)) ≡ length (images (take n ps)) + length (part_at ps n).image
  image_more =
      let one : images (part_at ps n ∷ []) ≡ (part_at ps n).image ++ [] = refl in
      ap (λ (qs : List TrackPart). length (images qs)) (take-suc ps n no_part low)
      ∙ ap length (flat_map-append (λ (p : TrackPart). p.image) (take n ps) (part_at ps n ∷ []))
      ∙ length-append (images (take n ps)) ((part_at ps n).image ++ [])
      ∙ ap (λ (m : ℕ). length (images (take n ps)) + m) (length-append (part_at ps n).image [] ∙ omega arith)

tracks_more : (format : Format) (n : ℕ) → n < length (tracks format)
    → sum_by (bytes_of format) (take (suc n) (tracks format)) ≡ sum_by (bytes_of format) (take n (tracks format)) + bytes_of format (track_at format n)
tracks_more format n low =
    let ts : List TrackId = tracks format in
    let here : get_or ts n first_track ≡ track_at format n = sym (unwrap_or-slice_get ts n first_track) in
    let one : sum_by (bytes_of format) (get_or ts n first_track ∷ []) ≡ bytes_of format (get_or ts n first_track) = omega arith in
    ap (sum_by (bytes_of format)) (take-suc ts n first_track low)
    ∙ sum_by-append (bytes_of format) (take n ts) (get_or ts n first_track ∷ [])
    ∙ ap (λ (m : ℕ). sum_by (bytes_of format) (take n ts) + m) (one ∙ ap (bytes_of format) here)

-- the parts of the first tracks
module _ (read : TracksAreRead) (format : Format) (x : List ℕ) (ps : List TrackPart) (are : AreParts format x ps) (few : length ps ≤ length (tracks format)) where
  size_at : (n : ℕ) → n < length ps → length (part_at ps n).image ≡ bytes_of format (track_at format n)
  size_at n low = part_size read format (track_at format n) (times (stream_at x n)) (indexes (stream_at x n)) (part_at ps n) (are n low).comes

  size_before : (n : ℕ) → n ≤ length ps → length (images (take n ps)) ≡ sum_by (bytes_of format) (take n (tracks format))
  size_before zero low = refl
  size_before (suc n) low =
      let within : n < length ps = omega (arith, low) in
      let here = size_at n within in
      let more = image_more ps n within in
      let after = tracks_more format n (omega (arith, within, few)) in
      let before = size_before n (omega (arith, within)) in
      omega (arith, here, more, after, before)

  -- what stands before a part is as long as the track's place says
  place_is : TracksJoin → (n : ℕ) → n < length ps → length (images (take n ps)) ≡ place_of format (track_at format n)
  place_is joined n low =
      let known : n < length (tracks format) = omega (arith, low, few) in
      let here = slice_get-get_or (tracks format) n first_track known in
      let is = ap (λ (t : TrackId). Some t) (sym (unwrap_or-slice_get (tracks format) n first_track)) in
      size_before n (omega (arith, low)) ∙ sym (joined format n (track_at format n) (here ∙ is))

  stands : TracksJoin → (n : ℕ) → n < length ps → StandsInImage format (track_at format n) (part_at ps n).image (images ps)
  stands joined n low = record {
    size = size_at n low;
    there =
        ap (λ (xs : List ℕ). take (bytes_of format (track_at format n)) (drop (place_of format (track_at format n)) xs)) (image_split ps n low)
        ∙ whole_piece (images (take n ps)) (part_at ps n).image (images (drop (suc n) ps)) (place_of format (track_at format n)) (bytes_of format (track_at format n))
        (place_is joined n low) (size_at n low);
  }

  whole : TracksFillImages → length ps ≡ length (tracks format) → length (images ps) ≡ (row format).image_size
  whole filled all =
      ap (λ (qs : List TrackPart). length (images qs)) (sym (take-length ps)) ∙ size_before (length ps) (omega arith)
      ∙ ap (λ (m : ℕ). sum_by (bytes_of format) (take m (tracks format))) all
      ∙ ap (sum_by (bytes_of format)) (take-length (tracks format)) ∙ filled format

pub parts_fit_images : TracksAreRead → TracksFillImages → PartsFitImages
parts_fit_images read filled format x ps are few =
    let n : ℕ = length ps in
    let front : List TrackId = take n (tracks format) in
    let rest : List TrackId = drop n (tracks format) in
    let mine = ap (λ (qs : List TrackPart). length (images qs)) (take-length ps) in
    let before = size_before read format x ps are few n (omega arith) in
    let all = ap (sum_by (bytes_of format)) (take-append-drop n (tracks format)) in
    let both = sum_by-append (bytes_of format) front rest in
    omega (arith, mine, before, all, both, filled format)

-- a stop is at one of the format's streams
few_decoded : (format : Format) (x : List ℕ) (stop : Option Stop) → stop_of format x ≡ stop → decoded_count format stop ≤ length (tracks format)
few_decoded format x None is = omega arith
few_decoded format x (Some s) is = (let below = (stops_there format x s is).0 in omega (arith, below))

-- an outcome's parts
module _ (format : Format) (x : List ℕ) (o : Decoded) (is : IsDecoded format x o) where
  pub few_parts : length is.parts ≤ length (tracks format)
  few_parts = let few = few_decoded format x (stop_of format x) refl in omega (arith, few, is.many)

  pub image_is : o.image ≡ images is.parts
  image_is = ap (λ (d : Decoded). d.image) is.is

  pub stop_is : o.stop ≡ stop_of format x
  stop_is = ap (λ (d : Decoded). d.stop) is.is

pub parts_stand_at_their_places : TracksAreRead → TracksJoin → PartsStandAtTheirPlaces
parts_stand_at_their_places read joined format x o is n low =
    subst (StandsInImage format (track_at format n) (part_at is.parts n).image) (sym (image_is format x o is))
    (stands read format x is.parts is.each (few_parts format x o is) joined n low)

pub whole_disks_fill_images : TracksAreRead → TracksFillImages → WholeDisksFillImages
whole_disks_fill_images read filled format x o is ended =
    let all : length is.parts ≡ length (tracks format) = is.many ∙ ap (decoded_count format) (sym (stop_is format x o is) ∙ ended) in
    ap length (image_is format x o is) ∙ whole read format x is.parts is.each (few_parts format x o is) filled all
