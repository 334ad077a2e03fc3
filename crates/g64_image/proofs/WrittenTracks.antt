-- What is read in the ring of a track that is written of an image.
use Rattle.std.specs.Prelude.{◌≡◌, ◌≤◌, ◌<◌, ℕ, zero, suc, ◌+◌, ◌%◌, ◌-◌, Bool, List, [], ◌++◌, drop, length, unwrap_or, Option, Some, refl}
use Rattle.std.proofs.Common.{ap, sym, subst, ◌∙◌, arith, append-nil}
use Rattle.std.proofs.Math.Nat.{mod-eq_of_lt, mod_self}
use Rattle.law_captured_disks.specs.lemmas.TrackBytes.{are_sectors, own_bytes}
use Rattle.disk_recordings.specs.Laws.{AreTrackBytes, FramesAreWhole, FramesHaveCells, RingsHaveCells, SectorsStand, StretchesHaveOnlyOwn, TracksAreRead}
use Rattle.disk_recordings.specs.Members.{frame_cells, header_at, place_in_ring, sector_at}
use Rattle.flux_base.specs.declared.track.TrackId.{TrackId}
use Rattle.flux_engine.specs.Recordings.{track_at}
use Rattle.flux_engine.specs.Rings.{IsImage, disk_id, ring_cells_of, ring_of, sector_bytes, track_bytes}
use Rattle.flux_engine.specs.Tracks.{Found}
use Rattle.frame_law.specs.Laws.{HasHeaderOnly}
use Rattle.sector_images.specs.Formats.{row, zone}
use Rattle.sector_images.specs.Places.{IsSector, IsTrack, NumbersNameTracks, SectorsLieInImages, tracks}
use Rattle.sector_images.specs.declared.format.Format.{Format}
use Rattle.track_rings.specs.Rings.{bytes_of, stretch}
use Rattle.track_rings.specs.lemmas.Stretches.{stretch-append, stretch-part}
use Rattle.turn_merge.specs.Readings.{agreed, verdict}
use Rattle.turn_merge.specs.declared.verdict.Verdict.TheVariants.{Good}
use Rattle.g64_image.specs.FileDisks.{AreReadingsTo, ring_place, ring_readings}
use Rattle.g64_image.proofs.RingSectors.{agreed-once, verdict-once}

-- what the crates below promise of the tracks
pub record TrackLaws : Type 0 where
  pub names : NumbersNameTracks
  pub lie : SectorsLieInImages
  pub cells : RingsHaveCells
  pub stand : SectorsStand
  pub frames : FramesAreWhole
  pub some : FramesHaveCells
  pub own : StretchesHaveOnlyOwn

once-around : (ring : List Bool) (from : ℕ) → from % length ring ≡ 0 → stretch ring from (length ring) ≡ ring
unfolding stretch
once-around ring from begin =
    let none : length ring - length ring ≡ 0 = omega arith in
    stretch-part ring ring [] [] from (length ring) (sym (append-nil ring)) (λ some. begin) (omega arith)
    ∙ ap (λ (n : ℕ). ring ++ stretch ring (from + length ring) n) none ∙ append-nil ring

twice-around : (ring : List Bool) → stretch ring 0 (length ring + length ring) ≡ ring ++ ring
twice-around ring =
    let n : ℕ = length ring in
    let next : (0 + n) % n ≡ 0 = (let at : 0 + n ≡ n = omega arith in ap (λ (k : ℕ). k % n) at ∙ mod_self n) in
    stretch-append ring 0 n n
    ∙ ap (λ (cs : List Bool). cs ++ stretch ring (0 + n) n) (once-around ring 0 (zero-mod n))
    ∙ ap (λ (cs : List Bool). ring ++ cs) (once-around ring (0 + n) next)
  where
    zero-mod : (n : ℕ) → 0 % n ≡ 0
    zero-mod zero = refl
    zero-mod (suc n) = mod-eq_of_lt (omega arith)

module _ (laws : TrackLaws) (format : Format) (image : List ℕ) (is : IsImage format image) (n : ℕ) (known : n < length (tracks format)) where
  abbrev track : TrackId
  track = track_at format n

  abbrev ring : List Bool
  ring = ring_of format image n

  pub is_track : IsTrack format track
  is_track =
      let named = laws.names format n known in
      subst (IsTrack format) (sym (ap (λ (t : Option TrackId). unwrap_or t (record { cylinder = 0; head = 0 })) named.1)) named.2

  bytes-are : AreTrackBytes format track (track_bytes format track image)
  bytes-are = are_sectors laws.lie format track image is is_track

  pub ring-cells : length ring ≡ ring_cells_of format n
  ring-cells = (laws.cells format (disk_id format image) track (track_bytes format track image) is_track bytes-are).0

  module _ (read : TracksAreRead) (s : ℕ) (one : IsSector format track s) where
    abbrev content : ℕ → List ℕ
    content = bytes_of (row format).first_sector (row format).sector_size (track_bytes format track image)

    abbrev place : ℕ
    place = place_in_ring format track s

    abbrev twice : ℕ
    twice = length ring + length ring

    fits : place + frame_cells format ≤ length ring
    fits =
        let inside = (laws.frames format (disk_id format image) track (track_bytes format track image) s is_track bytes-are one).0 in
        omega (arith, inside, ring-cells)

    below : place < length ring
    below = omega (arith, fits, laws.some format)

    there : sector_at format track (drop place (ring ++ ring)) s (content s)
    there =
        let begin : 0 + place ≡ place = omega arith in
        let at : (0 + place) % (zone format track.cylinder).ring_cells ≡ place = mod-eq_of_lt (omega (arith, below, ring-cells)) ∙ begin in
        subst (λ (cs : List Bool). sector_at format track (drop place cs) s (content s)) (twice-around ring)
        (laws.stand format (disk_id format image) track (track_bytes format track image) s 0 twice place is_track bytes-are one
        (record { same = at; whole = omega (arith, fits) }))

    own : (p t : ℕ) (bytes : List ℕ) → p < length ring → sector_at format track (drop p (ring ++ ring)) t bytes
        → (p ≡ place_in_ring format track t) × (bytes ≡ content t)
    own p t bytes low here =
        let found = (laws.own format (disk_id format image) track (track_bytes format track image) 0 twice is_track bytes-are).sectors p t bytes
        (subst (λ (cs : List Bool). sector_at format track (drop p cs) t bytes) (sym (twice-around ring)) here) in
        let begin : 0 + p ≡ p = omega arith in
        let at : (0 + p) % (zone format track.cylinder).ring_cells ≡ p = mod-eq_of_lt (omega (arith, low, ring-cells)) ∙ begin in
        (sym at ∙ found.0, found.1)

    whole : (p t : ℕ) → p < length ring → HasHeaderOnly (header_at format track) (sector_at format track) (ring ++ ring) p t → ⊥
    whole p t low here =
        let found = (laws.own format (disk_id format image) track (track_bytes format track image) 0 twice is_track bytes-are).headers p t
        (subst (λ (cs : List Bool). HasHeaderOnly (header_at format track) (sector_at format track) cs p t) (sym (twice-around ring)) here) in
        omega (arith, found.1, low, fits)

    module _ (found : List Found)
        (all : AreReadingsTo (header_at format track) (sector_at format track) (ring ++ ring) (length ring) 0 found) where
      pub verdict-is : verdict (ring_readings found) s ≡ Good 1 0 (ring_place place)
      verdict-is =
          verdict-once (header_at format track) (sector_at format track) (row format).sector_size (read.told format track) (ring ++ ring) (length ring)
          (place_in_ring format track) content own whole s there below found all

      pub agreed-is : agreed (ring_readings found) s ≡ Some (sector_bytes format track image s)
      agreed-is =
          agreed-once (header_at format track) (sector_at format track) (row format).sector_size (read.told format track) (ring ++ ring) (length ring)
          (place_in_ring format track) content own whole s there below found all
          ∙ ap Some (own_bytes laws.lie format track image is is_track s one)
