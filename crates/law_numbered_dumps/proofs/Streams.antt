-- What stands in the stream of a captured track: the names of its sectors with whole data, and no other name of the track.
use Rattle.std.proofs.Common.{◌≡◌, ◌<◌, ◌≤◌, ◌⊎◌, ◌+◌, ◌-◌, ◌*◌, ◌∙◌, ℕ, Bool, true, List, [], ◌∷◌, None, append-nil, drop, length, ap, refl, subst, sym, inl, inr, arith}
use Rattle.std.specs.Prelude.{slice_index}
use Rattle.std.proofs.lemmas.Bool.{cases_eq}
use Rattle.disk_recordings.specs.Laws.{DataAreRead, NamesAreTold, RingsHaveCells}
use Rattle.disk_recordings.specs.Members.{data_at, header_at, named_at}
use Rattle.dump_numbers.specs.OwnNames.{HasName}
use Rattle.dump_numbers.specs.Rates.{format_with_one}
use Rattle.dump_numbers.specs.Sets.{HasNamed}
use Rattle.dump_numbers.specs.TurnRule.{is_of_rate}
use Rattle.flux_base.specs.declared.header_name.HeaderName.{HeaderName}
use Rattle.flux_base.specs.declared.header_name.HeaderName.TheVariants.{Address}
use Rattle.flux_base.specs.declared.track.TrackId.{TrackId}
use Rattle.flux_engine.specs.Captures.{Capture, CapturesAreRecovered, cells_of_stream}
use Rattle.flux_engine.specs.Plans.{Seen}
use Rattle.flux_engine.specs.Recordings.{track_at}
use Rattle.flux_engine.specs.Rings.{IsImage, nominal_of, ring_of}
use Rattle.flux_engine.specs.Rules.{StandsBy}
use Rattle.flux_engine.specs.declared.plan.Rule.TheVariants.{Controller}
use Rattle.frame_law.specs.Controller.{START_ZEROS}
use Rattle.ibm_disks.specs.Disks.{rate_of, track_of_disk}
use Rattle.ibm_disks.specs.Numbers.{code_of}
use Rattle.ibm_disks.specs.declared.disk.IbmDisk.{IbmDisk}
use Rattle.ibm_disks.specs.declared.rate.Rate.{Rate}
use Rattle.ibm_disks.specs.declared.sector_size.SectorSize.TheVariants.{Bytes128}
use Rattle.ibm_disks.specs.declared.track_numbers.TrackNumbers.{TrackNumbers}
use Rattle.kryo_stream.specs.Growth.{StreamsStay}
use Rattle.kryo_stream.specs.Stream.{indexes, times}
use Rattle.law_captured_disks.specs.Frames.{written_track}
use Rattle.law_captured_disks.specs.Headline.{IsSectorOf}
use Rattle.law_captured_disks.specs.Others.{CapturesHaveNoOthers, NoOtherIsRead}
use Rattle.law_captured_disks.specs.lemmas.WrittenTracks.{AreWritten, are_written}
use Rattle.law_decoded_rings.specs.Pieces.{RingPiece, begin_of_piece, cells_of_ring_pieces}
use Rattle.law_decoded_rings.specs.Verdicts.{PiecesAreRightWithin, TwoRingsHaveSectors}
use Rattle.law_decoded_rings.specs.Written.{WrittenTrack}
use Rattle.sector_images.specs.Places.{NumbersNameTracks, SectorsLieInImages, tracks}
use Rattle.sector_images.specs.declared.format.Format.{Format}
use Rattle.sector_images.specs.declared.format.Format.TheVariants.{Numbered}
use Rattle.told_disks.specs.declared.heads.NamedHeads.TheVariants.{Own}
use Rattle.track_rings.specs.Rings.{IsSectorNumber, last_in, stretch}
use Rattle.turn_merge.specs.declared.clock.Clock.TheVariants.{Following}
use Rattle.law_numbered_dumps.specs.Inputs.{HasNoOtherSector}
use Rattle.law_numbered_dumps.specs.lemmas.Recorded.{cells_are, data_to, few_sectors, name_is, named_from, named_to}
use Rattle.law_numbered_dumps.proofs.Told.{Decided, in_number}

-- what the crates below promise
pub record Laws : Type 0 where
  pub numbers : NumbersNameTracks
  pub lie : SectorsLieInImages
  pub rings : RingsHaveCells
  pub stay : StreamsStay
  pub recovered : CapturesAreRecovered
  pub names : NamesAreTold
  pub reads : DataAreRead
  pub no_others : CapturesHaveNoOthers
  pub pieces : (format : Format) (image : List ℕ) (k : ℕ) → IsImage format image → k < length (tracks format)
      → PiecesAreRightWithin (StandsBy Controller format (track_at format k)) (written_track format image k) START_ZEROS
  pub two_rings : (format : Format) (image : List ℕ) (k : ℕ) → IsImage format image → k < length (tracks format)
      → TwoRingsHaveSectors (StandsBy Controller format (track_at format k)) (written_track format image k)

-- the parts of a name
parts : (c h s k c' h' s' k' : ℕ) → Address c h s k ≡ Address c' h' s' k' → (c ≡ c') × (h ≡ h') × (s ≡ s')
parts c h s k c' h' s' k' e = (cylinder e, head e, number e)
  where
    cylinder : Address c h s k ≡ Address c' h' s' k' → c ≡ c'
    cylinder e = cc

    head : Address c h s k ≡ Address c' h' s' k' → h ≡ h'
    head e = cc

    number : Address c h s k ≡ Address c' h' s' k' → s ≡ s'
    number e = cc

-- a stream as it is seen
abbrev pub seen_in : List ℕ → Seen
seen_in x = record { fault = None; passed = None; times = times x; indexes = indexes x }

-- the stream of a track
module _ (laws : Laws) (disk : IbmDisk) (n : ℕ) (x : List ℕ) where
  abbrev format : Format
  format = Numbered disk

  abbrev rate : Rate
  rate = rate_of disk

  abbrev sectors : TrackNumbers
  sectors = track_of_disk disk

  abbrev track : TrackId
  track = track_at format n

  abbrev cells : List Bool
  cells = cells_of_stream format track x

  -- Where no other header is read, no name stands but those of the track's sectors.
  module _ (none : NoOtherIsRead Following format n x) where
    has_only : (own : TrackId) (number : ℕ) → HasName rate own (times x) (indexes x) cells sectors.size number → (own ≡ track) × IsSectorNumber sectors.first_sector sectors.sectors number
    has_only own number has = by (in_number sectors.first_sector sectors.sectors number) (cases_eq own.cylinder track.cylinder) (cases_eq own.head track.head)
      where
        of_sector : (sector : ℕ) → header_at format track (drop has.place cells) sector
            → (own.cylinder ≡ track.cylinder) × (own.head ≡ track.head) × IsSectorNumber sectors.first_sector sectors.sectors number
        of_sector sector header =
            let told = laws.names.told format track in
            let other = told.of_sectors.has_name (drop has.place cells) sector header in
            let told_is = name_is disk track other.0 sector other.2 in
            let named = named_from disk Bytes128 (drop has.place cells) (Address own.cylinder own.head number (code_of sectors.size)) has.named in
            let one = told.one_name (drop has.place cells) (Address own.cylinder own.head number (code_of sectors.size)) other.0 named other.1 in
            let same = parts own.cylinder own.head number (code_of sectors.size) track.cylinder track.head sector (code_of sectors.size) (one ∙ told_is.0) in
            (same.0, same.1, subst (IsSectorNumber sectors.first_sector sectors.sectors) (sym same.2) told_is.1)

        other_stands : ((sector : ℕ) → ¬ header_at format track (drop has.place cells) sector) → ⊥
        other_stands no_sector =
            none has.place (Address own.cylinder own.head number (code_of sectors.size))
            (named_from disk Bytes128 (drop has.place cells) (Address own.cylinder own.head number (code_of sectors.size)) has.named, no_sector)

        by : Decided (IsSectorNumber sectors.first_sector sectors.sectors number) → (own.cylinder ≡ track.cylinder) ⊎ (own.cylinder ≡ track.cylinder → ⊥)
            → (own.head ≡ track.head) ⊎ (own.head ≡ track.head → ⊥) → (own ≡ track) × IsSectorNumber sectors.first_sector sectors.sectors number
        by (inl is) (inl row) (inl side) =
            (ap (λ (c : ℕ). let t : TrackId = record { cylinder = c; head = own.head } in t) row ∙ ap (λ (h : ℕ). let t : TrackId = record { cylinder = track.cylinder; head = h } in t) side, is)
        by (inr out) _ _ = absurd (other_stands (λ sector header. out (of_sector sector header).2))
        by (inl is) (inr out) _ = absurd (other_stands (λ sector header. out (of_sector sector header).0))
        by (inl is) (inl row) (inr out) = absurd (other_stands (λ sector header. out (of_sector sector header).1))

    pub only_own : HasNoOtherSector disk track (seen_in x)
    only_own own number has =
        has_only own number (subst (λ (cs : List Bool). HasName rate own (times x) (indexes x) cs sectors.size number) (cells_are disk Following track (times x) (indexes x)) has.name)

  -- Where it captures the track, each of them stands.
  module _ (image : List ℕ) (is : IsImage format image) (known : n < length (tracks format)) (capture : Capture x (ring_of format image n) (nominal_of format n)) where
    abbrev ring : List Bool
    ring = ring_of format image n

    abbrev written : WrittenTrack
    written = written_track format image n

    tracks_written : AreWritten format image
    tracks_written = are_written laws.numbers laws.rings laws.lie format image is

    abbrev piece : RingPiece
    piece = record { from = slice_index capture.places 0; count = last_in capture.places - slice_index capture.places 0 + 1 }

    of_piece : cells ≡ cells_of_ring_pieces ring piece []
    of_piece =
        laws.recovered format track x ring (tracks_written.known n known) (tracks_written.ring n known) capture ∙ sym (append-nil (stretch ring piece.from piece.count))

    -- each sector stands
    stands : (sector : ℕ) → IsSectorOf format n sector → (place : ℕ) × StandsBy Controller format track (drop place cells) sector (written.bytes_of sector)
    stands sector one =
        let has = tracks_written.has n sector one in
        let long : 2 * length ring ≤ piece.count = omega (arith, capture.two_turns) in
        let lies = laws.two_rings format image n is known piece sector long has in
        let place : ℕ = begin_of_piece (piece ∷ []) lies.0 + lies.1 in (
          place,
          subst (λ (cs : List Bool). StandsBy Controller format track (drop place cs) sector (written.bytes_of sector)) (sym of_piece)
              ((laws.pieces format image n is known piece []).0.whole_stands sector lies.0 lies.1 has lies.2),
        )

    -- its data are of the disk's rate
    abbrev pub IsOfRate : Type 0
    IsOfRate = (place behind : ℕ) (bytes : List ℕ) → data_at format (drop place cells) behind bytes → is_of_rate rate (times x) (indexes x) cells place behind ≡ true

    -- so that it has its name
    has_name : IsOfRate → (sector : ℕ) → IsSectorNumber sectors.first_sector sectors.sectors sector → HasName rate track (times x) (indexes x) cells sectors.size sector
    has_name of_rate sector one =
        let bytes : List ℕ = written.bytes_of sector in
        let here = stands sector (record { track = known; known = (one.least, one.most) }) in
        let front : List Bool = drop here.0 cells in
        let behind = here.1.1 in
        let named = (laws.names.told format track).of_sectors.has_name front sector here.1.0 in
        let told = name_is disk track named.0 sector named.2 in
        let few = few_sectors disk in
        let most = one.most in
        record {
          low = omega (arith, few, most);
          place = here.0;
          named = subst (λ (name : HeaderName). named_at (format_with_one rate Bytes128) front name) told.0 (named_to disk Bytes128 front named.0 named.1);
          whole = record { behind = behind.0; bytes = bytes; stand = data_to disk front behind.0 bytes behind.1; of_rate = of_rate here.0 behind.0 bytes behind.1 };
        }

    -- so it is of the stream
    pub owns : IsOfRate → (number : ℕ) → IsSectorNumber sectors.first_sector sectors.sectors number → HasNamed Own rate (seen_in x) track sectors.size number
    owns of_rate number one = record {
      read = refl;
      name = subst (λ (cs : List Bool). HasName rate track (times x) (indexes x) cs sectors.size number) (sym (cells_are disk Following track (times x) (indexes x)))
          (has_name of_rate number one);
    }

    pub owns_only : HasNoOtherSector disk track (seen_in x)
    owns_only = only_own (laws.no_others.whole format image x n is known capture)
