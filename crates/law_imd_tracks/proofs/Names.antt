-- Each header of a captured track names one of its sectors, and its whole data are the sector's.
use Rattle.std.proofs.Common.{◌≡◌, ◌<◌, ◌≤◌, ◌⊎◌, ◌+◌, ◌-◌, ◌*◌, ◌∙◌, ℕ, Bool, List, [], ◌∷◌, Option, Some, drop, length, append-nil, ap, refl, sym, subst, inl, inr, arith}
use Rattle.std.specs.Prelude.{Contains, slice_index}
use Rattle.std.proofs.lemmas.Bool.{cases_eq, cases_lt}
use Rattle.disk_recordings.specs.Laws.{AreTrackBytes, DataAreRead, NamesAreTold, RingsHaveCells}
use Rattle.disk_recordings.specs.Members.{data_at, header_at, named_at, ring_at}
use Rattle.disk_recordings.specs.declared.disk_id.DiskId.{DiskId}
use Rattle.flux_base.specs.declared.header_name.HeaderName.{HeaderName}
use Rattle.flux_base.specs.declared.header_name.HeaderName.TheVariants.{Address}
use Rattle.flux_base.specs.declared.track.TrackId.{TrackId}
use Rattle.flux_engine.specs.Captures.{Capture, IsSteady, SteadyCapturesAreRecovered}
use Rattle.flux_engine.specs.Recordings.{cells_by, track_at}
use Rattle.flux_engine.specs.Rings.{IsImage, disk_id, nominal_of, ring_of, track_bytes}
use Rattle.flux_engine.specs.Rules.{StandsBy}
use Rattle.flux_engine.specs.declared.plan.Rule.TheVariants.{Controller}
use Rattle.frame_law.specs.Controller.{START_ZEROS}
use Rattle.ibm_disks.specs.Disks.{rate_of, track_of_disk}
use Rattle.ibm_disks.specs.GapPlans.{density_of}
use Rattle.ibm_disks.specs.Numbers.{code_of}
use Rattle.ibm_disks.specs.declared.disk.IbmDisk.{IbmDisk}
use Rattle.ibm_disks.specs.declared.rate.Rate.{Rate}
use Rattle.ibm_disks.specs.declared.sector_size.SectorSize.{SectorSize}
use Rattle.ibm_disks.specs.declared.sector_size.SectorSize.TheVariants.{Bytes128}
use Rattle.ibm_disks.specs.declared.track_numbers.TrackNumbers.{TrackNumbers}
use Rattle.ibm_fields.specs.Fields.{DATA_BYTE}
use Rattle.ibm_walks.specs.Headers.{FoundName, HoldBy, IsNameAt, IsNamed, address_of, mark_at, size_of_code}
use Rattle.ibm_walks.specs.Rates.{cells_at, format_with_one}
use Rattle.ibm_walks.specs.Walks.{AreNamesBy}
use Rattle.kryo_stream.specs.Stream.{indexes, times}
use Rattle.law_captured_disks.specs.Frames.{written_track}
use Rattle.law_captured_disks.specs.Headline.{IsSectorOf}
use Rattle.law_captured_disks.specs.Others.{CapturesHaveNoOthers}
use Rattle.law_captured_disks.specs.lemmas.TrackBytes.{are_sectors}
use Rattle.law_captured_disks.specs.lemmas.WrittenTracks.{AreWritten, are_written}
use Rattle.law_decoded_rings.specs.Pieces.{RingPiece, begin_of_piece, cells_of_ring_pieces}
use Rattle.law_decoded_rings.specs.Verdicts.{PiecesAreRightWithin, TwoRingsHaveSectors}
use Rattle.law_numbered_dumps.specs.lemmas.Recorded.{cells_are, data_from, data_to, is_name, name_is, named_from, named_to}
use Rattle.name_book.specs.Names.{NotedData}
use Rattle.name_book.specs.declared.name.NamedHeader.{NamedHeader}
use Rattle.name_book.specs.declared.name.SectorName.{SectorName}
use Rattle.sector_images.specs.Places.{IsTrack, NumbersNameTracks, SectorsLieInImages, tracks}
use Rattle.sector_images.specs.declared.format.Format.{Format}
use Rattle.sector_images.specs.declared.format.Format.TheVariants.{Numbered}
use Rattle.track_rings.specs.OwnSectors.{between_zeros}
use Rattle.track_rings.specs.Rings.{IsSectorNumber, last_in, stretch}
use Rattle.turn_merge.specs.declared.clock.Clock.{Clock}
use Rattle.law_imd_tracks.proofs.Searches.{code_is, found_stands, number_is, row_is, side_is, size_is}
use Rattle.law_imd_tracks.proofs.Standing.{header_met, whole_met}
use Rattle.law_imd_tracks.specs.Headline.{AreDataOn, AreOfTrack, IsNameOn, name_on}
use Rattle.law_imd_tracks.specs.lemmas.Elements.{flat_from, map_from}

-- what the crates below promise
pub record Laws : Type 0 where
  pub numbers : NumbersNameTracks
  pub lie : SectorsLieInImages
  pub rings : RingsHaveCells
  pub steady : SteadyCapturesAreRecovered
  pub names : NamesAreTold
  pub no_others : CapturesHaveNoOthers
  pub reads : DataAreRead
  pub two_rings : (format : Format) (image : List ℕ) (k : ℕ) → IsImage format image → k < length (tracks format)
      → TwoRingsHaveSectors (StandsBy Controller format (track_at format k)) (written_track format image k)
  pub pieces : (format : Format) (image : List ℕ) (k : ℕ) → IsImage format image → k < length (tracks format)
      → PiecesAreRightWithin (StandsBy Controller format (track_at format k)) (written_track format image k) START_ZEROS
  pub marked : (disk : IbmDisk) (id : DiskId) (track : TrackId) (bytes : List ℕ) (zeros from count behind place s at : ℕ) (xs : List ℕ) → IsTrack (Numbered disk) track
      → AreTrackBytes (Numbered disk) track bytes
      → let cells = drop place (between_zeros (ring_at (Numbered disk) id track bytes) zeros from count behind) in
      header_at (Numbered disk) track cells s → data_at (Numbered disk) cells at xs → mark_at (density_of (rate_of disk)) cells at ≡ DATA_BYTE

module _ (laws : Laws) (clock : Clock) (disk : IbmDisk) (image x : List ℕ) (n dump : ℕ) (headers : List NamedHeader) (noted : List NotedData) (is : IsImage (Numbered disk) image)
    (known : n < length (tracks (Numbered disk))) (capture : Capture x (ring_of (Numbered disk) image n) (nominal_of (Numbered disk) n))
    (keeps : IsSteady x (ring_of (Numbered disk) image n) (nominal_of (Numbered disk) n) capture) (are : AreNamesBy clock (rate_of disk) dump (times x) (indexes x) headers noted) where
  abbrev format : Format
  format = Numbered disk

  abbrev rate : Rate
  rate = rate_of disk

  abbrev sectors : TrackNumbers
  sectors = track_of_disk disk

  abbrev track : TrackId
  track = track_at format n

  abbrev read : List Bool
  read = cells_at clock rate (times x) (indexes x)

  abbrev cells : List Bool
  cells = cells_by clock format track (times x) (indexes x)

  same : read ≡ cells
  same = cells_are disk clock track (times x) (indexes x)

  written : AreWritten format image
  written = are_written laws.numbers laws.rings laws.lie format image is

  abbrev piece : RingPiece
  piece = record { from = slice_index capture.places 0; count = last_in capture.places - slice_index capture.places 0 + 1 }

  of_piece : cells ≡ cells_of_ring_pieces (ring_of format image n) piece []
  of_piece =
      laws.steady clock format track x (ring_of format image n) (written.known n known) (written.ring n known) capture keeps
      ∙ sym (append-nil (stretch (ring_of format image n) piece.from piece.count))

  -- a header that stands names one of the sectors
  module _ (place : ℕ) (name : SectorName) (here : named_at format (drop place cells) (Address name.cylinder name.head name.number name.code)) where
    abbrev told : HeaderName
    told = Address name.cylinder name.head name.number name.code

    of_sector : (sector : ℕ) → header_at format track (drop place cells) sector → IsNameOn disk n name
    of_sector sector header =
        let headers_told = laws.names.told format track in
        let other = headers_told.of_sectors.has_name (drop place cells) sector header in
        let told_is = name_is disk track other.0 sector other.2 in
        let one = headers_told.one_name (drop place cells) told other.0 here other.1 ∙ told_is.0 in
        let row = row_is name.cylinder name.head name.number name.code track.cylinder track.head sector (code_of sectors.size) one in
        let side = side_is name.cylinder name.head name.number name.code track.cylinder track.head sector (code_of sectors.size) one in
        let number = number_is name.cylinder name.head name.number name.code track.cylinder track.head sector (code_of sectors.size) one in
        let code = code_is name.cylinder name.head name.number name.code track.cylinder track.head sector (code_of sectors.size) one in
        record {
          sector = sector;
          known = record { track = known; known = (told_is.1.least, told_is.1.most) };
          is = ap (λ (k : ℕ). record name { cylinder = k }) row ∙ ap (λ (k : ℕ). record name { cylinder = track.cylinder; head = k }) side
              ∙ ap (λ (k : ℕ). record name { cylinder = track.cylinder; head = track.head; number = k }) number
              ∙ ap (λ (k : ℕ). let m : SectorName = record { cylinder = track.cylinder; head = track.head; number = sector; code = k } in m) code;
        }

    some_sector : ((sector : ℕ) → ¬ header_at format track (drop place cells) sector) → ⊥
    some_sector none = laws.no_others.steady clock format image x n is known capture keeps place told (here, none)

    -- it is decided
    name_on_track : IsNameOn disk n name
    name_on_track =
        by (cases_eq name.cylinder track.cylinder) (cases_eq name.head track.head) (cases_eq name.code (code_of sectors.size)) (cases_lt name.number sectors.first_sector)
        (cases_lt name.number (sectors.first_sector + sectors.sectors))
      where
        out : (IsNameOn disk n name → ⊥) → ⊥
        out not = some_sector (λ sector header. not (of_sector sector header))

        by : (name.cylinder ≡ track.cylinder) ⊎ (name.cylinder ≡ track.cylinder → ⊥) → (name.head ≡ track.head) ⊎ (name.head ≡ track.head → ⊥)
            → (name.code ≡ code_of sectors.size) ⊎ (name.code ≡ code_of sectors.size → ⊥) → (name.number < sectors.first_sector) ⊎ (sectors.first_sector ≤ name.number)
            → (name.number < sectors.first_sector + sectors.sectors) ⊎ (sectors.first_sector + sectors.sectors ≤ name.number) → IsNameOn disk n name
        by (inl row) (inl side) (inl code) (inr least) (inl most) = record {
          sector = name.number;
          known = record { track = known; known = (least, most) };
          is = ap (λ (k : ℕ). record name { cylinder = k }) row ∙ ap (λ (k : ℕ). record name { cylinder = track.cylinder; head = k }) side
              ∙ ap (λ (k : ℕ). record name { cylinder = track.cylinder; head = track.head; code = k }) code;
        }
        by (inr not) _ _ _ _ = absurd (out (λ one. not (ap (λ (m : SectorName). m.cylinder) one.is)))
        by (inl row) (inr not) _ _ _ = absurd (out (λ one. not (ap (λ (m : SectorName). m.head) one.is)))
        by (inl row) (inl side) (inr not) _ _ = absurd (out (λ one. not (ap (λ (m : SectorName). m.code) one.is)))
        by (inl row) (inl side) (inl code) (inl below) _ =
            absurd (out (λ one. let at = ap (λ (m : SectorName). m.number) one.is in let least = one.known.known.0 in omega (arith, at, least, below)))
        by (inl row) (inl side) (inl code) (inr least) (inr past) =
            absurd (out (λ one. let at = ap (λ (m : SectorName). m.number) one.is in let most = one.known.known.1 in omega (arith, at, most, past)))

    -- and data behind it are the sector's
    own_data : (behind : ℕ) (held : List ℕ) → HoldBy rate (size_of_code name.code) (drop place cells) behind held → AreDataOn disk image n (record { name = name; held = held })
    own_data behind held stands =
        let on = name_on_track in
        let code : name.code ≡ code_of sectors.size = ap (λ (m : SectorName). m.code) on.is in
        let hold : HoldBy rate (Some sectors.size) (drop place cells) behind held =
        subst (λ (o : Option SectorSize). HoldBy rate o (drop place cells) behind held) (ap size_of_code code ∙ size_is sectors.size) stands in
        let one : IsSectorNumber sectors.first_sector sectors.sectors on.sector = record { least = on.known.known.0; most = on.known.known.1 } in
        let header = (laws.names.told format track).of_sectors.is_named (drop place cells) told on.sector here
        (is_name disk track told on.sector (ap (λ (m : SectorName). Address m.cylinder m.head m.number m.code) on.is, one)) in
        let sector_stands : StandsBy Controller format track (drop place cells) on.sector hold.bytes = (header, (behind, data_from disk (drop place cells) behind hold.bytes hold.stand)) in
        let own = (laws.pieces format image n is known piece []).0.own_bytes place on.sector hold.bytes
        (subst (λ (cs : List Bool). StandsBy Controller format track (drop place cs) on.sector hold.bytes) of_piece sector_stands) in
        let mark = laws.marked disk (disk_id format image) track (track_bytes format track image) 0 piece.from piece.count 0 place on.sector behind hold.bytes
        (written.known n known) (are_sectors laws.lie format track image is (written.known n known))
        (subst (λ (cs : List Bool). header_at format track (drop place cs) on.sector) of_piece header)
        (subst (λ (cs : List Bool). data_at format (drop place cs) behind hold.bytes) of_piece (data_from disk (drop place cells) behind hold.bytes hold.stand)) in
        let here = ap (λ (cs : List Bool). mark_at (density_of rate) (drop place cs) behind) of_piece ∙ mark in
        record {
          name = on;
          held = hold.are ∙ ap (λ (m : ℕ). m ∷ hold.bytes) here
              ∙ ap (λ (bytes : List ℕ). DATA_BYTE ∷ bytes) (own ∙ written.content n on.sector on.known);
        }

  -- each sector stands
  stands : (sector : ℕ) → IsSectorOf format n sector → (place : ℕ) × StandsBy Controller format track (drop place cells) sector ((written_track format image n).bytes_of sector)
  stands sector one =
      let has = written.has n sector one in
      let long : 2 * length (ring_of format image n) ≤ piece.count = omega (arith, capture.two_turns) in
      let lies = laws.two_rings format image n is known piece sector long has in
      let place : ℕ = begin_of_piece (piece ∷ []) lies.0 + lies.1 in (
        place,
        subst (λ (cs : List Bool). StandsBy Controller format track (drop place cs) sector ((written_track format image n).bytes_of sector)) (sym of_piece)
            ((laws.pieces format image n is known piece []).0.whole_stands sector lies.0 lies.1 has lies.2),
      )

  module _ (sector : ℕ) (one : IsSectorOf format n sector) where
    abbrev its_name : SectorName
    its_name = name_on disk track sector

    abbrev place : ℕ
    place = (stands sector one).0

    header : named_at format (drop place cells) (address_of its_name)
    header =
        let named = (laws.names.told format track).of_sectors.has_name (drop place cells) sector (stands sector one).1.0 in
        subst (named_at format (drop place cells)) (name_is disk track named.0 sector named.2).0 named.1

    read_header : IsNamed rate (drop place read) (address_of its_name)
    read_header =
        subst (λ (cs : List Bool). IsNamed rate (drop place cs) (address_of its_name)) (sym same) (named_to disk Bytes128 (drop place cells) (address_of its_name) header)

  -- what is found at a place
  stands_at : (f : ℕ × FoundName) → Contains are.found f → IsNameAt rate dump (times x) (indexes x) read f.0 f.1
  stands_at f has = found_stands (IsNameAt rate dump (times x) (indexes x) read) 0 are.found f are.all has

  named_here : (f : ℕ × FoundName) → Contains are.found f → named_at format (drop f.0 cells) (Address f.1.0.name.cylinder f.1.0.name.head f.1.0.name.number f.1.0.name.code)
  named_here f has =
      named_from disk Bytes128 (drop f.0 cells) (Address f.1.0.name.cylinder f.1.0.name.head f.1.0.name.number f.1.0.name.code)
      (subst (λ (cs : List Bool). IsNamed rate (drop f.0 cs) (Address f.1.0.name.cylinder f.1.0.name.head f.1.0.name.number f.1.0.name.code)) same (stands_at f has).named)

  names_own : (header : NamedHeader) → Contains headers header → IsNameOn disk n header.name
  names_own header has =
      let from = map_from (λ (f : ℕ × FoundName). f.1.0) are.found header (subst (λ (hs : List NamedHeader). Contains hs header) are.headers_are has) in
      subst (λ (h : NamedHeader). IsNameOn disk n h.name) from.2 (name_on_track from.0.0 from.0.1.0.name (named_here from.0 from.1))

  held_own : (d : NotedData) → Contains noted d → AreDataOn disk image n d
  held_own d has =
      let from = flat_from (λ (f : ℕ × FoundName). f.1.1) are.found d (subst (λ (ds : List NotedData). Contains ds d) are.data_are has) in
      let f = from.0 in
      let at = stands_at f from.1 in
      let data_from_list = map_from (λ (h : ℕ × List ℕ). let m : NotedData = record { name = f.1.0.name; held = h.1 } in m) at.held d (subst (λ (ds : List NotedData). Contains ds d) at.are from.2) in
      let h = data_from_list.0 in
      let stands = found_stands (HoldBy rate (size_of_code f.1.0.name.code) (drop f.0 read)) 0 at.held h at.all data_from_list.1 in
      subst (AreDataOn disk image n) data_from_list.2
      (own_data f.0 f.1.0.name (named_here f from.1) h.0 h.1 (subst (λ (cs : List Bool). HoldBy rate (size_of_code f.1.0.name.code) (drop f.0 cs) h.0 h.1) same stands))

  -- each sector has a header
  each_met : (sector : ℕ) → IsSectorOf format n sector → (header : NamedHeader) × Contains headers header × (header.name ≡ name_on disk track sector)
  each_met sector one =
      header_met laws.names laws.reads clock rate dump (times x) (indexes x) headers noted are sectors.size (name_on disk track sector) refl (place sector one) (read_header sector one)

  -- and whole data
  its_stand : (sector : ℕ) (one : IsSectorOf format n sector)
      → data_at (format_with_one rate sectors.size) (drop (place sector one) read) (stands sector one).1.1.0 ((written_track format image n).bytes_of sector)
  its_stand sector one =
      data_to disk (drop (place sector one) read) (stands sector one).1.1.0 ((written_track format image n).bytes_of sector)
      (subst (λ (cs : List Bool). data_at format (drop (place sector one) cs) (stands sector one).1.1.0 ((written_track format image n).bytes_of sector)) (sym same) (stands sector one).1.1.1)

  whole_by : (sector : ℕ) (mark : ℕ) (bytes : List ℕ) → (let d : NotedData = record { name = name_on disk track sector; held = mark ∷ bytes } in Contains noted d)
      → (d : NotedData) × Contains noted d × (d.name ≡ name_on disk track sector)
  whole_by sector mark bytes has = (record { name = name_on disk track sector; held = mark ∷ bytes }, has, refl)

  whole_of : (sector : ℕ) → IsSectorOf format n sector → (d : NotedData) × Contains noted d × (d.name ≡ name_on disk track sector)
  whole_of sector one =
      whole_by sector _ _
      (whole_met laws.names laws.reads clock rate dump (times x) (indexes x) headers noted are sectors.size (name_on disk track sector) refl (place sector one) (read_header sector one)
      (stands sector one).1.1.0 ((written_track format image n).bytes_of sector) (its_stand sector one))

  pub of_track : AreOfTrack disk image n headers noted
  of_track = record { names = names_own; held = held_own; each = each_met; whole = whole_of }
