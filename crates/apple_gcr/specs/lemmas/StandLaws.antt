-- What cells name and hold is one thing, and is told by their own cells and by all of these but the
-- last seven; and the numbers of the recording.
use Rattle.std.specs.Prelude.{◌≡◌, ℕ, suc, ◌+◌, ◌-◌, ◌*◌, ◌%◌, ◌<◌, ◌≤◌, Bool, List, bit_and}
use Rattle.std.specs.Prelude.{bit_or, refl}
use Rattle.std.proofs.Common.{ap, sym, ◌∙◌, arith, lit<, lit≤}
use Rattle.flux_base.specs.declared.track.TrackId.{TrackId}
use Rattle.frame_law.specs.lemmas.Named.{named-by_numbers}
use Rattle.frame_law.specs.Frames.{AreSizes, IsWithinReach}
use Rattle.track_rings.specs.Rows.{frame_size, ring_size, total}
use Rattle.apple_gcr.specs.DiskBytes.{byte_read, bytes_end}
use Rattle.apple_gcr.specs.FourAndFour.{AreHalves}
use Rattle.apple_gcr.specs.Layout.{row_size, rows}
use Rattle.apple_gcr.specs.lemmas.ByteLaws.{end-least, end-more, end-most, place-least, same_end}
use Rattle.apple_gcr.specs.lemmas.ByteLaws.{same_place, same_read}
use Rattle.apple_gcr.specs.lemmas.HalfLaws.{halves-read}
use Rattle.apple_gcr.specs.Sectors.{Hold, IsAddress, IsAddressOf, Names, NamesSector, data_end}
use Rattle.apple_gcr.specs.Sectors.{header_end, opening_end, opening_place}
use Rattle.apple_gcr.specs.SixAndTwo.{AreCoded}
use Rattle.apple_gcr.specs.lemmas.ValueLaws.{one_carried, one_list}
use Rattle.track_rings.specs.lemmas.Fronts.{AgreeTo, agree-stands}
use Rattle.frame_law.specs.lemmas.FrameSizes.{AreSizes-fit}
use Rattle.frame_law.specs.lemmas.OwnFrames.{TellsEarly, TellsEnds}
use Rattle.frame_law.specs.Others.{NamesSectors}
use Rattle.flux_base.specs.declared.header_name.HeaderName.{HeaderName}
use Rattle.flux_base.specs.declared.header_name.HeaderName.TheVariants.{Address, TrackSector}
use Rattle.flux_base.specs.declared.header_name.HeaderName.TheVariants.{TrackSectorSide}
use Rattle.apple_nibbles.specs.Marks.{IsSync}
use Rattle.apple_nibbles.specs.Nibbles.{disk_byte}
use Rattle.apple_nibbles.specs.lemmas.FieldBytes.{same_byte}

pub sizes : AreSizes 1 3 24 88 2
sizes = AreSizes-fit (lit≤ tt) (lit≤ tt) (lit≤ tt) (lit≤ tt) (lit≤ tt) (lit≤ tt) (lit≤ tt)

pub within_reach : IsWithinReach 88 172 2768
within_reach = record { after = lit≤ tt; near = lit< tt; few = lit≤ tt }

-- the rows of a frame, and those of a track
pub sums : (frame_size row_size 256 rows ≡ 2940) × (ring_size row_size 16 256 rows ≡ 49994)
unfolding total
sums = (refl, refl)

-- the byte whose halves these are
pub byte_read_from : (high low byte : ℕ) → AreHalves high low byte
    → bit_and (bit_or (high * 2 % 256) 1) low ≡ byte
byte_read_from high low byte halves =
    ap (λ (first : ℕ). bit_and (bit_or (first * 2 % 256) 1) low) halves.first
    ∙ ap (bit_and _) halves.second ∙ halves-read byte halves.fits

pub one_byte : (high low x y : ℕ) → AreHalves high low x → AreHalves high low y → x ≡ y
one_byte high low x y first second =
    sym (byte_read_from high low x first) ∙ byte_read_from high low y second

one_pair : (a b c d : ℕ) → a ≡ b → c ≡ d → TrackSector a c ≡ TrackSector b d
one_pair a b c d first second = cc

pub one_name : (passed : ℕ) (cells : List Bool) (n m : HeaderName) → Names passed cells n
    → Names passed cells m → n ≡ m
one_name passed cells (Address cylinder head sector size) m first second = absurd first
one_name passed cells (TrackSectorSide number sector side format) m first second = absurd first
one_name passed cells (TrackSector track s) (Address cylinder head sector size) first second =
    absurd second
one_name passed cells (TrackSector track s) (TrackSectorSide number sector side format) first
    second = absurd second
one_name passed cells (TrackSector track s) (TrackSector other t) first second =
    one_pair track other s t (one_byte _ _ track other first.has_track second.has_track)
    (one_byte _ _ s t first.has_sector second.has_sector)

pub named_sector : (passed : ℕ) (track : TrackId)
    → NamesSectors (Names passed) (λ name s. name ≡ TrackSector track.cylinder s)
    (NamesSector passed track)
named_sector passed track = named-by_numbers (Names passed) track.cylinder

pub one_content : (passed : ℕ) (cells : List Bool) (sync : ℕ) (xs ys : List ℕ)
    → Hold passed cells sync xs → Hold passed cells sync ys → xs ≡ ys
one_content passed cells sync xs ys first second =
    let a = first.coded in
    let b = second.coded in
    one_carried first.values second.values xs ys
    (one_list (byte_read passed cells (opening_end passed cells sync)) first.values second.values
    a.count b.count a.fit b.fit
    (λ k within. a.stand k (omega arith)) (λ k within. b.stand k (omega arith)))
    first.carried second.carried

-- an address of bytes that are the same
pub same_address : (track : ℕ) (read other : ℕ → ℕ) (s : ℕ) → ((k : ℕ) → k < 8 → other k ≡ read k)
    → IsAddress track read s → IsAddress track other s
same_address track read other s same address = record {
  volume = address.volume;
  has_volume = same_halves 0 1 address.volume (lit< tt) (lit< tt) address.has_volume;
  has_track = same_halves 2 3 track (lit< tt) (lit< tt) address.has_track;
  has_sector = same_halves 4 5 s (lit< tt) (lit< tt) address.has_sector;
  has_check = same_halves 6 7 _ (lit< tt) (lit< tt) address.has_check;
}
  where
    same_halves : (i j byte : ℕ) → i < 8 → j < 8 → AreHalves (read i) (read j) byte
        → AreHalves (other i) (other j) byte
    same_halves i j byte first second halves =
        record {
          fits = halves.fits;
          first = same i first ∙ halves.first;
          second = same j second ∙ halves.second;
        }

pub same_named : (read other : ℕ → ℕ) (name : HeaderName) → ((k : ℕ) → k < 8 → other k ≡ read k)
    → IsAddressOf read name → IsAddressOf other name
same_named read other (TrackSector track s) same address =
    same_address track read other s same address
same_named read other (Address cylinder head sector size) same address = absurd address
same_named read other (TrackSectorSide number sector side format) same address = absurd address

-- the numbers of a name
pub address_numbers : (read : ℕ → ℕ) (name : HeaderName) → IsAddressOf read name
    → (track sector : ℕ) × IsAddress track read sector
address_numbers read (TrackSector track sector) address = (track, sector, address)
address_numbers read (Address cylinder head sector size) address = absurd address
address_numbers read (TrackSectorSide number sector side format) address = absurd address

-- and values of such
pub same_coded : (read other : ℕ → ℕ) (values : List ℕ) → ((k : ℕ) → k < 343 → other k ≡ read k)
    → AreCoded read values → AreCoded other values
same_coded read other values same coded = record {
  count = coded.count;
  fit = coded.fit;
  stand = λ k within. same k within ∙ coded.stand k within;
}

-- headers and data end after so many cells at least
header_least : (passed : ℕ) (cells : List Bool) → 88 ≤ header_end passed cells
header_least passed cells = omega (arith, end-least passed cells 24 8)

pub data_least : (passed : ℕ) (cells : List Bool) (sync : ℕ)
    → sync + 2768 ≤ data_end passed cells sync
data_least passed cells sync =
    omega (
      arith,
      end-least passed cells (opening_end passed cells sync) 343,
      place-least passed cells (sync + 16),
    )

synced : (cells others : List Bool) (place : ℕ) → AgreeTo (place + 2768 - 7) cells others
    → IsSync cells place → IsSync others place
synced cells others place same stands =
    agree-stands (place + 2768 - 7) cells others same 0xD5AA 16 place (omega arith) stands

module _ (passed : ℕ) (few : passed ≤ 7) where
  module _ (total : ℕ) (cells others : List Bool) (same : AgreeTo total cells others) where
    -- the header's bytes, so many
    header_bytes : (count k : ℕ) → bytes_end passed cells 24 count ≤ total → k < count
        → byte_read passed others 24 k ≡ byte_read passed cells 24 k
    header_bytes count k within below =
        let e : suc k + (count - suc k) ≡ count = omega arith in
        let all = ap (bytes_end passed cells 24) e in
        let more = end-more passed cells 24 (suc k) (count - suc k) in
        same_read passed few total cells others same 24 k (omega (arith, all, more, within))

    opening : (sync : ℕ) → opening_end passed cells sync ≤ total
        → opening_place passed others sync ≡ opening_place passed cells sync
    opening sync within =
        same_place passed few total cells others same (sync + 16)
        (omega (arith, place-least passed cells (sync + 16), within))

    opening_same : (sync : ℕ) → opening_end passed cells sync ≤ total
        → opening_end passed others sync ≡ opening_end passed cells sync
    opening_same sync within = ap (λ (n : ℕ). n + 8) (opening sync within)

    -- and the data's
    data_bytes : (sync count k : ℕ)
        → bytes_end passed cells (opening_end passed cells sync) count ≤ total → k < count
        → byte_read passed others (opening_end passed others sync) k
        ≡ byte_read passed cells (opening_end passed cells sync) k
    data_bytes sync count k within below =
        let from = opening_end passed cells sync in
        let e : suc k + (count - suc k) ≡ count = omega arith in
        let all = ap (bytes_end passed cells from) e in
        let more = end-more passed cells from (suc k) (count - suc k) in
        let least = end-least passed cells from count in
        ap (λ (n : ℕ). byte_read passed others n k)
        (opening_same sync (omega (arith, least, within)))
        ∙ same_read passed few total cells others same from k (omega (arith, all, more, within))

  named : (cells others : List Bool) (n : HeaderName)
      → AgreeTo (header_end passed cells) cells others → Names passed cells n
      → Names passed others n
  named cells others (Address cylinder head sector size) same names = absurd names
  named cells others (TrackSectorSide number sector side format) same names = absurd names
  named cells others (TrackSector track s) same names =
      same_address track (byte_read passed cells 24) (byte_read passed others 24) s
      (λ k below. header_bytes (header_end passed cells) cells others same 8 k (omega arith) below)
      names

  -- the numbers stand before the last seven cells
  named_early : (cells others : List Bool) (n m : HeaderName)
      → AgreeTo (header_end passed cells - 7) cells others
      → Names passed cells n → Names passed others m → n ≡ m
  named_early cells others (Address cylinder head sector size) m same first second = absurd first
  named_early cells others (TrackSectorSide number sector side format) m same first second =
      absurd first
  named_early cells others (TrackSector track s) (Address cylinder head sector size) same first
      second = absurd second
  named_early cells others (TrackSector track s) (TrackSectorSide number sector side format) same
      first second = absurd second
  named_early cells others (TrackSector track s) (TrackSector number t) same first second =
      let total = header_end passed cells - 7 in
      let more = end-more passed cells 24 6 2 in
      let at : (k : ℕ) → k < 6 → byte_read passed others 24 k ≡ byte_read passed cells 24 k =
      λ k below. header_bytes total cells others same 6 k (omega (arith, more)) below in
      let there : (i j byte : ℕ) → i < 6 → j < 6
      → AreHalves (byte_read passed cells 24 i) (byte_read passed cells 24 j) byte
      → AreHalves (byte_read passed others 24 i) (byte_read passed others 24 j) byte =
      λ i j byte low high halves.
      record {
        fits = halves.fits;
        first = at i low ∙ halves.first;
        second = at j high ∙ halves.second;
      } in
      one_pair track number s t
      (one_byte (byte_read passed others 24 2) (byte_read passed others 24 3) track number
      (there 2 3 track (lit< tt) (lit< tt) first.has_track) second.has_track)
      (one_byte (byte_read passed others 24 4) (byte_read passed others 24 5) s t
      (there 4 5 s (lit< tt) (lit< tt) first.has_sector) second.has_sector)

  held : (cells others : List Bool) (sync : ℕ) (bytes : List ℕ)
      → AgreeTo (data_end passed cells sync) cells others
      → Hold passed cells sync bytes → Hold passed others sync bytes
  held cells others sync bytes same hold =
      let total = data_end passed cells sync in
      let least = end-least passed cells (opening_end passed cells sync) 343 in
      record {
        opens = ap (disk_byte others) (opening total cells others same sync (omega (arith, least)))
            ∙ same_byte total cells others same (opening_place passed cells sync)
            (omega (arith, least))
            ∙ hold.opens;
        values = hold.values;
        coded = same_coded (byte_read passed cells (opening_end passed cells sync))
            (byte_read passed others (opening_end passed others sync)) hold.values
            (λ k below. data_bytes total cells others same sync 343 k (omega arith) below)
            hold.coded;
        carried = hold.carried;
      }

  -- so do all nibbles but that of the check value
  held_early : (cells others : List Bool) (sync : ℕ) (xs ys : List ℕ)
      → AgreeTo (data_end passed cells sync - 7) cells others
      → Hold passed cells sync xs → Hold passed others sync ys → xs ≡ ys
  held_early cells others sync xs ys same first second =
      let a = first.coded in
      let b = second.coded in
      let total = data_end passed cells sync - 7 in
      let from = opening_end passed cells sync in
      let more = end-more passed cells from 342 1 in
      one_carried first.values second.values xs ys
      (one_list (byte_read passed others (opening_end passed others sync)) first.values
      second.values a.count b.count a.fit b.fit
      (λ k within.
      data_bytes total cells others same sync 342 k (omega (arith, more)) within
      ∙ a.stand k (omega arith)) (λ k within. b.stand k (omega arith)))
      first.carried second.carried

  pub tells_ends : TellsEnds 88 2768 (header_end passed) (data_end passed)
  tells_ends = record {
    some = lit≤ tt;
    header_least = header_least passed;
    header_most = λ cells. omega (arith, end-most passed few cells 24 8);
    header_told = λ cells others same.
        same_end passed few (header_end passed cells) cells others same 24 8 (omega arith);
    data_least = data_least passed;
    data_told = λ cells others sync same.
        let total = data_end passed cells sync in
        let from = opening_end passed cells sync in
        let least = end-least passed cells from 343 in
        ap (λ (n : ℕ). bytes_end passed others n 343)
        (opening_same total cells others same sync (omega (arith, least)))
        ∙ same_end passed few total cells others same from 343 (omega arith);
  }

  pub tells : TellsEarly 24 88 2768 (header_end passed) (data_end passed) (Names passed) IsSync
      (Hold passed)
  tells = record {
    sync_within = lit≤ tt;
    named = named;
    named_early = named_early;
    synced = synced;
    held = held;
    held_early = held_early;
  }
