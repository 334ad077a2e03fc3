-- The table of a track: how many cells its rows have. And what cells name and hold is one thing.
use Rattle.std.specs.Prelude.{◌≡◌, ℕ, ◌+◌, ◌*◌, ◌/◌, Bool, List, [], ◌∷◌, length, map, refl}
use Rattle.std.specs.Int.{to_be_bytes, w32}
use Rattle.std.specs.List.{flat_map}
use Rattle.std.proofs.Common.{ap, sym, ◌∙◌, arith, length-append, lit≤}
use Rattle.std.proofs.lemmas.List.{length-map, length-replicate}
use Rattle.std.proofs.lemmas.Simd.{length-zip2}
use Rattle.flux_base.specs.declared.track.TrackId.{TrackId}
use Rattle.frame_law.specs.lemmas.Named.{named-by_numbers}
use Rattle.frame_law.specs.lemmas.FrameSizes.{AreSizes-fit}
use Rattle.frame_law.specs.Frames.{AreSizes}
use Rattle.mfm_coding.specs.declared.symbol.Symbol.TheVariants.{Data}
use Rattle.amiga_mfm.specs.declared.half.Half.TheVariants.{Odd, Even}
use Rattle.amiga_mfm.specs.declared.layout.Disk.{Disk}
use Rattle.amiga_mfm.specs.declared.layout.Row.{Row}
use Rattle.amiga_mfm.specs.declared.layout.Row.TheVariants.{Run, Header, Content, TrackGap}
use Rattle.amiga_mfm.specs.Layout.{content_halves, halves_symbols, header_halves, info_of, row_size}
use Rattle.amiga_mfm.specs.Layout.{row_symbols}
use Rattle.amiga_mfm.specs.lemmas.LongLaws.{length-raw}
use Rattle.amiga_mfm.specs.Longs.{half_bytes, half_of, halves, long_of_halves, longs_at, longs_of}
use Rattle.amiga_mfm.specs.Longs.{raw_longs}
use Rattle.amiga_mfm.specs.Sectors.{Hold, Names, NamesSector, track_number}
use Rattle.flux_base.specs.declared.header_name.HeaderName.{HeaderName}
use Rattle.flux_base.specs.declared.header_name.HeaderName.TheVariants.{Address, TrackSector}
use Rattle.flux_base.specs.declared.header_name.HeaderName.TheVariants.{TrackSectorSide}
use Rattle.frame_law.specs.Others.{NamesSectors}

pub length-halves : (longs : List ℕ) → length (halves longs) ≡ 2 * length longs
length-halves longs =
    let all = length-append (map (half_of Odd) longs) (map (half_of Even) longs) in
    omega (arith, all, length-map longs (half_of Odd), length-map longs (half_of Even))

length-half_bytes : (some : List ℕ) → length (flat_map half_bytes some) ≡ 2 * length some
unfolding half_bytes
length-half_bytes [] = refl
length-half_bytes (half ∷ some) = let e = length-half_bytes some in omega (arith, e)

pub length-halves_symbols : (some : List ℕ) → length (halves_symbols some) ≡ 2 * length some
length-halves_symbols some = length-map (flat_map half_bytes some) Data ∙ length-half_bytes some

pub length-longs_of : (bytes : List ℕ) → length (longs_of bytes) ≡ length bytes / 4
unfolding longs_of
length-longs_of [] = refl
length-longs_of (a ∷ []) = refl
length-longs_of (a ∷ b ∷ []) = refl
length-longs_of (a ∷ b ∷ c ∷ []) = refl
length-longs_of (a ∷ b ∷ c ∷ d ∷ bytes) = let e = length-longs_of bytes in omega (arith, e)

pub symbols_sized : (disk : Disk) (track : TrackId) (sector : ℕ) (bytes : List ℕ) (row : Row)
    → 16 * length (row_symbols disk track sector bytes row) ≡ row_size disk (length bytes) row
symbols_sized disk track sector bytes (Run count symbol) =
    ap (λ (n : ℕ). 16 * n) (length-replicate count symbol)
symbols_sized disk track sector bytes Header =
    ap (λ (n : ℕ). 16 * n) (length-halves_symbols (header_halves (info_of disk track sector)))
symbols_sized disk track sector bytes TrackGap =
    ap (λ (n : ℕ). 16 * n) (length-replicate disk.track_gap (Data 0x00))
symbols_sized disk track sector bytes Content =
    let longs = longs_of bytes in
    let e = length-halves_symbols (content_halves longs) in
    omega (arith, e, length-halves longs, length-longs_of bytes)

-- the numbers of the recording
pub sizes : AreSizes 2 4 32 480 2
sizes = AreSizes-fit (lit≤ tt) (lit≤ tt) (lit≤ tt) (lit≤ tt) (lit≤ tt) (lit≤ tt) (lit≤ tt)

pub one_name : (cells : List Bool) (n m : HeaderName) → Names cells n → Names cells m → n ≡ m
one_name cells (TrackSector track s) (TrackSector other t) first second =
    let same : 0xFF ∷ track ∷ s ∷ [] ≡ 0xFF ∷ other ∷ t ∷ [] = sym first.info ∙ second.info in
    cc
one_name cells (TrackSector track s) (Address cylinder head sector size) first second =
    absurd second
one_name cells (TrackSector track s) (TrackSectorSide number sector side format) first second =
    absurd second
one_name cells (Address cylinder head sector size) m first second = absurd first
one_name cells (TrackSectorSide number sector side format) m first second = absurd first

pub named_sector : (track : TrackId)
    → NamesSectors Names (λ name s. name ≡ TrackSector (track_number track) s) (NamesSector track)
named_sector track = named-by_numbers Names (track_number track)

length-bytes : (longs : List ℕ) → length (flat_map (to_be_bytes w32) longs) ≡ 4 * length longs
length-bytes [] = refl
length-bytes (long ∷ longs) =
    let e = length-append (to_be_bytes w32 long) (flat_map (to_be_bytes w32) longs) in
    omega (arith, e, length-bytes longs)

pub bytes_held : (cells : List Bool) (place : ℕ) (xs : List ℕ) → Hold cells place xs
    → length xs ≡ 512
bytes_held cells place xs held =
    let odd = raw_longs cells place 128 in
    let even = raw_longs cells (place + 4096) 128 in
    let size = length-raw cells place 128 in
    sym (ap length held.content) ∙ length-bytes (longs_at cells place 4096 128)
    ∙ ap (λ (n : ℕ). 4 * n)
    (length-zip2 long_of_halves odd even (size ∙ sym (length-raw cells (place + 4096) 128))
    ∙ size)
