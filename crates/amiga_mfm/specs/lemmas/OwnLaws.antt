-- What a header names, and what data hold, is told by their own cells, and by
-- all of these but the last seven.
use Rattle.std.specs.Prelude.{◌≡◌, ℕ, zero, suc, ◌+◌, ◌-◌, ◌*◌, ◌≤◌, Bool, List, [], ◌∷◌, ◌++◌}
use Rattle.std.specs.Prelude.{take, map, bit_xor, refl}
use Rattle.std.specs.Int.{to_be_bytes, w32}
use Rattle.std.specs.Int.Bits.{xor_assoc, xor_self, xor_zero_l}
use Rattle.std.specs.List.{flat_map}
use Rattle.std.specs.Simd.Lanes.{zip2}
use Rattle.std.proofs.Common.{ap, sym, ◌∙◌, arith, lit≤}
use Rattle.std.proofs.lemmas.List.{map-append}
use Rattle.std.proofs.lemmas.List.Sums.{fold-append}
use Rattle.cell_bits.specs.Word.{word}
use Rattle.check_values.specs.Sums.{data_xor, xor}
use Rattle.track_rings.specs.lemmas.Fronts.{AgreeTo, agree-word}
use Rattle.frame_law.specs.lemmas.OwnFrames.{TellsEarly}
use Rattle.amiga_mfm.specs.lemmas.LongLaws.{length-raw, longs-read, raw-append, raw-last}
use Rattle.amiga_mfm.specs.Longs.{long_at, long_of_halves, longs_at, raw_longs, without_clocks}
use Rattle.amiga_mfm.specs.lemmas.Masks.{masked-xor}
use Rattle.amiga_mfm.specs.Sectors.{Hold, IsDataPlace, Names}
use Rattle.flux_base.specs.declared.header_name.HeaderName.{HeaderName}
use Rattle.flux_base.specs.declared.header_name.HeaderName.TheVariants.{Address, TrackSector}
use Rattle.flux_base.specs.declared.header_name.HeaderName.TheVariants.{TrackSectorSide}

-- longs are the same in all cells that agree
module _ (total : ℕ) (cells others : List Bool) (same : AgreeTo total cells others) where
  agree-long : (place further : ℕ) → place + 32 ≤ total → place + further + 32 ≤ total
      → long_at cells place further ≡ long_at others place further
  agree-long place further first second =
      let odd = agree-word total cells others same place 32 first in
      let even = agree-word total cells others same (place + further) 32 second in
      λ i. long_of_halves (odd i) (even i)

  agree-raw : (place count : ℕ) → place + 32 * count ≤ total
      → raw_longs cells place count ≡ raw_longs others place count
  unfolding raw_longs
  agree-raw place zero long = refl
  agree-raw place (suc count) long =
      let first = agree-word total cells others same place 32 (omega (arith, long)) in
      let rest = agree-raw (place + 32) count (omega (arith, long)) in
      λ i. first i ∷ rest i

  agree-longs : (place count : ℕ) → place + 64 * count ≤ total
      → longs_at cells place (32 * count) count ≡ longs_at others place (32 * count) count
  agree-longs place count long =
      let odd = agree-raw place count (omega (arith, long)) in
      let even = agree-raw (place + 32 * count) count (omega (arith, long)) in
      λ i. zip2 long_of_halves (odd i) (even i)

named : (cells others : List Bool) (n : HeaderName) → AgreeTo 480 cells others → Names cells n
    → Names others n
named cells others (Address cylinder head sector size) same names = absurd names
named cells others (TrackSectorSide number sector side format) same names = absurd names
named cells others (TrackSector track s) same names = record {
  info = ap (λ (info : ℕ). take 3 (to_be_bytes w32 info))
      (sym (agree-long 480 cells others same 32 32 (lit≤ tt) (lit≤ tt)))
      ∙ names.info;
  check = sym (agree-long 480 cells others same 352 32 (lit≤ tt) (lit≤ tt)) ∙ names.check
      ∙ ap data_xor (agree-raw 480 cells others same 32 10 (lit≤ tt));
}

-- the info stands before the last seven cells
named_early : (cells others : List Bool) (n m : HeaderName) → AgreeTo 473 cells others
    → Names cells n → Names others m → n ≡ m
named_early cells others (Address cylinder head sector size) m same first second = absurd first
named_early cells others (TrackSectorSide number sector side format) m same first second =
    absurd first
named_early cells others (TrackSector track s) (Address cylinder head sector size) same first
    second = absurd second
named_early cells others (TrackSector track s) (TrackSectorSide number sector side format) same
    first second = absurd second
named_early cells others (TrackSector track s) (TrackSector other t) same first second =
    let both : 0xFF ∷ track ∷ s ∷ [] ≡ 0xFF ∷ other ∷ t ∷ [] =
    sym first.info
    ∙ ap (λ (info : ℕ). take 3 (to_be_bytes w32 info))
    (agree-long 473 cells others same 32 32 (lit≤ tt) (lit≤ tt))
    ∙ second.info in
    cc

held : (cells others : List Bool) (place : ℕ) (bytes : List ℕ) → AgreeTo (place + 8192) cells others
    → Hold cells place bytes → Hold others place bytes
held cells others place bytes same hold =
    let total = place + 8192 in record {
      content = ap (flat_map (to_be_bytes w32))
          (sym (agree-longs total cells others same place 128 (omega arith)))
          ∙ hold.content;
      check =
          sym (agree-long total cells others same 416 32 (omega arith) (omega arith)) ∙ hold.check
          ∙ ap data_xor (agree-raw total cells others same place 256 (omega arith));
    }

-- The last seven cells may cut the last half, which the check value tells: an exclusive or tells
-- its last number, if the others are the same.
xor-last : (a x y : ℕ) → bit_xor a x ≡ bit_xor a y → x ≡ y
xor-last a x y same =
    let undone : (n : ℕ) → bit_xor a (bit_xor a n) ≡ n =
    λ n.
    sym (xor_assoc a a n) ∙ ap (λ (zeros : ℕ). bit_xor zeros n) (xor_self a) ∙ xor_zero_l n in
    sym (undone x) ∙ ap (bit_xor a) same ∙ undone y

check-last : (halves : List ℕ) (last : ℕ)
    → data_xor (halves ++ last ∷ []) ≡ bit_xor (without_clocks (xor halves)) (without_clocks last)
check-last halves last =
    ap without_clocks (fold-append bit_xor 0 halves (last ∷ [])) ∙ masked-xor (xor halves) last

last-same : (halves : List ℕ) (x y : ℕ) → data_xor (halves ++ x ∷ []) ≡ data_xor (halves ++ y ∷ [])
    → map without_clocks (halves ++ x ∷ []) ≡ map without_clocks (halves ++ y ∷ [])
last-same halves x y checks =
    let last = xor-last (without_clocks (xor halves)) (without_clocks x) (without_clocks y)
    (sym (check-last halves x) ∙ checks ∙ check-last halves y) in
    map-append without_clocks halves (x ∷ [])
    ∙ ap (λ (half : ℕ). map without_clocks halves ++ half ∷ []) last
    ∙ sym (map-append without_clocks halves (y ∷ []))

held_early : (cells others : List Bool) (place : ℕ) (xs ys : List ℕ)
    → AgreeTo (place + 8192 - 7) cells others → Hold cells place xs
    → Hold others place ys → xs ≡ ys
held_early cells others place xs ys same first second =
    let total = place + 8192 - 7 in
    let x = word cells (place + 8160) 32 in
    let y = word others (place + 8160) 32 in
    let some = raw_longs others place 255 in
    let a : raw_longs cells place 256 ≡ some ++ x ∷ [] =
    raw-last cells place 255
    ∙ ap (λ (halves : List ℕ). halves ++ x ∷ [])
    (agree-raw total cells others same place 255 (omega arith)) in
    let b : raw_longs others place 256 ≡ some ++ y ∷ [] = raw-last others place 255 in
    let checks = sym (ap data_xor a) ∙ sym first.check
    ∙ agree-long total cells others same 416 32 (omega arith) (omega arith) ∙ second.check
    ∙ ap data_xor b in
    let c : raw_longs others place 256
    ≡ raw_longs others place 128 ++ raw_longs others (place + 4096) 128 =
    raw-append others place 128 128 in
    let all : map without_clocks (raw_longs cells place 256)
    ≡ map without_clocks (raw_longs others place 128 ++ raw_longs others (place + 4096) 128) =
    ap (map without_clocks) a ∙ last-same some x y checks ∙ ap (map without_clocks) (sym b ∙ c) in
    sym first.content
    ∙ ap (flat_map (to_be_bytes w32))
    (longs-read cells place 128 (raw_longs others place 128) (raw_longs others (place + 4096) 128)
    (length-raw others place 128) all)
    ∙ second.content

pub tells : TellsEarly 32 480 8192 (λ cells. 480) (λ cells sync. sync + 8192) Names IsDataPlace Hold
tells = record {
  sync_within = lit≤ tt;
  named = named;
  named_early = named_early;
  synced = λ cells others place same is. is;
  held = held;
  held_early = held_early;
}
