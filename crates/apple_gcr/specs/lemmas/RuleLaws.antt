-- What is read by the strict rule is read so by every rule: all bytes that
-- it looks at begin with a one.
use Rattle.std.specs.Prelude.{◌≡◌, ℕ, zero, suc, ◌+◌, ◌<◌, ◌≤◌, Bool, List}
use Rattle.std.proofs.Common.{ap, sym, subst, ◌∙◌, arith}
use Rattle.flux_base.specs.declared.track.TrackId.{TrackId}
use Rattle.cell_bits.specs.Broken.{Unbroken}
use Rattle.frame_law.specs.Frames.{IsDataSync}
use Rattle.apple_gcr.specs.DiskBytes.{byte_read, bytes_end}
use Rattle.apple_gcr.specs.FourAndFour.{AreHalves}
use Rattle.apple_nibbles.specs.Nibbles.{disk_byte}
use Rattle.apple_gcr.specs.Rules.{StrictStandsByController}
use Rattle.apple_gcr.specs.Sectors.{HeaderStands, Hold, IsAddress, NamesSector, SectorStands}
use Rattle.apple_gcr.specs.Sectors.{data_end, header_end, opening_end, opening_place}
use Rattle.apple_gcr.specs.SixAndTwo.{AreCoded, code_at}
use Rattle.apple_gcr.specs.lemmas.ByteLaws.{AreHigh, lift-end, lift-read, place-here, strict-end}
use Rattle.apple_gcr.specs.lemmas.ByteLaws.{strict-place}
use Rattle.apple_gcr.specs.lemmas.HalfLaws.{IsFieldByte-halves}
use Rattle.apple_nibbles.specs.Marks.{IsSync}
use Rattle.apple_nibbles.specs.lemmas.FieldBytes.{IsFieldByte-nibble}
use Rattle.apple_gcr.specs.lemmas.StandLaws.{same_address, same_coded}
use Rattle.apple_gcr.specs.lemmas.ValueLaws.{code-fits}

-- halves begin with a one
high_half : (high low byte : ℕ) → AreHalves high low byte → (128 ≤ high) × (128 ≤ low)
high_half high low byte halves =
    let both = IsFieldByte-halves byte halves.fits in
    (omega (arith, halves.first, both.0.high), omega (arith, halves.second, both.1.high))

address_high : (track : ℕ) (read : ℕ → ℕ) (s : ℕ) → IsAddress track read s → (k : ℕ) → k < 8
    → 128 ≤ read k
address_high track read s address zero below = (high_half _ _ _ address.has_volume).0
address_high track read s address (suc zero) below = (high_half _ _ _ address.has_volume).1
address_high track read s address (suc (suc zero)) below = (high_half _ _ _ address.has_track).0
address_high track read s address (suc (suc (suc zero))) below =
    (high_half _ _ _ address.has_track).1
address_high track read s address (suc (suc (suc (suc zero)))) below =
    (high_half _ _ _ address.has_sector).0
address_high track read s address (suc (suc (suc (suc (suc zero))))) below =
    (high_half _ _ _ address.has_sector).1
address_high track read s address (suc (suc (suc (suc (suc (suc zero)))))) below =
    (high_half _ _ _ address.has_check).0
address_high track read s address (suc (suc (suc (suc (suc (suc (suc zero))))))) below =
    (high_half _ _ _ address.has_check).1
address_high track read s address (suc (suc (suc (suc (suc (suc (suc (suc k)))))))) below =
    absurd (omega arith)

-- so do nibbles
coded_high : (read : ℕ → ℕ) (values : List ℕ) → AreCoded read values → (k : ℕ) → k < 343
    → 128 ≤ read k
coded_high read values coded k below =
    omega (
      arith,
      coded.stand k below,
      (IsFieldByte-nibble (code_at values k) (code-fits values k coded.fit)).high,
    )

module _ (passed : ℕ) where
  module _ (track : TrackId) (cells : List Bool) (s : ℕ) (names : NamesSector 0 track cells s) where
    high : AreHigh passed cells 24 8
    high = address_high track.cylinder (byte_read 0 cells 24) s names

    pub names_by : NamesSector passed track cells s
    names_by = same_address track.cylinder (byte_read 0 cells 24) (byte_read passed cells 24) s
        (λ k below. lift-read passed cells 24 k 8 below high) names

    pub header_same : header_end passed cells ≡ header_end 0 cells
    header_same = lift-end passed cells 24 8 high

    pub header_ends : header_end passed cells ≡ 88
    header_ends = header_same ∙ strict-end cells 24 8

  module _ (cells : List Bool) (sync : ℕ) (bytes : List ℕ) (hold : Hold 0 cells sync bytes) where
    opening : opening_place passed cells sync ≡ opening_place 0 cells sync
    opening =
        let at = strict-place cells (sync + 16) in
        let byte : disk_byte cells (sync + 16) ≡ 0xAD =
        ap (disk_byte cells) (sym at) ∙ hold.opens in
        place-here passed cells (sync + 16) (omega (arith, byte)) ∙ sym at

    opening_same : opening_end passed cells sync ≡ opening_end 0 cells sync
    opening_same = ap (λ (n : ℕ). n + 8) opening

    high_nibbles : AreHigh passed cells (opening_end 0 cells sync) 343
    high_nibbles = coded_high (byte_read 0 cells (opening_end 0 cells sync)) hold.values hold.coded

    pub hold_by : Hold passed cells sync bytes
    hold_by = record {
      opens = ap (disk_byte cells) opening ∙ hold.opens;
      values = hold.values;
      coded = same_coded (byte_read 0 cells (opening_end 0 cells sync))
          (byte_read passed cells (opening_end passed cells sync)) hold.values
          (λ k below.
          ap (λ (n : ℕ). byte_read passed cells n k) opening_same
          ∙ lift-read passed cells (opening_end 0 cells sync) k 343 below high_nibbles)
          hold.coded;
      carried = hold.carried;
    }

    pub data_same : data_end passed cells sync ≡ data_end 0 cells sync
    data_same =
        ap (λ (n : ℕ). bytes_end passed cells n 343) opening_same
        ∙ lift-end passed cells (opening_end 0 cells sync) 343 high_nibbles

    pub data_ends : data_end passed cells sync ≡ sync + 2768
    data_ends =
        let at = strict-place cells (sync + 16) in
        data_same ∙ omega (arith, strict-end cells (opening_end 0 cells sync) 343, at)

-- so a header and a sector that stand by the strict rule stand by every rule
pub strict_header : (passed : ℕ) (track : TrackId) (cells : List Bool) (s : ℕ)
    → HeaderStands 0 track cells s → HeaderStands passed track cells s
strict_header passed track cells s header =
    let same = header_same passed track cells s header.named in
    record {
      begins = header.begins;
      whole = omega (arith, same, header.whole);
      named = names_by passed track cells s header.named;
      known = header.known;
      unbroken = subst (Unbroken cells 0) (sym same) header.unbroken;
    }

pub strict_sector : (passed : ℕ) (track : TrackId) (cells : List Bool) (s : ℕ) (bytes : List ℕ)
    → SectorStands 0 track cells s bytes
    → SectorStands passed track cells s bytes
strict_sector passed track cells s bytes sector =
    let content = sector.content in
    let place = content.sync in
    let header = header_same passed track cells s sector.header.named in
    let same = data_same passed cells place bytes content.held in
    record {
      header = strict_header passed track cells s sector.header;
      content = record {
        sync = place;
        first_sync =
            subst (λ (n : ℕ). IsDataSync n (IsSync cells) place) (sym header) content.first_sync;
        whole = omega (arith, same, content.whole);
        held = hold_by passed cells place bytes content.held;
        unbroken = subst (Unbroken cells 0) (sym same) content.unbroken;
      };
    }

pub strict_stands : StrictStandsByController
strict_stands = record {
  headers = strict_header 7;
  sectors = strict_sector 7;
}
