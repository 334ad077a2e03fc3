-- What an MFM header names and what MFM data hold is one thing, told by their own cells, and by all
-- of these but the last seven; and the numbers of the recording.
use Rattle.std.specs.Prelude.{◌≡◌, ℕ, ◌+◌, ◌-◌, ◌≤◌, Bool, List, drop, length}
use Rattle.std.proofs.Common.{ap, sym, subst, ◌∙◌, arith, lit≤}
use Rattle.flux_base.specs.declared.track.TrackId.{TrackId}
use Rattle.track_rings.specs.lemmas.Fronts.{AgreeTo, agree-data_byte, agree-stands}
use Rattle.frame_law.specs.lemmas.Named.{named-by}
use Rattle.frame_law.specs.Frames.{AreSizes}
use Rattle.frame_law.specs.lemmas.FrameSizes.{AreSizes-fit}
use Rattle.frame_law.specs.lemmas.OwnFrames.{TellsEarly}
use Rattle.frame_law.specs.Others.{NamesSectors}
use Rattle.ibm_fields.specs.lemmas.FieldFronts.{agree-bytes_at, agree-number_at}
use Rattle.ibm_fields.specs.lemmas.FieldLaws.{length-bytes_at, one_address, one_sector}
use Rattle.ibm_mfm.specs.Sectors.{CONTENT_CHECK_PLACE, DATA_CELLS, Hold, Names, NamesSector}
use Rattle.ibm_mfm.specs.Sectors.{OpensData, check_of}
use Rattle.ibm_mfm.specs.Syncs.{SyncAt}
use Rattle.ibm_mfm.specs.lemmas.SyncLaws.{sync-joined}
use Rattle.cell_bits.specs.Word.{Stands}
use Rattle.flux_base.specs.declared.header_name.HeaderName.{HeaderName}
use Rattle.ibm_fields.specs.Fields.{bytes_at, sector_name}

pub sizes : AreSizes 2 4 32 160 2
sizes = AreSizes-fit (lit≤ tt) (lit≤ tt) (lit≤ tt) (lit≤ tt) (lit≤ tt) (lit≤ tt) (lit≤ tt)

pub one_name : (cells : List Bool) (n m : HeaderName) → Names cells n → Names cells m → n ≡ m
one_name cells n m first second =
    one_address (bytes_at cells 64 4) n m (length-bytes_at cells 64 4) first.address second.address

pub named_sector : (code : ℕ) (track : TrackId)
    → NamesSectors Names (λ name s. name ≡ sector_name track s code) (NamesSector code track)
named_sector code track =
    named-by Names (λ s. sector_name track s code) (λ s t same. one_sector track s t code same)

-- a header's three marks are a sync too
pub marks_sync : (cells : List Bool) (place : ℕ) (name : HeaderName)
    → Stands (drop place cells) 0x44894489 32 0 → Names (drop place cells) name
    → SyncAt cells place
marks_sync cells place name stands named = sync-joined (drop place cells) 0 stands named.third

pub bytes_held : (size : ℕ) (cells : List Bool) (sync : ℕ) (xs : List ℕ) → Hold size cells sync xs
    → length xs ≡ size
bytes_held size cells sync xs held =
    sym (ap length held.content) ∙ length-bytes_at cells (sync + 64) size

named : (cells others : List Bool) (n : HeaderName) → AgreeTo 160 cells others → Names cells n
    → Names others n
named cells others n same names = record {
  third = agree-stands 160 cells others same 0x4489 16 32 (omega arith) names.third;
  first = sym (agree-data_byte 160 cells others same 48 (omega arith)) ∙ names.first;
  address = sym (agree-bytes_at 160 cells others same 64 4 (omega arith)) ∙ names.address;
  check = sym (agree-number_at 160 cells others same 128 (omega arith)) ∙ names.check;
}

-- the address stands before the last seven cells
named_early : (cells others : List Bool) (n m : HeaderName) → AgreeTo 153 cells others
    → Names cells n → Names others m → n ≡ m
named_early cells others n m same first second =
    one_address (bytes_at cells 64 4) n m (length-bytes_at cells 64 4) first.address
    (agree-bytes_at 153 cells others same 64 4 (omega arith) ∙ second.address)

synced : (size : ℕ) (cells others : List Bool) (place : ℕ)
    → AgreeTo (place + DATA_CELLS size - 7) cells others → SyncAt cells place → SyncAt others place
synced size cells others place same sync =
    agree-stands (place + DATA_CELLS size - 7) cells others same 0x448944894489 48 place
    (omega arith) sync

held : (size : ℕ) (cells others : List Bool) (sync : ℕ) (bytes : List ℕ)
    → AgreeTo (sync + DATA_CELLS size) cells others → Hold size cells sync bytes
    → Hold size others sync bytes
held size cells others sync bytes same hold =
    let total = sync + DATA_CELLS size in
    let first = agree-data_byte total cells others same (sync + 48) (omega arith) in record {
      opens = subst OpensData first hold.opens;
      content = sym (agree-bytes_at total cells others same (sync + 64) size (omega arith))
          ∙ hold.content;
      check = sym
          (agree-number_at total cells others same (sync + CONTENT_CHECK_PLACE size) (omega arith))
          ∙ hold.check
          ∙ ap (λ (byte : ℕ). check_of byte bytes) first;
    }

-- so do the bytes
held_early : (size : ℕ) (cells others : List Bool) (sync : ℕ) (xs ys : List ℕ)
    → AgreeTo (sync + DATA_CELLS size - 7) cells others
    → Hold size cells sync xs → Hold size others sync ys → xs ≡ ys
held_early size cells others sync xs ys same first second =
    sym first.content
    ∙ agree-bytes_at (sync + DATA_CELLS size - 7) cells others same (sync + 64) size
    (omega arith)
    ∙ second.content

-- data have more cells than their sync
pub data_long : (size : ℕ) → 8 ≤ DATA_CELLS size
data_long size = omega arith

pub tells : (size : ℕ)
    → TellsEarly 32 160 (DATA_CELLS size) (λ cells. 160) (λ cells sync. sync + DATA_CELLS size)
    Names SyncAt (Hold size)
tells size = record {
  sync_within = lit≤ tt;
  named = named;
  named_early = named_early;
  synced = synced size;
  held = held size;
  held_early = held_early size;
}
