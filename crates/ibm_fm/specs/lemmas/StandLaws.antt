-- What cells name and hold is one thing, and the numbers of the coding.
use Rattle.std.specs.Prelude.{◌≡◌, ℕ, ◌+◌, Bool, List, drop, length}
use Rattle.std.proofs.Common.{ap, sym, ◌∙◌, inl, inr, lit≤}
use Rattle.flux_base.specs.declared.track.TrackId.{TrackId}
use Rattle.frame_law.specs.lemmas.Named.{named-by}
use Rattle.frame_law.specs.lemmas.FrameSizes.{AreSizes-fit}
use Rattle.frame_law.specs.Frames.{AreSizes}
use Rattle.cell_bits.specs.Word.{Stands}
use Rattle.flux_base.specs.declared.header_name.HeaderName.{HeaderName}
use Rattle.frame_law.specs.Others.{NamesSectors}
use Rattle.ibm_fields.specs.Fields.{bytes_at, sector_name}
use Rattle.ibm_fields.specs.lemmas.FieldLaws.{length-bytes_at, one_address, one_sector}
use Rattle.ibm_fm.specs.Sectors.{Hold, IsSync, Names, NamesSector}

pub sizes : AreSizes 1 2 16 112 1
sizes = AreSizes-fit (lit≤ tt) (lit≤ tt) (lit≤ tt) (lit≤ tt) (lit≤ tt) (lit≤ tt) (lit≤ tt)

pub one_name : (cells : List Bool) (n m : HeaderName) → Names cells n → Names cells m → n ≡ m
one_name cells n m first second =
    one_address (bytes_at cells 16 4) n m (length-bytes_at cells 16 4) first.address second.address

pub named_sector : (code : ℕ) (track : TrackId)
    → NamesSectors Names (λ name s. name ≡ sector_name track s code) (NamesSector code track)
named_sector code track =
    named-by Names (λ s. sector_name track s code) (λ s t same. one_sector track s t code same)

-- a header's mark is a sync too
pub id_mark_syncs : (cells : List Bool) (place : ℕ) → Stands (drop place cells) 0xF57E 16 0
    → IsSync cells place
id_mark_syncs cells place stands = inr (inl stands)

pub bytes_held : (size : ℕ) (cells : List Bool) (sync : ℕ) (xs : List ℕ) → Hold size cells sync xs
    → length xs ≡ size
bytes_held size cells sync xs held =
    sym (ap length held.content) ∙ length-bytes_at cells (sync + 16) size
