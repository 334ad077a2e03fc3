-- The recording's numbers; what cells name and hold is one thing, and is told by their own cells,
-- and by all of these but the last seven.
use Rattle.std.specs.Prelude.{◌≡◌, ℕ, ◌+◌, ◌-◌, Bool, List}
use Rattle.std.proofs.Common.{sym, ◌∙◌, arith, lit<, lit≤}
use Rattle.flux_base.specs.declared.track.TrackId.{TrackId}
use Rattle.check_values.specs.Sums.{xor}
use Rattle.track_rings.specs.lemmas.Fronts.{AgreeTo, agree-stands}
use Rattle.frame_law.specs.lemmas.Named.{named-by_numbers}
use Rattle.frame_law.specs.Frames.{AreSizes, IsWithinReach}
use Rattle.frame_law.specs.lemmas.FrameSizes.{AreSizes-fit}
use Rattle.frame_law.specs.lemmas.OwnFrames.{TellsEarly}
use Rattle.frame_law.specs.Others.{NamesSectors}
use Rattle.commodore_gcr.specs.declared.drive.CommodoreDrive.{CommodoreDrive}
use Rattle.commodore_gcr.specs.lemmas.CodingLaws.{ByteAt-agree, BytesAt-agree, one_byte_at}
use Rattle.commodore_gcr.specs.lemmas.CodingLaws.{one_list_at}
use Rattle.commodore_gcr.specs.Sectors.{Hold, IsSync, Names, NamesSector, numbered_bytes}
use Rattle.commodore_gcr.specs.Zones.{track_number}
use Rattle.flux_base.specs.declared.header_name.HeaderName.{HeaderName}
use Rattle.flux_base.specs.declared.header_name.HeaderName.TheVariants.{Address, TrackSector}
use Rattle.flux_base.specs.declared.header_name.HeaderName.TheVariants.{TrackSectorSide}

pub sizes : AreSizes 1 3 11 70 1
sizes = AreSizes-fit (lit≤ tt) (lit≤ tt) (lit≤ tt) (lit≤ tt) (lit≤ tt) (lit≤ tt) (lit≤ tt)

pub within_reach : IsWithinReach 70 192 2590
within_reach = record { after = lit≤ tt; near = lit< tt; few = lit≤ tt }

-- the third byte is the sector's number, and the fourth the track's
one_pair : (a b c d : ℕ) → a ≡ b → c ≡ d → TrackSector a c ≡ TrackSector b d
one_pair a b c d first second = cc

pub one_name : (cells : List Bool) (n m : HeaderName) → Names cells n → Names cells m → n ≡ m
one_name cells (Address cylinder head sector size) m first second = absurd first
one_name cells (TrackSectorSide number sector side format) m first second = absurd first
one_name cells (TrackSector track s) (Address cylinder head sector size) first second =
    absurd second
one_name cells (TrackSector track s) (TrackSectorSide number sector side format) first second =
    absurd second
one_name cells (TrackSector track s) (TrackSector other t) first second =
    one_pair track other s t
    (one_byte_at cells 40 track other (first.bytes 3 (lit< tt)) (second.bytes 3 (lit< tt)))
    (one_byte_at cells 30 s t (first.bytes 2 (lit< tt)) (second.bytes 2 (lit< tt)))

pub named_sector : (drive : CommodoreDrive) (track : TrackId)
    → NamesSectors Names (λ name s. name ≡ TrackSector (track_number drive track) s)
    (NamesSector drive track)
named_sector drive track = named-by_numbers Names (track_number drive track)

named : (cells others : List Bool) (n : HeaderName) → AgreeTo 70 cells others → Names cells n
    → Names others n
named cells others (Address cylinder head sector size) same names = absurd names
named cells others (TrackSectorSide number sector side format) same names = absurd names
named cells others (TrackSector track s) same names = record {
  id1 = names.id1;
  id2 = names.id2;
  bytes = BytesAt-agree 70 cells others 10 (numbered_bytes names.id1 names.id2 track s) same
      (lit≤ tt) names.bytes;
}

named_early : (cells others : List Bool) (n m : HeaderName) → AgreeTo 63 cells others
    → Names cells n → Names others m → n ≡ m
named_early cells others (Address cylinder head sector size) m same first second = absurd first
named_early cells others (TrackSectorSide number sector side format) m same first second =
    absurd first
named_early cells others (TrackSector track s) (Address cylinder head sector size) same first
    second = absurd second
named_early cells others (TrackSector track s) (TrackSectorSide number sector side format) same
    first second = absurd second
named_early cells others (TrackSector track s) (TrackSector other t) same first second =
    one_pair track other s t
    (one_byte_at others 40 track other
    (ByteAt-agree 63 cells others 40 track same (lit≤ tt) (first.bytes 3 (lit< tt)))
    (second.bytes 3 (lit< tt)))
    (one_byte_at others 30 s t
    (ByteAt-agree 63 cells others 30 s same (lit≤ tt) (first.bytes 2 (lit< tt)))
    (second.bytes 2 (lit< tt)))

pub one_content : (cells : List Bool) (sync : ℕ) (xs ys : List ℕ) → Hold cells sync xs
    → Hold cells sync ys → xs ≡ ys
one_content cells sync xs ys first second =
    one_list_at cells (sync + 20) xs ys (first.size ∙ sym second.size) first.content second.content

-- a header's number and the bytes of data stand before the last seven cells
pub tells : TellsEarly 11 70 2590 (λ cells. 70) (λ cells sync. sync + 2590) Names IsSync Hold
tells = record {
  sync_within = lit≤ tt;
  named = named;
  named_early = named_early;
  synced = λ cells others place same stands.
      agree-stands (place + 2590 - 7) cells others same 0x7FE 11 place (omega arith) stands;
  held = λ cells others sync bytes same hold. record {
    opens = ByteAt-agree (sync + 2590) cells others (sync + 10) 0x07 same (omega arith) hold.opens;
    size = hold.size;
    content = BytesAt-agree (sync + 2590) cells others (sync + 20) bytes same
        (omega (arith, hold.size)) hold.content;
    check = ByteAt-agree (sync + 2590) cells others (sync + 2580) (xor bytes) same (omega arith)
        hold.check;
  };
  held_early = λ cells others sync xs ys same first second.
      one_list_at others (sync + 20) xs ys (first.size ∙ sym second.size)
      (BytesAt-agree (sync + 2590 - 7) cells others (sync + 20) xs same (omega (arith, first.size))
      first.content) second.content;
}
