use Rattle.std.proofs.Common.{◌≡◌, ◌+◌, ◌-◌, ◌∙◌, ℕ, Bool, true, List, ap, arith}
use Rattle.cell_bits.specs.Bytes.{data_byte}
use Rattle.flux_base.specs.declared.track.TrackId.{TrackId}
use Rattle.frame_law.specs.Frames.{AreCellsOfRows}
use Rattle.ibm_disks.specs.Numbers.{size_of}
use Rattle.ibm_disks.specs.declared.track_numbers.TrackNumbers.{TrackNumbers}
use Rattle.ibm_fields.specs.Fields.{DATA_BYTE}
use Rattle.ibm_mfm.specs.Disks.{named_track}
use Rattle.ibm_mfm.specs.Layout.{row_cells, rows_of}
use Rattle.ibm_mfm.specs.Sectors.{DATA_CELLS, FIRST_BYTE_PLACE}
use Rattle.ibm_mfm.specs.lemmas.FrameLaws.{rows_mark}
use Rattle.track_rings.specs.Rings.{bytes_of}
use Rattle.track_rings.specs.Rows.{rows_cells}
use Rattle.track_rings.specs.lemmas.Fronts.{agree-data_byte}
use Rattle.ibm_mfm.proofs.laws.own_data_are_not_deleted.Goals as goal

marked : (numbers : TrackNumbers) (track : TrackId) (s at : ℕ) (bytes : List ℕ) (cells : List Bool)
    → AreCellsOfRows (λ before. rows_cells true (row_cells numbers track) before s bytes (rows_of numbers).frame) 704 (704 + DATA_CELLS (size_of numbers.size)) cells at
    → data_byte cells (at + FIRST_BYTE_PLACE) ≡ DATA_BYTE
marked numbers track s at bytes cells frame =
    let rows = rows_cells true (row_cells numbers track) frame.before s bytes (rows_of numbers).frame in
    ap (λ (place : ℕ). data_byte cells (place + FIRST_BYTE_PLACE)) frame.place_is
    ∙ agree-data_byte (704 + DATA_CELLS (size_of numbers.size) - 7) cells rows frame.same 752 (omega arith) ∙ rows_mark numbers track s bytes frame.before

pub returns : goal.returns
returns c = λ r track bytes zeros from count behind place s at xs known given header content.
    marked r.numbers (named_track r.heads track) s at (bytes_of r.numbers.first_sector (size_of r.numbers.size) bytes s) _
    (c.frames_have_own_cells.ensures r track bytes zeros from count behind place s at xs known given header content)
