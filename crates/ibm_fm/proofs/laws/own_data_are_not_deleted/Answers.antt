use Rattle.std.proofs.Common.{◌≡◌, ◌+◌, ◌-◌, ◌∙◌, ℕ, Bool, false, List, ap, arith}
use Rattle.cell_bits.specs.Bytes.{data_byte}
use Rattle.flux_base.specs.declared.track.TrackId.{TrackId}
use Rattle.frame_law.specs.Frames.{AreCellsOfRows}
use Rattle.ibm_disks.specs.Numbers.{size_of}
use Rattle.ibm_fields.specs.Fields.{DATA_BYTE}
use Rattle.ibm_fm.specs.Layout.{row_cells, rows_of}
use Rattle.ibm_fm.specs.Sectors.{DATA_CELLS}
use Rattle.ibm_fm.specs.declared.recording.IbmFm.{IbmFm}
use Rattle.ibm_fm.specs.lemmas.FrameLaws.{rows_mark}
use Rattle.track_rings.specs.Rings.{bytes_of}
use Rattle.track_rings.specs.Rows.{rows_cells}
use Rattle.track_rings.specs.lemmas.Fronts.{agree-data_byte}
use Rattle.ibm_fm.proofs.laws.own_data_are_not_deleted.Goals as goal

marked : (r : IbmFm) (track : TrackId) (s at : ℕ) (bytes : List ℕ) (cells : List Bool)
    → AreCellsOfRows (λ before. rows_cells false (row_cells r.numbers track) before s bytes (rows_of r.numbers).frame) 384 (384 + DATA_CELLS (size_of r.numbers.size)) cells at
    → data_byte cells at ≡ DATA_BYTE
marked r track s at bytes cells frame =
    let rows = rows_cells false (row_cells r.numbers track) frame.before s bytes (rows_of r.numbers).frame in
    ap (data_byte cells) frame.place_is ∙ agree-data_byte (384 + DATA_CELLS (size_of r.numbers.size) - 7) cells rows frame.same 384 (omega arith)
    ∙ rows_mark r track s bytes frame.before

pub returns : goal.returns
returns c = λ r track bytes zeros from count behind place s at xs known given header content.
    marked r track s at (bytes_of r.numbers.first_sector (size_of r.numbers.size) bytes s) _
    (c.frames_have_own_cells.ensures r track bytes zeros from count behind place s at xs known given header content)
