use Rattle.std.proofs.Common.{◌≡◌, ◌&&◌, ◌≤◌, Bool, true, false, List, [], length, arith, ap, refl, subst, sym}
use Rattle.cell_bits.specs.Bytes.{last_cell}
use Rattle.frame_law.specs.lemmas.FrameLaws.{ring_length}
use Rattle.track_rings.specs.Rows.{coded, part_cells, ring_of, track_parts}
use Rattle.frame_law.proofs.table_recording.AnyRecording.ring.Goals as goal

-- after no cells
after-none : (asks : Bool) (cells : List Bool) → cells ≡ [] → (asks && last_cell cells) ≡ false
unfolding last_cell
after-none true cells none = ap last_cell none
after-none false cells none = refl

pub returns-then-is_err-clause-succeeds : goal.returns-then-is_err-clause-succeeds
unfolding ring_of
returns-then-is_err-clause-succeeds g c = λ enough.
    let r = c.args.self.now in
    let track = c.args.track in
    let long =
    ring_length g.L.Layout.asks (g.L.Layout.row_cells r track) (g.L.Layout.row_size r track) (g.met.L.Layout.row_length r track)
    (g.L.Layout.lowest_sector r) (g.L.Layout.sector_count r track) (g.L.Layout.sector_bytes r) (g.L.Layout.rows r track) c.args.bytes.now
    (g.L.Layout.track_cells r track) c.requires.bytes (g.met.L.Layout.sums r track c.requires.track).1 in
    let open_end = after-none g.L.Layout.asks c.clear.new.self.cells c.clear.ensures.cells in
    let parts =
    track_parts (g.L.Layout.lowest_sector r) (g.L.Layout.sector_count r track) (g.L.Layout.sector_bytes r) c.args.bytes.now (g.L.Layout.rows r track) in
    c.append_track-written.ensures.succeeds
    (subst (λ (bit : Bool). length (coded g.L.Layout.asks (part_cells (g.L.Layout.row_cells r track)) bit parts) ≤ c.clear.new.self.spare) (sym open_end)
    (omega (arith, long, enough, c.clear.ensures.spare)))

pub returns-else-is_err-clause-ok : goal.returns-else-is_err-clause-ok
unfolding ring_of
returns-else-is_err-clause-ok g c =
    let open_end = after-none g.L.Layout.asks c.clear.new.self.cells c.clear.ensures.cells in
    let ok = rw (open_end, c.clear.ensures.cells) at c.append_track-written.ensures.ok in ok
