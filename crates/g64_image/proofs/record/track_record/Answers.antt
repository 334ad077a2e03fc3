use Rattle.g64_image.proofs.Tables.{record_is}
use Rattle.g64_image.proofs.record.track_record.Goals as goal

pub returns : goal.returns
returns c =
    record_is c.args.ring.now.cells c.put_length.new.track.items c.put_cells.new.track.items c.put_padding.new.track.items
    (rw (c.new-track.ensures, c.len-length.ensures.length) at c.put_length.ensures.items) c.put_cells.ensures.items
    (rw c.len-length.ensures.length at c.put_padding.ensures)
