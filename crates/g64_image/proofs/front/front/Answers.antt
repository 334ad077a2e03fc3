use Rattle.g64_image.proofs.Tables.{front_is}
use Rattle.g64_image.proofs.front.front.Goals as goal

pub returns : goal.returns
returns c =
    front_is c.args.format c.put.new.bytes.items c.put_offsets.new.bytes.items c.put_speeds.new.bytes.items
    (rw c.new-bytes.ensures at c.put.ensures.items) c.put_offsets.ensures.items c.put_speeds.ensures.items
