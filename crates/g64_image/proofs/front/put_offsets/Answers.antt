use Rattle.std.proofs.Common.{arith}
use Rattle.g64_image.specs.Layout.{offset_entry}
use Rattle.g64_image.proofs.Tables.{entries_more}
use Rattle.g64_image.proofs.front.put_offsets.Goals as goal

pub loop-half-preserved : goal.loop-half-preserved
loop-half-preserved c = record {
  items = entries_more (offset_entry c.args.format) c.args.bytes.now.items c.loop-half.bytes.items c.put_entry.new.bytes.items c.offset_entry-entry.result c.loop-half.half
      c.loop-half.invariant.items c.offset_entry-entry.ensures c.put_entry.ensures.items;
  len = omega (arith, c.put_entry.ensures.len, c.loop-half.invariant.len);
}
