use Rattle.std.proofs.Common.{ℕ, ◌++◌, length, List, sym, ap, ◌∙◌, arith, length-append}
use Rattle.std.specs.Int.{to_be_bytes, w32}
use Rattle.amiga_mfm.specs.Longs.{bytes_at}
use Rattle.amiga_mfm.proofs.InRow.{bytes-next, bytes-none}
use Rattle.amiga_mfm.proofs.longs.take_data.Goals as goal

pub loop-index-init : goal.loop-index-init
loop-index-init c = record {
  taken = c.requires.empty ∙ sym (bytes-none c.args.frame.now c.args.place 4096);
  size = ap length c.requires.empty;
}

pub loop-index-preserved : goal.loop-index-preserved
loop-index-preserved c =
    let cells = c.args.frame.now in
    let index = c.loop-index.index in
    let items = c.loop-index.buffer.items in
    let bytes = to_be_bytes w32 c.read_long.result in
    record {
      taken = c.push_long.ensures
          ∙ ap (λ (some : List ℕ). some ++ bytes) c.loop-index.invariant.taken
          ∙ ap (λ (long : ℕ). bytes_at cells c.args.place 4096 index ++ to_be_bytes w32 long) c.read_long.ensures
          ∙ sym (bytes-next cells c.args.place 4096 index);
      size = (let e = ap length c.push_long.ensures in omega (arith, e, length-append items bytes, c.loop-index.invariant.size));
    }
