use Rattle.std.proofs.Common.{ℕ, ◌++◌, ◌∷◌, [], List, ◌*◌, ◌+◌, drop, sym, ap, ◌∙◌, arith, append-nil, append_assoc}
use Rattle.amiga_mfm.specs.Longs.{longs_of}
use Rattle.amiga_mfm.proofs.InRow.{longs-next, longs-none}
use Rattle.amiga_mfm.proofs.longs.longs_in.Goals as goal

pub loop-index-preserved : goal.loop-index-preserved
loop-index-preserved c =
    let bytes = c.args.bytes.now in
    let index = c.loop-index.index in
    let items = c.loop-index.longs.items in
    let next = longs-next bytes index (omega (arith, c.loop-index-test.true)) in
    record {
      taken = c.loop-index.invariant.taken
          ∙ ap (λ (rest : List ℕ). items ++ rest) next
          ∙ sym (append_assoc items (_ ∷ []) (longs_of (drop (4 * (index + 1)) bytes)))
          ∙ ap (λ (some : List ℕ). some ++ longs_of (drop (4 * (index + 1)) bytes))
          (ap (λ (long : ℕ). items ++ long ∷ []) (sym c.from_be_bytes.ensures) ∙ sym c.push.ensures.items);
      size = omega (arith, c.push.ensures.len, c.loop-index.invariant.size);
    }

pub returns : goal.returns
returns c =
    let bytes = c.args.bytes.now in
    let items = c.loop-index.longs.items in
    sym (c.loop-index.invariant.taken
    ∙ ap (λ (rest : List ℕ). items ++ rest) (longs-none bytes (4 * c.loop-index.index) (omega (arith, c.loop-index-test.false)))
    ∙ append-nil items)
