use Rattle.std.proofs.Common.{[], ◌∷◌, ap, arith, length, length-append, sym, subst, ◌∙◌, ◌≤◌, ◌<◌, ◌+◌, ℕ, List}
use Rattle.std.specs.Prelude.{get_or}
use Rattle.std.proofs.Math.ListN.{get_or-append}
use Rattle.cell_bits.specs.State.{room}
use Rattle.flux_engine.specs.Room.{MOST_CELLS}
use Rattle.flux_engine.specs.SharedCells.{FEW_CELLS}
use Rattle.flux_engine.specs.declared.shared_cells.CellSlot.{CellSlot}
use Rattle.flux_engine.proofs.CellSlots.{room-more}
use Rattle.flux_engine.proofs.shared_cells.SharedCells.reserve.Goals as goal

pub loop-number-preserved : goal.loop-number-preserved
loop-number-preserved c =
    let old : List CellSlot = c.loop-number.slots.items in
    let slot : CellSlot = c.in_ok-reserve-2.field-0 in
    let so_far = c.loop-number.invariant in
    let low = so_far.low in
    let many = so_far.many in
    let new = c.push_reserved-in-loop-number.ensures.items in
    let capacity = c.push_reserved-in-loop-number.ensures.capacity in
    let before = so_far.capacity in
    record {
      low = omega (arith, low);
      many = ap length new ∙ length-append old (slot ∷ []) ∙ ap (λ n. n + 1) many;
      capacity = omega (arith, capacity, before);
      most = λ d. subst (λ (all : List CellSlot). MOST_CELLS ≤ room (get_or all 0 d).cells) (sym new)
          (subst (λ (s : CellSlot). MOST_CELLS ≤ room s.cells) (sym (get_or-append old (slot ∷ []) d 0 (omega (arith, low, many)))) (so_far.most d));
      few = subst (λ (all : List CellSlot). (k : ℕ) (d : CellSlot) → k < length all → FEW_CELLS ≤ room (get_or all k d).cells) (sym new)
          (room-more old slot FEW_CELLS so_far.few c.in_ok-reserve-2.ensures);
    }
