use Rattle.std.proofs.Common.{◌≡◌, ◌+◌, ◌++◌, List, arith, ap, drop, length, subst, sym, take, ◌∙◌}
use Rattle.std.proofs.Math.Seq.{take-append_seam}
use Rattle.flux_engine.specs.SharedCells.{AreKept}
use Rattle.flux_engine.specs.declared.shared_cells.CellSlot.{CellSlot}
use Rattle.flux_engine.proofs.CellSlots.{HasPut, kept-after}
use Rattle.flux_engine.proofs.shared_cells.SharedCells.recover_anew.Goals as goal

pub returns-then-slot-self-clause-kept : goal.returns-then-slot-self-clause-kept
returns-then-slot-self-clause-kept c =
    let old = c.deref_mut.result.now in
    let new = c.recover_slot.new.slots in
    let slot = c.free_slot-slot.result in
    let times = c.args.flux.now.times in
    let rest = drop (length new) c.args.self.now.slots.items in
    let many = c.recover_slot.ensures.many in
    let size = c.deref_mut.ensures.len in
    let items = ap (λ (all : List CellSlot). length all) c.deref_mut.ensures.value in
    let long : c.args.self.now.slots.len ≡ length new = omega (arith, many, size, items) in
    let put : HasPut old new slot c.args.start times = record {
      many = many;
      others = c.recover_slot.ensures.others;
      start_is = c.recover_slot.ensures.start;
      cells = c.recover_slot.ensures.cells;
      room_stays = c.recover_slot.ensures.room;
    } in
    let kept = subst (λ (all : List CellSlot). AreKept c.args.self.now.used all times) (sym c.deref_mut.ensures.value) c.requires.kept in
    let last = c.if-slot-self.true in
    let some = c.free_slot-slot.ensures.some in
    subst (λ (all : List CellSlot). AreKept (c.args.self.now.used + 1) all times) (sym (ap (λ n. take n (new ++ rest)) long ∙ take-append_seam new rest))
    (kept-after old new slot c.args.start times put c.args.self.now.used (c.args.self.now.used + 1) kept (omega (arith, last, some, items)) (λ k below apart. omega (arith, below, apart, last)))

pub returns-else-slot-self-clause-kept : goal.returns-else-slot-self-clause-kept
returns-else-slot-self-clause-kept c =
    let old = c.deref_mut.result.now in
    let new = c.recover_slot.new.slots in
    let slot = c.free_slot-slot.result in
    let times = c.args.flux.now.times in
    let rest = drop (length new) c.args.self.now.slots.items in
    let many = c.recover_slot.ensures.many in
    let size = c.deref_mut.ensures.len in
    let items = ap (λ (all : List CellSlot). length all) c.deref_mut.ensures.value in
    let long : c.args.self.now.slots.len ≡ length new = omega (arith, many, size, items) in
    let put : HasPut old new slot c.args.start times = record {
      many = many;
      others = c.recover_slot.ensures.others;
      start_is = c.recover_slot.ensures.start;
      cells = c.recover_slot.ensures.cells;
      room_stays = c.recover_slot.ensures.room;
    } in
    let kept = subst (λ (all : List CellSlot). AreKept c.args.self.now.used all times) (sym c.deref_mut.ensures.value) c.requires.kept in
    subst (λ (all : List CellSlot). AreKept c.args.self.now.used all times) (sym (ap (λ n. take n (new ++ rest)) long ∙ take-append_seam new rest))
    (kept-after old new slot c.args.start times put c.args.self.now.used c.args.self.now.used kept kept.within (λ k below apart. below))
