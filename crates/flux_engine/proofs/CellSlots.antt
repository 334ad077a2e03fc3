-- Slots with the cells of one stream.
use Rattle.std.proofs.Common.{◌≡◌, ◌≤◌, ◌<◌, ◌⊎◌, ◌∷◌, ◌++◌, [], ℕ, List, length, inl, inr, sym, ap, subst, ◌∙◌, arith, length-append}
use Rattle.std.specs.Prelude.{◌≢◌, true, false, nat_eq, Option, None, Some, get_or}
use Rattle.std.proofs.Math.ListN.{get_or-append}
use Rattle.std.proofs.Math.Seq.{get_or-append_seam}
use Rattle.std.proofs.lemmas.Bool.{cases_lt}
use Rattle.std.proofs.lemmas.Bool.Decides.{eqb_tells}
use Rattle.cell_bits.specs.State.{CellsState, room}
use Rattle.phase_loop.specs.declared.start.LoopStart.{LoopStart}
use Rattle.flux_engine.specs.Room.{MOST_CELLS}
use Rattle.flux_engine.specs.SharedCells.{AreKept, AreRecovered, FEW_CELLS, HoldsCells, HoldsIn}
use Rattle.flux_engine.specs.declared.shared_cells.CellSlot.{CellSlot}

-- the cells of a slot are those that it holds
pub in-slot : (slots : List CellSlot) (slot : ℕ) (start : LoopStart) (times : List ℕ) (cells : CellsState) → HoldsIn slots slot start times
    → ((d : CellSlot) → cells ≡ (get_or slots slot d).cells) → AreRecovered start times cells.cells
in-slot slots slot start times cells kept same =
    let d : CellSlot = record { start = None; cells = cells } in
    subst (λ (s : CellsState). AreRecovered start times s.cells) (sym (same d)) (kept.holds d)

-- each has room, with one more
pub room-more : (slots : List CellSlot) (slot : CellSlot) (most : ℕ) → ((k : ℕ) (d : CellSlot) → k < length slots → most ≤ room (get_or slots k d).cells) → most ≤ room slot.cells
    → (k : ℕ) (d : CellSlot) → k < length (slots ++ slot ∷ []) → most ≤ room (get_or (slots ++ slot ∷ []) k d).cells
room-more slots slot most each last k d below = by (cases_lt k (length slots))
  where
    by : (k < length slots) ⊎ (length slots ≤ k) → most ≤ room (get_or (slots ++ slot ∷ []) k d).cells
    by (inl less) = subst (λ (s : CellSlot). most ≤ room s.cells) (sym (get_or-append slots (slot ∷ []) d k less)) (each k d less)
    by (inr past) =
        let at : length slots ≡ k = omega (arith, past, below, length-append slots (slot ∷ [])) in
        subst (λ (s : CellSlot). most ≤ room s.cells) (sym (ap (λ (n : ℕ). get_or (slots ++ slot ∷ []) n d) (sym at) ∙ get_or-append_seam slots slot [] d)) last

-- in a slot there are the cells of a start, and all others are as they were
pub record HasPut (old new : List CellSlot) (slot : ℕ) (start : LoopStart) (times : List ℕ) : Type 0 where
  pub many : length new ≡ length old
  pub others : (k : ℕ) (d : CellSlot) → k ≢ slot → get_or new k d ≡ get_or old k d
  pub start_is : (d : CellSlot) → (get_or new slot d).start ≡ Some start
  pub cells : (d : CellSlot) → AreRecovered start times (get_or new slot d).cells.cells
  pub room_stays : (d : CellSlot) → room (get_or old slot d).cells ≤ room (get_or new slot d).cells

module _ (old new : List CellSlot) (slot : ℕ) (start : LoopStart) (times : List ℕ) (put : HasPut old new slot start times) where
  room-kept : (k : ℕ) (d : CellSlot) (most : ℕ) → most ≤ room (get_or old k d).cells → most ≤ room (get_or new k d).cells
  room-kept k d most before = by (eqb_tells k slot)
    where
      by : ((nat_eq k slot ≡ true) × (k ≡ slot)) ⊎ ((nat_eq k slot ≡ false) × (k ≢ slot)) → most ≤ room (get_or new k d).cells
      by (inl same) =
          subst (λ (n : ℕ). most ≤ room (get_or new n d).cells) (sym same.1)
          (let more = put.room_stays d in let least = subst (λ (n : ℕ). most ≤ room (get_or old n d).cells) same.1 before in omega (arith, more, least))
      by (inr apart) = subst (λ (s : CellSlot). most ≤ room s.cells) (sym (put.others k d apart.1)) before

  -- the slots are kept, with the one more
  pub kept-after : (used used' : ℕ) → AreKept used old times → used' ≤ length old → ((k : ℕ) → k < used' → k ≢ slot → k < used) → AreKept used' new times
  kept-after used used' kept within before = record {
    some = (let many = put.many in let some = kept.some in omega (arith, many, some));
    within = (let many = put.many in omega (arith, many, within));
    most = λ d. room-kept 0 d MOST_CELLS (kept.most d);
    few = λ k d below. room-kept k d FEW_CELLS (kept.few k d (let many = put.many in omega (arith, many, below)));
    hold = λ k d below. by k d below (eqb_tells k slot);
  }
    where
      by : (k : ℕ) (d : CellSlot) → k < used' → ((nat_eq k slot ≡ true) × (k ≡ slot)) ⊎ ((nat_eq k slot ≡ false) × (k ≢ slot))
          → HoldsCells (get_or new k d).start times (get_or new k d).cells.cells
      by k d below (inl same) =
          subst (λ (n : ℕ). HoldsCells (get_or new n d).start times (get_or new n d).cells.cells) (sym same.1)
          (subst (λ (s : Option LoopStart). HoldsCells s times (get_or new slot d).cells.cells) (sym (put.start_is d)) (put.cells d))
      by k d below (inr apart) = subst (λ (s : CellSlot). HoldsCells s.start times s.cells.cells) (sym (put.others k d apart.1)) (kept.hold k d (before k below apart.1))
