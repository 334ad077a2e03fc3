-- Cells that are appended some after others.
use Rattle.std.specs.Prelude.{◌≡◌, ℕ, ◌+◌, ◌≤◌, Bool, List, [], ◌∷◌, ◌++◌, length, IsErr, Ok, Err}
use Rattle.std.specs.Prelude.{refl, take, get_or, ◌<◌, flat_map}
use Rattle.std.specs.declared.result.Result.{Result}
use Rattle.std.proofs.Common.{ap, sym, ◌∙◌, arith, append_assoc, append-nil, length-append}
use Rattle.std.proofs.lemmas.List.{take_more}
use Rattle.std.proofs.lemmas.List.Concat.{flat_map-append}
use Rattle.std.proofs.lemmas.List.Folds.{length-flat_map-take}
use Rattle.flux_base.specs.declared.outside.Memory.{Memory}
use Rattle.cell_bits.specs.State.{CellsState, room}
use Rattle.frame_law.specs.Writing.{AppendsCells}

-- no cells
pub AppendsCells-none : (state : CellsState) → AppendsCells state state [] (Ok tt)
AppendsCells-none state = record {
  ok = sym (append-nil state.cells);
  room_stays = omega arith;
  succeeds = λ _. refl;
}

spare-behind : (old mid : CellsState) (first then : List Bool) → mid.cells ≡ old.cells ++ first
    → room old ≤ room mid
    → length (first ++ then) ≤ old.spare → length then ≤ mid.spare
spare-behind old mid first then ok stays fits =
    let all = length-append first then in
    let grown = ap length ok ∙ length-append old.cells first in
    omega (arith, all, grown, stays, fits)

-- some cells, and then more
pub AppendsCells-more : (old mid new : CellsState) (first then : List Bool)
    (result : Result (Unit {0}) Memory)
    → AppendsCells old mid first (Ok tt) → AppendsCells mid new then result
    → AppendsCells old new (first ++ then) result
AppendsCells-more old mid new first then (Ok u) a b = record {
  ok = b.ok ∙ ap (λ (cells : List Bool). cells ++ then) a.ok ∙ append_assoc old.cells first then;
  room_stays = omega (arith, a.room_stays, b.room_stays);
  succeeds = λ _. refl;
}
AppendsCells-more old mid new first then (Err why) a b = record {
  ok = tt;
  room_stays = omega (arith, a.room_stays, b.room_stays);
  succeeds = λ fits. b.succeeds (spare-behind old mid first then a.ok a.room_stays fits);
}

-- the first of some cells, and then no memory for all of them
pub AppendsCells-stop : (old mid new : CellsState) (first then all : List Bool) (why : Memory)
    (result : Result (Unit {0}) Memory)
    → IsErr result → AppendsCells old mid first (Ok tt) → AppendsCells mid new then (Err why)
    → length (first ++ then) ≤ length all
    → AppendsCells old new all result
AppendsCells-stop old mid new first then all why (Ok u) failed a b short = absurd (cc)
AppendsCells-stop old mid new first then all why (Err e) failed a b short = record {
  ok = tt;
  room_stays = omega (arith, a.room_stays, b.room_stays);
  succeeds = λ fits.
      b.succeeds (spare-behind old mid first then a.ok a.room_stays (omega (arith, short, fits)));
}

-- pieces of which each is some of what is appended, be that cells or what is coded as cells
module _ {X Y : Type 0}
    (Appends : CellsState → CellsState → List Y → Result (Unit {0}) Memory → Type 0)
    (told : X → List Y) (pieces : List X) where
  -- one more piece
  pub Appends-next
      : ((old mid new : CellsState) (first then : List Y) (result : Result (Unit {0}) Memory)
      → Appends old mid first (Ok tt) → Appends mid new then result
      → Appends old new (first ++ then) result)
      → (old mid new : CellsState) (i : ℕ) (d : X) → i < length pieces
      → Appends old mid (flat_map told (take i pieces)) (Ok tt)
      → Appends mid new (told (get_or pieces i d)) (Ok tt)
      → Appends old new (flat_map told (take (i + 1) pieces)) (Ok tt)
  Appends-next more old mid new i d within a b =
      let longer = more old mid new _ _ (Ok tt) a b in
      let one = append-nil (told (get_or pieces i d)) in
      let joined = flat_map-append told (take i pieces) (get_or pieces i d ∷ []) in
      rw (take_more pieces i d within, joined, one) longer

  -- no memory for one more piece
  pub Appends-short
      : ((old mid new : CellsState) (first then all : List Y) (why : Memory)
      (result : Result (Unit {0}) Memory)
      → IsErr result → Appends old mid first (Ok tt) → Appends mid new then (Err why)
      → length first + length then ≤ length all
      → Appends old new all result)
      → (old mid new : CellsState) (i : ℕ) (d : X) (why : Memory)
      (result : Result (Unit {0}) Memory)
      → IsErr result → i < length pieces
      → Appends old mid (flat_map told (take i pieces)) (Ok tt)
      → Appends mid new (told (get_or pieces i d)) (Err why)
      → Appends old new (flat_map told pieces) result
  Appends-short stop old mid new i d why result failed within a b =
      let part = length-flat_map-take told pieces i d within in
      stop old mid new (flat_map told (take i pieces)) (told (get_or pieces i d))
      (flat_map told pieces) why result failed a b (omega (arith, part))

pub AppendsCells-next : {X : Type 0} (cells_of : X → List Bool) (pieces : List X)
    (old mid new : CellsState) (i : ℕ) (d : X)
    → i < length pieces
    → AppendsCells old mid (flat_map cells_of (take i pieces)) (Ok tt)
    → AppendsCells mid new (cells_of (get_or pieces i d)) (Ok tt)
    → AppendsCells old new (flat_map cells_of (take (i + 1) pieces)) (Ok tt)
AppendsCells-next cells_of pieces = Appends-next AppendsCells cells_of pieces AppendsCells-more

pub AppendsCells-short : {X : Type 0} (cells_of : X → List Bool) (pieces : List X)
    (old mid new : CellsState) (i : ℕ) (d : X) (why : Memory)
    (result : Result (Unit {0}) Memory) → IsErr result → i < length pieces
    → AppendsCells old mid (flat_map cells_of (take i pieces)) (Ok tt)
    → AppendsCells mid new (cells_of (get_or pieces i d)) (Err why)
    → AppendsCells old new (flat_map cells_of pieces) result
AppendsCells-short cells_of pieces =
    Appends-short AppendsCells cells_of pieces
    (λ old mid new first then all why result failed a b short.
    AppendsCells-stop old mid new first
    then all why result failed a b (omega (arith, short, length-append first then)))
