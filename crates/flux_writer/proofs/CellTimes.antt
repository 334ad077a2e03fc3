-- The times of the transitions of cells, as they are found one by one.
use Rattle.std.proofs.Common.{◌≡◌, ◌≤◌, ◌<◌, ◌+◌, ◌-◌, ◌*◌, ◌++◌, ℕ, Bool, true, false, List, [], ◌∷◌, length, map, take, drop, get_or, ap, ◌∙◌, arith}
use Rattle.std.proofs.lemmas.List.{map-append}
use Rattle.std.proofs.Math.Nat.{mul-le-mul_right}
use Rattle.cell_bits.specs.Search.{HasNoOne}
use Rattle.flux_writer.specs.Written.{cell_time}
use Rattle.flux_writer.specs.inside.Writing.{times_between}
use Rattle.flux_writer.specs.lemmas.FoundOnes.{ones_between, ones_between-none, ones_between-one, ones_between-split, ones_from}

pub cell_time-le : (nominal j k : ℕ) → j ≤ k → cell_time nominal j ≤ cell_time nominal k
cell_time-le nominal j k order =
    let product : (j + 1) * nominal ≤ (k + 1) * nominal = mul-le-mul_right nominal (omega arith) in
    omega (arith, product)

pub cell_time-lt : (nominal j k : ℕ) → 1024 ≤ nominal → j < k → cell_time nominal j < cell_time nominal k
cell_time-lt nominal j k long order =
    let product : (j + 1 + 1) * nominal ≤ (k + 1) * nominal = mul-le-mul_right nominal (omega arith) in
    let one : (j + 1 + 1) * nominal ≡ (j + 1) * nominal + nominal = add_mul (j + 1) nominal in
    omega (arith, product, one, long)
  where
    add_mul : (a n : ℕ) → (a + 1) * n ≡ a * n + n
    add_mul a n = grind arith

-- cells up to a place, and those after it
pub times_between-split : (cells : List Bool) (from place to number nominal : ℕ) → from ≤ place → place ≤ to → to ≤ length cells
    → times_between cells from to number nominal ≡ times_between cells from place number nominal
    ++ map (cell_time nominal) (ones_from (number + (place - from)) (take (to - place) (drop place cells)))
times_between-split cells from place to number nominal start order within =
    ap (map (cell_time nominal)) (ones_between-split cells from place to number start order within)
    ∙ map-append (cell_time nominal) (ones_between cells from place number) (ones_from (number + (place - from)) (take (to - place) (drop place cells)))

module _ (cells : List Bool) (from number nominal : ℕ) where
  -- one more transition
  pub times_between-one : (place one to : ℕ) → from ≤ place → place ≤ one → get_or cells one false ≡ true → HasNoOne cells place one
      → times_between cells from (one + 1) number nominal
      ≡ times_between cells from place number nominal ++ cell_time nominal (number + (one - from)) ∷ []
  times_between-one place one to start order stands nowhere =
      ap (map (cell_time nominal)) (ones_between-one cells from number place one start order stands nowhere)
      ∙ map-append (cell_time nominal) (ones_between cells from place number) ((number + (one - from)) ∷ [])

  -- no more transitions
  pub times_between-none : (place to : ℕ) → from ≤ place → place ≤ to → to ≤ length cells → HasNoOne cells place to
      → times_between cells from to number nominal ≡ times_between cells from place number nominal
  times_between-none place to start order within nowhere =
      ap (map (cell_time nominal)) (ones_between-none cells from number place to start order within nowhere)
