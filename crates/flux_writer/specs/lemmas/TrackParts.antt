-- The cells of a ring that are written, part by part.
use Rattle.std.proofs.Common.{◌≡◌, ◌≤◌, ◌+◌, ◌-◌, ◌*◌, ◌++◌, ℕ, zero, suc, Bool, List, length, take}
use Rattle.std.proofs.Common.{drop, refl, ap, ◌∙◌, arith, append_assoc, length-append, length-drop}
use Rattle.std.proofs.lemmas.List.{length-take-le}
use Rattle.flux_writer.specs.Written.{quarter, track_cells}

-- a ring's last quarter, and so many turns
abbrev pub cells_after : List Bool → ℕ → List Bool
cells_after ring zero = drop (length ring - quarter ring) ring
cells_after ring (suc turns) = cells_after ring turns ++ ring

-- how many cells these are: the number of an index cell
abbrev pub turn_cell : List Bool → ℕ → ℕ
turn_cell ring turns = quarter ring + turns * length ring

pub length-cells_after : (ring : List Bool) (turns : ℕ)
    → length (cells_after ring turns) ≡ turn_cell ring turns
length-cells_after ring zero = omega (arith, length-drop (length ring - quarter ring) ring)
length-cells_after ring (suc turns) =
    let product : suc turns * length ring ≡ turns * length ring + length ring = grind arith in
    omega
    (arith, length-append (cells_after ring turns) ring, length-cells_after ring turns, product)

-- all parts are the cells that are written
pub all_parts : (ring : List Bool)
    → cells_after ring 3 ++ take (quarter ring) ring ≡ track_cells ring
all_parts ring =
    let front = cells_after ring 0 in
    let back = take (quarter ring) ring in
    append_assoc ((front ++ ring) ++ ring) ring back
    ∙ append_assoc (front ++ ring) ring (ring ++ back)
    ∙ append_assoc front ring (ring ++ (ring ++ back))

-- how many cells are written
pub length-track_cells : (ring : List Bool)
    → length (track_cells ring) ≡ quarter ring + 3 * length ring + quarter ring
length-track_cells ring =
    omega (
      arith,
      ap length (all_parts ring),
      length-append (cells_after ring 3) (take (quarter ring) ring),
      length-cells_after ring 3,
      length-take-le (quarter ring) ring (omega arith),
    )

-- what is written after some turns
pub rest_after : (ring : List Bool) (turns : ℕ) → turns ≤ 3
    → (rest : List Bool) × (cells_after ring turns ++ rest ≡ track_cells ring)
rest_after ring zero few = (ring ++ (ring ++ (ring ++ take (quarter ring) ring)), refl)
rest_after ring (suc zero) few =
    let front = cells_after ring 0 in
    let back = take (quarter ring) ring in
    (ring ++ (ring ++ back), append_assoc front ring (ring ++ (ring ++ back)))
rest_after ring (suc (suc zero)) few =
    let front = cells_after ring 0 in
    let back = take (quarter ring) ring in (
      ring ++ back,
      append_assoc (front ++ ring) ring (ring ++ back)
          ∙ append_assoc front ring (ring ++ (ring ++ back)),
    )
rest_after ring (suc (suc (suc zero))) few = (take (quarter ring) ring, all_parts ring)
rest_after ring (suc (suc (suc (suc turns)))) few = absurd (omega (arith, few))
