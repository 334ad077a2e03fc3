-- The cells of a ring that pass, part by part.
use Rattle.std.proofs.Common.{◌≡◌, ◌≤◌, ◌<◌, ◌+◌, ◌-◌, ◌++◌, ℕ, suc, Bool, List, All, length, take, ap, sym, ◌∙◌, arith}
use Rattle.std.proofs.lemmas.List.{take_all}
use Rattle.flux_writer.specs.Written.{ones_of, quarter, track_cells}
use Rattle.flux_trial.specs.inside.Turning.{ones_after}
use Rattle.flux_writer.specs.lemmas.FoundOnes.{ones_between, ones_from, Rises, ones_from-append, ones_of-is, ones_rise, ones_within}
use Rattle.flux_writer.specs.lemmas.TrackParts.{all_parts, cells_after, length-cells_after, rest_after, turn_cell}

-- the ones of a ring are some, and then those of a whole turn
pub ones-turn : (ring : List Bool) (turns len : ℕ) → len ≡ length ring
    → ones_after ring turns ++ ones_between ring 0 len (turn_cell ring turns) ≡ ones_after ring (suc turns)
ones-turn ring turns len is =
    let whole : take (len - 0) ring ≡ ring = take_all (len - 0) ring (omega (arith, is)) in
    let at : turn_cell ring turns ≡ 0 + length (cells_after ring turns) = omega (arith, length-cells_after ring turns) in
    ap (λ (cells : List Bool). ones_after ring turns ++ ones_from (turn_cell ring turns) cells) whole
    ∙ ap (λ (n : ℕ). ones_after ring turns ++ ones_from n ring) at
    ∙ sym (ones_from-append 0 (cells_after ring turns) ring)

-- after all turns those of the first quarter
pub ones-end : (ring : List Bool) (q : ℕ) → q ≡ quarter ring
    → ones_after ring 3 ++ ones_between ring 0 q (turn_cell ring 3) ≡ ones_of (track_cells ring)
ones-end ring q is =
    let whole : q - 0 ≡ quarter ring = omega (arith, is) in
    let at : turn_cell ring 3 ≡ 0 + length (cells_after ring 3) = omega (arith, length-cells_after ring 3) in
    ap (λ (n : ℕ). ones_after ring 3 ++ ones_from (turn_cell ring 3) (take n ring)) whole
    ∙ ap (λ (n : ℕ). ones_after ring 3 ++ ones_from n (take (quarter ring) ring)) at
    ∙ sym (ones_from-append 0 (cells_after ring 3) (take (quarter ring) ring))
    ∙ ap (ones_from 0) (all_parts ring) ∙ sym (ones_of-is (track_cells ring))

-- all ones are those that passed, and others from the next cell on
pub ones-rest : (ring : List Bool) (turns : ℕ) → turns ≤ 3
    → (rest : List ℕ) × (ones_of (track_cells ring) ≡ ones_after ring turns ++ rest) × All (λ one. turn_cell ring turns ≤ one) rest × Rises rest
ones-rest ring turns few =
    let rest = rest_after ring turns few in
    let at : 0 + length (cells_after ring turns) ≡ turn_cell ring turns = omega (arith, length-cells_after ring turns) in (
      ones_from (turn_cell ring turns) rest.0,
      ones_of-is (track_cells ring) ∙ ap (ones_from 0) (sym rest.1) ∙ ones_from-append 0 (cells_after ring turns) rest.0
          ∙ ap (λ (n : ℕ). ones_after ring turns ++ ones_from n rest.0) at,
      (λ k d within. (ones_within (turn_cell ring turns) rest.0 k d within).0),
      ones_rise (turn_cell ring turns) rest.0,
    )

pub ones-before : (ring : List Bool) (turns : ℕ) → All (λ one. one < turn_cell ring turns) (ones_after ring turns)
ones-before ring turns k d within =
    omega (arith, (ones_within 0 (cells_after ring turns) k d within).1, length-cells_after ring turns)
