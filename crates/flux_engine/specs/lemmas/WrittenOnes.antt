-- The ones among the cells that are written of a ring, and where they lie in the endlessly repeated
-- ring: each is one of it, and no other lies between two that follow one another.
use Rattle.std.specs.Prelude.{◌≡◌, ◌<◌, ℕ, suc, ◌+◌, ◌-◌, Bool, true, false, List, length, map}
use Rattle.std.specs.Prelude.{get_or, slice_index}
use Rattle.std.proofs.Common.{arith, ap, sym, subst, ◌∙◌}
use Rattle.std.proofs.lemmas.List.{get_or-map}
use Rattle.flux_writer.specs.Written.{ones_of, track_cells}
use Rattle.track_rings.specs.Rings.{AreNeighbours, cell_of}
use Rattle.track_rings.specs.lemmas.Chosen.{AreChosen, are_chosen}
use Rattle.flux_engine.specs.lemmas.Repeated.{begin, written_runs}

pub mapped : (f : ℕ → ℕ) (xs : List ℕ) (i : ℕ) → i < length xs
    → slice_index (map f xs) i ≡ f (slice_index xs i)
mapped f xs i within = get_or-map f xs i 0 0 within

module _ (ring : List Bool) where
  abbrev pub ones : List ℕ
  ones = ones_of (track_cells ring)

  abbrev is_one : ℕ → Bool
  is_one K = get_or (track_cells ring) K false

  pub chosen : AreChosen is_one 0 (length (track_cells ring)) ones
  chosen =
      let count : ℕ = length (track_cells ring) in
      let all : 0 + count ≡ count = omega arith in
      subst (λ (end : ℕ). AreChosen is_one 0 end ones) all (are_chosen is_one 0 count)

  abbrev pub place_of : ℕ → ℕ
  place_of K = begin ring + K

  -- each one of the written cells
  pub one_here : (i : ℕ) → i < length ones → cell_of ring (place_of (slice_index ones i)) ≡ true
  one_here i within =
      sym (written_runs ring (slice_index ones i) (chosen.to i within)) ∙ chosen.passes i within

  pub neighbours : (i : ℕ) → suc i < length ones
      → AreNeighbours ring (place_of (slice_index ones i))
      (place_of (slice_index ones (suc i)) - place_of (slice_index ones i))
  neighbours i within =
      let here : ℕ = slice_index ones i in
      let next : ℕ = slice_index ones (suc i) in
      let rises : here < next = chosen.rises i within in
      let joined : place_of here + (place_of next - place_of here) ≡ place_of next =
      omega (arith, rises) in
      record {
        first = one_here i (omega (arith, within));
        next = subst (λ (n : ℕ). cell_of ring n ≡ true) (sym joined) (one_here (suc i) within);
        behind = omega (arith, rises);
        zeros = λ k some under.
            let to = chosen.to (suc i) within in
            let at : begin ring + (here + k) ≡ place_of here + k = omega arith in
            ap (cell_of ring) (sym at)
            ∙ sym (written_runs ring (here + k) (omega (arith, to, under, rises)))
            ∙ chosen.between i (here + k) within (omega (arith, some))
            (omega (arith, under, rises));
      }
