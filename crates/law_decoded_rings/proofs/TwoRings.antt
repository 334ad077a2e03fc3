-- Two rings of a track have each sector's frame whole.
use Rattle.std.specs.Prelude.{◌≡◌, ℕ, ◌+◌, ◌-◌, ◌%◌, ◌<◌, Bool, List, length, refl}
use Rattle.std.proofs.Common.{ap, sym, ◌∙◌, arith, inl, inr}
use Rattle.std.proofs.lemmas.Bool.{cases_lt}
use Rattle.std.proofs.Math.Nat.{add-mod_right, mod-add-mod, mod-eq_of_lt, mod-lt}
use Rattle.law_decoded_rings.specs.Verdicts.{TwoRingsHaveSectors}
use Rattle.law_decoded_rings.specs.Written.{IsReadWithin, WrittenTrack}

-- a place less than a ring on from which a place of the ring comes next
place_of : (size from begin : ℕ) → begin < size → (place : ℕ) × (place < size) × ((from + place) % size ≡ begin)
place_of size from begin low =
    let here = from % size in
    let less : here < size = mod-lt from (omega arith) in
    elim (cases_lt begin here) [
      | inr ahead ↦
          let e : here + (begin - here) ≡ begin = omega (arith, ahead) in
          (begin - here, omega (arith, low), sym (mod-add-mod from size (begin - here)) ∙ ap (λ (n : ℕ). n % size) e ∙ mod-eq_of_lt low)
      | inl passed ↦
          let rest = begin + size - here in
          let e : here + rest ≡ begin + size = omega (arith, less) in (
            rest,
            omega (arith, passed, less),
            sym (mod-add-mod from size rest) ∙ ap (λ (n : ℕ). n % size) e ∙ add-mod_right begin size ∙ mod-eq_of_lt low,
          )
    ]

module _ (sector : List Bool → ℕ → List ℕ → Type 0) (track : WrittenTrack) (zeros : ℕ) (read : IsReadWithin zeros sector track) where
  pub two_rings_have_sectors : TwoRingsHaveSectors sector track
  two_rings_have_sectors piece s long known =
      let whole = read.whole s known in
      let some = read.some in
      let at = place_of (length track.ring) piece.from (track.begin_of s) (omega (arith, whole, some)) in
      (0, at.0, record { piece = piece; there = refl; lies = record { same = at.2; whole = omega (arith, long, whole, at.1) } })
