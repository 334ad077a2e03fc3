-- The stated places are all places of a file, so that they tell it.
use Rattle.std.specs.Prelude.{◌≡◌, ◌<◌, ◌≤◌, ◌⊎◌, ◌+◌, ◌-◌, ◌*◌, ◌/◌, ◌%◌, ℕ, zero, suc, List, length, slice_index}
use Rattle.std.proofs.Common.{arith, ap, sym, ◌∙◌, inl, inr}
use Rattle.std.proofs.lemmas.Bool.{cases_lt}
use Rattle.std.proofs.lemmas.Grind.{same_number_lists}
use Rattle.flux_engine.specs.Rings.{ring_of}
use Rattle.law_stated_files.specs.Written.{IsDiskFile, IsNoTrack, byte_of, ring_byte, speed}
use Rattle.sector_images.specs.Places.{tracks}
use Rattle.sector_images.specs.declared.format.Format.{Format}

same_at : (x y : List ℕ) (p q v : ℕ) → q ≡ p → slice_index x q ≡ v → slice_index y q ≡ v → slice_index x p ≡ slice_index y p
same_at x y p q v at one two =
    let there : slice_index x q ≡ slice_index y q = one ∙ sym two in
    ap (slice_index x) (sym at) ∙ there ∙ ap (slice_index y) at

-- a half track is one of the tracks, or none
which : (count half : ℕ) → IsNoTrack count half ⊎ ((half ≡ 2 * (half / 2)) × (half / 2 < count))
which count half =
    elim (cases_lt (half % 2) 1) [
      | inl even ↦ elim (cases_lt (half / 2) count) [
        | inl below ↦ inr (omega (arith, even), below)
        | inr behind ↦ inl (inr behind)
      ]
      | inr odd ↦ inl (inl (omega (arith, odd)))
    ]

module _ (format : Format) (image x y : List ℕ) (a : IsDiskFile format image x) (b : IsDiskFile format image y) where
  abbrev n : ℕ
  n = length (tracks format)

  in_offsets : (p : ℕ) → 12 ≤ p → p < 348 → slice_index x p ≡ slice_index y p
  in_offsets p from to =
      let half : ℕ = (p - 12) / 4 in
      let i : ℕ = (p - 12) % 4 in
      let few : half < 84 = omega (arith, from, to) in
      let low : i < 4 = omega arith in
      let at : 12 + 4 * half + i ≡ p = omega (arith, from) in
      elim (which n half) [
        | inl none ↦ same_at x y p (12 + 4 * half + i) 0 at (a.no_offsets half i few low none) (b.no_offsets half i few low none)
        | inr one ↦ (let k : ℕ = half / 2 in let even = one.0 in let at' : 12 + 8 * k + i ≡ p = omega (arith, at, even) in
            same_at x y p (12 + 8 * k + i) (byte_of i (684 + 7930 * k)) at' (a.offsets k i one.1 low) (b.offsets k i one.1 low))
      ]

  in_speeds : (p : ℕ) → 348 ≤ p → p < 684 → slice_index x p ≡ slice_index y p
  in_speeds p from to =
      let half : ℕ = (p - 348) / 4 in
      let i : ℕ = (p - 348) % 4 in
      let few : half < 84 = omega (arith, from, to) in
      let low : i < 4 = omega arith in
      let at : 348 + 4 * half + i ≡ p = omega (arith, from) in
      elim (which n half) [
        | inl none ↦ same_at x y p (348 + 4 * half + i) 0 at (a.no_speeds half i few low none) (b.no_speeds half i few low none)
        | inr one ↦ (let k : ℕ = half / 2 in let even = one.0 in let at' : 348 + 8 * k + i ≡ p = omega (arith, at, even) in
            same_at x y p (348 + 8 * k + i) (byte_of i (speed k)) at' (a.speeds k i one.1 low) (b.speeds k i one.1 low))
      ]

  in_track : (p k j : ℕ) → k < n → j < 7930 → 684 + 7930 * k + j ≡ p → slice_index x p ≡ slice_index y p
  in_track p k zero known low at =
      same_at x y p (684 + 7930 * k) (length (ring_of format image k) / 8 % 256) (omega (arith, at)) (a.low_size k known) (b.low_size k known)
  in_track p k (suc zero) known low at =
      same_at x y p (685 + 7930 * k) (length (ring_of format image k) / 8 / 256) (omega (arith, at)) (a.high_size k known) (b.high_size k known)
  in_track p k (suc (suc i)) known low at =
      let there : 686 + 7930 * k + i ≡ p = omega (arith, at) in
      elim (cases_lt i (length (ring_of format image k) / 8)) [
        | inl cell ↦ same_at x y p (686 + 7930 * k + i) (ring_byte (ring_of format image k) i) there (a.cells k i known cell) (b.cells k i known cell)
        | inr behind ↦ (let few : i < 7928 = omega (arith, low) in same_at x y p (686 + 7930 * k + i) 255 there (a.filled k i known behind few) (b.filled k i known behind few))
      ]

  each : (p : ℕ) → p < length x → slice_index x p ≡ slice_index y p
  each p below =
      let size = a.size in
      elim (cases_lt p 12) [
        | inl first ↦ a.first p first ∙ sym (b.first p first)
        | inr past ↦ elim (cases_lt p 348) [
          | inl offset ↦ in_offsets p past offset
          | inr more ↦ elim (cases_lt p 684) [
            | inl slow ↦ in_speeds p more slow
            | inr behind ↦ in_track p ((p - 684) / 7930) ((p - 684) % 7930) (omega (arith, below, size, behind)) (omega arith) (omega (arith, behind))
          ]
        ]
      ]

  pub same : x ≡ y
  same = (let one = a.size in let two = b.size in same_number_lists x y (omega (arith, one, two)) each)
