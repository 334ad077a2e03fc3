-- The numbers of the tracks beside a format's fit in a line.
use Rattle.std.specs.Prelude.{◌≡◌, ◌≤◌, ◌<◌, ◌^◌, ℕ, zero, suc, ◌+◌, true, not, List, [], ◌∷◌, get_or, length}
use Rattle.std.specs.List.{range_with_len}
use Rattle.std.proofs.Common.{arith, lit<}
use Rattle.dump_reading.specs.Beside.{beside_at, beside_tracks, both_heads, is_track, most_cylinders, named_tracks}
use Rattle.flux_base.specs.declared.track.TrackId.{TrackId}
use Rattle.flux_engine.specs.lemmas.Each.{Each, each-filter, each-flat, each-map}
use Rattle.sector_images.specs.declared.format.Format.{Format}
use Rattle.track_shelf.specs.declared.stepping.Stepping.{Stepping}
use Rattle.track_shelf.specs.declared.stepping.Stepping.TheVariants.{Single, Double}

abbrev pub IsSmall : TrackId → Type 0
IsSmall track = (track.cylinder < 2 ^ 64) × (track.head < 2 ^ 64)

-- the numbers of a range are below its end
in_range : (first count : ℕ) → Each (λ (c : ℕ). c < first + count) (range_with_len first count)
in_range first zero = tt
in_range first (suc count) = (
  omega arith,
  each-map (λ (c : ℕ). c < (first + 1) + count) (λ (c : ℕ). c < first + suc count) (λ c low. omega (arith, low)) (range_with_len (first + 1) count) (in_range (first + 1) count),
)

few_cylinders : (stepping : Stepping) → most_cylinders stepping ≤ 100
few_cylinders Single = omega arith
few_cylinders Double = omega arith

small_heads : (cylinder : ℕ) → cylinder < 2 ^ 64 → Each IsSmall (both_heads cylinder)
small_heads cylinder low = ((low, lit< tt), ((low, lit< tt), tt))

-- what holds of each holds of that of a number
at_number : (P : TrackId → Type 0) (xs : List TrackId) (d : TrackId) → Each P xs → (i : ℕ) → i < length xs → P (get_or xs i d)
at_number P [] d all i low = absurd (omega (arith, low))
at_number P (x ∷ xs) d all zero low = all.0
at_number P (x ∷ xs) d all (suc i) low = at_number P xs d all.1 i (omega (arith, low))

module _ (stepping : Stepping) (format : Format) where
  small_cylinders : Each (λ (c : ℕ). c < 2 ^ 64) (range_with_len 0 (most_cylinders stepping))
  small_cylinders =
      let limit : 100 < 2 ^ 64 = lit< tt in
      let few = few_cylinders stepping in
      each-map (λ (c : ℕ). c < 0 + most_cylinders stepping) (λ (c : ℕ). c < 2 ^ 64) (λ c low. omega (arith, low, few, limit)) (range_with_len 0 (most_cylinders stepping))
      (in_range 0 (most_cylinders stepping))

  named_small : Each IsSmall (named_tracks stepping)
  named_small = each-flat both_heads (λ (c : ℕ). c < 2 ^ 64) IsSmall small_heads (range_with_len 0 (most_cylinders stepping)) small_cylinders

  pub beside_small : (n : ℕ) → n < length (beside_tracks stepping format) → IsSmall (beside_at stepping format n)
  unfolding beside_tracks
  beside_small n low =
      (at_number (λ (t : TrackId). IsSmall t × (not (is_track format t) ≡ true)) (beside_tracks stepping format) (record { cylinder = 0; head = 0 })
      (each-filter (λ (t : TrackId). not (is_track format t)) IsSmall (named_tracks stepping) named_small) n low).0
