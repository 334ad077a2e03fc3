-- Worked values of the rule, computed from its definition.
use Rattle.std.proofs.Common.{◌≡◌, ◌+◌, ◌*◌, [], ◌∷◌, ◌++◌, map, replicate, if◌then◌else◌, nat_lt, refl}
use Rattle.std.specs.List.{range_with_len}
use Rattle.phase_loop.specs.Start.{band_of}
use Rattle.phase_loop.specs.Rows.{rows_to, next_row, counts}
use Rattle.phase_loop.specs.declared.start.LoopStart.{LoopStart}

abbrev start : LoopStart
start = record { nominal = 49152; first = 49152; band = band_of 49152 }

just_32 : counts start (48 ∷ 1594 ∷ 1662 ∷ []) ≡ 32 ∷ 2 ∷ []
unfolding rows_to next_row
just_32 = refl

past_32 : counts start (48 ∷ 1642 ∷ 1710 ∷ []) ≡ 32 ∷ 1 ∷ []
unfolding rows_to next_row
past_32 = refl

-- two hundred transitions at one cell each
even : counts start (map (λ k. 48 + 48 * k) (range_with_len 0 200)) ≡ replicate 199 1
unfolding rows_to next_row
even = refl

-- the same, those from number 100 on 50 ticks later
jump : counts start (map (λ k. if nat_lt k 100 then 48 + 48 * k else 98 + 48 * k) (range_with_len 0 200)) ≡ replicate 99 1 ++ (2 ∷ replicate 99 1)
unfolding rows_to next_row
jump = refl
