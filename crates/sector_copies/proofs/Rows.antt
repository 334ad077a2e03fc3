-- Worked rows of the contents that are kept.
use Rattle.std.specs.Prelude.{◌≡◌, ℕ, List, [], ◌∷◌, length, map, refl}
use Rattle.std.specs.List.{range_with_len}
use Rattle.turn_merge.specs.Readings.{good_reading}
use Rattle.turn_merge.specs.declared.clock.Clock.TheVariants.{Following}
use Rattle.turn_merge.specs.declared.verdict.Place.{Place}
use Rattle.sector_copies.specs.Copies.{Copy, copies_over}

abbrev at : ℕ → Place
at cell = record { capture = 0; clock = Following; turn = 1; cell = cell }

abbrev content : List ℕ → ℕ → ℕ → Copy
content bytes readings cell = record { bytes = bytes; readings = readings; first = at cell }

-- no reading, one, and three with two contents
none : copies_over [] ≡ []
unfolding copies_over
none = refl

one : copies_over (good_reading 1 (at 7) (2 ∷ []) ∷ []) ≡ content (2 ∷ []) 1 7 ∷ []
unfolding copies_over
one = refl

two : copies_over (good_reading 1 (at 7) (2 ∷ []) ∷ good_reading 1 (at 8) (3 ∷ []) ∷ good_reading 1 (at 9) (2 ∷ []) ∷ [])
    ≡ content (2 ∷ []) 2 7 ∷ content (3 ∷ []) 1 8 ∷ []
unfolding copies_over
two = refl

-- a seventeenth is left out
seventeen : length (copies_over (map (λ n. good_reading 1 (at n) (n ∷ [])) (range_with_len 0 17))) ≡ 16
unfolding copies_over
seventeen = refl
