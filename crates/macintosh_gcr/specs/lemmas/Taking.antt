-- What a step of reading takes out of the values.
use Rattle.std.specs.Prelude.{◌≡◌, ℕ, ◌<◌, List, [], ◌∷◌, ◌++◌, take, drop}
use Rattle.macintosh_gcr.specs.Coding.{after_three, after_two, stored_first, stored_second}
use Rattle.macintosh_gcr.specs.Coding.{stored_third, three_values, two_values}
use Rattle.macintosh_gcr.specs.declared.sums.Sums.{Sums}

-- a group of three bytes was taken, whose values stand at the index
pub record TakesThree (values : List ℕ) (index : ℕ) (sums : Sums) (old new : List ℕ)
    (after : Sums) : Type 0 where
  pub first : ℕ
  pub second : ℕ
  pub third : ℕ
  pub fit : (first < 256) × (second < 256) × (third < 256)
  pub bytes : new ≡ old ++ first ∷ second ∷ third ∷ []
  pub sums_are : after ≡ after_three sums first second third
  pub values_are : take 4 (drop index values)
      ≡ three_values (stored_first sums first) (stored_second sums first second)
      (stored_third sums first second third)

-- the last two bytes were taken
pub record TakesTwo (values : List ℕ) (sums : Sums) (old new : List ℕ) (after : Sums) : Type 0 where
  pub first : ℕ
  pub second : ℕ
  pub spare : ℕ
  pub spare_fits : spare < 4
  pub fit : (first < 256) × (second < 256)
  pub bytes : new ≡ old ++ first ∷ second ∷ []
  pub sums_are : after ≡ after_two sums first second
  pub values_are : take 3 (drop 696 values)
      ≡ two_values spare (stored_first sums first) (stored_second sums first second)
