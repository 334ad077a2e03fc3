-- The seed of a trial, as a word of the command line.
use Rattle.std.specs.Prelude.{◌≡◌, ◌≤◌, ◌<◌, ◌^◌, ℕ, List, length}
use Rattle.std.specs.Str.Parse.{IsNumeral, digits_value}

-- the word is 1 to 10 digits, which write this number, and it has at most 32 bits
pub record IsSeed (seed : ℕ) (word : List ℕ) : Type 0 where
  pub digits : IsNumeral 10 word
  pub few : length word ≤ 10
  pub value : digits_value 10 word ≡ seed
  pub fits : seed < 2 ^ 32
