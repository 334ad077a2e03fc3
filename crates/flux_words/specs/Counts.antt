-- How many streams capture each track, as a word of the command line.
use Rattle.std.specs.Prelude.{◌≡◌, ◌≤◌, ℕ, List, length}
use Rattle.std.specs.Str.Parse.{IsNumeral, digits_value}

-- at least one stream captures a track, and at most 16
pub record IsManyCaptures (count : ℕ) : Type 0 where
  pub some : 1 ≤ count
  pub most : count ≤ 16

-- the word is one or two digits, which write this number of captures
pub record IsCount (count : ℕ) (word : List ℕ) : Type 0 where
  pub digits : IsNumeral 10 word
  pub few : length word ≤ 2
  pub value : digits_value 10 word ≡ count
  pub many : IsManyCaptures count
