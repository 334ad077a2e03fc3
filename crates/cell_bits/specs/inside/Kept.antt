-- The places at which words stand in a list of cells, as they are kept.
use Rattle.std.specs.Prelude.{◌≡◌, ◌≤◌, ◌<◌, ◌+◌, ℕ, Bool, All, List, get_or, length}
use Rattle.std.specs.List.Sorted.{IsNonDecreasing}
use Rattle.std.specs.Vec.{vec_capacity}
use Rattle.cell_bits.specs.Search.{StandsNowhere}
use Rattle.cell_bits.specs.Word.{Stands}
use Rattle.cell_bits.specs.declared.cells.places.KeptPlaces.{KeptPlaces}
use Rattle.cell_bits.specs.declared.cells.places.Known.{Known}
use Rattle.cell_bits.specs.declared.cells.places.Known.TheVariants.{At, NowhereBelow}
use Rattle.cell_bits.specs.declared.cells.places.WordPlaces.{WordPlaces}

-- the most places of a word that are kept
abbrev pub MOST_PLACES : ℕ
MOST_PLACES = 1024

-- These are the places below one at which the word stands. At each place below that one it would
-- end within the list, so that cells which are appended change none of it.
pub record AreAllPlaces (cells : List Bool) (word count sought : ℕ) (places : List ℕ)
    : Type 0 where
  pub some : 1 ≤ count
  pub most : count ≤ 32
  pub within : (place : ℕ) → place < sought → place + count ≤ length cells
  pub rise : IsNonDecreasing places
  pub low : (k : ℕ) → k < length places → get_or places k 0 < sought
  pub stand : (k : ℕ) → k < length places → Stands cells word count (get_or places k 0)
  pub all : (place : ℕ) → place < sought → Stands cells word count place
      → (k : ℕ) × (k < length places) × (get_or places k 0 ≡ place)

abbrev pub ArePlaces : List Bool → WordPlaces → Type 0
ArePlaces cells kept = AreAllPlaces cells kept.word kept.count kept.sought kept.places.items

-- there is room for the most places of a word
abbrev pub IsRoomy : WordPlaces → Type 0
IsRoomy kept = MOST_PLACES ≤ vec_capacity kept.places

-- the first of these are places of words in these cells
pub record AreKeptOf (cells : List Bool) (used : ℕ) (words : List WordPlaces) : Type 0 where
  pub few : used ≤ length words
  pub roomy : All IsRoomy words
  pub are : (k : ℕ) (d : WordPlaces) → k < used → ArePlaces cells (get_or words k d)

abbrev pub AreKept : List Bool → KeptPlaces → Type 0
AreKept cells kept = AreKeptOf cells kept.used kept.words.items

-- what is told of where the word stands from a place on
abbrev pub Tells : List Bool → (word count from : ℕ) → Known → Type 0
Tells cells word count from (At place) =
    (from ≤ place) × Stands cells word count place × StandsNowhere cells word count from place
Tells cells word count from (NowhereBelow sought) = StandsNowhere cells word count from sought
