-- 64 cells in one number, high bit first: what the calls that read look at.
use Rattle.std.specs.Prelude.{◌≡◌, ℕ, ◌+◌, ◌-◌, ◌<◌, ◌≤◌, Bool, true, false, ◌↔◌, ◌*◌, List, get_or}
use Rattle.std.specs.Prelude.{nat_lt, slice_index, if◌then◌else◌}
use Rattle.cell_bits.specs.Word.{digit}

-- the 64 cells from a place on, with zeros past the list's end
abbrev pub IsWindow : List Bool → ℕ → ℕ → Type 0
IsWindow cells place block =
    (k : ℕ) → k < 64 → digit block (63 - k) ≡ get_or cells (place + k) false

-- the cell k of two blocks, one after the other
abbrev pub cell_of_two : ℕ → ℕ → ℕ → Bool
cell_of_two high low k = if nat_lt k 64 then digit high (63 - k) else digit low (127 - k)

-- the block is the 64 cells of two blocks from a place of the first on
abbrev pub IsJoined : ℕ → ℕ → ℕ → ℕ → Type 0
IsJoined high low shift block =
    (k : ℕ) → k < 64 → digit block (63 - k) ≡ cell_of_two high low (shift + k)

-- from cell k of two blocks on, the first cells of the word stand, `met` of them
abbrev pub MeetsAt : ℕ → ℕ → ℕ → ℕ → ℕ → ℕ → Type 0
MeetsAt high low value count met k =
    (i : ℕ) → i < met → cell_of_two high low (k + i) ≡ digit value (count - 1 - i)

-- the places of the first block from which the first cells of the word stand
abbrev pub AreCandidates : ℕ → ℕ → ℕ → ℕ → ℕ → ℕ → Type 0
AreCandidates high low value count met places =
    (k : ℕ) → k < 64 → (digit places (63 - k) ≡ true) ↔ MeetsAt high low value count met k

-- these are offsets of cells of the word that are all ones, or all zeros
abbrev pub AreCellsOf : (word count : ℕ) → List ℕ → (many : ℕ) → Bool → Type 0
AreCellsOf word count offsets many one = (index : ℕ) → index < many
    → (slice_index offsets index < count)
    × (digit word (count - 1 - slice_index offsets index) ≡ one)

-- digits for the cells of the word, high bit first, that are of such cells alone;
-- what follows them may be anything
abbrev pub AreLeftOf : (word count left : ℕ) → Bool → Type 0
AreLeftOf word count left one =
    (k : ℕ) → k < count → digit left (63 - k) ≡ true → digit word (count - 1 - k) ≡ one

-- so many cells stand at these offsets behind cell k of two blocks
abbrev pub StandAt : ℕ → ℕ → List ℕ → (many : ℕ) → Bool → ℕ → Type 0
StandAt high low offsets many one k =
    (index : ℕ) → index < many → cell_of_two high low (k + slice_index offsets index) ≡ one

-- the word begins with eight ones
abbrev pub BeginsWithOnes : (word count : ℕ) → Type 0
BeginsWithOnes word count = (8 ≤ count) × ((i : ℕ) → i < 8 → digit word (count - 1 - i) ≡ true)

-- so many ones stand in a row from cell k of two blocks on
abbrev pub OnesStandAt : ℕ → ℕ → (many : ℕ) → ℕ → Type 0
OnesStandAt high low many k = (i : ℕ) → i < many → cell_of_two high low (k + i) ≡ true

-- the block is what is left of another behind its first cells, so many of them
abbrev pub IsRest : (low moved block : ℕ) → Type 0
IsRest low moved block =
    (k : ℕ) → moved + k < 64 → digit block (63 - k) ≡ digit low (63 - (moved + k))

-- no four digits that stand together are zeros alone: 16 times four of them
abbrev pub FoursHaveOnes : ℕ → Type 0
FoursHaveOnes block =
    (four : ℕ) → four < 16 → ¬ ((k : ℕ) → k < 4 → digit block (4 * four + k) ≡ false)
