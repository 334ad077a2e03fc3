-- Which format's word is nearest to a word that is none.
use Rattle.std.specs.Prelude.{ℕ, ◌+◌, ◌-◌, ◌*◌, ◌++◌, Bool, List, codes, count_by, length, nat_eq}
use Rattle.std.specs.Prelude.{nat_lt, slice_index, take}
use Rattle.std.specs.List.{best_of, range_with_len}
use Rattle.sector_images.specs.Formats.{formats, row}
use Rattle.sector_images.specs.declared.format.Format.{Format}
use Rattle.sector_images.specs.declared.format.Format.TheVariants.{Ibm3740}

-- how often a letter stands in a word
abbrev pub times : ℕ → List ℕ → ℕ
times letter word = count_by (λ other. nat_eq other letter) word

-- a word has the letter at this place of a name too: it has the letter more often
-- than it stands before the place
abbrev pub is_shared : (name word : List ℕ) → ℕ → Bool
is_shared name word place =
    nat_lt (times (slice_index name place) (take place name)) (times (slice_index name place) word)

-- how many letters of a name a word has too, each as often as both have it
abbrev pub shared : (name word : List ℕ) → ℕ
shared name word = count_by (is_shared name word) (range_with_len 0 (length name))

-- How many letters only one of them has. Those of the word that the name lacks count twice, so
-- that a part of a name finds it.
abbrev pub differing : (name word : List ℕ) → ℕ
differing name word = 2 * (length word - shared name word) + (length name - shared name word)

-- a format's word differs less than another's
abbrev pub is_nearer : List ℕ → Format → Format → Bool
is_nearer word format other =
    nat_lt (differing (row format).word word) (differing (row other).word word)

-- the format whose word differs least, and of several the first of the table
unfoldable pub nearest : List ℕ → Format
nearest word = best_of (is_nearer word) Ibm3740 formats

-- the end of a line that names it
unfoldable pub nearest_text : List ℕ → List ℕ
nearest_text word = codes "; nearest: " ++ (row (nearest word)).word ++ codes "\n"
