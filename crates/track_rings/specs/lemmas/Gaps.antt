-- The gap after a header: words that stand nowhere in it, which computation shows whatever comes
-- after it, and what stands first.
use Rattle.std.specs.Prelude.{◌≡◌, ℕ, zero, suc, ◌+◌, ◌-◌, ◌<◌, ◌≤◌, Bool, true, false, not, ◌&&◌}
use Rattle.std.specs.Prelude.{List, [], ◌∷◌, ◌++◌, length, take, drop, refl}
use Rattle.std.proofs.Common.{ap, sym, ◌∙◌, arith, inl, inr}
use Rattle.cell_bits.specs.Word.{Stands, word_cells}
use Rattle.cell_bits.specs.lemmas.WordLaws.{length-word_cells}
use Rattle.track_rings.specs.lemmas.Parts.{drop-past}
use Rattle.std.proofs.lemmas.Bool.{cases_lt}

-- the cells of a word stand at the front
unfoldable pub begins : List Bool → List Bool → Bool
begins [] cells = true
begins (cell ∷ word) [] = false
begins (true ∷ word) (true ∷ cells) = begins word cells
begins (true ∷ word) (false ∷ cells) = false
begins (false ∷ word) (true ∷ cells) = false
begins (false ∷ word) (false ∷ cells) = begins word cells

-- they stand at none of so many first places
unfoldable pub free_of : List Bool → ℕ → List Bool → Bool
free_of word zero cells = true
free_of word (suc count) [] = true
free_of word (suc count) (cell ∷ cells) =
    not (begins word (cell ∷ cells)) && free_of word count cells

begins-same : (word cells : List Bool) → take (length word) cells ≡ word → begins word cells ≡ true
unfolding begins
begins-same [] cells same = refl
begins-same (cell ∷ word) [] same = absurd (cc)
begins-same (true ∷ word) (true ∷ cells) same = begins-same word cells (cc)
begins-same (true ∷ word) (false ∷ cells) same = absurd (cc)
begins-same (false ∷ word) (true ∷ cells) same = absurd (cc)
begins-same (false ∷ word) (false ∷ cells) same = begins-same word cells (cc)

not_true : (a b : Bool) → (not a && b) ≡ true → ¬ (a ≡ true)
not_true true b holds is = cc
not_true false b holds is = cc

second_true : (a b : Bool) → (a && b) ≡ true → b ≡ true
second_true true b holds = holds
second_true false b holds = absurd (cc)

free-nowhere : (word : List Bool) (count : ℕ) (cells : List Bool) (place : ℕ) → 0 < length word
    → free_of word count cells ≡ true → place < count
    → ¬ (take (length word) (drop place cells) ≡ word)
unfolding free_of
free-nowhere word zero cells place some free within same = absurd (omega arith)
free-nowhere [] (suc count) cells place some free within same = absurd (omega arith)
free-nowhere (first ∷ word) (suc count) [] zero some free within same = cc
free-nowhere (first ∷ word) (suc count) [] (suc place) some free within same = cc
free-nowhere word (suc count) (cell ∷ cells) zero some free within same =
    not_true (begins word (cell ∷ cells)) (free_of word count cells) free
    (begins-same word (cell ∷ cells) same)
free-nowhere word (suc count) (cell ∷ cells) (suc place) some free within same =
    free-nowhere word count cells place some
    (second_true (not (begins word (cell ∷ cells))) (free_of word count cells) free)
    (omega arith) same

-- so the word stands nowhere there, also where the gap begins after other cells
pub gap-free : (value size count : ℕ) (front gap : List Bool) (begin place : ℕ) → 1 ≤ size
    → free_of (word_cells size value) count gap ≡ true
    → length front ≡ begin → begin ≤ place → place < begin + count
    → ¬ Stands (front ++ gap) value size place
gap-free value size count front gap begin place some free is above below stands =
    let word = word_cells size value in
    let long : length word ≡ size = length-word_cells size value in
    let e : begin + (place - begin) ≡ place = omega arith in
    let there : drop place (front ++ gap) ≡ drop (place - begin) gap =
    ap (λ (n : ℕ). drop n (front ++ gap)) (sym e) ∙ drop-past front gap begin (place - begin) is in
    free-nowhere word count gap (place - begin) (omega arith) free (omega arith)
    (ap (λ (n : ℕ). take n (drop (place - begin) gap)) long ∙ ap (take size) (sym there) ∙ stands)

-- what stands first stands at one place
pub one-first : (Here : ℕ → Type 0) (from p q : ℕ) → from ≤ p → Here p
    → ((place : ℕ) → from ≤ place → place < p → ¬ Here place)
    → from ≤ q → Here q → ((place : ℕ) → from ≤ place → place < q → ¬ Here place) → p ≡ q
one-first Here from p q behind first none_before other_behind other none_before_other =
    elim (cases_lt p q) [
      | inl before ↦ absurd (none_before_other p behind before first)
      | inr above ↦ elim (cases_lt q p) [
        | inl before ↦ absurd (none_before q other_behind before other)
        | inr below ↦ omega arith
      ]
    ]
