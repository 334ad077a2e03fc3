-- What stands at the front of cells, and after a part of known length.
use Rattle.std.specs.Prelude.{◌≡◌, ℕ, ◌+◌, Bool, List, ◌++◌, length, take, drop}
use Rattle.std.proofs.Common.{ap, sym, ◌∙◌}
use Rattle.std.proofs.Math.Seq.{drop-append-add, take-append_seam}
use Rattle.cell_bits.specs.Word.{number_of, word}

pub drop-past : (xs ys : List Bool) (size offset : ℕ) → length xs ≡ size
    → drop (size + offset) (xs ++ ys) ≡ drop offset ys
drop-past xs ys size offset is =
    ap (λ (n : ℕ). drop (n + offset) (xs ++ ys)) (sym is) ∙ drop-append-add xs ys offset

pub take-first : (xs ys : List Bool) (size : ℕ) → length xs ≡ size → take size (xs ++ ys) ≡ xs
take-first xs ys size is = ap (λ (n : ℕ). take n (xs ++ ys)) (sym is) ∙ take-append_seam xs ys

-- cells as a number
pub word-past : (xs ys : List Bool) (size offset count : ℕ) → length xs ≡ size
    → word (xs ++ ys) (size + offset) count ≡ word ys offset count
unfolding word
word-past xs ys size offset count is =
    ap (λ (cells : List Bool). number_of (take count cells)) (drop-past xs ys size offset is)
