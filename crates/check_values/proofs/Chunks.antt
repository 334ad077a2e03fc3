-- A list by four elements at a time.
use Rattle.std.proofs.Common.{◌≡◌, ℕ, zero, suc, ◌+◌, ◌*◌, ◌<◌, List, [], ◌++◌, take, drop, get_or, arith, refl, sym, ◌∙◌, ap, take-add, drop-drop}
use Rattle.std.specs.Simd.{first_chunks}

chunk-is : (count : ℕ) (items : List ℕ) (k : ℕ) → k < count → get_or (first_chunks 4 count items) k [] ≡ take 4 (drop (4 * k) items)
chunk-is zero items k below = absurd (omega (arith, below))
chunk-is (suc count) items zero below = refl
chunk-is (suc count) items (suc k) below =
    let at : 4 + 4 * k ≡ 4 * suc k = omega arith in
    chunk-is count (drop 4 items) k (omega (arith, below))
    ∙ ap (take 4) (drop-drop (4 * k) 4 items ∙ ap (λ n. drop n items) at)

-- one chunk more
pub chunk-more : (count : ℕ) (items : List ℕ) (k : ℕ) → k < count
    → take (4 * k) items ++ get_or (first_chunks 4 count items) k [] ≡ take (4 * (k + 1)) items
chunk-more count items k below =
    let at : 4 * k + 4 ≡ 4 * (k + 1) = omega arith in
    ap (λ chunk. take (4 * k) items ++ chunk) (chunk-is count items k below)
    ∙ sym (take-add (4 * k) 4 items) ∙ ap (λ n. take n items) at
