-- Lists that are gathered place by place, as one more item comes.
use Rattle.std.proofs.Common.{◌≡◌, ℕ, zero, suc, ◌+◌, ◌<◌, ◌≤◌, ◌++◌, List, [], ◌∷◌, length, take, sum_by, refl, sym, ap, ◌∙◌, arith, length-append, add-zero, Option, Some}
use Rattle.std.proofs.lemmas.List.{take-append-le}
use Rattle.std.proofs.lemmas.List.Elements.{filter_map-append}
use Rattle.std.proofs.lemmas.List.Sums.{sum_by-append}
use Rattle.std.specs.Prelude.{slice_get}
use Rattle.std.specs.List.{filter_map, cons_option, range_with_len}

pub sum_by-push : {X : Type 0} (f : X → ℕ) (xs : List X) (x : X) → sum_by f (xs ++ x ∷ []) ≡ sum_by f xs + f x
sum_by-push f xs x = sum_by-append f xs (x ∷ []) ∙ ap (λ n. sum_by f xs + n) (omega arith)

pub range_with_len-push : (a n : ℕ) → range_with_len a (suc n) ≡ range_with_len a n ++ (a + n) ∷ []
range_with_len-push a zero = ap (λ k. k ∷ []) (sym (add-zero a))
range_with_len-push a (suc n) =
    let e : (a + 1) + n ≡ a + suc n = omega arith in
    ap (λ xs. a ∷ xs) (range_with_len-push (a + 1) n ∙ ap (λ k. range_with_len (a + 1) n ++ k ∷ []) e)

filter_map-same : {Y : Type 0} (f g : ℕ → Option Y) (a n : ℕ) → ((j : ℕ) → a ≤ j → j < a + n → f j ≡ g j)
    → filter_map f (range_with_len a n) ≡ filter_map g (range_with_len a n)
filter_map-same f g a zero same = refl
filter_map-same f g a (suc n) same =
    ap (λ o. cons_option o (filter_map f (range_with_len (a + 1) n))) (same a (omega arith) (omega arith))
    ∙ ap (cons_option (g a)) (filter_map-same f g (a + 1) n (λ j low high. same j (omega (arith, low)) (omega (arith, high))))

-- what the places of one more item give
pub gathered : {X Y : Type 0} (at : List X → ℕ → Option Y) (xs : List X) (x : X)
    → ((j : ℕ) → j < length xs → at (xs ++ x ∷ []) j ≡ at xs j)
    → filter_map (at (xs ++ x ∷ [])) (range_with_len 0 (length (xs ++ x ∷ [])))
    ≡ filter_map (at xs) (range_with_len 0 (length xs)) ++ cons_option (at (xs ++ x ∷ []) (length xs)) []
gathered at xs x same =
    let size : length (xs ++ x ∷ []) ≡ suc (length xs) = omega (arith, length-append xs (x ∷ [])) in
    let last : 0 + length xs ≡ length xs = omega arith in
    ap (λ n. filter_map (at (xs ++ x ∷ [])) (range_with_len 0 n)) size
    ∙ ap (filter_map (at (xs ++ x ∷ []))) (range_with_len-push 0 (length xs))
    ∙ filter_map-append (at (xs ++ x ∷ [])) (range_with_len 0 (length xs)) ((0 + length xs) ∷ [])
    ∙ ap (λ ys. ys ++ cons_option (at (xs ++ x ∷ []) (0 + length xs)) [])
    (filter_map-same (at (xs ++ x ∷ [])) (at xs) 0 (length xs) (λ j _ high. same j (omega (arith, high, last))))
    ∙ ap (λ n. filter_map (at xs) (range_with_len 0 (length xs)) ++ cons_option (at (xs ++ x ∷ []) n) []) last

pub slice_get-front : {X : Type 0} (xs ys : List X) (j : ℕ) → j < length xs → slice_get (xs ++ ys) j ≡ slice_get xs j
slice_get-front [] ys j inside = absurd (omega arith)
slice_get-front (x ∷ xs) ys zero inside = refl
slice_get-front (x ∷ xs) ys (suc j) inside = slice_get-front xs ys j (omega arith)

pub slice_get-last : {X : Type 0} (xs : List X) (x : X) → slice_get (xs ++ x ∷ []) (length xs) ≡ Some x
slice_get-last [] x = refl
slice_get-last (y ∷ xs) x = slice_get-last xs x

pub take-front : {X : Type 0} (xs ys : List X) (n : ℕ) → n ≤ length xs → take n (xs ++ ys) ≡ take n xs
take-front xs ys n inside = take-append-le n xs ys inside
