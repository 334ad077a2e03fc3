-- A buffer that is filled from its front, piece by piece.
use Rattle.std.specs.Prelude.{◌≡◌, ◌≤◌, ℕ, ◌+◌, ◌++◌, List, length, take, Option}
use Rattle.std.proofs.Common.{ap, sym, subst, ◌∙◌}
use Rattle.std.proofs.KnownBytes.{Consumes-trans}
use Rattle.std.proofs.Math.Seq.{take-append-add}
use Rattle.std.proofs.lemmas.List.{length-take-le, take-append-le}
use Rattle.std.specs.Io.KnownBytes.{Consumes}
use borrow.Rule.Slice.PartMut.{post_of, put_mid}

-- the front of a buffer in which a piece was put after the part that was filled
filled_more : (filled count room : ℕ) (xs ys : List ℕ) → filled ≤ length xs → count ≤ length ys
    → take (filled + count) (put_mid filled room xs ys) ≡ take filled xs ++ take count ys
filled_more filled count room xs ys within few =
    let front : List ℕ = take filled xs in
    let rest : List ℕ = ys ++ post_of filled room xs in
    let size : length front ≡ filled = length-take-le filled xs within in
    ap (λ (n : ℕ). take (n + count) (front ++ rest)) (sym size) ∙ take-append-add front rest count
    ∙ ap (λ (zs : List ℕ). front ++ zs) (take-append-le count ys (post_of filled room xs) few)

-- what was taken so far, and what a read gave then
pub took_more : (old mid new : Option (List ℕ)) (filled count room : ℕ) (xs ys : List ℕ) → filled ≤ length xs → count ≤ length ys
    → Consumes old mid (take filled xs) → Consumes mid new (take count ys) → Consumes old new (take (filled + count) (put_mid filled room xs ys))
took_more old mid new filled count room xs ys within few first then =
    subst (Consumes old new) (sym (filled_more filled count room xs ys within few))
    (Consumes-trans old mid new (take filled xs) (take count ys) first then)
