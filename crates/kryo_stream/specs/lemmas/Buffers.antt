-- The part of a buffer that is in use, and how it moves.
use Rattle.std.proofs.Common.{◌≡◌, ℕ, ◌+◌, ◌-◌, ◌≤◌, ◌++◌, List, length, take, drop}
use Rattle.std.proofs.Common.{ap, sym, ◌∙◌, arith, length-drop}
use Rattle.std.proofs.lemmas.List.{take_all, take-append-le, drop-drop, drop-take, length-take-le}
use Rattle.std.proofs.Math.Seq.{take-add}

-- passing over the first bytes
pub passed : (start end count : ℕ) (buffer : List ℕ) → start ≤ end → end ≤ length buffer
    → count ≤ length (take (end - start) (drop start buffer))
    → take (end - (start + count)) (drop (start + count) buffer)
    ≡ drop count (take (end - start) (drop start buffer))
passed start end count buffer order inside few =
    let rest : ℕ = end - (start + count) in
    let held : length (take (end - start) (drop start buffer)) ≡ end - start =
    length-take-le (end - start) (drop start buffer)
    (omega (arith, length-drop start buffer, order, inside)) in
    let split : count + rest ≡ end - start = omega (arith, held, few, order) in
    sym (ap (λ n. drop count (take n (drop start buffer))) (sym split)
    ∙ drop-take count rest (drop start buffer) ∙ ap (take rest) (drop-drop count start buffer))

-- a vector whose slice was written whole
written : (size : ℕ) (new old : List ℕ) → length new ≡ size
    → take size (new ++ drop (length new) old) ≡ new
written size new old same =
    take-append-le size new (drop (length new) old) (omega (arith, same))
    ∙ take_all size new (omega (arith, same))

-- bytes that were read after those at the front
pub grown : (size first count : ℕ) (new old front : List ℕ) → length new ≡ size
    → take first new ≡ front
    → take ((first + count) - 0) (take size (new ++ drop (length new) old))
    ≡ front ++ take count (drop first new)
grown size first count new old front same is =
    let start : (first + count) - 0 ≡ first + count = omega arith in
    ap (λ n. take n (take size (new ++ drop (length new) old))) start
    ∙ ap (take (first + count)) (written size new old same)
    ∙ take-add first count new ∙ ap (λ xs. xs ++ take count (drop first new)) is
