-- How many bytes are at hand where others were taken behind them.
use Rattle.std.proofs.Common.{◌≡◌, ◌≤◌, ◌<◌, ◌+◌, ◌-◌, ◌++◌, ℕ, List, [], length, take, drop, sym, ap, subst, ◌∙◌, arith, append-nil, length-append, length-drop, length-take, Option, Result, Ok, Err, IfOk, OnErr}
use Rattle.std.proofs.Math.Seq.{drop-append_seam}
use Rattle.std.proofs.lemmas.List.{drop_all, length-take-le}
use borrow.Rule.Slice.PartMut.{post_of, put_mid}
use Rattle.std.specs.Io.KnownBytes.{Consumes, IsAtEnd}
use Rattle.flux_base.specs.declared.outside.Failed.{Failed}
use Rattle.flux_engine.specs.Writes.{TakesFewer}
use Rattle.stream_files.specs.inside.Ahead.{MOST_AHEAD, TakesBehind}

-- what filling the rest of a buffer gave
taken-by : (left left' : Option (List ℕ)) (buffer : List ℕ) (most : ℕ) (answer : Result ℕ Failed) → IfOk answer (λ count. Consumes left left' (take count buffer))
    → IfOk answer (λ count. count < length buffer → IsAtEnd left') → OnErr answer (TakesFewer left left' most) → TakesBehind left left' buffer answer
taken-by left left' buffer most (Ok count) took ended fewer = (took, ended)
taken-by left left' buffer most (Err failed) took ended fewer = (fewer.0, fewer.1)

pub ends : (first count : ℕ) (new held held' : List ℕ) (left' : Option (List ℕ)) → length new ≡ 4198417 → first + count ≤ length new → take first new ≡ held
    → held' ≡ held ++ take count (drop first new) → (count < length (drop first new) → IsAtEnd left') → length held' < MOST_AHEAD → IsAtEnd left'
ends first count new held held' left' full bound front is ended few =
    let rest : length (drop first new) ≡ length new - first = length-drop first new in
    let before : length held ≡ first = sym (ap length front) ∙ omega (arith, length-take first new, bound) in
    let size : length held' ≡ length held + length (take count (drop first new)) = ap length is ∙ length-append held (take count (drop first new)) in
    ended (omega (arith, few, size, before, rest, full, bound, length-take count (drop first new)))

-- the rest of a buffer, after a write to it
rest-is : (first room : ℕ) (old new : List ℕ) → first ≤ length old → length old ≤ first + room → drop first (put_mid first room old new) ≡ new
rest-is first room old new inside whole =
    let front : length (take first old) ≡ first = length-take-le first old inside in
    let none : post_of first room old ≡ [] = drop_all room (drop first old) (omega (arith, length-drop first old, whole)) in
    ap (λ (n : ℕ). drop n (take first old ++ (new ++ post_of first room old))) (sym front) ∙ drop-append_seam (take first old) (new ++ post_of first room old)
    ∙ ap (λ (behind : List ℕ). new ++ behind) none ∙ append-nil new

pub taken-behind : (left left' : Option (List ℕ)) (first room : ℕ) (old new : List ℕ) (most : ℕ) (answer : Result ℕ Failed) → first ≤ length old → length old ≤ first + room
    → IfOk answer (λ count. Consumes left left' (take count new)) → IfOk answer (λ count. count < length new → IsAtEnd left') → OnErr answer (TakesFewer left left' most)
    → TakesBehind left left' (drop first (put_mid first room old new)) answer
taken-behind left left' first room old new most answer inside whole took ended fewer =
    subst (λ (buffer : List ℕ). TakesBehind left left' buffer answer) (sym (rest-is first room old new inside whole))
    (taken-by left left' new most answer took ended fewer)
