-- What a read of a source in memory takes from the bytes that are left.
use Rattle.std.proofs.Common.{◌≡◌, ℕ, ◌+◌, ◌-◌, ◌≤◌, ◌<◌, min, List, [], ◌++◌, length, take, drop, arith, sym, ◌∙◌, ap, length-drop}
use Rattle.std.proofs.lemmas.List.{take-append-drop, take-take, drop-drop, drop_all, length-take}

-- the first n of the bytes left stand at the buffer's front, and the others are left
pub given-front : (bytes buffer : List ℕ) (room start some n : ℕ) → n ≡ min room (length (take some (drop start bytes))) → take n buffer ≡ take n (take some (drop start bytes))
    → drop start bytes ≡ take n buffer ++ drop (start + n) bytes
given-front bytes buffer room start some n count front =
    let within : n ≤ some = omega (arith, count, length-take some (drop start bytes)) in
    sym (take-append-drop n (drop start bytes))
    ∙ ap (λ rest. take n (drop start bytes) ++ rest) (drop-drop n start bytes)
    ∙ ap (λ some_bytes. some_bytes ++ drop (start + n) bytes) (sym (take-take n some (drop start bytes) within) ∙ sym front)

-- a buffer with room gets nothing only where nothing is left
pub given-end : (bytes : List ℕ) (room start some chunk n : ℕ) → n ≡ min room (length (take some (drop start bytes)))
    → some ≡ min chunk (length bytes - start) → 0 < chunk → n ≡ 0 → 0 < room → drop (start + n) bytes ≡ []
given-end bytes room start some chunk n count most positive zero nonempty =
    let len : length (take some (drop start bytes)) ≡ min some (length bytes - start) = length-take some (drop start bytes) ∙ ap (min some) (length-drop start bytes) in
    drop_all (start + n) bytes (omega (arith, count, most, positive, zero, nonempty, len))
