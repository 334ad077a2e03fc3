-- The sectors of a track, one after another, and their bytes.
use Rattle.std.specs.Prelude.{◌≡◌, ℕ, zero, suc, ◌+◌, ◌-◌, ◌*◌, ◌<◌, ◌≤◌, List, [], ◌∷◌, ◌++◌, take}
use Rattle.std.specs.Prelude.{drop, get_or, length}
use Rattle.std.specs.List.{flat_map, range_with_len}
use Rattle.std.proofs.Common.{ap, sym, subst, ◌∙◌, arith, lit<, length-append}
use Rattle.std.proofs.lemmas.List.{get_or-drop}
use Rattle.std.proofs.lemmas.List.Concat.{flat_map-append}
use Rattle.track_rings.specs.Rings.{bytes_of, AreBytes}

-- numbers up to one of them, it, and those after it
range-parts : (first before behind : ℕ)
    → range_with_len first (before + suc behind)
    ≡ range_with_len first before ++ (first + before)
    ∷ range_with_len (first + before + 1) behind
range-parts first zero behind =
    let e : 0 + suc behind ≡ suc behind = omega arith in
    let n : first ≡ first + 0 = omega arith in
    ap (range_with_len first) e ∙ ap (λ (number : ℕ). number ∷ range_with_len (number + 1) behind) n
range-parts first (suc before) behind =
    let e : suc before + suc behind ≡ suc (before + suc behind) = omega arith in
    let n : first + 1 + before ≡ first + suc before = omega arith in
    ap (range_with_len first) e
    ∙ ap (λ (numbers : List ℕ). first ∷ numbers)
    (range-parts (first + 1) before behind
    ∙ ap
    (λ (number : ℕ).
    range_with_len (first + 1) before ++ number ∷ range_with_len (number + 1) behind) n)

-- what is written of a track's sectors: of those before one of them, of it, and of those after it
pub sectors-parts : {X : Type 0} (f : ℕ → List X) (first sectors sector before behind : ℕ)
    → first + before ≡ sector → before + suc behind ≡ sectors
    → flat_map f (range_with_len first sectors)
    ≡ flat_map f (range_with_len first before)
    ++ (f sector ++ flat_map f (range_with_len (sector + 1) behind))
sectors-parts f first sectors sector before behind number count =
    ap (λ (n : ℕ). flat_map f (range_with_len first n)) (sym count)
    ∙ ap (flat_map f)
    (range-parts first before behind
    ∙ ap (λ (n : ℕ). range_with_len first before ++ n ∷ range_with_len (n + 1) behind) number)
    ∙ flat_map-append f (range_with_len first before) (sector ∷ range_with_len (sector + 1) behind)

-- so many sectors, each of which is as long
pub sectors-length : {X : Type 0} (f : ℕ → List X) (size first count : ℕ)
    → ((sector : ℕ) → first ≤ sector → sector < first + count → length (f sector) ≡ size)
    → length (flat_map f (range_with_len first count)) ≡ count * size
sectors-length f size first zero each = omega arith
sectors-length f size first (suc count) each =
    let rest = flat_map f (range_with_len (first + 1) count) in
    let one = each first (omega arith) (omega arith) in
    let more = sectors-length f size (first + 1) count
    (λ sector least most. each sector (omega arith) (omega arith)) in
    omega (arith, length-append (f first) rest, one, more)

pub AreBytes-from : (bytes : List ℕ) → ((k : ℕ) → get_or bytes k 0 < 256) → AreBytes bytes
unfolding AreBytes
AreBytes-from [] fit = tt
AreBytes-from (byte ∷ bytes) fit = (fit 0, AreBytes-from bytes (λ k. fit (suc k)))

take-fits : (count : ℕ) (bytes : List ℕ) → ((k : ℕ) → get_or bytes k 0 < 256) → (k : ℕ)
    → get_or (take count bytes) k 0 < 256
take-fits zero bytes fit k = lit< tt
take-fits (suc count) [] fit k = lit< tt
take-fits (suc count) (byte ∷ bytes) fit zero = fit 0
take-fits (suc count) (byte ∷ bytes) fit (suc k) = take-fits count bytes (λ i. fit (suc i)) k

-- those of a sector are bytes
pub bytes_of-fit : (first size : ℕ) (bytes : List ℕ) (sector : ℕ)
    → ((k : ℕ) → get_or bytes k 0 < 256)
    → (k : ℕ) → get_or (bytes_of first size bytes sector) k 0 < 256
bytes_of-fit first size bytes sector fit =
    let begin = (sector - first) * size in
    take-fits size (drop begin bytes)
    (λ k. subst (λ (byte : ℕ). byte < 256) (sym (get_or-drop begin bytes k 0)) (fit (begin + k)))
