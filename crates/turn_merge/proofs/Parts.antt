-- The part of one sector in the bytes of all sectors.
use Rattle.std.proofs.Common.{◌≡◌, ◌≢◌, ℕ, ◌+◌, ◌-◌, ◌*◌, ◌<◌, ◌≤◌, List, length, take, drop, arith, sym, ◌∙◌, ap, ◌⊎◌, inl, inr, zero, suc, refl}
use Rattle.std.proofs.lemmas.List.{drop-take, length-take-le, length-drop}
use Rattle.std.proofs.lemmas.Slice.{take-put_mid_below, drop-put_mid, between-put_mid}
use Rattle.std.proofs.Math.Nat.{mul-le-mul_right}
use borrow.Rule.Slice.PartMut.{put_mid}
use Rattle.turn_merge.specs.Book.{part}

-- a sector before another ends where that begins, at the latest
pub part_before : (size k i : ℕ) → k < i → k * size + size ≤ i * size
part_before size k i before = let h : (k + 1) * size ≤ i * size = mul-le-mul_right size (omega arith) in omega (arith, h)

part_is : (xs : List ℕ) (size k : ℕ) → part xs size k ≡ drop (k * size) (take (k * size + size) xs)
part_is xs size k = sym (drop-take (k * size) size xs)

-- after a write to a sector's part
pub part-put_same : (xs ys : List ℕ) (size n i : ℕ) → i * size + size ≤ length xs → length ys ≡ size
    → part (put_mid (i * size) n xs ys) size i ≡ ys
part-put_same xs ys size n i within whole =
    let e : size ≡ i * size + size - i * size = omega arith in
    ap (λ m. take m (drop (i * size) (put_mid (i * size) n xs ys))) e
    ∙ between-put_mid (i * size) n xs ys (i * size + size) (omega arith) (whole ∙ e)

part-put_before : (xs ys : List ℕ) (size n i k : ℕ) → i * size + size ≤ length xs → k < i
    → part (put_mid (i * size) n xs ys) size k ≡ part xs size k
part-put_before xs ys size n i k within before =
    part_is (put_mid (i * size) n xs ys) size k
    ∙ ap (drop (k * size)) (take-put_mid_below (i * size) n xs ys (k * size + size) (part_before size k i before) (omega arith))
    ∙ sym (part_is xs size k)

part-put_behind : (xs ys : List ℕ) (size n i k : ℕ) → i * size + size ≤ length xs → length ys ≡ size → n ≡ size → i < k
    → part (put_mid (i * size) n xs ys) size k ≡ part xs size k
part-put_behind xs ys size n i k within whole long behind =
    let far : i * size + size ≤ k * size = part_before size i k behind in
    ap (take size) (drop-put_mid (i * size) n xs ys (k * size) (omega arith) (omega arith) (whole ∙ sym long))

before_or_behind : (k i : ℕ) → k ≢ i → (k < i) ⊎ (i < k)
before_or_behind zero zero other = absurd (other refl)
before_or_behind zero (suc i) other = inl (omega arith)
before_or_behind (suc k) zero other = inr (omega arith)
before_or_behind (suc k) (suc i) other =
    elim (before_or_behind k i (λ same. other (ap suc same))) [ inl before ↦ inl (omega arith) | inr behind ↦ inr (omega arith) ]

pub part-put_other : (xs ys : List ℕ) (size n i k : ℕ) → i * size + size ≤ length xs → length ys ≡ size → n ≡ size → k ≢ i
    → part (put_mid (i * size) n xs ys) size k ≡ part xs size k
part-put_other xs ys size n i k within whole long other =
    elim (before_or_behind k i other) [
      | inl before ↦ part-put_before xs ys size n i k within before
      | inr behind ↦ part-put_behind xs ys size n i k within whole long behind
    ]

-- `&held[start..start + size]`
pub cut_is : (xs : List ℕ) (size a : ℕ) → take (a + size - a) (drop a xs) ≡ take size (drop a xs)
cut_is xs size a = let e : a + size - a ≡ size = omega arith in ap (λ n. take n (drop a xs)) e

pub length-part : (xs : List ℕ) (size i : ℕ) → i * size + size ≤ length xs → length (part xs size i) ≡ size
length-part xs size i within = length-take-le size (drop (i * size) xs) (omega (arith, length-drop (i * size) xs))
