-- The part of one name in the bytes of all names.
use Rattle.std.proofs.Common.{◌≡◌, ◌≢◌, ℕ, ◌+◌, ◌-◌, ◌*◌, ◌<◌, ◌≤◌, List, length, take, drop, arith, sym, ◌∙◌, ap, ◌⊎◌, inl, inr, zero, suc, refl}
use Rattle.std.proofs.lemmas.List.{drop-take, length-take-le, length-drop}
use Rattle.std.proofs.lemmas.Slice.{take-put_mid_below, drop-put_mid, between-put_mid}
use Rattle.std.proofs.Math.Nat.{mul-le-mul_right}
use borrow.Rule.Slice.PartMut.{put_mid}
use Rattle.name_book.specs.inside.Kept.{part}

-- a sector before another ends where that begins, at the latest
pub part_before : (k i : ℕ) → k < i → k * 1025 + 1025 ≤ i * 1025
part_before k i before = let h : (k + 1) * 1025 ≤ i * 1025 = mul-le-mul_right 1025 (omega arith) in omega (arith, h)

part_is : (xs : List ℕ) (k : ℕ) → part xs k ≡ drop (k * 1025) (take (k * 1025 + 1025) xs)
part_is xs k = sym (drop-take (k * 1025) 1025 xs)

-- after a write to a sector's part
pub part-put_same : (xs ys : List ℕ) (n i : ℕ) → i * 1025 + 1025 ≤ length xs → length ys ≡ 1025
    → part (put_mid (i * 1025) n xs ys) i ≡ ys
part-put_same xs ys n i within whole =
    let e : 1025 ≡ i * 1025 + 1025 - i * 1025 = omega arith in
    ap (λ m. take m (drop (i * 1025) (put_mid (i * 1025) n xs ys))) e
    ∙ between-put_mid (i * 1025) n xs ys (i * 1025 + 1025) (omega arith) (whole ∙ e)

part-put_before : (xs ys : List ℕ) (n i k : ℕ) → i * 1025 + 1025 ≤ length xs → k < i
    → part (put_mid (i * 1025) n xs ys) k ≡ part xs k
part-put_before xs ys n i k within before =
    part_is (put_mid (i * 1025) n xs ys) k
    ∙ ap (drop (k * 1025)) (take-put_mid_below (i * 1025) n xs ys (k * 1025 + 1025) (part_before k i before) (omega arith))
    ∙ sym (part_is xs k)

part-put_behind : (xs ys : List ℕ) (n i k : ℕ) → i * 1025 + 1025 ≤ length xs → length ys ≡ 1025 → n ≡ 1025 → i < k
    → part (put_mid (i * 1025) n xs ys) k ≡ part xs k
part-put_behind xs ys n i k within whole long behind =
    let far : i * 1025 + 1025 ≤ k * 1025 = part_before i k behind in
    ap (take 1025) (drop-put_mid (i * 1025) n xs ys (k * 1025) (omega arith) (omega arith) (whole ∙ sym long))

before_or_behind : (k i : ℕ) → k ≢ i → (k < i) ⊎ (i < k)
before_or_behind zero zero other = absurd (other refl)
before_or_behind zero (suc i) other = inl (omega arith)
before_or_behind (suc k) zero other = inr (omega arith)
before_or_behind (suc k) (suc i) other =
    elim (before_or_behind k i (λ same. other (ap suc same))) [ inl before ↦ inl (omega arith) | inr behind ↦ inr (omega arith) ]

pub part-put_other : (xs ys : List ℕ) (n i k : ℕ) → i * 1025 + 1025 ≤ length xs → length ys ≡ 1025 → n ≡ 1025 → k ≢ i
    → part (put_mid (i * 1025) n xs ys) k ≡ part xs k
part-put_other xs ys n i k within whole long other =
    elim (before_or_behind k i other) [
      | inl before ↦ part-put_before xs ys n i k within before
      | inr behind ↦ part-put_behind xs ys n i k within whole long behind
    ]

-- `&held[start..start + size]`
pub cut_is : (xs : List ℕ) (size a : ℕ) → take (a + size - a) (drop a xs) ≡ take size (drop a xs)
cut_is xs size a = let e : a + size - a ≡ size = omega arith in ap (λ n. take n (drop a xs)) e

pub length-part : (xs : List ℕ) (i : ℕ) → i * 1025 + 1025 ≤ length xs → length (part xs i) ≡ 1025
length-part xs i within = length-take-le 1025 (drop (i * 1025) xs) (omega (arith, length-drop (i * 1025) xs))
