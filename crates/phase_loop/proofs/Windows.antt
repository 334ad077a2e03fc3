-- What an interval does to a window and its totals.
use Rattle.std.proofs.Common.{◌≡◌, ℕ, suc, ◌+◌, ◌-◌, ◌*◌, ◌<◌, ◌≤◌, List, [], ◌∷◌, ◌++◌, length, drop, arith, refl, sym, ◌∙◌, ap, subst, Option, Some, None, slice_get, if◌then◌else◌, nat_lt, true, false, inl, inr}
use Rattle.std.specs.List.{All}
use Rattle.std.proofs.lemmas.Bool.{lt-ltb, le-ltb, cases_lt, cond-true, cond-false}
use Rattle.std.proofs.lemmas.List.{length_push}
use Rattle.std.proofs.lemmas.List.Elements.{All-push}
use Rattle.std.proofs.lemmas.List.Sums.{sum_by-cons, sum_by_push, sum_by-le}
use Rattle.circular_buffer.specs.Buffer.{Buffer, buffer, keep_last}
use Rattle.phase_loop.specs.declared.window.Interval.{Interval}
use Rattle.phase_loop.specs.Start.{INTERVALS}
use Rattle.phase_loop.specs.inside.Window.{WIDEST, IsShort, IsWindow, fine_total, count_total}

pub length-le-count_total : (xs : List Interval) → All IsShort xs → length xs ≤ count_total xs
length-le-count_total [] short = omega arith
length-le-count_total (x ∷ xs) short =
    let here : IsShort x = short 0 x (omega arith) in
    let rest : length xs ≤ count_total xs = length-le-count_total xs (λ k d within. short (suc k) d (omega arith)) in
    omega (arith, here.some, rest, sum_by-cons (λ (i : Interval). i.count) x xs)

-- the bounds of a window's totals
pub record Bounded (total number many : ℕ) : Type 0 where
  pub fine : total ≤ INTERVALS * WIDEST
  pub count : number ≤ 2048
  pub some : many ≤ number

pub bounded : (ring : Buffer Interval) (fine count : ℕ) → IsWindow ring fine count → Bounded fine count (length ring.items)
bounded ring fine count window =
    let f = sum_by-le (λ (i : Interval). i.fine) WIDEST ring.items (λ k d within. (window.short k d within).fine) in
    let n = sum_by-le (λ (i : Interval). i.count) 32 ring.items (λ k d within. (window.short k d within).most) in
    let l = length-le-count_total ring.items window.short in
    record {
      fine = omega (arith, f, window.within, window.fine_is);
      count = omega (arith, n, window.within, window.count_is);
      some = omega (arith, l, window.count_is);
    }

-- a full window gives up its first interval
pub record Full (xs : List Interval) (x y : Interval) : Type 0 where
  pub rest : List Interval
  pub was : xs ≡ y ∷ rest
  pub now : keep_last 64 (xs ++ x ∷ []) ≡ rest ++ x ∷ []

pub full : (xs : List Interval) (x y : Interval) → length xs ≤ 64
    → (if nat_lt (length xs) 64 then None else slice_get (xs ++ x ∷ []) 0) ≡ Some y → Full xs x y
full [] x y within is = absurd (cc)
full (z ∷ zs) x y within is =
    elim (cases_lt (length (z ∷ zs)) 64) [
      | inl less ↦
          let short : nat_lt (length (z ∷ zs)) 64 ≡ true = lt-ltb _ _ less in
          let none : None ≡ Some y = sym (cond-true _ _ _ short) ∙ is in
          absurd (cc)
      | inr more ↦
          let long : nat_lt (length (z ∷ zs)) 64 ≡ false = le-ltb _ _ more in
          let first : Some z ≡ Some y = sym (cond-false _ _ _ long) ∙ is in
          let same : z ≡ y = cc in
          let one : length ((z ∷ zs) ++ x ∷ []) - 64 ≡ 1 = omega (arith, length_push (z ∷ zs) x) in
          record {
            rest = zs;
            was = ap (λ (i : Interval). i ∷ zs) same;
            now = ap (λ (n : ℕ). drop n ((z ∷ zs) ++ x ∷ [])) one;
          }
    ]

-- a window that is not full keeps them all
record Short (xs : List Interval) (x : Interval) : Type 0 where
  pub within : length xs < 64
  pub now : keep_last 64 (xs ++ x ∷ []) ≡ xs ++ x ∷ []

not_full : (xs : List Interval) (x : Interval)
    → (if nat_lt (length xs) 64 then None else slice_get (xs ++ x ∷ []) 0) ≡ None → Short xs x
not_full [] x is = record { within = omega arith; now = refl }
not_full (z ∷ zs) x is =
    elim (cases_lt (length (z ∷ zs)) 64) [
      | inl less ↦
          let none : length ((z ∷ zs) ++ x ∷ []) - 64 ≡ 0 = omega (arith, length_push (z ∷ zs) x) in
          record { within = less; now = ap (λ (n : ℕ). drop n ((z ∷ zs) ++ x ∷ [])) none }
      | inr more ↦
          let long : nat_lt (length (z ∷ zs)) 64 ≡ false = le-ltb _ _ more in
          let first : Some z ≡ None = sym (cond-false _ _ _ long) ∙ is in
          absurd (cc)
    ]

-- what `push_back` answers
abbrev pub given_up : Buffer Interval → Interval → Option Interval
given_up ring x = if nat_lt (length ring.items) ring.capacity then None else slice_get (ring.items ++ x ∷ []) 0

abbrev pub with_last : Buffer Interval → Interval → Buffer Interval
with_last ring x = buffer (keep_last ring.capacity (ring.items ++ x ∷ [])) ring.capacity

pub window_after_full : (ring : Buffer Interval) (fine count : ℕ) (x y : Interval)
    → IsWindow ring fine count → IsShort x → given_up ring x ≡ Some y
    → IsWindow (with_last ring x) (fine - y.fine + x.fine) (count - y.count + x.count)
window_after_full ring fine count x y window short is =
    let after = full ring.items x y window.within (rw window.room at is) in
    let now : keep_last ring.capacity (ring.items ++ x ∷ []) ≡ after.rest ++ x ∷ [] = rw window.room after.now in
    let whole : All IsShort (y ∷ after.rest) = let P : List Interval → Type 0 = λ xs. All IsShort xs in subst P after.was window.short in
    record {
      room = window.room;
      within = rw now (omega (arith, length_push after.rest x, ap length after.was, window.within));
      short = rw now (All-push IsShort after.rest x (λ k d within. whole (suc k) d (omega arith)) short);
      fine_is = rw now (omega (arith, sum_by_push (λ (i : Interval). i.fine) after.rest x, sum_by-cons (λ (i : Interval). i.fine) y after.rest, ap fine_total after.was, window.fine_is));
      count_is = rw now (omega (arith, sum_by_push (λ (i : Interval). i.count) after.rest x, sum_by-cons (λ (i : Interval). i.count) y after.rest, ap count_total after.was, window.count_is));
    }

pub window_after_more : (ring : Buffer Interval) (fine count : ℕ) (x : Interval)
    → IsWindow ring fine count → IsShort x → given_up ring x ≡ None
    → IsWindow (with_last ring x) (fine + x.fine) (count + x.count)
window_after_more ring fine count x window short is =
    let after = not_full ring.items x (rw window.room at is) in
    let now : keep_last ring.capacity (ring.items ++ x ∷ []) ≡ ring.items ++ x ∷ [] = rw window.room after.now in
    record {
      room = window.room;
      within = rw now (omega (arith, length_push ring.items x, after.within));
      short = rw now (All-push IsShort ring.items x window.short short);
      fine_is = rw now (omega (arith, sum_by_push (λ (i : Interval). i.fine) ring.items x, window.fine_is));
      count_is = rw now (omega (arith, sum_by_push (λ (i : Interval). i.count) ring.items x, window.count_is));
    }
