-- Texts that come in two parts.
use Rattle.std.proofs.Common.{◌≡◌, ◌≤◌, ◌<◌, ℕ, Bool, not, true, false, List, ◌++◌, length, take, drop, arith, refl, sym, ◌∙◌, ap, append_assoc, length-take}
use Rattle.std.proofs.lemmas.List.{drop-append-le, take-append-drop, take-append-le}
use Rattle.std.proofs.Math.Seq.{drop-append_seam, take-append_seam}
use Rattle.std.proofs.lemmas.Slice.Eq.{bytes_eq-Decides}
use Rattle.std.specs.Bool.{Decides}
use Rattle.std.specs.Str.{bytes_eq}

-- the first text of b after a is that of d after c, part by part: a is the front of c, then b goes on with the rest of c, and ends with d
record Joins (a b c d : List ℕ) : Type 0 where
  front : a ≡ take (length a) c
  middle : take (length (drop (length a) c)) b ≡ drop (length a) c
  end : drop (length (drop (length a) c)) b ≡ d

joined-whole : (a b c d : List ℕ) → Joins a b c d → a ++ b ≡ c ++ d
joined-whole a b c d j =
    let n = length a in
    let rest = drop n c in
    ap (λ (s : List ℕ). s ++ b) j.front
    ∙ ap (λ (s : List ℕ). take n c ++ s) (sym (take-append-drop (length rest) b))
    ∙ ap (λ (s : List ℕ). take n c ++ (s ++ drop (length rest) b)) j.middle
    ∙ ap (λ (s : List ℕ). take n c ++ (rest ++ s)) j.end
    ∙ sym (append_assoc (take n c) rest d)
    ∙ ap (λ (s : List ℕ). s ++ d) (take-append-drop n c)

joined-parts : (a b c d : List ℕ) → length a ≤ length c → a ++ b ≡ c ++ d → Joins a b c d
joined-parts a b c d fits same =
    let n = length a in
    let rest = drop n c in
    let after : b ≡ rest ++ d = sym (drop-append_seam a b) ∙ ap (drop n) same ∙ drop-append-le n c d fits in
    record {
      front = sym (take-append_seam a b) ∙ ap (take n) same ∙ take-append-le n c d fits;
      middle = ap (take (length rest)) after ∙ take-append_seam rest d;
      end = ap (drop (length rest)) after ∙ drop-append_seam rest d;
    }

-- b is not shorter than the rest of c then
joined-size : (a b c d : List ℕ) → Joins a b c d → length (drop (length a) c) ≤ length b
joined-size a b c d j =
    let size = ap length j.middle in
    let taken = length-take (length (drop (length a) c)) b in
    omega (arith, size, taken)

false_true : false ≡ true → ⊥
false_true e = cc

-- by a test of two texts
pub differ : (r : Bool) (xs ys : List ℕ) → r ≡ not (bytes_eq xs ys) → r ≡ true → xs ≡ ys → ⊥
differ r xs ys is positive same = false_true (sym (is ∙ ap not ((bytes_eq-Decides xs ys).1 same)) ∙ positive)

pub agree : (r : Bool) (xs ys : List ℕ) → r ≡ not (bytes_eq xs ys) → r ≡ false → xs ≡ ys
agree r xs ys is negative = by (bytes_eq xs ys) refl (sym is ∙ negative)
  where
    by : (b : Bool) → bytes_eq xs ys ≡ b → not b ≡ false → xs ≡ ys
    by true same e = (bytes_eq-Decides xs ys).0 same
    by false same e = absurd (false_true (sym e))

-- the tests that the code makes, one after another
module _ (a b c d same rest : List ℕ) (fits : length a ≤ length c) (front_is : same ≡ take (length a) c) (rest_is : rest ≡ drop (length a) c) where
  not_so : (Joins a b c d → ⊥) → Decides false (a ++ b ≡ c ++ d)
  not_so never = (λ e. absurd (false_true e), λ whole. absurd (never (joined-parts a b c d fits whole)))

  pub other-front : (a ≡ same → ⊥) → Decides false (a ++ b ≡ c ++ d)
  other-front other = not_so (λ j. other (j.front ∙ sym front_is))

  pub too-short : length b < length rest → Decides false (a ++ b ≡ c ++ d)
  too-short short = not_so (λ j. let size = joined-size a b c d j in let is = ap length rest_is in omega (arith, short, size, is))

  module _ (middle end : List ℕ) (middle_is : middle ≡ take (length rest) b) (end_is : end ≡ drop (length rest) b) where
    middle-of : Joins a b c d → middle ≡ rest
    middle-of j = middle_is ∙ ap (λ n. take n b) (ap length rest_is) ∙ j.middle ∙ sym rest_is

    pub other-middle : (middle ≡ rest → ⊥) → Decides false (a ++ b ≡ c ++ d)
    other-middle other = not_so (λ j. other (middle-of j))

    pub by-end : a ≡ same → middle ≡ rest → (r : Bool) → r ≡ bytes_eq end d → Decides r (a ++ b ≡ c ++ d)
    by-end front go r is =
        let size : length rest ≡ length (drop (length a) c) = ap length rest_is in (
          λ positive. joined-whole a b c d (record {
            front = front ∙ front_is;
            middle = ap (λ n. take n b) (sym size) ∙ sym middle_is ∙ go ∙ rest_is;
            end = ap (λ n. drop n b) (sym size) ∙ sym end_is ∙ (bytes_eq-Decides end d).0 (sym is ∙ positive);
          }),
          λ whole. is ∙ (bytes_eq-Decides end d).1 (end_is ∙ ap (λ n. drop n b) size ∙ (joined-parts a b c d fits whole).end),
        )
