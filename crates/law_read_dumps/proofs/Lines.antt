-- The lines of a text: what each of them is, by its number, and the number of one that stands behind others.
use Rattle.std.specs.Prelude.{◌≡◌, ◌<◌, ℕ, zero, suc, ◌+◌, ◌-◌, Bool, true, false, cond, List, [], ◌∷◌, ◌++◌, flat_map, length, slice_get, Some, refl}
use Rattle.std.specs.List.{range_with_len}
use Rattle.std.proofs.Common.{ap, sym, subst, ◌∙◌, arith, inl, inr, append-nil, append_assoc}
use Rattle.std.proofs.lemmas.Bool.{cases_lt}
use Rattle.flux_engine.specs.DiskLaws.{HasLine, lines_in}
use Rattle.flux_engine.specs.lemmas.Each.{Each}
use Rattle.flux_engine.specs.lemmas.LineNumbers.{Skips, line-first, skips-append, skips-lines}
use Rattle.flux_engine.specs.lemmas.ReadLaws.{some_same}
use Rattle.sector_report.specs.LineLaws.{IsOneLine}

-- The text is so many whole lines, and this holds of each, by its number, whatever follows the text.
pub record Tells (P : ℕ → List ℕ → Type 0) (text : List ℕ) (count : ℕ) : Type 0 where
  pub skips : Skips text count
  pub each : (rest : List ℕ) (number : ℕ) (front : List ℕ) → number < count → slice_get (lines_in (text ++ rest)) number ≡ Some front → P number (front ++ 10 ∷ [])

module _ (P : ℕ → List ℕ → Type 0) where
  pub tells-nil : Tells P [] 0
  tells-nil = record {
    skips = skips-lines (λ k. 10 ∷ []) (λ k. record { front = []; ends = refl; once = refl }) 0 0;
    each = λ rest number front low at. absurd (omega (arith, low));
  }

  pub tells-line : (line : List ℕ) → IsOneLine line → P 0 line → Tells P line 1
  tells-line line one holds = record {
    skips = skips-one;
    each = λ rest number front low at.
        (let none : number ≡ 0 = omega (arith, low) in
        let same : one.front ≡ front =
        some_same one.front front (sym (ap (λ (ls : List (List ℕ)). slice_get ls 0) (line-first line rest one)) ∙ ap (slice_get (lines_in (line ++ rest))) (sym none) ∙ at) in
        subst (λ (k : ℕ). P k (front ++ 10 ∷ [])) (sym none) (subst (P 0) (one.ends ∙ ap (λ (text : List ℕ). text ++ 10 ∷ []) same) holds));
  }
    where
      skips-one : Skips line 1
      skips-one = subst (λ (text : List ℕ). Skips text 1) (append-nil line) (skips-lines (λ k. line) (λ k. one) 0 1)

  -- one text behind another
  pub tells-append : (a b : List ℕ) (i j : ℕ) → Tells P a i → Tells (λ m line. P (i + m) line) b j → Tells P (a ++ b) (i + j)
  tells-append a b i j first second = record {
    skips = skips-append a b i j first.skips second.skips;
    each = λ rest number front low at.
        (let there : slice_get (lines_in (a ++ (b ++ rest))) number ≡ Some front = sym (ap (λ (text : List ℕ). slice_get (lines_in text) number) (append_assoc a b rest)) ∙ at in
        elim (cases_lt number i) [
          | inl before ↦ first.each (b ++ rest) number front before there
          | inr past ↦
              let m : ℕ = number - i in
              let split : i + m ≡ number = omega (arith, past) in
              let behind : slice_get (lines_in (b ++ rest)) m ≡ Some front =
              sym (first.skips.skips (b ++ rest) m) ∙ ap (slice_get (lines_in (a ++ (b ++ rest)))) split ∙ there in
              subst (λ (k : ℕ). P k (front ++ 10 ∷ [])) split (second.each rest m front (omega (arith, past, low)) behind)
        ]);
  }

-- what holds of each line too
pub tells-map : (P Q : ℕ → List ℕ → Type 0) (text : List ℕ) (count : ℕ) → ((number : ℕ) (line : List ℕ) → number < count → P number line → Q number line)
    → Tells P text count → Tells Q text count
tells-map P Q text count weaker all = record {
  skips = all.skips;
  each = λ rest number front low at. weaker number (front ++ 10 ∷ []) low (all.each rest number front low at);
}

-- a line for each number of a range
pub tells-range : (f : ℕ → List ℕ) → ((k : ℕ) → IsOneLine (f k)) → (first count : ℕ) → Tells (λ number line. line ≡ f (first + number)) (flat_map f (range_with_len first count)) count
tells-range f each first zero = tells-nil (λ number line. line ≡ f (first + number))
tells-range f each first (suc count) =
    let P : ℕ → List ℕ → Type 0 = λ number line. line ≡ f (first + number) in
    let here : first ≡ first + 0 = omega arith in
    let more : 1 + count ≡ suc count = omega arith in
    subst (Tells P (flat_map f (range_with_len first (suc count)))) more
    (tells-append P (f first) (flat_map f (range_with_len (first + 1) count)) 1 count (tells-line P (f first) (each first) (ap f here))
    (tells-map (λ number line. line ≡ f ((first + 1) + number)) (λ number line. P (1 + number) line) (flat_map f (range_with_len (first + 1) count)) count
    (λ number line low is. let next : (first + 1) + number ≡ first + (1 + number) = omega arith in is ∙ ap f next)
    (tells-range f each (first + 1) count)))

-- a line for each item of a list, of all of which the same holds
pub tells-each : {X : Type 0} (P : List ℕ → Type 0) (f : X → List ℕ) → ((x : X) → IsOneLine (f x)) → (xs : List X) → Each (λ (x : X). P (f x)) xs
    → Tells (λ number line. P line) (flat_map f xs) (length xs)
tells-each P f each [] holds = tells-nil (λ number line. P line)
tells-each P f each (x ∷ xs) holds =
    let more : 1 + length xs ≡ suc (length xs) = omega arith in
    subst (Tells (λ number line. P line) (flat_map f (x ∷ xs))) more
    (tells-append (λ number line. P line) (f x) (flat_map f xs) 1 (length xs) (tells-line (λ number line. P line) (f x) (each x) holds.0) (tells-each P f each xs holds.1))

-- a line where it is wanted
pub tells-if : (P : List ℕ → Type 0) (wanted : Bool) (line : List ℕ) → IsOneLine line → (wanted ≡ true → P line) → Tells (λ number l. P l) (cond wanted line []) (cond wanted 1 0)
tells-if P true line one holds = tells-line (λ number l. P l) line one (holds refl)
tells-if P false line one holds = tells-nil (λ number l. P l)

-- a line behind so many others is a line of the text
pub has_line : (text before line after : List ℕ) (number : ℕ) → text ≡ before ++ (line ++ after) → Skips before number → IsOneLine line → HasLine text line number
has_line text before line after number is skipped one =
    let first : number ≡ number + 0 = omega arith in
    record {
      before = before;
      after = after;
      is = is;
      front = one.front;
      ends = one.ends;
      there =
          ap (λ (t : List ℕ). slice_get (lines_in t) number) is
          ∙ ap (slice_get (lines_in (before ++ (line ++ after)))) first
          ∙ skipped.skips (line ++ after) 0
          ∙ ap (λ (ls : List (List ℕ)). slice_get ls 0) (line-first line after one);
    }
