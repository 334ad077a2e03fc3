-- The turns' lines, one more at a time.
use Rattle.std.proofs.Common.{◌≡◌, ℕ, zero, suc, ◌+◌, ◌-◌, ◌≤◌, List, [], ◌∷◌, ◌++◌, flat_map, Option, arith, sym, ap, ◌∙◌, subst, append-nil, append_assoc}
use Rattle.std.specs.List.{range_with_len}
use Rattle.std.proofs.lemmas.Grind.{flat_map-append}
use Rattle.std.proofs.KnownBytes.{Appends-trans}
use Rattle.std.specs.Io.KnownBytes.{Appends}
use Rattle.flux_base.specs.Outside.{AppendsPart}
use Rattle.flux_base.specs.lemmas.Parts.{AppendsPart-first, AppendsPart-second}
use Rattle.flux_cli.specs.Turns.{turn_line_of, turn_lines}

range-more : (a n : ℕ) → range_with_len a (suc n) ≡ range_with_len a n ++ (a + n) ∷ []
range-more a zero = let e : a ≡ a + 0 = omega arith in ap (λ x. x ∷ []) e
range-more a (suc n) =
    let e : (a + 1) + n ≡ a + suc n = omega arith in
    ap (λ rest. a ∷ rest) (range-more (a + 1) n ∙ ap (λ x. range_with_len (a + 1) n ++ x ∷ []) e)

-- the line of turn n + 1 stands after those of n turns
pub turn_lines-more : (indexes : List ℕ) (n : ℕ) → turn_lines indexes (suc n) ≡ turn_lines indexes n ++ turn_line_of indexes (1 + n)
turn_lines-more indexes n =
    ap (flat_map (turn_line_of indexes)) (range-more 1 n)
    ∙ flat_map-append (turn_line_of indexes) (range_with_len 1 n) ((1 + n) ∷ [])
    ∙ ap (λ last. turn_lines indexes n ++ last) (append-nil (turn_line_of indexes (1 + n)))

-- the line of turn n + 1 stands after those of n turns, and in front of those of later turns
turn_lines-front : (indexes : List ℕ) (n later : ℕ)
    → (rest : List ℕ) × (turn_lines indexes (n + suc later) ≡ turn_lines indexes n ++ (turn_line_of indexes (1 + n) ++ rest))
turn_lines-front indexes n zero =
    let e : n + suc zero ≡ suc n = omega arith in
    ([], (ap (turn_lines indexes) e ∙ turn_lines-more indexes n ∙ ap (λ line. turn_lines indexes n ++ line) (sym (append-nil (turn_line_of indexes (1 + n))))))
turn_lines-front indexes n (suc later) =
    let e : n + suc (suc later) ≡ suc (n + suc later) = omega arith in
    let last : List ℕ = turn_line_of indexes (1 + (n + suc later)) in
    let h = turn_lines-front indexes n later in (
      h.0 ++ last,
      (ap (turn_lines indexes) e ∙ turn_lines-more indexes (n + suc later) ∙ ap (λ lines. lines ++ last) h.1
          ∙ append_assoc (turn_lines indexes n) (turn_line_of indexes (1 + n) ++ h.0) last
          ∙ ap (λ lines. turn_lines indexes n ++ lines) (append_assoc (turn_line_of indexes (1 + n)) h.0 last)),
    )

-- all lines so far, and then a part of the next
pub wrote-part : (old mid new : Option (List ℕ)) (indexes : List ℕ) (turn count : ℕ) → 1 ≤ turn → turn ≤ count → Appends old mid (turn_lines indexes (turn - 1))
    → AppendsPart mid new (turn_line_of indexes turn) → AppendsPart old new (turn_lines indexes count)
wrote-part old mid new indexes turn count first last before part =
    let e : (turn - 1) + suc (count - turn) ≡ count = omega (arith, first, last) in
    let e' : 1 + (turn - 1) ≡ turn = omega (arith, first) in
    let h = turn_lines-front indexes (turn - 1) (count - turn) in
    subst (AppendsPart old new) (sym h.1 ∙ ap (turn_lines indexes) e)
    (AppendsPart-second old mid new (turn_lines indexes (turn - 1)) (turn_line_of indexes (1 + (turn - 1)) ++ h.0) before
    (AppendsPart-first mid new (turn_line_of indexes (1 + (turn - 1))) h.0 (subst (λ k. AppendsPart mid new (turn_line_of indexes k)) (sym e') part)))

-- all lines so far, and then the next
pub wrote-turn : (old mid new : Option (List ℕ)) (indexes : List ℕ) (turn : ℕ) → 1 ≤ turn → Appends old mid (turn_lines indexes (turn - 1))
    → Appends mid new (turn_line_of indexes turn) → Appends old new (turn_lines indexes (turn + 1 - 1))
wrote-turn old mid new indexes turn first before next =
    let e : turn + 1 - 1 ≡ suc (turn - 1) = omega (arith, first) in
    let e' : 1 + (turn - 1) ≡ turn = omega (arith, first) in
    subst (Appends old new) (sym (ap (turn_lines indexes) e ∙ turn_lines-more indexes (turn - 1) ∙ ap (λ k. turn_lines indexes (turn - 1) ++ turn_line_of indexes k) e'))
    (Appends-trans old mid new (turn_lines indexes (turn - 1)) (turn_line_of indexes turn) before next)
