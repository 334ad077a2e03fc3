-- A stream with other bytes after it, and with padding before it.
use Rattle.std.proofs.Common.{◌≡◌, ◌≢◌, ◌≤◌, ◌<◌, ◌+◌, ◌++◌, ◌==◌, ℕ, Bool, true, false, List, [], ◌∷◌, length, drop, get_or, refl, ap, sym, ◌∙◌, arith, Option, Some, None, Ok, Err, if◌then◌else◌, inl, inr}
use Rattle.std.specs.List.{cons_option}
use Rattle.std.specs.Prelude.{Result, slice_index}
use Rattle.std.proofs.lemmas.Bool.{cases_eq, cases_lt, eqb-true, eq-eqb}
use Rattle.std.proofs.lemmas.List.{get_or_append_left, get_or-append-add}
use Rattle.std.proofs.lemmas.List.Elements.{All-get_or}
use Rattle.std.proofs.lemmas.Grind.{get_or_default_zero}
use Rattle.std.proofs.Math.Seq.{drop-append_seam}
use Rattle.kryo_stream.specs.declared.block.Block.TheVariants.{End}
use Rattle.kryo_stream.specs.declared.block.Mark.{Mark}
use Rattle.kryo_stream.specs.declared.block.SpelledBlock.{SpelledBlock}
use Rattle.kryo_stream.specs.declared.fault.StreamFault.{StreamFault}
use Rattle.kryo_stream.specs.declared.fault.StreamFault.TheVariants.{BadSize}
use Rattle.kryo_stream.specs.Joined.{MayStandBefore, PaddingIsPassed}
use Rattle.kryo_stream.specs.Padding.{is_padding, padding_of, unpadded}
use Rattle.kryo_stream.specs.Pieces.{BlockOrFault, has, needs, of_size, out_of_band_piece, piece_at, unless_fault}
use Rattle.kryo_stream.specs.Protocol.{END_SIZE, LIMIT, OUT_OF_BAND}
use Rattle.kryo_stream.specs.Stream.{is_end, is_last, marks, mark_at, turn_fault, piece_behind, with_piece, pieces, stops_at, last_block, fault_at, first_fault}
use Rattle.kryo_stream.proofs.PaddingLemmas.{is_padding-behind, is_padding-here, is_padding-true, padding_of-is}
use Rattle.kryo_stream.proofs.Readings.{has-long, has-short}
use Rattle.kryo_stream.proofs.StreamLaws.{Turns-from_fault}
use Rattle.kryo_stream.proofs.Streams.{last_block-is}

-- An End or a fault: a stream that begins with it has a fault.
abbrev EndsAtOnce : BlockOrFault → Type 0
EndsAtOnce (Ok p) = p.block ≡ End
EndsAtOnce (Err fault) = Unit {0}

ends_unless : (h : Result (Unit {0}) StreamFault) (r : BlockOrFault) → EndsAtOnce r → EndsAtOnce (unless_fault h r)
ends_unless (Ok _) r ends = ends
ends_unless (Err fault) r ends = tt

ends_if : (test : Bool) (a b : BlockOrFault) → (test ≡ true → EndsAtOnce a) → (test ≡ false → EndsAtOnce b) → EndsAtOnce (if test then a else b)
ends_if true a b first second = first refl
ends_if false a b first second = second refl

ends_size : (wanted size : ℕ) (r : BlockOrFault) → EndsAtOnce r → EndsAtOnce (of_size wanted size r)
ends_size wanted size r ends = ends_if (size == wanted) r (Err (BadSize size)) (λ _. ends) (λ _. tt)

not_eq : (a b : ℕ) (P : Type 0) → (a == b) ≡ true → (a ≡ b → ⊥) → P
not_eq a b P test other = absurd (other (eqb-true a b test))

-- a block whose first two bytes are 0D is an End, if it is one
end_kind : (offset counted kind size : ℕ) (y : List ℕ) → kind ≡ 13 → EndsAtOnce (out_of_band_piece offset counted kind size y)
end_kind offset counted kind size y is =
    ends_if (kind == 1) _ _ (λ test. not_eq kind 1 _ test (λ e. absurd (omega (arith, is, e))))
    (λ _. ends_if (kind == 2) _ _ (λ test. not_eq kind 2 _ test (λ e. absurd (omega (arith, is, e))))
    (λ _. ends_if (kind == 3) _ _ (λ test. not_eq kind 3 _ test (λ e. absurd (omega (arith, is, e))))
    (λ _. ends_if (kind == 4) _ _ (λ test. not_eq kind 4 _ test (λ e. absurd (omega (arith, is, e))))
    (λ _. ends_if (kind == 13) _ _ (λ _. ends_size END_SIZE size _ refl) (λ _. tt)))))

end_first : (offset counted : ℕ) (ended : Bool) (y : List ℕ) → slice_index y 0 ≡ 13 → slice_index y 1 ≡ 13 → EndsAtOnce (piece_at offset counted ended y)
end_first offset counted ended y first second =
    ends_unless (has offset 1 y) _
    (ends_if (slice_index y 0 == OUT_OF_BAND) _ _
    (λ _. ends_unless (has offset 4 y) _ (end_kind offset counted (slice_index y 1) _ y second))
    (λ test. absurd (let same : (slice_index y 0 == OUT_OF_BAND) ≡ true = eq-eqb (slice_index y 0) OUT_OF_BAND first in true_false (sym same ∙ test))))
  where
    true_false : true ≡ false → ⊥
    true_false e = cc

-- bytes that are too few for a block
short_first : (offset count : ℕ) (y : List ℕ) (r : BlockOrFault) → length y < count → EndsAtOnce (needs offset count y r)
short_first offset count y r short = elim (cases_lt LIMIT (offset + count)) [
  | inl long ↦ rw (has-long offset count y long) tt
  | inr within ↦ rw (has-short offset count y within short) tt
]

short_block : (offset counted : ℕ) (ended : Bool) (y : List ℕ) → slice_index y 0 ≡ 13 → length y < 4 → EndsAtOnce (piece_at offset counted ended y)
short_block offset counted ended y first short =
    ends_unless (has offset 1 y) _
    (ends_if (slice_index y 0 == OUT_OF_BAND) _ _
    (λ _. short_first offset 4 y _ short)
    (λ test. absurd (let same : (slice_index y 0 == OUT_OF_BAND) ≡ true = eq-eqb (slice_index y 0) OUT_OF_BAND first in true_false (sym same ∙ test))))
  where
    true_false : true ≡ false → ⊥
    true_false e = cc

-- one block has no two turns
few_marks : (p : SpelledBlock) → length (marks (p ∷ [])) ≤ 1
few_marks p = by (mark_at (p ∷ []) 0)
  where
    by : (o : Option Mark) → length (cons_option o []) ≤ 1
    by None = omega arith
    by (Some m) = omega arith

some_none : (fault : ℕ × StreamFault) → Some fault ≡ None → ⊥
some_none fault same = cc

ends_fault : (x : List ℕ) (r : BlockOrFault) → piece_behind x [] ≡ r → EndsAtOnce r → first_fault x ≡ None → ⊥
ends_fault x (Ok p) is end none =
    let stops : stops_at x 0 ≡ true = ap is_last is ∙ ap is_end end in
    let last : last_block x ≡ 0 = last_block-is x 0 (omega arith) (λ k low. absurd (omega arith)) stops in
    let one : pieces x 1 ≡ p ∷ [] = ap (with_piece []) is in
    let fault : turn_fault (p ∷ []) ≡ None =
    ap turn_fault (sym one) ∙ ap (fault_at x 0) (sym is)
    ∙ ap (λ (k : ℕ). fault_at x k (piece_behind x (pieces x k))) (sym last) ∙ none in
    let turns = Turns-from_fault (p ∷ []) fault in
    omega (arith, turns.turns, few_marks p)
ends_fault x (Err fault) is end none =
    let last : last_block x ≡ 0 = last_block-is x 0 (omega arith) (λ k low. absurd (omega arith)) (ap is_last is) in
    some_none (0, fault)
    (ap (fault_at x 0) (sym is) ∙ ap (λ (k : ℕ). fault_at x k (piece_behind x (pieces x k))) (sym last) ∙ none)

-- how a stream without a fault begins
record Begins (x : List ℕ) : Type 0 where
  some : 1 ≤ length x
  header : slice_index x 0 ≡ 13 → 4 ≤ length x
  kind : slice_index x 0 ≡ 13 → slice_index x 1 ≢ 13

begins : (x : List ℕ) → first_fault x ≡ None → Begins x
begins x none = record {
  some = elim (cases_lt (length x) 1) [
    | inl short ↦ absurd (ends_fault x (piece_at 0 0 false x) refl (short_first 0 1 x _ short) none)
    | inr enough ↦ enough
  ];
  header = λ first. elim (cases_lt (length x) 4) [
    | inl short ↦ absurd (ends_fault x (piece_at 0 0 false x) refl (short_block 0 0 false x first short) none)
    | inr enough ↦ enough
  ];
  kind = λ first second. absurd (ends_fault x (piece_at 0 0 false x) refl (end_first 0 0 false x first second) none);
}

module _ (padding x later : List ℕ) (start : Begins x) (may : MayStandBefore padding x) where
  abbrev whole : List ℕ
  whole = padding ++ (x ++ later)

  inside : (d i : ℕ) → i < length padding → get_or whole i d ≡ 13
  inside d i low = get_or_append_left padding (x ++ later) d i low ∙ All-get_or (λ (b : ℕ). b ≡ 13) padding i d low may.each

  behind : (d i : ℕ) → i < length x → get_or whole (length padding + i) d ≡ get_or x i d
  behind d i low = get_or-append-add padding (x ++ later) i d ∙ get_or_append_left x later d i low

  -- where padding stands, the stream begins with an out-of-band block
  out_of_band : 0 < length padding → slice_index x 0 ≡ 13
  out_of_band some =
      elim (cases_eq (slice_index x 0) 13) [
        | inl same ↦ same
        | inr other ↦ absurd (let none = ap length (may.none_in_stream other) in omega (arith, some, none))
      ]

  first_is : (d : ℕ) → get_or whole (length padding) d ≡ slice_index x 0
  first_is d =
      let e : length padding ≡ length padding + 0 = omega arith in
      ap (λ (n : ℕ). get_or whole n d) e ∙ behind d 0 start.some ∙ get_or_default_zero x 0 d start.some

  passes : (i : ℕ) → i < length padding → is_padding whole i ≡ true
  passes i low =
      is_padding-true whole i (inside 0 i low)
      (elim (cases_lt (i + 1) (length padding)) [
        | inl more ↦ inside 13 (i + 1) more
        | inr last ↦ (let e : i + 1 ≡ length padding = omega arith in
            ap (λ (n : ℕ). get_or whole n 13) e ∙ first_is 13 ∙ out_of_band (omega arith))
      ])

  ends : is_padding whole (length padding) ≡ false
  ends =
      elim (cases_eq (slice_index x 0) 13) [
        | inl same ↦ is_padding-behind whole (length padding)
            (λ e. start.kind same (
            let size = start.header same in
            let low : 1 < length x = omega (arith, size) in
            sym (get_or_default_zero x 1 13 low) ∙ sym (behind 13 1 low) ∙ e))
        | inr other ↦ is_padding-here whole (length padding) (λ e. other (sym (first_is 0) ∙ e))
      ]

  count : padding_of whole ≡ length padding
  count = padding_of-is whole (length padding) may.few passes (λ _. ends)

  rest : unpadded whole ≡ x ++ later
  rest = ap (λ (n : ℕ). drop n whole) count ∙ drop-append_seam padding (x ++ later)

pub padding_is_passed : PaddingIsPassed
padding_is_passed padding x later none may = rest padding x later (begins x none) may
