-- The sum of the bytes that a source gives, piece by piece.
use Rattle.std.proofs.Common.{◌≡◌, ◌<◌, ◌≤◌, ◌+◌, ◌%◌, ◌++◌, ℕ, true, false, List, [], ◌∷◌, length, nat_lt, if◌then◌else◌, Option, Some, None, refl, sym, ap, subst, ◌∙◌, arith, append-nil, length-append}
use Rattle.std.proofs.KnownBytes.{Consumes-nil, Consumes-trans}
use Rattle.std.proofs.lemmas.Bool.Decides.{nat_tests}
use Rattle.std.proofs.lemmas.List.Sums.{sum_by-append}
use Rattle.std.specs.Io.KnownBytes.{Consumes, IsAtEnd}
use Rattle.std.specs.List.{sum}
use Rattle.scp_notes.specs.Files.{short_sum}
use Rattle.scp_notes.specs.inside.Walk.{HasSummed}

pub none-yet : (left : Option (List ℕ)) → HasSummed left left 0 0
none-yet left = record { taken = []; consumed = Consumes-nil left; size = refl; total_is = refl }

pub one-more : (left mid new : Option (List ℕ)) (count total : ℕ) → HasSummed left mid count total → (piece : List ℕ) → Consumes mid new piece
    → (size most : ℕ) → length piece ≡ size → most ≡ sum piece → HasSummed left new (count + size) (total + most)
one-more left mid new count total before piece consumed size most size_is most_is = record {
  taken = before.taken ++ piece;
  consumed = Consumes-trans left mid new before.taken piece before.consumed consumed;
  size = length-append before.taken piece ∙ ap (λ n. n + length piece) before.size ∙ ap (λ n. count + n) size_is;
  total_is = ap (λ n. n + most) before.total_is ∙ ap (λ n. sum before.taken + n) most_is ∙ sym (sum_by-append (λ x. x) before.taken piece);
}

-- all that a source had
all-of : (bytes : List ℕ) (left : Option (List ℕ)) (taken : List ℕ) → Consumes (Some bytes) left taken → IsAtEnd left → bytes ≡ taken
all-of bytes None taken consumed ended = absurd consumed
all-of bytes (Some rest) taken consumed ended = (let gone : rest ≡ [] = ended in consumed ∙ ap (λ r. taken ++ r) gone ∙ append-nil taken)

pub all : (bytes : List ℕ) (old left : Option (List ℕ)) (count total : ℕ) → HasSummed old left count total → old ≡ Some bytes → IsAtEnd left → count < 4294967280
    → Some (total % 4294967296) ≡ short_sum bytes
all bytes old left count total summed told ended few =
    let whole = all-of bytes left summed.taken (subst (λ o. Consumes o left summed.taken) told summed.consumed) ended in
    let short : nat_lt (length bytes) 4294967280 ≡ true = grind (arith, nat_tests, few, summed.size, ap length whole) in
    ap (λ n. Some (n % 4294967296)) (summed.total_is ∙ ap sum (sym whole)) ∙ sym (ap (λ b. if b then Some (sum bytes % 4294967296) else None) short)

at-least : (bytes : List ℕ) (left : Option (List ℕ)) (taken : List ℕ) → Consumes (Some bytes) left taken → length taken ≤ length bytes
at-least bytes None taken consumed = absurd consumed
at-least bytes (Some rest) taken consumed = omega (arith, ap length consumed, length-append taken rest)

pub too-many : (bytes : List ℕ) (old left : Option (List ℕ)) (count total : ℕ) → HasSummed old left count total → old ≡ Some bytes → 4294967280 ≤ count
    → None ≡ short_sum bytes
too-many bytes old left count total summed told many =
    let long = at-least bytes left summed.taken (subst (λ o. Consumes o left summed.taken) told summed.consumed) in
    let past : nat_lt (length bytes) 4294967280 ≡ false = grind (arith, nat_tests, many, summed.size, long) in
    sym (ap (λ b. if b then Some (sum bytes % 4294967296) else None) past)

-- the source gave no more
pub ends : (bytes : List ℕ) (old mid left : Option (List ℕ)) (count total : ℕ) → HasSummed old mid count total → old ≡ Some bytes → (piece : List ℕ)
    → Consumes mid left piece → length piece ≡ 0 → IsAtEnd left → count < 4294967280 → Some (total % 4294967296) ≡ short_sum bytes
ends bytes old mid left count total summed told [] consumed none ended few =
    let same = append-nil summed.taken in
    all bytes old left count total (record {
      taken = summed.taken;
      consumed = subst (Consumes old left) same (Consumes-trans old mid left summed.taken [] summed.consumed consumed);
      size = summed.size;
      total_is = summed.total_is;
    }) told ended few
ends bytes old mid left count total summed told (byte ∷ piece) consumed none ended few = absurd (omega (arith, none))
