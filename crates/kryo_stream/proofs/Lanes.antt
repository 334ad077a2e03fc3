-- Sixteen bytes at once.
use Rattle.std.proofs.Common.{◌≡◌, ◌<◌, ◌≤◌, ◌+◌, ℕ, List, All, true, false, not, nat_le, get_or, length, take, map, length-take-le, sym, ap, ◌∙◌, arith, inl, inr}
use Rattle.std.proofs.lemmas.Bool.{cases_lt}
use Rattle.std.proofs.lemmas.Bool.Decides.{nat_tests}
use Rattle.std.proofs.lemmas.List.{get_or-take}
use Rattle.std.proofs.lemmas.List.Elements.{All-from_get_or}
use Rattle.std.proofs.lemmas.Simd.{length-chunk, leading_from_mask_l, trailing_mask_l, run_in_chunk_le, run_in_chunk_fails, run_in_chunk_stops}
use Rattle.std.specs.List.{prefix_len}
use lib.Count.{count_trailing_zeros}
use lib.Lanes.{chunk, mask_l}
use Rattle.kryo_stream.specs.inside.Blocks.{IsShortFlux}

is_above : (n m : ℕ) → nat_le n m ≡ false → m < n
is_above n m test = grind (arith, nat_tests)

is_at_most : (n m : ℕ) → nat_le n m ≡ true → n ≤ m
is_at_most n m test = grind (arith, nat_tests)

-- the bytes begin with so many transitions of one byte, at least one where the first is one
pub record IsRow (bytes : List ℕ) (count : ℕ) : Type 0 where
  pub few : count ≤ 16
  pub short : All IsShortFlux (take count bytes)
  pub some : 14 ≤ get_or bytes 0 0 → 1 ≤ count

row_of_prefix : (bytes : List ℕ) (count : ℕ) → 16 ≤ length bytes → ((i : ℕ) → get_or bytes i 0 < 256)
    → count ≡ prefix_len (λ x. not (nat_le x 13)) (chunk 0 16 bytes) → IsRow bytes count
row_of_prefix bytes count room small counted =
    let few : count ≤ 16 = run_in_chunk_le (λ x. nat_le x 13) bytes 0 16 count 0 room counted in
    let size : length (take count bytes) ≡ count = length-take-le count bytes (omega (arith, few, room)) in record {
      few = few;
      short = All-from_get_or IsShortFlux (take count bytes) 0 (λ i below.
          let inside : i < count = omega (arith, below, size) in
          let above : 13 < get_or bytes i 0 = is_above (get_or bytes i 0) 13
          (run_in_chunk_fails (λ x. nat_le x 13) bytes 0 16 count 0 room counted i (omega arith) (omega (arith, inside))) in
          rw (get_or-take count bytes i 0 inside) (omega (arith, above), small i));
      some = λ first. elim (cases_lt 0 count) [
        | inl more ↦ omega (arith, more)
        | inr none ↦ (let zero : 0 + count ≡ 0 = omega (arith, none) in
            let stops : nat_le (get_or bytes (0 + count) 0) 13 ≡ true = run_in_chunk_stops (λ x. nat_le x 13) bytes 0 16 count 0 room counted (omega (arith, none)) in
            let low : get_or bytes 0 0 ≤ 13 = is_at_most (get_or bytes 0 0) 13 (ap (λ k. nat_le (get_or bytes k 0) 13) (sym zero) ∙ stops) in
            absurd (omega (arith, low, first)))
      ];
    }

-- where no lane is at most 13
pub row_of_none : (bytes : List ℕ) → 16 ≤ length bytes → ((i : ℕ) → get_or bytes i 0 < 256)
    → mask_l (map (λ x. nat_le x 13) (chunk 0 16 bytes)) ≡ 0 → IsRow bytes 16
row_of_none bytes room small none =
    row_of_prefix bytes 16 room small (sym (leading_from_mask_l (λ x. nat_le x 13) (chunk 0 16 bytes) none ∙ length-chunk 0 16 bytes room))

-- where one is, the row ends at the first of them
pub row_of_some : (bytes : List ℕ) → 16 ≤ length bytes → ((i : ℕ) → get_or bytes i 0 < 256)
    → 0 < mask_l (map (λ x. nat_le x 13) (chunk 0 16 bytes))
    → IsRow bytes (count_trailing_zeros 64 (mask_l (map (λ x. nat_le x 13) (chunk 0 16 bytes))))
row_of_some bytes room small some =
    row_of_prefix bytes (count_trailing_zeros 64 (mask_l (map (λ x. nat_le x 13) (chunk 0 16 bytes)))) room small
    (trailing_mask_l (λ x. nat_le x 13) 64 (chunk 0 16 bytes) (omega (arith, length-chunk 0 16 bytes room)) some)
