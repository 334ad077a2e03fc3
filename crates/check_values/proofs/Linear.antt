-- The remainder is linear: that of an exclusive or is the exclusive or of the remainders.
use Rattle.std.proofs.Common.{◌≡◌, ℕ, ◌+◌, ◌*◌, ◌%◌, ◌<◌, ◌^◌, List, [], ◌∷◌, ◌++◌, arith, refl, sym, ◌∙◌, ap, if◌then◌else◌, nat_eq, map, zero, suc}
use Rattle.std.specs.Int.{bit_at}
use Rattle.std.specs.Int.Bits.{bit_xor, xor_assoc, xor_self, xor_zero_r}
use Rattle.std.specs.List.{fold, flat_map, All}
use Rattle.std.proofs.lemmas.Nat.{xor_comm, xor_mod, xor_block}
use Rattle.std.proofs.lemmas.Nat.Bits.{bit_at_xor, bit_at-lt}
use Rattle.std.proofs.lemmas.List.Concat.{flat_map-append}
use Rattle.std.proofs.lemmas.List.Sums.{fold-append}
use Rattle.check_values.specs.Crc.{GENERATOR, bits_of, with_bit, crc}

pub swapped : (m n g : ℕ) → bit_xor (bit_xor m n) g ≡ bit_xor (bit_xor m g) n
swapped m n g = xor_assoc m n g ∙ ap (bit_xor m) (xor_comm n g) ∙ sym (xor_assoc m g n)

pub cancelled : (m n g : ℕ) → bit_xor m n ≡ bit_xor (bit_xor m g) (bit_xor n g)
cancelled m n g =
    ap (bit_xor m) (sym (xor_zero_r n) ∙ ap (bit_xor n) (sym (xor_self g)) ∙ sym (xor_assoc n g g) ∙ xor_comm (bit_xor n g) g)
    ∙ sym (xor_assoc m g (bit_xor n g))

-- a step of the remainder, whose moved value is m
abbrev step : ℕ → ℕ → ℕ → ℕ → ℕ
step top bit m g = if nat_eq top bit then m else bit_xor m g

step-xor : (x y b m n g : ℕ) → x < 2 → y < 2 → b < 2
    → step ((x + y) % 2) b (bit_xor m n) g ≡ bit_xor (step x 0 m g) (step y b n g)
step-xor zero zero zero m n g h i j = refl
step-xor zero zero (suc zero) m n g h i j = xor_assoc m n g
step-xor zero (suc zero) zero m n g h i j = xor_assoc m n g
step-xor zero (suc zero) (suc zero) m n g h i j = refl
step-xor (suc zero) zero zero m n g h i j = swapped m n g
step-xor (suc zero) zero (suc zero) m n g h i j = cancelled m n g
step-xor (suc zero) (suc zero) zero m n g h i j = cancelled m n g
step-xor (suc zero) (suc zero) (suc zero) m n g h i j = swapped m n g
step-xor (suc (suc x)) y b m n g h i j = absurd (omega arith)
step-xor zero (suc (suc y)) b m n g h i j = absurd (omega arith)
step-xor (suc zero) (suc (suc y)) b m n g h i j = absurd (omega arith)
step-xor zero zero (suc (suc b)) m n g h i j = absurd (omega arith)
step-xor zero (suc zero) (suc (suc b)) m n g h i j = absurd (omega arith)
step-xor (suc zero) zero (suc (suc b)) m n g h i j = absurd (omega arith)
step-xor (suc zero) (suc zero) (suc (suc b)) m n g h i j = absurd (omega arith)

doubled-xor : (s t : ℕ) → 2 * bit_xor s t ≡ bit_xor (2 * s) (2 * t)
doubled-xor s t =
    let block : bit_xor (s * 2 ^ 1 + 0) (t * 2 ^ 1 + 0) ≡ bit_xor s t * 2 ^ 1 + bit_xor 0 0 = xor_block 1 s t 0 0 (omega arith) (omega arith) in
    let left : s * 2 ^ 1 + 0 ≡ 2 * s = omega arith in
    let right : t * 2 ^ 1 + 0 ≡ 2 * t = omega arith in
    let whole : bit_xor s t * 2 ^ 1 + 0 ≡ 2 * bit_xor s t = omega arith in
    sym whole ∙ sym block ∙ ap (λ n. bit_xor n (t * 2 ^ 1 + 0)) left ∙ ap (bit_xor (2 * s)) right

moved-xor : (s t : ℕ) → 2 * bit_xor s t % 2 ^ 16 ≡ bit_xor (2 * s % 2 ^ 16) (2 * t % 2 ^ 16)
moved-xor s t = ap (λ n. n % 2 ^ 16) (doubled-xor s t) ∙ xor_mod (2 * s) (2 * t) 16

pub with_bit-xor : (s t b : ℕ) → b < 2 → with_bit (bit_xor s t) b ≡ bit_xor (with_bit s 0) (with_bit t b)
unfolding with_bit
with_bit-xor s t b h =
    ap (λ top. step top b (2 * bit_xor s t % 2 ^ 16) GENERATOR) (bit_at_xor s t 15)
    ∙ ap (λ m. step ((bit_at s 15 + bit_at t 15) % 2) b m GENERATOR) (moved-xor s t)
    ∙ step-xor (bit_at s 15) (bit_at t 15) b (2 * s % 2 ^ 16) (2 * t % 2 ^ 16) GENERATOR (bit_at-lt s 15) (bit_at-lt t 15) h

-- the same for a whole list of bits
pub fold-xor : (bits : List ℕ) (s t : ℕ) → All (λ b. b < 2) bits
    → fold with_bit (bit_xor s t) bits ≡ bit_xor (fold with_bit s (map (λ _. 0) bits)) (fold with_bit t bits)
fold-xor [] s t h = refl
fold-xor (b ∷ bits) s t h =
    ap (λ r. fold with_bit r bits) (with_bit-xor s t b (h 0 0 (omega arith)))
    ∙ fold-xor bits (with_bit s 0) (with_bit t b) (λ k d below. h (suc k) d (omega arith))

-- the CRC of joined messages
pub crc-append : (start : ℕ) (xs ys : List ℕ) → crc start (xs ++ ys) ≡ crc (crc start xs) ys
unfolding crc
crc-append start xs ys =
    ap (fold with_bit start) (flat_map-append bits_of xs ys) ∙ fold-append with_bit start (flat_map bits_of xs) (flat_map bits_of ys)

pub crc-none : (start : ℕ) → crc start [] ≡ start
unfolding crc
crc-none start = refl

-- after a message whose CRC is known
pub crc-joined : (start first : ℕ) (before after : List ℕ) → start ≡ crc first before → crc start after ≡ crc first (before ++ after)
crc-joined start first before after known = ap (λ r. crc r after) known ∙ sym (crc-append first before after)
