-- The table of remainders against the fold over bits.
use Rattle.std.proofs.Common.{◌≡◌, ℕ, ◌+◌, ◌*◌, ◌/◌, ◌%◌, ◌<◌, ◌^◌, [], ◌∷◌, arith, refl, sym, ◌∙◌, ap, get_or, map, zero, suc, List, length, bit_and}
use Rattle.std.specs.Int.Bits.{bit_xor, xor_assoc, xor_zero_r}
use Rattle.std.specs.List.{fold, range_with_len, All}
use Rattle.std.proofs.lemmas.Nat.{and_mask, xor_block, xor_comm, xor_of_8}
use Rattle.std.proofs.lemmas.Nat.Bits.{bit_at-lt}
use Rattle.std.proofs.lemmas.List.FromFn.{get_or-map-range_with_len}
use Rattle.check_values.specs.Crc.{bits_of, with_bit, crc}
use Rattle.check_values.specs.declared.table.TheConstants.{REMAINDERS, REMAINDERS_OF_16, REMAINDERS_OF_24, REMAINDERS_OF_32}
use Rattle.check_values.proofs.Linear.{crc-append, fold-xor}

-- what eight zero bits make of the register
abbrev pub cleared : ℕ → ℕ
cleared register = fold with_bit register (0 ∷ 0 ∷ 0 ∷ 0 ∷ 0 ∷ 0 ∷ 0 ∷ 0 ∷ [])

-- what is computed for each byte: the low byte moves up; a message byte works as one in the register's high byte;
-- the table's entries
low_bytes : map cleared (range_with_len 0 256) ≡ map (λ x. x * 256) (range_with_len 0 256)
unfolding with_bit
low_bytes = refl

messages : map (λ x. fold with_bit 0 (bits_of x)) (range_with_len 0 256) ≡ map (λ x. cleared (x * 256)) (range_with_len 0 256)
unfolding with_bit
messages = refl

entries : REMAINDERS ≡ map (λ x. cleared (x * 256)) (range_with_len 0 256)
unfolding with_bit
entries = refl

-- two functions that agree in a list of their values agree at each byte
at_byte : (f g : ℕ → ℕ) (x : ℕ) → x < 256
    → map f (range_with_len 0 256) ≡ map g (range_with_len 0 256) → f x ≡ g x
at_byte f g x h same =
    sym (get_or-map-range_with_len f 0 256 x x 0 h (omega arith))
    ∙ ap (λ t. get_or t x 0) same ∙ get_or-map-range_with_len g 0 256 x x 0 h (omega arith)

bits_below : (b : ℕ) → All (λ bit. bit < 2) (bits_of b)
bits_below b zero d h = bit_at-lt b 7
bits_below b (suc zero) d h = bit_at-lt b 6
bits_below b (suc (suc zero)) d h = bit_at-lt b 5
bits_below b (suc (suc (suc zero))) d h = bit_at-lt b 4
bits_below b (suc (suc (suc (suc zero)))) d h = bit_at-lt b 3
bits_below b (suc (suc (suc (suc (suc zero))))) d h = bit_at-lt b 2
bits_below b (suc (suc (suc (suc (suc (suc zero)))))) d h = bit_at-lt b 1
bits_below b (suc (suc (suc (suc (suc (suc (suc zero))))))) d h = bit_at-lt b 0
bits_below b (suc (suc (suc (suc (suc (suc (suc (suc k)))))))) d h = absurd (omega arith)

zeros_below : All (λ bit. bit < 2) (map (λ _. 0) (bits_of 0))
zeros_below = bits_below 0

-- shifted by a byte
shifted-xor : (x y : ℕ) → bit_xor x y * 256 ≡ bit_xor (x * 256) (y * 256)
shifted-xor x y =
    let block : bit_xor (x * 2 ^ 8 + 0) (y * 2 ^ 8 + 0) ≡ bit_xor x y * 2 ^ 8 + bit_xor 0 0 = xor_block 8 x y 0 0 (omega arith) (omega arith) in
    let left : x * 2 ^ 8 + 0 ≡ x * 256 = omega arith in
    let right : y * 2 ^ 8 + 0 ≡ y * 256 = omega arith in
    let whole : bit_xor x y * 2 ^ 8 + 0 ≡ bit_xor x y * 256 = omega arith in
    sym whole ∙ sym block ∙ ap (λ n. bit_xor n (y * 2 ^ 8 + 0)) left ∙ ap (bit_xor (x * 256)) right

-- a number of two bytes is the exclusive or of its bytes
halves : (r : ℕ) → r ≡ bit_xor (r % 256) (r / 256 * 256)
halves r =
    let block : bit_xor (0 * 2 ^ 8 + r % 256) (r / 256 * 2 ^ 8 + 0) ≡ bit_xor 0 (r / 256) * 2 ^ 8 + bit_xor (r % 256) 0 =
    xor_block 8 0 (r / 256) (r % 256) 0 (omega arith) (omega arith) in
    let left : 0 * 2 ^ 8 + r % 256 ≡ r % 256 = omega arith in
    let right : r / 256 * 2 ^ 8 + 0 ≡ r / 256 * 256 = omega arith in
    let whole : r / 256 * 2 ^ 8 + r % 256 ≡ r = omega arith in
    sym whole ∙ ap (λ n. r / 256 * 2 ^ 8 + n) (sym (xor_zero_r (r % 256))) ∙ sym block
    ∙ ap (λ n. bit_xor n (r / 256 * 2 ^ 8 + 0)) left ∙ ap (bit_xor (r % 256)) right

-- a byte of the message works as one in the register's high byte
high_byte : (h b : ℕ) → h < 256 → b < 256 → fold with_bit (h * 256) (bits_of b) ≡ cleared (bit_xor h b * 256)
high_byte h b high low =
    ap (λ r. fold with_bit r (bits_of b)) (sym (xor_zero_r (h * 256)))
    ∙ fold-xor (bits_of b) (h * 256) 0 (bits_below b)
    ∙ ap (bit_xor (cleared (h * 256))) (at_byte (λ x. fold with_bit 0 (bits_of x)) (λ x. cleared (x * 256)) b low messages)
    ∙ sym (fold-xor (map (λ _. 0) (bits_of 0)) (h * 256) (b * 256) zeros_below)
    ∙ ap cleared (sym (shifted-xor h b))

-- a step by the table is eight steps of the definition
pub by_table : (r b : ℕ) → r < 65536 → b < 256
    → bit_xor (r * 256 % 65536) (get_or REMAINDERS (bit_xor (r / 256) b) 0) ≡ crc r (b ∷ [])
unfolding crc
by_table r b wide low =
    let high : r / 256 < 256 = omega arith in
    let index : bit_xor (r / 256) b < 256 = xor_of_8 (r / 256) b high low in
    let entry : get_or REMAINDERS (bit_xor (r / 256) b) 0 ≡ cleared (bit_xor (r / 256) b * 256) =
    ap (λ t. get_or t (bit_xor (r / 256) b) 0) entries
    ∙ get_or-map-range_with_len (λ x. cleared (x * 256)) 0 256 (bit_xor (r / 256) b) (bit_xor (r / 256) b) 0 index (omega arith) in
    let moved : r * 256 % 65536 ≡ cleared (r % 256) =
    let plain : r * 256 % 65536 ≡ r % 256 * 256 = omega arith in
    plain ∙ sym (at_byte cleared (λ x. x * 256) (r % 256) (omega arith) low_bytes) in
    ap (λ n. bit_xor n (get_or REMAINDERS (bit_xor (r / 256) b) 0)) moved
    ∙ ap (bit_xor (cleared (r % 256))) (entry ∙ sym (high_byte (r / 256) b high low))
    ∙ sym (fold-xor (bits_of b) (r % 256) (r / 256 * 256) (bits_below b))
    ∙ ap (λ n. fold with_bit n (bits_of b)) (sym (halves r))

-- so many bytes of zero bits
abbrev pub cleared_by_two : ℕ → ℕ
cleared_by_two register = cleared (cleared register)

abbrev pub cleared_by_three : ℕ → ℕ
cleared_by_three register = cleared (cleared_by_two register)

abbrev pub cleared_by_four : ℕ → ℕ
cleared_by_four register = cleared (cleared_by_three register)

entries_of_16 : REMAINDERS_OF_16 ≡ map (λ x. cleared_by_two (x * 256)) (range_with_len 0 256)
unfolding with_bit
entries_of_16 = refl

entries_of_24 : REMAINDERS_OF_24 ≡ map (λ x. cleared_by_three (x * 256)) (range_with_len 0 256)
unfolding with_bit
entries_of_24 = refl

entries_of_32 : REMAINDERS_OF_32 ≡ map (λ x. cleared_by_four (x * 256)) (range_with_len 0 256)
unfolding with_bit
entries_of_32 = refl

-- an entry of a table that has these values
entry_of : (table : List ℕ) (f : ℕ → ℕ) (x : ℕ) → x < 256 → table ≡ map f (range_with_len 0 256) → get_or table x 0 ≡ f x
entry_of table f x low same = ap (λ t. get_or t x 0) same ∙ get_or-map-range_with_len f 0 256 x x 0 low (omega arith)

cleared-xor : (s t : ℕ) → cleared (bit_xor s t) ≡ bit_xor (cleared s) (cleared t)
cleared-xor s t = fold-xor (map (λ _. 0) (bits_of 0)) s t zeros_below

two-xor : (s t : ℕ) → cleared_by_two (bit_xor s t) ≡ bit_xor (cleared_by_two s) (cleared_by_two t)
two-xor s t = ap cleared (cleared-xor s t) ∙ cleared-xor (cleared s) (cleared t)

three-xor : (s t : ℕ) → cleared_by_three (bit_xor s t) ≡ bit_xor (cleared_by_three s) (cleared_by_three t)
three-xor s t = ap cleared (two-xor s t) ∙ cleared-xor (cleared_by_two s) (cleared_by_two t)

four-xor : (s t : ℕ) → cleared_by_four (bit_xor s t) ≡ bit_xor (cleared_by_four s) (cleared_by_four t)
four-xor s t = ap cleared (three-xor s t) ∙ cleared-xor (cleared_by_three s) (cleared_by_three t)

-- one byte more, as a share of the register and one of the byte
shares : (r b : ℕ) → b < 256 → crc r (b ∷ []) ≡ bit_xor (cleared r) (cleared (b * 256))
unfolding crc
shares r b low =
    ap (λ n. fold with_bit n (bits_of b)) (sym (xor_zero_r r))
    ∙ fold-xor (bits_of b) r 0 (bits_below b)
    ∙ ap (bit_xor (cleared r)) (at_byte (λ x. fold with_bit 0 (bits_of x)) (λ x. cleared (x * 256)) b low messages)

-- the shares after four bytes
four_shares : (r a b c d : ℕ) → a < 256 → b < 256 → c < 256 → d < 256
    → crc r (a ∷ b ∷ c ∷ d ∷ [])
    ≡ bit_xor (bit_xor (bit_xor (bit_xor (cleared_by_four r) (cleared_by_four (a * 256))) (cleared_by_three (b * 256))) (cleared_by_two (c * 256))) (cleared (d * 256))
four_shares r a b c d a_low b_low c_low d_low =
    crc-append r (a ∷ b ∷ c ∷ []) (d ∷ []) ∙ shares (crc r (a ∷ b ∷ c ∷ [])) d d_low
    ∙ ap (λ n. bit_xor (cleared n) (cleared (d * 256))) third
    ∙ ap (λ n. bit_xor n (cleared (d * 256)))
    (cleared-xor (bit_xor (bit_xor (cleared_by_three r) (cleared_by_three (a * 256))) (cleared_by_two (b * 256))) (cleared (c * 256))
    ∙ ap (λ n. bit_xor n (cleared_by_two (c * 256)))
    (cleared-xor (bit_xor (cleared_by_three r) (cleared_by_three (a * 256))) (cleared_by_two (b * 256))
    ∙ ap (λ n. bit_xor n (cleared_by_three (b * 256))) (cleared-xor (cleared_by_three r) (cleared_by_three (a * 256)))))
  where
    second : crc r (a ∷ b ∷ []) ≡ bit_xor (bit_xor (cleared_by_two r) (cleared_by_two (a * 256))) (cleared (b * 256))
    second =
        crc-append r (a ∷ []) (b ∷ []) ∙ shares (crc r (a ∷ [])) b b_low
        ∙ ap (λ n. bit_xor (cleared n) (cleared (b * 256))) (shares r a a_low)
        ∙ ap (λ n. bit_xor n (cleared (b * 256))) (cleared-xor (cleared r) (cleared (a * 256)))

    third : crc r (a ∷ b ∷ c ∷ []) ≡ bit_xor (bit_xor (bit_xor (cleared_by_three r) (cleared_by_three (a * 256))) (cleared_by_two (b * 256))) (cleared (c * 256))
    third =
        crc-append r (a ∷ b ∷ []) (c ∷ []) ∙ shares (crc r (a ∷ b ∷ [])) c c_low
        ∙ ap (λ n. bit_xor (cleared n) (cleared (c * 256))) second
        ∙ ap (λ n. bit_xor n (cleared (c * 256)))
        (cleared-xor (bit_xor (cleared_by_two r) (cleared_by_two (a * 256))) (cleared (b * 256))
        ∙ ap (λ n. bit_xor n (cleared_by_two (b * 256))) (cleared-xor (cleared_by_two r) (cleared_by_two (a * 256))))

-- the register's bytes have their shares with the first two bytes
met : (low high p q : ℕ) → bit_xor (bit_xor (bit_xor low high) p) q ≡ bit_xor (bit_xor high p) (bit_xor low q)
met low high p q =
    ap (λ n. bit_xor n q) (xor_assoc low high p ∙ xor_comm low (bit_xor high p)) ∙ xor_assoc (bit_xor high p) low q

-- four steps by the tables are 32 steps of the definition
pub by_tables : (r a b c d : ℕ) → r < 65536 → a < 256 → b < 256 → c < 256 → d < 256
    → bit_xor (bit_xor (bit_xor (get_or REMAINDERS_OF_32 (bit_xor (r / 256) a) 0) (get_or REMAINDERS_OF_24 (bit_xor (r % 256) b) 0)) (get_or REMAINDERS_OF_16 c 0)) (get_or REMAINDERS d 0)
    ≡ crc r (a ∷ b ∷ c ∷ d ∷ [])
by_tables r a b c d wide a_low b_low c_low d_low =
    ap (λ n. bit_xor (bit_xor n (get_or REMAINDERS_OF_16 c 0)) (get_or REMAINDERS d 0)) (ap (λ n. bit_xor n (get_or REMAINDERS_OF_24 (bit_xor (r % 256) b) 0)) high ∙ ap (bit_xor (bit_xor (cleared_by_four (r / 256 * 256)) (cleared_by_four (a * 256)))) low)
    ∙ ap (λ n. bit_xor (bit_xor (bit_xor (bit_xor (cleared_by_four (r / 256 * 256)) (cleared_by_four (a * 256))) (bit_xor (cleared_by_three (r % 256 * 256)) (cleared_by_three (b * 256)))) n) (get_or REMAINDERS d 0))
    (entry_of REMAINDERS_OF_16 (λ x. cleared_by_two (x * 256)) c c_low entries_of_16)
    ∙ ap (bit_xor (bit_xor (bit_xor (bit_xor (cleared_by_four (r / 256 * 256)) (cleared_by_four (a * 256))) (bit_xor (cleared_by_three (r % 256 * 256)) (cleared_by_three (b * 256)))) (cleared_by_two (c * 256))))
    (entry_of REMAINDERS (λ x. cleared (x * 256)) d d_low entries)
    ∙ sym (four_shares r a b c d a_low b_low c_low d_low
    ∙ ap (λ n. bit_xor (bit_xor n (cleared_by_two (c * 256))) (cleared (d * 256)))
    (ap (λ n. bit_xor (bit_xor n (cleared_by_four (a * 256))) (cleared_by_three (b * 256))) both
    ∙ met (cleared_by_three (r % 256 * 256)) (cleared_by_four (r / 256 * 256)) (cleared_by_four (a * 256)) (cleared_by_three (b * 256))))
  where
    high : get_or REMAINDERS_OF_32 (bit_xor (r / 256) a) 0 ≡ bit_xor (cleared_by_four (r / 256 * 256)) (cleared_by_four (a * 256))
    high =
        entry_of REMAINDERS_OF_32 (λ x. cleared_by_four (x * 256)) (bit_xor (r / 256) a) (xor_of_8 (r / 256) a (omega arith) a_low) entries_of_32
        ∙ ap cleared_by_four (shifted-xor (r / 256) a) ∙ four-xor (r / 256 * 256) (a * 256)

    low : get_or REMAINDERS_OF_24 (bit_xor (r % 256) b) 0 ≡ bit_xor (cleared_by_three (r % 256 * 256)) (cleared_by_three (b * 256))
    low =
        entry_of REMAINDERS_OF_24 (λ x. cleared_by_three (x * 256)) (bit_xor (r % 256) b) (xor_of_8 (r % 256) b (omega arith) b_low) entries_of_24
        ∙ ap cleared_by_three (shifted-xor (r % 256) b) ∙ three-xor (r % 256 * 256) (b * 256)

    both : cleared_by_four r ≡ bit_xor (cleared_by_three (r % 256 * 256)) (cleared_by_four (r / 256 * 256))
    both =
        ap cleared_by_four (halves r) ∙ four-xor (r % 256) (r / 256 * 256)
        ∙ ap (λ n. bit_xor (cleared_by_three n) (cleared_by_four (r / 256 * 256))) (at_byte cleared (λ x. x * 256) (r % 256) (omega arith) low_bytes)

pub by_tables_of_list : (r : ℕ) (bytes : List ℕ) → r < 65536 → length bytes ≡ 4
    → get_or bytes 0 0 < 256 → get_or bytes 1 0 < 256 → get_or bytes 2 0 < 256 → get_or bytes 3 0 < 256
    → bit_xor (bit_xor (bit_xor (get_or REMAINDERS_OF_32 (bit_xor (r / 256) (get_or bytes 0 0)) 0) (get_or REMAINDERS_OF_24 (bit_xor (bit_and r 255) (get_or bytes 1 0)) 0))
    (get_or REMAINDERS_OF_16 (get_or bytes 2 0) 0)) (get_or REMAINDERS (get_or bytes 3 0) 0)
    ≡ crc r bytes
by_tables_of_list r (a ∷ b ∷ c ∷ d ∷ []) wide four a_low b_low c_low d_low =
    let low : bit_and r 255 ≡ r % 256 = and_mask r 8 in
    ap (λ n. bit_xor (bit_xor (bit_xor (get_or REMAINDERS_OF_32 (bit_xor (r / 256) a) 0) (get_or REMAINDERS_OF_24 (bit_xor n b) 0)) (get_or REMAINDERS_OF_16 c 0)) (get_or REMAINDERS d 0)) low
    ∙ by_tables r a b c d wide a_low b_low c_low d_low
by_tables_of_list r [] wide four a_low b_low c_low d_low = absurd (omega (arith, four))
by_tables_of_list r (a ∷ []) wide four a_low b_low c_low d_low = absurd (omega (arith, four))
by_tables_of_list r (a ∷ b ∷ []) wide four a_low b_low c_low d_low = absurd (omega (arith, four))
by_tables_of_list r (a ∷ b ∷ c ∷ []) wide four a_low b_low c_low d_low = absurd (omega (arith, four))
by_tables_of_list r (a ∷ b ∷ c ∷ d ∷ e ∷ bytes) wide four a_low b_low c_low d_low = absurd (omega (arith, four))
