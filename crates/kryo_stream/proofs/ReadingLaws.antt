-- What is read as a block is spelled so.
use Rattle.std.proofs.Common.{◌≡◌, ◌≢◌, ◌≤◌, ◌<◌, ◌+◌, ◌-◌, ◌*◌, ◌/◌, ◌%◌, ◌^◌, ◌++◌, ◌==◌, ℕ, suc, Bool, true, false, List, [], ◌∷◌, All, length, take, drop, slice_index, nat_lt, nat_le, refl, ap, sym, ◌∙◌, subst, arith, length-drop, Ok, Err, if◌then◌else◌, inl, inr}
use Rattle.std.proofs.lemmas.Bool.{cases_lt, eqb-true, eqb-false}
use Rattle.std.proofs.lemmas.Bool.Decides.{nat_tests}
use Rattle.std.proofs.lemmas.List.{length-take-le, drop-drop}
use Rattle.std.proofs.lemmas.List.Elements.{All-head, All-tail}
use Rattle.byteorder.specs.Endian.{little_bytes, little_number}
use Rattle.kryo_stream.specs.declared.block.Block.TheVariants.{Flux, Overflow, Nop, StreamInfo, Index, StreamEnd, Info, End}
use Rattle.kryo_stream.specs.declared.block.SpelledBlock.{SpelledBlock}
use Rattle.kryo_stream.specs.declared.fault.StreamFault.TheVariants.{DataAfterEnd}
use Rattle.kryo_stream.specs.Blocks.{out_of_band}
use Rattle.kryo_stream.specs.Protocol.{LIMIT}
use Rattle.kryo_stream.specs.Pieces.{BlockOrFault, needs, number_at, ticks_at, in_stream_piece, out_of_band_piece, piece_at}
use Rattle.kryo_stream.specs.WellFormed.{IsBlockOf}

-- the block that is read may stand there, and lies within the limit
pub record Found (offset counted : ℕ) (ended : Bool) (bytes : List ℕ) (p : SpelledBlock) : Type 0 where
  pub block : IsBlockOf counted ended bytes p
  pub some : 1 ≤ p.bytes
  pub limit : offset + p.bytes ≤ LIMIT

-- what holds of a block that was read
abbrev pub IfPiece : (SpelledBlock → Type 0) → BlockOrFault → Type 0
IfPiece P (Ok p) = P p
IfPiece P (Err _) = Unit {0}

if_piece_if : (P : SpelledBlock → Type 0) (test : Bool) (a b : BlockOrFault) → (test ≡ true → IfPiece P a) → (test ≡ false → IfPiece P b)
    → IfPiece P (if test then a else b)
if_piece_if P true a b first second = first refl
if_piece_if P false a b first second = second refl

if_piece_within : (P : SpelledBlock → Type 0) (offset count : ℕ) (bytes : List ℕ) (reading : BlockOrFault)
    → (count ≤ length bytes → offset + count ≤ LIMIT → IfPiece P reading) → IfPiece P (needs offset count bytes reading)
if_piece_within P offset count bytes reading holds = elim (cases_lt LIMIT (offset + count)) [
  | inl long ↦ (let a : nat_lt LIMIT (offset + count) ≡ true = grind (arith, nat_tests, long) in rw a tt)
  | inr limit ↦ elim (cases_lt (length bytes) count) [
    | inl short ↦ (let a : nat_lt LIMIT (offset + count) ≡ false = grind (arith, nat_tests, limit) in
        let b : nat_lt (length bytes) count ≡ true = grind (arith, nat_tests, short) in rw (a, b) tt)
    | inr enough ↦ (let a : nat_lt LIMIT (offset + count) ≡ false = grind (arith, nat_tests, limit) in
        let b : nat_lt (length bytes) count ≡ false = grind (arith, nat_tests, enough) in
        rw (a, b) (holds enough limit))
  ]
]

abbrev pub IsByte : ℕ → Type 0
IsByte b = b < 256

-- the bytes of the number in two and in four bytes are those bytes
pair_bytes : (a b : ℕ) (rest : List ℕ) → a < 256 → b < 256 → little_bytes 2 (little_number 2 (a ∷ b ∷ rest)) ≡ a ∷ b ∷ []
pair_bytes a b rest fa fb =
    let n : ℕ = a + 256 * (b + 256 * 0) in
    let first : n % 256 ≡ a = omega arith in
    let second : n / 256 ^ 1 % 256 ≡ b = omega arith in
    ap (λ x. x ∷ (n / 256 ^ 1 % 256) ∷ []) first ∙ ap (λ y. a ∷ y ∷ []) second

four_bytes : (a b c d : ℕ) (rest : List ℕ) → a < 256 → b < 256 → c < 256 → d < 256
    → little_bytes 4 (little_number 4 (a ∷ b ∷ c ∷ d ∷ rest)) ≡ a ∷ b ∷ c ∷ d ∷ []
four_bytes a b c d rest fa fb fc fd =
    let n : ℕ = a + 256 * (b + 256 * (c + 256 * (d + 256 * 0))) in
    let first : n % 256 ≡ a = omega arith in
    let second : n / 256 ^ 1 % 256 ≡ b = omega arith in
    let third : n / 256 ^ 2 % 256 ≡ c = omega arith in
    let fourth : n / 256 ^ 3 % 256 ≡ d = omega arith in
    ap (λ x. x ∷ (n / 256 ^ 1 % 256) ∷ (n / 256 ^ 2 % 256) ∷ (n / 256 ^ 3 % 256) ∷ []) first
    ∙ ap (λ x. a ∷ x ∷ (n / 256 ^ 2 % 256) ∷ (n / 256 ^ 3 % 256) ∷ []) second
    ∙ ap (λ x. a ∷ b ∷ x ∷ (n / 256 ^ 3 % 256) ∷ []) third
    ∙ ap (λ x. a ∷ b ∷ c ∷ x ∷ []) fourth

four_fit : (a b c d : ℕ) (rest : List ℕ) → a < 256 → b < 256 → c < 256 → d < 256
    → little_number 4 (a ∷ b ∷ c ∷ d ∷ rest) < 2 ^ 32
four_fit a b c d rest fa fb fc fd = omega arith

-- the first four of enough bytes
pub record Four (bytes : List ℕ) : Type 0 where
  pub a : ℕ
  pub b : ℕ
  pub c : ℕ
  pub d : ℕ
  pub is : bytes ≡ a ∷ b ∷ c ∷ d ∷ drop 4 bytes
  pub fits_a : a < 256
  pub fits_b : b < 256
  pub fits_c : c < 256
  pub fits_d : d < 256
  pub fits_rest : All IsByte (drop 4 bytes)

four_of : (bytes : List ℕ) → All IsByte bytes → 4 ≤ length bytes → Four bytes
four_of (a ∷ b ∷ c ∷ d ∷ rest) all enough =
    let all_b = All-tail IsByte a (b ∷ c ∷ d ∷ rest) all in
    let all_c = All-tail IsByte b (c ∷ d ∷ rest) all_b in
    let all_d = All-tail IsByte c (d ∷ rest) all_c in
    record {
      a = a;
      b = b;
      c = c;
      d = d;
      is = refl;
      fits_a = All-head IsByte a (b ∷ c ∷ d ∷ rest) all;
      fits_b = All-head IsByte b (c ∷ d ∷ rest) all_b;
      fits_c = All-head IsByte c (d ∷ rest) all_c;
      fits_d = All-head IsByte d rest all_d;
      fits_rest = All-tail IsByte d rest all_d;
    }
four_of [] all enough = absurd (omega arith)
four_of (a ∷ []) all enough = absurd (omega arith)
four_of (a ∷ b ∷ []) all enough = absurd (omega arith)
four_of (a ∷ b ∷ c ∷ []) all enough = absurd (omega arith)

found_two : (offset counted first : ℕ) (tail : List ℕ) → All IsByte (first ∷ tail) → first ≤ 7
    → 2 ≤ length (first ∷ tail) → offset + 2 ≤ LIMIT
    → Found offset counted false (first ∷ tail) (record { block = Flux (ticks_at 0 (first ∷ tail)); bytes = 2 })
found_two offset counted first [] all small enough limit = absurd (omega arith)
found_two offset counted first (low ∷ rest) all small enough limit =
    let fits : low < 256 = All-head IsByte low rest (All-tail IsByte first (low ∷ rest) all) in
    record {
      block = record { within = enough; spelled = inr (inl (first, low, omega arith, refl, refl)); numbers = omega arith; place = refl };
      some = omega arith;
      limit = limit;
    }

found_three : (offset counted first : ℕ) (tail : List ℕ) → All IsByte (first ∷ tail) → first ≡ 12
    → 3 ≤ length (first ∷ tail) → offset + 3 ≤ LIMIT
    → Found offset counted false (first ∷ tail) (record { block = Flux (ticks_at 1 (first ∷ tail)); bytes = 3 })
found_three offset counted first [] all is enough limit = absurd (omega arith)
found_three offset counted first (high ∷ []) all is enough limit = absurd (omega arith)
found_three offset counted first (high ∷ low ∷ rest) all is enough limit =
    let more = All-tail IsByte first (high ∷ low ∷ rest) all in
    let fits_high : high < 256 = All-head IsByte high (low ∷ rest) more in
    let fits_low : low < 256 = All-head IsByte low rest (All-tail IsByte high (low ∷ rest) more) in
    record {
      block = record {
        within = enough;
        spelled = inr (inr (high, low, ap (λ f. f ∷ high ∷ low ∷ []) is, refl));
        numbers = omega arith;
        place = refl;
      };
      some = omega arith;
      limit = limit;
    }

found_nop : (offset counted first : ℕ) (tail : List ℕ) → 8 ≤ first → first ≤ 10
    → first - 7 ≤ length (first ∷ tail) → offset + (first - 7) ≤ LIMIT
    → Found offset counted false (first ∷ tail) (record { block = Nop (first - 7); bytes = first - 7 })
found_nop offset counted first tail low high enough limit =
    let size : first - 7 ≡ suc (first - 8) = omega arith in
    let same : 7 + (first - 7) ≡ first = omega arith in
    record {
      block = record {
        within = enough;
        spelled = (
          take (first - 8) tail,
          omega arith,
          omega (arith, length-take-le (first - 8) tail (omega (arith, enough))),
          ap (λ n. take n (first ∷ tail)) size ∙ ap (λ f. f ∷ take (first - 8) tail) (sym same),
        );
        numbers = (omega arith, omega arith);
        place = refl;
      };
      some = omega arith;
      limit = limit;
    }

found_one_byte : (offset counted first : ℕ) (tail : List ℕ) → first < 256 → 14 ≤ first → offset + 1 ≤ LIMIT
    → Found offset counted false (first ∷ tail) (record { block = Flux first; bytes = 1 })
found_one_byte offset counted first tail fits low limit = record {
  block = record { within = omega arith; spelled = inl (low, fits, refl); numbers = omega arith; place = refl };
  some = omega arith;
  limit = limit;
}

found_overflow : (offset counted first : ℕ) (tail : List ℕ) → first ≡ 11 → offset + 1 ≤ LIMIT
    → Found offset counted false (first ∷ tail) (record { block = Overflow; bytes = 1 })
found_overflow offset counted first tail is limit = record {
  block = record { within = omega arith; spelled = ap (λ f. f ∷ []) is; numbers = tt; place = refl };
  some = omega arith;
  limit = limit;
}

found_in_stream : (offset counted first : ℕ) (tail : List ℕ) → All IsByte (first ∷ tail) → first ≢ 13 → offset + 1 ≤ LIMIT
    → IfPiece (Found offset counted false (first ∷ tail)) (in_stream_piece offset first (first ∷ tail))
found_in_stream offset counted first tail all other limit =
    let P : SpelledBlock → Type 0 = Found offset counted false (first ∷ tail) in
    let fits : first < 256 = All-head IsByte first tail all in
    if_piece_if P (nat_le first 7) _ _
    (λ two. if_piece_within P offset 2 (first ∷ tail) _ (λ enough within.
    found_two offset counted first tail all (grind (arith, nat_tests, two)) enough within))
    (λ not_two. if_piece_if P (nat_le first 10) _ _
    (λ nop. if_piece_within P offset (first - 7) (first ∷ tail) _ (λ enough within.
    found_nop offset counted first tail (grind (arith, nat_tests, not_two)) (grind (arith, nat_tests, nop)) enough within))
    (λ not_nop. if_piece_if P (first == 11) _ _
    (λ overflow. found_overflow offset counted first tail (eqb-true first 11 overflow) limit)
    (λ not_overflow. if_piece_if P (first == 12) _ _
    (λ three. if_piece_within P offset 3 (first ∷ tail) _ (λ enough within.
    found_three offset counted first tail all (eqb-true first 12 three) enough within))
    (λ not_three. found_one_byte offset counted first tail fits
    (let low : 10 < first = grind (arith, nat_tests, not_nop) in
    let a : first ≢ 11 = eqb-false first 11 not_overflow in
    let b : first ≢ 12 = eqb-false first 12 not_three in omega (arith, low, a, b, other)) limit))))

-- the header of an out-of-band block
header_is : (kind s0 s1 wanted w0 w1 : ℕ) (more : List ℕ) → kind ≡ wanted → s0 ≡ w0 → s1 ≡ w1
    → 13 ∷ kind ∷ s0 ∷ s1 ∷ more ≡ 13 ∷ wanted ∷ w0 ∷ w1 ∷ more
header_is kind s0 s1 wanted w0 w1 more k a b =
    ap (λ x. 13 ∷ x ∷ s0 ∷ s1 ∷ more) k ∙ ap (λ x. 13 ∷ wanted ∷ x ∷ s1 ∷ more) a ∙ ap (λ x. 13 ∷ wanted ∷ w0 ∷ x ∷ more) b

-- two numbers after a header
abbrev numbers_behind : ℕ → ℕ → ℕ → List ℕ → List ℕ
numbers_behind kind s0 s1 more = 13 ∷ kind ∷ s0 ∷ s1 ∷ more

spelled_two : (kind s0 s1 wanted : ℕ) (more : List ℕ) (f : Four more) (g : Four (drop 4 more)) → kind ≡ wanted → s0 ≡ 8 → s1 ≡ 0
    → take 12 (numbers_behind kind s0 s1 more)
    ≡ out_of_band wanted 8 ++ little_bytes 4 (little_number 4 more) ++ little_bytes 4 (little_number 4 (drop 4 more))
spelled_two kind s0 s1 wanted more f g k a b =
    let cut : take 8 more ≡ f.a ∷ f.b ∷ f.c ∷ f.d ∷ g.a ∷ g.b ∷ g.c ∷ g.d ∷ [] =
    ap (take 8) f.is ∙ ap (λ l. f.a ∷ f.b ∷ f.c ∷ f.d ∷ take 4 l) g.is in
    let first : little_bytes 4 (little_number 4 more) ≡ f.a ∷ f.b ∷ f.c ∷ f.d ∷ [] =
    ap (λ l. little_bytes 4 (little_number 4 l)) f.is
    ∙ four_bytes f.a f.b f.c f.d (drop 4 more) f.fits_a f.fits_b f.fits_c f.fits_d in
    let second : little_bytes 4 (little_number 4 (drop 4 more)) ≡ g.a ∷ g.b ∷ g.c ∷ g.d ∷ [] =
    ap (λ l. little_bytes 4 (little_number 4 l)) g.is
    ∙ four_bytes g.a g.b g.c g.d (drop 4 (drop 4 more)) g.fits_a g.fits_b g.fits_c g.fits_d in
    ap (λ l. 13 ∷ kind ∷ s0 ∷ s1 ∷ l) cut
    ∙ header_is kind s0 s1 wanted 8 0 (f.a ∷ f.b ∷ f.c ∷ f.d ∷ g.a ∷ g.b ∷ g.c ∷ g.d ∷ []) k a b
    ∙ sym (ap (λ l. out_of_band wanted 8 ++ l ++ little_bytes 4 (little_number 4 (drop 4 more))) first
    ∙ ap (λ l. out_of_band wanted 8 ++ (f.a ∷ f.b ∷ f.c ∷ f.d ∷ []) ++ l) second)

fit_four : (more : List ℕ) (f : Four more) → little_number 4 more < 2 ^ 32
fit_four more f = subst (λ l. little_number 4 l < 2 ^ 32) (sym f.is)
    (four_fit f.a f.b f.c f.d (drop 4 more) f.fits_a f.fits_b f.fits_c f.fits_d)

found_info : (offset counted : ℕ) (ended : Bool) (kind s0 s1 : ℕ) (more : List ℕ) → All IsByte more → kind ≡ 1 → s0 ≡ 8 → s1 ≡ 0
    → 8 ≤ length more → offset + 12 ≤ LIMIT → little_number 4 more ≡ counted
    → Found offset counted ended (numbers_behind kind s0 s1 more)
    (record { block = StreamInfo (little_number 4 more) (little_number 4 (drop 4 more)); bytes = 12 })
found_info offset counted ended kind s0 s1 more all k a b enough limit at =
    let f = four_of more all (omega arith) in
    let g = four_of (drop 4 more) f.fits_rest (omega (arith, length-drop 4 more)) in
    record {
      block = record {
        within = omega arith;
        spelled = spelled_two kind s0 s1 1 more f g k a b;
        numbers = (fit_four more f, fit_four (drop 4 more) g);
        place = at;
      };
      some = omega arith;
      limit = limit;
    }

found_stream_end : (offset counted : ℕ) (ended : Bool) (kind s0 s1 : ℕ) (more : List ℕ) → All IsByte more → kind ≡ 3 → s0 ≡ 8
    → s1 ≡ 0 → 8 ≤ length more → offset + 12 ≤ LIMIT → little_number 4 more ≡ counted → little_number 4 (drop 4 more) ≡ 0
    → Found offset counted ended (numbers_behind kind s0 s1 more)
    (record { block = StreamEnd (little_number 4 more) (little_number 4 (drop 4 more)); bytes = 12 })
found_stream_end offset counted ended kind s0 s1 more all k a b enough limit at good =
    let f = four_of more all (omega arith) in
    let g = four_of (drop 4 more) f.fits_rest (omega (arith, length-drop 4 more)) in
    record {
      block = record {
        within = omega arith;
        spelled = spelled_two kind s0 s1 3 more f g k a b;
        numbers = (fit_four more f, fit_four (drop 4 more) g);
        place = (at, good);
      };
      some = omega arith;
      limit = limit;
    }

spelled_three : (kind s0 s1 : ℕ) (more : List ℕ) (f : Four more) (g : Four (drop 4 more)) (h : Four (drop 4 (drop 4 more)))
    → kind ≡ 2 → s0 ≡ 12 → s1 ≡ 0
    → take 16 (numbers_behind kind s0 s1 more)
    ≡ out_of_band 2 12 ++ little_bytes 4 (little_number 4 more) ++ little_bytes 4 (little_number 4 (drop 4 more))
    ++ little_bytes 4 (little_number 4 (drop 8 more))
spelled_three kind s0 s1 more f g h k a b =
    let twice : drop 4 (drop 4 more) ≡ drop 8 more = drop-drop 4 4 more in
    let cut : take 12 more ≡ f.a ∷ f.b ∷ f.c ∷ f.d ∷ g.a ∷ g.b ∷ g.c ∷ g.d ∷ h.a ∷ h.b ∷ h.c ∷ h.d ∷ [] =
    ap (take 12) f.is ∙ ap (λ l. f.a ∷ f.b ∷ f.c ∷ f.d ∷ take 8 l) g.is
    ∙ ap (λ l. f.a ∷ f.b ∷ f.c ∷ f.d ∷ g.a ∷ g.b ∷ g.c ∷ g.d ∷ take 4 l) h.is in
    let first : little_bytes 4 (little_number 4 more) ≡ f.a ∷ f.b ∷ f.c ∷ f.d ∷ [] =
    ap (λ l. little_bytes 4 (little_number 4 l)) f.is
    ∙ four_bytes f.a f.b f.c f.d (drop 4 more) f.fits_a f.fits_b f.fits_c f.fits_d in
    let second : little_bytes 4 (little_number 4 (drop 4 more)) ≡ g.a ∷ g.b ∷ g.c ∷ g.d ∷ [] =
    ap (λ l. little_bytes 4 (little_number 4 l)) g.is
    ∙ four_bytes g.a g.b g.c g.d (drop 4 (drop 4 more)) g.fits_a g.fits_b g.fits_c g.fits_d in
    let third : little_bytes 4 (little_number 4 (drop 8 more)) ≡ h.a ∷ h.b ∷ h.c ∷ h.d ∷ [] =
    ap (λ l. little_bytes 4 (little_number 4 l)) (sym twice)
    ∙ ap (λ l. little_bytes 4 (little_number 4 l)) h.is
    ∙ four_bytes h.a h.b h.c h.d (drop 4 (drop 4 (drop 4 more))) h.fits_a h.fits_b h.fits_c h.fits_d in
    ap (λ l. 13 ∷ kind ∷ s0 ∷ s1 ∷ l) cut
    ∙ header_is kind s0 s1 2 12 0
    (f.a ∷ f.b ∷ f.c ∷ f.d ∷ g.a ∷ g.b ∷ g.c ∷ g.d ∷ h.a ∷ h.b ∷ h.c ∷ h.d ∷ []) k a b
    ∙ sym (ap (λ l. out_of_band 2 12 ++ l ++ little_bytes 4 (little_number 4 (drop 4 more))
    ++ little_bytes 4 (little_number 4 (drop 8 more))) first
    ∙ ap (λ l. out_of_band 2 12 ++ (f.a ∷ f.b ∷ f.c ∷ f.d ∷ []) ++ l ++ little_bytes 4 (little_number 4 (drop 8 more))) second
    ∙ ap (λ l. out_of_band 2 12 ++ (f.a ∷ f.b ∷ f.c ∷ f.d ∷ []) ++ (g.a ∷ g.b ∷ g.c ∷ g.d ∷ []) ++ l) third)

found_index : (offset counted : ℕ) (ended : Bool) (kind s0 s1 : ℕ) (more : List ℕ) → All IsByte more → kind ≡ 2 → s0 ≡ 12 → s1 ≡ 0
    → 12 ≤ length more → offset + 16 ≤ LIMIT
    → Found offset counted ended (numbers_behind kind s0 s1 more)
    (record { block = Index (little_number 4 more) (little_number 4 (drop 4 more)) (little_number 4 (drop 8 more)); bytes = 16 })
found_index offset counted ended kind s0 s1 more all k a b enough limit =
    let f = four_of more all (omega arith) in
    let g = four_of (drop 4 more) f.fits_rest (omega (arith, length-drop 4 more)) in
    let h = four_of (drop 4 (drop 4 more)) g.fits_rest (omega (arith, length-drop 4 more, length-drop 4 (drop 4 more))) in
    let third : little_number 4 (drop 8 more) < 2 ^ 32 =
    subst (λ l. little_number 4 l < 2 ^ 32) (drop-drop 4 4 more) (fit_four (drop 4 (drop 4 more)) h) in
    record {
      block = record {
        within = omega arith;
        spelled = spelled_three kind s0 s1 more f g h k a b;
        numbers = (fit_four more f, fit_four (drop 4 more) g, third);
        place = tt;
      };
      some = omega arith;
      limit = limit;
    }

found_text : (offset counted : ℕ) (ended : Bool) (kind s0 s1 : ℕ) (more : List ℕ) → s0 < 256 → s1 < 256 → kind ≡ 4
    → 4 + (s0 + 256 * (s1 + 256 * 0)) ≤ length (numbers_behind kind s0 s1 more)
    → offset + (4 + (s0 + 256 * (s1 + 256 * 0))) ≤ LIMIT
    → Found offset counted ended (numbers_behind kind s0 s1 more)
    (record { block = Info (s0 + 256 * (s1 + 256 * 0)); bytes = 4 + (s0 + 256 * (s1 + 256 * 0)) })
found_text offset counted ended kind s0 s1 more fa fb k enough limit =
    let size : ℕ = s0 + 256 * (s1 + 256 * 0) in
    let four : 4 + size ≡ suc (suc (suc (suc size))) = omega arith in
    let long : length (take size more) ≡ size = length-take-le size more (omega (arith, enough)) in
    record {
      block = record {
        within = enough;
        spelled = (
          take size more,
          long,
          ap (λ n. take n (numbers_behind kind s0 s1 more)) four
              ∙ ap (λ x. 13 ∷ x ∷ s0 ∷ s1 ∷ take size more) k
              ∙ ap (λ l. (13 ∷ 4 ∷ []) ++ (l ++ take size more)) (sym (pair_bytes s0 s1 more fa fb)),
        );
        numbers = omega arith;
        place = tt;
      };
      some = omega arith;
      limit = limit;
    }

found_end : (offset counted : ℕ) (ended : Bool) (kind s0 s1 : ℕ) (more : List ℕ) → kind ≡ 13 → s0 ≡ 13 → s1 ≡ 13
    → offset + 4 ≤ LIMIT
    → Found offset counted ended (numbers_behind kind s0 s1 more) (record { block = End; bytes = 4 })
found_end offset counted ended kind s0 s1 more k a b limit = record {
  block = record { within = omega arith; spelled = header_is kind s0 s1 13 13 13 [] k a b; numbers = tt; place = tt };
  some = omega arith;
  limit = limit;
}

size_8 : (s0 s1 : ℕ) → s0 < 256 → (s0 + 256 * (s1 + 256 * 0) == 8) ≡ true → (s0 ≡ 8) × (s1 ≡ 0)
size_8 s0 s1 fits is = let e : s0 + 256 * (s1 + 256 * 0) ≡ 8 = eqb-true _ 8 is in (omega arith, omega arith)

size_12 : (s0 s1 : ℕ) → s0 < 256 → (s0 + 256 * (s1 + 256 * 0) == 12) ≡ true → (s0 ≡ 12) × (s1 ≡ 0)
size_12 s0 s1 fits is = let e : s0 + 256 * (s1 + 256 * 0) ≡ 12 = eqb-true _ 12 is in (omega arith, omega arith)

size_3341 : (s0 s1 : ℕ) → s0 < 256 → (s0 + 256 * (s1 + 256 * 0) == 3341) ≡ true → (s0 ≡ 13) × (s1 ≡ 13)
size_3341 s0 s1 fits is = let e : s0 + 256 * (s1 + 256 * 0) ≡ 3341 = eqb-true _ 3341 is in (omega arith, omega arith)

found_out_of_band : (offset counted : ℕ) (ended : Bool) (kind s0 s1 : ℕ) (more : List ℕ) → s0 < 256 → s1 < 256
    → All IsByte more → offset + 4 ≤ LIMIT
    → IfPiece (Found offset counted ended (numbers_behind kind s0 s1 more))
    (out_of_band_piece offset counted kind (s0 + 256 * (s1 + 256 * 0)) (numbers_behind kind s0 s1 more))
found_out_of_band offset counted ended kind s0 s1 more fa fb all limit =
    let y : List ℕ = numbers_behind kind s0 s1 more in
    let size : ℕ = s0 + 256 * (s1 + 256 * 0) in
    let P : SpelledBlock → Type 0 = Found offset counted ended y in
    if_piece_if P (kind == 1) _ _ (λ k. if_piece_if P (size == 8) _ _
    (λ z. let s = size_8 s0 s1 fa z in if_piece_within P offset 12 y _ (λ enough within.
    if_piece_if P (number_at 4 y == counted) _ _ (λ at.
    found_info offset counted ended kind s0 s1 more all (eqb-true kind 1 k) s.0 s.1 (omega arith) within
    (eqb-true (little_number 4 more) counted at)) (λ _. tt))) (λ _. tt))
    (λ _. if_piece_if P (kind == 2) _ _ (λ k. if_piece_if P (size == 12) _ _
    (λ z. let s = size_12 s0 s1 fa z in if_piece_within P offset 16 y _ (λ enough within.
    found_index offset counted ended kind s0 s1 more all (eqb-true kind 2 k) s.0 s.1 (omega arith) within)) (λ _. tt))
    (λ _. if_piece_if P (kind == 3) _ _ (λ k. if_piece_if P (size == 8) _ _
    (λ z. let s = size_8 s0 s1 fa z in if_piece_within P offset 12 y _ (λ enough within.
    if_piece_if P (number_at 4 y == counted) _ _ (λ at. if_piece_if P (number_at 8 y == 0) _ _ (λ good.
    found_stream_end offset counted ended kind s0 s1 more all (eqb-true kind 3 k) s.0 s.1 (omega arith) within
    (eqb-true (little_number 4 more) counted at) (eqb-true (little_number 4 (drop 4 more)) 0 good))
    (λ _. tt)) (λ _. tt))) (λ _. tt))
    (λ _. if_piece_if P (kind == 4) _ _ (λ k. if_piece_within P offset (4 + size) y _ (λ enough within.
    found_text offset counted ended kind s0 s1 more fa fb (eqb-true kind 4 k) enough within))
    (λ _. if_piece_if P (kind == 13) _ _ (λ k. if_piece_if P (size == 3341) _ _
    (λ z. let s = size_3341 s0 s1 fa z in
    found_end offset counted ended kind s0 s1 more (eqb-true kind 13 k) s.0 s.1 limit) (λ _. tt))
    (λ _. tt)))))

found_header : (offset counted : ℕ) (ended : Bool) (tail : List ℕ) → All IsByte tail
    → IfPiece (Found offset counted ended (13 ∷ tail))
    (needs offset 4 (13 ∷ tail)
    (out_of_band_piece offset counted (slice_index (13 ∷ tail) 1) (little_number 2 (drop 2 (13 ∷ tail))) (13 ∷ tail)))
found_header offset counted ended [] all =
    if_piece_within (Found offset counted ended (13 ∷ [])) offset 4 (13 ∷ []) _ (λ enough _. absurd (omega arith))
found_header offset counted ended (a ∷ []) all =
    if_piece_within (Found offset counted ended (13 ∷ a ∷ [])) offset 4 (13 ∷ a ∷ []) _ (λ enough _. absurd (omega arith))
found_header offset counted ended (a ∷ b ∷ []) all =
    if_piece_within (Found offset counted ended (13 ∷ a ∷ b ∷ [])) offset 4 (13 ∷ a ∷ b ∷ []) _ (λ enough _. absurd (omega arith))
found_header offset counted ended (kind ∷ s0 ∷ s1 ∷ more) all =
    let all_s0 = All-tail IsByte kind (s0 ∷ s1 ∷ more) all in
    let all_s1 = All-tail IsByte s0 (s1 ∷ more) all_s0 in
    if_piece_within (Found offset counted ended (13 ∷ kind ∷ s0 ∷ s1 ∷ more)) offset 4 (13 ∷ kind ∷ s0 ∷ s1 ∷ more) _
    (λ _ within. found_out_of_band offset counted ended kind s0 s1 more (All-head IsByte s0 (s1 ∷ more) all_s0)
    (All-head IsByte s1 more all_s1) (All-tail IsByte s1 more all_s1) within)

found_data : (offset counted : ℕ) (ended : Bool) (first : ℕ) (tail : List ℕ) → All IsByte (first ∷ tail) → first ≢ 13
    → offset + 1 ≤ LIMIT
    → IfPiece (Found offset counted ended (first ∷ tail))
    (if ended then Err DataAfterEnd else in_stream_piece offset first (first ∷ tail))
found_data offset counted true first tail all other limit = tt
found_data offset counted false first tail all other limit = found_in_stream offset counted first tail all other limit

-- what is read as a block is a spelling of it
pub found_at : (offset counted : ℕ) (ended : Bool) (bytes : List ℕ) → All IsByte bytes
    → IfPiece (Found offset counted ended bytes) (piece_at offset counted ended bytes)
found_at offset counted ended [] all =
    if_piece_within (Found offset counted ended []) offset 1 [] _ (λ enough _. absurd (omega arith))
found_at offset counted ended (first ∷ tail) all =
    if_piece_within (Found offset counted ended (first ∷ tail)) offset 1 (first ∷ tail) _ (λ _ limit.
    if_piece_if (Found offset counted ended (first ∷ tail)) (first == 13) _ _
    (λ is. subst (λ f. IfPiece (Found offset counted ended (f ∷ tail))
    (needs offset 4 (f ∷ tail)
    (out_of_band_piece offset counted (slice_index (f ∷ tail) 1) (little_number 2 (drop 2 (f ∷ tail))) (f ∷ tail))))
    (sym (eqb-true first 13 is)) (found_header offset counted ended tail (All-tail IsByte first tail all)))
    (λ other. found_data offset counted ended first tail all (eqb-false first 13 other) limit))

found_from : (P : SpelledBlock → Type 0) (reading : BlockOrFault) (p : SpelledBlock) → IfPiece P reading → reading ≡ Ok p → P p
found_from P reading p holds is = subst (IfPiece P) is holds

pub found_block : (offset counted : ℕ) (ended : Bool) (bytes : List ℕ) (p : SpelledBlock) → All IsByte bytes
    → piece_at offset counted ended bytes ≡ Ok p → Found offset counted ended bytes p
found_block offset counted ended bytes p all is =
    found_from (Found offset counted ended bytes) (piece_at offset counted ended bytes) p (found_at offset counted ended bytes all) is
