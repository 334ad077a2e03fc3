-- Texts that are split at their first stop, and decimal numbers in them.
use Rattle.std.specs.Prelude.{◌≡◌, ◌≢◌, ℕ, zero, suc, ◌<◌, ◌≤◌, ◌^◌, List, [], ◌∷◌, ◌++◌, length, take, drop, get_or, decimal, Option, Some, None, IfSome, IfNone, refl}
use Rattle.std.specs.Str.Parse.{AllDigits, digits_value}
use Rattle.std.proofs.Common.{ap, sym, subst, ◌∙◌, arith}
use Rattle.std.proofs.lemmas.Fmt.{decimal-digits_value, decimal_digit, decimal_injective, decimal_is_IsNumeral, decimal_nonempty, first_decimal, length-decimal-le}
use Rattle.std.proofs.lemmas.Str.Parse.{digits_value_short, numerals_by_value, tells_digits}
use Rattle.ibm_disks.specs.declared.rate.Rate.{Rate}
use Rattle.ibm_disks.specs.declared.rate.Rate.TheVariants.{Double, High, HighAt360, Single, SingleAt360}
use Rattle.ibm_disks.specs.Words.{HasNo, density_word, rate_word}

-- one byte more that is no stop
pub no-more : (stop : ℕ) (text : List ℕ) (i : ℕ) → i < length text → get_or text i 0 ≢ stop → HasNo stop (take i text) → HasNo stop (take (suc i) text)
no-more stop [] i within other before = absurd (omega (arith, within))
no-more stop (byte ∷ bytes) zero within other before = (other, tt)
no-more stop (byte ∷ bytes) (suc i) within other before = (before.0, no-more stop bytes i (omega (arith, within)) other before.1)

-- one that has none
pub no-split : (stop : ℕ) (text front rest : List ℕ) → HasNo stop text → text ≢ front ++ stop ∷ rest
no-split stop text front rest without same = no_stop front (subst (HasNo stop) same without)
  where
    no_stop : (some : List ℕ) → ¬ HasNo stop (some ++ stop ∷ rest)
    no_stop [] has = has.0 refl
    no_stop (byte ∷ bytes) has = no_stop bytes has.1

-- the first stop is at one place
pub one-split : (stop : ℕ) (front rest front' rest' : List ℕ) → HasNo stop front → HasNo stop front' → front ++ stop ∷ rest ≡ front' ++ stop ∷ rest'
    → (front ≡ front') × (rest ≡ rest')
one-split stop [] rest [] rest' first_without second_without same = (refl, ap (drop 1) same)
one-split stop [] rest (byte ∷ front') rest' first_without second_without same = absurd (second_without.0 (sym (ap (λ (l : List ℕ). get_or l 0 0) same)))
one-split stop (byte ∷ front) rest [] rest' first_without second_without same = absurd (first_without.0 (ap (λ (l : List ℕ). get_or l 0 0) same))
one-split stop (byte ∷ front) rest (byte' ∷ front') rest' first_without second_without same =
    let first : byte ≡ byte' = ap (λ (l : List ℕ). get_or l 0 0) same in
    let others = one-split stop front rest front' rest' first_without.1 second_without.1 (ap (drop 1) same) in
    (ap (λ (b : ℕ). b ∷ front) first ∙ ap (λ (l : List ℕ). byte' ∷ l) others.0, others.1)

-- digits are no letters
digits-no : (stop : ℕ) → 57 < stop → (digits : List ℕ) → AllDigits 10 digits → HasNo stop digits
digits-no stop high [] all = tt
digits-no stop high (c ∷ cs) all =
    let parts = tells_digits.parts c cs all in
    (λ same. omega (arith, parts.0.1, same, high), digits-no stop high cs parts.1)

module _ (n : ℕ) (small : n < 10000) where
  wide : n < 2 ^ 64
  wide = omega (arith, small)

  pub decimal-no : (stop : ℕ) → 57 < stop → HasNo stop (decimal n)
  decimal-no stop high = digits-no stop high (decimal n) (decimal_is_IsNumeral n wide).0.1

  pub decimal-digits : AllDigits 10 (decimal n)
  decimal-digits = (decimal_is_IsNumeral n wide).0.1

  pub decimal-some : 0 < length (decimal n)
  decimal-some = decimal_nonempty n wide

  pub decimal-few : length (decimal n) ≤ 4
  decimal-few = length-decimal-le 4 n (omega arith) (omega (arith, small)) wide

-- no number but 0 begins with a zero
pub decimal-first : (n : ℕ) → n < 10000 → get_or (decimal n) 0 0 ≡ 48 → length (decimal n) ≡ 1
decimal-first zero small is = ap length (decimal_digit 0 (omega arith))
decimal-first (suc n) small is = absurd (let more = first_decimal (suc n) (omega arith) (omega (arith, small)) in omega (arith, more, is))

pub decimal-one : (m n : ℕ) → m < 10000 → n < 10000 → decimal m ≡ decimal n → m ≡ n
decimal-one m n low low' same = decimal_injective m n (omega (arith, low)) (omega (arith, low')) same

-- what one to four digits write
pub digits-write : (text : List ℕ) → AllDigits 10 text → 0 < length text → length text ≤ 4 → (get_or text 0 0 ≡ 48 → length text ≡ 1)
    → (digits_value 10 text < 10000) × (text ≡ decimal (digits_value 10 text))
digits-write text digits some few zeros =
    let numerals = numerals_by_value (AllDigits 10) tells_digits in
    let small : digits_value 10 text < 10000 = digits_value_short numerals text 4 digits few in
    (small, sym (decimal-digits_value numerals text digits some zeros (omega (arith, small))))

module _ (text : List ℕ) where
  -- the number that is read is the one that the text writes, and none where it writes none
  pub some-number : (o : Option ℕ) → IfSome o (λ n. AllDigits 10 text × (n ≡ digits_value 10 text)) → 0 < length text → length text ≤ 4
      → (get_or text 0 0 ≡ 48 → length text ≡ 1) → IfSome o (λ n. (n < 10000) × (text ≡ decimal n))
  some-number None is some few zeros = tt
  some-number (Some n) is some few zeros =
      let written = digits-write text is.0 some few zeros in
      (omega (arith, written.0, is.1), written.1 ∙ ap decimal (sym is.1))

  pub none-number : (o : Option ℕ) → IfNone o (¬ AllDigits 10 text) → IfNone o ((n : ℕ) → n < 10000 → text ≢ decimal n)
  none-number None none = λ n small is. none (subst (AllDigits 10) (sym is) (decimal-digits n small))
  none-number (Some n) none = tt

-- no dash stands in the words of a rate
pub density-no : (rate : Rate) → HasNo 45 (density_word rate)
density-no Double = ((λ same. omega (arith, same)), ((λ same. omega (arith, same)), ((λ same. omega (arith, same)), tt)))
density-no High = ((λ same. omega (arith, same)), ((λ same. omega (arith, same)), ((λ same. omega (arith, same)), tt)))
density-no HighAt360 = ((λ same. omega (arith, same)), ((λ same. omega (arith, same)), ((λ same. omega (arith, same)), tt)))
density-no Single = ((λ same. omega (arith, same)), ((λ same. omega (arith, same)), tt))
density-no SingleAt360 = ((λ same. omega (arith, same)), ((λ same. omega (arith, same)), tt))

pub rate-no : (rate : Rate) → HasNo 45 (rate_word rate)
rate-no Double = ((λ same. omega (arith, same)), ((λ same. omega (arith, same)), tt))
rate-no High = ((λ same. omega (arith, same)), ((λ same. omega (arith, same)), tt))
rate-no HighAt360 = ((λ same. omega (arith, same)), ((λ same. omega (arith, same)), ((λ same. omega (arith, same)), ((λ same. omega (arith, same)), ((λ same. omega (arith, same)), tt)))))
rate-no Single = ((λ same. omega (arith, same)), ((λ same. omega (arith, same)), tt))
rate-no SingleAt360 = ((λ same. omega (arith, same)), ((λ same. omega (arith, same)), ((λ same. omega (arith, same)), tt)))
