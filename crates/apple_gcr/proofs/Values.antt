-- Values that are read from nibbles, one after another.
use Rattle.std.proofs.Common.{◌≡◌, ℕ, zero, suc, ◌+◌, ◌<◌, ◌≤◌, List, [], ◌∷◌, ◌++◌, length, get_or, ap, sym, subst, ◌∙◌, arith, inl, inr, lit<, refl, length-append, add-one, Option, Some, None, IfNone}
use Rattle.std.proofs.lemmas.Bool.{cases_lt}
use Rattle.std.proofs.lemmas.List.{get_or_past}
use Rattle.std.proofs.lemmas.Nat.{xor_comm, xor_lt}
use Rattle.std.proofs.Math.ListN.{get_or-append}
use Rattle.std.proofs.Math.Seq.{get_or-append_seam}
use Rattle.std.specs.Int.Bits.{bit_xor, xor_zero_l}
use Rattle.apple_nibbles.specs.Nibbles.{nibble}
use Rattle.apple_nibbles.specs.lemmas.NibbleLaws.{one_value, xor-undo}
use Rattle.apple_gcr.specs.SixAndTwo.{AreCoded, code_at}
use Rattle.apple_gcr.specs.lemmas.ValueLaws.{AreSixBits, FirstStand, code-fits, same_value}

-- the first values, so many, the last of which is given
pub record AreRead (bytes : ℕ → ℕ) (values : List ℕ) (count last : ℕ) : Type 0 where
  pub size : length values ≡ count
  pub fit : AreSixBits values
  pub is_last : last ≡ get_or (0 ∷ values) count 0
  pub last_fits : last < 64
  pub stand : FirstStand bytes values count

pub none-read : (bytes : ℕ → ℕ) → AreRead bytes [] 0 0
none-read bytes = record {
  size = refl;
  fit = λ k. lit< tt;
  is_last = refl;
  last_fits = lit< tt;
  stand = λ k within. absurd (omega arith);
}

-- what stood before one more value
before-more : (values : List ℕ) (value k : ℕ) → k < length values → code_at (values ++ value ∷ []) k ≡ code_at values k
before-more values value zero within =
    ap (λ (n : ℕ). bit_xor n 0) (get_or-append values (value ∷ []) 0 0 within)
before-more values value (suc k) within =
    ap (λ (n : ℕ). bit_xor n (get_or (values ++ value ∷ []) k 0)) (get_or-append values (value ∷ []) 0 (suc k) within)
    ∙ ap (bit_xor (get_or values (suc k) 0)) (get_or-append values (value ∷ []) 0 k (omega arith))

last-more : (values : List ℕ) (value : ℕ) → code_at (values ++ value ∷ []) (length values) ≡ bit_xor value (get_or (0 ∷ values) (length values) 0)
last-more values value =
    let within : length values < length (0 ∷ values) = omega arith in
    ap (λ (n : ℕ). bit_xor n (get_or (0 ∷ (values ++ value ∷ [])) (length values) 0)) (get_or-append_seam values value [] 0)
    ∙ ap (bit_xor value) (get_or-append (0 ∷ values) (value ∷ []) 0 (length values) within)

fit-more : (values : List ℕ) (value : ℕ) → AreSixBits values → value < 64 → AreSixBits (values ++ value ∷ [])
fit-more values value fit low k =
    elim (cases_lt k (length values)) [
      | inl within ↦ subst (λ (n : ℕ). n < 64) (sym (get_or-append values (value ∷ []) 0 k within)) (fit k)
      | inr above ↦ elim (cases_lt (length values) k) [
        | inl past ↦
            let beyond : length (values ++ value ∷ []) ≤ k = omega (arith, length-append values (value ∷ [])) in
            subst (λ (n : ℕ). n < 64) (sym (get_or_past (values ++ value ∷ []) k 0 beyond)) (lit< tt)
        | inr below ↦
            let here : length values ≡ k = omega arith in
            subst (λ (n : ℕ). get_or (values ++ value ∷ []) n 0 < 64) here
            (subst (λ (n : ℕ). n < 64) (sym (get_or-append_seam values value [] 0)) low)
      ]
    ]

-- one more
pub more-read : (bytes : ℕ → ℕ) (values : List ℕ) (count last code : ℕ) → AreRead bytes values count last
    → code < 64 → nibble code ≡ bytes count
    → AreRead bytes (values ++ bit_xor last code ∷ []) (count + 1) (bit_xor last code)
more-read bytes values count last code read low is =
    let value = bit_xor last code in
    let fits : value < 64 = xor_lt 6 last code read.last_fits low in
    let more = values ++ value ∷ [] in
    let grown = length-append values (value ∷ []) in
    record {
      size = omega (arith, grown, read.size);
      fit = fit-more values value read.fit fits;
      is_last = sym (ap (λ (n : ℕ). get_or (0 ∷ more) n 0) (add-one count)
          ∙ ap (λ (n : ℕ). get_or more n 0) (sym read.size) ∙ get_or-append_seam values value [] 0);
      last_fits = fits;
      stand = λ k within. elim (cases_lt k count) [
        | inl before ↦ read.stand k before ∙ ap nibble (sym (before-more values value k (omega (arith, read.size, before))))
        | inr here ↦
            let e : count ≡ k = omega arith in
            subst (λ (n : ℕ). bytes n ≡ nibble (code_at more n)) e
            (sym is
            ∙ ap nibble
            (sym (ap (code_at more) (sym read.size) ∙ last-more values value
            ∙ ap (bit_xor value) (ap (λ (n : ℕ). get_or (0 ∷ values) n 0) read.size ∙ sym read.is_last)
            ∙ ap (λ (n : ℕ). bit_xor n last) (xor_comm last code) ∙ xor-undo code last)))
      ];
    }

-- a byte that is no nibble stands where values' nibbles do not
pub no_values : (bytes : ℕ → ℕ) (k : ℕ) (values : List ℕ) → k < 343
    → ((code : ℕ) → code < 64 → ¬ (nibble code ≡ bytes k)) → ¬ AreCoded bytes values
no_values bytes k values within none coded =
    none (code_at values k) (code-fits values k coded.fit) (sym (coded.stand k within))

-- the check value is the last value
check_code : (values : List ℕ) (last : ℕ) → length values ≡ 342 → last ≡ get_or (0 ∷ values) 342 0 → code_at values 342 ≡ last
check_code values last size is =
    ap (λ (n : ℕ). bit_xor n (get_or (0 ∷ values) 342 0)) (get_or_past values 342 0 (omega (arith, size)))
    ∙ xor_zero_l (get_or (0 ∷ values) 342 0) ∙ sym is

-- all values with the check value
pub all-read : (bytes : ℕ → ℕ) (values : List ℕ) (last check : ℕ) → AreRead bytes values 342 last
    → nibble check ≡ bytes 342 → check ≡ last → AreCoded bytes values
all-read bytes values last check read is same = record {
  count = read.size;
  fit = read.fit;
  stand = λ k within. elim (cases_lt k 342) [
    | inl before ↦ read.stand k before
    | inr here ↦
        let e : 342 ≡ k = omega arith in
        subst (λ (n : ℕ). bytes n ≡ nibble (code_at values n)) e
        (sym is ∙ ap nibble (same ∙ sym (check_code values last read.size read.is_last)))
  ];
}

-- another check value
pub wrong_check : (bytes : ℕ → ℕ) (values others : List ℕ) (last check : ℕ) → AreRead bytes values 342 last
    → check < 64 → nibble check ≡ bytes 342 → AreCoded bytes others → check ≡ last
wrong_check bytes values others last check read low is coded =
    let code : check ≡ code_at others 342 =
    one_value check (code_at others 342) low (code-fits others 342 coded.fit) (is ∙ coded.stand 342 (lit< tt)) in
    let same : get_or others 341 0 ≡ get_or values 341 0 =
    same_value bytes others values 342 coded.fit read.fit (λ k within. coded.stand k (omega arith)) read.stand 341 (lit< tt) in
    code ∙ check_code others (get_or others 341 0) coded.count refl ∙ same ∙ sym read.is_last

-- what holds whether or not there is a value
pub in_any_case : {X P : Type 0} (found : Option X) → P → IfNone found P
in_any_case None p = p
in_any_case (Some x) p = tt

-- and what follows where there is none
pub none-also : {X P Q : Type 0} (found : Option X) → IfNone found P → (P → Q) → IfNone found Q
none-also None p then_q = then_q p
none-also (Some x) p then_q = tt
