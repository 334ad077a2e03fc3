-- The numbers that a word writes are those that are read from its digits.
use Rattle.std.specs.Prelude.{◌≡◌, ℕ, ◌<◌, ◌^◌, ◌&&◌, Bool, true, false, cond, not, take, List, [], ◌∷◌, ◌++◌, decimal, drop, find, is_some, length, map, nat_eq, nat_lt, Option, Some, None, IfNone, IfSome, refl, unwrap_or}
use Rattle.std.specs.Char.{digit_value}
use Rattle.std.specs.List.{onto_first, slice_split}
use Rattle.std.specs.Str.{bytes_eq}
use Rattle.std.specs.Str.Parse.{AllDigits, digits_value}
use Rattle.std.proofs.Common.{ap, arith, inl, inr, sym, ◌∙◌}
use Rattle.std.proofs.lemmas.Bool.{and_from, and_parts, eq-eqb, eqb-true, lt-ltb, ltb-true, or_cases, or_left, or_right}
use Rattle.std.proofs.lemmas.Fmt.{decimal_is_IsNumeral}
use Rattle.std.proofs.lemmas.List.Splits.{slice_split-cons_no, slice_split-cons_yes}
use Rattle.std.proofs.lemmas.Slice.Eq.{bytes_eq-Decides}
use Rattle.ibm_disks.specs.Words.{AreShort, EndsWith, IsWordOf, density_word, rate_word}
use Rattle.ibm_disks.specs.declared.rate.Rate.{Rate}
use Rattle.ibm_disks.specs.declared.rate.Rate.TheVariants.{Double, High, HighAt360, Single, SingleAt360}
use Rattle.ibm_disks.specs.declared.word.DiskNumbers.{DiskNumbers}
use Rattle.flux_help.specs.WrittenNumbers.{are_short, is_no_digit, numbers_as, numbers_in, rate_front, rates, read_at, word_with, writes, written_numbers}

-- digits, and what ends them
digit-no : (c : ℕ) → digit_value c < 10 → is_no_digit c ≡ false
digit-no c is = ap not (lt-ltb _ _ is)

digits-end : (ds : List ℕ) → AllDigits 10 ds → (stop : ℕ) → is_no_digit stop ≡ true → (rest : List ℕ)
    → slice_split is_no_digit (ds ++ stop ∷ rest) ≡ ds ∷ slice_split is_no_digit rest
digits-end [] all stop ends rest = slice_split-cons_yes is_no_digit stop rest ends
digits-end (c ∷ cs) all stop ends rest =
    slice_split-cons_no is_no_digit c (cs ++ stop ∷ rest) (digit-no c all.0) ∙ ap (onto_first c) (digits-end cs all.1 stop ends rest)

digits-last : (ds : List ℕ) → AllDigits 10 ds → slice_split is_no_digit ds ≡ ds ∷ []
digits-last [] all = refl
digits-last (c ∷ cs) all = slice_split-cons_no is_no_digit c cs (digit-no c all.0) ∙ ap (onto_first c) (digits-last cs all.1)

module _ (m : ℕ) (small : m < 10000) where
  wide : m < 2 ^ 64
  wide = omega (arith, small)

  number-end : (stop : ℕ) → is_no_digit stop ≡ true → (rest : List ℕ) → numbers_in (decimal m ++ stop ∷ rest) ≡ m ∷ numbers_in rest
  number-end stop ends rest =
      let is = decimal_is_IsNumeral m wide in
      ap (map (digits_value 10)) (digits-end (decimal m) is.0.1 stop ends rest) ∙ ap (λ (n : ℕ). n ∷ numbers_in rest) is.1

  number-last : numbers_in (decimal m) ≡ m ∷ []
  number-last =
      let is = decimal_is_IsNumeral m wide in
      ap (map (digits_value 10)) (digits-last (decimal m) is.0.1) ∙ ap (λ (n : ℕ). n ∷ []) is.1

-- how words of a rate begin
front-is : (rate : Rate) (rest : List ℕ) → rate_front rate ++ rest ≡ density_word rate ++ 45 ∷ (rate_word rate ++ 45 ∷ rest)
front-is Double rest = refl
front-is High rest = refl
front-is HighAt360 rest = refl
front-is Single rest = refl
front-is SingleAt360 rest = refl

behind-is : (rate : Rate) (rest : List ℕ) → drop (length (rate_front rate)) (rate_front rate ++ rest) ≡ rest
behind-is Double rest = refl
behind-is High rest = refl
behind-is HighAt360 rest = refl
behind-is Single rest = refl
behind-is SingleAt360 rest = refl

-- the rate of a word that begins with it
abbrev rate_in : List ℕ → Option Rate
rate_in word = find (λ rate. bytes_eq (take (length (rate_front rate)) word) (rate_front rate)) rates

rate-is : (rate : Rate) (rest : List ℕ) → rate_in (rate_front rate ++ rest) ≡ Some rate
rate-is Double rest = refl
rate-is High rest = refl
rate-is HighAt360 rest = refl
rate-is Single rest = refl
rate-is SingleAt360 rest = refl

module _ (n : DiskNumbers) (short : AreShort n) where
  -- three numbers and what follows
  three : (last : List ℕ)
      → numbers_in (decimal n.cylinders ++ 120 ∷ (decimal n.heads ++ 120 ∷ (decimal n.sectors ++ 120 ∷ last)))
      ≡ n.cylinders ∷ n.heads ∷ n.sectors ∷ numbers_in last
  three last =
      number-end n.cylinders short.cylinders 120 refl (decimal n.heads ++ 120 ∷ (decimal n.sectors ++ 120 ∷ last))
      ∙ ap (λ (rest : List ℕ). n.cylinders ∷ rest) (number-end n.heads short.heads 120 refl (decimal n.sectors ++ 120 ∷ last))
      ∙ ap (λ (rest : List ℕ). n.cylinders ∷ n.heads ∷ rest) (number-end n.sectors short.sectors 120 refl last)

  -- the numbers that are read of a word with these last
  read : (last : List ℕ) → read_at (word_with n last) n.rate ≡ numbers_as n.rate (n.cylinders ∷ n.heads ∷ n.sectors ∷ numbers_in last)
  read last =
      ap (λ (text : List ℕ). numbers_as n.rate (numbers_in text)) (behind-is n.rate (decimal n.cylinders ++ 120 ∷ (decimal n.heads ++ 120 ∷ (decimal n.sectors ++ 120 ∷ last))))
      ∙ ap (numbers_as n.rate) (three last)

  ends : (last : List ℕ) → EndsWith last n.sector_bytes n.first_sector → read_at (word_with n last) n.rate ≡ n
  ends last (inl both) =
      ap (λ (text : List ℕ). read_at (word_with n text) n.rate) both
      ∙ read (decimal n.sector_bytes ++ 64 ∷ decimal n.first_sector)
      ∙ ap (λ (rest : List ℕ). numbers_as n.rate (n.cylinders ∷ n.heads ∷ n.sectors ∷ rest))
      (number-end n.sector_bytes short.sector_bytes 64 refl (decimal n.first_sector) ∙ ap (λ (rest : List ℕ). n.sector_bytes ∷ rest) (number-last n.first_sector short.first_sector))
  ends last (inr one) =
      ap (λ (text : List ℕ). read_at (word_with n text) n.rate) one.0
      ∙ read (decimal n.sector_bytes)
      ∙ ap (λ (rest : List ℕ). numbers_as n.rate (n.cylinders ∷ n.heads ∷ n.sectors ∷ rest)) (number-last n.sector_bytes short.sector_bytes)
      ∙ ap (λ (first : ℕ). record n { first_sector = first }) (sym one.1)

  shorts : are_short n ≡ true
  shorts =
      and_from _ _ (and_from _ _ (and_from _ _ (and_from _ _ (lt-ltb _ _ short.cylinders) (lt-ltb _ _ short.heads)) (lt-ltb _ _ short.sectors)) (lt-ltb _ _ short.sector_bytes))
      (lt-ltb _ _ short.first_sector)

  module _ (word : List ℕ) (is : IsWordOf word n) where
    -- the word, with what ends it
    the_word : word ≡ word_with n is.behind.behind_sectors
    the_word =
        is.is ∙ sym (front-is n.rate is.rest)
        ∙ ap (λ (rest : List ℕ). rate_front n.rate ++ rest)
        (is.behind.cylinders
        ∙ ap (λ (rest : List ℕ). decimal n.cylinders ++ 120 ∷ rest) (is.behind.heads ∙ ap (λ (rest : List ℕ). decimal n.heads ++ 120 ∷ rest) is.behind.sectors))

    is_written : EndsWith is.behind.behind_sectors n.sector_bytes n.first_sector → writes word n ≡ true
    is_written (inl both) =
        or_left _ _ ((bytes_eq-Decides _ _).1 (the_word ∙ ap (word_with n) both))
    is_written (inr one) =
        or_right _ _ (and_from _ _ (eq-eqb _ _ one.1) ((bytes_eq-Decides _ _).1 (the_word ∙ ap (word_with n) one.0)))

    -- and read at its rate it is these numbers, as at no other
    reads : read_at word n.rate ≡ n
    reads = ap (λ (w : List ℕ). read_at w n.rate) the_word ∙ ends is.behind.behind_sectors is.behind.ends

    rated : rate_in word ≡ Some n.rate
    rated = ap rate_in the_word ∙ rate-is n.rate (decimal n.cylinders ++ 120 ∷ (decimal n.heads ++ 120 ∷ (decimal n.sectors ++ 120 ∷ is.behind.behind_sectors)))

    passes : (are_short n && writes word n) ≡ true
    passes = and_from _ _ shorts (is_written is.behind.ends)

-- what is read of a word is what it writes
shorts-are : (n : DiskNumbers) → are_short n ≡ true → AreShort n
shorts-are n is =
    let e = and_parts (nat_lt n.cylinders 10000 && nat_lt n.heads 10000 && nat_lt n.sectors 10000 && nat_lt n.sector_bytes 10000) (nat_lt n.first_sector 10000) is in
    let d = and_parts (nat_lt n.cylinders 10000 && nat_lt n.heads 10000 && nat_lt n.sectors 10000) (nat_lt n.sector_bytes 10000) e.0 in
    let c = and_parts (nat_lt n.cylinders 10000 && nat_lt n.heads 10000) (nat_lt n.sectors 10000) d.0 in
    let b = and_parts (nat_lt n.cylinders 10000) (nat_lt n.heads 10000) c.0 in record {
      cylinders = ltb-true _ _ b.0;
      heads = ltb-true _ _ b.1;
      sectors = ltb-true _ _ c.1;
      sector_bytes = ltb-true _ _ d.1;
      first_sector = ltb-true _ _ e.1;
    }

word-of : (word : List ℕ) (n : DiskNumbers) (last : List ℕ) → EndsWith last n.sector_bytes n.first_sector → word ≡ word_with n last → IsWordOf word n
word-of word n last ends is = record {
  rest = decimal n.cylinders ++ 120 ∷ (decimal n.heads ++ 120 ∷ (decimal n.sectors ++ 120 ∷ last));
  is = is ∙ front-is n.rate (decimal n.cylinders ++ 120 ∷ (decimal n.heads ++ 120 ∷ (decimal n.sectors ++ 120 ∷ last)));
  behind = record {
    same = refl;
    behind_cylinders = decimal n.heads ++ 120 ∷ (decimal n.sectors ++ 120 ∷ last);
    cylinders = refl;
    behind_heads = decimal n.sectors ++ 120 ∷ last;
    heads = refl;
    behind_sectors = last;
    sectors = refl;
    ends = ends;
  };
}

writes-is : (word : List ℕ) (n : DiskNumbers) → writes word n ≡ true → IsWordOf word n
writes-is word n is =
    elim (or_cases (bytes_eq word (word_with n (decimal n.sector_bytes ++ 64 ∷ decimal n.first_sector))) (nat_eq n.first_sector 1 && bytes_eq word (word_with n (decimal n.sector_bytes))) is) [
      | inl long ↦ word-of word n (decimal n.sector_bytes ++ 64 ∷ decimal n.first_sector) (inl refl) ((bytes_eq-Decides _ _).0 long)
      | inr left_out ↦ (
          let parts = and_parts (nat_eq n.first_sector 1) (bytes_eq word (word_with n (decimal n.sector_bytes))) left_out in
          word-of word n (decimal n.sector_bytes) (inr (refl, eqb-true _ _ parts.0)) ((bytes_eq-Decides _ _).0 parts.1))
    ]

-- what is found passed its test, and what passes it is found
passed-or : {X : Type 0} (test : X → Bool) (x : X) (o : Option X) (b : Bool) → test x ≡ b → IfSome o (λ y. test y ≡ true) → IfSome (cond b (Some x) o) (λ y. test y ≡ true)
passed-or test x o true is others = is
passed-or test x o false is others = others

found-passes : {X : Type 0} (test : X → Bool) (xs : List X) → IfSome (find test xs) (λ x. test x ≡ true)
found-passes test [] = tt
found-passes test (x ∷ xs) = passed-or test x (find test xs) (test x) refl (found-passes test xs)

later : {X : Type 0} (b : Bool) (x : X) (o : Option X) → is_some o ≡ true → is_some (cond b (Some x) o) ≡ true
later true x o is = refl
later false x o is = is

found-some : {X : Type 0} (test : X → Bool) (xs ys : List X) (x : X) → test x ≡ true → is_some (find test (xs ++ x ∷ ys)) ≡ true
found-some test [] ys x is = ap (λ (b : Bool). is_some (cond b (Some x) (find test ys))) is
found-some test (y ∷ xs) ys x is = later (test y) y (find test (xs ++ x ∷ ys)) (found-some test xs ys x is)

at-rate : {X : Type 0} (f : Rate → X) (test : X → Bool) (rate : Rate) → test (f rate) ≡ true → is_some (find test (map f rates)) ≡ true
at-rate f test Double is = found-some test [] (f High ∷ f HighAt360 ∷ f Single ∷ f SingleAt360 ∷ []) (f Double) is
at-rate f test High is = found-some test (f Double ∷ []) (f HighAt360 ∷ f Single ∷ f SingleAt360 ∷ []) (f High) is
at-rate f test HighAt360 is = found-some test (f Double ∷ f High ∷ []) (f Single ∷ f SingleAt360 ∷ []) (f HighAt360) is
at-rate f test Single is = found-some test (f Double ∷ f High ∷ f HighAt360 ∷ []) (f SingleAt360 ∷ []) (f Single) is
at-rate f test SingleAt360 is = found-some test (f Double ∷ f High ∷ f HighAt360 ∷ f Single ∷ []) [] (f SingleAt360) is

-- a word writes one disk's numbers
one-written : (word : List ℕ) (m n : DiskNumbers) → AreShort m → AreShort n → IsWordOf word m → IsWordOf word n → m ≡ n
one-written word m n short_m short_n is_m is_n =
    let same : m.rate ≡ n.rate = ap (λ (o : Option Rate). unwrap_or o m.rate) (sym (rated m short_m word is_m) ∙ rated n short_n word is_n) in
    sym (reads m short_m word is_m) ∙ ap (read_at word) same ∙ reads n short_n word is_n

-- so a search that finds what a word writes finds this
pub numbers-are : (word : List ℕ) (o : Option DiskNumbers) → IfSome o (IsWordOf word) → IfSome o AreShort → IfNone o ((n : DiskNumbers) → AreShort n → ¬ IsWordOf word n)
    → o ≡ written_numbers word
numbers-are word o is short none = by o (written_numbers word) is short none (found-passes test (map (read_at word) rates)) found
  where
    test : DiskNumbers → Bool
    test n = are_short n && writes word n

    found : IfSome o (λ n. is_some (written_numbers word) ≡ true)
    found = at o is short
      where
        at : (p : Option DiskNumbers) → IfSome p (IsWordOf word) → IfSome p AreShort → IfSome p (λ n. is_some (written_numbers word) ≡ true)
        at None is short = tt
        at (Some n) is short = at-rate (read_at word) test n.rate (ap test (reads n short word is) ∙ passes n short word is)

    by : (p q : Option DiskNumbers) → IfSome p (IsWordOf word) → IfSome p AreShort → IfNone p ((n : DiskNumbers) → AreShort n → ¬ IsWordOf word n)
        → IfSome q (λ m. test m ≡ true) → IfSome p (λ n. is_some q ≡ true) → p ≡ q
    by None None is short none passed has = refl
    by None (Some m) is short none passed has =
        let parts = and_parts (are_short m) (writes word m) passed in
        absurd (none m (shorts-are m parts.0) (writes-is word m parts.1))
    by (Some n) None is short none passed has = absurd (cc)
    by (Some n) (Some m) is short none passed has =
        let parts = and_parts (are_short m) (writes word m) passed in
        ap Some (one-written word n m short (shorts-are m parts.0) is (writes-is word m parts.1))
