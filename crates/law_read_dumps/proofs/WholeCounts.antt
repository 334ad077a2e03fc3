-- Where no names with whole data are counted, no header that was noted has any.
use Rattle.std.specs.Prelude.{◌≡◌, ◌<◌, ℕ, suc, ◌+◌, Bool, true, false, cond, count_by, get_or, length, List, [], ◌∷◌, sum_by, refl}
use Rattle.std.specs.List.{list_any}
use Rattle.std.proofs.Common.{◌∙◌, arith, sym}
use Rattle.std.proofs.lemmas.Bool.{or_from, or_parts}
use Rattle.std.proofs.lemmas.List.Sums.{get_or-le-sum_by, sum_by-cons}
use Rattle.flux_engine.specs.Counts.{whole_count, whole_names_of}
use Rattle.flux_engine.specs.lemmas.Each.{Each}
use Rattle.turn_merge.specs.Others.{DataAreKnown, NotedOther, has_data, has_untold, others_over}
use Rattle.law_read_dumps.proofs.OtherData.{IsBare}

module _ {X : Type 0} (p : X → Bool) where
  abbrev Fails : X → Type 0
  Fails x = p x ≡ false

  any-none : (xs : List X) → list_any p xs ≡ false → Each Fails xs
  any-none [] none = tt
  any-none (x ∷ xs) none = (let both = or_parts (p x) (list_any p xs) none in (both.0, any-none xs both.1))

  none-any : (xs : List X) → Each Fails xs → list_any p xs ≡ false
  none-any [] all = refl
  none-any (x ∷ xs) all = or_from (p x) (list_any p xs) all.0 (none-any xs all.1)

  one_less : (b : Bool) (rest : ℕ) → cond b 1 0 + rest ≡ 0 → (b ≡ false) × (rest ≡ 0)
  one_less true rest none = absurd (omega (arith, none))
  one_less false rest none = (refl, omega (arith, none))

  none_more : (b : Bool) (rest : ℕ) → b ≡ false → rest ≡ 0 → cond b 1 0 + rest ≡ 0
  none_more true rest fails none = absurd (cc)
  none_more false rest fails none = omega (arith, none)

  count-none : (xs : List X) → count_by p xs ≡ 0 → Each Fails xs
  count-none [] none = tt
  count-none (x ∷ xs) none =
      let both = one_less (p x) (count_by p xs) (sym (sum_by-cons (λ (y : X). cond (p y) 1 0) x xs) ∙ none) in
      (both.0, count-none xs both.1)

  none-count : (xs : List X) → Each Fails xs → count_by p xs ≡ 0
  none-count [] all = refl
  none-count (x ∷ xs) all = sum_by-cons (λ (y : X). cond (p y) 1 0) x xs ∙ none_more (p x) (count_by p xs) all.0 (none-count xs all.1)

-- a sum of nothing
module _ {X : Type 0} (f : X → ℕ) where
  pub sum-none : (xs : List X) (d : X) → sum_by f xs ≡ 0 → (n : ℕ) → n < length xs → f (get_or xs n d) ≡ 0
  sum-none xs d none n low = omega (arith, none, get_or-le-sum_by f xs n d low)

  pub none-sum : (xs : List X) (d : X) → ((n : ℕ) → n < length xs → f (get_or xs n d) ≡ 0) → sum_by f xs ≡ 0
  none-sum [] d each = refl
  none-sum (x ∷ xs) d each =
      let here : f x ≡ 0 = each 0 (omega arith) in
      let rest = none-sum xs d (λ n low. each (suc n) (omega (arith, low))) in
      omega (arith, here, rest, sum_by-cons f x xs)

-- what is told of the headers of a track, and these
module _ (known : DataAreKnown) where
  abbrev counted_of : List NotedOther → ℕ
  counted_of others = whole_names_of (others_over others) (has_untold others)

  bare-of : (others : List NotedOther) → counted_of others ≡ 0 → Each IsBare others
  bare-of others none =
      let both : count_by has_data (others_over others) + cond (has_untold others) 1 0 ≡ 0 = none in
      let told : list_any has_data (others_over others) ≡ false =
      none-any has_data (others_over others) (count-none has_data (others_over others) (omega (arith, both))) in
      let untold = one_less has_data (has_untold others) 0 (omega (arith, both)) in
      any-none (λ (o : NotedOther). o.whole) others (known others ∙ or_from (list_any has_data (others_over others)) (has_untold others) told untold.0)

  none-of : (others : List NotedOther) → Each IsBare others → counted_of others ≡ 0
  none-of others bare =
      let both = or_parts (list_any has_data (others_over others)) (has_untold others) (sym (known others) ∙ none-any (λ (o : NotedOther). o.whole) others bare) in
      let told : count_by has_data (others_over others) ≡ 0 = none-count has_data (others_over others) (any-none has_data (others_over others) both.0) in
      let untold = none_more has_data (has_untold others) 0 both.1 refl in
      let all : count_by has_data (others_over others) + cond (has_untold others) 1 0 ≡ 0 = omega (arith, told, untold) in
      all

  pub whole-none : (tracks : List (List NotedOther)) → whole_count tracks ≡ 0 → (n : ℕ) → n < length tracks → Each IsBare (get_or tracks n [])
  whole-none tracks none n low = bare-of (get_or tracks n []) (sum-none counted_of tracks [] none n low)

  pub none-whole : (tracks : List (List NotedOther)) → ((n : ℕ) → n < length tracks → Each IsBare (get_or tracks n [])) → whole_count tracks ≡ 0
  none-whole tracks bare = none-sum counted_of tracks [] (λ n low. none-of (get_or tracks n []) (bare n low))
