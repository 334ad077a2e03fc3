-- Places of words that are kept.
use Rattle.std.proofs.Common.{◌≡◌, ℕ, ◌+◌, ◌-◌, ◌<◌, ◌≤◌, ◌⊎◌, inl, inr, Bool, true, false, List, [], ◌∷◌, ◌++◌, length, take, drop, get_or, set, sym, ap, ◌∙◌, subst, arith, length-append, length-drop}
use Rattle.std.specs.Prelude.{◌≢◌, nat_eq}
use Rattle.std.proofs.lemmas.Bool.{cases_lt}
use Rattle.std.proofs.lemmas.Bool.Decides.{eqb_tells}
use Rattle.std.proofs.lemmas.List.{drop-append-le, take-append-le, get_or_append_left, get_or_default, get_or_push, length_push, length-set, get_or-set_same, get_or-set_other}
use Rattle.std.proofs.lemmas.List.Sorted.{IsNonDecreasingBy-push}
use Rattle.cell_bits.specs.Word.{Stands}
use Rattle.cell_bits.specs.Search.{StandsNowhere}
use Rattle.cell_bits.specs.declared.cells.places.Known.TheVariants.{At}
use Rattle.cell_bits.specs.declared.cells.places.WordPlaces.{WordPlaces}
use Rattle.cell_bits.specs.inside.Kept.{AreAllPlaces, AreKeptOf, ArePlaces, IsRoomy, Tells}
use Rattle.cell_bits.proofs.Searching.{stands-within}

-- what stands whole in a list, stands at the front of a longer one
front-same : (cells more : List Bool) (count place : ℕ) → place + count ≤ length cells
    → take count (drop place (cells ++ more)) ≡ take count (drop place cells)
front-same cells more count place within =
    ap (take count) (drop-append-le place cells more (omega arith))
    ∙ take-append-le count (drop place cells) more (omega (arith, length-drop place cells))

-- cells that are appended change none of it
places-more : (cells more : List Bool) (word count sought : ℕ) (places : List ℕ) → AreAllPlaces cells word count sought places
    → AreAllPlaces (cells ++ more) word count sought places
places-more cells more word count sought places are = record {
  some = are.some;
  most = are.most;
  within = λ place low. omega (arith, are.within place low, length-append cells more);
  rise = are.rise;
  low = are.low;
  stand = λ k below. front-same cells more count (get_or places k 0) (are.within (get_or places k 0) (are.low k below)) ∙ are.stand k below;
  all = λ place low stands. are.all place low (sym (front-same cells more count place (are.within place low)) ∙ stands);
}

pub kept-more : (cells more : List Bool) (used : ℕ) (words : List WordPlaces) → AreKeptOf cells used words → AreKeptOf (cells ++ more) used words
kept-more cells more used words kept = record {
  few = kept.few;
  roomy = kept.roomy;
  are = λ k d below. places-more cells more (get_or words k d).word (get_or words k d).count (get_or words k d).sought (get_or words k d).places.items (kept.are k d below);
}

-- none of them is used
pub kept-none : (before cells : List Bool) (used : ℕ) (words : List WordPlaces) → AreKeptOf before used words → AreKeptOf cells 0 words
kept-none before cells used words kept = record { few = omega arith; roomy = kept.roomy; are = λ k d below. absurd (omega (arith, below)) }

-- of a word that is not sought yet there are none
pub places-none : (cells : List Bool) (word count : ℕ) → 1 ≤ count → count ≤ 32 → AreAllPlaces cells word count 0 []
places-none cells word count some most = record {
  some = some;
  most = most;
  within = λ place low. absurd (omega (arith, low));
  rise = λ i j d le lt. absurd (omega (arith, lt));
  low = λ k below. absurd (omega (arith, below));
  stand = λ k below. absurd (omega (arith, below));
  all = λ place low stands. absurd (omega (arith, low));
}

-- what holds of each of a list and of one more
each-push : (P : ℕ → Type 0) (places : List ℕ) (place : ℕ) → ((k : ℕ) → k < length places → P (get_or places k 0)) → P place
    → (k : ℕ) → k < length (places ++ place ∷ []) → P (get_or (places ++ place ∷ []) k 0)
each-push P places place each last k below = by (cases_lt k (length places))
  where
    by : (k < length places) ⊎ (length places ≤ k) → P (get_or (places ++ place ∷ []) k 0)
    by (inl less) = subst P (sym (get_or_append_left places (place ∷ []) 0 k less)) (each k less)
    by (inr past) = subst P (sym (get_or_push places place 0 k (omega (arith, past, below, length_push places place)))) last

module _ (cells : List Bool) (word count sought : ℕ) (places : List ℕ) (are : AreAllPlaces cells word count sought places) where
  -- the next place
  pub places-next : (place : ℕ) → sought ≤ place → Stands cells word count place → StandsNowhere cells word count sought place
      → AreAllPlaces cells word count (place + 1) (places ++ place ∷ [])
  places-next place after stands nowhere =
      let inside : place + count ≤ length cells = stands-within cells word count are.some place stands in
      record {
        some = are.some;
        most = are.most;
        within = λ other low. omega (arith, low, inside);
        rise = IsNonDecreasingBy-push (λ x. x) places place are.rise
            (λ d some. omega (arith, after, are.low (length places - 1) (omega (arith, some)), get_or_default places (length places - 1) d 0 (omega (arith, some))));
        low = each-push (λ n. n < place + 1) places place (λ k below. omega (arith, after, are.low k below)) (omega arith);
        stand = each-push (λ n. Stands cells word count n) places place are.stand stands;
        all = λ other low stands'. by other low stands' (cases_lt other sought) (cases_lt other place);
      }
    where
      by : (other : ℕ) → other < place + 1 → Stands cells word count other → (other < sought) ⊎ (sought ≤ other) → (other < place) ⊎ (place ≤ other)
          → (k : ℕ) × (k < length (places ++ place ∷ [])) × (get_or (places ++ place ∷ []) k 0 ≡ other)
      by other low stands' (inl early) _ =
          let at = are.all other early stands' in
          (at.0, omega (arith, at.1, length_push places place), get_or_append_left places (place ∷ []) 0 at.0 at.1 ∙ at.2)
      by other low stands' (inr late) (inl before) = absurd (nowhere other late before stands')
      by other low stands' (inr late) (inr behind) =
          (length places, omega (arith, length_push places place), get_or_push places place 0 (length places) (omega arith) ∙ omega (arith, low, behind))

  -- there is no other up to the end
  pub places-end : StandsNowhere cells word count sought (length cells) → AreAllPlaces cells word count (length cells + 1 - count) places
  places-end nowhere = record {
    some = are.some;
    most = are.most;
    within = λ place low. omega (arith, low);
    rise = are.rise;
    low = λ k below. omega (arith, are.within (get_or places k 0) (are.low k below));
    stand = are.stand;
    all = λ place low stands. by place low stands (cases_lt place sought);
  }
    where
      by : (place : ℕ) → place < length cells + 1 - count → Stands cells word count place → (place < sought) ⊎ (sought ≤ place)
          → (k : ℕ) × (k < length places) × (get_or places k 0 ≡ place)
      by place low stands (inl early) = are.all place early stands
      by place low stands (inr late) = absurd (nowhere place late (omega (arith, low, are.some)) stands)

  module _ (from index : ℕ) (before : (k : ℕ) → k < index → get_or places k 0 < from) (behind : (k : ℕ) → index ≤ k → k < length places → from ≤ get_or places k 0) where
    -- a place that is kept is not before the one that was found
    not-before : (other : ℕ) → from ≤ other → (k : ℕ) → k < length places → get_or places k 0 ≡ other → index ≤ k
    not-before other after k below same = by (cases_lt k index)
      where
        by : (k < index) ⊎ (index ≤ k) → index ≤ k
        by (inl less) = absurd (omega (arith, after, same, before k less))
        by (inr past) = past

    pub told-at : index < length places → Tells cells word count from (At (get_or places index 0))
    told-at below = (
      behind index (omega arith) below,
      are.stand index below,
      λ other after earlier stands.
          let at = are.all other (omega (arith, earlier, are.low index below)) stands in
          omega (arith, earlier, at.2, are.rise index at.0 0 (not-before other after at.0 at.1 at.2) at.1),
    )

    pub told-nowhere : length places ≤ index → StandsNowhere cells word count from sought
    told-nowhere past other after earlier stands =
        let at = are.all other earlier stands in
        omega (arith, at.1, past, not-before other after at.0 at.1 at.2)

-- a number below the next one is below it or the same
pub below-other : (k n : ℕ) → k < n + 1 → k ≢ n → k < n
below-other k n low apart = by (cases_lt k n)
  where
    by : (k < n) ⊎ (n ≤ k) → k < n
    by (inl less) = less
    by (inr past) = absurd (apart (omega (arith, low, past)))

-- one of the words is put in place of another
pub kept-put : (cells : List Bool) (used used' index : ℕ) (words : List WordPlaces) (word : WordPlaces) → AreKeptOf cells used words → index < length words
    → used' ≤ length words → ((k : ℕ) → k < used' → k ≢ index → k < used) → IsRoomy word → ArePlaces cells word → AreKeptOf cells used' (set words index word)
kept-put cells used used' index words word kept within few before roomy are = record {
  few = omega (arith, few, length-set words index word);
  roomy = λ k d below. by-roomy k d (omega (arith, below, length-set words index word)) (eqb_tells k index);
  are = λ k d below. by-places k d below (eqb_tells k index);
}
  where
    by-roomy : (k : ℕ) (d : WordPlaces) → k < length words → ((nat_eq k index ≡ true) × (k ≡ index)) ⊎ ((nat_eq k index ≡ false) × (k ≢ index))
        → IsRoomy (get_or (set words index word) k d)
    by-roomy k d below (inl same) =
        subst (λ (n : ℕ). IsRoomy (get_or (set words index word) n d)) (sym same.1) (subst IsRoomy (sym (get_or-set_same words index word d within)) roomy)
    by-roomy k d below (inr apart) = subst IsRoomy (sym (get_or-set_other words index k word d apart.1)) (kept.roomy k d below)

    by-places : (k : ℕ) (d : WordPlaces) → k < used' → ((nat_eq k index ≡ true) × (k ≡ index)) ⊎ ((nat_eq k index ≡ false) × (k ≢ index))
        → ArePlaces cells (get_or (set words index word) k d)
    by-places k d below (inl same) =
        subst (λ (n : ℕ). ArePlaces cells (get_or (set words index word) n d)) (sym same.1) (subst (ArePlaces cells) (sym (get_or-set_same words index word d within)) are)
    by-places k d below (inr apart) = subst (ArePlaces cells) (sym (get_or-set_other words index k word d apart.1)) (kept.are k d (before k below apart.1))
