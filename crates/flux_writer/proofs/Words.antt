-- The first one of a word of cells.
use Rattle.std.proofs.Common.{◌≡◌, ◌≤◌, ◌<◌, ◌+◌, ◌-◌, ◌*◌, ◌%◌, ◌^◌, ℕ, zero, suc, Bool, true, false, List, [], ◌∷◌, length, take, drop, get_or, refl, ap, sym, ◌∙◌, arith, inl, inr, pow-suc, length-drop, length-take-le, subst}
use Rattle.std.proofs.Math.Pow.{pow_mono}
use Rattle.std.proofs.Math.Nat.{mod-eq_of_lt}
use Rattle.std.proofs.lemmas.Bool.{cases_lt}
use Rattle.std.proofs.lemmas.List.{drop-drop, drop-take, get_or-drop, get_or-take}
use Rattle.std.proofs.lemmas.Nat.{leading_top, pow_pos}
use Rattle.std.specs.Int.Count.{count_leading_zeros}
use Rattle.cell_bits.specs.Search.{HasNoOne}
use Rattle.cell_bits.specs.Word.{number_of, word}
use Rattle.cell_bits.specs.lemmas.WordLaws.{number_of-lt}

-- the first one of a list stands here, with so many cells behind it
record IsFirst (l : List Bool) (behind place : ℕ) : Type 0 where
  pub size : place + suc behind ≡ length l
  pub one : get_or l place false ≡ true
  pub zeros : (i : ℕ) → i < place → get_or l i false ≡ false
  pub rest : number_of (drop (suc place) l) + 2 ^ behind ≡ number_of l

zeros_more : (l : List Bool) (place : ℕ) → ((i : ℕ) → i < place → get_or l i false ≡ false) → (i : ℕ) → i < suc place → get_or (false ∷ l) i false ≡ false
zeros_more l place zeros zero below = refl
zeros_more l place zeros (suc i) below = zeros i (omega (arith, below))

first_one : (l : List Bool) (behind : ℕ) → 2 ^ behind ≤ number_of l → number_of l < 2 ^ suc behind → (place : ℕ) × IsFirst l behind place
unfolding number_of
first_one [] behind low high = let some = pow_pos behind in absurd (omega (arith, some, low))
first_one (false ∷ l) behind low high =
    let same : number_of (false ∷ l) ≡ number_of l = omega arith in
    let rec = first_one l behind (omega (arith, low, same)) (omega (arith, high, same)) in (
      suc rec.0,
      record {
        size = omega (arith, rec.1.size);
        one = rec.1.one;
        zeros = zeros_more l rec.0 rec.1.zeros;
        rest = rec.1.rest ∙ sym same;
      },
    )
first_one (true ∷ l) behind low high =
    let n : ℕ = length l in
    let value : number_of (true ∷ l) ≡ 2 ^ n + number_of l = omega arith in
    let few = number_of-lt l in
    let twice = pow-suc 2 n in
    elim (cases_lt n behind) [
      | inl less ↦ (let high_too : 2 ^ suc n ≤ 2 ^ behind = pow_mono less in absurd (omega (arith, high_too, low, value, few, twice)))
      | inr least ↦ elim (cases_lt behind n) [
        | inl more ↦ (let low_too : 2 ^ suc behind ≤ 2 ^ n = pow_mono more in absurd (omega (arith, low_too, high, value)))
        | inr most ↦ (let same : behind ≡ n = omega (arith, least, most) in (
          0,
          record {
            size = omega (arith, same);
            one = refl;
            zeros = λ i below. absurd (omega (arith, below));
            rest = omega (arith, ap (λ m. 2 ^ m) same, value);
          },
        ))
      ]
    ]

no_ones : (l : List Bool) (i : ℕ) → number_of l ≡ 0 → get_or l i false ≡ false
unfolding number_of
no_ones [] i none = refl
no_ones (true ∷ l) i none = let some = pow_pos (length l) in absurd (omega (arith, some, none))
no_ones (false ∷ l) zero none = refl
no_ones (false ∷ l) (suc i) none = no_ones l i (omega (arith, none))

-- the first one of the last `left` cells before a place, which are this word: so many cells stand behind it
pub record FirstInWord (cells : List Bool) (to left value behind : ℕ) : Type 0 where
  pub inside : behind < left
  pub one : get_or cells (to - 1 - behind) false ≡ true
  pub nowhere : HasNoOne cells (to - left) (to - 1 - behind)
  pub rest : word cells (to - behind) behind + 2 ^ behind ≡ value

module _ (cells : List Bool) (to left value : ℕ) (few : left ≤ to) (within : to ≤ length cells) (is : value ≡ word cells (to - left) left) where
  abbrev ahead : List Bool
  ahead = take left (drop (to - left) cells)

  number : number_of ahead ≡ value
  unfolding word number_of
  number = sym is

  ahead_at : (i : ℕ) → i < left → get_or ahead i false ≡ get_or cells ((to - left) + i) false
  ahead_at i below = get_or-take left (drop (to - left) cells) i false below ∙ get_or-drop (to - left) cells i false

  pub first_in_word : (behind : ℕ) → 2 ^ behind ≤ value → value < 2 ^ suc behind → FirstInWord cells to left value behind
  unfolding word number_of
  first_in_word behind low high =
      let found = first_one ahead behind (omega (arith, low, number)) (omega (arith, high, number)) in
      let place : ℕ = found.0 in
      let first = found.1 in
      let long : length ahead ≡ left = length-take-le left (drop (to - left) cells) (omega (arith, few, within, length-drop (to - left) cells)) in
      let size : left ≡ suc place + behind = omega (arith, first.size, long) in
      let at : (to - left) + place ≡ to - 1 - behind = omega (arith, size, few) in
      let on : suc place + (to - left) ≡ to - behind = omega (arith, size, few) in
      let tail : drop (suc place) ahead ≡ take behind (drop (to - behind) cells) =
      ap (λ n. drop (suc place) (take n (drop (to - left) cells))) size ∙ drop-take (suc place) behind (drop (to - left) cells)
      ∙ ap (take behind) (drop-drop (suc place) (to - left) cells ∙ ap (λ n. drop n cells) (omega (arith, on))) in record {
        inside = omega (arith, size);
        one = ap (λ n. get_or cells n false) (sym at) ∙ sym (ahead_at place (omega (arith, size))) ∙ first.one;
        nowhere = λ q from below.
            let i : ℕ = q - (to - left) in
            let here : (to - left) + i ≡ q = omega (arith, from) in
            ap (λ n. get_or cells n false) (sym here) ∙ sym (ahead_at i (omega (arith, size, here, below, at))) ∙ first.zeros i (omega (arith, here, below, at));
        rest = ap (λ l. number_of l + 2 ^ behind) (sym tail) ∙ first.rest ∙ number;
      }

  pub none_in_word : value ≡ 0 → HasNoOne cells (to - left) to
  none_in_word none q from below =
      let i : ℕ = q - (to - left) in
      let here : (to - left) + i ≡ q = omega (arith, from) in
      ap (λ n. get_or cells n false) (sym here) ∙ sym (ahead_at i (omega (arith, here, below, few))) ∙ no_ones ahead i (number ∙ none)

-- what taking the first one away from a word does
pub record WordStep (cells : List Bool) (to left value behind : ℕ) : Type 0 where
  pub first : FirstInWord cells to left value behind
  pub one_cell : 1 * 2 ^ behind % 4294967296 ≡ 2 ^ behind

pub word_step : (cells : List Bool) (to left value : ℕ) → left ≤ to → to ≤ length cells → value ≡ word cells (to - left) left → 0 < value → value < 4294967296
    → WordStep cells to left value (31 - count_leading_zeros 32 value)
word_step cells to left value few within is some fits =
    let top = leading_top 32 value some fits in
    let behind : 31 - count_leading_zeros 32 value ≡ top.0 = omega (arith, top.1) in
    subst (WordStep cells to left value) (sym behind)
    (record {
      first = first_in_word cells to left value few within is top.0 top.2 top.3;
      one_cell = ap (λ n. n % 4294967296) (omega arith) ∙ mod-eq_of_lt (omega (arith, top.2, fits));
    })
