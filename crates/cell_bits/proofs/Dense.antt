-- Words without four zeros that stand together.
use Rattle.std.proofs.Common.{◌≡◌, ℕ, ◌+◌, ◌-◌, ◌*◌, ◌/◌, ◌%◌, ◌^◌, ◌<◌, ◌≤◌, min, max, Bool, true, false, ◌==◌, List, drop, get_or, refl, sym, ap, ◌∙◌, arith, bit_and, bit_or, get_or-take, get_or-drop, subst, ◌⊎◌, inl, inr}
use Rattle.std.specs.Int.{bit_at}
use Rattle.std.proofs.lemmas.Bool.{cases_lt, eqb-true}
use Rattle.std.proofs.lemmas.List.{get_or-replicate}
use Rattle.std.proofs.lemmas.Nat.Bits.{bit_at_and, bit_at_or}
use Rattle.cell_bits.specs.Broken.{Unbroken}
use Rattle.cell_bits.specs.Word.{digit}
use Rattle.cell_bits.specs.inside.Window.{FoursHaveOnes, IsWindow}
use Rattle.cell_bits.proofs.Candidates.{from_no_digit}
use Rattle.cell_bits.proofs.Joining.{bit_at-shr}
use Rattle.flux_base.specs.lemmas.EachBelow.{each_below, from_each}

lowest-table : each_below (λ four. bit_at 1229782938247303441 (4 * four) == 1) 16 ≡ true
unfolding each_below
lowest-table = refl

lowest : (four : ℕ) → four < 16 → bit_at 1229782938247303441 (4 * four) ≡ 1
lowest four within = eqb-true _ _ (from_each (λ n. bit_at 1229782938247303441 (4 * n) == 1) 16 lowest-table four within)

-- the lowest bit of four tells whether any of them is a one
pub fours-told : (block : ℕ)
    → let pairs : ℕ = bit_or block (block / 2) in
    bit_and (bit_or pairs (pairs / 4)) 1229782938247303441 ≡ 1229782938247303441 → FoursHaveOnes block
fours-told block told four within zeros =
    let pairs : ℕ = bit_or block (block / 2) in
    let fours : ℕ = bit_or pairs (pairs / 4) in
    let place : ℕ = 4 * four in
    let here : place ≡ place + 0 = omega arith in
    let last : place + 2 + 1 ≡ place + 3 = omega arith in
    let first : bit_at pairs place ≡ 0 =
    pair place (ap (bit_at block) here ∙ none 0 (omega arith)) (none 1 (omega arith)) in
    let second : bit_at pairs (place + 2) ≡ 0 =
    pair (place + 2) (none 2 (omega arith)) (ap (bit_at block) last ∙ none 3 (omega arith)) in
    let both : bit_at fours place ≡ max (bit_at pairs place) (bit_at (pairs / 2 ^ 2) place) = bit_at_or pairs (pairs / 4) place in
    let moved : bit_at (pairs / 2 ^ 2) place ≡ bit_at pairs (place + 2) = later pairs 2 place in
    let masked : bit_at (bit_and fours 1229782938247303441) place ≡ min (bit_at fours place) (bit_at 1229782938247303441 place) = bit_at_and fours 1229782938247303441 place in
    let one : bit_at (bit_and fours 1229782938247303441) place ≡ 1 = ap (λ n. bit_at n place) told ∙ lowest four within in
    omega (arith, first, second, both, moved, masked, one)
  where
    later : (value k place : ℕ) → bit_at (value / 2 ^ k) place ≡ bit_at value (place + k)
    later value k place = let e : k + place ≡ place + k = omega arith in bit_at-shr value k place ∙ ap (bit_at value) e

    none : (k : ℕ) → k < 4 → bit_at block (4 * four + k) ≡ 0
    none k below = from_no_digit block (4 * four + k) (zeros k below)

    pair : (place : ℕ) → bit_at block place ≡ 0 → bit_at block (place + 1) ≡ 0 → bit_at (bit_or block (block / 2)) place ≡ 0
    pair place a b =
        let both : bit_at (bit_or block (block / 2)) place ≡ max (bit_at block place) (bit_at (block / 2 ^ 1) place) = bit_at_or block (block / 2) place in
        omega (arith, both, later block 1 place, a, b)

-- the same of a word of the list
abbrev pub IsDenseAt : List Bool → ℕ → Type 0
IsDenseAt cells index = (four : ℕ) → four < 16 → ¬ ((k : ℕ) → k < 4 → get_or cells (64 * index + 4 * four + k) false ≡ false)

pub dense-block : (cells : List Bool) (index block : ℕ) → IsWindow cells (64 * index) block → FoursHaveOnes block → IsDenseAt cells index
dense-block cells index block shown ones four within zeros = ones (15 - four) (omega arith) each
  where
    each : (i : ℕ) → i < 4 → digit block (4 * (15 - four) + i) ≡ false
    each i below =
        let at : 63 - (4 * four + (3 - i)) ≡ 4 * (15 - four) + i = omega arith in
        let there : 64 * index + (4 * four + (3 - i)) ≡ 64 * index + 4 * four + (3 - i) = omega arith in
        ap (digit block) (sym at) ∙ shown (4 * four + (3 - i)) (omega arith) ∙ ap (λ n. get_or cells n false) there ∙ zeros (3 - i) (omega arith)

-- where all words are dense, no eight zeros stand in a row
pub dense-unbroken : (cells : List Bool) (from to : ℕ) → ((index : ℕ) → from / 64 ≤ index → 64 * index < to → IsDenseAt cells index) → Unbroken cells from to
dense-unbroken cells from to dense place above below zeros =
    let four : ℕ = (place + 3) / 4 in
    dense (four / 16) (omega arith) (omega arith) (four % 16) (omega arith) each
  where
    each : (k : ℕ) → k < 4 → get_or cells (64 * ((place + 3) / 4 / 16) + 4 * ((place + 3) / 4 % 16) + k) false ≡ false
    each k small =
        let behind : ℕ = 4 * ((place + 3) / 4) + k - place in
        let at : place + behind ≡ 64 * ((place + 3) / 4 / 16) + 4 * ((place + 3) / 4 % 16) + k = omega arith in
        let within : behind < 8 = omega arith in
        ap (λ n. get_or cells n false) (sym at) ∙ sym (get_or-drop place cells behind false) ∙ sym (get_or-take 8 (drop place cells) behind false within)
        ∙ ap (λ (list : List Bool). get_or list behind false) zeros ∙ get_or-replicate 8 behind false false within

pub dense-more : (cells : List Bool) (first index : ℕ) → ((n : ℕ) → first ≤ n → n < index → IsDenseAt cells n) → IsDenseAt cells index
    → (n : ℕ) → first ≤ n → n < index + 1 → IsDenseAt cells n
dense-more cells first index so_far here n above below = by_place (cases_lt n index)
  where
    by_place : (n < index) ⊎ (index ≤ n) → IsDenseAt cells n
    by_place (inl before) = so_far n above before
    by_place (inr last) = let e : index ≡ n = omega arith in subst (IsDenseAt cells) e here
