-- Transitions that carry a ring, by the recovered cells: which of them is the last at or before a place, and how long the way
-- is from one to another.
use Rattle.std.proofs.Common.{◌≡◌, ◌≢◌, ◌<◌, ◌≤◌, ◌⊎◌, ◌+◌, ◌-◌, ◌*◌, ◌∙◌, ℕ, zero, suc, Bool, true, false, List, length, get_or, take, sym, ap, subst, inl, inr, arith}
use Rattle.std.specs.Prelude.{slice_index}
use Rattle.std.proofs.Math.Nat.{mul-le-mul_left}
use Rattle.std.proofs.lemmas.Bool.{cases_eq, cases_lt}
use Rattle.std.proofs.lemmas.List.Sums.{count_by_more_no, count_by_more_yes}
use Rattle.cell_bits.specs.Ones.{ones}
use Rattle.phase_loop.specs.Carried.{Carried}
use Rattle.phase_loop.specs.Pieces.{cells_between}
use Rattle.track_rings.specs.Rings.{IsSpaced, cell_of, last_in}
use Rattle.track_rings.specs.lemmas.Cuts.{get_or-stretch, length-stretch}

module _ (ring : List Bool) (times : List ℕ) (nominal : ℕ) (places periods : List ℕ) (carried : Carried times ring nominal places periods) (spaced : IsSpaced 1 4 ring) where
  abbrev place_of : ℕ → ℕ
  place_of i = slice_index places i

  abbrev first : ℕ
  first = slice_index places 0

  abbrev count : ℕ
  count = last_in places - first + 1

  abbrev pub cells : List Bool
  cells = cells_between ring first (last_in places)

  -- Transition number i is the last at or before a place of the cells.
  pub record IsLastTo (place i : ℕ) : Type 0 where
    pub counted : ones (take (place + 1) cells) ≡ i + 1
    pub low : i < length times
    pub least : place_of i ≤ first + place
    pub next : i + 1 < length times → first + place < place_of (i + 1)

  long : length cells ≡ count
  long = length-stretch ring first count

  cell_is : (place : ℕ) → place < count → get_or cells place false ≡ cell_of ring (first + place)
  cell_is place low = get_or-stretch ring first count place low

  -- the place of the next one
  after : (i : ℕ) → i + 1 < length times → place_of i < place_of (i + 1)
  after i low = let behind = (carried.consecutive i low).behind in omega (arith, behind)

  first_one : 0 < length times → IsLastTo 0 0
  first_one some =
      let start : first + 0 ≡ first = omega arith in
      let here : get_or cells 0 false ≡ true = cell_is 0 (omega arith) ∙ ap (cell_of ring) start ∙ carried.ones 0 some in
      let more = count_by_more_yes (λ (cell : Bool). cell) cells 0 false (omega (arith, long)) here in
      record {
        counted = more;
        low = some;
        least = omega arith;
        next = λ low. (let next = after 0 low in omega (arith, next));
      }

  module _ (place i : ℕ) (low : place + 1 < count) (is : IsLastTo place i) where
    -- the last transition stands at the last place
    has_next : i + 1 < length times
    has_next = by (cases_lt (i + 1) (length times))
      where
        by : (i + 1 < length times) ⊎ (length times ≤ i + 1) → i + 1 < length times
        by (inl more) = more
        by (inr few) =
            let there = is.low in
            let all = carried.each_place in
            let at : length places - 1 ≡ i = omega (arith, there, few, all) in
            let end : last_in places ≡ place_of i = ap (slice_index places) at in
            let least = is.least in
            absurd (omega (arith, end, least, low))

    here_one : first + (place + 1) ≡ place_of (i + 1) → IsLastTo (place + 1) (i + 1)
    here_one at =
        let here : get_or cells (place + 1) false ≡ true = cell_is (place + 1) low ∙ ap (cell_of ring) at ∙ carried.ones (i + 1) has_next in
        let more = count_by_more_yes (λ (cell : Bool). cell) cells (place + 1) false (omega (arith, long, low)) here in
        let before = is.counted in
        record {
          counted = more ∙ ap (λ (n : ℕ). n + 1) before;
          low = has_next;
          least = omega (arith, at);
          next = λ further. (let next = after (i + 1) further in omega (arith, at, next));
        }

    here_none : first + (place + 1) ≢ place_of (i + 1) → IsLastTo (place + 1) i
    here_none apart =
        let least = is.least in
        let below = is.next has_next in
        let offset : ℕ = first + (place + 1) - place_of i in
        let at : place_of i + offset ≡ first + (place + 1) = omega (arith, least) in
        let zero_at = (carried.consecutive i has_next).zeros offset (omega (arith, least)) (omega (arith, least, below, apart)) in
        let here : get_or cells (place + 1) false ≡ false = cell_is (place + 1) low ∙ ap (cell_of ring) (sym at) ∙ zero_at in
        record {
          counted = count_by_more_no (λ (cell : Bool). cell) cells (place + 1) false (omega (arith, long, low)) here ∙ is.counted;
          low = is.low;
          least = omega (arith, least);
          next = λ more. omega (arith, below, apart);
        }

    go_on : (j : ℕ) × IsLastTo (place + 1) j
    go_on = by (cases_eq (first + (place + 1)) (place_of (i + 1)))
      where
        by : (first + (place + 1) ≡ place_of (i + 1)) ⊎ (first + (place + 1) ≡ place_of (i + 1) → ⊥) → (j : ℕ) × IsLastTo (place + 1) j
        by (inl at) = (i + 1, here_one at)
        by (inr apart) = (i, here_none apart)

  -- each place has one
  pub last_to : 0 < length times → (place : ℕ) → place < count → (i : ℕ) × IsLastTo place i
  last_to some zero low = (0, first_one some)
  last_to some (suc place) low =
      let before = last_to some place (omega (arith, low)) in
      let next : place + 1 ≡ suc place = omega arith in
      subst (λ (k : ℕ). (j : ℕ) × IsLastTo k j) next (go_on place before.0 (omega (arith, low)) before.1)

  -- it lies at most three cells before
  pub is_near : first ≤ last_in places → (place i : ℕ) → place < count → IsLastTo place i → first + place ≤ place_of i + 3
  is_near rise place i low is = by (cases_lt (i + 1) (length times))
    where
      by : (i + 1 < length times) ⊎ (length times ≤ i + 1) → first + place ≤ place_of i + 3
      by (inl more) =
          let next = is.next more in
          let far = (spaced.apart (place_of i) (place_of (i + 1) - place_of i) (carried.consecutive i more)).1 in
          omega (arith, next, far)
      by (inr few) =
          let there = is.low in
          let all = carried.each_place in
          let at : length places - 1 ≡ i = omega (arith, there, few, all) in
          let end : last_in places ≡ place_of i = ap (slice_index places) at in
          let least = is.least in
          omega (arith, end, least, low, rise)

  -- Where each local period is so near a mean, the way from one transition to another is as near its cells of the mean.
  module _ (mean off : ℕ) (near : (i : ℕ) → i < length times → (45 * slice_index periods i ≤ 45 * mean + off) × (45 * mean ≤ 45 * slice_index periods i + off)) where
    abbrev ideal : ℕ → ℕ
    ideal i = slice_index carried.ideal i

    pub record IsWay (i j : ℕ) : Type 0 where
      pub cells_in : ℕ
      pub places_are : place_of j ≡ place_of i + cells_in
      pub up : 45 * ideal j ≤ 45 * ideal i + (cells_in * (45 * mean) + cells_in * off)
      pub down : 45 * ideal i + cells_in * (45 * mean) ≤ 45 * ideal j + cells_in * off

    pub way : (i steps : ℕ) → i + steps < length times → IsWay i (i + steps)
    way i zero low =
        let e : i + 0 ≡ i = omega arith in
        let ideals : ideal (i + 0) ≡ ideal i = ap ideal e in
        let ones_at : place_of (i + 0) ≡ place_of i = ap place_of e in
        record { cells_in = 0; places_are = omega (arith, ones_at); up = omega (arith, ideals); down = omega (arith, ideals) }
    way i (suc steps) low =
        let before = way i steps (omega (arith, low)) in
        let k : ℕ = i + steps in
        let e : i + suc steps ≡ k + 1 = omega arith in
        let there : k + 1 < length times = omega (arith, low) in
        let d : ℕ = place_of (k + 1) - place_of k in
        let period : ℕ = slice_index periods k in
        let ideals : ideal (i + suc steps) ≡ ideal k + d * period = ap ideal e ∙ carried.spaced k there in
        let rises = after k there in
        let ones_at : place_of (i + suc steps) ≡ place_of k + d = ap place_of e ∙ omega (arith, rises) in
        let here = near k (omega (arith, low)) in
        let most = mul-le-mul_left d here.0 in
        let least = mul-le-mul_left d here.1 in
        let is = before.places_are in
        let up = before.up in
        let down = before.down in
        record {
          cells_in = before.cells_in + d;
          places_are = omega (arith, ones_at, is);
          up = omega (arith, ideals, most, up);
          down = omega (arith, ideals, least, down);
        }
