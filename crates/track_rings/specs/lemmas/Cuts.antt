-- A stretch of a ring between zeros: unbroken cells that begin in it are the ring's
-- own, save for the last seven.
use Rattle.std.specs.Prelude.{◌≡◌, ℕ, zero, suc, ◌+◌, ◌-◌, ◌%◌, ◌<◌, ◌≤◌, Bool, true, false, List}
use Rattle.std.specs.Prelude.{◌++◌, length, take, drop, get_or, replicate, refl}
use Rattle.std.proofs.Common.{ap, sym, ◌∙◌, arith, inl, inr, length-append, length-drop}
use Rattle.std.proofs.lemmas.Bool.{cases_lt}
use Rattle.std.proofs.lemmas.List.{drop-drop, ext_get_or, get_or-append-add, get_or-drop}
use Rattle.std.proofs.lemmas.List.{get_or-take, length-replicate, length-take, take-replicate}
use Rattle.std.proofs.Math.ListN.{get_or-append}
use Rattle.std.proofs.Math.Nat.{add-mod_right, mod-add-mod, mod-lt}
use Rattle.cell_bits.specs.Broken.{Unbroken}
use Rattle.track_rings.specs.OwnSectors.{between_zeros}
use Rattle.track_rings.specs.lemmas.Parts.{drop-past}
use Rattle.track_rings.specs.Rings.{cell_of, stretch}
use Rattle.track_rings.specs.lemmas.Zeros.{cell-near}

pub length-stretch : (ring : List Bool) (from count : ℕ) → length (stretch ring from count) ≡ count
unfolding stretch
length-stretch ring from zero = refl
length-stretch ring from (suc count) = ap suc (length-stretch ring (from + 1) count)

pub get_or-stretch : (ring : List Bool) (from count k : ℕ) → k < count
    → get_or (stretch ring from count) k false ≡ cell_of ring (from + k)
unfolding stretch
get_or-stretch ring from zero k within = absurd (omega arith)
get_or-stretch ring from (suc count) zero within = let e : from ≡ from + 0 = omega arith in
    ap (cell_of ring) e
get_or-stretch ring from (suc count) (suc k) within =
    let e : from + 1 + k ≡ from + suc k = omega arith in
    get_or-stretch ring (from + 1) count k (omega arith) ∙ ap (cell_of ring) e

-- so many cells of the repeated ring, no more than a ring has, stand in
-- two rings one after the other
pub stretch-in_two : (ring : List Bool) (from count : ℕ) → 0 < length ring → count ≤ length ring
    → stretch ring from count ≡ take count (drop (from % length ring) (ring ++ ring))
stretch-in_two ring from count some within =
    let here = from % length ring in
    let low : here < length ring = mod-lt from some in
    let size = length-stretch ring from count in
    let room = length-take count (drop here (ring ++ ring)) in
    ext_get_or false (stretch ring from count) (take count (drop here (ring ++ ring)))
    (omega (arith, size, room, length-drop here (ring ++ ring), length-append ring ring))
    (λ k inside.
    let less : k < count = omega (arith, inside, size) in
    get_or-stretch ring from count k less
    ∙ sym
    (get_or-take count (drop here (ring ++ ring)) k false less
    ∙ get_or-drop here (ring ++ ring) k false
    ∙ cell-near ring from k (omega arith) some))

-- one number may be taken off on both sides
pub mod-cancel : (m n offset size : ℕ) → offset ≤ size → (m + offset) % size ≡ (n + offset) % size
    → m % size ≡ n % size
mod-cancel m n offset size small same =
    let rest = size - offset in
    let round : (k : ℕ) → k % size ≡ ((k + offset) % size + rest) % size = λ k.
    let e : k + size ≡ k + offset + rest = omega arith in
    sym (add-mod_right k size) ∙ ap (λ (i : ℕ). i % size) e
    ∙ sym (mod-add-mod (k + offset) size rest) in
    round m ∙ ap (λ (i : ℕ). (i + rest) % size) same ∙ sym (round n)

zero_cell : (count k : ℕ) → get_or (replicate count false) k false ≡ false
zero_cell zero k = refl
zero_cell (suc count) zero = refl
zero_cell (suc count) (suc k) = zero_cell count k

-- zeros among zeros
pub zeros_inside : (past count : ℕ) → past + 8 ≤ count
    → take 8 (drop past (replicate count false)) ≡ replicate 8 false
zeros_inside zero count enough = take-replicate 8 count false (omega (arith, enough))
zeros_inside (suc past) zero enough = absurd (omega arith)
zeros_inside (suc past) (suc count) enough = zeros_inside past count (omega arith)

module _ (ring : List Bool) (zeros from count behind : ℕ) where
  before_cell : (k : ℕ) → k < zeros
      → get_or (between_zeros ring zeros from count behind) k false ≡ false
  before_cell k within =
      let size : k < length (replicate zeros false) = omega (arith, length-replicate zeros false) in
      get_or-append (replicate zeros false) (stretch ring from count ++ replicate behind false)
      false k size
      ∙ zero_cell zeros k

  from_stretch : (k : ℕ)
      → get_or (between_zeros ring zeros from count behind) (zeros + k) false
      ≡ get_or (stretch ring from count ++ replicate behind false) k false
  from_stretch k =
      ap (λ (n : ℕ). get_or (between_zeros ring zeros from count behind) (n + k) false)
      (sym (length-replicate zeros false))
      ∙ get_or-append-add (replicate zeros false)
      (stretch ring from count ++ replicate behind false) k false

  own_cell : (k : ℕ) → k < count
      → get_or (between_zeros ring zeros from count behind) (zeros + k) false
      ≡ cell_of ring (from + k)
  own_cell k within =
      let size : k < length (stretch ring from count) =
      omega (arith, length-stretch ring from count) in
      from_stretch k ∙ get_or-append (stretch ring from count) (replicate behind false) false k size
      ∙ get_or-stretch ring from count k within

  behind_cell : (k : ℕ)
      → get_or (between_zeros ring zeros from count behind) (zeros + (count + k)) false ≡ false
  behind_cell k =
      from_stretch (count + k)
      ∙ ap (λ (n : ℕ). get_or (stretch ring from count ++ replicate behind false) (n + k) false)
      (sym (length-stretch ring from count))
      ∙ get_or-append-add (stretch ring from count) (replicate behind false) k false
      ∙ zero_cell behind k

  drop_behind : drop (zeros + count) (between_zeros ring zeros from count behind)
      ≡ replicate behind false
  drop_behind =
      let e : count ≡ count + 0 = omega arith in
      drop-past (replicate zeros false) (stretch ring from count ++ replicate behind false) zeros
      count (length-replicate zeros false)
      ∙ ap (λ (n : ℕ). drop n (stretch ring from count ++ replicate behind false)) e
      ∙ drop-past (stretch ring from count) (replicate behind false) count 0
      (length-stretch ring from count)

  length_between : length (between_zeros ring zeros from count behind) ≡ zeros + (count + behind)
  length_between =
      let rest = stretch ring from count ++ replicate behind false in
      omega (
        arith,
        length-append (replicate zeros false) rest,
        length-append (stretch ring from count) (replicate behind false),
        length-replicate zeros false,
        length-replicate behind false,
        length-stretch ring from count,
      )

  -- a one is the ring's
  one_inside : (place : ℕ) → get_or (between_zeros ring zeros from count behind) place false ≡ true
      → (start : ℕ) × (place ≡ zeros + start) × (start < count)
  one_inside place one =
      let low : zeros ≤ place = elim (cases_lt place zeros) [
        | inl before ↦ absurd (let none = before_cell place before in cc)
        | inr after ↦ after
      ] in
      let start = place - zeros in
      let at : place ≡ zeros + start = omega arith in
      let inside : start < count = elim (cases_lt start count) [
        | inl within ↦ within
        | inr past ↦ absurd (
            let e : zeros + (count + (start - count)) ≡ place = omega arith in
            let none = behind_cell (start - count) in
            let same =
            ap (λ (n : ℕ). get_or (between_zeros ring zeros from count behind) n false) e in
            cc)
      ] in
      (start, at, inside)

  -- eight zeros stand behind the stretch
  broken_end : (place low end : ℕ) → place ≤ zeros + count → zeros + count + 8 ≤ place + end
      → low + 8 ≤ end
      → end ≤ length (drop place (between_zeros ring zeros from count behind))
      → ¬ Unbroken (drop place (between_zeros ring zeros from count behind)) low end
  broken_end place low end late high enough within whole =
      elim (cases_lt (zeros + count - place) low) [
        | inl early ↦
            eight low (low + place - (zeros + count)) (omega arith) (omega arith) (omega arith)
        | inr behind_low ↦ eight (zeros + count - place) 0 (omega arith) (omega arith) (omega arith)
      ]
    where
      eight : (offset past : ℕ) → place + offset ≡ zeros + count + past → low ≤ offset
          → offset + 8 ≤ end → ⊥
      eight offset past e above below =
          let cells = between_zeros ring zeros from count behind in
          let room : past + 8 ≤ behind =
          omega (arith, within, length-drop place cells, length_between) in
          let there : drop offset (drop place cells) ≡ drop past (replicate behind false) =
          drop-drop offset place cells ∙ ap (λ (n : ℕ). drop n cells) e
          ∙ sym (drop-drop past (zeros + count) cells) ∙ ap (drop past) drop_behind in
          whole offset above below (ap (take 8) there ∙ zeros_inside past behind room)

  -- From a one on, cells are the ring's own up to seven before an end, where those before it are
  -- unbroken. They need be so only from some place on.
  pub cut_cells : (place first low end : ℕ)
      → get_or (drop place (between_zeros ring zeros from count behind)) first false ≡ true
      → low + 8 ≤ end → end ≤ length (drop place (between_zeros ring zeros from count behind))
      → Unbroken (drop place (between_zeros ring zeros from count behind)) low end
      → (start : ℕ) × (place + first ≡ zeros + start)
      × ((k : ℕ) → first + k + 7 < end
      → get_or (drop place (between_zeros ring zeros from count behind)) (first + k) false
      ≡ cell_of ring (from + (start + k)))
  cut_cells place first low end one enough within whole =
      let cells = between_zeros ring zeros from count behind in
      let here = one_inside (place + first) (sym (get_or-drop place cells first false) ∙ one) in
      let start = here.0 in (
        start,
        here.1,
        λ k near.
            let inside : start + k < count = elim (cases_lt (start + k) count) [
              | inl low ↦ low
              | inr past ↦
                  absurd
                  (broken_end place low end (omega (arith, here.1, here.2))
                  (omega (arith, here.1, past, near)) enough within whole)
            ] in
            let e : place + (first + k) ≡ zeros + (start + k) = omega (arith, here.1) in
            get_or-drop place cells (first + k) false ∙ ap (λ (n : ℕ). get_or cells n false) e
            ∙ own_cell (start + k) inside,
      )
