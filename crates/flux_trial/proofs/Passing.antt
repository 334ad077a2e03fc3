-- A head that passes over several transitions.
use Rattle.std.proofs.Common.{◌≡◌, ◌≤◌, ◌<◌, ◌+◌, ◌-◌, ◌*◌, ◌/◌, ◌%◌, ◌++◌, All, ℕ, List, [], ◌∷◌, ap, refl, ◌∙◌, sym, arith, append_assoc, append-nil}
use Rattle.std.proofs.Math.Nat.{add-mul-mod_self_right, mod-eq_of_lt, mul-le-mul_left, mul-le-mul_right}
use Rattle.flux_trial.specs.Hole.{ring_cell}
use Rattle.flux_trial.specs.declared.head.Head.{Head}
use Rattle.flux_trial.specs.declared.hole.Hole.{Hole}
use Rattle.flux_trial.specs.inside.Heads.{AreBefore, IsSound, passed, passed_all, reach, seen_time, seen_times}

pub passed_all-append : (head : Head) (xs ys : List ℕ) → passed_all head (xs ++ ys) ≡ passed_all (passed_all head xs) ys
passed_all-append head [] ys = refl
passed_all-append head (x ∷ xs) ys = passed_all-append (passed head x) xs ys

pub seen_times-append : (hole : Hole) (head : Head) (xs ys : List ℕ)
    → seen_times hole head (xs ++ ys) ≡ seen_times hole head xs ++ seen_times hole (passed_all head xs) ys
seen_times-append hole head [] ys = refl
seen_times-append hole head (x ∷ xs) ys =
    ap (λ l. seen_time hole (ring_cell hole.ring x) (passed head x) ++ l) (seen_times-append hole (passed head x) xs ys)
    ∙ sym (append_assoc (seen_time hole (ring_cell hole.ring x) (passed head x)) (seen_times hole (passed head x) xs) (seen_times hole (passed_all (passed head x) xs) ys))

-- more cells further, more than a tick for each
pub reach-later : (head : Head) (a b : ℕ) → IsSound head → head.cell ≤ a → a ≤ b → reach head a + 1024 * (b - a) ≤ reach head b
reach-later head a b sound before order =
    let x : ℕ = a - head.cell in
    let y : ℕ = b - a in
    let both : b - head.cell ≡ x + y = omega (arith, before, order) in
    let long : 1024 ≤ head.period = omega (arith, sound.way, sound.low) in
    let step : y * 1024 ≤ y * head.period = mul-le-mul_left y long in
    let split : (x + y) * head.period ≡ x * head.period + y * head.period = grind arith in
    let whole : (b - head.cell) * head.period ≡ (x + y) * head.period = ap (λ (n : ℕ). n * head.period) both in
    omega (arith, step, split, whole)

-- one more transition is at least a period further
pub passed-later : (head : Head) (cell : ℕ) → head.cell < cell → head.ideal + head.period ≤ (passed head cell).ideal
passed-later head cell later =
    let some : 1 ≤ cell - head.cell = omega (arith, later) in
    let product : 1 * head.period ≤ (cell - head.cell) * head.period = mul-le-mul_right head.period some in
    omega (arith, product)

-- the times before one more transition are before its own, however both are displaced
pub before-next : (head : Head) (cell : ℕ) (times : List ℕ) → IsSound head → head.cell < cell → AreBefore head times
    → All (λ time. 1024 * time + head.most_way ≤ (passed head cell).ideal) times
before-next head cell times sound later before k d within =
    omega (arith, before k d within, passed-later head cell later, sound.way, sound.low)

-- a cell of the ring after another
pub on_ring : (ring place number one turns : ℕ) → number + ring - ring / 4 ≡ place + turns * ring → place ≤ one → one < ring
    → ring_cell ring (number + (one - place)) ≡ one
on_ring ring place number one turns is order within =
    let same : number + (one - place) + ring - ring / 4 ≡ one + turns * ring = omega (arith, is, order) in
    ap (λ (n : ℕ). n % ring) same ∙ add-mul-mod_self_right one turns ring ∙ mod-eq_of_lt within

-- one more transition of a part of a ring
module _ (h0 head : Head) (hole : Hole) (times0 times : List ℕ) (xs : List ℕ) (K : ℕ) (is : head ≡ passed_all h0 xs) where
  pub next_head : passed head K ≡ passed_all h0 (xs ++ K ∷ [])
  next_head = ap (λ (h : Head). passed h K) is ∙ sym (passed_all-append h0 xs (K ∷ []))

  pub next_times : (one : ℕ) → ring_cell hole.ring K ≡ one → times ≡ times0 ++ seen_times hole h0 xs
      → times ++ seen_time hole one (passed head K) ≡ times0 ++ seen_times hole h0 (xs ++ K ∷ [])
  next_times one at all =
      let last : seen_time hole one (passed head K) ≡ seen_times hole (passed_all h0 xs) (K ∷ []) =
      ap (λ (n : ℕ). seen_time hole n (passed head K)) (sym at)
      ∙ ap (λ (h : Head). seen_time hole (ring_cell hole.ring K) (passed h K)) is
      ∙ sym (append-nil (seen_time hole (ring_cell hole.ring K) (passed (passed_all h0 xs) K))) in
      ap (λ (l : List ℕ). l ++ seen_time hole one (passed head K)) all
      ∙ append_assoc times0 (seen_times hole h0 xs) (seen_time hole one (passed head K))
      ∙ ap (λ (l : List ℕ). times0 ++ (seen_times hole h0 xs ++ l)) last
      ∙ ap (λ (l : List ℕ). times0 ++ l) (sym (seen_times-append hole h0 xs (K ∷ [])))

pub next_reach : (h0 head : Head) (start here K : ℕ) → IsSound head → IsSound (passed head K) → head.cell ≤ here → here ≤ K → start ≤ here
    → reach h0 start + 1024 * (here - start) ≤ reach head here → reach h0 start + 1024 * (K + 1 - start) ≤ reach (passed head K) (K + 1)
next_reach h0 head start here K sound sound' at order begun so_far =
    let way = reach-later head here K sound at order in
    let one = reach-later (passed head K) K (K + 1) sound' (omega arith) (omega arith) in
    let none : (K - K) * (passed head K).period ≡ 0 = (let z : K - K ≡ 0 = omega arith in ap (λ (n : ℕ). n * (passed head K).period) z ∙ (omega arith)) in
    omega (arith, way, one, none, so_far, order, begun)
