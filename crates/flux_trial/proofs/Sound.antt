-- A head keeps to its bounds over all transitions, and the times of those that are seen are in order.
use Rattle.std.proofs.Common.{◌≡◌, ◌≤◌, ◌<◌, ◌+◌, ◌-◌, ◌*◌, ◌/◌, ◌%◌, ◌++◌, ◌&&◌, ℕ, zero, suc, Bool, true, false, cond, List, [], ◌∷◌, All, length, get_or, refl, ap, sym, ◌∙◌, arith, length-append}
use Rattle.std.specs.Prelude.{nat_le}
use Rattle.std.specs.List.Sorted.{IsNonDecreasing}
use Rattle.std.proofs.lemmas.Bool.{leb-true}
use Rattle.std.proofs.lemmas.List.Elements.{All-append, All-cons, All-nil, All-weaker}
use Rattle.std.proofs.Math.Nat.{mod-lt, mul-le-mul_left, mul-le-mul_right}
use Rattle.flux_trial.specs.Drive.{Drive, base, most_drift, most_way}
use Rattle.flux_trial.specs.Hole.{ring_cell}
use Rattle.flux_trial.specs.declared.head.Head.{Head}
use Rattle.flux_trial.specs.declared.hole.Hole.{Hole}
use Rattle.flux_trial.specs.inside.Heads.{IsSound, in_hole, passed, passed_all, reach, seen_time, seen_times, started, time_at, LONGEST_CELL, MOST_CELLS}
use Rattle.flux_trial.proofs.Passing.{passed-later, reach-later}

-- the nominal cells of which a drive is made up
pub record IsUsual (d : Drive) : Type 0 where
  pub least : 16384 ≤ d.nominal
  pub most : d.nominal ≤ 131072

pub started-sound : (d : Drive) (cell : ℕ) → IsUsual d → cell < MOST_CELLS → IsSound (started d cell)
started-sound d cell usual few =
    let step : ℕ = d.nominal / 128 in
    let speed : ℕ = (d.seed + d.track) % 17 in
    let slow : speed < 17 = mod-lt (d.seed + d.track) {m = 17} (omega arith) in
    let most : speed * step ≤ 16 * step = mul-le-mul_right step (omega (arith, slow)) in
    let long : base d + most_drift d ≤ LONGEST_CELL = omega (arith, most, usual.most) in
    let far : (cell + 1) * base d ≤ (cell + 1) * LONGEST_CELL = mul-le-mul_left (cell + 1) (omega (arith, long)) in
    let near : 1 * base d ≤ (cell + 1) * base d = mul-le-mul_right (base d) (omega arith) in
    let way : 2 * most_way d + 1024 + most_drift d ≤ base d = omega (arith, usual.least) in record {
      chance = mod-lt (1103515245 * ((d.seed + 7919 * d.track) % 2147483648) + 12345) {m = 2147483648} (omega arith);
      way = way;
      low = omega arith;
      high = omega arith;
      longest = long;
      few = few;
      far = far;
      near = omega (arith, near, way);
    }

-- one more step of chance
pub kept : (a b : Bool) (next period low high : ℕ) → a ≡ nat_le low next → b ≡ nat_le next high → low ≤ period → period ≤ high
    → (low ≤ cond (a && b) next period) × (cond (a && b) next period ≤ high)
kept true true next period low high is_low is_high least most = (leb-true low next (sym is_low), leb-true next high (sym is_high))
kept true false next period low high is_low is_high least most = (least, most)
kept false b next period low high is_low is_high least most = (least, most)

pub passed-sound : (head : Head) (cell : ℕ) → IsSound head → head.cell < cell → cell < MOST_CELLS → IsSound (passed head cell)
passed-sound head cell sound later few =
    let next : ℕ = head.period + head.chance / 1048576 % 3 - 1 in
    let bounds = kept (nat_le (head.base - head.most_drift) next) (nat_le next (head.base + head.most_drift)) next head.period
    (head.base - head.most_drift) (head.base + head.most_drift) refl refl (omega (arith, sound.low)) sound.high in
    let ahead : ℕ = cell - head.cell in
    let steps : ahead * head.period ≤ ahead * LONGEST_CELL = mul-le-mul_left ahead (omega (arith, sound.high, sound.longest)) in
    let both : (cell + 1) * LONGEST_CELL ≡ (head.cell + 1) * LONGEST_CELL + ahead * LONGEST_CELL = omega (arith, later) in record {
      chance = mod-lt (1103515245 * head.chance + 12345) {m = 2147483648} (omega arith);
      way = sound.way;
      low = omega (arith, bounds.0, sound.way);
      high = bounds.1;
      longest = sound.longest;
      few = few;
      far = omega (arith, sound.far, steps, both);
      near = omega (arith, sound.near);
    }

-- the numbers rise from another on, and are few
abbrev pub Follows : ℕ → List ℕ → Type 0
Follows cell [] = Unit {0}
Follows cell (x ∷ xs) = (cell < x) × (x < MOST_CELLS) × Follows x xs

pub passed_all-sound : (head : Head) (xs : List ℕ) → IsSound head → Follows head.cell xs → IsSound (passed_all head xs)
passed_all-sound head [] sound follows = sound
passed_all-sound head (x ∷ xs) sound follows =
    passed_all-sound (passed head x) xs (passed-sound head x sound follows.0 follows.1) follows.2

pub time-late : (head : Head) → IsSound head → head.ideal ≤ 1024 * time_at head + head.most_way + 1023
time-late head sound = omega (arith, sound.near)

pub time-early : (head : Head) → IsSound head → 1024 * time_at head ≤ head.ideal + head.most_way
time-early head sound =
    let way : head.chance / 16 % (2 * head.most_way + 1) < 2 * head.most_way + 1 = mod-lt (head.chance / 16) {m = 2 * head.most_way + 1} (omega arith) in
    omega (arith, way, sound.near)

All-seen : (P : ℕ → Type 0) (lost : Bool) (time : ℕ) → P time → All P (cond lost [] (time ∷ []))
All-seen P true time is = All-nil P
All-seen P false time is = All-cons P time [] is (All-nil P)

-- all times after a transition are late enough, however both are displaced
pub seen-late : (hole : Hole) (head : Head) (xs : List ℕ) → IsSound head → Follows head.cell xs
    → All (λ time. head.ideal + head.most_way < 1024 * time + 1024) (seen_times hole head xs)
seen-late hole head [] sound follows = All-nil (λ time. head.ideal + head.most_way < 1024 * time + 1024)
seen-late hole head (x ∷ xs) sound follows =
    let P : ℕ → Type 0 = λ time. head.ideal + head.most_way < 1024 * time + 1024 in
    let next : Head = passed head x in
    let sound' = passed-sound head x sound follows.0 follows.1 in
    let further = passed-later head x follows.0 in
    let here : P (time_at next) = omega (arith, time-late next sound', further, sound.way, sound.low) in
    All-append P (seen_time hole (ring_cell hole.ring x) next) (seen_times hole next xs)
    (All-seen P (in_hole hole (ring_cell hole.ring x)) (time_at next) here)
    (All-weaker (λ time. next.ideal + next.most_way < 1024 * time + 1024) P (λ time late. omega (arith, late, further)) (seen_times hole next xs)
    (seen-late hole next xs sound' follows.2))

pub cons-in-order : (x : ℕ) (xs : List ℕ) → All (λ y. x ≤ y) xs → IsNonDecreasing xs → IsNonDecreasing (x ∷ xs)
cons-in-order x xs above order zero zero d before inside = omega arith
cons-in-order x xs above order zero (suc j) d before inside = above j d (omega (arith, inside))
cons-in-order x xs above order (suc i) zero d before inside = absurd (omega (arith, before))
cons-in-order x xs above order (suc i) (suc j) d before inside = order i j d (omega (arith, before)) (omega (arith, inside))

pub seen-first : (lost : Bool) (time : ℕ) (times : List ℕ) → All (λ y. time ≤ y) times → IsNonDecreasing times
    → IsNonDecreasing (cond lost [] (time ∷ []) ++ times)
seen-first true time times above order = order
seen-first false time times above order = cons-in-order time times above order

-- the times after a transition are not before its own
pub seen-after : (hole : Hole) (head : Head) (xs : List ℕ) → IsSound head → Follows head.cell xs
    → All (λ time. time_at head ≤ time) (seen_times hole head xs)
seen-after hole head xs sound follows =
    All-weaker (λ time. head.ideal + head.most_way < 1024 * time + 1024) (λ time. time_at head ≤ time)
    (λ time late. omega (arith, late, time-early head sound)) (seen_times hole head xs) (seen-late hole head xs sound follows)

pub seen-in-order : (hole : Hole) (head : Head) (xs : List ℕ) → IsSound head → Follows head.cell xs → IsNonDecreasing (seen_times hole head xs)
seen-in-order hole head [] sound follows = λ i j d before inside. absurd (omega (arith, inside))
seen-in-order hole head (x ∷ xs) sound follows =
    let next : Head = passed head x in
    let sound' = passed-sound head x sound follows.0 follows.1 in
    seen-first (in_hole hole (ring_cell hole.ring x)) (time_at next) (seen_times hole next xs) (seen-after hole next xs sound' follows.2)
    (seen-in-order hole next xs sound' follows.2)

-- how late the times are at most, and how many there are
abbrev pub LATEST : ℕ
LATEST = 268435456

time-small : (head : Head) → IsSound head → time_at head ≤ LATEST
time-small head sound =
    let few : head.cell + 1 ≤ MOST_CELLS = omega (arith, sound.few) in
    let most : (head.cell + 1) * LONGEST_CELL ≤ MOST_CELLS * LONGEST_CELL = mul-le-mul_right {n = MOST_CELLS} LONGEST_CELL few in
    omega (arith, time-early head sound, sound.far, most, sound.way, sound.longest)

pub seen-small : (hole : Hole) (head : Head) (xs : List ℕ) → IsSound head → Follows head.cell xs → All (λ time. time ≤ LATEST) (seen_times hole head xs)
seen-small hole head [] sound follows = All-nil (λ time. time ≤ LATEST)
seen-small hole head (x ∷ xs) sound follows =
    let next : Head = passed head x in
    let sound' = passed-sound head x sound follows.0 follows.1 in
    All-append (λ time. time ≤ LATEST) (seen_time hole (ring_cell hole.ring x) next) (seen_times hole next xs)
    (All-seen (λ time. time ≤ LATEST) (in_hole hole (ring_cell hole.ring x)) (time_at next) (time-small next sound'))
    (seen-small hole next xs sound' follows.2)

one_seen : (lost : Bool) (time : ℕ) → length (cond lost [] (time ∷ [])) ≤ 1
one_seen true time = omega arith
one_seen false time = omega arith

pub seen-few : (hole : Hole) (head : Head) (xs : List ℕ) → length (seen_times hole head xs) ≤ length xs
seen-few hole head [] = omega arith
seen-few hole head (x ∷ xs) =
    let next : Head = passed head x in
    let cell : ℕ = ring_cell hole.ring x in
    omega (arith, length-append (seen_time hole cell next) (seen_times hole next xs), one_seen (in_hole hole cell) (time_at next), seen-few hole next xs)

pub first-small : (hole : Hole) (head : Head) (xs : List ℕ) (cell : ℕ) → IsSound head → Follows head.cell xs
    → All (λ time. time ≤ LATEST) (seen_time hole cell head ++ seen_times hole head xs)
first-small hole head xs cell sound follows =
    All-append (λ time. time ≤ LATEST) (seen_time hole cell head) (seen_times hole head xs)
    (All-seen (λ time. time ≤ LATEST) (in_hole hole cell) (time_at head) (time-small head sound)) (seen-small hole head xs sound follows)

pub first-few : (hole : Hole) (head : Head) (xs : List ℕ) (cell : ℕ) → length (seen_time hole cell head ++ seen_times hole head xs) ≤ length xs + 1
first-few hole head xs cell =
    omega (arith, length-append (seen_time hole cell head) (seen_times hole head xs), one_seen (in_hole hole cell) (time_at head), seen-few hole head xs)

rest_above : (xs : List ℕ) (x k d : ℕ) → Follows x xs → k < length xs → x ≤ get_or xs k d
rest_above [] x k d follows within = absurd (omega (arith, within))
rest_above (y ∷ ys) x zero d follows within = omega (arith, follows.0)
rest_above (y ∷ ys) x (suc k) d follows within = omega (arith, follows.0, rest_above ys y k d follows.2 (omega (arith, within)))

rest_inside : (xs : List ℕ) (x a b : ℕ) → Follows x xs → All (λ y. (a ≤ y) × (y ≤ b)) xs → All (λ y. (x ≤ y) × (y ≤ b)) xs
rest_inside xs x a b follows inside k d within = (rest_above xs x k d follows within, (inside k d within).1)

-- the ideal place of a cell after transitions
pub reach-all : (head : Head) (xs : List ℕ) (a b : ℕ) → IsSound head → Follows head.cell xs → head.cell ≤ a → a ≤ b
    → All (λ x. (a ≤ x) × (x ≤ b)) xs → reach head a + 1024 * (b - a) ≤ reach (passed_all head xs) b
reach-all head [] a b sound follows at order inside = reach-later head a b sound at order
reach-all head (x ∷ xs) a b sound follows at order inside =
    let here = inside 0 0 (omega arith) in
    let next : Head = passed head x in
    let sound' = passed-sound head x sound follows.0 follows.1 in
    let nothing : (x - x) * next.period ≡ 0 = (let z : x - x ≡ 0 = omega arith in ap (λ (n : ℕ). n * next.period) z ∙ (omega arith)) in
    let rest = reach-all next xs x b sound' follows.2 (omega arith) here.1 (rest_inside xs x a b follows.2 (λ k d within. inside (suc k) d (omega (arith, within)))) in
    omega (arith, reach-later head a x sound at here.0, nothing, rest, here.0, here.1)

-- more cells further, by the slowest and the fastest periods
further-near : (head : Head) (a b : ℕ) → IsSound head → head.cell ≤ a → a ≤ b
    → (reach head a + (b - a) * (head.base - head.most_drift) ≤ reach head b) × (reach head b ≤ reach head a + (b - a) * (head.base + head.most_drift))
further-near head a b sound at order =
    let x : ℕ = a - head.cell in
    let y : ℕ = b - a in
    let both : b - head.cell ≡ x + y = omega (arith, at, order) in
    let low : y * (head.base - head.most_drift) ≤ y * head.period = mul-le-mul_left y (omega (arith, sound.low)) in
    let high : y * head.period ≤ y * (head.base + head.most_drift) = mul-le-mul_left y sound.high in
    let split : (x + y) * head.period ≡ x * head.period + y * head.period = grind arith in
    let whole : (b - head.cell) * head.period ≡ (x + y) * head.period = ap (λ (n : ℕ). n * head.period) both in
    (omega (arith, low, split, whole), omega (arith, high, split, whole))

-- the same after transitions
pub reach-near : (head : Head) (xs : List ℕ) (a b : ℕ) → IsSound head → Follows head.cell xs → head.cell ≤ a → a ≤ b → All (λ x. (a ≤ x) × (x ≤ b)) xs
    → (reach head a + (b - a) * (head.base - head.most_drift) ≤ reach (passed_all head xs) b)
    × (reach (passed_all head xs) b ≤ reach head a + (b - a) * (head.base + head.most_drift))
reach-near head [] a b sound follows at order inside = further-near head a b sound at order
reach-near head (x ∷ xs) a b sound follows at order inside =
    let here = inside 0 0 (omega arith) in
    let next : Head = passed head x in
    let sound' = passed-sound head x sound follows.0 follows.1 in
    let nothing : (x - x) * next.period ≡ 0 = (let z : x - x ≡ 0 = omega arith in ap (λ (n : ℕ). n * next.period) z ∙ (omega arith)) in
    let rest = reach-near next xs x b sound' follows.2 (omega arith) here.1 (rest_inside xs x a b follows.2 (λ k d within. inside (suc k) d (omega (arith, within)))) in
    let way = further-near head a x sound at here.0 in
    let slow : ℕ = head.base - head.most_drift in
    let fast : ℕ = head.base + head.most_drift in
    let p : ℕ = x - a in
    let q : ℕ = b - x in
    let both : b - a ≡ p + q = omega (arith, here.0, here.1) in
    let slowly : (b - a) * slow ≡ p * slow + q * slow = (let split : (p + q) * slow ≡ p * slow + q * slow = grind arith in ap (λ (n : ℕ). n * slow) both ∙ split) in
    let fastly : (b - a) * fast ≡ p * fast + q * fast = (let split : (p + q) * fast ≡ p * fast + q * fast = grind arith in ap (λ (n : ℕ). n * fast) both ∙ split) in
    (omega (arith, way.0, rest.0, nothing, slowly), omega (arith, way.1, rest.1, nothing, fastly))
