-- A part of the repeated ring that begins where a part of the ring itself begins.
use Rattle.std.specs.Prelude.{◌≡◌, ℕ, zero, suc, ◌+◌, ◌-◌, ◌%◌, ◌<◌, ◌≤◌, Bool, false, List, []}
use Rattle.std.specs.Prelude.{◌∷◌, ◌++◌, length, drop, get_or}
use Rattle.std.proofs.Common.{ap, sym, ◌∙◌, arith, add-one, append_assoc, length-append}
use Rattle.std.proofs.Math.Nat.{mod-eq_of_lt, suc-mod}
use Rattle.std.proofs.Math.Seq.{get_or-append_seam}
use Rattle.track_rings.specs.Rings.{LiesAt, cell_of, stretch}

stretch-same : (ring : List Bool) (m n j k : ℕ) → m ≡ n → j ≡ k
    → stretch ring m j ≡ stretch ring n k
stretch-same ring m n j k first second =
    ap (λ (from : ℕ). stretch ring from j) first ∙ ap (stretch ring n) second

-- two stretches, of which one begins where the other ends
pub stretch-append : (ring : List Bool) (from m n : ℕ)
    → stretch ring from (m + n) ≡ stretch ring from m ++ stretch ring (from + m) n
unfolding stretch
stretch-append ring from zero n =
    stretch-same ring from (from + 0) (0 + n) n (omega arith) (omega arith)
stretch-append ring from (suc m) n =
    stretch-same ring from from (suc m + n) (suc (m + n)) (omega arith) (omega arith)
    ∙ ap (λ (cells : List Bool). cell_of ring from ∷ cells)
    (stretch-append ring (from + 1) m n
    ∙ ap (λ (cells : List Bool). stretch ring (from + 1) m ++ cells)
    (stretch-same ring (from + 1 + m) (from + suc m) n n (omega arith) (omega arith)))

pub drop-stretch : (place : ℕ) (ring : List Bool) (from count : ℕ) → place ≤ count
    → drop place (stretch ring from count) ≡ stretch ring (from + place) (count - place)
unfolding stretch
drop-stretch zero ring from count within =
    stretch-same ring from (from + 0) count (count - 0) (omega arith) (omega arith)
drop-stretch (suc place) ring from zero within = absurd (omega arith)
drop-stretch (suc place) ring from (suc count) within =
    drop-stretch place ring (from + 1) count (omega arith)
    ∙ stretch-same ring (from + 1 + place) (from + suc place) (count - place)
    (suc count - suc place) (omega arith) (omega arith)

-- the ring's own cells, as far as they go
pub stretch-part : (part : List Bool) (ring before rest : List Bool) (from count : ℕ)
    → ring ≡ before ++ (part ++ rest)
    → (0 < length part → from % length ring ≡ length before) → length part ≤ count
    → stretch ring from count ≡ part ++ stretch ring (from + length part) (count - length part)
unfolding stretch
stretch-part [] ring before rest from count is here within =
    stretch-same ring from (from + 0) count (count - 0) (omega arith) (omega arith)
stretch-part (cell ∷ part) ring before rest from zero is here within = absurd (omega arith)
stretch-part (cell ∷ part) ring before rest from (suc count) is here within =
    let m = length ring in
    let begin : from % m ≡ length before = here (omega arith) in
    let same : cell_of ring from ≡ cell =
    ap (λ (n : ℕ). get_or ring n false) begin
    ∙ ap (λ (cells : List Bool). get_or cells (length before) false) is
    ∙ get_or-append_seam before cell (part ++ rest) false in
    let longer : ring ≡ (before ++ cell ∷ []) ++ (part ++ rest) =
    is ∙ sym (append_assoc before (cell ∷ []) (part ++ rest)) in
    let size : length (before ++ cell ∷ []) ≡ length before + 1 =
    length-append before (cell ∷ []) in
    let all = ap length longer ∙ length-append (before ++ cell ∷ []) (part ++ rest) in
    let more = length-append part rest in
    let next : 0 < length part → (from + 1) % m ≡ length (before ++ cell ∷ []) = λ some.
    let inside : suc (length before) < m = omega (arith, size, all, more, some) in
    ap (λ (n : ℕ). n % m) (add-one from) ∙ suc-mod from m ∙ ap (λ (n : ℕ). suc n % m) begin
    ∙ mod-eq_of_lt inside ∙ (omega (arith, size)) in
    let rest_is = stretch-part part ring (before ++ cell ∷ []) rest (from + 1) count longer next
    (omega arith) in
    ap (λ (first : Bool). first ∷ stretch ring (from + 1) count) same
    ∙ ap (λ (cells : List Bool). cell ∷ cells)
    (rest_is ∙ ap (λ (cells : List Bool). part ++ cells)
    (stretch-same ring (from + 1 + length part) (from + length (cell ∷ part)) (count - length part)
    (suc count - length (cell ∷ part)) (omega arith) (omega arith)))

-- a part of the ring stands wherever it lies whole in a stretch
pub frame-stands : (before frame behind ring : List Bool) (cells begin size from count place : ℕ)
    → ring ≡ before ++ (frame ++ behind)
    → length ring ≡ cells → length before ≡ begin → length frame ≡ size
    → LiesAt cells begin size from count place
    → (rest : List Bool) × (drop place (stretch ring from count) ≡ frame ++ rest)
frame-stands before frame behind ring cells begin size from count place parts is at long lies =
    let here : (from + place) % length ring ≡ length before =
    ap (λ (n : ℕ). (from + place) % n) is ∙ lies.same ∙ sym at in
    let within : place ≤ count = omega (arith, lies.whole) in
    let room : length frame ≤ count - place = omega (arith, lies.whole, long) in (
      stretch ring (from + place + length frame) (count - place - length frame),
      drop-stretch place ring from count within
          ∙ stretch-part frame ring before behind (from + place) (count - place) parts
          (λ some. here) room,
    )
