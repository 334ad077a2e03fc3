-- Where a sector's bytes stand in an image that is made of parts, one for each track.
use Rattle.std.specs.Prelude.{◌≡◌, ◌≤◌, ◌<◌, ℕ, zero, suc, ◌+◌, ◌-◌, ◌*◌, List, [], ◌∷◌, ◌++◌, drop, flat_map, length, slice_get, sum_by, take, unwrap_or, refl}
use Rattle.std.specs.List.{range_with_len}
use Rattle.std.proofs.Common.{ap, sym, ◌∙◌, arith, length-append, length-drop}
use Rattle.std.proofs.Math.Nat.{mul-le-mul_left}
use Rattle.std.proofs.Math.Seq.{drop-append_seam, take-append_seam}
use Rattle.std.proofs.lemmas.List.{drop-append-le, drop-drop, take-append-le}
use Rattle.std.proofs.lemmas.List.Sums.{sum_by-cons}
use Rattle.flux_base.specs.declared.track.TrackId.{TrackId}
use Rattle.track_rings.specs.lemmas.SectorParts.{sectors-length}
use Rattle.flux_engine.specs.Disks.{images, part_at}
use Rattle.flux_engine.specs.Tracks.{TrackPart}
use Rattle.flux_engine.specs.lemmas.Pieces.{pieces-at}

abbrev pub nth_track : List TrackId → ℕ → TrackId
nth_track ts n = unwrap_or (slice_get ts n) (record { cylinder = 0; head = 0 })

-- what stands at a place of a part stands as far behind the sizes of the parts before it
pub stands_in_part : (size : TrackId → ℕ) (ts : List TrackId) (parts : List TrackPart) → length parts ≤ length ts
    → ((n : ℕ) → n < length parts → length (part_at parts n).image ≡ size (nth_track ts n))
    → (n at many : ℕ) → n < length parts → at + many ≤ size (nth_track ts n)
    → take many (drop (sum_by size (take n ts) + at) (images parts)) ≡ take many (drop at (part_at parts n).image)
stands_in_part size ts [] same sizes n at many low within = absurd (omega (arith, low))
stands_in_part size [] (part ∷ parts) same sizes n at many low within = absurd (omega (arith, same))
stands_in_part size (t ∷ ts) (part ∷ parts) same sizes zero at many low within =
    let whole : length part.image ≡ size t = sizes 0 (omega arith) in
    let left = length-drop at part.image in
    let none : sum_by size (take 0 (t ∷ ts)) + at ≡ at = omega arith in
    ap (λ (k : ℕ). take many (drop k (part.image ++ images parts))) none
    ∙ ap (take many) (drop-append-le at part.image (images parts) (omega (arith, whole, within)))
    ∙ take-append-le many (drop at part.image) (images parts) (omega (arith, whole, left, within))
stands_in_part size (t ∷ ts) (part ∷ parts) same sizes (suc n) at many low within =
    let whole : length part.image ≡ size t = sizes 0 (omega arith) in
    let more = sum_by-cons size t (take n ts) in
    let there : sum_by size (take (suc n) (t ∷ ts)) + at ≡ length part.image + (sum_by size (take n ts) + at) = omega (arith, whole, more) in
    ap (λ (k : ℕ). take many (drop k (part.image ++ images parts))) there
    ∙ ap (take many)
    (sym (drop-drop (sum_by size (take n ts) + at) (length part.image) (part.image ++ images parts))
    ∙ ap (drop (sum_by size (take n ts) + at)) (drop-append_seam part.image (images parts)))
    ∙ stands_in_part size ts parts (omega (arith, same)) (λ k below. sizes (suc k) (omega (arith, below))) n at many (omega (arith, low)) within

-- what begins at one of so many places of one size ends within them all
pub one_more : (size k count : ℕ) → k < count → size * k + size ≤ count * size
one_more size k count low =
    let all : size * (k + 1) ≤ size * count = mul-le-mul_left size (omega (arith, low)) in
    let last : size * (k + 1) ≡ size * k + size = omega arith in
    let turned : size * count ≡ count * size = omega arith in
    omega (arith, all, last, turned)

-- pieces of one size
module _ (size : ℕ) (f : ℕ → List ℕ) (count : ℕ) (sizes : (k : ℕ) → k < count → length (f k) ≡ size) where
  pub pieces_size : length (flat_map f (range_with_len 0 count)) ≡ count * size
  pieces_size = sectors-length f size 0 count (λ k least most. sizes k (omega (arith, most)))

  -- each stands at its place
  pub piece_at : (k : ℕ) → k < count → take size (drop (size * k) (flat_map f (range_with_len 0 count))) ≡ f k
  piece_at k low =
      let before : List ℕ = flat_map f (range_with_len 0 k) in
      let here : List ℕ = f (0 + k) in
      let rest : List ℕ = flat_map f (range_with_len (0 + k + 1) (count - k - 1)) in
      let same : 0 + k ≡ k = omega arith in
      let turned : k * size ≡ size * k = omega arith in
      let front : length before ≡ size * k = sectors-length f size 0 k (λ j least most. sizes j (omega (arith, most, low))) ∙ turned in
      let mine : length here ≡ size = ap (λ (j : ℕ). length (f j)) same ∙ sizes k low in
      ap (λ (xs : List ℕ). take size (drop (size * k) xs)) (pieces-at f 0 k count low)
      ∙ ap (λ (m : ℕ). take size (drop m (before ++ (here ++ rest)))) (sym front)
      ∙ ap (take size) (drop-append_seam before (here ++ rest))
      ∙ ap (λ (m : ℕ). take m (here ++ rest)) (sym mine)
      ∙ take-append_seam here rest
      ∙ ap f same

-- the image of all tracks has as many bytes as they have together
pub images_size : (size : TrackId → ℕ) (ts : List TrackId) (parts : List TrackPart) → length parts ≡ length ts
    → ((n : ℕ) → n < length parts → length (part_at parts n).image ≡ size (nth_track ts n))
    → length (images parts) ≡ sum_by size ts
images_size size [] [] same sizes = refl
images_size size [] (part ∷ parts) same sizes = absurd (omega (arith, same))
images_size size (t ∷ ts) [] same sizes = absurd (omega (arith, same))
images_size size (t ∷ ts) (part ∷ parts) same sizes =
    let here : length part.image ≡ size t = sizes 0 (omega arith) in
    let rest = images_size size ts parts (omega (arith, same)) (λ k below. sizes (suc k) (omega (arith, below))) in
    let both = length-append part.image (images parts) in
    omega (arith, here, rest, both, sum_by-cons size t ts)

-- that of the first tracks has no more
pub images_few : (size : TrackId → ℕ) (ts : List TrackId) (parts : List TrackPart) → length parts ≤ length ts
    → ((n : ℕ) → n < length parts → length (part_at parts n).image ≡ size (nth_track ts n))
    → length (images parts) ≤ sum_by size ts
images_few size ts [] few sizes = omega arith
images_few size [] (part ∷ parts) few sizes = absurd (omega (arith, few))
images_few size (t ∷ ts) (part ∷ parts) few sizes =
    let here : length part.image ≡ size t = sizes 0 (omega arith) in
    let rest = images_few size ts parts (omega (arith, few)) (λ k below. sizes (suc k) (omega (arith, below))) in
    let both = length-append part.image (images parts) in
    omega (arith, here, rest, both, sum_by-cons size t ts)
