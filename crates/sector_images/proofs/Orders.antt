-- The tracks of any number of cylinders and heads, in either order: which has which number, and what stands before one.
use Rattle.std.specs.Prelude.{◌≡◌, ℕ, suc, ◌+◌, ◌-◌, ◌*◌, ◌/◌, ◌%◌, ◌<◌, ◌≤◌, length, filter, take, sum_by, get_or, refl}
use Rattle.std.proofs.Common.{ap, subst, ◌∙◌, arith}
use Rattle.std.proofs.Math.Nat.{add-mul, mul_comm, suc-mul}
use Rattle.std.proofs.lemmas.Nat.{div-add-mod'}
use Rattle.flux_base.specs.declared.track.TrackId.{TrackId}
use Rattle.sector_images.specs.declared.format.Format.{Format}
use Rattle.sector_images.specs.declared.format.TrackOrder.{TrackOrder}
use Rattle.sector_images.specs.declared.format.TrackOrder.TheVariants.{ByCylinder, ByHead}
use Rattle.sector_images.specs.Formats.{row, zone}
use Rattle.sector_images.specs.Places.{IsTrack, bytes_of, comes_before, sectors_before, sectors_before_track, tracks_by}
use Rattle.flux_base.specs.lemmas.Grids.{before-number, column-low, get-number, length-grid, row-low, weighs, weighs-all}

-- the track of a number: each cylinder has so many heads, or each head so many cylinders
abbrev pub numbered : TrackOrder → (cylinders heads number : ℕ) → TrackId
numbered ByCylinder cylinders heads number = record { cylinder = number / heads; head = number % heads }
numbered ByHead cylinders heads number = record { cylinder = number % cylinders; head = number / cylinders }

-- the track of a row and a column
abbrev by_cylinder : ℕ → ℕ → TrackId
by_cylinder cylinder head = record { cylinder = cylinder; head = head }

abbrev by_head : ℕ → ℕ → TrackId
by_head head cylinder = record { cylinder = cylinder; head = head }

module _ (cylinders heads : ℕ) where
  turned : (n : ℕ) → n < cylinders * heads → n < heads * cylinders
  turned n below = subst (λ (m : ℕ). n < m) (mul_comm cylinders heads) below

  pub length_tracks : (order : TrackOrder) → length (tracks_by order cylinders heads) ≡ cylinders * heads
  length_tracks ByCylinder = length-grid by_cylinder heads cylinders
  length_tracks ByHead = length-grid by_head cylinders heads ∙ mul_comm heads cylinders

  pub track_of : (order : TrackOrder) (n : ℕ) (d : TrackId) → n < cylinders * heads → get_or (tracks_by order cylinders heads) n d ≡ numbered order cylinders heads n
  track_of ByCylinder n d below = get-number by_cylinder heads cylinders n below d
  track_of ByHead n d below = get-number by_head cylinders heads n (turned n below) d

  pub number_within : (order : TrackOrder) (n : ℕ) → n < cylinders * heads
      → let t = numbered order cylinders heads n in (t.cylinder < cylinders) × (t.head < heads)
  number_within ByCylinder n below = (row-low by_cylinder heads cylinders n below, column-low by_cylinder heads cylinders n below)
  number_within ByHead n below = (column-low by_head cylinders heads n (turned n below), row-low by_head cylinders heads n (turned n below))

  -- the tracks before one are those of smaller numbers
  pub before_track : (order : TrackOrder) (n : ℕ) → n < cylinders * heads
      → filter (λ t. comes_before order t (numbered order cylinders heads n)) (tracks_by order cylinders heads) ≡ take n (tracks_by order cylinders heads)
  before_track ByCylinder n below =
      before-number by_cylinder heads (comes_before ByCylinder) (λ r c r' c'. refl) cylinders (n / heads) (n % heads)
      (number_within ByCylinder n below).0 (number_within ByCylinder n below).1
      ∙ ap (λ (k : ℕ). take k (tracks_by ByCylinder cylinders heads)) (div-add-mod' n heads)
  before_track ByHead n below =
      before-number by_head cylinders (comes_before ByHead) (λ r c r' c'. refl) heads (n / cylinders) (n % cylinders)
      (number_within ByHead n below).1 (number_within ByHead n below).0
      ∙ ap (λ (k : ℕ). take k (tracks_by ByHead cylinders heads)) (div-add-mod' n cylinders)

-- one more in a sum of products
next_of : (before count each : ℕ) → before + suc count * each ≡ before + count * each + each
next_of before count each = let e = suc-mul count each in omega (arith, e)

-- a whole row of so many, and none of the next one
row_of : (before each width other : ℕ) → (before + each) * width + 0 * other ≡ before * width + width * each
row_of before each width other =
    let e = add-mul before each width in
    let none : 0 * other ≡ 0 = omega arith in
    omega (arith, e, none, mul_comm each width)

module _ (f : Format) where
  abbrev size : ℕ
  size = (row f).sector_size

  -- the sectors before a track of so many cylinders and heads before it
  abbrev by_cylinder_before : ℕ → ℕ → ℕ
  by_cylinder_before cylinder head = (sectors_before f cylinder * (row f).heads + head * (zone f cylinder).sectors) * size

  abbrev by_head_before : ℕ → ℕ → ℕ
  by_head_before head cylinder = (head * sectors_before f (row f).cylinders + sectors_before f cylinder) * size

  nothing : (n : ℕ) → n ≡ 0 → n * size ≡ 0
  nothing n is = let none : 0 * size ≡ 0 = omega arith in ap (λ (m : ℕ). m * size) is ∙ none

  module _ (make : ℕ → ℕ → TrackId) (columns rows : ℕ) (before : ℕ → ℕ → ℕ) where
    -- what is before a track grows with each track by its bytes
    record Grows : Type 0 where
      none : before 0 0 ≡ 0
      rise : (r : ℕ) → before (suc r) 0 ≡ before r columns
      step : (r c : ℕ) → c < columns → before r (suc c) ≡ before r c + bytes_of f (make r c)

  by_cylinder_grows : Grows by_cylinder (row f).heads (row f).cylinders by_cylinder_before
  unfolding sectors_before
  by_cylinder_grows = record {
    none = zeros (row f).heads (zone f 0).sectors;
    rise = λ c. ap (λ (n : ℕ). n * size) (row_of (sectors_before f c) (zone f c).sectors (row f).heads (zone f (suc c)).sectors);
    step = λ c h low.
        let whole : ℕ = sectors_before f c * (row f).heads in
        let each : ℕ = (zone f c).sectors in
        ap (λ (n : ℕ). n * size) (next_of whole h each) ∙ add-mul (whole + h * each) each size;
  }
    where
      zeros : (width other : ℕ) → (0 * width + 0 * other) * size ≡ 0
      zeros width other = let a : 0 * width ≡ 0 = omega arith in let b : 0 * other ≡ 0 = omega arith in nothing (0 * width + 0 * other) (omega (arith, a, b))

  by_head_grows : Grows by_head (row f).cylinders (row f).heads by_head_before
  unfolding sectors_before
  by_head_grows = record {
    none = zeros (sectors_before f (row f).cylinders);
    rise = λ h. ap (λ (n : ℕ). n * size) (next h (sectors_before f (row f).cylinders));
    step = λ h c low.
        let whole : ℕ = h * sectors_before f (row f).cylinders in
        let each : ℕ = (zone f c).sectors in
        ap (λ (n : ℕ). n * size) (joined whole (sectors_before f c) each) ∙ add-mul (whole + sectors_before f c) each size;
  }
    where
      zeros : (whole : ℕ) → (0 * whole + 0) * size ≡ 0
      zeros whole = nothing (0 * whole + 0) (omega arith)

      next : (h whole : ℕ) → suc h * whole + 0 ≡ h * whole + whole
      next h whole = let e = suc-mul h whole in omega (arith, e)

      joined : (a b c : ℕ) → a + (b + c) ≡ a + b + c
      joined a b c = omega arith

  -- the bytes of the tracks before one
  pub bytes_before : (order : TrackOrder) (t : TrackId) → IsTrack f t
      → sum_by (bytes_of f) (filter (λ u. comes_before order u t) (tracks_by order (row f).cylinders (row f).heads)) ≡ sectors_before_track order f t * size
  bytes_before ByCylinder t known =
      ap (sum_by (bytes_of f))
      (before-number by_cylinder (row f).heads (comes_before ByCylinder) (λ r c r' c'. refl) (row f).cylinders t.cylinder t.head known.0 known.1)
      ∙ weighs by_cylinder (row f).heads (bytes_of f) (row f).cylinders t by_cylinder_before by_cylinder_grows.none by_cylinder_grows.rise
      by_cylinder_grows.step t.cylinder t.head known.0 (omega (arith, known.1))
  bytes_before ByHead t known =
      ap (sum_by (bytes_of f))
      (before-number by_head (row f).cylinders (comes_before ByHead) (λ r c r' c'. refl) (row f).heads t.head t.cylinder known.1 known.0)
      ∙ weighs by_head (row f).cylinders (bytes_of f) (row f).heads t by_head_before by_head_grows.none by_head_grows.rise
      by_head_grows.step t.head t.cylinder known.1 (omega (arith, known.0))

  -- the bytes of all tracks
  pub bytes_of_all : (order : TrackOrder) → 1 ≤ (row f).cylinders → 1 ≤ (row f).heads
      → sum_by (bytes_of f) (tracks_by order (row f).cylinders (row f).heads) ≡ sectors_before f (row f).cylinders * (row f).heads * size
  unfolding sectors_before
  bytes_of_all ByCylinder some some_heads =
      weighs-all by_cylinder (row f).heads (bytes_of f) (row f).cylinders (by_cylinder 0 0) by_cylinder_before by_cylinder_grows.none
      by_cylinder_grows.rise by_cylinder_grows.step ((row f).cylinders - 1) (omega (arith, some))
      ∙ ap (λ (n : ℕ). n * size) (last (sectors_before f (row f).cylinders * (row f).heads) (zone f (row f).cylinders).sectors)
    where
      last : (all other : ℕ) → all + 0 * other ≡ all
      last all other = let none : 0 * other ≡ 0 = omega arith in omega (arith, none)
  bytes_of_all ByHead some some_heads =
      weighs-all by_head (row f).cylinders (bytes_of f) (row f).heads (by_head 0 0) by_head_before by_head_grows.none
      by_head_grows.rise by_head_grows.step ((row f).heads - 1) (omega (arith, some_heads))
      ∙ ap (λ (n : ℕ). n * size) (last (row f).heads (sectors_before f (row f).cylinders))
    where
      last : (h whole : ℕ) → h * whole + 0 ≡ whole * h
      last h whole = omega (arith, mul_comm h whole)
