-- Where the tracks of each format lie.
use Rattle.std.proofs.Common.{◌≡◌, ℕ, suc, ◌+◌, ◌*◌, ◌<◌, ◌≤◌, ◌^◌, Bool, true, length, map, get_or, slice_get, sum_by, take, Some, refl, subst, sym, ◌∙◌, ap, arith}
use Rattle.std.specs.List.{list_all, range_with_len}
use Rattle.std.specs.Prelude.{nat_eq, nat_lt}
use Rattle.std.proofs.Math.Nat.{mul-le-mul_left, mul-le-mul_right, suc-mul, zero-div, zero-mod}
use Rattle.std.proofs.lemmas.Bool.{eq-eqb, eqb-true, lt-ltb, ltb-true}
use Rattle.std.proofs.lemmas.Nat.{div-mul-add, mod-mul-add}
use Rattle.std.proofs.lemmas.Option.{get_or_from_slice_get, slice_get-get_or, slice_get_within}
use Rattle.flux_base.specs.Bounds.{MOST_SECTOR_BYTES, MOST_TRACK_BYTES}
use Rattle.flux_base.specs.declared.track.TrackId.{TrackId}
use Rattle.ibm_disks.specs.Disks.{cylinders_of, heads_of, track_of_disk}
use Rattle.ibm_disks.specs.Numbers.{size_of}
use Rattle.ibm_disks.specs.declared.disk.IbmDisk.{IbmDisk}
use Rattle.ibm_disks.specs.lemmas.DiskLaws.{all_have_disks}
use Rattle.ibm_disks.specs.lemmas.NumberLaws.{size-most}
use Rattle.sector_images.specs.declared.format.Format.{Format}
use Rattle.sector_images.specs.declared.format.Format.TheVariants.{Numbered}
use Rattle.sector_images.specs.declared.format.TrackOrder.{TrackOrder}
use Rattle.sector_images.specs.declared.format.TrackOrder.TheVariants.{ByCylinder, ByHead}
use Rattle.sector_images.specs.Formats.{row, track_order, zone}
use Rattle.sector_images.specs.Places.{FormatsHaveTracks, ImagesAreSmall, IsTrack, TracksAreFew, TracksKeepBounds, tracks, bytes_of, place_of, sectors_before, sectors_before_track}
use Rattle.sector_images.proofs.EachFormat.{each_below, each_format, each_row, rows}
use Rattle.flux_base.specs.lemmas.Grids.{weigh-within}
use Rattle.sector_images.proofs.Numbered.{before_few, before_numbered, bounds_of, image_few, tracks_few}
use Rattle.sector_images.proofs.Orders.{before_track, bytes_before, bytes_of_all, length_tracks, number_within, numbered, track_of}

abbrev first_track : TrackId
first_track = record { cylinder = 0; head = 0 }

-- the track of a number in the list of a format's tracks, and by its order
abbrev listed : Format → ℕ → TrackId
listed f n = get_or (tracks f) n first_track

abbrev pub counted : Format → ℕ → TrackId
counted f n = numbered (track_order f) (row f).cylinders (row f).heads n

-- what holds of each format
some_cylinders_test : list_all (λ f. nat_lt 0 (row f).cylinders) rows ≡ true
some_cylinders_test = refl

some_test : list_all (λ f. nat_lt 0 (row f).heads) rows ≡ true
some_test = refl

two_test : list_all (λ f. nat_lt (row f).heads 3) rows ≡ true
two_test = refl

-- there is a cylinder at least
some_cylinders : (f : Format) → 1 ≤ (row f).cylinders
some_cylinders f =
    let some : 0 < (row f).cylinders = ltb-true _ _ (each_format (λ g. nat_lt 0 (row g).cylinders) some_cylinders_test (λ d. lt-ltb _ _ (let has = all_have_disks d in omega (arith, has.some_cylinders))) f) in
    omega (arith, some)

-- each cylinder has a head at least, and at most two
pub some_heads : (f : Format) → (1 ≤ (row f).heads) × ((row f).heads ≤ 2)
some_heads f =
    let some : 0 < (row f).heads = ltb-true _ _ (each_format (λ g. nat_lt 0 (row g).heads) some_test (λ d. lt-ltb _ _ (let has = all_have_disks d in omega (arith, has.some_heads))) f) in
    let two : (row f).heads < 3 = ltb-true _ _ (each_format (λ g. nat_lt (row g).heads 3) two_test (λ d. lt-ltb _ _ (let has = all_have_disks d in omega (arith, has.few_heads))) f) in
    (omega (arith, some), omega (arith, two))

sum_test : list_all (λ f. nat_eq (row f).image_size (sectors_before f (row f).cylinders * (row f).heads * (row f).sector_size)) rows ≡ true
unfolding sectors_before
sum_test = refl

pub size_is_sum : (f : Format) → (row f).image_size ≡ sum_by (bytes_of f) (tracks f)
size_is_sum f =
    eqb-true _ _
    (each_format (λ g. nat_eq (row g).image_size (sectors_before g (row g).cylinders * (row g).heads * (row g).sector_size)) sum_test
    (λ d. eq-eqb _ _ (ap (λ (n : ℕ). n * heads_of d * size_of (track_of_disk d).size) (sym (before_numbered d (cylinders_of d))))) f)
    ∙ sym (bytes_of_all f (track_order f) (some_cylinders f) (some_heads f).0)

pub track_number : (f : Format) → (row f).cylinders * (row f).heads ≡ length (tracks f)
track_number f = sym (length_tracks (row f).cylinders (row f).heads (track_order f))

small_test : list_all (λ f. nat_lt (row f).image_size (2 ^ 32)) rows ≡ true
small_test = refl

pub image_small : (f : Format) → (row f).image_size < 2 ^ 32
image_small f = ltb-true _ _ (each_format (λ g. nat_lt (row g).image_size (2 ^ 32)) small_test (λ d. lt-ltb _ _ (omega (arith, image_few d))) f)

-- there is a track at least
pub have_tracks : FormatsHaveTracks
have_tracks f =
    let some : (row f).cylinders * 1 ≤ (row f).cylinders * (row f).heads = mul-le-mul_left (row f).cylinders (some_heads f).0 in
    omega (arith, some, some_cylinders f, track_number f)

few_test : list_all (λ f. nat_lt ((row f).cylinders * (row f).heads) 1001) rows ≡ true
few_test = refl

pub few_tracks : TracksAreFew
few_tracks f =
    let few : (row f).cylinders * (row f).heads < 1001 = ltb-true _ _ (each_format (λ g. nat_lt ((row g).cylinders * (row g).heads) 1001) few_test (λ d. lt-ltb _ _ (omega (arith, tracks_few d))) f) in
    omega (arith, few, track_number f)

before_small_test : list_all (λ f. list_all (λ b. b) (map (λ c. nat_lt (sectors_before f c) 65536) (range_with_len 0 (suc (row f).cylinders)))) rows ≡ true
unfolding sectors_before
before_small_test = refl

-- few sectors stand before a cylinder
pub few_before : (f : Format) (c : ℕ) → c ≤ (row f).cylinders → sectors_before f c < 65536
few_before (Numbered disk) c below = before_few disk c below
few_before f c below =
    ltb-true _ _
    (each_below (λ n. nat_lt (sectors_before f n) 65536) (suc (row f).cylinders)
    (each_row (λ g. list_all (λ b. b) (map (λ n. nat_lt (sectors_before g n) 65536) (range_with_len 0 (suc (row g).cylinders)))) before_small_test f refl) c
    (omega (arith, below)))

track_made : (t : TrackId) (c h : ℕ) → t.cylinder ≡ c → t.head ≡ h → t ≡ record { cylinder = c; head = h }
track_made t c h e f =
    ap (λ (n : ℕ). let r : TrackId = record { cylinder = n; head = t.head } in r) e
    ∙ ap (λ (n : ℕ). let r : TrackId = record { cylinder = c; head = n } in r) f

-- a number of the list, by cylinders and heads
counts : (f : Format) (n : ℕ) → n < length (tracks f) → n < (row f).cylinders * (row f).heads
counts f n below = omega (arith, below, track_number f)

is_counted : (f : Format) (n : ℕ) → n < length (tracks f) → listed f n ≡ counted f n
is_counted f n below = track_of (row f).cylinders (row f).heads (track_order f) n first_track (counts f n below)

-- the track of a number
pub id_at : (f : Format) (n : ℕ) → n < length (tracks f) → slice_get (tracks f) n ≡ Some (counted f n)
id_at f n below = slice_get-get_or (tracks f) n first_track below ∙ ap Some (is_counted f n below)

pub numbered_track : (f : Format) (n : ℕ) → n < length (tracks f) → IsTrack f (counted f n)
numbered_track f n below = number_within (row f).cylinders (row f).heads (track_order f) n (counts f n below)

-- and so by the order that it is
pub track_by : (order : TrackOrder) (f : Format) (n : ℕ) → track_order f ≡ order → n < length (tracks f)
    → let t = numbered order (row f).cylinders (row f).heads n in (slice_get (tracks f) n ≡ Some t) × IsTrack f t
track_by order f n is below =
    subst (λ (o : TrackOrder). let t = numbered o (row f).cylinders (row f).heads n in (slice_get (tracks f) n ≡ Some t) × IsTrack f t) is
    (id_at f n below, numbered_track f n below)

-- the number of a track
record HasNumber (order : TrackOrder) (f : Format) (t : TrackId) : Type 0 where
  number : ℕ
  below : number < length (tracks f)
  is : t ≡ numbered order (row f).cylinders (row f).heads number

below_all : (heads cylinders c h : ℕ) → c < cylinders → h < heads → c * heads + h < cylinders * heads
below_all heads cylinders c h less head =
    let next : suc c * heads ≤ cylinders * heads = mul-le-mul_right heads (omega (arith, less)) in
    omega (arith, next, suc-mul c heads, head)

number_by : (order : TrackOrder) (f : Format) (t : TrackId) → IsTrack f t → HasNumber order f t
number_by ByCylinder f t known = record {
  number = t.cylinder * (row f).heads + t.head;
  below = omega (arith, below_all (row f).heads (row f).cylinders t.cylinder t.head known.0 known.1, track_number f);
  is = track_made t _ _ (sym (div-mul-add t.cylinder (row f).heads t.head known.1)) (sym (mod-mul-add t.cylinder (row f).heads t.head known.1));
}
number_by ByHead f t known =
    let turned : (row f).heads * (row f).cylinders ≡ (row f).cylinders * (row f).heads = omega arith in record {
      number = t.head * (row f).cylinders + t.cylinder;
      below = omega (arith, below_all (row f).cylinders (row f).heads t.head t.cylinder known.1 known.0, turned, track_number f);
      is = track_made t _ _ (sym (mod-mul-add t.head (row f).cylinders t.cylinder known.0)) (sym (div-mul-add t.head (row f).cylinders t.cylinder known.0));
    }

has_number : (f : Format) (t : TrackId) → IsTrack f t → HasNumber (track_order f) f t
has_number f t known = number_by (track_order f) f t known

pub place_by_table : (f : Format) (t : TrackId) → IsTrack f t
    → place_of f t ≡ sectors_before_track (track_order f) f t * (row f).sector_size
unfolding place_of
place_by_table f t known = bytes_before f (track_order f) t known

-- the tracks before the one of a number
before_counted : (f : Format) (n : ℕ) → n < length (tracks f) → place_of f (counted f n) ≡ sum_by (bytes_of f) (take n (tracks f))
unfolding place_of
before_counted f n below = ap (sum_by (bytes_of f)) (before_track (row f).cylinders (row f).heads (track_order f) n (counts f n below))

pub sum_before : (f : Format) (t : TrackId) (n : ℕ) → slice_get (tracks f) n ≡ Some t
    → place_of f t ≡ sum_by (bytes_of f) (take n (tracks f))
sum_before f t n found =
    let below : n < length (tracks f) = slice_get_within (tracks f) n t found in
    let is : counted f n ≡ t = sym (is_counted f n below) ∙ get_or_from_slice_get (tracks f) n t first_track found in
    ap (place_of f) (sym is) ∙ before_counted f n below

-- a track lies in the image
pub track_within : (f : Format) (t : TrackId) → IsTrack f t → place_of f t + bytes_of f t ≤ (row f).image_size
track_within f t known =
    let h = has_number f t known in
    let place : place_of f t ≡ sum_by (bytes_of f) (take h.number (tracks f)) = ap (place_of f) h.is ∙ before_counted f h.number h.below in
    let here : bytes_of f t ≡ bytes_of f (listed f h.number) = ap (bytes_of f) (h.is ∙ sym (is_counted f h.number h.below)) in
    omega (arith, place, here, weigh-within (bytes_of f) (tracks f) h.number first_track h.below, size_is_sum f)

-- the first track is one of cylinder 0
first_cylinder : (cylinders heads : ℕ) (order : TrackOrder) → (numbered order cylinders heads 0).cylinder ≡ 0
first_cylinder cylinders heads ByCylinder = zero-div heads
first_cylinder cylinders heads ByHead = zero-mod cylinders

-- the bounds of each cylinder
abbrev cylinders_pass : (Format → ℕ → Bool) → Format → Bool
cylinders_pass test f = list_all (λ b. b) (map (test f) (range_with_len 0 (row f).cylinders))

bounds : (test : Format → ℕ → Bool) → list_all (cylinders_pass test) rows ≡ true
    → ((disk : IbmDisk) (c : ℕ) → c < cylinders_of disk → test (Numbered disk) c ≡ true) → (f : Format) (t : TrackId) → IsTrack f t → test f t.cylinder ≡ true
bounds test all numbered (Numbered disk) t known = numbered disk t.cylinder known.0
bounds test all numbered f t known = each_below (test f) (row f).cylinders (each_row (cylinders_pass test) all f refl) t.cylinder known.0

pub keep_bounds : TracksKeepBounds
keep_bounds f t known = record {
  cylinder = ltb-true _ _ (bounds (λ g c. nat_lt c 100) refl (λ d c below. lt-ltb _ _ (let has = all_have_disks d in omega (arith, has.few_cylinders, below))) f t known);
  head = (let two = some_heads f in omega (arith, two.1, known.1));
  some =
      (let least : 0 < (zone f t.cylinder).sectors =
      ltb-true _ _ (bounds (λ g c. nat_lt 0 (zone g c).sectors) refl (λ d c below. lt-ltb _ _ (let has = bounds_of d in omega (arith, has.some))) f t known) in
      omega (arith, least));
  sectors =
      (let least : (zone f t.cylinder).sectors < 101 = ltb-true _ _ (bounds (λ g c. nat_lt (zone g c).sectors 101) refl (λ d c below. lt-ltb _ _ (let has = bounds_of d in omega (arith, has.few.0))) f t known) in
      omega (arith, least));
  numbers =
      (let least : (row f).first_sector + (zone f t.cylinder).sectors < 257 = ltb-true _ _ (bounds (λ g c. nat_lt ((row g).first_sector + (zone g c).sectors) 257) refl (λ d c below. lt-ltb _ _ (let has = bounds_of d in omega (arith, has.numbers))) f t known) in
      omega (arith, least));
  size =
      (let least : (row f).sector_size < MOST_SECTOR_BYTES + 1 =
      ltb-true _ _ (bounds (λ g c. nat_lt (row g).sector_size (MOST_SECTOR_BYTES + 1)) refl (λ d c below. lt-ltb _ _ (let most = size-most (track_of_disk d).size in omega (arith, most))) f t known) in
      omega (arith, least));
  bytes =
      (let least : (zone f t.cylinder).sectors * (row f).sector_size < MOST_TRACK_BYTES + 1 =
      ltb-true _ _ (bounds (λ g c. nat_lt ((zone g c).sectors * (row g).sector_size) (MOST_TRACK_BYTES + 1)) refl (λ d c below. lt-ltb _ _ (let has = bounds_of d in omega (arith, has.few.1))) f t known) in
      omega (arith, least));
  most = λ first at.
      let least : (zone f t.cylinder).sectors < (zone f 0).sectors + 1 =
      ltb-true _ _ (bounds (λ g c. nat_lt (zone g c).sectors ((zone g 0).sectors + 1)) refl (λ d c below. lt-ltb _ _ (omega arith)) f t known) in
      let below : 0 < length (tracks f) = slice_get_within (tracks f) 0 first at in
      let is : (zone f 0).sectors ≡ (zone f first.cylinder).sectors =
      ap (λ (n : ℕ). (zone f n).sectors) (sym (first_cylinder (row f).cylinders (row f).heads (track_order f)))
      ∙ ap (λ (u : TrackId). (zone f u.cylinder).sectors) (sym (is_counted f 0 below) ∙ get_or_from_slice_get (tracks f) 0 first first_track at) in
      omega (arith, least, is);
  shortest_cell =
      (let least : 16383 < (zone f t.cylinder).nominal = ltb-true _ _ (bounds (λ g c. nat_lt 16383 (zone g c).nominal) refl (λ d c below. lt-ltb _ _ (let has = bounds_of d in omega (arith, has.shortest_cell))) f t known) in
      omega (arith, least));
  longest_cell =
      (let least : (zone f t.cylinder).nominal < 131073 = ltb-true _ _ (bounds (λ g c. nat_lt (zone g c).nominal 131073) refl (λ d c below. lt-ltb _ _ (let has = bounds_of d in omega (arith, has.longest_cell))) f t known) in
      omega (arith, least));
  shortest_ring =
      (let least : 32767 < (zone f t.cylinder).ring_cells = ltb-true _ _ (bounds (λ g c. nat_lt 32767 (zone g c).ring_cells) refl (λ d c below. lt-ltb _ _ (let has = bounds_of d in omega (arith, has.shortest))) f t known) in
      omega (arith, least));
  longest_ring =
      (let least : (zone f t.cylinder).ring_cells < 262145 = ltb-true _ _ (bounds (λ g c. nat_lt (zone g c).ring_cells 262145) refl (λ d c below. lt-ltb _ _ (let has = bounds_of d in omega (arith, has.longest))) f t known) in
      omega (arith, least));
}

pub small_images : ImagesAreSmall
small_images f = ltb-true _ _ (each_format (λ g. nat_lt (row g).image_size 4194304) refl (λ d. lt-ltb _ _ (omega (arith, image_few d))) f)
