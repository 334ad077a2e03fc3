-- Which number a track has among those of a format, and which tracks files can be named by.
use Rattle.std.specs.Prelude.{◌≡◌, ℕ, zero, suc, ◌+◌, ◌-◌, ◌*◌, ◌/◌, ◌%◌, ◌<◌, ◌≤◌, ◌⊎◌, Bool, true, false, ◌&&◌, nat_eq, not, cond, min, List, [], ◌∷◌, length, take, filter, get_or, slice_get, Some, refl}
use Rattle.std.proofs.Common.{ap, sym, subst, ◌∙◌, arith, inl, inr}
use Rattle.std.proofs.Math.Nat.{mul-le-mul, mul-le-mul_right, suc-mul, mul_comm}
use Rattle.std.proofs.lemmas.Bool.{cases_lt, eq-eqb}
use Rattle.std.proofs.lemmas.List.{take_all}
use Rattle.std.proofs.lemmas.Option.{get_or_from_slice_get}
use Rattle.flux_base.specs.declared.track.TrackId.{TrackId}
use Rattle.flux_base.specs.lemmas.Grids.{get-grid, grid, length-grid}
use Rattle.sector_images.specs.Formats.{row}
use Rattle.sector_images.specs.Places.{IsTrack, TracksKeepBounds, tracks}
use Rattle.sector_images.specs.declared.format.Format.{Format}
use Rattle.sector_images.specs.declared.format.Format.TheVariants.{Ibm3740, Ibm360, Ibm720, Ibm1440, Amiga, C1541, C1541Forty, AppleDo, ApplePo, AppleDos33, AppleProdos, Mac400, Mac800, C1571, AmigaHd, C8050, C8250, C1581, Numbered}
use Rattle.flux_engine.specs.Recordings.{track_at}
use Rattle.track_shelf.specs.declared.stepping.Stepping.{Stepping}
use Rattle.dump_reading.specs.Beside.{beside_at, beside_tracks, is_track, most_cylinders, named_tracks, near_track}
use Rattle.dump_reading.specs.lemmas.NamedTracks.{named-many, named-track, track-is-one}
use Rattle.dump_reading.proofs.NextStreams.{track-is}

-- the number of a row and a column is below that of all
below-all : (rows columns r c : ℕ) → r < rows → c < columns → r * columns + c < rows * columns
below-all rows columns r c low few =
    let next : suc r * columns ≤ rows * columns = mul-le-mul_right columns (omega (arith, low)) in
    omega (arith, next, suc-mul r columns, few)

abbrev by_cylinder : ℕ → ℕ → TrackId
by_cylinder cylinder head = record { cylinder = cylinder; head = head }

abbrev by_head : ℕ → ℕ → TrackId
by_head head cylinder = record { cylinder = cylinder; head = head }

abbrev no_track : TrackId
no_track = record { cylinder = 0; head = 0 }

-- the tracks of a format stand in one of two orders
abbrev InOrder : Format → Type 0
InOrder format = (tracks format ≡ grid by_cylinder (row format).heads (row format).cylinders) ⊎ (tracks format ≡ grid by_head (row format).cylinders (row format).heads)

in-order : (format : Format) → InOrder format
in-order Ibm3740 = inl refl
in-order Ibm360 = inl refl
in-order Ibm720 = inl refl
in-order Ibm1440 = inl refl
in-order Amiga = inl refl
in-order C1541 = inl refl
in-order C1541Forty = inl refl
in-order AppleDo = inl refl
in-order ApplePo = inl refl
in-order AppleDos33 = inl refl
in-order AppleProdos = inl refl
in-order Mac400 = inl refl
in-order Mac800 = inl refl
in-order C1571 = inr refl
in-order AmigaHd = inl refl
in-order C8050 = inl refl
in-order C8250 = inr refl
in-order C1581 = inl refl
in-order (Numbered disk) = inl refl

-- each track of a format has a number
pub number-of : (format : Format) (track : TrackId) → IsTrack format track → (n : ℕ) × (n < length (tracks format)) × (get_or (tracks format) n no_track ≡ track)
number-of format track is = by (in-order format)
  where
    cylinders : ℕ
    cylinders = (row format).cylinders

    heads : ℕ
    heads = (row format).heads

    by : InOrder format → (n : ℕ) × (n < length (tracks format)) × (get_or (tracks format) n no_track ≡ track)
    by (inl same) =
        let size : length (tracks format) ≡ cylinders * heads = ap (λ (xs : List TrackId). length xs) same ∙ length-grid by_cylinder heads cylinders in
        let low = below-all cylinders heads track.cylinder track.head is.0 is.1 in (
          track.cylinder * heads + track.head,
          omega (arith, size, low),
          ap (λ (xs : List TrackId). get_or xs (track.cylinder * heads + track.head) no_track) same
              ∙ get-grid by_cylinder heads cylinders track.cylinder track.head no_track is.0 is.1,
        )
    by (inr same) =
        let size : length (tracks format) ≡ heads * cylinders = ap (λ (xs : List TrackId). length xs) same ∙ length-grid by_head cylinders heads in
        let low = below-all heads cylinders track.head track.cylinder is.1 is.0 in (
          track.head * cylinders + track.cylinder,
          omega (arith, size, low),
          ap (λ (xs : List TrackId). get_or xs (track.head * cylinders + track.cylinder) no_track) same
              ∙ get-grid by_head cylinders heads track.head track.cylinder no_track is.1 is.0,
        )

-- the last number of rows and columns is that of the last row and column
last-number : (rows columns : ℕ) → 0 < rows → 0 < columns → (rows - 1) * columns + (columns - 1) ≡ rows * columns - 1
last-number zero columns some any = absurd (omega (arith, some))
last-number (suc rows) columns some any =
    let least : suc rows - 1 ≡ rows = omega arith in
    ap (λ (n : ℕ). n * columns + (columns - 1)) least ∙ (let whole = suc-mul rows columns in omega (arith, whole, any))

-- the last track has the last cylinder and the last head
pub last-track : (format : Format) (last : TrackId) → slice_get (tracks format) (length (tracks format) - 1) ≡ Some last → IsTrack format last
    → last ≡ record { cylinder = (row format).cylinders - 1; head = (row format).heads - 1 }
last-track format last at is = by (in-order format)
  where
    cylinders : ℕ
    cylinders = (row format).cylinders

    heads : ℕ
    heads = (row format).heads

    some_cylinders : 0 < cylinders
    some_cylinders = omega (arith, is.0)

    some_heads : 0 < heads
    some_heads = omega (arith, is.1)

    get : get_or (tracks format) (length (tracks format) - 1) no_track ≡ last
    get = get_or_from_slice_get (tracks format) (length (tracks format) - 1) last no_track at

    by : InOrder format → last ≡ record { cylinder = cylinders - 1; head = heads - 1 }
    by (inl same) =
        let size : length (tracks format) ≡ cylinders * heads = ap (λ (xs : List TrackId). length xs) same ∙ length-grid by_cylinder heads cylinders in
        let at_last : length (tracks format) - 1 ≡ (cylinders - 1) * heads + (heads - 1) = ap (λ (n : ℕ). n - 1) size ∙ sym (last-number cylinders heads some_cylinders some_heads) in
        sym get ∙ ap (λ (n : ℕ). get_or (tracks format) n no_track) at_last
        ∙ ap (λ (xs : List TrackId). get_or xs ((cylinders - 1) * heads + (heads - 1)) no_track) same
        ∙ get-grid by_cylinder heads cylinders (cylinders - 1) (heads - 1) no_track (omega (arith, some_cylinders)) (omega (arith, some_heads))
    by (inr same) =
        let size : length (tracks format) ≡ heads * cylinders = ap (λ (xs : List TrackId). length xs) same ∙ length-grid by_head cylinders heads in
        let at_last : length (tracks format) - 1 ≡ (heads - 1) * cylinders + (cylinders - 1) = ap (λ (n : ℕ). n - 1) size ∙ sym (last-number heads cylinders some_heads some_cylinders) in
        sym get ∙ ap (λ (n : ℕ). get_or (tracks format) n no_track) at_last
        ∙ ap (λ (xs : List TrackId). get_or xs ((heads - 1) * cylinders + (cylinders - 1)) no_track) same
        ∙ get-grid by_head cylinders heads (heads - 1) (cylinders - 1) no_track (omega (arith, some_heads)) (omega (arith, some_cylinders))

-- none of the first ones is this track
abbrev pub NoneBefore : Format → TrackId → (n : ℕ) → Type 0
NoneBefore format track n = (k : ℕ) → k < n → get_or (tracks format) k no_track ≡ track → ⊥

-- nor is the next one
pub none-yet-more : (format : Format) (track here : TrackId) (n : ℕ) → slice_get (tracks format) n ≡ Some here
    → (nat_eq here.cylinder track.cylinder && nat_eq here.head track.head) ≡ false → NoneBefore format track n → NoneBefore format track (n + 1)
none-yet-more format track here n at differ before k below same = by (cases_lt k n)
  where
    differs : here ≡ track → ⊥
    differs is =
        let both : (nat_eq here.cylinder track.cylinder && nat_eq here.head track.head) ≡ true =
        rw (eq-eqb here.cylinder track.cylinder (ap (λ (t : TrackId). t.cylinder) is), eq-eqb here.head track.head (ap (λ (t : TrackId). t.head) is)) refl in
        true-false (sym both ∙ differ)
      where
        true-false : true ≡ false → ⊥
        true-false is' = cc

    by : (k < n) ⊎ (n ≤ k) → ⊥
    by (inl less) = before k less same
    by (inr past) =
        let last : k ≡ n = omega (arith, past, below) in
        differs (sym (get_or_from_slice_get (tracks format) n here no_track at) ∙ sym (ap (λ (i : ℕ). get_or (tracks format) i no_track) last) ∙ same)

-- where none of all is, it is none of the format's
pub none-is : (format : Format) (track : TrackId) (n : ℕ) → length (tracks format) ≤ n → NoneBefore format track n → false ≡ is_track format track
none-is format track n all none = by (is_track format track) refl
  where
    by : (b : Bool) → is_track format track ≡ b → false ≡ b
    by false same = refl
    by true same = (let at = number-of format track (track-is-one format track same) in absurd (none at.0 (omega (arith, at.1, all)) at.2))

-- there are at most two hundred
pub tracks-few : (format : Format) → TracksKeepBounds → 0 < length (tracks format) → length (tracks format) ≤ 200
tracks-few format bounds some = by (in-order format)
  where
    cylinders : ℕ
    cylinders = (row format).cylinders

    heads : ℕ
    heads = (row format).heads

    few : length (tracks format) ≡ cylinders * heads → length (tracks format) ≤ 200
    few size =
        let product : 0 < cylinders * heads = omega (arith, some, size) in
        let any = some-factors cylinders heads product in
        let keeps = bounds format (record { cylinder = cylinders - 1; head = heads - 1 }) (omega (arith, any.0), omega (arith, any.1)) in
        let low : cylinders ≤ 100 = omega (arith, keeps.cylinder) in
        let sides : heads ≤ 2 = omega (arith, keeps.head) in
        omega (arith, size, mul-le-mul low sides)
      where
        some-factors : (a b : ℕ) → 0 < a * b → (0 < a) × (0 < b)
        some-factors zero b more = absurd (let none : 0 * b ≡ 0 = omega arith in omega (arith, more, none))
        some-factors (suc a) zero more = absurd (let none : suc a * 0 ≡ 0 = omega arith in omega (arith, more, none))
        some-factors (suc a) (suc b) more = (omega arith, omega arith)

    by : InOrder format → length (tracks format) ≤ 200
    by (inl same) = few (ap (λ (xs : List TrackId). length xs) same ∙ length-grid by_cylinder heads cylinders)
    by (inr same) = few (ap (λ (xs : List TrackId). length xs) same ∙ length-grid by_head cylinders heads ∙ mul_comm heads cylinders)

-- what passes a test among the first items of a list, and the next one
module _ {X : Type 0} (test : X → Bool) where
  filter-at : (xs : List X) (n : ℕ) (d : X) → n < length xs → test (get_or xs n d) ≡ true
      → (length (filter test (take n xs)) < length (filter test xs)) × (get_or (filter test xs) (length (filter test (take n xs))) d ≡ get_or xs n d)
  filter-at [] n d below passes = absurd (omega (arith, below))
  filter-at (x ∷ xs) zero d below passes =
      subst (λ (b : Bool). (0 < length (cond b (x ∷ filter test xs) (filter test xs))) × (get_or (cond b (x ∷ filter test xs) (filter test xs)) 0 d ≡ x)) (sym passes) (omega arith, refl)
  filter-at (x ∷ xs) (suc n) d below passes = by (test x) (filter-at xs n d (omega (arith, below)) passes)
    where
      by : (b : Bool) → (length (filter test (take n xs)) < length (filter test xs)) × (get_or (filter test xs) (length (filter test (take n xs))) d ≡ get_or xs n d)
          → (length (cond b (x ∷ filter test (take n xs)) (filter test (take n xs))) < length (cond b (x ∷ filter test xs) (filter test xs)))
          × (get_or (cond b (x ∷ filter test xs) (filter test xs)) (length (cond b (x ∷ filter test (take n xs)) (filter test (take n xs)))) d ≡ get_or xs n d)
      by true is = (omega (arith, is.0), is.1)
      by false is = is

  filter-more : (xs : List X) (n : ℕ) (d : X) → n < length xs → length (filter test (take (suc n) xs)) ≡ length (filter test (take n xs)) + cond (test (get_or xs n d)) 1 0
  filter-more [] n d below = absurd (omega (arith, below))
  filter-more (x ∷ xs) zero d below = by (test x)
    where
      by : (b : Bool) → length (cond b (x ∷ []) []) ≡ 0 + cond b 1 0
      by true = refl
      by false = refl
  filter-more (x ∷ xs) (suc n) d below = by (test x) (filter-more xs n d (omega (arith, below)))
    where
      by : (b : Bool) → length (filter test (take (suc n) xs)) ≡ length (filter test (take n xs)) + cond (test (get_or xs n d)) 1 0
          → length (cond b (x ∷ filter test (take (suc n) xs)) (filter test (take (suc n) xs))) ≡ length (cond b (x ∷ filter test (take n xs)) (filter test (take n xs))) + cond (test (get_or xs n d)) 1 0
      by true is = omega (arith, is)
      by false is = is

-- how many of the first tracks that files can be named by are beside the format's
abbrev pub beside_before : Stepping → Format → (n : ℕ) → ℕ
beside_before stepping format n = length (filter (λ track. not (is_track format track)) (take n (named_tracks stepping)))

module _ (stepping : Stepping) (format : Format) (n : ℕ) (below : n < 2 * most_cylinders stepping) where
  within : n < length (named_tracks stepping)
  within = omega (arith, below, named-many stepping)

  abbrev here : TrackId
  here = record { cylinder = n / 2; head = n % 2 }

  at : get_or (named_tracks stepping) n no_track ≡ here
  at = named-track stepping n below

  -- the next one is none of the format's
  pub beside-next : is_track format here ≡ false
      → (beside_before stepping format n < length (beside_tracks stepping format)) × (beside_at stepping format (beside_before stepping format n) ≡ here)
      × (beside_before stepping format (n + 1) ≡ beside_before stepping format n + 1)
  unfolding beside_tracks
  beside-next none =
      let passes : not (is_track format (get_or (named_tracks stepping) n no_track)) ≡ true = ap (λ (t : TrackId). not (is_track format t)) at ∙ ap not none in
      let found = filter-at (λ track. not (is_track format track)) (named_tracks stepping) n no_track within passes in
      let one : n + 1 ≡ suc n = omega arith in (
        found.0,
        found.1 ∙ at,
        ap (beside_before stepping format) one ∙ filter-more (λ track. not (is_track format track)) (named_tracks stepping) n no_track within
            ∙ ap (λ (b : Bool). beside_before stepping format n + cond b 1 0) passes,
      )

  -- or it is one
  pub beside-same : is_track format here ≡ true → beside_before stepping format (n + 1) ≡ beside_before stepping format n
  beside-same is =
      let fails : not (is_track format (get_or (named_tracks stepping) n no_track)) ≡ false = ap (λ (t : TrackId). not (is_track format t)) at ∙ ap not is in
      let one : n + 1 ≡ suc n = omega arith in
      let none : beside_before stepping format n + 0 ≡ beside_before stepping format n = omega arith in
      ap (beside_before stepping format) one ∙ filter-more (λ track. not (is_track format track)) (named_tracks stepping) n no_track within
      ∙ ap (λ (b : Bool). beside_before stepping format n + cond b 1 0) fails ∙ none

-- all were looked at
pub beside-all : (stepping : Stepping) (format : Format) (n : ℕ) → 2 * most_cylinders stepping ≤ n → beside_before stepping format n ≡ length (beside_tracks stepping format)
unfolding beside_tracks
beside-all stepping format n past =
    ap (λ (xs : List TrackId). length (filter (λ track. not (is_track format track)) xs)) (take_all n (named_tracks stepping) (omega (arith, past, named-many stepping)))
