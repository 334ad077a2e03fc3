-- The tables of a file, entry by entry, and its tracks, one after another.
use Rattle.std.specs.Prelude.{◌≡◌, ◌≤◌, ◌<◌, ℕ, zero, suc, replicate, ◌+◌, ◌-◌, ◌/◌, List, [], ◌∷◌, ◌++◌, length, flat_map, filter_map, slice_get, Option, Some, None, Bool, refl}
use Rattle.std.specs.List.{range_with_len}
use Rattle.std.proofs.Common.{ap, sym, subst, ◌∙◌, arith, append_assoc, inl, inr}
use Rattle.std.proofs.lemmas.Bool.{cases_lt}
use Rattle.std.proofs.lemmas.List.Elements.{filter_map-append}
use Rattle.byteorder.specs.Endian.{little_bytes}
use Rattle.flux_engine.specs.lemmas.Pieces.{pieces-more, range-append, range-more}
use Rattle.flux_engine.specs.Rings.{ring_cells_of}
use Rattle.flux_engine.specs.Recordings.{track_at}
use Rattle.sector_images.specs.Formats.{commodore_zone}
use Rattle.sector_images.specs.declared.format.Format.{Format}
use Rattle.sector_images.specs.declared.format.Format.TheVariants.{C1541, C1541Forty}
use Rattle.g64_image.specs.Faults.{first_fault, or_else, table_fault, track_fault, tracks_fault}
use Rattle.g64_image.specs.Layout.{IsCommodore, TRACK_SIZE, bytes_of_cells, front, header, offset_entry, speed_entry, table, track_record}
use Rattle.sector_images.specs.Places.{tracks}
use Rattle.g64_image.specs.declared.fault.G64Fault.{G64Fault}

-- one entry more of a table
pub entries_more : (entry : ℕ → ℕ) (old items now : List ℕ) (value half : ℕ)
    → items ≡ old ++ flat_map (λ h. little_bytes 4 (entry h)) (range_with_len 0 half) → value ≡ entry half
    → now ≡ items ++ little_bytes 4 value → now ≡ old ++ flat_map (λ h. little_bytes 4 (entry h)) (range_with_len 0 (half + 1))
entries_more entry old items now value half before is put =
    let f : ℕ → List ℕ = λ (h : ℕ). little_bytes 4 (entry h) in
    let done : List ℕ = flat_map f (range_with_len 0 half) in
    let at : half ≡ 0 + half = omega arith in
    put ∙ ap (λ (xs : List ℕ). xs ++ little_bytes 4 value) before ∙ ap (λ (v : ℕ). (old ++ done) ++ little_bytes 4 v) is
    ∙ append_assoc old done (f half) ∙ ap (λ (n : ℕ). old ++ (done ++ f n)) at ∙ ap (λ (xs : List ℕ). old ++ xs) (sym (pieces-more f 0 half))

-- no ring of the 1541 has more cells than those of the outer tracks
short_zone : (cylinder : ℕ) → (commodore_zone cylinder).ring_cells ≤ 61488
short_zone cylinder =
    elim (cases_lt (cylinder + 1) 18) [
      | inl low ↦ grind (arith)
      | inr high ↦ grind (arith)
    ]

pub short_ring : (format : Format) → IsCommodore format → (number : ℕ) → ring_cells_of format number ≤ 61488
short_ring format (inl is) number = subst (λ (f : Format). ring_cells_of f number ≤ 61488) (sym is) (short_zone (track_at C1541 number).cylinder)
short_ring format (inr is) number = subst (λ (f : Format). ring_cells_of f number ≤ 61488) (sym is) (short_zone (track_at C1541Forty number).cylinder)

-- the header and both tables
pub front_is : (format : Format) (first second third : List ℕ) → first ≡ header → second ≡ first ++ table (offset_entry format)
    → third ≡ second ++ table (speed_entry format) → third ≡ front format
unfolding front
front_is format first second third head offsets speeds =
    speeds ∙ ap (λ (xs : List ℕ). xs ++ table (speed_entry format)) (offsets ∙ ap (λ (xs : List ℕ). xs ++ table (offset_entry format)) head)
    ∙ append_assoc header (table (offset_entry format)) (table (speed_entry format))

-- the parts of a track
pub record_is : (ring : List Bool) (first second third : List ℕ) → first ≡ little_bytes 2 (length ring / 8) → second ≡ first ++ bytes_of_cells ring
    → third ≡ second ++ replicate (TRACK_SIZE - length ring / 8) 0xFF → third ≡ track_record ring
unfolding track_record
record_is ring first second third head cells padding =
    padding ∙ ap (λ (xs : List ℕ). xs ++ replicate (TRACK_SIZE - length ring / 8) 0xFF) (cells ∙ ap (λ (xs : List ℕ). xs ++ bytes_of_cells ring) head)
    ∙ append_assoc (little_bytes 2 (length ring / 8)) (bytes_of_cells ring) (replicate (TRACK_SIZE - length ring / 8) 0xFF)

module _ (f : ℕ → Option G64Fault) where
  given_none : (n : ℕ) (rest : List ℕ) (o : Option G64Fault) → f n ≡ o → o ≡ None → filter_map f (n ∷ rest) ≡ filter_map f rest
  given_none n rest None is none = rw is refl
  given_none n rest (Some fault) is none = absurd (cc)

  given_some : (n : ℕ) (rest : List ℕ) (fault : G64Fault) → f n ≡ Some fault → filter_map f (n ∷ rest) ≡ fault ∷ filter_map f rest
  given_some n rest fault is = rw is refl

  -- no fault among one number more
  pub none_more : (n : ℕ) → filter_map f (range_with_len 0 n) ≡ [] → None ≡ f n → filter_map f (range_with_len 0 (n + 1)) ≡ []
  none_more n before is =
      let at : n ≡ 0 + n = omega arith in
      let here : f (0 + n) ≡ None = sym (is ∙ ap f at) in
      ap (filter_map f) (range-more 0 n) ∙ filter_map-append f (range_with_len 0 n) ((0 + n) ∷ [])
      ∙ ap (λ (xs : List G64Fault). xs ++ filter_map f ((0 + n) ∷ [])) before ∙ given_none (0 + n) [] (f (0 + n)) refl here

  -- the first fault
  pub found_first : (n count : ℕ) (fault : G64Fault) → filter_map f (range_with_len 0 n) ≡ [] → Some fault ≡ f n → n < count
      → Some fault ≡ slice_get (filter_map f (range_with_len 0 count)) 0
  found_first n count fault before is low =
      let rest : ℕ = count - n - 1 in
      let all : count ≡ n + suc rest = omega (arith, low) in
      let at : n ≡ 0 + n = omega arith in
      let here : f (0 + n) ≡ Some fault = sym (is ∙ ap f at) in
      let split : filter_map f (range_with_len 0 count) ≡ fault ∷ filter_map f (range_with_len (0 + n + 1) rest) =
      ap (λ (k : ℕ). filter_map f (range_with_len 0 k)) all ∙ ap (filter_map f) (range-append 0 n (suc rest))
      ∙ filter_map-append f (range_with_len 0 n) (range_with_len (0 + n) (suc rest))
      ∙ ap (λ (xs : List G64Fault). xs ++ filter_map f (range_with_len (0 + n) (suc rest))) before
      ∙ given_some (0 + n) (range_with_len (0 + n + 1) rest) fault here in
      sym (ap (λ (xs : List G64Fault). slice_get xs 0) split)

  sound_step : (a rest : ℕ) (o : Option G64Fault) → f a ≡ o → slice_get (filter_map f (a ∷ range_with_len (a + 1) rest)) 0 ≡ None
      → (f a ≡ None) × (slice_get (filter_map f (range_with_len (a + 1) rest)) 0 ≡ None)
  sound_step a rest None is none = (is, sym (ap (λ (xs : List G64Fault). slice_get xs 0) (given_none a (range_with_len (a + 1) rest) None is refl)) ∙ none)
  sound_step a rest (Some fault) is none =
      absurd (let some = sym (ap (λ (xs : List G64Fault). slice_get xs 0) (given_some a (range_with_len (a + 1) rest) fault is)) ∙ none in cc)

  -- where there is no first fault there is none
  pub all_sound : (a count : ℕ) → slice_get (filter_map f (range_with_len a count)) 0 ≡ None → (k : ℕ) → k < count → f (a + k) ≡ None
  all_sound a zero none k low = absurd (omega (arith, low))
  all_sound a (suc count) none zero low =
      let at : a + 0 ≡ a = omega arith in ap f at ∙ (sound_step a count (f a) refl none).0
  all_sound a (suc count) none (suc k) low =
      let at : a + suc k ≡ a + 1 + k = omega arith in
      ap f at ∙ all_sound (a + 1) count (sound_step a count (f a) refl none).1 k (omega (arith, low))

none_of : (first second : Option G64Fault) → or_else first second ≡ None → second ≡ None
none_of None second none = none
none_of (Some fault) second none = absurd (cc)

-- a file without a fault has none in any track
pub track_sound : (format : Format) (file : List ℕ) → first_fault format file ≡ None → (k : ℕ) → k < length (tracks format)
    → track_fault file k ≡ None
unfolding first_fault tracks_fault
track_sound format file none k low =
    let at : k ≡ 0 + k = omega arith in
    ap (track_fault file) at ∙ all_sound (track_fault file) 0 (length (tracks format)) (none_of (table_fault file) (tracks_fault format file) none) k low
