-- The readings of a track's cells are those of the sectors that stand there.
use Rattle.std.specs.Prelude.{◌≡◌, ◌↔◌, ℕ, Bool, Contains, List, [], ◌∷◌, drop, flat_map, Some}
use Rattle.std.specs.Prelude.{None, refl}
use Rattle.std.proofs.Common.{ap, sym, subst, ◌∙◌, inl, inr}
use Rattle.std.proofs.lemmas.List.Elements.{Contains-append_cases, Contains-append_left}
use Rattle.std.proofs.lemmas.List.Elements.{Contains-append_right}
use Rattle.frame_law.specs.lemmas.Members.{contains_cases, contains_first, contains_later}
use Rattle.frame_law.specs.lemmas.Members.{contains_none}
use Rattle.frame_law.specs.declared.reading.Reading.TheVariants.{Nothing, Bad as BadFrame}
use Rattle.frame_law.specs.declared.reading.Reading.TheVariants.{Good as GoodFrame}
use Rattle.frame_law.specs.declared.reading.Reading.{Reading as Frame}
use Rattle.turn_merge.specs.Readings.{NotedReading, bad_reading, good_reading}
use Rattle.turn_merge.specs.declared.clock.Clock.{Clock}
use Rattle.turn_merge.specs.declared.verdict.Place.{Place}
use Rattle.law_decoded_rings.specs.Verdicts.{AreReadingsOf}
use Rattle.flux_engine.specs.Tracks.{Found, place_in, readings_at, readings_in}

module _ {X Y : Type 0} (g : X → List Y) where
  from_flat : (xs : List X) (y : Y) → Contains (flat_map g xs) y
      → (x : X) × Contains xs x × Contains (g x) y
  from_flat [] y has = absurd (contains_none y has)
  from_flat (x ∷ xs) y has =
      elim (Contains-append_cases (g x) (flat_map g xs) y has) [
        | inl here ↦ (x, contains_first x xs, here)
        | inr later ↦ let more = from_flat xs y later in
            (more.0, contains_later x more.0 xs more.1, more.2)
      ]

  to_flat : (xs : List X) (x : X) (y : Y) → Contains xs x → Contains (g x) y
      → Contains (flat_map g xs) y
  to_flat [] x y has here = absurd (contains_none x has)
  to_flat (z ∷ zs) x y has here =
      elim (contains_cases z x zs has) [
        | inl same ↦
            Contains-append_left (g z) (flat_map g zs) y
            (subst (λ (w : X). Contains (g w) y) (sym same) here)
        | inr later ↦ Contains-append_right (g z) (flat_map g zs) y (to_flat zs x y later here)
      ]

-- a good reading is one of a frame that was read as good
record IsOfFrame (place : Place) (frame : Frame) (bytes : List ℕ) (r : NotedReading)
    (data_of : List ℕ) : Type 0 where
  frame_is : frame ≡ GoodFrame r.sector
  bytes_are : data_of ≡ bytes
  place_is : r.place ≡ place

of_frame : (place : Place) (frame : Frame) (bytes data_of : List ℕ) (r : NotedReading)
    → Contains (readings_at place frame bytes) r → r.bytes ≡ Some data_of
    → IsOfFrame place frame bytes r data_of
of_frame place Nothing bytes data_of r has some = absurd (contains_none r has)
of_frame place (BadFrame s) bytes data_of r has some =
    elim (contains_cases (bad_reading s place) r [] has) [
      | inl same ↦
          absurd
          (let none : None ≡ Some data_of = ap (λ (q : NotedReading). q.bytes) same ∙ some in
          none_some data_of none)
      | inr later ↦ absurd (contains_none r later)
    ]
  where
    none_some : (bytes : List ℕ) → None ≡ Some bytes → ⊥
    none_some bytes same = cc
of_frame place (GoodFrame s) bytes data_of r has some =
    elim (contains_cases (good_reading s place bytes) r [] has) [
      | inl same ↦ record {
        frame_is = ap (λ (q : NotedReading). GoodFrame q.sector) same;
        bytes_are =
            one_some data_of bytes (sym some ∙ sym (ap (λ (q : NotedReading). q.bytes) same));
        place_is = sym (ap (λ (q : NotedReading). q.place) same);
      }
      | inr later ↦ absurd (contains_none r later)
    ]
  where
    one_some : (xs ys : List ℕ) → Some xs ≡ Some ys → xs ≡ ys
    one_some xs ys same = cc

module _ (sector : List Bool → ℕ → List ℕ → Type 0) (capture : ℕ) (clock : Clock)
    (times indexes : List ℕ) (cells : List Bool) (found : List Found)
    (good : (place s : ℕ) (bytes : List ℕ)
    → Contains found (place, GoodFrame s, bytes) ↔ sector (drop place cells) s bytes) where
  abbrev of_found : Found → List NotedReading
  of_found f = readings_at (place_in capture clock times indexes cells f.0) f.1 f.2

  stand : (r : NotedReading) (bytes : List ℕ)
      → Contains (readings_in capture clock times indexes cells found) r → r.bytes ≡ Some bytes
      → sector (drop r.place.cell cells) r.sector bytes
  stand r bytes has some =
      let f = from_flat of_found found r has in
      let place : ℕ = (f.0).0 in
      let is = of_frame (place_in capture clock times indexes cells place) (f.0).1 (f.0).2 bytes r
      f.2 some in
      let there : Contains found (let g : Found = (place, GoodFrame r.sector, bytes) in g) =
      subst (Contains found)
      (ap (λ (frame : Frame). let g : Found = (place, frame, (f.0).2) in g) is.frame_is
      ∙ ap (λ (xs : List ℕ). let g : Found = (place, GoodFrame r.sector, xs) in g)
      (sym is.bytes_are)) f.1 in
      let here : sector (drop place cells) r.sector bytes = (good place r.sector bytes).0 there in
      subst (λ (p : Place). sector (drop p.cell cells) r.sector bytes) (sym is.place_is) here

  noted : (place s : ℕ) (bytes : List ℕ) → sector (drop place cells) s bytes
      → (r : NotedReading) × Contains (readings_in capture clock times indexes cells found) r
      × (r.sector ≡ s) × (r.bytes ≡ Some bytes)
  noted place s bytes here =
      let there = (good place s bytes).1 here in
      let r : NotedReading =
      good_reading s (place_in capture clock times indexes cells place) bytes in (
        r,
        to_flat of_found found (place, GoodFrame s, bytes) r there (contains_first r []),
        refl,
        refl,
      )

  pub are_readings_by : AreReadingsOf sector cells
      (readings_in capture clock times indexes cells found)
  are_readings_by = record { stand = stand; all = noted }
