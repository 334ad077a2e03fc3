-- The steps of the walk over the cells of a ring.
use Rattle.std.specs.Prelude.{◌≡◌, ◌≤◌, ◌<◌, ℕ, ◌+◌, Bool, List, [], ◌∷◌, ◌++◌, flat_map, Some, None, refl}
use Rattle.std.proofs.Common.{ap, sym, subst, ◌∙◌, arith, append_assoc, append-nil}
use Rattle.std.proofs.lemmas.List.Concat.{flat_map-append}
use Rattle.flux_engine.specs.Tracks.{Found, readings_at}
use Rattle.frame_law.specs.declared.reading.Reading.{Reading as Frame}
use Rattle.frame_law.specs.Readings.{FirstReading, NoHeader}
use Rattle.turn_merge.specs.Book.{Knowledge, SameShape, StandsFor}
use Rattle.turn_merge.specs.Readings.{NotedReading}
use Rattle.turn_merge.specs.declared.verdict.Place.{Place}
use Rattle.g64_image.specs.FileDisks.{AreReadingsTo, ring_place}
use Rattle.g64_image.specs.Gathering.{GathersTo, IsWalk}

module _ (header : List Bool → ℕ → Type 0) (sector : List Bool → ℕ → List ℕ → Type 0) (cells : List Bool) (end : ℕ) where
  pub walk_start : (book : Knowledge) → StandsFor book [] → IsWalk header sector cells end 0 book book
  walk_start book empty = record {
    found = [];
    before = λ rest all. all;
    noted = empty;
    shape = record { first_is = refl; most_is = refl; size_is = refl; sectors_are = refl };
    few = omega (arith, empty.notes);
    within = omega arith;
  }

  pub walk_step : (from cell : ℕ) (frame : Frame) (bytes piece : List ℕ) (place : Place) (old mid new : Knowledge)
      → IsWalk header sector cells end from old mid
      → FirstReading header sector cells from (Some (cell, frame)) bytes → cell < end
      → place ≡ ring_place cell → piece ≡ bytes
      → ((readings : List NotedReading) → StandsFor mid readings → StandsFor new (readings ++ readings_at place frame piece))
      → new.notes ≤ mid.notes + 1 → SameShape mid new
      → IsWalk header sector cells end (cell + 1) old new
  walk_step from cell frame bytes piece place old mid new w first low at same appends count shape =
      let Appended : Place → List ℕ → Type 0 = λ (p : Place) (xs : List ℕ).
      (readings : List NotedReading) → StandsFor mid readings → StandsFor new (readings ++ readings_at p frame xs) in
      let noted : Appended (ring_place cell) bytes =
      subst (λ (p : Place). Appended p bytes) at (subst (λ (xs : List ℕ). Appended place xs) same appends) in
      let here : Found = (cell, frame, bytes) in
      let of_found : Found → List NotedReading = λ (f : Found). readings_at (ring_place f.0) f.1 f.2 in
      let more = noted (flat_map of_found w.found) w.noted in
      record {
        found = w.found ++ here ∷ [];
        before = λ (rest : List Found) (all : AreReadingsTo header sector cells end (cell + 1) rest).
            subst (AreReadingsTo header sector cells end 0) (sym (append_assoc w.found (here ∷ []) rest)) (w.before (here ∷ rest) (first, low, all));
        noted = subst (StandsFor new)
            (sym (flat_map-append of_found w.found (here ∷ []) ∙ ap (λ (r : List NotedReading). flat_map of_found w.found ++ r) (append-nil (of_found here)))) more;
        shape = record {
          first_is = shape.first_is ∙ w.shape.first_is;
          most_is = shape.most_is ∙ w.shape.most_is;
          size_is = shape.size_is ∙ w.shape.size_is;
          sectors_are = shape.sectors_are ∙ w.shape.sectors_are;
        };
        few = (let least : from ≤ cell = first.0 in omega (arith, count, w.few, least));
        within = omega (arith, low);
      }

  walk_done : (from : ℕ) (old new : Knowledge) → IsWalk header sector cells end from old new → NoHeader header cells from end
      → GathersTo header sector cells end old new
  walk_done from old new w none = record {
    found = w.found;
    all = subst (AreReadingsTo header sector cells end 0) (append-nil w.found) (w.before [] none);
    noted = w.noted;
    shape = w.shape;
  }

  -- nothing more is found
  pub walk_end : (from : ℕ) (bytes : List ℕ) (old new : Knowledge) → IsWalk header sector cells end from old new
      → FirstReading header sector cells from None bytes → GathersTo header sector cells end old new
  walk_end from bytes old new w none = walk_done from old new w (none.1 end)

  -- what is found next does not lie below the end
  pub walk_past : (from cell : ℕ) (frame : Frame) (bytes : List ℕ) (old new : Knowledge) → IsWalk header sector cells end from old new
      → FirstReading header sector cells from (Some (cell, frame)) bytes → end ≤ cell → GathersTo header sector cells end old new
  walk_past from cell frame bytes old new w first past =
      walk_done from old new w (λ place s least low. first.1 place s least (omega (arith, low, past)))
