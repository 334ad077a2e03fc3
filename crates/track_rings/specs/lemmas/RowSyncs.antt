-- Where a sync stands in a track that is a table of rows.
use Rattle.std.specs.Prelude.{◌≡◌, ℕ, zero, suc, ◌+◌, ◌-◌, ◌*◌, ◌<◌, ◌≤◌, Bool, false, List, []}
use Rattle.std.specs.Prelude.{◌++◌, length, refl}
use Rattle.std.specs.List.{flat_map, range_with_len}
use Rattle.std.proofs.Common.{ap, sym, subst, ◌∙◌, arith}
use Rattle.track_rings.specs.lemmas.Owning.{IsPlaceIn, IsSyncPlace}
use Rattle.track_rings.specs.Rings.{IsSectorNumber, bytes_of}
use Rattle.track_rings.specs.lemmas.RowLaws.{bit_after, coded-append}
use Rattle.track_rings.specs.Rows.{Rows, coded, part_cells, parts_of, pitch_of, place_of, ring_of}
use Rattle.track_rings.specs.Rows.{rows_cells, sector_parts, sector_rows, total, track_parts}
use Rattle.track_rings.specs.lemmas.Syncs.{Only, QuietPart, SyncPart, part-append, part-skip}
use Rattle.track_rings.specs.lemmas.Syncs.{part-then}
use Rattle.track_rings.specs.lemmas.TrackLaws.{length-bytes_of, length-rows_cells}

module _ {Row : Type 0} (asks : Bool) (cells_of : Bool → ℕ → List ℕ → Row → List Bool)
    (size_of : ℕ → Row → ℕ)
    (sized : (before : Bool) (sector : ℕ) (bytes : List ℕ) (row : Row)
    → length (cells_of before sector bytes row) ≡ size_of (length bytes) row)
    (first sectors size : ℕ) (rows : Rows Row) (bytes : List ℕ)
    (whole : length bytes ≡ sectors * size)
    (Test : List Bool → Type 0) (Needs : List Bool → Type 0) where
  -- what is tested begins in a sector at such places only after its frame does
  module _ (At : ℕ → Type 0) (in_sector : (before : Bool) (s : ℕ) → IsSectorNumber first sectors s
      → SyncPart Test
      (λ place. (offset : ℕ) × At offset × (place ≡ total (size_of size) rows.before + offset))
      Needs Needs
      (rows_cells asks cells_of before s (bytes_of first size bytes s) (sector_rows rows))) where
    sectors_part : (before : Bool) (from count : ℕ) → first ≤ from → from + count ≤ first + sectors
        → SyncPart Test (λ place. (k : ℕ) × (k < count) × (offset : ℕ) × At offset
        × (place ≡ k * pitch_of size_of size rows + (total (size_of size) rows.before + offset)))
        Needs Needs
        (coded asks (part_cells cells_of) before
        (flat_map (sector_parts first size bytes rows) (range_with_len from count)))
    unfolding coded sector_parts rows_cells
    sectors_part before from zero least most =
        λ rest needs. (λ place within test. absurd (omega arith), needs)
    sectors_part before from (suc count) least most =
        let number : IsSectorNumber first sectors from =
        record { least = least; most = omega (arith, most) } in
        let here = sector_parts first size bytes rows from in
        let others =
        flat_map (sector_parts first size bytes rows) (range_with_len (from + 1) count) in
        let pitch = pitch_of size_of size rows in
        let front = total (size_of size) rows.before in
        let bit = bit_after asks (part_cells cells_of) before here in
        let content = bytes_of first size bytes from in
        let long : length (coded asks (part_cells cells_of) before here) ≡ pitch =
        length-rows_cells asks cells_of size_of sized before from content (sector_rows rows)
        ∙ ap (λ (n : ℕ). total (size_of n) (sector_rows rows))
        (length-bytes_of first sectors size bytes from whole number) in
        let more = sectors_part bit (from + 1) count (omega arith) (omega (arith, most)) in
        let one = in_sector before from number in
        let Here : ℕ → Type 0 =
        λ place.
        (k : ℕ) × (k < suc count) × (offset : ℕ) × At offset
        × (place ≡ k * pitch + (front + offset)) in
        subst (SyncPart Test Here Needs Needs)
        (sym (coded-append asks (part_cells cells_of) before here others))
        (part-append Test Here Needs Needs Needs (coded asks (part_cells cells_of) before here)
        (coded asks (part_cells cells_of) bit others)
        (λ rest needs.
        let at = one rest needs in (
          λ place within test.
              (let e = at.0 place within test in (0, omega arith, e.0, e.1, omega (arith, e.2))),
          at.1,
        ))
        (λ rest needs.
        let at = more rest needs in (
          λ place within test.
              let place_at = at.0 place within test in
              let e : (place_at.0 + 1) * pitch ≡ place_at.0 * pitch + pitch = omega arith in (
                place_at.0 + 1,
                omega (arith, place_at.1),
                place_at.2,
                place_at.3,
                omega (arith, place_at.4, long, e),
              ),
          at.1,
        )))

    -- where it begins nowhere before the sectors and after them, it begins in the ring at such
    -- places after the sectors' frames do
    pub places-in_ring : QuietPart Test Needs Needs
        (rows_cells asks cells_of false first [] rows.lead_in)
        → ((before : Bool)
        → QuietPart Test Needs Needs (rows_cells asks cells_of before first [] rows.lead_out))
        → Needs (ring_of asks cells_of first sectors size bytes rows)
        → Only Test (IsPlaceIn (place_of size_of first size rows) first sectors At)
        (ring_of asks cells_of first sectors size bytes rows)
        (ring_of asks cells_of first sectors size bytes rows)
    unfolding ring_of track_parts rows_cells
    places-in_ring in_lead_in in_lead_out begins =
        let cells = coded asks (part_cells cells_of) in
        let ring = ring_of asks cells_of first sectors size bytes rows in
        let lead_in = parts_of first [] rows.lead_in in
        let all = flat_map (sector_parts first size bytes rows) (range_with_len first sectors) in
        let lead_out = parts_of first [] rows.lead_out in
        let bit = bit_after asks (part_cells cells_of) false lead_in in
        let last = bit_after asks (part_cells cells_of) bit all in
        let pitch = pitch_of size_of size rows in
        let Here : ℕ → Type 0 = IsPlaceIn (place_of size_of first size rows) first sectors At in
        let size_in = length-rows_cells asks cells_of size_of sized false first [] rows.lead_in in
        let middle = sectors_part bit first sectors (omega arith) (omega arith) in
        let apart : cells false lead_in ++ (cells bit all ++ cells last lead_out) ≡ ring =
        sym (coded-append asks (part_cells cells_of) false lead_in (all ++ lead_out)
        ∙ ap (λ (some : List Bool). cells false lead_in ++ some)
        (coded-append asks (part_cells cells_of) bit all lead_out)) in
        let part = part-skip Test Here Needs Needs Needs (cells false lead_in)
        (cells bit all ++ cells last lead_out) in_lead_in
        (part-then Test (λ place. Here (length (cells false lead_in) + place)) Needs Needs Needs
        (cells bit all) (cells last lead_out)
        (λ rest needs.
        let at = middle rest needs in (
          λ place within test.
              let k = at.0 place within test in
              let e : (first + k.0 - first) * pitch ≡ k.0 * pitch =
              ap (λ (n : ℕ). n * pitch) (add-sub first k.0) in (
                first + k.0,
                record { least = omega arith; most = omega (arith, k.1) },
                k.2,
                k.3,
                omega (arith, k.4, size_in, e),
              ),
          at.1,
        ))
        (in_lead_out last)) in
        (subst (SyncPart Test Here Needs Needs) apart part ring begins).0
      where
        add-sub : (m n : ℕ) → m + n - m ≡ n
        add-sub m n = omega arith

  -- the sync of a sector begins `lead` cells after its frame does
  pub syncs-in_ring : (lead : ℕ) → ((before : Bool) (s : ℕ) → IsSectorNumber first sectors s
      → SyncPart Test (λ place. place ≡ total (size_of size) rows.before + lead) Needs Needs
      (rows_cells asks cells_of before s (bytes_of first size bytes s) (sector_rows rows)))
      → QuietPart Test Needs Needs (rows_cells asks cells_of false first [] rows.lead_in)
      → ((before : Bool)
      → QuietPart Test Needs Needs (rows_cells asks cells_of before first [] rows.lead_out))
      → Needs (ring_of asks cells_of first sectors size bytes rows)
      → Only Test (IsSyncPlace (place_of size_of first size rows) first sectors lead)
      (ring_of asks cells_of first sectors size bytes rows)
      (ring_of asks cells_of first sectors size bytes rows)
  syncs-in_ring lead in_sector in_lead_in in_lead_out begins place within test =
      let at = places-in_ring (λ offset. offset ≡ lead)
      (λ before s number rest needs.
      let one = in_sector before s number rest needs in
      (λ here inside stands. (lead, refl, one.0 here inside stands), one.1))
      in_lead_in in_lead_out begins place within test in
      (at.0, at.1, omega (arith, at.3, at.4))
