-- Where a data mark stands in a ring: only where a sector's data begin.
use Rattle.std.specs.Prelude.{◌≡◌, ℕ, ◌+◌, Bool, true, List, [], ◌∷◌, ◌++◌, length, take, drop}
use Rattle.std.specs.Prelude.{Option, Some, None, refl}
use Rattle.std.proofs.Common.{sym, subst, ◌∙◌, arith, inl, inr}
use Rattle.std.proofs.lemmas.List.{take_all}
use Rattle.flux_base.specs.declared.track.TrackId.{TrackId}
use Rattle.cell_bits.specs.Bytes.{fm, fm_cells}
use Rattle.cell_bits.specs.Word.{Stands, word_cells}
use Rattle.cell_bits.specs.lemmas.WordLaws.{length-word_cells}
use Rattle.track_rings.specs.Rings.{AreSectors}
use Rattle.track_rings.specs.Rows.{place_of}
use Rattle.track_rings.specs.lemmas.Syncs.{SyncPart, Syncs, all_known, clashes, clashes_at_all}
use Rattle.track_rings.specs.lemmas.Syncs.{fits, fits-agree}
use Rattle.frame_law.specs.lemmas.OwnData.{HasOwnDataSyncs, IsDataOffset}
use Rattle.ibm_disks.specs.Numbers.{FillFmTrack, size_of}
use Rattle.ibm_disks.specs.declared.track_numbers.TrackNumbers.{TrackNumbers}
use Rattle.ibm_disks.specs.lemmas.NumberLaws.{size-least}
use Rattle.ibm_fm.specs.Layout.{row_size, rows_of}
use Rattle.ibm_fm.specs.Sectors.{DATA_CELLS, DATA_MARK, DELETED_DATA_MARK, DataMarkAt, Hold}
use Rattle.ibm_fm.specs.Sectors.{ID_MARK, IsSync}
use Rattle.ibm_fm.specs.lemmas.Syncs.{Anything, Clocked, IsMarkSync, eight_clocks, mark_first}
use Rattle.ibm_fm.specs.lemmas.Syncs.{mark_quiet, only_in_marks, ring}

-- what both data marks have
unfoldable data_sync : List (Option Bool)
data_sync = all_known (word_cells 12 0xF56) ++ (Some true ∷ None ∷ Some true ∷ None ∷ [])

length-data_sync : length data_sync ≡ 16
unfolding data_sync word_cells
length-data_sync = refl

in_both : (fits data_sync (word_cells 16 DATA_MARK) ≡ true)
    × (fits data_sync (word_cells 16 DELETED_DATA_MARK) ≡ true)
unfolding data_sync word_cells fits
in_both = (refl, refl)

begins : (mark : ℕ) (cells : List Bool) (sync : ℕ) → fits data_sync (word_cells 16 mark) ≡ true
    → Stands cells mark 16 sync → Syncs data_sync (drop sync cells)
begins mark cells sync has stands =
    let word = word_cells 16 mark in
    let whole = take_all 16 word (omega (arith, length-word_cells 16 mark)) ∙ sym stands in
    fits-agree data_sync word (drop sync cells)
    (subst (λ (n : ℕ). take n word ≡ take n (drop sync cells)) (sym length-data_sync) whole) has

leads : (cells : List Bool) (sync : ℕ) → DataMarkAt cells sync
    → Syncs data_sync (drop (sync + 0) cells)
leads cells sync opens =
    let e : sync ≡ sync + 0 = omega arith in
    subst (λ (n : ℕ). Syncs data_sync (drop n cells)) e
    (elim opens [
      | inl stands ↦ begins DATA_MARK cells sync in_both.0 stands
      | inr stands ↦ begins DELETED_DATA_MARK cells sync in_both.1 stands
    ])

data_is : IsMarkSync data_sync
unfolding eight_clocks data_sync fm fm_cells word_cells clashes_at_all clashes
data_is = record { in_bytes = refl; in_zeros = refl; in_index_mark = refl }

in_id_mark : SyncPart (Syncs data_sync) (IsDataOffset 112 384 0) Clocked Anything
    (word_cells 16 ID_MARK)
unfolding eight_clocks data_sync word_cells clashes_at_all clashes
in_id_mark = mark_quiet data_sync (IsDataOffset 112 384 0) ID_MARK refl

in_data_mark : SyncPart (Syncs data_sync) (λ place. IsDataOffset 112 384 0 (384 + place)) Clocked
    Anything (word_cells 16 DATA_MARK)
unfolding eight_clocks data_sync word_cells clashes_at_all clashes
in_data_mark =
    mark_first data_sync (λ place. IsDataOffset 112 384 0 (384 + place)) DATA_MARK (inl refl) refl

-- so in the ring it begins where data do; a sector has so many bytes that all within reach
-- of its header lies in its frame
pub own_data : (disk : TrackNumbers) → FillFmTrack disk → (track : TrackId) →
    HasOwnDataSyncs 112 (DATA_CELLS (size_of disk.size)) 384 disk.first_sector disk.sectors
    (λ cells. 112) IsSync (Hold (size_of disk.size))
    (place_of (row_size disk) disk.first_sector (size_of disk.size) (rows_of disk))
    (AreSectors disk.sectors (size_of disk.size)) (ring disk track)
own_data disk fills track = record {
  lead = 0;
  pattern = data_sync;
  short = omega (arith, length-data_sync);
  near = λ cells. omega (arith, size-least disk.size);
  leads = λ cells sync bytes stands hold. leads cells sync hold.opens;
  only = only_in_marks data_sync data_is disk fills track (IsDataOffset 112 384 0) in_id_mark
      in_data_mark;
}
