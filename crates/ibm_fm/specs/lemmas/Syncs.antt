-- Where marks stand in a ring, and of them the ID mark: only where a sector's header begins.
use Rattle.std.specs.Prelude.{◌≡◌, ℕ, suc, ◌+◌, Bool, true, false, List, [], ◌∷◌, ◌++◌, length}
use Rattle.std.specs.Prelude.{replicate, Option, Some, None, refl}
use Rattle.std.specs.List.{flat_map, range_with_len}
use Rattle.std.proofs.Common.{sym, subst, arith, append_assoc}
use Rattle.std.proofs.lemmas.List.{length-map, take_all}
use Rattle.flux_base.specs.declared.track.TrackId.{TrackId}
use Rattle.cell_bits.specs.Bytes.{fm, fm_cells}
use Rattle.cell_bits.specs.Word.{Stands, digit, word_cells}
use Rattle.cell_bits.specs.lemmas.WordLaws.{length-word_cells}
use Rattle.track_rings.specs.lemmas.Owning.{IsPlaceIn, Leads}
use Rattle.track_rings.specs.Rings.{AreSectors, bytes_of}
use Rattle.track_rings.specs.lemmas.RowSyncs.{places-in_ring}
use Rattle.track_rings.specs.Rows.{TrackRow, coded, part_cells, parts_of, place_of, ring_of}
use Rattle.track_rings.specs.Rows.{rows_cells, sector_parts, sector_rows, total, track_parts}
use Rattle.track_rings.specs.lemmas.Syncs.{Only, QuietPart, SyncPart, Syncs, all_known, clashes}
use Rattle.track_rings.specs.lemmas.Syncs.{clashes_at_all, fits, fits-append, fits-front}
use Rattle.track_rings.specs.lemmas.Syncs.{fits-known, fits-word, nowhere-known, only-first}
use Rattle.track_rings.specs.lemmas.Syncs.{part-append, part-skip, part-then, quiet-all}
use Rattle.track_rings.specs.lemmas.Syncs.{quiet-append, quiet-none}
use Rattle.frame_law.specs.lemmas.OwnFrames.{HasOwnSyncs}
use Rattle.ibm_fields.specs.Fields.{high_first}
use Rattle.ibm_disks.specs.Numbers.{FillFmTrack, code_of, size_of}
use Rattle.ibm_disks.specs.declared.track_numbers.LeadIn.{LeadIn}
use Rattle.ibm_disks.specs.declared.track_numbers.LeadIn.TheVariants.{Indexed, Bare}
use Rattle.ibm_disks.specs.declared.track_numbers.TrackNumbers.{TrackNumbers}
use Rattle.ibm_fm.specs.declared.layout.Mark.TheVariants.{Index}
use Rattle.ibm_fm.specs.declared.layout.Row.{Row}
use Rattle.ibm_fm.specs.declared.layout.Row.TheVariants.{Run, Mark as AMark}
use Rattle.ibm_fm.specs.Layout.{field_cells, fm_bytes, lead_in_rows, row_cells, row_size, rows_of}
use Rattle.ibm_fm.specs.Layout.{track_gap_of}
use Rattle.ibm_fm.specs.lemmas.RowLaws.{length-fm_bytes, row_length}
use Rattle.ibm_fm.specs.Sectors.{DATA_MARK, ID_MARK, INDEX_MARK, Names, address_of, check_of}

-- eight clock cells, each with a data cell after it
unfoldable pub eight_clocks : List (Option Bool)
eight_clocks =
    Some true ∷ None ∷ Some true ∷ None ∷ Some true ∷ None ∷ Some true ∷ None
    ∷ Some true ∷ None ∷ Some true ∷ None ∷ Some true ∷ None ∷ Some true ∷ None ∷ []

pub Clocked : List Bool → Type 0
unfolding eight_clocks
Clocked cells = fits eight_clocks cells ≡ true

-- whatever stands there
pub Anything : List Bool → Type 0
Anything cells = Unit {0}

-- A sync that begins nowhere in bytes, which have their clocks, nor in the bytes of 00 before a
-- mark, whatever follows them, nor in an index mark.
pub record IsMarkSync (sync : List (Option Bool)) : Type 0 where
  pub in_bytes : clashes_at_all sync 2 (Some true ∷ None ∷ eight_clocks) ≡ true
  pub in_zeros : clashes_at_all sync 96 (all_known (fm_bytes (replicate 6 0x00))) ≡ true
  pub in_index_mark : clashes_at_all sync 16 (all_known (word_cells 16 INDEX_MARK) ++ eight_clocks)
      ≡ true

-- a byte has clocks, whatever follows
byte_clocked : (byte : ℕ) (rest : List Bool) → Clocked (fm byte ++ rest)
unfolding Clocked eight_clocks fits fm fm_cells word_cells
byte_clocked byte rest = refl

-- what is known of cells before bytes
before_clocks : (cells rest : List Bool) → Clocked rest
    → fits (all_known cells ++ eight_clocks) (cells ++ rest) ≡ true
unfolding Clocked
before_clocks cells rest clocked =
    fits-append (all_known cells) eight_clocks cells rest (length-map cells (λ cell. Some cell))
    (fits-word cells cells (length cells) refl (take_all (length cells) cells (omega arith)))
    clocked

-- what follows a sector's ID mark
abbrev after_mark : TrackNumbers → TrackId → List ℕ → ℕ → List Bool
after_mark disk track content sector =
    field_cells 0xFE (address_of (code_of disk.size) track sector)
    ++ (fm_bytes (replicate 11 0xFF)
    ++ (fm_bytes (replicate 6 0x00)
    ++ (word_cells 16 DATA_MARK
    ++ (field_cells 0xFB content ++ (fm_bytes (replicate disk.sector_gap 0xFF) ++ [])))))

-- cells that begin with a row of bytes
run_clocked : (disk : TrackNumbers) (track : TrackId) (count s : ℕ) (others : List Row)
    (parts : List (TrackRow Row))
    → Clocked
    (coded false (part_cells (row_cells disk track)) false
    (parts_of s [] (Run (suc count) 0xFF ∷ others) ++ parts))
unfolding coded
run_clocked disk track count s others parts =
    let bytes = fm_bytes (replicate count 0xFF) in
    let rest =
    coded false (part_cells (row_cells disk track)) false (parts_of s [] others ++ parts) in
    subst Clocked (sym (append_assoc (fm 0xFF) bytes rest)) (byte_clocked 0xFF (bytes ++ rest))

lead_in_clocked : (disk : TrackNumbers) (kind : LeadIn) (track : TrackId) (s : ℕ)
    (parts : List (TrackRow Row))
    → Clocked
    (coded false (part_cells (row_cells disk track)) false
    (parts_of s [] (lead_in_rows kind) ++ parts))
lead_in_clocked disk Indexed track s parts =
    run_clocked disk track 39 s (Run 6 0x00 ∷ AMark Index ∷ Run 26 0xFF ∷ []) parts
lead_in_clocked disk Bare track s parts = run_clocked disk track 15 s [] parts

-- a ring
abbrev pub ring : TrackNumbers → TrackId → List ℕ → List Bool
ring disk track bytes = ring_of false (row_cells disk track) disk.first_sector disk.sectors
    (size_of disk.size) bytes (rows_of disk)

ring_clocked : (disk : TrackNumbers) (track : TrackId) (bytes : List ℕ)
    → Clocked (ring disk track bytes)
unfolding ring_of track_parts
ring_clocked disk track bytes =
    let rows = rows_of disk in
    lead_in_clocked disk disk.lead_in track disk.first_sector
    (flat_map (sector_parts disk.first_sector (size_of disk.size) bytes rows)
    (range_with_len disk.first_sector disk.sectors)
    ++ parts_of disk.first_sector [] rows.lead_out)

module _ (sync : List (Option Bool)) where
  -- a mark before bytes in which it begins nowhere, and one in which it
  -- begins at the first cell alone
  pub mark_quiet : (Here : ℕ → Type 0) (mark : ℕ)
      → clashes_at_all sync 16 (all_known (word_cells 16 mark) ++ eight_clocks) ≡ true
      → SyncPart (Syncs sync) Here Clocked Anything (word_cells 16 mark)
  unfolding Anything
  mark_quiet Here mark clash rest clocked =
      let cells = word_cells 16 mark in
      let none = nowhere-known sync (all_known cells ++ eight_clocks) cells rest 16
      (length-word_cells 16 mark) clash (before_clocks cells rest clocked) in
      (λ place within test. absurd (none place within test), tt)

  pub mark_first : (Here : ℕ → Type 0) (mark : ℕ) → Here 0
      → clashes_at_all sync 15 (all_known (word_cells 15 mark) ++ eight_clocks) ≡ true
      → SyncPart (Syncs sync) Here Clocked Anything (word_cells 16 mark)
  unfolding Anything word_cells
  mark_first Here mark here clash rest clocked =
      let cells = word_cells 15 mark in
      let none = nowhere-known sync (all_known cells ++ eight_clocks) cells rest 15
      (length-word_cells 15 mark) clash (before_clocks cells rest clocked) in (
        λ place within test.
            subst Here
            (sym (only-first (Syncs sync) (digit mark 15) cells rest none place within test)) here,
        tt,
      )

  module _ (is : IsMarkSync sync) where
    -- a data cell with its clock, before eight clocks
    bit_quiet : (bit : Bool) → QuietPart (Syncs sync) Clocked Clocked (true ∷ bit ∷ [])
    unfolding Clocked eight_clocks fits
    bit_quiet bit rest clocked = (
      nowhere-known sync (Some true ∷ None ∷ eight_clocks) (true ∷ bit ∷ []) rest 2 refl is.in_bytes
          clocked,
      fits-front (Some true ∷ None ∷ Some true ∷ None ∷ Some true ∷ None ∷ Some true ∷ None
          ∷ Some true ∷ None ∷ Some true ∷ None ∷ Some true ∷ None ∷ Some true ∷ None ∷ [])
          (Some true ∷ None ∷ []) (true ∷ bit ∷ rest) clocked,
    )

    bits_quiet : (bits : List Bool) → QuietPart (Syncs sync) Clocked Clocked (fm_cells bits)
    unfolding fm_cells
    bits_quiet [] = quiet-none (Syncs sync) Clocked
    bits_quiet (bit ∷ bits) = quiet-append (Syncs sync) Clocked Clocked Clocked (true ∷ bit ∷ [])
        (fm_cells bits) (bit_quiet bit) (bits_quiet bits)

    byte_quiet : (byte : ℕ) → QuietPart (Syncs sync) Clocked Clocked (fm byte)
    unfolding fm
    byte_quiet byte = bits_quiet (word_cells 8 byte)

    bytes_quiet : (bytes : List ℕ) → QuietPart (Syncs sync) Clocked Clocked (fm_bytes bytes)
    bytes_quiet bytes = quiet-all (Syncs sync) Clocked fm byte_quiet bytes

    field_quiet : (mark : ℕ) (bytes : List ℕ)
        → QuietPart (Syncs sync) Clocked Clocked (field_cells mark bytes)
    field_quiet mark bytes = bytes_quiet (bytes ++ high_first (check_of mark bytes))

    -- the bytes of 00 before a mark
    zeros_quiet : QuietPart (Syncs sync) Anything Clocked (fm_bytes (replicate 6 0x00))
    unfolding Clocked Anything eight_clocks word_cells fits fm fm_cells
    zeros_quiet rest any = (
      nowhere-known sync (all_known (fm_bytes (replicate 6 0x00))) (fm_bytes (replicate 6 0x00))
          rest 96 refl is.in_zeros
          (fits-known (fm_bytes (replicate 6 0x00)) rest),
      refl,
    )

    run_quiet : (count : ℕ)
        → QuietPart (Syncs sync) Clocked Clocked (fm_bytes (replicate count 0xFF))
    run_quiet count = bytes_quiet (replicate count 0xFF)

    -- a run that stands last
    last_quiet : (count : ℕ)
        → QuietPart (Syncs sync) Clocked Clocked (fm_bytes (replicate count 0xFF) ++ [])
    last_quiet count = quiet-append (Syncs sync) Clocked Clocked Clocked
        (fm_bytes (replicate count 0xFF)) [] (run_quiet count) (quiet-none (Syncs sync) Clocked)

    lead_in_quiet : (disk : TrackNumbers) (kind : LeadIn) (track : TrackId) (s : ℕ)
        → QuietPart (Syncs sync) Clocked Clocked
        (rows_cells false (row_cells disk track) false s [] (lead_in_rows kind))
    unfolding rows_cells coded
    lead_in_quiet disk Indexed track s =
        let last = fm_bytes (replicate 26 0xFF) ++ [] in
        let marked = word_cells 16 INDEX_MARK ++ last in
        quiet-append (Syncs sync) Clocked Clocked Clocked (fm_bytes (replicate 40 0xFF))
        (fm_bytes (replicate 6 0x00) ++ marked) (run_quiet 40)
        (quiet-append (Syncs sync) Clocked Anything Clocked (fm_bytes (replicate 6 0x00)) marked
        zeros_quiet
        (quiet-append (Syncs sync) Clocked Clocked Anything (word_cells 16 INDEX_MARK) last
        (mark_quiet (λ place. ⊥) INDEX_MARK is.in_index_mark) (last_quiet 26)))
    lead_in_quiet disk Bare track s = last_quiet 16

    -- A disk's track, where the sync begins at such places only in a sector's two marks,
    -- counted from the begin of the first.
    module _ (disk : TrackNumbers) (track : TrackId) (At : ℕ → Type 0)
        (id_part : SyncPart (Syncs sync) At Clocked Anything (word_cells 16 ID_MARK))
        (data_part : SyncPart (Syncs sync) (λ place. At (384 + place)) Clocked Anything
        (word_cells 16 DATA_MARK)) where
      -- what follows a sector's ID mark
      after_mark_part : (content : List ℕ) (sector : ℕ)
          → SyncPart (Syncs sync) (λ place. At (16 + place)) Clocked Clocked
          (after_mark disk track content sector)
      after_mark_part content sector =
          let last = fm_bytes (replicate disk.sector_gap 0xFF) ++ [] in
          let filled = field_cells 0xFB content ++ last in
          let zeros = fm_bytes (replicate 6 0x00) in
          let gap = fm_bytes (replicate 11 0xFF) in
          let address = field_cells 0xFE (address_of (code_of disk.size) track sector) in
          let size : length address ≡ 96 =
          length-fm_bytes
          (address_of (code_of disk.size) track sector
          ++ high_first (check_of 0xFE (address_of (code_of disk.size) track sector))) in
          let gap_size : length gap ≡ 176 = length-fm_bytes (replicate 11 0xFF) in
          let zeros_size : length zeros ≡ 96 = length-fm_bytes (replicate 6 0x00) in
          part-skip (Syncs sync) (λ place. At (16 + place)) Clocked Clocked Clocked address
          (gap ++ (zeros ++ (word_cells 16 DATA_MARK ++ filled)))
          (field_quiet 0xFE (address_of (code_of disk.size) track sector))
          (part-skip (Syncs sync) (λ place. At (16 + (length address + place))) Clocked Clocked
          Clocked gap (zeros ++ (word_cells 16 DATA_MARK ++ filled))
          (run_quiet 11)
          (part-skip (Syncs sync) (λ place. At (16 + (length address + (length gap + place))))
          Clocked Anything Clocked zeros
          (word_cells 16 DATA_MARK ++ filled) zeros_quiet
          (part-then (Syncs sync)
          (λ place. At (16 + (length address + (length gap + (length zeros + place))))) Clocked
          Clocked Anything
          (word_cells 16 DATA_MARK) filled
          (λ rest clocked.
          let one = data_part rest clocked in (
            λ place within test.
                let e : 384 + place
                ≡ 16 + (length address + (length gap + (length zeros + place))) =
                omega (arith, size, gap_size, zeros_size) in
                subst At e (one.0 place within test),
            one.1,
          ))
          (quiet-append (Syncs sync) Clocked Clocked Clocked (field_cells 0xFB content) last
          (field_quiet 0xFB content) (last_quiet disk.sector_gap)))))

      sector_part : (before : Bool) (sector : ℕ) (content : List ℕ)
          → SyncPart (Syncs sync) (λ place. (offset : ℕ) × At offset × (place ≡ 96 + offset))
          Clocked Clocked
          (rows_cells false (row_cells disk track) before sector content
          (sector_rows (rows_of disk)))
      unfolding rows_cells coded
      sector_part before sector content =
          let zeros = fm_bytes (replicate 6 0x00) in
          let size : length zeros ≡ 96 = length-fm_bytes (replicate 6 0x00) in
          let mark_size = length-word_cells 16 ID_MARK in
          let after = after_mark disk track content sector in
          let framed = part-append (Syncs sync) At Clocked Clocked Anything (word_cells 16 ID_MARK)
          after id_part
          (subst (λ (n : ℕ). SyncPart (Syncs sync) (λ place. At (n + place)) Clocked Clocked after)
          (sym mark_size) (after_mark_part content sector)) in
          part-skip (Syncs sync) (λ place. (offset : ℕ) × At offset × (place ≡ 96 + offset)) Clocked
          Anything Clocked zeros
          (word_cells 16 ID_MARK ++ after) zeros_quiet
          (λ rest clocked.
          let one = framed rest clocked in
          (λ place within test. (place, one.0 place within test, omega (arith, size)), one.1))

    -- so in the ring it begins only after the begin of a sector's header, at such places
    pub only_in_marks : (disk : TrackNumbers) → FillFmTrack disk
        → (track : TrackId) (At : ℕ → Type 0)
        → SyncPart (Syncs sync) At Clocked Anything (word_cells 16 ID_MARK)
        → SyncPart (Syncs sync) (λ place. At (384 + place)) Clocked Anything
        (word_cells 16 DATA_MARK)
        → (bytes : List ℕ)
        → AreSectors disk.sectors (size_of disk.size) bytes
        → Only (Syncs sync)
        (IsPlaceIn
        (place_of (row_size disk) disk.first_sector (size_of disk.size) (rows_of disk))
        disk.first_sector disk.sectors At)
        (ring disk track bytes) (ring disk track bytes)
    unfolding total rows_cells coded
    only_in_marks disk fills track At id_part data_part bytes given =
        places-in_ring false (row_cells disk track) (row_size disk) (row_length disk track)
        disk.first_sector disk.sectors (size_of disk.size)
        (rows_of disk) bytes given.whole (Syncs sync) Clocked At
        (λ before s number.
        sector_part disk track At id_part data_part before s
        (bytes_of disk.first_sector (size_of disk.size) bytes s))
        (lead_in_quiet disk disk.lead_in track disk.first_sector)
        (λ before. last_quiet (track_gap_of disk)) (ring_clocked disk track bytes)

-- the ID mark, without its first cell, which is a one
unfoldable sync_rest : List (Option Bool)
sync_rest = all_known (word_cells 15 ID_MARK)

abbrev id_sync : List (Option Bool)
id_sync = Some true ∷ sync_rest

length-sync_rest : length sync_rest ≡ 15
unfolding sync_rest word_cells
length-sync_rest = refl

leads : (cells : List Bool) → Stands cells ID_MARK 16 0 → Leads 0 sync_rest cells
unfolding sync_rest word_cells
leads cells stands =
    fits-word (word_cells 16 ID_MARK) cells 16 (length-word_cells 16 ID_MARK) stands

id_is : IsMarkSync id_sync
unfolding eight_clocks sync_rest fm fm_cells word_cells clashes_at_all clashes
id_is = record { in_bytes = refl; in_zeros = refl; in_index_mark = refl }

in_id_mark : SyncPart (Syncs id_sync) (λ offset. offset ≡ 0) Clocked Anything
    (word_cells 16 ID_MARK)
unfolding eight_clocks sync_rest word_cells clashes_at_all clashes
in_id_mark = mark_first id_sync (λ offset. offset ≡ 0) ID_MARK refl refl

in_data_mark : SyncPart (Syncs id_sync) (λ place. 384 + place ≡ 0) Clocked Anything
    (word_cells 16 DATA_MARK)
unfolding eight_clocks sync_rest word_cells clashes_at_all clashes
in_data_mark = mark_quiet id_sync (λ place. 384 + place ≡ 0) DATA_MARK refl

-- so in the ring it begins where headers do
pub own_syncs : (disk : TrackNumbers) → FillFmTrack disk → (track : TrackId) →
    HasOwnSyncs 0xF57E 16 112 disk.first_sector disk.sectors Names
    (place_of (row_size disk) disk.first_sector (size_of disk.size) (rows_of disk))
    (AreSectors disk.sectors (size_of disk.size)) (ring disk track)
own_syncs disk fills track = record {
  lead = 0;
  rest = sync_rest;
  short = omega (arith, length-sync_rest);
  leads = λ cells s stands named. leads cells stands;
  only = λ bytes given place within test.
      let at = only_in_marks id_sync id_is disk fills track (λ offset. offset ≡ 0) in_id_mark
      in_data_mark bytes given place within test in
      (at.0, at.1, omega (arith, at.3, at.4));
}
