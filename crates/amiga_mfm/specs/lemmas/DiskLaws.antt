-- The sums of each disk's rows, its numbers, and that its tracks end with a zero.
use Rattle.std.specs.Prelude.{◌≡◌, ◌+◌, ◌≤◌, Bool, true, false, ◌&&◌, [], refl}
use Rattle.std.proofs.Common.{◌∙◌, arith, lit≤}
use Rattle.flux_base.specs.Bounds.{LONGEST_RING, MOST_SECTOR_BYTES}
use Rattle.flux_base.specs.declared.track.TrackId.{TrackId}
use Rattle.track_rings.specs.Rows.{frame_size, last_of, ring_size, rows_cells, total}
use Rattle.mfm_coding.specs.declared.symbol.Symbol.TheVariants.{Data}
use Rattle.mfm_coding.specs.lemmas.CodingLaws.{last_bit, run-bit}
use Rattle.mfm_coding.specs.lemmas.SymbolRows.{rows-end, rows_symbols}
use Rattle.amiga_mfm.specs.declared.layout.Disk.{Disk}
use Rattle.amiga_mfm.specs.declared.recording.AmigaMfm.{AmigaMfm}
use Rattle.amiga_mfm.specs.declared.recording.AmigaMfm.TheVariants.{DoubleDensity, HighDensity}
use Rattle.amiga_mfm.specs.Disks.{disk_of}
use Rattle.amiga_mfm.specs.Layout.{row_cells, row_size, row_symbols, rows}

-- what a disk's numbers have to be: its rows fill its tracks, which are not too long and end with a
-- gap, and its sectors have numbers of 8 bits
pub record IsSound (disk : Disk) : Type 0 where
  pub filled : ring_size (row_size disk) disk.sectors 512 rows ≡ disk.cells
  pub few_cells : disk.cells ≤ LONGEST_RING
  pub gap : 1 ≤ disk.track_gap
  pub some : 1 ≤ disk.sectors
  pub few : disk.sectors ≤ 255

pub sound : (recording : AmigaMfm) → IsSound (disk_of recording)
unfolding total
sound DoubleDensity =
    record { filled = refl; few_cells = lit≤ tt; gap = lit≤ tt; some = lit≤ tt; few = lit≤ tt }
sound HighDensity =
    record { filled = refl; few_cells = lit≤ tt; gap = lit≤ tt; some = lit≤ tt; few = lit≤ tt }

module _ (recording : AmigaMfm) where
  pub counts : (1 ≤ (disk_of recording).sectors) × (0 + (disk_of recording).sectors ≤ 256)
      × (512 ≤ MOST_SECTOR_BYTES)
  counts = ((sound recording).some, omega (arith, (sound recording).few), lit≤ tt)

  pub sums : (frame_size (row_size (disk_of recording)) 512 rows ≡ 8672)
      × (ring_size (row_size (disk_of recording)) (disk_of recording).sectors 512 rows
      ≡ (disk_of recording).cells)
      × ((disk_of recording).cells ≤ LONGEST_RING)
  unfolding total
  sums = (refl, (sound recording).filled, (sound recording).few_cells)

  pub last_zero : (track : TrackId) (before : Bool)
      → last_bit before (rows_symbols (row_symbols (disk_of recording) track) 0 [] rows.lead_out)
      ≡ false
  last_zero track before =
      run-bit (Data 0x00) (disk_of recording).track_gap before (sound recording).gap

  pub ends : (track : TrackId) (before : Bool)
      → (true
      && last_of before
      (rows_cells true (row_cells (disk_of recording) track) before 0 [] rows.lead_out))
      ≡ false
  ends track before = rows-end (row_symbols (disk_of recording) track) before 0 [] rows.lead_out
      ∙ last_zero track before
