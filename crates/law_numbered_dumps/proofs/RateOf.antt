-- Data of a captured track are of the disk's rate.
use Rattle.std.proofs.Common.{◌≡◌, ◌<◌, ◌≤◌, ◌+◌, ◌-◌, ◌*◌, ◌∙◌, ℕ, Bool, true, not, List, drop, length, refl, sym, ap, subst, arith, length-drop}
use Rattle.disk_recordings.specs.Members.{data_at}
use Rattle.disk_recordings.specs.Recordings.{numbered_by}
use Rattle.disk_recordings.specs.contracts.meaning.DiskRecordingMeaning.TheImpl.{ghosts}
use Rattle.dump_numbers.specs.TurnRule.{is_of_rate}
use Rattle.flux_engine.specs.Captures.{Capture, IsSteady, cells_of_stream}
use Rattle.flux_engine.specs.Recordings.{track_at}
use Rattle.flux_engine.specs.Rings.{IsImage, IsRing, nominal_of, ring_cells_of, ring_of}
use Rattle.ibm_disks.specs.Disks.{rate_of, track_of_disk}
use Rattle.ibm_disks.specs.GapPlans.{density_of, track_bytes}
use Rattle.ibm_disks.specs.declared.disk.IbmDisk.{IbmDisk}
use Rattle.ibm_disks.specs.declared.rate.Density.{Density}
use Rattle.ibm_disks.specs.declared.rate.Density.TheVariants.{Single as SingleDensity, Double as DoubleDensity}
use Rattle.ibm_disks.specs.declared.rate.Rate.{Rate}
use Rattle.ibm_disks.specs.declared.rate.Rate.TheVariants.{Double, High, HighAt360, Single, SingleAt360}
use Rattle.ibm_disks.specs.declared.track_numbers.TrackNumbers.{TrackNumbers}
use Rattle.ibm_disks.specs.lemmas.DiskLaws.{all_have_disks}
use Rattle.kryo_stream.specs.Stream.{indexes, times}
use Rattle.law_captured_disks.specs.lemmas.WrittenTracks.{are_written}
use Rattle.phase_loop.specs.Pieces.{cells_between}
use Rattle.sector_images.specs.Formats.{cell_of}
use Rattle.sector_images.specs.Places.{tracks}
use Rattle.sector_images.specs.declared.format.Format.TheVariants.{Numbered}
use Rattle.std.specs.Prelude.{slice_index}
use Rattle.track_rings.specs.Rings.{last_in}
use Rattle.track_rings.specs.lemmas.Cuts.{length-stretch}
use Rattle.law_numbered_dumps.specs.Inputs.{SharesCell}
use Rattle.law_numbered_dumps.proofs.Streams.{IsOfRate, Laws}
use Rattle.law_numbered_dumps.proofs.Turns.{is_of_high, is_of_low}

-- data of double density stand behind a header
behind_header : (density : Density) (t : TrackNumbers) (cells : List Bool) (place : ℕ) (bytes : List ℕ) → density ≡ DoubleDensity → ghosts.data_at (numbered_by density t) cells place bytes
    → 160 ≤ place
behind_header DoubleDensity t cells place bytes double here = here.begin.after
behind_header SingleDensity t cells place bytes double here = absurd (no double)
  where
    no : SingleDensity ≡ DoubleDensity → ⊥
    no e = cc

module _ (laws : Laws) (disk : IbmDisk) (image : List ℕ) (is : IsImage (Numbered disk) image) (n : ℕ) (known : n < length (tracks (Numbered disk))) (x : List ℕ)
    (capture : Capture x (ring_of (Numbered disk) image n) (nominal_of (Numbered disk) n))
    (steady : SharesCell (rate_of disk) → IsSteady x (ring_of (Numbered disk) image n) (nominal_of (Numbered disk) n) capture) where
  abbrev ring : List Bool
  ring = ring_of (Numbered disk) image n

  abbrev cells : List Bool
  cells = cells_of_stream (Numbered disk) (track_at (Numbered disk) n) x

  abbrev ring_cells : List Bool
  ring_cells = cells_between ring (slice_index capture.places 0) (last_in capture.places)

  is_ring : IsRing (ring_cells_of (Numbered disk) n) ring
  is_ring = (are_written laws.numbers laws.rings laws.lie (Numbered disk) image is).ring n known

  same : cells ≡ ring_cells
  same =
      laws.recovered (Numbered disk) (track_at (Numbered disk) n) x ring ((are_written laws.numbers laws.rings laws.lie (Numbered disk) image is).known n known) is_ring capture

  within : (place behind : ℕ) (bytes : List ℕ) → data_at (Numbered disk) (drop place cells) behind bytes → place + behind < last_in capture.places - slice_index capture.places 0 + 1
  within place behind bytes here =
      let inside = (laws.reads.told (Numbered disk)).inside (drop place cells) behind bytes here in
      let rest = length-drop place cells in
      let all : length cells ≡ last_in capture.places - slice_index capture.places 0 + 1 = ap length same ∙ length-stretch ring (slice_index capture.places 0) (last_in capture.places - slice_index capture.places 0 + 1) in
      omega (arith, inside, rest, all)

  size_is : (rate : Rate) → rate_of disk ≡ rate → length ring ≡ 16 * track_bytes rate
  size_is rate e = is_ring.cells_are ∙ ap (λ (bytes : ℕ). 16 * bytes) ((all_have_disks disk).fills.1 ∙ ap track_bytes e)

  of : (rate : Rate) → rate_of disk ≡ rate → (place behind : ℕ) (bytes : List ℕ) → data_at (Numbered disk) (drop place cells) behind bytes
      → is_of_rate rate (times x) (indexes x) ring_cells place behind ≡ true
  of Double e place behind bytes here = refl
  of Single e place behind bytes here = refl
  of SingleAt360 e place behind bytes here = refl
  of High e place behind bytes here =
      let size : length ring ≡ 200000 = size_is High e in
      is_of_high x ring (nominal_of (Numbered disk) n) capture (steady (subst SharesCell (sym e) tt)) is_ring.spaced (ap cell_of e) (omega (arith, size)) place behind
      (within place behind bytes here) (behind_header (density_of (rate_of disk)) (track_of_disk disk) (drop place cells) behind bytes (ap density_of e) here) size
  of HighAt360 e place behind bytes here =
      let size : length ring ≡ 166656 = size_is HighAt360 e in
      ap not
      (is_of_low x ring (nominal_of (Numbered disk) n) capture (steady (subst SharesCell (sym e) tt)) is_ring.spaced (ap cell_of e) (omega (arith, size)) place behind
      (within place behind bytes here) (behind_header (density_of (rate_of disk)) (track_of_disk disk) (drop place cells) behind bytes (ap density_of e) here) size)

  pub of_rate : IsOfRate laws disk n x image is known capture
  of_rate place behind bytes here =
      subst (λ (cs : List Bool). is_of_rate (rate_of disk) (times x) (indexes x) cs place behind ≡ true) (sym same) (of (rate_of disk) refl place behind bytes here)
