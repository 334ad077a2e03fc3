-- The readings of a ring are one list.
use Rattle.std.specs.Prelude.{◌≡◌, ◌≢◌, ℕ, ◌+◌, ◌≤◌, Bool, List, [], ◌∷◌, ◌++◌, length, drop, Some, refl}
use Rattle.std.proofs.Common.{ap, sym, subst, ◌∙◌, arith, inl, inr}
use Rattle.std.proofs.lemmas.Bool.{cases_lt}
use Rattle.std.proofs.lemmas.List.{ext_get_or}
use Rattle.disk_recordings.specs.Laws.{TracksAreRead}
use Rattle.disk_recordings.specs.Members.{header_at, sector_at}
use Rattle.flux_base.specs.declared.track.TrackId.{TrackId}
use Rattle.flux_engine.specs.Disks.{no_totals, part_at, report_over}
use Rattle.flux_engine.specs.Recordings.{track_at}
use Rattle.flux_engine.specs.Tracks.{Found, TrackPart, part_of}
use Rattle.frame_law.specs.Laws.{SectorsAreTold}
use Rattle.frame_law.specs.Readings.{FirstReading, Reads}
use Rattle.frame_law.specs.declared.reading.Reading.{Reading}
use Rattle.frame_law.specs.declared.reading.Reading.TheVariants.{Nothing, Bad, Good}
use Rattle.sector_images.specs.declared.format.Format.{Format}
use Rattle.g64_image.specs.Faults.{first_fault}
use Rattle.g64_image.specs.FileDisks.{AreFileParts, AreReadingsTo, IsRingPart, ring_readings}
use Rattle.g64_image.specs.Laws.{OneFileDisk}
use Rattle.g64_image.specs.Layout.{track_cells}

module _ (header : List Bool → ℕ → Type 0) (sector : List Bool → ℕ → List ℕ → Type 0) (size : ℕ) (told : SectorsAreTold header sector size) where
  -- what is read is read where a header stands
  header_stands : (cells : List Bool) (reading : Reading) (bytes : List ℕ) → reading ≢ Nothing → Reads (header cells) (sector cells) reading bytes
      → (s : ℕ) × header cells s
  header_stands cells Nothing bytes some reads = absurd (some refl)
  header_stands cells (Bad s) bytes some reads = (s, reads.1)
  header_stands cells (Good s) bytes some reads = (s, told.has_header cells s bytes reads)

  one_reading : (place : ℕ) (cells : List Bool) (a b : Reading) (xs ys : List ℕ) → a ≢ Nothing → b ≢ Nothing
      → Reads (header cells) (sector cells) a xs → Reads (header cells) (sector cells) b ys
      → ◌≡◌ {A = Found} (place, a, xs) (place, b, ys)
  one_reading place cells Nothing b xs ys some other first second = absurd (some refl)
  one_reading place cells (Bad s) Nothing xs ys some other first second = absurd (other refl)
  one_reading place cells (Bad s) (Bad t) xs ys some other first second =
      let same = told.one_header cells s t first.1 second.1 in
      let empty = first.0 ∙ sym second.0 in
      ap (λ (n : ℕ). let a : Found = (place, Bad n, xs) in a) same ∙ ap (λ (zs : List ℕ). let a : Found = (place, Bad t, zs) in a) empty
  one_reading place cells (Bad s) (Good t) xs ys some other first second = absurd (first.2 t ys second)
  one_reading place cells (Good s) Nothing xs ys some other first second = absurd (other refl)
  one_reading place cells (Good s) (Bad t) xs ys some other first second = absurd (second.2 s xs first)
  one_reading place cells (Good s) (Good t) xs ys some other first second =
      let same = told.one_header cells s t (told.has_header cells s xs first) (told.has_header cells t ys second) in
      let bytes = told.one_content cells s t xs ys first second in
      ap (λ (n : ℕ). let a : Found = (place, Good n, xs) in a) same ∙ ap (λ (zs : List ℕ). let a : Found = (place, Good t, zs) in a) bytes

  module _ (cells : List Bool) where
    abbrev IsFirst : ℕ → Found → Type 0
    IsFirst from f = FirstReading header sector cells from (Some (f.0, f.1)) f.2

    -- a first reading does not stand before another
    not_before : (from : ℕ) (f g : Found) → IsFirst from f → IsFirst from g → g.0 ≤ f.0
    not_before from f g first second =
        elim (cases_lt f.0 g.0) [
          | inr least ↦ least
          | inl before ↦
              let s = header_stands (drop f.0 cells) f.1 f.2 first.2 first.3 in
              absurd (second.1 f.0 s.0 first.0 before s.1)
        ]

    one_place : (from : ℕ) (f g : Found) → IsFirst from f → IsFirst from g → f ≡ g
    one_place from f g first second =
        let least = not_before from f g first second in
        let most = not_before from g f second first in
        let same : f.0 ≡ g.0 = omega (arith, least, most) in
        let there : Reads (header (drop f.0 cells)) (sector (drop f.0 cells)) g.1 g.2 =
        subst (λ (p : ℕ). Reads (header (drop p cells)) (sector (drop p cells)) g.1 g.2) (sym same) second.3 in
        one_reading f.0 (drop f.0 cells) f.1 g.1 f.2 g.2 first.2 second.2 first.3 there
        ∙ ap (λ (p : ℕ). let a : Found = (p, g.1, g.2) in a) same

    pub one_list : (end from : ℕ) (found others : List Found) → AreReadingsTo header sector cells end from found
        → AreReadingsTo header sector cells end from others → found ≡ others
    one_list end from [] [] all other = refl
    one_list end from [] (g ∷ gs) all other =
        let first = other.0 in
        let s = header_stands (drop g.0 cells) g.1 g.2 first.2 first.3 in
        absurd (all g.0 s.0 first.0 other.1 s.1)
    one_list end from (f ∷ fs) [] all other =
        let first = all.0 in
        let s = header_stands (drop f.0 cells) f.1 f.2 first.2 first.3 in
        absurd (other f.0 s.0 first.0 all.1 s.1)
    one_list end from (f ∷ fs) (g ∷ gs) all other =
        let same = one_place from f g all.0 other.0 in
        let rest = one_list end (f.0 + 1) fs gs all.2
        (subst (λ (n : ℕ). AreReadingsTo header sector cells end (n + 1) gs) (sym (ap (λ (h : Found). h.0) same)) other.2) in
        ap (λ (h : Found). h ∷ fs) same ∙ ap (λ (hs : List Found). g ∷ hs) rest

module _ (read : TracksAreRead) where
  one_part : (format : Format) (track : TrackId) (cells : List Bool) (a b : TrackPart) → IsRingPart format track cells a → IsRingPart format track cells b → a ≡ b
  one_part format track cells a b p q =
      p.is ∙ ap (λ (found : List Found). part_of format track (ring_readings found))
      (one_list (header_at format track) (sector_at format track) _ (read.told format track) (cells ++ cells) (length cells) 0 p.found q.found p.all q.all)
      ∙ sym q.is

  no_part : TrackPart
  no_part = record { image = []; lines = []; totals = no_totals }

  one_parts : (format : Format) (file : List ℕ) (ps qs : List TrackPart) → AreFileParts format file ps → AreFileParts format file qs → length ps ≡ length qs → ps ≡ qs
  unfolding no_part
  one_parts format file ps qs are others same =
      ext_get_or no_part ps qs same
      (λ k low. one_part format (track_at format k) (track_cells file k) (part_at ps k) (part_at qs k) (are k low) (others k (omega (arith, low, same))))

  pub one_file_disk : OneFileDisk
  one_file_disk format file a b p q =
      p.is ∙ ap (λ (parts : List TrackPart). report_over parts (first_fault format file)) (one_parts format file p.parts q.parts p.each q.each (p.many ∙ sym q.many)) ∙ sym q.is
