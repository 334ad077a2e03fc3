-- From what the loop over dumps wrote to the picture of a disk, and to the lines beside it.
use Rattle.std.specs.Prelude.{◌≡◌, ℕ, ◌+◌, List, [], ◌∷◌, ◌++◌, codes, length, Option, Err, refl}
use Rattle.std.specs.Io.KnownBytes.{Appends}
use Rattle.std.proofs.Common.{sym, subst, ◌∙◌, arith, inl, inr, append-nil}
use Rattle.std.proofs.KnownBytes.{Appends-trans}
use Rattle.std.proofs.lemmas.List.{length_push}
use Rattle.flux_base.specs.Outside.{AppendsPart}
use Rattle.flux_base.specs.lemmas.Parts.{AppendsPart-second}
use Rattle.flux_base.specs.Blames.{CountsBy, no_counts, three_counts}
use Rattle.flux_base.specs.Counts.{FaultCounts}
use Rattle.sector_images.specs.declared.format.Format.{Format}
use Rattle.sector_report.specs.declared.totals.Totals.{Totals}
use Rattle.flux_engine.specs.Disks.{images, lines}
use Rattle.flux_engine.specs.Tracks.{TrackPart}
use Rattle.flux_engine.specs.Blamed.{sink_blame}
use Rattle.dump_reading.specs.Beside.{LinesOf, no_lines}
use Rattle.dump_reading.specs.DumpStreams.{of_disk}
use Rattle.dump_reading.specs.Files.{ShelfNow}
use Rattle.dump_reading.specs.Outcomes.{CutOfDumps, DumpDisk, HasTracksBy, LookedAsAsked, StopsBy, lines_of, numbers_of}
use Rattle.dump_reading.specs.declared.fault.NoFiles.{NoFiles}
use Rattle.flux_engine.specs.declared.fault.Stopped.{Stopped}
use Rattle.flux_engine.specs.declared.fault.Stopped.TheVariants.{ReadFault, ImageFault, NotesFault, Refused}
use Rattle.flux_engine.specs.declared.track_part.PartFault.TheVariants.{ImageFault as PartImageFault}
use Rattle.dump_reading.specs.declared.totals.DumpTotals.{DumpTotals}
use Rattle.dump_reading.specs.lemmas.Coming.{none_came}
use Rattle.disk_map.specs.Dumps.{DrewWithLines, SaysOfDrawing, StoppedInDumps, dumps_foot, dumps_front, dumps_part, dumps_part_with, lines_read, picture_of}
use Rattle.disk_map.specs.Maps.{TrackLinesOf, lined_by}
use Rattle.disk_map.specs.Places.{layout_of}
use Rattle.disk_map.specs.Texts.{top_by}
use Rattle.disk_map.proofs.Drawing.{cut_track}
use Rattle.disk_map.proofs.Shown.{numbers-as, read_all_as, texts-as}

-- a picture up to its foot
front : (format : Format) (picture top : Option (List ℕ)) → Appends picture top (top_by (codes "read") format) → (parts : List TrackPart) (written : Option (List ℕ))
    → Appends top written (images parts) → Appends picture written (dumps_front format parts)
front format picture top begun parts written grew = Appends-trans picture top written (top_by (codes "read") format) (images parts) begun grew

module _ (of : TrackLinesOf) (beside_of : LinesOf) (disk : DumpDisk) (start : ShelfNow) (picture notes : Option (List ℕ)) where
  module _ (now : ShelfNow) (top : Option (List ℕ)) (begun : Appends picture top (top_by (codes "read") disk.format)) where
    module _ (written notes' picture' : Option (List ℕ)) (totals : DumpTotals)
        (h : HasTracksBy (dumps_part_with of) beside_of disk start now top written notes notes' totals) where
      abbrev foot-of : DumpTotals → List ℕ
      foot-of t = dumps_foot (layout_of disk.format) t

      -- all was written
      pub drawn-all : Appends written picture' (dumps_foot (layout_of disk.format) totals) → DrewWithLines of beside_of disk start now picture picture' notes notes' totals
      drawn-all foot =
          let fields = read_all_as (dumps_part_with of) dumps_part (λ format track gathered. refl) disk start.told.files h.streams h.parts h.others h.all in
          let alone = read_all_as (dumps_part_with of) (lined_by of) (λ format track gathered. refl) disk start.told.files h.streams h.parts h.others h.all in
          let fields_are : images fields.read ≡ images h.parts = texts-as (λ (part : TrackPart). part.image) (λ format track gathered. refl) fields in
          let lines_are : lines alone.read ≡ lines h.parts = texts-as (λ (part : TrackPart). part.lines) (λ format track gathered. refl) alone in
          let fields_count : totals ≡ numbers_of h.streams fields.read h.others h.beside.came h.beside.others =
          h.totals_are ∙ sym (numbers-as fields h.beside.came h.beside.others) in
          record {
            drew = record {
              outcome = picture_of disk.format fields.read (lines_of no_lines h.beside) (numbers_of h.streams fields.read h.others h.beside.came h.beside.others);
              is = record {
                streams = h.streams;
                parts = fields.read;
                others = h.others;
                all = fields.all;
                beside = h.beside;
                looked = subst (λ (t : Totals). LookedAsAsked t h.beside) (sym fields.totals) h.looked;
                is = refl;
              };
              shelf = h.shelf;
              grew = subst (Appends picture picture') (λ i. (top_by (codes "read") disk.format ++ sym fields_are i) ++ foot-of (fields_count i))
                  (Appends-trans picture written picture' (dumps_front disk.format h.parts) (foot-of totals) (front disk.format picture top begun h.parts written h.image_grew) foot);
              totals_are = fields_count;
            };
            wrote = record {
              outcome = lines_read alone.read (lines_of beside_of h.beside) (numbers_of h.streams alone.read h.others h.beside.came h.beside.others);
              is = record {
                streams = h.streams;
                parts = alone.read;
                others = h.others;
                all = alone.all;
                beside = h.beside;
                looked = subst (λ (t : Totals). LookedAsAsked t h.beside) (sym alone.totals) h.looked;
                is = refl;
              };
              shelf = h.shelf;
              grew = subst (Appends notes notes') (λ i. sym lines_are i ++ lines_of beside_of h.beside) h.notes_grew;
              totals_are = h.totals_are ∙ sym (numbers-as alone h.beside.came h.beside.others);
            };
            streams = refl;
            beside = refl;
          }

-- the same by the format
pub drawn-whole : (of : TrackLinesOf) (beside_of : LinesOf) (disk : DumpDisk) (start now : ShelfNow) (before top notes notes' : Option (List ℕ)) (format : Format)
    (written picture' : Option (List ℕ)) (totals : DumpTotals) → disk.format ≡ format → Appends before top (top_by (codes "read") format)
    → HasTracksBy (dumps_part_with of) beside_of disk start now top written notes notes' totals → Appends written picture' (dumps_foot (layout_of format) totals)
    → DrewWithLines of beside_of disk start now before picture' notes notes' totals
drawn-whole of beside_of disk start now before top notes notes' format written picture' totals same begun h foot =
    drawn-all of beside_of disk start before notes now top
    (subst (λ (f : Format). Appends before top (top_by (codes "read") f)) (sym same) begun) written notes' picture' totals h
    (subst (λ (f : Format). Appends written picture' (dumps_foot (layout_of f) totals)) (sym same) foot)

-- a picture alone that was not drawn whole
module _ (disk : DumpDisk) (start : ShelfNow) (picture : Option (List ℕ)) where
  -- the sink failed before the first field
  pub no-top : (picture' : Option (List ℕ)) → AppendsPart picture picture' (top_by (codes "read") disk.format) → StoppedInDumps disk start start picture picture'
  no-top picture' part = record {
    streams = [];
    parts = [];
    few = omega arith;
    read = record { all = omega arith; are = λ files known n q few within below. absurd (omega (arith, below)); each = λ n below. absurd (omega (arith, below)) };
    beside = [];
    ending = [];
    ends = inl (refl, refl);
    shelf = (
        let none = none_came (of_disk disk.stepping disk.dumps (length disk.dumps) disk.format) start in
        record { told = none.told; counts = none.counts }
        );
    grew = subst (AppendsPart picture picture') (sym (append-nil (dumps_front disk.format []) ∙ append-nil (top_by (codes "read") disk.format))) part;
  }

  module _ (now : ShelfNow) (top : Option (List ℕ)) (begun : Appends picture top (top_by (codes "read") disk.format)) (written notes notes' : Option (List ℕ)) where
    -- a part of the foot
    pub no-foot : (picture' : Option (List ℕ)) (totals : DumpTotals) → HasTracksBy dumps_part no_lines disk start now top written notes notes' totals
        → AppendsPart written picture' (dumps_foot (layout_of disk.format) totals) → StoppedInDumps disk start now picture picture'
    no-foot picture' totals h foot =
        let numbers : DumpTotals = numbers_of h.streams h.parts h.others h.beside.came h.beside.others in
        record {
          streams = h.streams;
          parts = h.parts;
          few = omega (arith, h.all.many);
          read = h.all.read;
          beside = h.beside.came;
          ending = dumps_foot (layout_of disk.format) numbers;
          ends = inr (record { others = h.others; all = h.all; beside = h.beside; looked = h.looked; came_is = refl; is = refl });
          shelf = h.shelf;
          grew =
              AppendsPart-second picture written picture' (dumps_front disk.format h.parts) (dumps_foot (layout_of disk.format) numbers)
              (front disk.format picture top begun h.parts written h.image_grew)
              (subst (λ (t : DumpTotals). AppendsPart written picture' (dumps_foot (layout_of disk.format) t)) h.totals_are foot);
        }

    -- the sink failed at a field
    cut-field : CutOfDumps PartImageFault dumps_part no_lines disk start now top written notes notes' → StoppedInDumps disk start now picture written
    cut-field w =
        let many : length (w.parts ++ w.next ∷ []) ≡ length w.parts + 1 = length_push w.parts w.next in
        record {
          streams = w.are.streams;
          parts = w.parts ++ w.next ∷ [];
          few = omega (arith, w.few, many);
          read = w.are.read;
          beside = [];
          ending = [];
          ends = inl (refl, refl);
          shelf = w.are.shelf;
          grew = cut_track picture top written (top_by (codes "read") disk.format) w.parts w.next w.wrote.0.0 w.wrote.0.1 begun w.wrote.0.2;
        }

    -- Reading the tracks stopped: the sink of lines, of which there are none, has not failed.
    pub drawn-stopped : (p p' : FaultCounts) (fault : Stopped NoFiles)
        → CountsBy (sink_blame {A = DumpTotals} (Err fault)) (three_counts no_counts p no_counts) (three_counts no_counts p' no_counts)
        → StopsBy dumps_part no_lines disk start now top written notes notes' fault → SaysOfDrawing disk start now picture written (Err fault)
    drawn-stopped p p' ReadFault counts stops = absurd stops
    drawn-stopped p p' (Refused empty) counts stops = absurd stops
    drawn-stopped p p' ImageFault counts stops = cut-field stops
    drawn-stopped p p' NotesFault counts stops = omega (arith, counts.notes.cause)
