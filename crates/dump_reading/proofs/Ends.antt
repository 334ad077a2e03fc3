-- What reading of dumps came to, by how the loop over a disk's tracks ended.
use Rattle.std.proofs.Common.{◌≡◌, ◌+◌, ◌-◌, ◌*◌, true, inl, inr, ℕ, Bool, List, [], ◌∷◌, ◌++◌, append-nil, append_assoc, length, length-append, take, Option, arith, refl, sym, ap, subst, ◌∙◌}
use Rattle.std.specs.Io.KnownBytes.{Appends}
use Rattle.std.proofs.KnownBytes.{Appends-trans}
use Rattle.std.proofs.lemmas.List.Sums.{sum_by-append}
use Rattle.flux_base.specs.Outside.{AppendsPart}
use Rattle.sector_images.specs.Places.{tracks}
use Rattle.sector_images.specs.declared.format.Format.{Format}
use Rattle.sector_report.specs.declared.totals.Totals.{Totals}
use Rattle.flux_engine.specs.Counts.{names_of, told_count, whole_count, whole_names_of}
use Rattle.flux_engine.specs.Cut.{CutInTrack, WritesFront}
use Rattle.flux_engine.specs.Disks.{images, lines}
use Rattle.flux_engine.specs.LoopProgress.{EndedBySink, EndsLoop, HasWritten, lost_count}
use Rattle.flux_engine.specs.PlanAnswers.{of_part}
use Rattle.flux_engine.specs.Plans.{PartOf, Seen}
use Rattle.flux_engine.specs.Room.{RoomState}
use Rattle.flux_engine.specs.SecondSinks.{SecondNow}
use Rattle.kryo_stream.specs.declared.fault.CaptureFault.{CaptureFault}
use Rattle.flux_engine.specs.declared.fault.RefusedCapture.{RefusedCapture}
use Rattle.flux_engine.specs.declared.fault.Stopped.{Stopped}
use Rattle.flux_engine.specs.declared.fault.Stopped.TheVariants.{ReadFault, Refused}
use Rattle.flux_engine.specs.declared.track_part.PartFault.{PartFault}
use Rattle.flux_engine.specs.declared.track_part.PartFault.TheVariants.{ImageFault as PartImageFault, NotesFault as PartNotesFault}
use Rattle.track_shelf.specs.Files.{File}
use Rattle.track_shelf.specs.Told.{ShelfTold, with_failed}
use Rattle.turn_merge.specs.Others.{NotedOther, has_untold, others_over}
use Rattle.dump_reading.specs.Beside.{AreBeside, LinesOf, beside_lines, lines_at, lines_to, looks_beside, of_beside, told_beside}
use Rattle.dump_reading.specs.DumpStreams.{HaveComeOf, failed_paths, of_disk}
use Rattle.dump_reading.specs.Files.{CountsMany, ShelfNow}
use Rattle.dump_reading.specs.inside.Looks.{LooksAsAsked, LooksInto}
use Rattle.dump_reading.specs.Outcomes.{AreAllBy, DumpDisk, FilesFailed, HasTracksBy, LookedAsAsked, LookedBeside, WereRead, WroteDumps, WroteIntoBesideBy, WroteIntoEnd, lines_of, numbers_of, plan_of}
use Rattle.dump_reading.specs.Reports.{end_text, read_part}
use Rattle.dump_reading.specs.declared.totals.DumpTotals.{DumpTotals}
use Rattle.dump_reading.specs.lemmas.Coming.{counts-both, failed-both}

module _ (of : PartOf) (disk : DumpDisk) (start now : ShelfNow) where
  abbrev pub CameOf : List ℕ → Bool → List Seen → Type 0
  CameOf held used streams = HaveComeOf (of_disk disk.stepping disk.dumps (length disk.dumps) disk.format) start now streams

  -- no file ends a disk
  abbrev pub EndedOf : List Seen → CaptureFault → Type 0
  EndedOf streams fault = ⊥

  failed-of : (streams : List Seen) → HaveComeOf (of_disk disk.stepping disk.dumps (length disk.dumps) disk.format) start now streams → FilesFailed disk start now streams []
  failed-of streams came =
      let none : lost_count streams + 0 ≡ lost_count streams = omega arith in
      record {
        told = came.told ∙ ap (λ (paths : List (List ℕ)). with_failed paths start.told)
            (sym (append-nil (failed_paths (of_disk disk.stepping disk.dumps (length disk.dumps) disk.format) streams)));
        counts = subst (λ (n : ℕ). CountsMany n start.counts now.counts) (sym none) came.counts;
      }

  module _ (image image' notes notes' : Option (List ℕ)) (room : RoomState) (totals : Totals) where
    abbrev pub Written : Type 0
    Written = HasWritten (plan_of disk) of disk.format CameOf image image' notes notes' room (length (tracks disk.format)) totals

    all-of : (w : Written) → AreAllBy of disk start.told.files w.streams w.parts w.others
    all-of w = record {
      many = w.many;
      read = record { all = w.all ∙ ap (λ (n : ℕ). n * length disk.dumps) (sym w.many); are = w.came.are; each = w.each };
      many_others = w.many_others;
      others_are = w.others_are;
    }

    -- and then those beside them
    module _ (beside_of : LinesOf) (last : ShelfNow) (room' : RoomState) (notes'' : Option (List ℕ)) (w : Written) where
      same-files : now.told.files ≡ start.told.files
      same-files = ap (λ (t : ShelfTold). t.files) w.came.told

      -- the files are those of the begin
      abbrev from-start : LookedBeside disk now.told.files → LookedBeside disk start.told.files
      from-start beside = record {
        came = beside.came;
        others = beside.others;
        are = subst (λ (told : Option (List File)). AreBeside disk.stepping disk.dumps (plan_of disk) disk.format told beside.came beside.others) same-files beside.are;
      }

      failed-too : (came : List Seen) → HaveComeOf (of_beside disk.stepping disk.dumps disk.format) now last came → FilesFailed disk start last w.streams came
      failed-too came beside = record {
        told =
            let first : List (List ℕ) = failed_paths (of_disk disk.stepping disk.dumps (length disk.dumps) disk.format) w.streams in
            let others : List (List ℕ) = failed_paths (of_beside disk.stepping disk.dumps disk.format) came in
            beside.told ∙ ap (with_failed others) w.came.told ∙ failed-both first others start.told;
        counts = counts-both (lost_count w.streams) (lost_count came) w.came.counts beside.counts;
      }

      -- the room's format is the disk's
      at-format : LooksAsAsked beside_of (record disk { format = room.format }) totals now last room room' notes' notes'' → LooksAsAsked beside_of disk totals now last room room' notes' notes''
      at-format looks = subst (λ (f : Format). LooksAsAsked beside_of (record disk { format = f }) totals now last room room' notes' notes'') w.format_is looks

      into-format : LooksInto beside_of (record disk { format = room.format }) totals now last notes' notes'' → LooksInto beside_of disk totals now last notes' notes''
      into-format looks = subst (λ (f : Format). LooksInto beside_of (record disk { format = f }) totals now last notes' notes'') w.format_is looks

      read-so : LooksAsAsked beside_of disk totals now last room room' notes' notes''
          → HasTracksBy of beside_of disk start last image image' notes notes''
          (record { sectors = totals; unread = room'.unread; lost = room'.lost; others = room'.told_others; whole = room'.whole_others })
      read-so l = record {
        streams = w.streams;
        parts = w.parts;
        others = w.others;
        all = all-of w;
        beside = from-start l.has.beside;
        looked = subst (λ (sectors : Totals). LookedAsAsked sectors (from-start l.has.beside)) w.totals_are l.looked;
        shelf = failed-too l.has.beside.came l.has.came;
        image_grew = w.image_grew;
        notes_grew = Appends-trans notes notes' notes'' (lines w.parts) (lines_of beside_of l.has.beside) w.notes_grew l.has.notes_grew;
        totals_are = numbers w.totals_are
            (l.has.counted.unread ∙ ap (λ (n : ℕ). n + told_beside l.has.beside.came) w.unread_is)
            (l.has.counted.lost ∙ ap (λ (n : ℕ). n + lost_count l.has.beside.came) w.lost_is)
            (l.has.counted.told ∙ ap (λ (n : ℕ). n + told_count l.has.beside.others) w.told_is
            ∙ sym (sum_by-append (λ (others : List NotedOther). names_of (others_over others) (has_untold others)) w.others l.has.beside.others))
            (l.has.counted.whole ∙ ap (λ (n : ℕ). n + whole_count l.has.beside.others) w.whole_is
            ∙ sym (sum_by-append (λ (others : List NotedOther). whole_names_of (others_over others) (has_untold others)) w.others l.has.beside.others));
      }
        where
          numbers : {s t : Totals} {a b c d e f g h : ℕ} → s ≡ t → a ≡ b → c ≡ d → e ≡ f → g ≡ h
              → ◌≡◌ {A = DumpTotals} (record { sectors = s; unread = a; lost = c; others = e; whole = g }) (record { sectors = t; unread = b; lost = d; others = f; whole = h })
          numbers {t = t} {a = a} {b = b} {c = c} {d = d} {e = e} {f = f} {g = g} sectors unread lost told whole =
              ap (λ (x : Totals). record { sectors = x; unread = a; lost = c; others = e; whole = g }) sectors
              ∙ ap (λ (n : ℕ). record { sectors = t; unread = n; lost = c; others = e; whole = g }) unread
              ∙ ap (λ (n : ℕ). record { sectors = t; unread = b; lost = n; others = e; whole = g }) lost
              ∙ ap (λ (n : ℕ). record { sectors = t; unread = b; lost = d; others = n; whole = g }) told
              ∙ ap (λ (n : ℕ). record { sectors = t; unread = b; lost = d; others = f; whole = n }) whole

      pub all-read : LooksAsAsked beside_of (record disk { format = room.format }) totals now last room room' notes' notes''
          → HasTracksBy of beside_of disk start last image image' notes notes''
          (record { sectors = totals; unread = room'.unread; lost = room'.lost; others = room'.told_others; whole = room'.whole_others })
      all-read looks = read-so (at-format looks)

      -- or the lines of one of those were not written whole
      wrote-so : LooksInto beside_of disk totals now last notes' notes'' → WroteIntoBesideBy of beside_of disk start last image image' notes notes''
      wrote-so l = record {
        streams = w.streams;
        parts = w.parts;
        others = w.others;
        all = all-of w;
        beside = from-start l.beside;
        asked = subst (λ (sectors : Totals). looks_beside disk.looks sectors ≡ true) w.totals_are l.asked;
        some = l.some;
        shelf = failed-too l.beside.came l.came;
        image_grew = w.image_grew;
        notes_grew =
            let first : List ℕ = lines_to beside_of disk.stepping disk.dumps disk.format l.beside.came l.beside.others (length l.beside.others - 1) in
            let next : List ℕ = lines_at beside_of disk.stepping disk.dumps disk.format l.beside.came l.beside.others (length l.beside.others - 1) in
            let grew = l.notes_grew in (
              grew.0,
              grew.1,
              subst (Appends notes notes'') (sym (append_assoc (lines w.parts) first (take grew.0 next)))
                  (Appends-trans notes notes' notes'' (lines w.parts) (first ++ take grew.0 next) w.notes_grew grew.2),
            );
      }

      pub beside-wrote : LooksInto beside_of (record disk { format = room.format }) totals now last notes' notes'' → WroteIntoBesideBy of beside_of disk start last image image' notes notes''
      beside-wrote looks = wrote-so (into-format looks)

    abbrev pub Ends : Stopped RefusedCapture → Type 0
    Ends fault = EndsLoop (plan_of disk) of disk.format CameOf EndedOf image image' notes notes' room totals fault

    same-part : (a b : PartFault) → (let of : PartFault → Stopped RefusedCapture = of_part in of a ≡ of b) → a ≡ b
    same-part PartImageFault PartImageFault same = refl
    same-part PartImageFault PartNotesFault same = absurd (cc)
    same-part PartNotesFault PartImageFault same = absurd (cc)
    same-part PartNotesFault PartNotesFault same = refl

    abbrev BySink : Stopped RefusedCapture → Type 0
    BySink fault = EndedBySink (plan_of disk) of disk.format CameOf image image' notes notes' room fault

    sink-all : (fault : Stopped RefusedCapture) (s : BySink fault) → length s.streams ≡ length (s.parts ++ s.next ∷ []) * length disk.dumps
    sink-all fault s =
        let many : length (s.parts ++ s.next ∷ []) ≡ length s.parts + 1 = length-append s.parts (s.next ∷ []) in
        s.all ∙ sym (ap (λ (n : ℕ). n * length disk.dumps) many ∙ times-next (length s.parts) (length disk.dumps))
      where
        times-next : (n m : ℕ) → (n + 1) * m ≡ n * m + m
        times-next n m = grind (arith)

    pub cut-wrote : (cause : PartFault) → Ends (of_part cause)
        → CutInTrack (λ parts next. WereRead of disk start now (parts ++ next ∷ [])) (length (tracks disk.format)) cause image image' notes notes'
    cut-wrote cause (inl e) = absurd e.ended.ended
    cut-wrote cause (inr s) = record {
      parts = s.parts;
      next = s.next;
      are = record {
        streams = s.streams;
        read = record { all = sink-all (of_part cause) s; are = s.came.are; each = s.each };
        shelf = failed-of s.streams s.came;
      };
      few = s.low;
      wrote = subst (λ (c : PartFault). WritesFront c s.parts s.next image image' notes notes') (same-part s.cause cause (sym s.is)) s.wrote;
    }

    read-is-no-part : (cause : PartFault) → ReadFault ≡ (let fault : Stopped RefusedCapture = of_part cause in fault) → ⊥
    read-is-no-part PartImageFault same = cc
    read-is-no-part PartNotesFault same = cc

    -- no stream ends the disk
    pub never-unread : Ends ReadFault → ⊥
    never-unread (inl e) = e.ended.ended
    never-unread (inr s) = read-is-no-part s.cause s.is

    refused-is-no-part : (stop : RefusedCapture) (cause : PartFault) → Refused stop ≡ of_part cause → ⊥
    refused-is-no-part stop PartImageFault same = cc
    refused-is-no-part stop PartNotesFault same = cc

    pub never-refused : (stop : RefusedCapture) → Ends (Refused stop) → ⊥
    never-refused stop (inl e) = e.ended.ended
    never-refused stop (inr s) = refused-is-no-part stop s.cause s.is

module _ (disk : DumpDisk) (start now : ShelfNow) (image image' notes mid notes' : Option (List ℕ)) (totals : DumpTotals)
    (r : HasTracksBy read_part beside_lines disk start now image image' notes mid totals) where
  abbrev numbers : DumpTotals
  numbers = numbers_of r.streams r.parts r.others r.beside.came r.beside.others

  abbrev before : List ℕ
  before = lines r.parts ++ lines_of beside_lines r.beside

  -- the last two lines were written
  pub all-wrote : Appends mid notes' (end_text totals) → WroteDumps disk start now image image' notes notes' totals
  all-wrote ended = record {
    outcome = record { image = images r.parts; notes = lines r.parts ++ (lines_of beside_lines r.beside ++ end_text numbers); totals = numbers };
    is = record { streams = r.streams; parts = r.parts; others = r.others; all = r.all; beside = r.beside; looked = r.looked; is = refl };
    shelf = r.shelf;
    image_grew = r.image_grew;
    notes_grew = subst (Appends notes notes') (append_assoc (lines r.parts) (lines_of beside_lines r.beside) (end_text numbers))
        (Appends-trans notes mid notes' before (end_text numbers) r.notes_grew (subst (λ (t : DumpTotals). Appends mid notes' (end_text t)) r.totals_are ended));
    totals_are = r.totals_are;
  }

  -- or a part of them
  pub end-cut : AppendsPart mid notes' (end_text totals) → WroteIntoEnd disk start now image image' notes notes'
  end-cut part =
      let p = subst (λ (t : DumpTotals). AppendsPart mid notes' (end_text t)) r.totals_are part in
      record {
        streams = r.streams;
        parts = r.parts;
        others = r.others;
        all = r.all;
        beside = r.beside;
        looked = r.looked;
        shelf = r.shelf;
        image_grew = r.image_grew;
        notes_grew = (p.0, p.1, Appends-trans notes mid notes' before (take p.0 (end_text numbers)) r.notes_grew p.2);
      }

-- behind the tracks nothing more goes to the place of the image
pub second-read : (of : PartOf) (beside_of : LinesOf) (disk : DumpDisk) (start now : ShelfNow) (old mid new : SecondNow) (totals : DumpTotals) → new.image ≡ mid.image
    → HasTracksBy of beside_of disk start now old.image mid.image old.notes new.notes totals → HasTracksBy of beside_of disk start now old.image new.image old.notes new.notes totals
second-read of beside_of disk start now old mid new totals same h =
    subst (λ (image : Option (List ℕ)). HasTracksBy of beside_of disk start now old.image image old.notes new.notes totals) (sym same) h
