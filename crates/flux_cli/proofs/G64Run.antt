-- What `from-g64` does by what the reading of the file says.
use Rattle.std.proofs.Common.{◌≡◌, ◌==◌, ◌≤◌, ◌<◌, ◌+◌, ℕ, Bool, true, false, if◌then◌else◌, inl, inr, List, [], ◌++◌, drop, length, length-append, take, Option, Some, None, Ok, Err, refl, sym, ap, ◌∙◌, subst, arith, append-nil}
use Rattle.std.proofs.KnownBytes.{Appends-nil, Keeps-refl}
use Rattle.std.proofs.lemmas.Bool.{cases_lt, lt-ltb}
use Rattle.std.proofs.lemmas.List.{drop_all}
use Rattle.std.proofs.Math.Seq.{drop-append_seam}
use Rattle.std.specs.Io.KnownBytes.{Appends, IsAtEnd, Keeps}
use Rattle.flux_base.specs.declared.status.Status.{Status}
use Rattle.flux_base.specs.declared.status.Status.TheVariants.{AllGood, NotAllGood, Refused as RefusedStatus, ReadFault as ReadFaultStatus, ImageFault as ImageFaultStatus, NotesFault as NotesFaultStatus}
use Rattle.flux_engine.specs.Disks.{report_over}
use Rattle.flux_engine.specs.Needed.{ReadsUpTo, ReadsWhereOpen}
use Rattle.g64_image.specs.Answers.{CutOfFile, IsTakenFile, IsWholeFile, ReadsFile}
use Rattle.g64_image.specs.Faults.{MOST_BYTES, first_fault, table_fault}
use Rattle.g64_image.specs.FileDisks.{FileDisk, IsFileDisk, read_count}
use Rattle.g64_image.specs.Lines.{g64_text}
use Rattle.flux_engine.specs.declared.track_part.PartFault.TheVariants.{ImageFault as PartImageFault, NotesFault as PartNotesFault}
use Rattle.flux_engine.specs.declared.fault.Stopped.TheVariants.{ReadFault, ImageFault, NotesFault, Refused}
use Rattle.g64_image.specs.declared.fault.G64Fault.{G64Fault}
use Rattle.g64_image.specs.declared.fault.G64Fault.TheVariants.{TooLarge}
use Rattle.kryo_stream.specs.Reads.{SourceMoment}
use Rattle.sector_images.specs.declared.format.Format.{Format}
use Rattle.sector_report.specs.declared.totals.Totals.{Totals}
use Rattle.flux_cli.specs.PlanWork.{status_by, status_of}
use Rattle.flux_words.specs.G64Disks.{format_of}
use Rattle.flux_cli.specs.G64Work.{IsWholeInput, file_refusal, from_g64_leaves, from_g64_outcome, from_g64_work}
use Rattle.flux_cli.specs.Runs.{Does, Finished, IsCut, growth}
use Rattle.flux_cli.specs.Work.{Got}
use Rattle.flux_cli.specs.World.{Outside}
use Rattle.flux_words.specs.declared.g64_disk.G64Disk.{G64Disk}
use Rattle.flux_cli.proofs.Inputs.{rest}
use Rattle.flux_cli.specs.BytesWork.{of_bytes, WasReadWhereNeeded}

leaves-if : (x later : List ℕ) (b : Bool) → later ≡ [] → from_g64_leaves (if b then AllGood else NotAllGood) x later
leaves-if x later true none = none
leaves-if x later false none = none

-- a file that was read to its end
pub file-does : {S W N : Type 0} (disk : G64Disk) (before after : Outside S SourceMoment W N) (b : Bool)
    → Finished (of_bytes (from_g64_work (format_of disk))) (if b then AllGood else NotAllGood) before after
    → WasReadWhereNeeded (from_g64_work (format_of disk)) before.input.seen after.input.seen
    → Does (of_bytes (from_g64_work (format_of disk))) (if b then AllGood else NotAllGood) before after
file-does disk before after true finished needed = record { answer = tt; says = finished; keeps = needed }
file-does disk before after false finished needed = record { answer = tt; says = finished; keeps = needed }

-- the reads of a file
pub file-reads : {old new : SourceMoment} → ReadsUpTo 4194305 old new → ReadsWhereOpen (λ x. length x < MOST_BYTES + 1) old new
unfolding ReadsUpTo
file-reads reads = reads

too_large : (format : Format) (x : List ℕ) → MOST_BYTES < length x → first_fault format x ≡ Some TooLarge
unfolding first_fault table_fault
too_large format x over = rw (lt-ltb MOST_BYTES (length x) over) refl

got-nothing : (old new : Option (List ℕ)) → new ≡ old → Appends old new []
got-nothing old new same = subst (λ n. Appends old n []) (sym same) (Appends-nil old)

keeps : (old new : Option (List ℕ)) → new ≡ old → Keeps old new
keeps old new same = subst (Keeps old) (sym same) (Keeps-refl old)

-- what is refused of a file's first bytes is refused of the whole
record RefusedWhole (format : Format) (taken later : List ℕ) (fault : G64Fault) : Type 0 where
  refused : first_fault format (taken ++ later) ≡ Some fault
  left : later ≡ drop (MOST_BYTES + 1) (taken ++ later)

refused-all : (format : Format) (taken : List ℕ) (fault : G64Fault) → first_fault format taken ≡ Some fault → length taken ≤ MOST_BYTES
    → RefusedWhole format taken [] fault
refused-all format taken fault is few =
    let all : length (taken ++ []) ≡ length taken = ap length (append-nil taken) in record {
      refused = ap (first_fault format) (append-nil taken) ∙ is;
      left = sym (drop_all (MOST_BYTES + 1) (taken ++ []) (omega (arith, few, all)));
    }

refused-whole : (format : Format) (taken later : List ℕ) (fault : G64Fault) (left' : Option (List ℕ)) → IsTakenFile taken left'
    → (IsAtEnd left' → later ≡ []) → first_fault format taken ≡ Some fault → RefusedWhole format taken later fault
refused-whole format taken later fault left' file ended is =
    elim (cases_lt (length taken) (MOST_BYTES + 1)) [
      | inl below ↦
          let few : length taken ≤ MOST_BYTES = omega (arith, below) in
          subst (λ (l : List ℕ). RefusedWhole format taken l fault) (sym (ended (file.ended few))) (refused-all format taken fault is few)
      | inr least ↦
          let all : length taken ≡ MOST_BYTES + 1 = omega (arith, least, file.most) in
          let both = length-append taken later in
          let large : Some TooLarge ≡ Some fault = sym (too_large format taken (omega (arith, all))) ∙ is in record {
            refused = too_large format (taken ++ later) (omega (arith, both, all)) ∙ large;
            left = sym (ap (λ n. drop n (taken ++ later)) (sym all) ∙ drop-append_seam taken later);
          }
    ]

module _ {S W N : Type 0} (format : Format) (before after : Outside S SourceMoment W N) where
  -- a file without a fault, and no more
  whole-is : (taken later : List ℕ) → IsWholeFile format taken after.input.seen.left → (IsAtEnd after.input.seen.left → later ≡ [])
      → (taken ≡ taken ++ later) × IsWholeInput format (taken ++ later) later
  whole-is taken later whole ended =
      let none = ended whole.ended in
      let is : taken ++ later ≡ taken = ap (λ more. taken ++ more) none ∙ append-nil taken in
      (sym is, record { no_fault = ap (first_fault format) is ∙ whole.no_fault; ended = none })

  -- the image and the report
  pub file-finish : (totals : Totals)
      → ReadsFile format before.input.seen.left after.input.seen.left before.image.bytes after.image.bytes before.notes.bytes after.notes.bytes (Ok totals)
      → Finished (of_bytes (from_g64_work format)) (status_of totals) before after
  file-finish totals f =
      let r = rest before.input.seen after.input.seen f.taken f.consumed in
      let d = f.says.0 in
      let wrote = f.says.2 in
      let is = whole-is f.taken r.later f.says.1 r.ended in
      let none : d.stop ≡ None = ap (λ o. o.stop) wrote.disk.is ∙ f.says.1.no_fault in
      let same : status_of totals ≡ status_by d.totals d.stop = ap status_of f.says.3 ∙ ap (status_by d.totals) (sym none) in record {
        outcome = from_g64_outcome d;
        gives = record {
          taken = f.taken;
          later = r.later;
          input = r.input;
          gives = (d, subst (λ x. IsFileDisk format x d) is.0 wrote.disk, refl);
          leaves = subst (λ (s : Status). from_g64_leaves s (f.taken ++ r.later) r.later) same (leaves-if (f.taken ++ r.later) r.later (totals.good == totals.sectors) is.1.ended);
        };
        status_is = same;
        image_got = wrote.image_grew;
        notes_got = subst (Got (growth before.notes after.notes)) (sym (ap (λ fault. d.notes ++ file_refusal fault) none ∙ append-nil d.notes)) wrote.notes_grew;
      }

  -- the source failed
  pub file-cut-read : ReadsFile format before.input.seen.left after.input.seen.left before.image.bytes after.image.bytes before.notes.bytes after.notes.bytes (Err ReadFault)
      → IsCut (of_bytes (from_g64_work format)) ReadFaultStatus before after
  file-cut-read f =
      let r = rest before.input.seen after.input.seen f.taken f.consumed in record {
        taken = f.taken;
        later = r.later;
        input = r.input;
        place = record {
          few = f.says.0;
          image_got = keeps before.image.bytes after.image.bytes f.says.1;
          notes_got = keeps before.notes.bytes after.notes.bytes f.says.2;
        };
      }

  -- the sink of the image failed
  pub file-cut-image : ReadsFile format before.input.seen.left after.input.seen.left before.image.bytes after.image.bytes before.notes.bytes after.notes.bytes (Err ImageFault)
      → IsCut (of_bytes (from_g64_work format)) ImageFaultStatus before after
  file-cut-image f =
      let r = rest before.input.seen after.input.seen f.taken f.consumed in
      let is = whole-is f.taken r.later f.says.0 r.ended in record {
        taken = f.taken;
        later = r.later;
        input = r.input;
        place = (is.1, subst (λ x. CutOfFile PartImageFault format x before.image.bytes after.image.bytes before.notes.bytes after.notes.bytes) is.0 f.says.1);
      }

  -- the sink of the notes failed in the report
  pub file-cut-notes : ReadsFile format before.input.seen.left after.input.seen.left before.image.bytes after.image.bytes before.notes.bytes after.notes.bytes (Err NotesFault)
      → IsCut (of_bytes (from_g64_work format)) NotesFaultStatus before after
  file-cut-notes f =
      let r = rest before.input.seen after.input.seen f.taken f.consumed in
      let is = whole-is f.taken r.later f.says.0 r.ended in record {
        taken = f.taken;
        later = r.later;
        input = r.input;
        place = inl (is.1, subst (λ x. CutOfFile PartNotesFault format x before.image.bytes after.image.bytes before.notes.bytes after.notes.bytes) is.0 f.says.1);
      }

  module _ (mid : Option (List ℕ)) (fault : G64Fault)
      (f : ReadsFile format before.input.seen.left after.input.seen.left before.image.bytes after.image.bytes before.notes.bytes mid (Err (Refused fault))) where
    none_read : FileDisk
    none_read = report_over [] (Some fault)

    is-none : (x : List ℕ) → first_fault format x ≡ Some fault → IsFileDisk format x none_read
    unfolding none_read
    is-none x is = record {
      parts = [];
      each = λ n low. absurd (omega arith);
      many = ap (read_count format) (sym is);
      is = ap (report_over []) (sym is);
    }

    -- the line that says why
    pub file-refuse : Appends mid after.notes.bytes (g64_text fault) → Finished (of_bytes (from_g64_work format)) RefusedStatus before after
    unfolding none_read
    file-refuse line =
        let r = rest before.input.seen after.input.seen f.taken f.consumed in
        let w = refused-whole format f.taken r.later fault after.input.seen.left f.says.0 r.ended f.says.1 in record {
          outcome = from_g64_outcome none_read;
          gives = record {
            taken = f.taken;
            later = r.later;
            input = r.input;
            gives = (none_read, is-none (f.taken ++ r.later) w.refused, refl);
            leaves = w.left;
          };
          status_is = refl;
          image_got = got-nothing before.image.bytes after.image.bytes f.says.2;
          notes_got = subst (λ old. Appends old after.notes.bytes (g64_text fault)) f.says.3 line;
        }

    -- a part of it
    pub file-cut-refusal : (n : ℕ) → n < length (g64_text fault) → Appends mid after.notes.bytes (take n (g64_text fault))
        → IsCut (of_bytes (from_g64_work format)) NotesFaultStatus before after
    file-cut-refusal n within part =
        let r = rest before.input.seen after.input.seen f.taken f.consumed in
        let w = refused-whole format f.taken r.later fault after.input.seen.left f.says.0 r.ended f.says.1 in record {
          taken = f.taken;
          later = r.later;
          input = r.input;
          place = inr (record {
            fault = fault;
            refused = w.refused;
            image_got = keeps before.image.bytes after.image.bytes f.says.2;
            notes_got = (n, within, subst (λ old. Appends old after.notes.bytes (take n (g64_text fault))) f.says.3 part);
            left = w.left;
          });
        }
