-- The notes of files that turned otherwise, as they are written.
use Rattle.std.proofs.Common.{◌≡◌, ◌<◌, ◌+◌, ◌++◌, ◌||◌, ℕ, suc, Bool, false, get_or, length, List, [], Option, refl, sym, ap, subst, ◌∙◌, arith}
use Rattle.std.specs.List.{flat_map, range_with_len}
use Rattle.std.specs.Io.KnownBytes.{Appends}
use Rattle.std.proofs.KnownBytes.{Appends-nil, Appends-trans}
use Rattle.std.proofs.lemmas.List.{get_or_default}
use Rattle.flux_base.specs.Counts.{Counts}
use Rattle.flux_base.specs.Moments.{Moment}
use Rattle.flux_base.specs.Outside.{AppendsPart}
use Rattle.flux_base.specs.declared.track.TrackId.{TrackId}
use Rattle.flux_base.specs.lemmas.Counting.{Counts-none, Counts-then}
use Rattle.flux_base.specs.lemmas.Parts.{AppendsPart-second}
use Rattle.dump_reading.specs.Files.{ShelfNow}
use Rattle.dump_turns.specs.Files.{found_at}
use Rattle.dump_turns.specs.Lines.{uneven_mean}
use Rattle.dump_turns.specs.Reaches.{track_number}
use Rattle.dump_turns.specs.declared.found.Found.{Found}
use Rattle.dump_turns.specs.declared.measured.DumpTurns.{DumpTurns}
use Rattle.disk_summary.specs.Texts.{note_text, notes_text}
use Rattle.disk_summary.specs.Turns.{AreTurnsNoted, IsTurnsNoted, notes_of_file, notes_of_mean, notes_of_turns}
use Rattle.disk_summary.specs.declared.note.Note.{Note}
use Rattle.disk_summary.proofs.Lists.{flat_map_flat_map}
use Rattle.disk_summary.proofs.Tracks.{joined-notes}

module _ (dump : ℕ) (turns : DumpTurns) (founds : List Found) where
  -- of the file of a number
  abbrev pub file_text : ℕ → List ℕ
  file_text n = notes_text (notes_of_file dump turns founds n)

  pub file-piece : (n : ℕ) (track : TrackId) (mean : Option ℕ) → track ≡ track_number turns.reach n → mean ≡ uneven_mean turns.spread (found_at founds n)
      → notes_text (notes_of_mean track dump mean) ≡ file_text (0 + n)
  file-piece n track mean is mean_is =
      let zero_at : n ≡ 0 + n = omega arith in
      ap (λ (t : TrackId). notes_text (notes_of_mean t dump mean)) is
      ∙ ap (λ (m : Option ℕ). notes_text (notes_of_mean (track_number turns.reach n) dump m)) mean_is ∙ ap file_text zero_at

  pub turns-are : flat_map file_text (range_with_len 0 (length founds)) ≡ notes_text (notes_of_turns dump turns founds)
  turns-are = sym (flat_map_flat_map note_text (notes_of_file dump turns founds) (range_with_len 0 (length founds)))

-- the notes of so many dumps were written
pub record WroteNoted {A : Type 0} (dumps : List (List ℕ)) (many : ℕ) (start now : ShelfNow) (before after : Moment A) (failed : Bool) : Type 0 where
  pub noted : List Note
  pub are : AreTurnsNoted dumps many start now noted failed
  pub grew : Appends before.bytes after.bytes (notes_text noted)
  pub counts : Counts false before.counts after.counts

module _ {A : Type 0} (dumps : List (List ℕ)) (start : ShelfNow) (before : Moment A) where
  pub wrote-none : WroteNoted dumps 0 start start before before false
  wrote-none = record { noted = []; are = (refl, refl, refl); grew = Appends-nil before.bytes; counts = Counts-none before.counts }

  module _ (n : ℕ) (mid now : ShelfNow) (between after : Moment A) (failed : Bool) (so_far : WroteNoted dumps n start mid before between failed)
      (d : List ℕ) (d_is : d ≡ get_or dumps n d) (below : n < length dumps) (here : List Note) (lost : Bool) (is : IsTurnsNoted d n mid now here lost) where
    pub are-more : AreTurnsNoted dumps (n + 1) start now (so_far.noted ++ here) (failed || lost)
    are-more =
        let more : suc n ≡ n + 1 = omega arith in
        subst (λ (k : ℕ). AreTurnsNoted dumps k start now (so_far.noted ++ here) (failed || lost)) more (record {
          between = mid;
          first = so_far.noted;
          failed_first = failed;
          before = so_far.are;
          here = here;
          failed_here = lost;
          is = subst (λ (dump : List ℕ). IsTurnsNoted dump n mid now here lost) (d_is ∙ get_or_default dumps n d [] below) is;
          noted_are = refl;
          failed_is = refl;
        })

    -- one more was
    pub wrote-more : Appends between.bytes after.bytes (notes_text here) → Counts false between.counts after.counts
        → WroteNoted dumps (n + 1) start now before after (failed || lost)
    wrote-more grew counts = record {
      noted = so_far.noted ++ here;
      are = are-more;
      grew = subst (Appends before.bytes after.bytes) (joined-notes so_far.noted here)
          (Appends-trans before.bytes between.bytes after.bytes (notes_text so_far.noted) (notes_text here) so_far.grew grew);
      counts = Counts-then _ so_far.counts counts;
    }

    -- a part of its notes was
    pub part-more : AppendsPart between.bytes after.bytes (notes_text here) → AppendsPart before.bytes after.bytes (notes_text (so_far.noted ++ here))
    part-more part =
        subst (AppendsPart before.bytes after.bytes) (joined-notes so_far.noted here)
        (AppendsPart-second before.bytes between.bytes after.bytes (notes_text so_far.noted) (notes_text here) so_far.grew part)
