-- A summary parses to its value.
use Rattle.std.proofs.Common.{◌≡◌, ◌<◌, ◌≤◌, ◌^◌, ℕ, List, [], ◌∷◌, map, arith}
use Rattle.std.specs.Prelude.{All}
use Rattle.std.proofs.lemmas.List.Elements.{All-head, All-tail}
use Rattle.flux_base.specs.Status.{code_of}
use Rattle.flux_base.specs.declared.status.Status.{Status}
use Rattle.flux_base.specs.declared.status.Status.TheVariants.{AllGood, NotAllGood, Refused as RefusedInput, Usage, ReadFault, ImageFault, NotesFault, Memory, ShelfFault}
use Rattle.json.proofs.Printed.Decimals.{IsNumber-decimal}
use Rattle.json.proofs.Printed.Trees.{document-print}
use Rattle.json.specs.Tree.{HasNumbers, ItemsHaveNumbers, MembersHaveNumbers, depth, items_depth, members_depth}
use Rattle.json.specs.Value.{items_of}
use Rattle.sector_report.specs.declared.dump_lines.Passed.{Passed}
use Rattle.sector_report.specs.declared.dump_lines.Passed.TheVariants.{Absent, Failed, Refused}
use Rattle.sector_report.specs.declared.dump_lines.Passed.TheVariants.{RefusedScp}
use Rattle.disk_summary.specs.Laws.{NoteFits, ReasonFits, SummariesParse, SummaryFits}
use Rattle.disk_summary.specs.Texts.{line_text}
use Rattle.disk_summary.specs.Values.{count, note_value, reason_members, summary_value}
use Rattle.disk_summary.specs.declared.note.Note.{Note}
use Rattle.disk_summary.specs.declared.note.Note.TheVariants.{Other, Sector, Uneven, Unread, Untold}
use Rattle.disk_summary.specs.declared.summary.Summary.{Summary}

numbers-counts : (ns : List ℕ) → All (λ n. n < 2 ^ 64) ns → ItemsHaveNumbers (items_of (map count ns))
numbers-counts [] fit = tt
numbers-counts (n ∷ ns) fit =
    (IsNumber-decimal n (All-head (λ (k : ℕ). k < 2 ^ 64) n ns fit), numbers-counts ns (All-tail (λ (k : ℕ). k < 2 ^ 64) n ns fit))

numbers-reason : (why : Passed) → ReasonFits why → MembersHaveNumbers (reason_members why)
numbers-reason Absent fits = (tt, tt)
numbers-reason Failed fits = (tt, tt)
numbers-reason (RefusedScp fault) fits = (tt, (tt, tt))
numbers-reason (Refused block fault) fits = (tt, (IsNumber-decimal block fits, (tt, tt)))

numbers-note : (note : Note) → NoteFits note → HasNumbers (note_value note)
numbers-note (Unread track dump why) (t, d, w) =
    (IsNumber-decimal track.cylinder t.0, (IsNumber-decimal track.head t.1, (IsNumber-decimal dump d, numbers-reason why w)))
numbers-note (Sector track sector kind) (t, n) =
    (IsNumber-decimal track.cylinder t.0, (IsNumber-decimal track.head t.1, (IsNumber-decimal sector n, (tt, tt))))
numbers-note (Other track told) (t, n, h, w) =
    (IsNumber-decimal track.cylinder t.0, (IsNumber-decimal track.head t.1, (numbers-counts _ n, (IsNumber-decimal told.headers h, (IsNumber-decimal told.whole w, tt)))))
numbers-note (Untold track) t = (IsNumber-decimal track.cylinder t.0, (IsNumber-decimal track.head t.1, (tt, tt)))
numbers-note (Uneven track dump ticks) (t, d, n) =
    (IsNumber-decimal track.cylinder t.0, (IsNumber-decimal track.head t.1, (IsNumber-decimal dump d, (IsNumber-decimal ticks n, tt))))

numbers-notes : (notes : List Note) → All NoteFits notes → ItemsHaveNumbers (items_of (map note_value notes))
numbers-notes [] fit = tt
numbers-notes (note ∷ notes) fit =
    (numbers-note note (All-head NoteFits note notes fit), numbers-notes notes (All-tail NoteFits note notes fit))

code-fits : (status : Status) → code_of status < 2 ^ 64
code-fits AllGood = omega arith
code-fits NotAllGood = omega arith
code-fits RefusedInput = omega arith
code-fits Usage = omega arith
code-fits ReadFault = omega arith
code-fits ImageFault = omega arith
code-fits NotesFault = omega arith
code-fits Memory = omega arith
code-fits ShelfFault = omega arith

numbers-summary : (s : Summary) (notes : List Note) → SummaryFits s → All NoteFits notes → HasNumbers (summary_value s notes)
numbers-summary s notes fits fit = (
  tt,
  (
    tt,
    (
      tt,
      (
        IsNumber-decimal s.dumps fits.dumps_fit,
        (
          (
            IsNumber-decimal s.totals.sectors.sectors fits.sectors_fit.all_fit,
            (
              IsNumber-decimal s.totals.sectors.good fits.sectors_fit.good_fit,
              (
                IsNumber-decimal s.totals.sectors.bad fits.sectors_fit.bad_fit,
                (
                  IsNumber-decimal s.totals.sectors.missing fits.sectors_fit.missing_fit,
                  (IsNumber-decimal s.totals.sectors.contradictory fits.sectors_fit.contradictory_fit, tt),
                ),
              ),
            ),
          ),
          (
            IsNumber-decimal s.totals.unread fits.unread_fit,
            (
              IsNumber-decimal s.totals.lost fits.lost_fit,
              (
                IsNumber-decimal s.totals.others fits.others_fit,
                (IsNumber-decimal s.totals.whole fits.whole_fit, (numbers-notes notes fit, (IsNumber-decimal (code_of s.status) (code-fits s.status), tt))),
              ),
            ),
          ),
        ),
      ),
    ),
  ),
)

depth-counts : (ns : List ℕ) → items_depth (items_of (map count ns)) ≡ 0
depth-counts [] = omega arith
depth-counts (n ∷ ns) = rw (depth-counts ns) (omega arith)

depth-reason : (why : Passed) → members_depth (reason_members why) ≡ 0
depth-reason Absent = omega arith
depth-reason Failed = omega arith
depth-reason (Refused block fault) = omega arith
depth-reason (RefusedScp fault) = omega arith

depth-note : (note : Note) → depth (note_value note) ≤ 2
depth-note (Unread track dump why) = rw (depth-reason why) (omega arith)
depth-note (Sector track sector kind) = omega arith
depth-note (Other track told) = rw (depth-counts _) (omega arith)
depth-note (Untold track) = omega arith
depth-note (Uneven track dump ticks) = omega arith

depth-notes : (notes : List Note) → items_depth (items_of (map note_value notes)) ≤ 2
depth-notes [] = omega arith
depth-notes (note ∷ notes) = omega (arith, depth-note note, depth-notes notes)

depth-summary : (s : Summary) (notes : List Note) → depth (summary_value s notes) ≤ 128
depth-summary s notes = omega (arith, depth-notes notes)

pub parses : SummariesParse
unfolding line_text
parses s notes fits fit = document-print (summary_value s notes) (numbers-summary s notes fits fit) (depth-summary s notes)
