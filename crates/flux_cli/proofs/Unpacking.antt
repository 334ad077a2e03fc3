-- An SCP file that is unpacked: how often each object of the run failed.
use Rattle.std.proofs.Common.{ℕ, Bool, true, false, if◌then◌else◌, List, Option, Ok, Err, is_err, refl, subst, sym}
use Rattle.file_maker.specs.Made.{Made}
use Rattle.flux_base.specs.Blames.{Blame, CountsBy, no_one, the_image, the_notes, the_source, three_counts}
use Rattle.flux_base.specs.Counts.{FaultCounts}
use Rattle.flux_base.specs.Moments.{Moment}
use Rattle.flux_base.specs.declared.status.Status.{Status}
use Rattle.flux_base.specs.declared.status.Status.TheVariants.{AllGood, NotAllGood, Refused, Usage, ReadFault, ImageFault, NotesFault, Memory, ShelfFault}
use Rattle.flux_base.specs.lemmas.Counting.{Counts-none, Counts-then}
use Rattle.scp_unpack.specs.Answers.{Answer, Asked, SaysOf}
use Rattle.scp_unpack.specs.Blamed.{unpack_blame}
use Rattle.scp_unpack.specs.declared.fault.UnpackFault.TheVariants.{Exists, FileFault, FolderFault, NotThere, NotesFault as Untold, ReadFault as Unread, Refused as RefusedFile}
use Rattle.scp_unpack.specs.declared.unpacking.Unpacked.{Unpacked}
use Rattle.flux_cli.proofs.EndingLaws.{ends-with}
use Rattle.flux_cli.specs.Blamed.{CountsOfRun, IsOfFiles, all_counts, files}
use Rattle.flux_cli.specs.Endings.{EndsBy, refuses}
use Rattle.flux_cli.specs.MakingWork.{TellsUnmade}
use Rattle.flux_cli.specs.UnpackRuns.{AreOfTable, EndsUnpacking, unpack_status}

-- the tracks that it names are of the table
pub of-table : (asked : Asked) (made made' : Option Made) (notes notes' : Option (List ℕ)) (answer : Answer) → SaysOf asked made made' notes notes' answer → AreOfTable answer
of-table asked made made' notes notes' (Ok unpacked) says = tt
of-table asked made made' notes notes' (Err NotThere) says = tt
of-table asked made made' notes notes' (Err (RefusedFile why)) says = tt
of-table asked made made' notes notes' (Err (Exists number)) says = says.0
of-table asked made made' notes notes' (Err Unread) says = tt
of-table asked made made' notes notes' (Err FolderFault) says = tt
of-table asked made made' notes notes' (Err (FileFault number)) says = says.1.1.within
of-table asked made made' notes notes' (Err Untold) says = tt

-- the counts of all by how the command ended
module _ {N : Type 0} (source shelf shelf' image notes maker maker' : FaultCounts) where
  abbrev Counted : Status → Moment N → Type 0
  Counted status now = CountsOfRun true files false status (all_counts source shelf image notes maker) (all_counts source shelf' image now.counts maker')

  abbrev Blamed : Blame → Moment N → Type 0
  Blamed blame now = CountsBy blame (three_counts shelf maker notes) (three_counts shelf' maker' now.counts)

  -- no object failed
  none_failed : (b : Bool) (now : Moment N) → Blamed no_one now → Counted (if b then AllGood else NotAllGood) now
  none_failed true now c = record { source = Counts-none source; files = (no_one, refl, c.source, c.image); image = Counts-none image; notes = c.notes }
  none_failed false now c = record { source = Counts-none source; files = (no_one, refl, c.source, c.image); image = Counts-none image; notes = c.notes }

  refused-counts : (line : List ℕ) (status : Status) (before after : Moment N) → Blamed no_one before → EndsBy (refuses line) status before after → Counted status after
  refused-counts line Refused before after c puts = record { source = Counts-none source; files = (no_one, refl, c.source, c.image); image = Counts-none image; notes = Counts-then false c.notes puts.counts }
  refused-counts line NotesFault before after c (failed, puts) =
      record { source = Counts-none source; files = (no_one, refl, c.source, c.image); image = Counts-none image; notes = Counts-then true c.notes puts.counts }
  refused-counts line AllGood before after c never = absurd never
  refused-counts line NotAllGood before after c never = absurd never
  refused-counts line Usage before after c never = absurd never
  refused-counts line ReadFault before after c never = absurd never
  refused-counts line ImageFault before after c never = absurd never
  refused-counts line Memory before after c never = absurd never
  refused-counts line ShelfFault before after c never = absurd never

  unmade-counts : (line : List ℕ) (blame : Blame) (status : Status) (before after : Moment N) → IsOfFiles ShelfFault blame → Blamed blame before → TellsUnmade line status before after
      → Counted status after
  unmade-counts line no_one status before after of c (same, (told, puts)) =
      subst (λ (s : Status). Counted s after) (sym same)
      (record { source = Counts-none source; files = (no_one, of, c.source, c.image); image = Counts-none image; notes = (is_err told, Counts-then (is_err told) c.notes puts.counts) })
  unmade-counts line the_source status before after of c (same, (told, puts)) =
      subst (λ (s : Status). Counted s after) (sym same)
      (record { source = Counts-none source; files = (the_source, of, c.source, c.image); image = Counts-none image; notes = (is_err told, Counts-then (is_err told) c.notes puts.counts) })
  unmade-counts line the_image status before after of c (same, (told, puts)) =
      subst (λ (s : Status). Counted s after) (sym same)
      (record { source = Counts-none source; files = (the_image, of, c.source, c.image); image = Counts-none image; notes = (is_err told, Counts-then (is_err told) c.notes puts.counts) })
  unmade-counts line the_notes status before after of c ends = absurd of

  pub unpacking-counts : (answer : Answer) (status : Status) (before after : Moment N) → Blamed (unpack_blame answer) before → EndsUnpacking answer status before after
      → Counted status after
  unpacking-counts (Ok unpacked) status before after c is = ends-with Counted (unpack_status unpacked) status before after (none_failed _ before c) is
  unpacking-counts (Err NotThere) status before after c is = refused-counts _ status before after c is
  unpacking-counts (Err (RefusedFile why)) status before after c is = refused-counts _ status before after c is
  unpacking-counts (Err (Exists number)) status before after c is = unmade-counts _ no_one status before after tt c is
  unpacking-counts (Err Unread) status before after c is = unmade-counts _ the_source status before after tt c is
  unpacking-counts (Err FolderFault) status before after c is = unmade-counts _ the_image status before after tt c is
  unpacking-counts (Err (FileFault number)) status before after c is = unmade-counts _ the_image status before after tt c is
  unpacking-counts (Err Untold) status before after c is =
      ends-with Counted NotesFault status before after
      (record { source = Counts-none source; files = (no_one, refl, c.source, c.image); image = Counts-none image; notes = c.notes }) is
