-- What a command over dumps on the shelf did, by what its work answered and how that ended.
use Rattle.std.proofs.Common.{◌≡◌, ◌<◌, ℕ, Bool, true, false, List, [], get_or, length, Option, Some, None, Result, Ok, Err, inl, inr, refl, sym, ap, ◌∙◌, subst, append-nil, arith}
use Rattle.std.proofs.KnownBytes.{Appends-nil, Keeps-refl}
use Rattle.std.specs.Io.KnownBytes.{Appends, Keeps}
use Rattle.flux_engine.specs.Blamed.{sink_blame}
use Rattle.dump_reading.specs.Files.{CountsMany, ShelfNow}
use Rattle.dump_reading.specs.Outcomes.{DumpDisk, IsFirstEmpty, IsToldEmpty, has_files}
use Rattle.dump_reading.specs.declared.fault.NoFiles.{NoFiles}
use Rattle.flux_engine.specs.declared.fault.Stopped.{Stopped}
use Rattle.flux_engine.specs.declared.fault.Stopped.TheVariants.{Refused as RefusedInput, ReadFault as Unread, ImageFault as Unwritten, NotesFault as Untold}
use Rattle.flux_base.specs.Blames.{CountsBy, no_counts, three_counts}
use Rattle.flux_base.specs.Moments.{Moment}
use Rattle.flux_base.specs.Outside.{AppendsPart}
use Rattle.flux_base.specs.declared.status.Status.{Status}
use Rattle.flux_base.specs.declared.status.Status.TheVariants.{AllGood, NotAllGood, Refused, Usage, ReadFault, ImageFault, NotesFault, Memory, ShelfFault}
use Rattle.std.proofs.lemmas.Bool.{cases_lt}
use Rattle.track_shelf.specs.DumpKinds.{kind_in}
use Rattle.flux_cli.specs.EmptyText.{empty_text}
use Rattle.track_shelf.specs.Files.{File}
use Rattle.track_shelf.specs.Told.{ShelfTold, with_failed}
use Rattle.flux_cli.proofs.EndingLaws.{AnswersOften, IsDone, ends-refused, ends-with}
use Rattle.flux_cli.specs.Blamed.{FailsOften}
use Rattle.flux_cli.specs.Endings.{EndsDumps}
use Rattle.flux_cli.specs.Runs.{growth, Says}
use Rattle.flux_cli.specs.ShelfWork.{CutInEmpty, FirstEmpty, TellsEmpty, empty_outcome}
use Rattle.flux_cli.specs.Work.{Got, Growth, Outcome, Work}
use Rattle.flux_cli.specs.World.{InputMoment, Outside, outside}

-- nothing was written
pub same-kept : (old new : Option (List ℕ)) → new ≡ old → Keeps old new
same-kept old new same = subst (Keeps old) (sym same) (Keeps-refl old)

pub same-nothing : (old new : Option (List ℕ)) → new ≡ old → Appends old new []
same-nothing old new same = subst (λ (now : Option (List ℕ)). Appends old now []) (sym same) (Appends-nil old)

pub kept-nothing : (old new : Option (List ℕ)) → Keeps old new → Appends old new []
kept-nothing None new kept = tt
kept-nothing (Some xs) None kept = kept
kept-nothing (Some xs) (Some ys) kept = kept ∙ sym (append-nil xs)

-- what an answer says of dumps, by the row, with what both sinks got before the work ended
module _ (work : Work ShelfNow) (dumps : List (List ℕ)) (start now : ShelfNow) (image notes : Growth) where
  pub record AllOf (status : Status) : Type 0 where
    pub outcome : Outcome
    pub is : work.gives start now outcome
    pub same : status ≡ outcome.status
    pub image_got : Got image outcome.image
    pub notes_got : Got notes outcome.notes

  -- a dump is empty; nothing was written yet, and a part of the line that says so is a cut
  pub record Empty (number : ℕ) : Type 0 where
    pub is : (line : List ℕ) → TellsEmpty start.told.files dumps number line → work.gives start now (empty_outcome line)
    pub image_got : Got image []
    pub same : notes.after ≡ notes.before
    pub cut : (line : List ℕ) → TellsEmpty start.told.files dumps number line → (after : Option (List ℕ)) → AppendsPart notes.before after line
        → work.cut NotesFault start now image (record { before = notes.before; after = after })

  abbrev pub Answers : {A : Type 0} → (A → Status) → Result A (Stopped NoFiles) → Type 0
  Answers by (Ok done) = AllOf (by done)
  Answers by (Err Unread) = ⊥
  Answers by (Err (RefusedInput empty)) = Empty empty.dump
  Answers by (Err Unwritten) = work.cut ImageFault start now image notes
  Answers by (Err Untold) = work.cut NotesFault start now image notes

module _ {H W N : Type 0} (work : Work ShelfNow) (dumps : List (List ℕ)) (before : Outside H ShelfNow W N) (shelf : InputMoment H ShelfNow) (image : Moment W) (mid after : Moment N) (status : Status) where
  abbrev Did : Status → Moment N → Type 0
  Did s n = Says work s before (outside shelf image n)

  -- the work is done by its row, also where files failed
  by-row : (n : Moment N) (o : Outcome) → work.gives before.input.seen shelf.seen o → Got (growth before.image image) o.image → Got (growth before.notes n) o.notes
      → (often : ℕ) → CountsMany often before.input.counts shelf.counts → (s : Status) → IsDone s → FailsOften s often → s ≡ o.status → Did s n
  by-row n o is image_got notes_got often many AllGood done fails same =
      record { outcome = o; gives = is; status_is = same; image_got = image_got; notes_got = notes_got }
  by-row n o is image_got notes_got often many NotAllGood done fails same =
      record { outcome = o; gives = is; status_is = same; image_got = image_got; notes_got = notes_got }
  by-row n o is image_got notes_got often many ShelfFault done fails same =
      (inl (record { outcome = o; gives = is; status_is = same; image_got = image_got; notes_got = notes_got }), many.cause fails)
  by-row n o is image_got notes_got often many Refused done fails same = absurd done
  by-row n o is image_got notes_got often many Usage done fails same = absurd done
  by-row n o is image_got notes_got often many ReadFault done fails same = absurd done
  by-row n o is image_got notes_got often many ImageFault done fails same = absurd done
  by-row n o is image_got notes_got often many NotesFault done fails same = absurd done
  by-row n o is image_got notes_got often many Memory done fails same = absurd done

  pub shelf-ended : {A : Type 0} (by : A → Status) → ((done : A) → IsDone (by done)) → (answer : Result A (Stopped NoFiles))
      → Answers work dumps before.input.seen shelf.seen (growth before.image image) (growth before.notes mid) by answer
      → (often : ℕ) → AnswersOften by answer often → CountsMany often before.input.counts shelf.counts
      → CountsBy (sink_blame answer) (three_counts no_counts before.image.counts before.notes.counts) (three_counts no_counts image.counts mid.counts)
      → EndsDumps before.input.seen.told.files dumps by answer status mid after → Did status after
  shelf-ended by done_is (Ok done) all often fails many counts is =
      ends-with Did (by done) status mid after (by-row mid all.outcome all.is all.image_got all.notes_got often many (by done) (done_is done) fails all.same) is
  shelf-ended by done_is (Err Unwritten) cut often fails many counts is = ends-with Did ImageFault status mid after (cut, counts.image.cause) is.ends
  shelf-ended by done_is (Err Untold) cut often fails many counts is = ends-with Did NotesFault status mid after (cut, counts.notes.cause) is.ends
  shelf-ended by done_is (Err Unread) never often fails many counts is = absurd never
  shelf-ended by done_is (Err (RefusedInput none)) empty often fails many counts is = ends-refused Did is.line status mid after
      (λ all later. record {
        outcome = empty_outcome is.line;
        gives = empty.is is.line is.refuses;
        status_is = refl;
        image_got = empty.image_got;
        notes_got = subst (λ (old : Option (List ℕ)). Appends old after.bytes is.line) empty.same all;
      })
      (λ part later rose. (
        empty.cut is.line is.refuses after.bytes (subst (λ (old : Option (List ℕ)). AppendsPart old after.bytes is.line) empty.same part),
        omega (arith, counts.notes.later, rose),
      )) is.ends

-- the files of the shelf stayed the same meanwhile
pub ends-over : {A N : Type 0} (told now : ShelfTold) (dumps : List (List ℕ)) (by : A → Status) (answer : Result A (Stopped NoFiles)) (status : Status) (before after : Moment N)
    → (paths : List (List ℕ)) → now ≡ with_failed paths told → EndsDumps now.files dumps by answer status before after → EndsDumps told.files dumps by answer status before after
ends-over told now dumps by answer status before after paths same is =
    subst (λ (files : Option (List File)). EndsDumps files dumps by answer status before after) (ap (λ (t : ShelfTold). t.files) same) is

-- a dump has none of the disk's files
pub none-of-disk : (work : Work ShelfNow) (start now : ShelfNow) (image notes : Growth) (disk : DumpDisk) (number : ℕ) → number < length disk.dumps
    → IsToldEmpty disk start.told.files (Some number) → now ≡ start → image.after ≡ image.before → notes.after ≡ notes.before
    → ((line : List ℕ) → FirstEmpty disk start.told.files line → work.gives start now (empty_outcome line))
    → ((after : Option (List ℕ)) → CutInEmpty disk start now image (record { before = notes.before; after = after })
    → work.cut NotesFault start now image (record { before = notes.before; after = after }))
    → Empty work disk.dumps start now image notes number
none-of-disk work start now image notes disk number low is still same_image same_notes gives cut = record {
  is = λ line tells. gives line (record { number = number; low = low; is = is; tells = tells });
  image_got = same-nothing image.before image.after same_image;
  same = same_notes;
  cut = λ line tells after part. cut after (record {
    line = line;
    first = record { number = number; low = low; is = is; tells = tells };
    still = still;
    image_got = same-kept image.before image.after same_image;
    notes_got = part;
  });
}

true_false : (b : Bool) → b ≡ true → b ≡ false → ⊥
true_false b is other = cc

-- the first dump without files is one
first_same : (disk : DumpDisk) (files : List File) (n m : ℕ) → IsFirstEmpty disk files (Some n) → IsFirstEmpty disk files (Some m) → n ≡ m
first_same disk files n m p q =
    elim (cases_lt n m) [
      | inl less ↦ absurd (true_false (has_files disk files n) (q.1 n less) p.0)
      | inr least ↦
          elim (cases_lt m n) [
            | inl more ↦ absurd (true_false (has_files disk files m) (p.1 m more) q.0)
            | inr most ↦ omega (arith, least, most)
          ]
    ]

-- the files decide what is told of a dump
pub one-line : (dumps : List (List ℕ)) (files : List File) (n m : ℕ) (line other : List ℕ) → n ≡ m → TellsEmpty (Some files) dumps n line → TellsEmpty (Some files) dumps m other
    → line ≡ other
one-line dumps files n m line other same p q =
    p.is ∙ ap (empty_text n (get_or dumps n [])) p.kind_is
    ∙ ap (λ (k : ℕ). empty_text k (get_or dumps k []) (kind_in files (get_or dumps k []))) same
    ∙ sym (ap (empty_text m (get_or dumps m [])) q.kind_is) ∙ sym q.is

-- the files decide whether a dump is refused, and what is told of it
pub one-empty : (disk : DumpDisk) (files : List File) (told told' : Option (List File)) → told ≡ Some files → told' ≡ Some files → (line other : List ℕ)
    → FirstEmpty disk told line → FirstEmpty disk told' other → line ≡ other
one-empty disk files told told' mine others line other p q =
    let same : p.number ≡ q.number = first_same disk files p.number q.number (p.is files mine) (q.is files others) in
    one-line disk.dumps files p.number q.number line other same
    (subst (λ (t : Option (List File)). TellsEmpty t disk.dumps p.number line) mine p.tells)
    (subst (λ (t : Option (List File)). TellsEmpty t disk.dumps q.number other) others q.tells)

pub none-or-empty : (disk : DumpDisk) (files : List File) (told told' : Option (List File)) → told ≡ Some files → told' ≡ Some files → (line : List ℕ)
    → FirstEmpty disk told line → IsToldEmpty disk told' None → ⊥
none-or-empty disk files told told' mine others line p none =
    true_false (has_files disk files p.number) (none files others p.number p.low) (p.is files mine).0
