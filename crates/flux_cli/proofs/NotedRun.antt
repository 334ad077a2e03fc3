-- What a command over dumps did that told first what is noted of them.
use Rattle.std.proofs.Common.{◌≡◌, ◌<◌, ◌≤◌, ◌+◌, ◌++◌, ◌||◌, ℕ, Bool, true, false, cond, List, [], ◌∷◌, Option, Result, Ok, Err, inl, inr, refl, sym, ap, subst, ◌∙◌, arith}
use Rattle.std.proofs.KnownBytes.{Appends-trans, Keeps-refl}
use Rattle.std.proofs.lemmas.List.Sums.{sum_by-cons}
use Rattle.std.specs.List.{count_by, list_any}
use Rattle.dump_reading.specs.Files.{CountsMany, ShelfNow}
use Rattle.dump_reading.specs.lemmas.Coming.{counts-both, failed-both}
use Rattle.flux_base.specs.Counts.{Counts, FaultCounts}
use Rattle.flux_base.specs.Moments.{Moment}
use Rattle.flux_base.specs.Outside.{Rose}
use Rattle.flux_base.specs.declared.outside.Failed.{Failed}
use Rattle.flux_base.specs.declared.status.Status.{Status}
use Rattle.flux_base.specs.declared.status.Status.TheVariants.{AllGood, NotAllGood, Refused, Usage, ReadFault, ImageFault, NotesFault, Memory, ShelfFault}
use Rattle.flux_base.specs.lemmas.Counting.{Counts-none, Counts-then}
use Rattle.flux_base.specs.Blames.{is_image, is_notes, three_counts}
use Rattle.track_shelf.specs.Told.{with_failed}
use Rattle.dump_reading.specs.Outcomes.{DumpDisk}
use Rattle.sector_images.specs.declared.format.Format.{Format}
use Rattle.flux_words.specs.declared.options.Shown.{Shown}
use Rattle.scp_notes.specs.Dumps.{AllNoted, DumpNoted, NotesDumps, failed_paths, has_failed, texts_of}
use Rattle.flux_engine.specs.declared.fault.Stopped.{Stopped}
use Rattle.flux_engine.specs.declared.fault.Stopped.TheVariants.{Refused as RefusedInput, ReadFault as Unread, ImageFault as Unwritten, NotesFault as Untold}
use Rattle.dump_reading.specs.declared.fault.NoFiles.{NoFiles}
use Rattle.track_shelf.specs.Files.{File}
use Rattle.flux_cli.proofs.EndingLaws.{IsDone, ends-refused, ends-with}
use Rattle.flux_cli.specs.Endings.{EndsDumps}
use Rattle.flux_cli.specs.Blamed.{CountsOnShelf, FailsOften, shelf_blame}
use Rattle.flux_cli.specs.NotedWork.{CutBehindNotes, noted_outcome, noted_status, noted_work}
use Rattle.flux_cli.specs.ReadRuns.{read_work}
use Rattle.flux_cli.specs.Runs.{Does, Finished, Says, growth}
use Rattle.flux_cli.specs.ShelfWork.{ShelfStays, dumps_work, ends_over_shelf}
use Rattle.flux_cli.specs.Work.{Growth, Outcome, Work}
use Rattle.flux_cli.specs.World.{InputMoment, Outside, outside}

-- a file failed, and then so many did
some-failed : (noted : List DumpNoted) → list_any has_failed noted ≡ true → 0 < count_by has_failed noted
some-failed [] some = absurd (cc)
some-failed (it ∷ noted) some = by (has_failed it) refl (λ rest. some-failed noted rest)
  where
    size : count_by has_failed (it ∷ noted) ≡ cond (has_failed it) 1 0 + count_by has_failed noted
    size = sum_by-cons (λ (d : DumpNoted). cond (has_failed d) 1 0) it noted

    by : (b : Bool) → has_failed it ≡ b → (list_any has_failed noted ≡ true → 0 < count_by has_failed noted) → 0 < count_by has_failed (it ∷ noted)
    by true is behind =
        let one = ap {B = ℕ} (λ (c : Bool). cond c 1 0) is in
        omega (arith, size, one)
    by false is behind =
        let rest = behind (sym (ap (λ (c : Bool). c || list_any has_failed noted) is) ∙ some) in
        omega (arith, size, rest)

none-failed : (noted : List DumpNoted) → list_any has_failed noted ≡ false → count_by has_failed noted ≡ 0
none-failed [] none = refl
none-failed (it ∷ noted) none = by (has_failed it) refl (λ rest. none-failed noted rest)
  where
    size : count_by has_failed (it ∷ noted) ≡ cond (has_failed it) 1 0 + count_by has_failed noted
    size = sum_by-cons (λ (d : DumpNoted). cond (has_failed d) 1 0) it noted

    true_not : (b : Bool) → (true || b) ≡ false → ⊥
    true_not b is = cc

    by : (b : Bool) → has_failed it ≡ b → (list_any has_failed noted ≡ false → count_by has_failed noted ≡ 0) → count_by has_failed (it ∷ noted) ≡ 0
    by true is behind = absurd (true_not (list_any has_failed noted) (sym (ap (λ (c : Bool). c || list_any has_failed noted) is) ∙ none))
    by false is behind =
        let rest = behind (sym (ap (λ (c : Bool). c || list_any has_failed noted) is) ∙ none) in
        let one = ap {B = ℕ} (λ (c : Bool). cond c 1 0) is in
        omega (arith, size, rest, one)

-- no status is one of the source
ends-so : (b : Bool) (status : Status) → ends_over_shelf status → ends_over_shelf (noted_status b status)
ends-so true AllGood ends = tt
ends-so true NotAllGood ends = tt
ends-so true Refused ends = tt
ends-so true ImageFault ends = tt
ends-so true NotesFault ends = tt
ends-so true ShelfFault ends = tt
ends-so true Memory ends = tt
ends-so true Usage ends = ends
ends-so true ReadFault ends = ends
ends-so false status ends = ends

pub no-unread : (failed : Bool) (status : Status) → ends_over_shelf status → noted_status failed status ≡ ReadFault → ⊥
no-unread failed status ends same = subst ends_over_shelf same (ends-so failed status ends)

pub notes-unread : NotesFault ≡ ReadFault → ⊥
notes-unread same = cc

-- what was done in a room that was made for the disk's format
pub noted-in-room : {H W N : Type 0} (shown : Shown) (disk : DumpDisk) (before after : Outside H ShelfNow W N) (held : Format) (status : Status) → held ≡ disk.format
    → Does (noted_work disk.dumps (read_work shown (record disk { format = held }))) status before after → Does (noted_work disk.dumps (read_work shown disk)) status before after
noted-in-room shown disk before after held status same did = subst (λ (f : Format). Does (noted_work disk.dumps (read_work shown (record disk { format = f }))) status before after) same did

-- the notes of the dumps, and how often a command failed behind them
module _ {H W N : Type 0} (dumps : List (List ℕ)) (before : Outside H ShelfNow W N) (shelf : InputMoment H ShelfNow) (notes : Moment N)
    (seen : before.input.seen.counts ≡ before.input.counts) (seen' : shelf.seen.counts ≡ shelf.counts) where
  abbrev mid : Outside H ShelfNow W N
  mid = outside shelf before.image notes

  -- the notes failed
  pub noted-cut : (work : Work ShelfNow) (failed : Failed) → NotesDumps dumps before.input.seen shelf.seen before.notes notes (Err failed)
      → Does (noted_work dumps work) NotesFault before mid
  noted-cut work failed did = record {
    answer = tt;
    says = (inl (record { noted = did.noted; are = did.are; image_got = Keeps-refl before.image.bytes; notes_got = did.puts.err }), did.puts.counts.cause);
    keeps = (failed_paths did.noted, did.are.told);
  }

  pub noted-cut-counts : (failed : Failed) → NotesDumps dumps before.input.seen shelf.seen before.notes notes (Err failed)
      → CountsOnShelf true NotesFault (three_counts before.input.counts before.image.counts before.notes.counts) (three_counts shelf.counts before.image.counts notes.counts)
  noted-cut-counts failed did = record {
    shelf = (
      count_by has_failed did.noted,
      tt,
      subst (λ (f : FaultCounts). CountsMany (count_by has_failed did.noted) f shelf.counts) seen
          (subst (λ (f : FaultCounts). CountsMany (count_by has_failed did.noted) before.input.seen.counts f) seen' did.are.counts),
    );
    image = Counts-none before.image.counts;
    notes = did.puts.counts;
  }

  module _ (Gives : (start now : ShelfNow) → Outcome → Type 0) (Cut : Status → (start now : ShelfNow) → (image notes : Growth) → Type 0)
      (after : Outside H ShelfNow W N) (failed : Bool) (did : NotesDumps dumps before.input.seen shelf.seen before.notes notes (Ok failed)) where
    abbrev work : Work ShelfNow
    work = dumps_work Gives Cut

    many : CountsMany (count_by has_failed did.noted) before.input.counts shelf.counts
    many = subst (λ (f : FaultCounts). CountsMany (count_by has_failed did.noted) f shelf.counts) seen
        (subst (λ (f : FaultCounts). CountsMany (count_by has_failed did.noted) before.input.seen.counts f) seen' did.are.counts)

    all : AllNoted dumps before.input.seen shelf.seen did.noted
    all = record { are = did.are; all = did.all }

    finished : (status : Status) → Finished work status mid after → Finished (noted_work dumps work) (noted_status failed status) before after
    finished status done = record {
      outcome = noted_outcome did.noted done.outcome;
      gives = record { mid = shelf.seen; noted = did.noted; noted_are = all; own = done.outcome; gives = done.gives; is = refl };
      status_is = ap (noted_status failed) done.status_is ∙ ap (λ (b : Bool). noted_status b done.outcome.status) did.fails;
      image_got = done.image_got;
      notes_got = Appends-trans before.notes.bytes notes.bytes after.notes.bytes (texts_of did.noted) done.outcome.notes did.puts.ok done.notes_got;
    }

    cut : (status : Status) → Cut status shelf.seen after.input.seen (growth before.image after.image) (growth notes after.notes)
        → CutBehindNotes dumps (Cut status) before.input.seen after.input.seen (growth before.image after.image) (growth before.notes after.notes)
    cut status is = record { mid = shelf.seen; noted = did.noted; noted_are = all; between = notes.bytes; notes_got = did.puts.ok; cut = is }

    done-as : (b : Bool) → failed ≡ b → (status : Status) → Finished work status mid after → Finished (noted_work dumps work) (noted_status b status) before after
    done-as b same status done = subst (λ (c : Bool). Finished (noted_work dumps work) (noted_status c status) before after) same (finished status done)

    -- where a file failed, the shelf has counted it
    rose : failed ≡ true → shelf.counts.faults ≤ after.input.counts.faults → Rose before.input.counts.faults after.input.counts.faults
    rose some later =
        let any = many.cause (some-failed did.noted (sym did.fails ∙ some)) in
        omega (arith, any, later)

    says : (b : Bool) → failed ≡ b → shelf.counts.faults ≤ after.input.counts.faults → (status : Status) → (status ≡ Memory → ⊥) → ends_over_shelf status
        → Says work status mid after → Says (noted_work dumps work) (noted_status b status) before after
    says true same later AllGood full ends done = (inl (done-as true same AllGood done), rose same later)
    says true same later NotAllGood full ends done = (inl (done-as true same NotAllGood done), rose same later)
    says true same later Refused full ends done = (inl (done-as true same Refused done), rose same later)
    says false same later AllGood full ends done = done-as false same AllGood done
    says false same later NotAllGood full ends done = done-as false same NotAllGood done
    says false same later Refused full ends done = done-as false same Refused done
    says true same later ImageFault full ends is = (cut ImageFault is.0, is.1)
    says false same later ImageFault full ends is = (cut ImageFault is.0, is.1)
    says true same later NotesFault full ends is = (inr (cut NotesFault is.0), omega (arith, did.puts.counts.later, is.1))
    says false same later NotesFault full ends is = (inr (cut NotesFault is.0), omega (arith, did.puts.counts.later, is.1))
    says true same later ShelfFault full ends (inl done, rises) = (inl (done-as true same ShelfFault done), omega (arith, many.later, rises))
    says false same later ShelfFault full ends (inl done, rises) = (inl (done-as false same ShelfFault done), omega (arith, many.later, rises))
    says true same later ShelfFault full ends (inr is, rises) = (inr (cut ShelfFault is), omega (arith, many.later, rises))
    says false same later ShelfFault full ends (inr is, rises) = (inr (cut ShelfFault is), omega (arith, many.later, rises))
    says true same later Memory full ends is = absurd (full refl)
    says false same later Memory full ends is = absurd (full refl)
    says true same later Usage full ends is = absurd ends
    says false same later Usage full ends is = absurd ends
    says true same later ReadFault full ends is = absurd ends
    says false same later ReadFault full ends is = absurd ends

    stays : ShelfStays shelf.seen after.input.seen → ShelfStays before.input.seen after.input.seen
    stays (paths, told) = (
      failed_paths did.noted ++ paths,
      told ∙ ap (with_failed paths) did.are.told ∙ failed-both (failed_paths did.noted) paths before.input.seen.told,
    )

    -- the command did what its row says, behind the notes
    pub noted-done : (status : Status) → (status ≡ Memory → ⊥) → shelf.counts.faults ≤ after.input.counts.faults → Does work status mid after
        → Does (noted_work dumps work) (noted_status failed status) before after
    noted-done status full later does = record {
      answer = ends-so failed status does.answer;
      says = says failed refl later status full does.answer does.says;
      keeps = stays does.keeps;
    }

    -- and how often each object failed
    abbrev count : ℕ
    count = count_by has_failed did.noted

    any : failed ≡ true → 0 < count
    any some = some-failed did.noted (sym did.fails ∙ some)

    none : failed ≡ false → count ≡ 0
    none is = none-failed did.noted (sym did.fails ∙ is)

    often-so : (b : Bool) → failed ≡ b → (status : Status) → (status ≡ Memory → ⊥) → ends_over_shelf status → (often : ℕ) → FailsOften status often
        → FailsOften (noted_status b status) (count + often)
    often-so true same AllGood full ends often fails = (let some = any same in omega (arith, some))
    often-so true same NotAllGood full ends often fails = (let some = any same in omega (arith, some))
    often-so true same Refused full ends often fails = (let some = any same in omega (arith, some))
    often-so false same AllGood full ends often fails = (let is = none same in omega (arith, is, fails))
    often-so false same NotAllGood full ends often fails = (let is = none same in omega (arith, is, fails))
    often-so false same Refused full ends often fails = (let is = none same in omega (arith, is, fails))
    often-so true same ShelfFault full ends often fails = omega (arith, fails)
    often-so false same ShelfFault full ends often fails = omega (arith, fails)
    often-so true same ImageFault full ends often fails = tt
    often-so false same ImageFault full ends often fails = tt
    often-so true same NotesFault full ends often fails = tt
    often-so false same NotesFault full ends often fails = tt
    often-so true same Memory full ends often fails = absurd (full refl)
    often-so false same Memory full ends often fails = absurd (full refl)
    often-so true same Usage full ends often fails = absurd ends
    often-so false same Usage full ends often fails = absurd ends
    often-so true same ReadFault full ends often fails = absurd ends
    often-so false same ReadFault full ends often fails = absurd ends

    same-image : (b : Bool) (status : Status) → is_image (shelf_blame (noted_status b status)) ≡ is_image (shelf_blame status)
    same-image true AllGood = refl
    same-image true NotAllGood = refl
    same-image true Refused = refl
    same-image true Usage = refl
    same-image true ReadFault = refl
    same-image true ImageFault = refl
    same-image true NotesFault = refl
    same-image true Memory = refl
    same-image true ShelfFault = refl
    same-image false status = refl

    same-notes : (b : Bool) (status : Status) → is_notes (shelf_blame (noted_status b status)) ≡ is_notes (shelf_blame status)
    same-notes true AllGood = refl
    same-notes true NotAllGood = refl
    same-notes true Refused = refl
    same-notes true Usage = refl
    same-notes true ReadFault = refl
    same-notes true ImageFault = refl
    same-notes true NotesFault = refl
    same-notes true Memory = refl
    same-notes true ShelfFault = refl
    same-notes false status = refl

    pub noted-counts : (status : Status) → (status ≡ Memory → ⊥) → ends_over_shelf status
        → CountsOnShelf true status (three_counts shelf.counts before.image.counts notes.counts) (three_counts after.input.counts after.image.counts after.notes.counts)
        → CountsOnShelf true (noted_status failed status) (three_counts before.input.counts before.image.counts before.notes.counts)
        (three_counts after.input.counts after.image.counts after.notes.counts)
    noted-counts status full ends c = record {
      shelf = (count + c.shelf.0, often-so failed refl status full ends c.shelf.0 c.shelf.1, counts-both count c.shelf.0 many c.shelf.2);
      image = subst (λ (b : Bool). Counts b before.image.counts after.image.counts) (sym (same-image failed status)) c.image;
      notes = subst (λ (b : Bool). Counts b before.notes.counts after.notes.counts) (sym (same-notes failed status))
          (Counts-then (is_notes (shelf_blame status)) did.puts.counts c.notes);
    }

-- a command that ends so had its memory
abbrev pub HadRoom : Status → Type 0
HadRoom Memory = ⊥
HadRoom _ = Unit {0}

done-room : (status : Status) → IsDone status → HadRoom status
done-room AllGood done = tt
done-room NotAllGood done = tt
done-room ShelfFault done = tt
done-room Refused done = absurd done
done-room Usage done = absurd done
done-room ReadFault done = absurd done
done-room ImageFault done = absurd done
done-room NotesFault done = absurd done
done-room Memory done = absurd done

pub had-room : {A N : Type 0} (told : Option (List File)) (dumps : List (List ℕ)) (by : A → Status) → ((done : A) → IsDone (by done)) → (answer : Result A (Stopped NoFiles))
    → (status : Status) (before after : Moment N) → EndsDumps told dumps by answer status before after → HadRoom status
had-room told dumps by done_is (Ok done) status before after is = ends-with (λ (s : Status) (n : Moment _). HadRoom s) _ status before after (done-room (by done) (done_is done)) is
had-room told dumps by done_is (Err Unwritten) status before after is = ends-with (λ (s : Status) (n : Moment _). HadRoom s) ImageFault status before after tt is.ends
had-room told dumps by done_is (Err Untold) status before after is = ends-with (λ (s : Status) (n : Moment _). HadRoom s) NotesFault status before after tt is.ends
had-room told dumps by done_is (Err Unread) status before after is = ends-with (λ (s : Status) (n : Moment _). HadRoom s) ShelfFault status before after tt is.ends
had-room told dumps by done_is (Err (RefusedInput empty)) status before after is =
    ends-refused (λ (s : Status) (n : Moment _). HadRoom s) is.line status before after (λ all later. tt) (λ part later rose. tt) is.ends

pub no-memory : {A N : Type 0} (told : Option (List File)) (dumps : List (List ℕ)) (by : A → Status) → ((done : A) → IsDone (by done)) → (answer : Result A (Stopped NoFiles))
    → (status : Status) (before after : Moment N) → EndsDumps told dumps by answer status before after → status ≡ Memory → ⊥
no-memory told dumps by done_is answer status before after is same = subst HadRoom same (had-room told dumps by done_is answer status before after is)
