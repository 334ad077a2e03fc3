-- From what a run did to what is promised of it.
use Rattle.std.proofs.Common.{◌≡◌, ◌≢◌, ◌≤◌, ℕ, ◌++◌, List, [], Option, Some, None, Result, Ok, Err, inl, inr, refl, sym, ap, ◌∙◌, subst, arith}
use Rattle.flux_base.specs.declared.outside.Failed.{Failed}
use Rattle.dump_reading.specs.Files.{ShelfNow}
use Rattle.dump_reading.specs.Outcomes.{DumpDisk}
use Rattle.flux_base.specs.Outside.{Rose}
use Rattle.flux_base.specs.declared.status.Status.{Status}
use Rattle.flux_base.specs.declared.status.Status.TheVariants.{AllGood, NotAllGood, Refused, Usage, ReadFault, ImageFault, NotesFault, Memory, ShelfFault}
use Rattle.flux_engine.specs.Plans.{decoding}
use Rattle.flux_engine.specs.declared.plan.Plan.{Plan}
use Rattle.kryo_stream.specs.Reads.{SourceMoment}
use Rattle.sector_images.specs.declared.format.Format.{Format}
use Rattle.track_shelf.specs.Files.{File, LeavesWanted, NamesMissing, first_missing, joined}
use Rattle.track_shelf.specs.Names.{missing_text}
use Rattle.flux_words.specs.Asked.{Asked, the_turns, some_streams, a_folder, some_dumps, a_sector, an_identity, told_files, an_imd_file, an_archive, written_streams, written_files, split_streams, unpacked_file, a_trial, a_g64_file, an_image_of_g64, a_page}
use Rattle.flux_words.specs.G64Disks.{format_of}
use Rattle.flux_words.specs.declared.commands.Output.{Output}
use Rattle.flux_words.specs.declared.commands.Output.TheVariants.{ImageAndReport, ReportAlone, Picture}
use Rattle.flux_words.specs.declared.commands.Way.TheVariants.{Once}
use Rattle.flux_words.specs.declared.options.Shown.{Shown}
use Rattle.flux_words.specs.declared.options.Shown.TheVariants.{Image, Picture as PictureShown}
use Rattle.flux_cli.proofs.AskedWords.{asked_is, asked_keeps}
use Rattle.flux_cli.proofs.FilesHeadline.{of_files}
use Rattle.flux_cli.proofs.Headlines.{Laws, of_g64, of_streams, of_trial, way_asked, IsAsked}
use Rattle.flux_cli.proofs.ReadHeadline.{DumpLaws, of_read}
use Rattle.flux_cli.proofs.SplitHeadline.{of_split}
use Rattle.flux_cli.specs.FolderRuns.{Began, DidBy, DoesFolder, RefusesMissing, over_shelf}
use Rattle.flux_cli.specs.BytesWork.{BytesWork, of_bytes}
use Rattle.flux_cli.specs.Runs.{Does, Finished, IsCut, Says, growth}
use Rattle.flux_cli.specs.ShelfRuns.{DoesRow, Ran}
use Rattle.flux_cli.specs.Promises.{Expected, OfFolder, Promises, by_sinks, known, known_bytes}
use Rattle.flux_cli.specs.World.{InputMoment, World, as_source, on_shelf, on_source, Outside}
use Rattle.flux_cli.specs.AskedDisks.{Keeps, asked_disk}
use Rattle.flux_cli.specs.Headlines.{OfFile, OfShown, OfTrial}
use Rattle.flux_cli.specs.ReadHeadline.{OfRead}
use Rattle.flux_cli.specs.NotedWork.{OfNoted, noted_cut, noted_work}
use Rattle.flux_cli.specs.Work.{Growth, Outcome, Work}
use Rattle.flux_cli.specs.ShelfWork.{ends_over_shelf}
use Rattle.flux_cli.specs.G64Work.{from_g64_work}
use Rattle.flux_cli.specs.Works.{plan_of, row_for, row_of}
use Rattle.flux_cli.specs.PlanWork.{planned_work}
use Rattle.flux_cli.specs.ReadRuns.{dumps_cut, read_work}
use Rattle.flux_cli.proofs.ShelfEnded.{same-nothing}
use Rattle.flux_cli.specs.TrialWork.{trial_work}

-- what is known of each outcome of some work, and of what cuts it, is known of what was done
module _ {A V W N : Type 0} (work : Work V) (cuts : Status → Type 0) (Known : (start now : V) → Outcome → Type 0) (before after : Outside A V W N)
    (holds : (o : Outcome) → work.gives before.input.seen after.input.seen o → Known before.input.seen after.input.seen o)
    (cut_so : (status : Status) (image notes : Growth) → work.ends status → work.cut status before.input.seen after.input.seen image notes → cuts status) where
  finished : (status : Status) → Finished work status before after → Finished (known work.ends cuts Known) status before after
  finished status done = record { outcome = done.outcome; gives = holds done.outcome done.gives; status_is = done.status_is; image_got = done.image_got; notes_got = done.notes_got }

  is_cut : (status : Status) → work.ends status → IsCut work status before after → cuts status
  is_cut status ends cut = cut_so status (growth before.image after.image) (growth before.notes after.notes) ends cut

  says : (status : Status) → work.ends status → Says work status before after → Says (known work.ends cuts Known) status before after
  says AllGood ends done = finished AllGood done
  says NotAllGood ends done = finished NotAllGood done
  says Refused ends done = finished Refused done
  says Usage ends done = finished Usage done
  says ReadFault ends cut = (is_cut ReadFault ends cut.0, cut.1)
  says ImageFault ends cut = (is_cut ImageFault ends cut.0, cut.1)
  says NotesFault ends cut = (is_cut NotesFault ends cut.0, cut.1)
  says Memory ends same = same
  says ShelfFault ends (inl done, rose) = (inl (finished ShelfFault done), rose)
  says ShelfFault ends (inr cut, rose) = (inr (is_cut ShelfFault ends cut), rose)

  pub known-of : (status : Status) → Does work status before after → Does (known work.ends cuts Known) status before after
  known-of status did = record { answer = did.answer; says = says status did.answer did.says; keeps = tt }

-- the reading of dumps is cut for the sake of a sink alone
cut_by_sinks : (shown : Shown) (disk : DumpDisk) (start now : ShelfNow) (status : Status) (image notes : Growth) → dumps_cut shown disk status start now image notes → by_sinks status
cut_by_sinks Image disk start now ShelfFault image notes cut = absurd cut
cut_by_sinks PictureShown disk start now ShelfFault image notes cut = absurd cut
cut_by_sinks shown disk start now AllGood image notes cut = tt
cut_by_sinks shown disk start now NotAllGood image notes cut = tt
cut_by_sinks shown disk start now Refused image notes cut = tt
cut_by_sinks shown disk start now Usage image notes cut = tt
cut_by_sinks shown disk start now ReadFault image notes cut = tt
cut_by_sinks shown disk start now ImageFault image notes cut = tt
cut_by_sinks shown disk start now NotesFault image notes cut = tt
cut_by_sinks shown disk start now Memory image notes cut = tt

-- nor is it behind the notes of the dumps
cut_noted : (shown : Shown) (disk : DumpDisk) (start now : ShelfNow) (status : Status) (image notes : Growth)
    → noted_cut disk.dumps (dumps_cut shown disk) status start now image notes → by_sinks status
cut_noted shown disk start now ShelfFault image notes cut = cut_by_sinks shown disk cut.mid now ShelfFault image (record { before = cut.between; after = notes.after }) cut.cut
cut_noted shown disk start now AllGood image notes cut = tt
cut_noted shown disk start now NotAllGood image notes cut = tt
cut_noted shown disk start now Refused image notes cut = tt
cut_noted shown disk start now Usage image notes cut = tt
cut_noted shown disk start now ReadFault image notes cut = tt
cut_noted shown disk start now ImageFault image notes cut = tt
cut_noted shown disk start now NotesFault image notes cut = tt
cut_noted shown disk start now Memory image notes cut = tt

-- and where it was known of the bytes that the source tells
pub known-bytes : {S W N : Type 0} (work : BytesWork) (Known : List ℕ → Outcome → Type 0) → ((x : List ℕ) (o : Outcome) → work.gives x o → Known x o)
    → (before after : Outside S SourceMoment W N) (status : Status) → Does (of_bytes work) status before after → Does (known_bytes work Known) status before after
known-bytes work Known holds before after status did =
    known-of (of_bytes work) work.ends (λ start now o. (x : List ℕ) → start.left ≡ Some x → Known x o) before after
    (λ o comes x told. subst (λ (y : List ℕ). Known y o) (sym (comes.input x told).0) (holds (comes.taken ++ comes.later) o comes.gives))
    (λ fault image notes ends cut. ends) status did

some_none : (n : ℕ) → Some n ≡ None → ⊥
some_none n same = cc

-- `decode` of a folder's files: what was given over the shelf that `begin` left was given over it as it was before
module _ (laws : Laws) {H W N : Type 0} (format : Format) (folder : List ℕ) (before after : Outside H ShelfNow W N) where
  abbrev Promised : Status → Type 0
  Promised status = Does (known ends_over_shelf ends_over_shelf (OfFolder format folder)) status before after

  module _ (shelf : InputMoment H ShelfNow) (began : Began folder format (Ok None) before.input shelf) where
    abbrev begun : Outside H ShelfNow W N
    begun = record before { input = shelf }

    -- the files joined are what the shelf has to give
    decoded : (status : Status) → Finished (of_bytes (planned_work decoding ImageAndReport format)) status (as_source begun) (as_source after)
        → Finished (known ends_over_shelf ends_over_shelf (OfFolder format folder)) status before after
    decoded status done = record {
      outcome = done.outcome;
      gives = λ files told there.
          let left : LeavesWanted (Some files) folder format (Ok None) before.input.seen.told.left shelf.seen.told.left =
          subst (λ (t : Option (List File)). LeavesWanted t folder format (Ok None) before.input.seen.told.left shelf.seen.told.left) told began.left in
          let whole : joined files folder format ≡ done.gives.taken ++ done.gives.later = (done.gives.input (joined files folder format) left).0 in
          let given = subst (λ (x : List ℕ). (planned_work decoding ImageAndReport format).gives x done.outcome) (sym whole) done.gives.gives in
          of_streams laws (joined files folder format) done.outcome decoding ImageAndReport format (way_asked Once tt) given.0 given.1 given.2;
      status_is = done.status_is;
      image_got = done.image_got;
      notes_got = done.notes_got;
    }

    over : (inner : Status) → inner ≢ Memory → Does (of_bytes (planned_work decoding ImageAndReport format)) inner (as_source begun) (as_source after) → Promised (over_shelf inner)
    over AllGood enough did = record { answer = tt; says = decoded AllGood did.says; keeps = tt }
    over NotAllGood enough did = record { answer = tt; says = decoded NotAllGood did.says; keeps = tt }
    over Refused enough did = record { answer = tt; says = decoded Refused did.says; keeps = tt }
    over Usage enough did = absurd did.answer
    over ReadFault enough did = record { answer = tt; says = (inr tt, omega (arith, began.later, did.says.1)); keeps = tt }
    over ImageFault enough did = record { answer = tt; says = (tt, did.says.1); keeps = tt }
    over NotesFault enough did = record { answer = tt; says = (tt, did.says.1); keeps = tt }
    over Memory enough did = absurd (enough refl)
    over ShelfFault enough did = absurd did.answer

  -- a file is missing: then nothing is promised of the outcome
  module _ (number : ℕ) (shelf : InputMoment H ShelfNow) (began : Began folder format (Ok (Some number)) before.input shelf) where
    lacks : (files : List File) → before.input.seen.told.files ≡ Some files → first_missing files folder format ≡ None → ⊥
    lacks files told there =
        let names_it : NamesMissing (Some files) folder format (Ok (Some number)) =
        subst (λ (t : Option (List File)). NamesMissing t folder format (Ok (Some number))) told began.missing in
        some_none number (names_it ∙ there)

    missing : (status : Status) → RefusesMissing format number status (record before { input = shelf }) after → Promised status
    missing Refused did = record {
      answer = tt;
      says = record {
        outcome = record { status = Refused; image = []; notes = missing_text number did.track };
        gives = λ files told there. absurd (lacks files told there);
        status_is = refl;
        image_got = same-nothing before.image.bytes after.image.bytes (ap (λ (o : Outside H ShelfNow W N). o.image.bytes) did.untouched);
        notes_got = did.says;
      };
      keeps = tt;
    }
    missing NotesFault did = record { answer = tt; says = (tt, did.says.1); keeps = tt }
    missing AllGood did = absurd did.says
    missing NotAllGood did = absurd did.says
    missing Usage did = absurd did.says
    missing ReadFault did = absurd did.says
    missing ImageFault did = absurd did.says
    missing Memory did = absurd did.says
    missing ShelfFault did = absurd did.says

  by_answer : (status : Status) (answer : Result (Option ℕ) Failed) (shelf : InputMoment H ShelfNow) → Began folder format answer before.input shelf
      → DidBy format answer status (record before { input = shelf }) after → Promised status
  by_answer status (Err failed) shelf began did =
      let rose : Rose before.input.counts.faults after.input.counts.faults =
      subst (λ (o : Outside H ShelfNow W N). Rose before.input.counts.faults o.input.counts.faults) (sym did.1) began.cause in
      subst Promised (sym did.0) (record { answer = tt; says = (inr tt, rose); keeps = tt })
  by_answer status (Ok (Some number)) shelf began did = missing number shelf began status did
  by_answer status (Ok None) shelf began did = subst Promised (sym did.status_is) (over shelf began did.inner did.enough did.does)

  pub folder-known : (status : Status) → DoesFolder format folder status before after → Promised status
  folder-known status (inl memory) = subst Promised (sym memory.0) (record { answer = tt; says = memory.1; keeps = tt })
  folder-known status (inr did) = by_answer status did.answer did.shelf did.began did.did

-- of streams, by what is shown of the disk
of_shown : Laws → (x : List ℕ) (o : Outcome) (plan : Plan) (output : Output) (format : Format) → IsAsked plan → (planned_work plan output format).gives x o → OfShown plan output format x o
of_shown laws x o plan ImageAndReport format asked given = of_streams laws x o plan ImageAndReport format asked given.0 given.1 given.2
of_shown laws x o plan ReportAlone format asked given = of_streams laws x o plan ReportAlone format asked given.0 given.1 given.2
of_shown laws x o plan Picture format asked given = tt

module _ (laws : Laws) (dump_laws : DumpLaws) {S W N H M : Type 0} (status : Status) (before after : World S W N H M) where
  -- what a command's row says is as expected
  expected : (asked : Asked) → Keeps asked → DoesRow (row_of asked) status before after → Expected asked status before after
  expected (some_streams asked) keeps did =
      known-bytes (planned_work (plan_of asked.way) asked.output asked.format) (OfShown (plan_of asked.way) asked.output asked.format)
      (λ x o gives. of_shown laws x o (plan_of asked.way) asked.output asked.format (way_asked asked.way keeps) gives) (on_source before) (on_source after) status did.0
  expected (a_folder format folder) keeps did = folder-known laws format folder (on_shelf before) (on_shelf after) status did.0
  expected (some_dumps asked) keeps did =
      let disk = asked_disk asked in
      known-of (noted_work disk.dumps (read_work asked.shown disk)) by_sinks (OfNoted disk.dumps (OfRead asked.shown disk)) (on_shelf before) (on_shelf after)
      (λ o is. record {
        mid = is.mid;
        noted = is.noted;
        noted_are = is.noted_are;
        own = is.own;
        gives = of_read dump_laws asked.shown disk (omega (arith, keeps.most)) is.mid after.shelf.seen is.own is.gives;
        is = is.is;
      })
      (λ fault image notes ends cut. cut_noted asked.shown disk before.shelf.seen after.shelf.seen fault image notes cut) status did.0
  expected (an_image_of_g64 disk) keeps did =
      known-bytes (from_g64_work (format_of disk)) (OfFile (format_of disk)) (λ x o gives. of_g64 laws x o disk gives.0 gives.1 gives.2) (on_source before) (on_source after) status did.0
  expected (a_trial format seed) keeps did =
      known-bytes (trial_work format seed) (λ x. OfTrial format seed) (λ x o gives. of_trial laws x o format seed gives.0 gives.1 gives.2) (on_source before) (on_source after) status did.0
  expected the_turns keeps did = tt
  expected (a_sector asked) keeps did = tt
  expected (an_identity dump) keeps did = tt
  expected (told_files dump) keeps did = tt
  expected (an_imd_file asked) keeps did = tt
  expected (an_archive asked) keeps did = tt
  expected (written_streams format) keeps did = tt
  expected (written_files format folder) keeps did = of_files laws.written laws.written_read format folder keeps before after status did.0
  expected (split_streams folder heads) keeps did = of_split laws.joined folder heads before after status did.0
  expected (unpacked_file file folder) keeps did = tt
  expected (a_g64_file disk) keeps did = tt
  expected (a_page page) keeps did = tt

  pub promised : (words : List (List ℕ)) → Ran words status before after → Promises words status before after
  promised words ran asked are =
      expected asked (asked_keeps words asked are)
      (subst (λ (a : Option Asked). DoesRow (row_for words a) status before after) (asked_is laws.once words asked ran.asked are ran.asks) ran.did)
