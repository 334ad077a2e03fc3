-- The captured disk is one of those that are tried, with every sector good.
use Rattle.std.proofs.Common.{◌≡◌, ◌<◌, ◌⊎◌, ◌∙◌, ℕ, Bool, true, false, List, Option, Some, None, Result, get_or, length, map, ap, sym, subst, inl, inr, arith}
use Rattle.std.specs.Prelude.{Contains, cond, nat_lt}
use Rattle.std.specs.Option.{is_some}
use Rattle.std.proofs.lemmas.List.{get_or-map, length-map}
use Rattle.std.proofs.lemmas.List.Elements.{Contains-append_right, Contains-get_or}
use Rattle.std.proofs.lemmas.List.Folds.{list_any_at}
use Rattle.std.proofs.lemmas.Option.{unwrap_or-slice_get}
use Rattle.dump_identity.specs.Candidates.{by_numbers, candidates}
use Rattle.dump_identity.specs.Findings.{ComesTo, IsEmptyAs}
use Rattle.dump_identity.specs.Outcomes.{Identified, IsIdentified, candidates_in, came_for}
use Rattle.dump_identity.specs.declared.candidate.Candidate.{Candidate}
use Rattle.dump_identity.specs.declared.finding.Finding.{Finding}
use Rattle.dump_numbers.specs.Found.{files_of}
use Rattle.dump_reading.specs.DumpStreams.{AreOfDumps}
use Rattle.dump_reading.specs.Files.{ShelfNow}
use Rattle.dump_reading.specs.Outcomes.{has_any, has_file}
use Rattle.dump_reading.specs.declared.totals.DumpTotals.{DumpTotals}
use Rattle.dump_tallies.specs.Numbers.{disk_of}
use Rattle.flux_engine.specs.LoopProgress.{lost_count}
use Rattle.flux_engine.specs.Rings.{IsImage}
use Rattle.ibm_disks.specs.Disks.{IsDiskOf}
use Rattle.ibm_disks.specs.declared.word.DiskNumbers.{DiskNumbers}
use Rattle.law_captured_dumps.specs.Inputs.{Captures}
use Rattle.law_numbered_dumps.specs.Called.{CapturedDumpsAreCalledGood}
use Rattle.law_numbered_dumps.specs.Headline.{CapturedDisksAreFound, IsFoundOrCovered}
use Rattle.law_numbered_dumps.specs.Inputs.{AreToldBy, CapturesSome, IsSteppedTo, all_tracks, on_dump}
use Rattle.sector_images.specs.Places.{FormatsHaveTracks, tracks}
use Rattle.sector_images.specs.declared.format.Format.{Format}
use Rattle.sector_images.specs.declared.format.Format.TheVariants.{Numbered}
use Rattle.told_disks.specs.Named.{is_covered}
use Rattle.told_disks.specs.declared.disks.NumberedDisk.{NumberedDisk}
use Rattle.told_disks.specs.declared.heads.NamedHeads.TheVariants.{Own}
use Rattle.scp_files.specs.declared.fault.ScpTrackFault.{ScpTrackFault}
use Rattle.track_shelf.specs.Files.{File}
use Rattle.law_identified_dumps.specs.Headline.{AreAllGood, IsCapturedAlone, IsTriedGood}

no : false ≡ true → ⊥
no e = cc

-- what a list's elements come to
map_has : {X Y : Type 0} (f : X → Y) (xs : List X) (x : X) → Contains xs x → Contains (map f xs) (f x)
map_has f xs x (k, low, same) = (k, (let long = length-map xs f in omega (arith, long, low)), get_or-map f xs k x (f x) low ∙ ap f same)

module _ (found : CapturedDisksAreFound) (good : CapturedDumpsAreCalledGood) (some : FormatsHaveTracks) (dump : List ℕ) (files : List File) (start now : ShelfNow) (o : Identified)
    (is : IsIdentified dump start now o) (numbers : DiskNumbers) (disk : NumberedDisk) (image : List ℕ) (known : start.told.files ≡ Some files) (none : lost_count is.files.came ≡ 0)
    (none_again : lost_count is.files.again ≡ 0) (made : IsDiskOf numbers disk.disk) (stepped : IsSteppedTo disk.stepping disk.disk all_tracks) (whole : IsImage (Numbered disk.disk) image)
    (captured : IsCapturedAlone dump files disk image) where
  abbrev format : Format
  format = Numbered disk.disk

  -- what the files told
  told_by : AreToldBy dump files is.files.numbers.disks.items
  told_by = record {
    came = is.files.came;
    all = (let many = is.files.many in omega (arith, many));
    of_files = subst (λ (told : Option (List File)). AreOfDumps (files_of dump) told is.files.came) known is.files.have.are;
    none_failed = none;
    told = is.files.finds.by_numbers;
  }

  abbrev on_its_dump : (n : ℕ) → Captures (disk_of dump disk.stepping format) files image n 0 → Captures (on_dump dump disk) files image n 0
  on_its_dump n c = record {
    stream = c.stream;
    begins = record { bytes = c.begins.bytes; there = c.begins.there; later = c.begins.later; is = c.begins.is };
    capture = c.capture;
  }

  captures : CapturesSome dump files disk image all_tracks
  captures = record {
    captures = λ n low yes. (let c = captured.captured n low in record { captures = on_its_dump n c.0; steady = λ shares. c.1 });
    damaged = λ track there lost. absurd (no (sym lost));
    alone = captured.alone;
  }

  -- the disk is tried
  is_tried : Contains is.files.numbers.disks.items disk → Contains (candidates_in is.findings) (by_numbers disk)
  is_tried has =
      subst (λ (cs : List Candidate). Contains cs (by_numbers disk)) (sym is.all.all)
      (Contains-append_right candidates (map by_numbers is.files.numbers.disks.items) (by_numbers disk) (map_has by_numbers is.files.numbers.disks.items disk has))

  -- none of the files failed in its reading
  none_in : (k : ℕ) → lost_count (came_for is.files k) ≡ 0
  none_in k = by (nat_lt k (length candidates))
    where
      by : (b : Bool) → lost_count (cond b is.files.came is.files.again) ≡ 0
      by true = none
      by false = none_again

  -- the dump has a file of it
  has_files : has_any disk.stepping files format dump ≡ true
  unfolding has_any
  has_files =
      let low = some format in
      let c = (captured.captured 0 low).0 in
      list_any_at (has_file disk.stepping files dump) (tracks format) 0 (record { cylinder = 0; head = 0 }) low
      (ap (has_file disk.stepping files dump) (sym (unwrap_or-slice_get (tracks format) 0 (record { cylinder = 0; head = 0 }))) ∙ ap (λ (it : Option (Result (List ℕ) ScpTrackFault)). is_some it) c.begins.there)

  totals_good : (k : ℕ) (candidate : Candidate) (totals : Option DumpTotals) → candidate ≡ by_numbers disk → ComesTo dump start.told.files (came_for is.files k) candidate totals → AreAllGood totals
  totals_good k candidate None same empty =
      absurd (no (sym (subst (λ (c : Candidate). IsEmptyAs dump start.told.files c) same empty files known).0 ∙ has_files))
  totals_good k candidate (Some totals) same came =
      let numbers_are = subst (λ (told : Option (List File)). ComesTo dump told (came_for is.files k) (by_numbers disk) (Some totals)) known
      (subst (λ (c : Candidate). ComesTo dump start.told.files (came_for is.files k) c (Some totals)) same came) in
      good dump files (came_for is.files k) disk.stepping format image totals whole captured.captured (none_in k) numbers_are.numbers

  tried_good : Contains (candidates_in is.findings) (by_numbers disk) → IsTriedGood is.findings disk
  tried_good (k, low, same) =
      let long = length-map is.findings (λ (f : Finding). f.candidate) in
      let there : k < length is.findings = omega (arith, long, low) in
      let no_finding : Finding = record { candidate = by_numbers disk; totals = None } in
      let finding : Finding = get_or is.findings k no_finding in
      let its : finding.candidate ≡ by_numbers disk = sym (get_or-map (λ (f : Finding). f.candidate) is.findings k no_finding (by_numbers disk) there) ∙ same in
      record {
        finding = finding;
        tried = Contains-get_or is.findings k no_finding there;
        candidate = its;
        good = totals_good k finding.candidate finding.totals its (is.all.are k no_finding there);
      }

  pub named : IsTriedGood is.findings disk ⊎ (is_covered Own disk.stepping numbers ≡ true)
  named = by (found dump files is.files.numbers.disks.items numbers disk image told_by made stepped whole captures)
    where
      by : IsFoundOrCovered is.files.numbers.disks.items numbers disk → IsTriedGood is.findings disk ⊎ (is_covered Own disk.stepping numbers ≡ true)
      by (inl has) = inl (tried_good (is_tried has))
      by (inr covered) = inr covered
