-- What reading a dump as each disk comes to, and which disk is the best.
use Rattle.std.specs.Prelude.{◌≡◌, ◌<◌, ◌&&◌, ◌||◌, ◌*◌, if◌then◌else◌, ℕ, Bool, false, not}
use Rattle.std.specs.Prelude.{get_or, length, nat_eq, nat_lt, List, find, Option, Some, None}
use Rattle.std.specs.List.{list_all}
use Rattle.std.specs.Option.{is_some}
use Rattle.sector_images.specs.Formats.{row}
use Rattle.track_shelf.specs.Files.{File}
use Rattle.flux_engine.specs.LoopProgress.{lost_count}
use Rattle.flux_engine.specs.Plans.{Seen}
use Rattle.told_disks.specs.declared.foreign.ForeignDisk.{ForeignDisk}
use Rattle.dump_reading.specs.Outcomes.{DumpDisk, IsToldEmpty}
use Rattle.dump_reading.specs.Totals.{is_complete as are_complete}
use Rattle.dump_reading.specs.declared.totals.DumpTotals.{DumpTotals}
use Rattle.dump_tallies.specs.Numbers.{AreNumbersOf, disk_of}
use Rattle.dump_identity.specs.declared.candidate.Candidate.{Candidate}
use Rattle.dump_identity.specs.declared.finding.Finding.{Finding}
use Rattle.dump_identity.specs.declared.identity.Identity.{Identity}

-- a dump as a candidate's disk
abbrev pub disk_as : (dump : List ℕ) → Candidate → DumpDisk
disk_as dump candidate = disk_of dump candidate.stepping candidate.format

-- It has the file of one of the disk's tracks, and these are the numbers of reading it as the disk,
-- by what came of its files.
pub record CameTo (dump : List ℕ) (told : Option (List File)) (came : List Seen)
    (candidate : Candidate) (totals : DumpTotals) : Type 0 where
  pub some : IsToldEmpty (disk_as dump candidate) told None
  pub numbers : AreNumbersOf dump told came candidate.stepping candidate.format totals

-- it has the file of none of the disk's tracks
abbrev pub IsEmptyAs : (dump : List ℕ) → (told : Option (List File)) → Candidate → Type 0
IsEmptyAs dump told candidate = IsToldEmpty (disk_as dump candidate) told (Some 0)

-- what it comes to
abbrev pub ComesTo : (dump : List ℕ) → (told : Option (List File)) → (came : List Seen) → Candidate
    → Option DumpTotals → Type 0
ComesTo dump told came candidate None = IsEmptyAs dump told candidate
ComesTo dump told came candidate (Some totals) = CameTo dump told came candidate totals

-- what each of some candidates comes to, by what came of the files in the reading of the one of
-- each number
abbrev pub AreFindings : (dump : List ℕ) → (told : Option (List File)) → (came : ℕ → List Seen)
    → List Finding → Type 0
AreFindings dump told came findings = (k : ℕ) (f : Finding) → k < length findings
    → let here = get_or findings k f in ComesTo dump told (came k) here.candidate here.totals

-- how many sectors are good, and how many other names have whole data
abbrev pub good_in : Option DumpTotals → ℕ
good_in None = 0
good_in (Some totals) = totals.sectors.good

abbrev pub whole_in : Option DumpTotals → ℕ
whole_in None = 0
whole_in (Some totals) = totals.whole

-- how many bytes the good ones have
abbrev pub bytes_in : Finding → ℕ
bytes_in f = good_in f.totals * (row f.candidate.format).sector_size

-- how many sectors the disk has
abbrev pub sectors_in : Option DumpTotals → ℕ
sectors_in None = 0
sectors_in (Some totals) = totals.sectors.sectors

abbrev pub has_files : Finding → Bool
has_files f = is_some f.totals

-- a sector is good
abbrev pub has_good : Finding → Bool
has_good f = nat_lt 0 (good_in f.totals)

-- more bytes are good; or as many, and fewer others have data; or that too, and the disk has fewer
-- sectors
abbrev pub is_over : (bytes whole sectors bytes' whole' sectors' : ℕ) → Bool
is_over bytes whole sectors bytes' whole' sectors' =
    if nat_eq bytes bytes'
    then (if nat_eq whole whole' then nat_lt sectors sectors' else nat_lt whole whole')
    else nat_lt bytes' bytes

abbrev pub beats : Finding → Finding → Bool
beats f g =
    is_over (bytes_in f) (whole_in f.totals) (sectors_in f.totals) (bytes_in g) (whole_in g.totals)
    (sectors_in g.totals)

-- a sector is good, and none of these is better
abbrev pub is_unbeaten : List Finding → Finding → Bool
is_unbeaten findings f = has_good f && list_all (λ g. not (beats g f)) findings

-- the best: the first of those that have a good sector and than which none is better
unfoldable pub best_of : List Finding → Option Finding
best_of findings = find (is_unbeaten findings) findings

-- every sector is good, and no other name has data
abbrev pub complete_in : Option DumpTotals → Bool
complete_in None = false
complete_in (Some totals) = are_complete totals

abbrev pub is_complete : Finding → Bool
is_complete f = complete_in f.totals

-- what is known of the dump by these readings: the best of some candidates, whether a file failed,
-- and whether headers name other heads than the drive's
abbrev pub identity_of : (came again : List Seen) → List Finding → List ForeignDisk → Identity
identity_of came again findings foreign =
    record {
      best = best_of findings;
      failed = nat_lt 0 (lost_count came) || nat_lt 0 (lost_count again);
      foreign = not (nat_eq (length foreign) 0);
    }
