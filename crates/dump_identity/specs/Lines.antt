-- What is said of the disks that a dump may be of.
use Rattle.std.specs.Prelude.{if◌then◌else◌, ℕ, List, [], ◌++◌, codes, decimal, flat_map, nat_lt}
use Rattle.std.specs.Prelude.{Option, Some, None}
use Rattle.sector_images.specs.Formats.{row}
use Rattle.track_shelf.specs.declared.stepping.Stepping.{Stepping}
use Rattle.track_shelf.specs.declared.stepping.Stepping.TheVariants.{Single, Double}
use Rattle.dump_reading.specs.declared.totals.DumpTotals.{DumpTotals}
use Rattle.told_disks.specs.declared.foreign.ForeignDisk.{ForeignDisk}
use Rattle.told_disks.specs.declared.heads.NamedHeads.{NamedHeads}
use Rattle.told_disks.specs.declared.heads.NamedHeads.TheVariants.{Changed, First, Own}
use Rattle.dump_identity.specs.Candidates.{by_numbers}
use Rattle.dump_identity.specs.Findings.{has_good}
use Rattle.dump_identity.specs.declared.candidate.Candidate.{Candidate}
use Rattle.dump_identity.specs.declared.finding.Finding.{Finding}

-- the word of the steps, with a blank behind it
abbrev pub stepping_text : Stepping → List ℕ
stepping_text Single = []
stepping_text Double = codes "--double-step "

-- the words for a candidate, as they stand behind `read`
unfoldable pub candidate_text : Candidate → List ℕ
candidate_text candidate = stepping_text candidate.stepping ++ (row candidate.format).word

-- how many files failed, where one did
abbrev pub failed_text : ℕ → List ℕ
failed_text lost = if nat_lt 0 lost then codes " failed " ++ decimal lost else []

-- how many of a candidate's sectors are good, how many other names have whole
-- data, and how many files failed
unfoldable pub finding_text : Candidate → DumpTotals → List ℕ
finding_text candidate totals =
    candidate_text candidate ++ (codes " good " ++ decimal totals.sectors.good)
    ++ (codes " of " ++ decimal totals.sectors.sectors)
    ++ (codes " other " ++ decimal totals.whole) ++ failed_text totals.lost ++ codes "\n"

-- the line of one that has a good sector
abbrev pub line_in : Candidate → Option DumpTotals → List ℕ
line_in candidate None = []
line_in candidate (Some totals) = finding_text candidate totals

abbrev pub line_of : Finding → List ℕ
line_of f = if has_good f then line_in f.candidate f.totals else []

abbrev pub lines_of : List Finding → List ℕ
lines_of findings = flat_map line_of findings

-- the last line: the words for the best, if there is one
unfoldable pub best_text : Option Finding → List ℕ
best_text None = codes "best none\n"
best_text (Some f) = codes "best " ++ candidate_text f.candidate ++ codes "\n"

-- the heads that a disk's headers name on those of the drive
abbrev pub heads_text : NamedHeads → List ℕ
heads_text Own = codes "0 1"
heads_text First = codes "0"
heads_text Changed = codes "1 0"

-- the line of a disk whose headers name other heads than the drive's, which is not read
unfoldable pub foreign_text : ForeignDisk → List ℕ
foreign_text disk =
    candidate_text (by_numbers disk.disk) ++ codes " names head " ++ heads_text disk.heads
    ++ codes "\n"

-- the lines behind those of the disks that were read
abbrev pub end_text : List ForeignDisk → Option Finding → List ℕ
end_text foreign best = flat_map foreign_text foreign ++ best_text best
