-- What is taken for a candidate before the dump is read.
use Rattle.dump_tallies.specs.Tallies.{TalliedDisk, no_tallies}
use Rattle.dump_identity.specs.declared.candidate.Candidate.{Candidate}

-- the disk, of which no file came
abbrev pub trial_of : Candidate → TalliedDisk
trial_of candidate = no_tallies candidate.stepping candidate.format
