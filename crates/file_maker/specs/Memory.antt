-- A maker of files in memory, and a file of it: what lies there, and what was counted.
use Rattle.std.specs.Prelude.{ℕ, List, Some}
use Rattle.flux_base.specs.Counts.{FaultCounts}
use Rattle.file_maker.specs.Made.{Made}

pub record MakerState : Type 0 where
  pub made : Made
  -- the number of calls so far
  pub calls : ℕ
  -- how many of them failed
  pub faults : ℕ

pub record FileState : Type 0 where
  -- the bytes that were written to it
  pub written : List ℕ
  -- the number of calls so far, of the maker and of its files
  pub calls : ℕ
  -- how many of the file's failed
  pub faults : ℕ

-- the counts of an object that tells how often it failed
abbrev pub told_counts : (faults : ℕ) → FaultCounts
told_counts faults = record { faults = faults; failed = Some faults }
