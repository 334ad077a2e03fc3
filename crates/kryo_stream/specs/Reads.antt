-- When a source is read: where what was taken before leaves a question open.
use Rattle.std.specs.Prelude.{ℕ, List, Option}
use Rattle.flux_base.specs.declared.outside.Source.{Ghosts}

-- what contracts see of a source at one moment: the bytes still to come and what each read so far
-- gave, where it tells them, and its count of faults
pub record SourceMoment : Type 0 where
  pub left : Option (List ℕ)
  pub given : Option (List (List ℕ))
  pub faults : ℕ

abbrev pub reads_at : {S : Type 0} → Ghosts S → S → SourceMoment
reads_at members source =
    record {
      left = members.left source;
      given = members.given source;
      faults = members.faults source;
    }
