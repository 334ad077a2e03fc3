use Rattle.law_stated_tables.proofs.Named.{gaps_are_stated, names_are_stated}
use Rattle.law_stated_tables.proofs.laws.names_are_stated.Goals as goal

pub returns-clause-numbers : goal.returns-clause-numbers
returns-clause-numbers c = names_are_stated

pub returns-clause-gaps : goal.returns-clause-gaps
returns-clause-gaps c = gaps_are_stated
