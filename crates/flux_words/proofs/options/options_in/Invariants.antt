use Rattle.std.proofs.Common.{ℕ, List, length}
use Rattle.flux_words.specs.OptionWords.{StandBefore, plain}
use Rattle.flux_words.specs.inside.OptionWords.{IsPast}
use Rattle.flux_words.specs.declared.options.Options.{Options}
use Rattle.flux_words.proofs.options.options_in.Given as goal

abbrev pub invariant-loop-more : goal.invariant-loop-more
invariant-loop-more l =
    StandBefore plain l.options l.words l.rest
    × ((others : Options) (later : List (List ℕ)) → IsPast later → StandBefore plain others l.words later → StandBefore l.options others l.rest later)

abbrev pub decreases-loop-more : goal.decreases-loop-more
decreases-loop-more l = length l.rest
