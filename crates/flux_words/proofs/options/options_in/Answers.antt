use Rattle.flux_words.specs.OptionWords.{plain}
use Rattle.flux_words.proofs.OptionWords.{none-more, one-less, one-more}
use Rattle.flux_words.proofs.options.options_in.Goals as goal

pub loop-more-preserved : goal.loop-more-preserved
loop-more-preserved c = (
  one-more c.loop-more.invariant.0.0 plain _ _ _ _ _ c.loop-more.invariant.0.1 c.in-Some.ensures,
  λ others later past stand. one-less _ _ others _ _ later past c.in-Some.ensures (c.loop-more.invariant.1 others later past stand),
)

pub returns-clause-all : goal.returns-clause-all
returns-clause-all c = λ others later past stand.
    none-more _ others _ later (λ next rest is. c.in_default.ensures (next, rest) is) (c.loop-more.invariant.1 others later past stand)
