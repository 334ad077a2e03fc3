use Rattle.std.proofs.Common.{◌≡◌, Bool, List, ap, ◌∙◌}
use Rattle.turn_merge.specs.Others.{MOST_TOLD, has_untold, others_over}
use Rattle.turn_merge.specs.declared.others.OtherTold.{OtherTold}
use Rattle.flux_engine.specs.Counts.{names_of, whole_names_of}
use Rattle.flux_engine.proofs.LoopSteps.{told_all}
use Rattle.flux_engine.proofs.track_tally.tally_of.Goals as goal

pub returns-clause-counted : goal.returns-clause-counted
returns-clause-counted c = λ all stands. record {
  told = c.name_count.ensures.count ∙ ap (λ (ts : List OtherTold). names_of ts c.args.others.now.untold) (told_all c.args.others.now all stands)
      ∙ ap (λ (b : Bool). names_of (others_over all) b) stands.untold;
  whole = c.whole_name_count.ensures.count ∙ ap (λ (ts : List OtherTold). whole_names_of ts c.args.others.now.untold) (told_all c.args.others.now all stands)
      ∙ ap (λ (b : Bool). whole_names_of (others_over all) b) stands.untold;
}
