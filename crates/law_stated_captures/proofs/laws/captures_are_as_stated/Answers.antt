use Rattle.law_stated_captures.proofs.Streams.{captures, erased, no_other_captures, no_other_erased, speeds_are_kept}
use Rattle.law_stated_captures.proofs.Times.{times_are_carried}
use Rattle.law_stated_captures.proofs.laws.captures_are_as_stated.Goals as goal

pub returns : goal.returns
returns c = record {
  times = times_are_carried;
  captures = captures;
  no_other_captures = no_other_captures;
  erased = erased;
  no_other_erased = no_other_erased;
  steady = speeds_are_kept;
}
