use Rattle.law_stated_dumps.proofs.Dumps.{CaptureLaws, passed, steady, whole}
use Rattle.law_stated_dumps.proofs.Files.{files_are, streams_are}
use Rattle.law_stated_dumps.proofs.laws.dumps_are_as_stated.Goals as goal

pub returns : goal.returns
returns c =
    let law = c.captures_are_as_stated.ensures in
    let laws : CaptureLaws = record {
      captures = law.captures;
      no_others = law.no_other_captures;
      erased = law.erased;
      no_other_erased = law.no_other_erased;
      steady = law.steady;
      lie = c.sectors_lie_as_stated.ensures;
      names = c.sectors_lie_in_images.ensures.numbers;
      keep = c.tracks_keep_bounds.ensures.bounds;
      scp = c.files_name_dumps.ensures.scp;
    } in
    record {
      files = files_are laws.scp;
      streams = streams_are laws.scp;
      whole = whole laws;
      passed = passed laws.scp;
      steady = steady laws;
    }
