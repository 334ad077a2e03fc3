use Rattle.law_stated_disks.proofs.Disks.{are_captured, are_erased, are_stated, are_stated_erased}
use Rattle.law_stated_disks.proofs.laws.disks_are_as_stated.Goals as goal

pub returns : goal.returns
returns c =
    let joined = c.streams_are_joined_as_stated.ensures in
    let lie = c.sectors_lie_as_stated.ensures in
    let law = c.captures_are_as_stated.ensures in
    let names = c.sectors_lie_in_images.ensures.numbers in
    let keep = c.tracks_keep_bounds.ensures.bounds in
    record {
      captured = are_captured joined law.steady law.captures;
      no_other_captured = are_stated joined law.steady law.no_other_captures;
      erased = are_erased joined law.steady lie law.erased;
      no_other_erased = are_stated_erased joined law.steady lie names keep law.no_other_erased;
    }
