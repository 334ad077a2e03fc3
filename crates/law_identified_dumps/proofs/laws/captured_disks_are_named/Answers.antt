use Rattle.law_identified_dumps.proofs.Named.{named}
use Rattle.law_identified_dumps.proofs.laws.captured_disks_are_named.Goals as goal

pub returns : goal.returns
returns c dump files start now o is numbers disk image known none none_again made stepped whole captured =
    named c.captured_disks_are_found.ensures.found c.captured_dumps_are_called_good.ensures c.tracks_keep_bounds.ensures.some dump files start now o is numbers disk image known none none_again made stepped whole captured
