use Rattle.std.proofs.Common.{sym}
use Rattle.sector_images.proofs.Computed.{size_is_sum, sum_before}
use Rattle.sector_images.proofs.laws.tracks_fill_images.Goals as goal

pub returns-clause-joined : goal.returns-clause-joined
returns-clause-joined c format number track found = sum_before format track number found

pub returns-clause-filled : goal.returns-clause-filled
returns-clause-filled c format = sym (size_is_sum format)
