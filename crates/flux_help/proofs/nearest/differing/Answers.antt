use Rattle.std.proofs.Common.{refl}
use Rattle.flux_help.proofs.nearest.differing.Goals as goal

pub returns : goal.returns
returns c =
    rw (c.saturating_sub.ensures, c.saturating_sub-2.ensures, c.shared-shared.ensures, c.as_bytes-name.ensures.value, c.as_str.ensures.value, c.word-own.ensures) refl
