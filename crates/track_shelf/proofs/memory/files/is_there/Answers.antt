use Rattle.std.proofs.Common.{ap, ◌∙◌}
use Rattle.std.specs.Option.{is_some}
use Rattle.track_shelf.specs.Files.{has_path}
use Rattle.track_shelf.proofs.Finding.{is_some-place}
use Rattle.track_shelf.proofs.memory.files.is_there.Goals as goal

pub returns : goal.returns
returns c = c.is_some.ensures ∙ ap is_some c.place_at.ensures ∙ is_some-place (has_path c.args.path.now) 0 c.args.files.now
