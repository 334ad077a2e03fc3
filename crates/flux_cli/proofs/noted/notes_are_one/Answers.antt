use Rattle.flux_cli.proofs.NotedOne.{notes-one}
use Rattle.flux_cli.proofs.noted.notes_are_one.Goals as goal

pub returns : goal.returns
returns c = notes-one
