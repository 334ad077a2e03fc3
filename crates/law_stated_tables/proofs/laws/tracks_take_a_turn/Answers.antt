use Rattle.law_stated_tables.proofs.Turns.{tracks_take_a_turn}
use Rattle.law_stated_tables.proofs.laws.tracks_take_a_turn.Goals as goal

pub returns : goal.returns
returns c = tracks_take_a_turn
