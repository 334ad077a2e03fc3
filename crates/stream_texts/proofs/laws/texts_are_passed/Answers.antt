use Rattle.stream_texts.proofs.Texts.{is_behind}
use Rattle.stream_texts.proofs.laws.texts_are_passed.Goals as goal

pub returns : goal.returns
returns c text x short none room = is_behind c.growth_law.ensures.streams text x short none room
