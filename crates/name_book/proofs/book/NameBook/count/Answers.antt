use Rattle.std.proofs.Common.{◌∙◌}
use Rattle.name_book.proofs.Keeping.{count_is}
use Rattle.name_book.proofs.book.NameBook.count.Goals as goal

pub returns : goal.returns
returns c = c.len.ensures ∙ c.self.inside.entries.ok.0 ∙ count_is c.self.inside.entries.items c.self.inside.held.items c.self.inside.more c.args.self.now c.self.view_is
