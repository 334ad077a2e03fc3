use Rattle.std.proofs.Common.{◌∙◌, ap, sym}
use Rattle.name_book.specs.Book.{kind_of}
use Rattle.name_book.specs.inside.Kept.{part}
use Rattle.name_book.proofs.Keeping.{number_below, told_read}
use Rattle.name_book.proofs.book.NameBook.kind.Goals as goal

pub index-requires : goal.index-requires
index-requires c =
    number_below c.self.inside.entries.items c.self.inside.held.items c.self.inside.more c.args.self.now c.self.view_is
    c.args.number c.from.result c.self.inside.entries.len c.requires c.from.ensures (c.self.inside.entries.ok.0)

pub returns : goal.returns
returns c =
    c.kind.ensures (part c.self.inside.held.items c.from.result)
    ∙ ap kind_of
    (sym (told_read c.self.inside.entries.items c.self.inside.held.items c.self.inside.more c.args.self.now c.self.view_is
    c.args.number c.from.result c.index.result.now c.requires c.from.ensures c.index.ensures))
