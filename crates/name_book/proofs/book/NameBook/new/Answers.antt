use Rattle.std.proofs.Common.{ap, refl}
use Rattle.std.proofs.lemmas.List.Elements.{All-nil}
use Rattle.name_book.specs.Names.{names_over}
use Rattle.name_book.specs.inside.Kept.{told_from}
use Rattle.name_book.proofs.book.NameBook.new.Goals as goal

pub returns : goal.returns
unfolding names_over
returns c = record { told = ap (λ es. told_from 0 es c.in_ok-vec.field-0.items) c.in_ok-with_capacity.ensures.items; more = refl; named = All-nil _ }
