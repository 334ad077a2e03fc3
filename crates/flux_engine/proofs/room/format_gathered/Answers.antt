use Rattle.std.proofs.Common.{subst, sym}
use Rattle.flux_engine.specs.Room.{IsBookOf, IsStarted, empty_book}
use Rattle.flux_engine.proofs.FormatBooks.{is-book, is-started}
use Rattle.flux_engine.proofs.Noting.{no_others_is}
use Rattle.turn_merge.specs.Book.{Knowledge}
use Rattle.turn_merge.specs.Others.{OthersKnown}
use Rattle.flux_engine.proofs.room.format_gathered.Goals as goal

pub returns-clause-book : goal.returns-clause-book
returns-clause-book c = subst (IsBookOf c.args.format) (sym c.in_ok-book.ensures) (is-book c.tracks_keep_bounds.ensures.some c.tracks_keep_bounds.ensures.bounds c.args.format)

pub returns-clause-started : goal.returns-clause-started
returns-clause-started c =
    subst (λ (b : Knowledge). IsStarted c.args.format 0 0 b c.in_ok-others.others) (sym c.in_ok-book.ensures)
    (subst (λ (o : OthersKnown). IsStarted c.args.format 0 0 (empty_book c.args.format) o) (sym (no_others_is c.in_ok-others.others c.in_ok-others.ensures)) (is-started c.tracks_keep_bounds.ensures.some c.args.format))

pub returns-clause-no_others : goal.returns-clause-no_others
returns-clause-no_others c = no_others_is c.in_ok-others.others c.in_ok-others.ensures
