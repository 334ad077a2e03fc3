use Rattle.std.proofs.Common.{sym, subst}
use Rattle.turn_merge.specs.Book.{Knowledge}
use Rattle.turn_merge.specs.Others.{OthersKnown}
use Rattle.flux_engine.specs.Room.{IsBookOf, IsStarted, empty_book}
use Rattle.flux_engine.proofs.FormatBooks.{fresh-from, is-book, is-started}
use Rattle.flux_engine.proofs.Noting.{no_others_is}
use Rattle.flux_engine.proofs.room.DiskRoom.begin_format.Goals as goal

pub invariant_of-self : goal.invariant_of-self
invariant_of-self c = (
  record { for_cells = c.self.invariant.0.for_cells; for_book = subst (IsBookOf c.args.format) (sym c.requires) (is-book c.tracks_keep_bounds.ensures.some c.tracks_keep_bounds.ensures.bounds c.args.format) },
  subst (λ (b : Knowledge). IsStarted c.args.format 0 0 b c.clear-2.new.self) (sym c.requires)
      (subst (λ (o : OthersKnown). IsStarted c.args.format 0 0 (empty_book c.args.format) o) (sym (no_others_is c.clear-2.new.self c.clear-2.ensures)) (is-started c.tracks_keep_bounds.ensures.some c.args.format)),
)

pub returns : goal.returns
returns c =
    fresh-from c.args.format _ _ c.args.book _ c.clear-2.new.self c.restart.ensures.held c.restart.ensures.unused c.requires c.clear.ensures
    (no_others_is c.clear-2.new.self c.clear-2.ensures)
