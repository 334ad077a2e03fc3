use Rattle.std.proofs.Common.{◌≡◌, ◌<◌, ◌+◌, ◌*◌, ◌++◌, ◌∷◌, ◌∙◌, [], ℕ, ap, arith, length, length-append, refl, subst, sym}
use Rattle.std.proofs.KnownBytes.{Appends-nil}
use Rattle.dump_reading.specs.Files.{shelf_at}
use Rattle.dump_turns.specs.Reaches.{count_in}
use Rattle.flux_base.specs.Blames.{no_one}
use Rattle.flux_base.specs.World.{sinks_counts}
use Rattle.flux_base.specs.lemmas.Blaming.{CountsBy-none, CountsBy-then}
use Rattle.imd_image.specs.Found.{file_part}
use Rattle.imd_image.specs.Lines.{lines_part}
use Rattle.imd_image.specs.Outcomes.{DumpsAsked}
use Rattle.imd_image.specs.Totals.{totals_of}
use Rattle.imd_image.specs.declared.totals.ImdTotals.{ImdTotals}
use Rattle.imd_image.specs.inside.Counted.{AreWithin, plus, totals_in}
use Rattle.imd_image.specs.inside.Finding.{found_in}
use Rattle.imd_image.proofs.Counting.{totals-more}
use Rattle.imd_image.proofs.Founds.{founds-more, founds-none, pieces-push}
use Rattle.imd_image.proofs.Tellings.{track-cut}
use Rattle.imd_image.proofs.writing.write_tracks.Goals as goal

pub loop-number-init : goal.loop-number-init
loop-number-init g c =
    let asked : DumpsAsked = record { stepping = c.args.dumps.now.stepping; names = c.args.dumps.now.names.now } in record {
      founds = [];
      many = refl;
      wrote = record {
        have = founds-none asked (shelf_at g.H.Source g.H.Shelf c.args.shelf.now) c.args.reach;
        file_is = Appends-nil (g.W.Sink.written c.args.file.now);
        notes_are = Appends-nil (g.N.Sink.written c.args.notes.now);
      };
      totals_are = c.none-totals.ensures.is;
      few = c.none-totals.ensures.few;
      counts = CountsBy-none (sinks_counts g.W.Sink g.N.Sink c.args.file.now c.args.notes.now);
    }

pub returns-in-Err-clause-told : goal.returns-in-Err-clause-told
returns-in-Err-clause-told g c =
    let asked : DumpsAsked = record { stepping = c.args.dumps.now.stepping; names = c.args.dumps.now.names.now } in
    let inv = c.loop-number.invariant in
    let start = shelf_at g.H.Source g.H.Shelf c.args.shelf.now in
    let mid = shelf_at g.H.Source g.H.Shelf c.loop-number.shelf in
    let now = shelf_at g.H.Source g.H.Shelf c.find_track.new.shelf in
    let found = found_in c.find_track.new.room in
    let few : length inv.founds < count_in c.args.reach = (let many = inv.many in omega (arith, many, c.loop-number-test.true, c.count_of-number-end.ensures.is)) in
    track-cut asked start c.args.reach mid now (g.W.Sink.written c.args.file.now) (g.W.Sink.written c.loop-number.file) (g.W.Sink.written c.write_track.new.file)
    (g.N.Sink.written c.args.notes.now) (g.N.Sink.written c.loop-number.notes) (g.N.Sink.written c.write_track.new.notes) inv.founds found inv.wrote few
    (founds-more asked start c.args.reach mid now inv.founds found inv.wrote.have c.loop-number.number inv.many c.find_track.ensures.found) c.in-Err.stopped c.in-Err.ensures.wrote

pub loop-number-preserved : goal.loop-number-preserved
loop-number-preserved g c =
    let asked : DumpsAsked = record { stepping = c.args.dumps.now.stepping; names = c.args.dumps.now.names.now } in
    let inv = c.loop-number.invariant in
    let start = shelf_at g.H.Source g.H.Shelf c.args.shelf.now in
    let mid = shelf_at g.H.Source g.H.Shelf c.loop-number.shelf in
    let now = shelf_at g.H.Source g.H.Shelf c.find_track.new.shelf in
    let found = found_in c.find_track.new.room in
    let number = c.loop-number.number in
    let most : 1024 * number + 1024 ≡ 1024 * (number + 1) = omega arith in record {
      founds = inv.founds ++ found ∷ [];
      many = length-append inv.founds (found ∷ []) ∙ ap (λ (n : ℕ). n + 1) inv.many;
      wrote = record {
        have = founds-more asked start c.args.reach mid now inv.founds found inv.wrote.have number inv.many c.find_track.ensures.found;
        file_is = pieces-push file_part inv.founds found (g.W.Sink.written c.args.file.now) (g.W.Sink.written c.loop-number.file) (g.W.Sink.written c.write_track.new.file)
            inv.wrote.file_is c.in-Ok.ensures.wrote.0;
        notes_are = pieces-push (lines_part (length asked.names)) inv.founds found (g.N.Sink.written c.args.notes.now) (g.N.Sink.written c.loop-number.notes)
            (g.N.Sink.written c.write_track.new.notes) inv.wrote.notes_are c.in-Ok.ensures.wrote.1;
      };
      totals_are = c.with-totals.ensures.is ∙ ap (λ (t : ImdTotals). plus t c.tally.result) inv.totals_are ∙ ap (plus (totals_of inv.founds)) c.tally.ensures.is
          ∙ sym (totals-more inv.founds found);
      few = subst (λ (m : ℕ). AreWithin m c.with-totals.result) most (c.with-totals.ensures.few (1024 * number) inv.few);
      counts = CountsBy-then no_one inv.counts c.in-Ok.ensures.blames;
    }
