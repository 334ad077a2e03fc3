use Rattle.std.proofs.Common.{◌≤◌, ◌+◌, arith, length, subst}
use Rattle.dump_reading.specs.Files.{shelf_at}
use Rattle.dump_turns.specs.Reaches.{track_number}
use Rattle.flux_base.specs.declared.track.TrackId.{TrackId}
use Rattle.imd_image.specs.Reaches.{of_reach}
use Rattle.imd_image.specs.inside.Finding.{HasNotedFile}
use Rattle.imd_image.proofs.Counting.{rows_known}
use Rattle.imd_image.proofs.Founds.{files-more}
use Rattle.imd_image.proofs.finding.find_track.Goals as goal

pub loop-dump-preserved : goal.loop-dump-preserved
loop-dump-preserved g c =
    let stepping = c.args.dumps.now.stepping in
    let names = c.args.dumps.now.names.now in
    let mid = shelf_at g.H.Source g.H.Shelf c.loop-dump.shelf in
    let now = shelf_at g.H.Source g.H.Shelf c.note_file.new.shelf in
    let books = c.loop-dump.room.books in
    let later = c.note_file.new.books in
    let passed = c.loop-dump.room.passed.items in
    let passed' = c.note_file.new.passed.items in record {
      noted = files-more (of_reach stepping names c.args.reach) (track_number c.args.reach c.args.number) c.loop-dump.dump c.loop-dump-test.true
          (shelf_at g.H.Source g.H.Shelf c.args.shelf.now) mid now books later passed passed' c.loop-dump.invariant.noted
          (subst (λ (t : TrackId). HasNotedFile stepping names t c.loop-dump.dump mid now books later passed passed') c.track_of-track.ensures.is c.note_file.ensures.noted);
      few = (let before = c.loop-dump.invariant.few in let one = c.note_file.ensures.few in omega (arith, before, one));
      track = c.loop-dump.invariant.track;
    }

pub returns-clause-rows : goal.returns-clause-rows
returns-clause-rows g c = record { known = rows_known _ _ _ (rw c.book.ensures at c.fill_rows.ensures); code = c.choose-room.ensures.code }
