use Rattle.std.proofs.Common.{◌++◌, inl, inr, refl, ℕ, List, subst}
use Rattle.std.specs.Prelude.{flat_map}
use Rattle.std.proofs.KnownBytes.{Appends-trans}
use Rattle.flux_base.specs.Outside.{AppendsPart}
use Rattle.dump_reading.specs.Files.{shelf_at}
use Rattle.imd_image.specs.Found.{file_part}
use Rattle.imd_image.specs.Lines.{end_text}
use Rattle.imd_image.specs.Outcomes.{BEGIN, DumpsAsked, lines_of}
use Rattle.imd_image.specs.declared.totals.ImdTotals.{ImdTotals}
use Rattle.imd_image.proofs.Tellings.{and-part, imd-cut, reach-told}
use Rattle.imd_image.proofs.writing.write_imd.Goals as goal

pub returns-in-Err-write_whole-clause-says : goal.returns-in-Err-write_whole-clause-says
returns-in-Err-write_whole-clause-says g c =
    inl (record { now_is = refl; file_is = rw c.as_bytes.ensures.value at c.in-Err-write_whole.ensures.err; notes_are = refl })

pub returns-in-Ok-write_end-clause-says : goal.returns-in-Ok-write_end-clause-says
returns-in-Ok-write_end-clause-says g c =
    let asked : DumpsAsked = record { stepping = c.args.dumps.now.stepping; names = c.args.dumps.now.names.now } in
    let told = c.in-Ok-write_tracks.ensures.told in record {
      reach = c.in-Ok.reach;
      founds = told.founds;
      all = record { reach_is = reach-told (g.H.Shelf.files c.args.shelf.now) asked c.in-Ok.reach c.in-Ok.ensures.told; all = told.all; have = told.wrote.have };
      file_is = Appends-trans (g.W.Sink.written c.args.file.now) (g.W.Sink.written c.write_whole.new.sink) (g.W.Sink.written c.write_tracks.new.file) BEGIN
          (flat_map file_part told.founds) (rw c.as_bytes.ensures.value at c.in-Ok-write_whole.ensures.ok) told.wrote.file_is;
      notes_are = Appends-trans (g.N.Sink.written c.args.notes.now) (g.N.Sink.written c.write_tracks.new.notes) (g.N.Sink.written c.write_end.new.notes)
          (lines_of asked told.founds) (end_text asked.stepping c.in-Ok-write_tracks.totals) told.wrote.notes_are c.in-Ok-write_end.ensures.ok;
      totals_are = told.totals_are;
    }

pub returns-in-Err-write_end-clause-says : goal.returns-in-Err-write_end-clause-says
returns-in-Err-write_end-clause-says g c =
    let asked : DumpsAsked = record { stepping = c.args.dumps.now.stepping; names = c.args.dumps.now.names.now } in
    let told = c.in-Ok-write_tracks.ensures.told in
    inr (record {
      reach = c.in-Ok.reach;
      founds = told.founds;
      all = record { reach_is = reach-told (g.H.Shelf.files c.args.shelf.now) asked c.in-Ok.reach c.in-Ok.ensures.told; all = told.all; have = told.wrote.have };
      file_is = Appends-trans (g.W.Sink.written c.args.file.now) (g.W.Sink.written c.write_whole.new.sink) (g.W.Sink.written c.write_tracks.new.file) BEGIN
          (flat_map file_part told.founds) (rw c.as_bytes.ensures.value at c.in-Ok-write_whole.ensures.ok) told.wrote.file_is;
      notes_are = and-part (g.N.Sink.written c.args.notes.now) (g.N.Sink.written c.write_tracks.new.notes) (g.N.Sink.written c.write_end.new.notes)
          (lines_of asked told.founds) _ told.wrote.notes_are
          (subst (λ (t : ImdTotals). AppendsPart (g.N.Sink.written c.write_tracks.new.notes) (g.N.Sink.written c.write_end.new.notes) (end_text asked.stepping t)) told.totals_are
          c.in-Err-write_end.ensures.err);
    })

pub returns-in-Err-write_tracks-clause-says : goal.returns-in-Err-write_tracks-clause-says
returns-in-Err-write_tracks-clause-says g c =
    let asked : DumpsAsked = record { stepping = c.args.dumps.now.stepping; names = c.args.dumps.now.names.now } in
    imd-cut asked (shelf_at g.H.Source g.H.Shelf c.args.shelf.now) c.in-Ok.reach (shelf_at g.H.Source g.H.Shelf c.write_tracks.new.shelf) (g.W.Sink.written c.args.file.now)
    (g.W.Sink.written c.write_whole.new.sink) (g.W.Sink.written c.write_tracks.new.file) (g.N.Sink.written c.args.notes.now) (g.N.Sink.written c.write_tracks.new.notes)
    (reach-told (g.H.Shelf.files c.args.shelf.now) asked c.in-Ok.reach c.in-Ok.ensures.told) (rw c.as_bytes.ensures.value at c.in-Ok-write_whole.ensures.ok)
    c.in-Err-write_tracks.stopped c.in-Err-write_tracks.ensures.told
