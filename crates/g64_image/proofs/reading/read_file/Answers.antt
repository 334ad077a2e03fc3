use Rattle.std.proofs.Common.{true, false, sym, subst}
use Rattle.std.specs.Io.KnownBytes.{Appends}
use Rattle.flux_base.specs.lemmas.Blaming.{CountsBy-notes, CountsBy-then}
use Rattle.flux_base.specs.Outside.{AppendsPart}
use Rattle.g64_image.specs.Answers.{IsWholeFile}
use Rattle.g64_image.proofs.FileParts.{read_all, read_no_total}
use Rattle.g64_image.proofs.Sound.{not_large}
use Rattle.g64_image.proofs.reading.read_file.Goals as goal

pub returns-in-Err-ImageFault-clause-says : goal.returns-in-Err-ImageFault-clause-says
returns-in-Err-ImageFault-clause-says g c = λ left file.
    let none = sym c.in-None.ensures.value in
    let whole : IsWholeFile c.args.format c.args.file.now left = record { no_fault = none; ended = file.ended (not_large c.args.format c.args.file.now none) } in
    (whole, (rw c.in-Err-ImageFault.field-0-is at c.in-Err-ImageFault.ensures.err))

pub returns-in-Err-NotesFault-clause-says : goal.returns-in-Err-NotesFault-clause-says
returns-in-Err-NotesFault-clause-says g c = λ left file.
    let none = sym c.in-None.ensures.value in
    let whole : IsWholeFile c.args.format c.args.file.now left = record { no_fault = none; ended = file.ended (not_large c.args.format c.args.file.now none) } in
    (whole, (rw c.in-Err-NotesFault.field-0-is at c.in-Err-NotesFault.ensures.err))

pub returns-in-Ok-write_line-clause-says : goal.returns-in-Ok-write_line-clause-says
returns-in-Ok-write_line-clause-says g c = λ left file.
    let none = sym c.in-None.ensures.value in
    let whole : IsWholeFile c.args.format c.args.file.now left = record { no_fault = none; ended = file.ended (not_large c.args.format c.args.file.now none) } in
    read_all c.args.format c.args.file.now left _ _ _ (g.N.Sink.written c.write_tracks.new.notes) _ c.in-Ok.totals c.in-Ok.ensures.ok whole
    (subst (Appends (g.N.Sink.written c.write_tracks.new.notes) (g.N.Sink.written c.write_line.new.sink)) c.total_line.ensures c.in-Ok-write_line.ensures.ok)

pub returns-in-Err-clause-says : goal.returns-in-Err-clause-says
returns-in-Err-clause-says g c = λ left file.
    let none = sym c.in-None.ensures.value in
    let whole : IsWholeFile c.args.format c.args.file.now left = record { no_fault = none; ended = file.ended (not_large c.args.format c.args.file.now none) } in
    read_no_total c.args.format c.args.file.now left _ _ _ (g.N.Sink.written c.write_tracks.new.notes) _ c.in-Ok.totals c.in-Ok.ensures.ok whole
    (subst (AppendsPart (g.N.Sink.written c.write_tracks.new.notes) (g.N.Sink.written c.write_line.new.sink)) c.total_line.ensures c.in-Err.ensures.err)

pub returns-in-Err-ImageFault-clause-blames : goal.returns-in-Err-ImageFault-clause-blames
returns-in-Err-ImageFault-clause-blames g c = rw c.in-Err-ImageFault.field-0-is at c.in-Err-ImageFault.ensures.blames

pub returns-in-Err-NotesFault-clause-blames : goal.returns-in-Err-NotesFault-clause-blames
returns-in-Err-NotesFault-clause-blames g c = rw c.in-Err-NotesFault.field-0-is at c.in-Err-NotesFault.ensures.blames

pub returns-in-Ok-write_line-clause-blames : goal.returns-in-Ok-write_line-clause-blames
returns-in-Ok-write_line-clause-blames g c = CountsBy-then _ c.in-Ok.ensures.blames (CountsBy-notes _ _ false c.in-Ok-write_line.ensures.counts)

pub returns-in-Err-clause-blames : goal.returns-in-Err-clause-blames
returns-in-Err-clause-blames g c = CountsBy-then _ c.in-Ok.ensures.blames (CountsBy-notes _ _ true c.in-Err.ensures.counts)
