use Rattle.std.proofs.Common.{◌≡◌, false, ◌∙◌, List, ℕ, Option, arith, length, subst, take}
use Rattle.flux_base.specs.lemmas.Blaming.{CountsBy-sinks, CountsBy-source, CountsBy-then}
use Rattle.sector_images.specs.declared.format.Format.{Format}
use Rattle.g64_image.specs.Answers.{IsTakenFile, ReadsFile, SaysOfFile}
use Rattle.g64_image.proofs.Causes.{from_cause, read_or_refused}
use Rattle.g64_image.proofs.Sound.{take-front, taken_file}
use Rattle.g64_image.proofs.Told.{told-file}
use Rattle.g64_image.proofs.reading.from_g64.Goals as goal

pub returns-clause-read : goal.returns-clause-read
returns-clause-read g c =
    let read = c.in-Ok.read in
    let buffer = c.fill.new.buffer in
    let left' = g.S.Source.left c.fill.new.source in
    let image = g.W.Sink.written c.args.image.now in
    let image' = g.W.Sink.written c.read_file.new.image in
    let notes = g.N.Sink.written c.args.notes.now in
    let notes' = g.N.Sink.written c.read_file.new.notes in
    let same : c.deref.result.now ≡ buffer =
    c.deref.ensures.value ∙ take-front c.room.inside.file.len buffer _ (omega (arith, c.in-Ok.ensures.len, c.deref_mut.ensures.len)) in
    let size : length buffer ≡ 4194305 = omega (arith, c.in-Ok.ensures.len, c.deref_mut.ensures.len, c.room.invariant.2) in
    let says : (left : Option (List ℕ)) → IsTakenFile (take read buffer) left
    → SaysOfFile c.room.inside.format (take read buffer) left image image' notes notes' c.read_file.result =
    subst (λ (xs : List ℕ). (left : Option (List ℕ)) → IsTakenFile (take read xs) left
    → SaysOfFile c.room.inside.format (take read xs) left image image' notes notes' c.read_file.result) same c.read_file.ensures.says in
    record {
      taken = take read buffer;
      consumed = c.in-Ok.ensures.ok;
      says = subst (λ (f : Format). SaysOfFile f (take read buffer) left' image image' notes notes' c.read_file.result) c.room.view_is
          (says left' (taken_file read buffer left' size c.in-Ok.ensures.bound c.in-Ok.ensures.ended));
    }

pub returns-clause-told : goal.returns-clause-told
returns-clause-told g c = λ bytes is.
    told-file c.args.room.now bytes _ _ _ _ _ c.read_file.result
    (subst (λ (left : Option (List ℕ)). ReadsFile c.args.room.now left (g.S.Source.left c.fill.new.source) (g.W.Sink.written c.args.image.now)
    (g.W.Sink.written c.read_file.new.image) (g.N.Sink.written c.args.notes.now) (g.N.Sink.written c.read_file.new.notes) c.read_file.result)
    is (returns-clause-read g c))

pub returns-clause-blames : goal.returns-clause-blames
returns-clause-blames g c = CountsBy-then _ (CountsBy-source _ _ false c.in-Ok.ensures.counts) (CountsBy-sinks _ _ c.read_file.ensures.blames)

pub returns-clause-cause : goal.returns-clause-cause
returns-clause-cause g c = from_cause c.read_file.result (returns-clause-blames g c)

pub returns-clause-complete : goal.returns-clause-complete
returns-clause-complete g c = read_or_refused c.read_file.result (returns-clause-blames g c)

pub returns-clause-image_later : goal.returns-clause-image_later
returns-clause-image_later g c = c.read_file.ensures.blames.image.later

pub returns-clause-notes_later : goal.returns-clause-notes_later
returns-clause-notes_later g c = c.read_file.ensures.blames.notes.later
