use Rattle.std.proofs.Common.{◌≡◌, ◌+◌, Bool, Ok, Err, [], List, ℕ, length, sym, subst, ◌∙◌, arith}
use Rattle.dump_reading.specs.Files.{shelf_at}
use Rattle.flux_base.specs.World.{sink_at}
use Rattle.scp_notes.specs.Dumps.{NotesDump}
use Rattle.scp_notes.specs.inside.Noted.{HasNoted}
use Rattle.scp_notes.proofs.Noting.{get-same, noted-all, noted-next, noted-none, noted-stop}
use Rattle.scp_notes.proofs.dumps.note_dumps.Goals as goal

pub loop-number-init : goal.loop-number-init
loop-number-init g c = noted-none _ _ _

pub returns-in-Err : goal.returns-in-Err
returns-in-Err g c =
    let n = c.loop-number.number in
    let dumps = c.args.dumps.now in
    let below = c.loop-number-test.true in
    let word = c.bytes.ensures ∙ c.index-dumps-number.is ∙ get-same dumps n c.index-dumps-number.result [] below in
    let now = shelf_at g.H.Source g.H.Shelf c.loop-number.shelf in
    let next = shelf_at g.H.Source g.H.Shelf c.note_dump.new.shelf in
    let between = sink_at g.N.Sink c.loop-number.notes in
    let after = sink_at g.N.Sink c.note_dump.new.notes in
    noted-stop dumps n _ now next _ between after c.loop-number.fails c.loop-number.invariant below c.in-Err.failed
    (subst (λ (w : List ℕ). NotesDump n w now next between after (Err c.in-Err.failed)) word c.in-Err.ensures)

pub loop-number-preserved : goal.loop-number-preserved
loop-number-preserved g c =
    let n = c.loop-number.number in
    let dumps = c.args.dumps.now in
    let below = c.loop-number-test.true in
    let word = c.bytes.ensures ∙ c.index-dumps-number.is ∙ get-same dumps n c.index-dumps-number.result [] below in
    let start = shelf_at g.H.Source g.H.Shelf c.args.shelf.now in
    let now = shelf_at g.H.Source g.H.Shelf c.loop-number.shelf in
    let next = shelf_at g.H.Source g.H.Shelf c.note_dump.new.shelf in
    let before = sink_at g.N.Sink c.args.notes.now in
    let between = sink_at g.N.Sink c.loop-number.notes in
    let after = sink_at g.N.Sink c.note_dump.new.notes in
    subst (λ (b : Bool). HasNoted dumps (n + 1) start next before after b) (sym c.either-fails.ensures)
    (noted-next dumps n start now next before between after c.loop-number.fails c.loop-number.invariant below c.in-Ok.failed
    (subst (λ (w : List ℕ). NotesDump n w now next between after (Ok c.in-Ok.failed)) word c.in-Ok.ensures))

pub returns : goal.returns
returns g c =
    let all : c.loop-number.number ≡ length c.args.dumps.now = omega (arith, c.loop-number-test.false, c.loop-number.auto.number-end) in
    noted-all _ _ _ _ _ _ _ c.loop-number.invariant all
