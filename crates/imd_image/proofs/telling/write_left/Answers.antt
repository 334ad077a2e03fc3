use Rattle.std.proofs.Common.{◌++◌, ℕ, List, [], Err, append-nil, subst, sym}
use Rattle.flux_base.specs.Moments.{Puts}
use Rattle.flux_base.specs.World.{sink_at}
use Rattle.flux_base.specs.lemmas.Parts.{Puts-cut, Puts-then}
use Rattle.imd_records.specs.declared.mode.Mode.TheVariants.{Fm250, Fm500}
use Rattle.imd_image.specs.Lines.{left_by}
use Rattle.imd_image.specs.inside.Finding.{found_in}
use Rattle.imd_image.proofs.telling.write_left.Goals as goal

pub returns-in-Err-write_left_by : goal.returns-in-Err-write_left_by
returns-in-Err-write_left_by g c =
    let found = found_in c.args.room.now in
    Puts-then (Err c.in-Err-write_left_by.failed) c.in-Ok.ensures (Puts-cut (left_by found Fm250 ++ (left_by found Fm500 ++ [])) c.in-Err-write_left_by.ensures)

pub returns-in-Err-write_left_by-2 : goal.returns-in-Err-write_left_by-2
returns-in-Err-write_left_by-2 g c =
    let found = found_in c.args.room.now in
    Puts-then (Err c.in-Err-write_left_by-2.failed) c.in-Ok.ensures
    (Puts-then (Err c.in-Err-write_left_by-2.failed) c.in-Ok-write_left_by.ensures (Puts-cut (left_by found Fm500 ++ []) c.in-Err-write_left_by-2.ensures))

pub returns : goal.returns
returns g c =
    let found = found_in c.args.room.now in
    let result = c.write_left_by-4.result in
    let last = subst (λ (bs : List ℕ). Puts (sink_at g.N.Sink c.write_left_by-3.new.notes) (sink_at g.N.Sink c.write_left_by-4.new.notes) bs result)
    (sym (append-nil (left_by found Fm500))) c.write_left_by-4.ensures in
    Puts-then result c.in-Ok.ensures (Puts-then result c.in-Ok-write_left_by.ensures (Puts-then result c.in-Ok-write_left_by-2.ensures last))
