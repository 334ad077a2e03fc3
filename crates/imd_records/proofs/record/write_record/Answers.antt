use Rattle.std.proofs.Common.{◌++◌, ◌∙◌, ℕ, List, Err, ap, subst}
use Rattle.flux_base.specs.Moments.{Puts}
use Rattle.flux_base.specs.World.{sink_at}
use Rattle.flux_base.specs.lemmas.Parts.{Puts-cut, Puts-then}
use Rattle.imd_records.specs.Records.{names_in, record_bytes, sectors_bytes}
use Rattle.imd_records.proofs.record.write_record.Goals as goal

pub returns-in-Err : goal.returns-in-Err
unfolding record_bytes
returns-in-Err g c =
    subst (λ (bs : List ℕ). Puts {T = Unit {0}} (sink_at g.W.Sink c.args.file.now) (sink_at g.W.Sink c.write_whole.new.sink) bs (Err c.in-Err.failed))
    (ap (λ (bs : List ℕ). bs ++ sectors_bytes (names_in c.args.book.now c.args.rows.now)) (c.as_slice.ensures.value ∙ c.begin_of.ensures))
    (Puts-cut (sectors_bytes (names_in c.args.book.now c.args.rows.now)) c.in-Err.ensures)

pub returns : goal.returns
unfolding record_bytes
returns g c =
    subst (λ (bs : List ℕ). Puts (sink_at g.W.Sink c.args.file.now) (sink_at g.W.Sink c.write_sectors.new.file) bs c.write_sectors.result)
    (ap (λ (bs : List ℕ). bs ++ sectors_bytes (names_in c.args.book.now c.args.rows.now)) (c.as_slice.ensures.value ∙ c.begin_of.ensures))
    (Puts-then c.write_sectors.result c.in-Ok.ensures c.write_sectors.ensures)
