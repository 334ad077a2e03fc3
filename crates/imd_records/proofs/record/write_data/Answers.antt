use Rattle.std.proofs.Common.{◌+◌, ◌∙◌, ℕ, List, Bool, ◌∷◌, ap, cond, subst, sym, take}
use Rattle.flux_base.specs.Moments.{Puts}
use Rattle.flux_base.specs.World.{sink_at}
use Rattle.flux_base.specs.lemmas.Parts.{Puts-then}
use Rattle.imd_records.proofs.record.write_data.Goals as goal

pub returns-then-not-are_alike : goal.returns-then-not-are_alike
returns-then-not-are_alike g c =
    subst (λ (bs : List ℕ). Puts (sink_at g.W.Sink c.args.file.now) (sink_at g.W.Sink c.write_whole-then-not-are_alike.new.sink) bs c.write_whole-then-not-are_alike.result)
    (ap (λ (b : Bool). cond b ((c.args.kind + 1) ∷ take 1 c.args.bytes.now) (c.args.kind ∷ c.args.bytes.now)) (sym c.if-not-are_alike.true ∙ c.are_alike.ensures.alike))
    (Puts-then c.write_whole-then-not-are_alike.result c.in-Ok.ensures c.write_whole-then-not-are_alike.ensures)

pub returns : goal.returns
returns g c =
    subst (λ (bs : List ℕ). Puts (sink_at g.W.Sink c.args.file.now) (sink_at g.W.Sink c.write_whole-3.new.sink) bs c.write_whole-3.result)
    (ap (λ (b : Bool). cond b ((c.args.kind + 1) ∷ take 1 c.args.bytes.now) (c.args.kind ∷ c.args.bytes.now)) (sym c.if-not-are_alike.false ∙ c.are_alike.ensures.alike))
    (Puts-then c.write_whole-3.result c.in-Ok-write_whole.ensures c.write_whole-3.ensures)
