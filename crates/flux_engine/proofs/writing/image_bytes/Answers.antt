use Rattle.std.proofs.Common.{ℕ, List, ap, ◌∙◌, take, replicate, unwrap_or, Option}
use Rattle.flux_base.specs.Bounds.{MOST_SECTOR_BYTES}
use Rattle.flux_engine.proofs.Zeros.{take-zeros}
use Rattle.flux_engine.proofs.writing.image_bytes.Goals as goal

pub returns-in-None : goal.returns-in-None
returns-in-None c = λ readings stands.
    ap (λ (n : ℕ). take {A = ℕ} n (replicate {A = ℕ} MOST_SECTOR_BYTES 0)) c.from.ensures
    ∙ take-zeros c.args.size MOST_SECTOR_BYTES c.requires.size
    ∙ ap (λ (bytes : Option (List ℕ)). unwrap_or bytes (replicate {A = ℕ} c.args.size 0)) (c.in-None.ensures readings stands)
