use Rattle.std.proofs.Common.{ap, ◌∙◌, ◌++◌, ℕ, List}
use Rattle.std.proofs.lemmas.List.{take-replicate}
use Rattle.g64_image.proofs.record.put_padding.Goals as goal

pub returns : goal.returns
returns c = c.put.ensures.items ∙ ap (λ (xs : List ℕ). c.args.track.now.items ++ xs) (take-replicate c.args.count 7928 255 c.requires.few)
