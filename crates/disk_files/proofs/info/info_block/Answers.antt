use Rattle.std.proofs.Common.{◌≡◌, ◌++◌, ◌∙◌, ℕ, List, [], ◌∷◌, codes, ap}
use Rattle.disk_files.specs.Files.{info_text}
use Rattle.disk_files.proofs.Texts.{block-is, clocks, text-is}
use Rattle.disk_files.proofs.info.info_block.Goals as goal

pub returns : goal.returns
returns c =
    let text : c.put-3.new.block.items ≡ info_text c.args.version.now =
    c.put-3.ensures
    ∙ ap (λ (t : List ℕ). t ++ (clocks ++ 0 ∷ [])) (c.put-2.ensures ∙ ap (λ (t : List ℕ). t ++ c.as_bytes.result.now) (c.put.ensures ∙ ap (λ (t : List ℕ). t ++ codes "name=flux, version=") c.new-text.ensures))
    ∙ ap (λ (v : List ℕ). codes "name=flux, version=" ++ (v ++ (clocks ++ 0 ∷ []))) c.as_bytes.ensures.value
    ∙ text-is c.args.version.now in
    c.put-5.ensures
    ∙ ap (λ (b : List ℕ). b ++ c.deref.result.now) (c.put-4.ensures ∙ ap (λ (b : List ℕ). b ++ 13 ∷ 4 ∷ c.len.result ∷ 0 ∷ []) c.new-block.ensures)
    ∙ ap (λ (t : List ℕ). 13 ∷ 4 ∷ c.len.result ∷ 0 ∷ t) c.deref.ensures.0
    ∙ block-is c.args.version.now c.put-3.new.block.items c.len.result c.requires text c.len.ensures.value
