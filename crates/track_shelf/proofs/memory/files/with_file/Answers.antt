use Rattle.std.proofs.Common.{◌++◌, [], List, ℕ, Option, option_map, sym, ap, ◌∙◌}
use Rattle.std.proofs.lemmas.List.{append-nil}
use Rattle.std.specs.List.{cons_option}
use Rattle.track_shelf.specs.DumpKinds.{kind_of_folder}
use Rattle.track_shelf.proofs.memory.files.with_file.Goals as goal

pub returns-in-Some : goal.returns-in-Some
returns-in-Some c names kind =
    let name = c.in-Some.front.now ++ c.in-Some.back.now in
    c.with_prefix.ensures name names c.of_parts.ensures kind
    ∙ ap (λ (o : Option (List ℕ)). kind_of_folder (names ++ cons_option o [])) (sym (sym c.name_in.ensures ∙ ap (option_map (λ parts. parts.0.now ++ parts.1.now)) c.in-Some.is))

pub returns-in-None : goal.returns-in-None
returns-in-None c names kind =
    kind ∙ ap kind_of_folder (sym (append-nil names))
    ∙ ap (λ (o : Option (List ℕ)). kind_of_folder (names ++ cons_option o [])) (sym (sym c.name_in.ensures ∙ ap (option_map (λ parts. parts.0.now ++ parts.1.now)) c.in-None.is))
