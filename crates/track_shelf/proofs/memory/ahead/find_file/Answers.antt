use Rattle.std.proofs.Common.{◌++◌, ◌∷◌, [], ℕ, List, map, sym, ap, ◌∙◌}
use Rattle.track_shelf.specs.Memory.{bytes_at}
use Rattle.track_shelf.proofs.Finding.{found-pieces, none-pieces}
use Rattle.track_shelf.proofs.memory.ahead.find_file.Goals as goal

pub returns-in-Some : goal.returns-in-Some
returns-in-Some c =
    let place = c.in-Some.place in
    ap (map (bytes_at c.args.files.now)) (c.push.ensures.items ∙ ap (λ (ps : List ℕ). ps ++ place ∷ []) c.new-places.ensures)
    ∙ found-pieces c.args.files.now c.args.path.now place (sym c.place_of.ensures ∙ c.in-Some.is)

pub returns-in_default : goal.returns-in_default
returns-in_default c =
    ap (map (bytes_at c.args.files.now)) c.new-places.ensures
    ∙ none-pieces c.args.files.now c.args.path.now (sym c.place_of.ensures ∙ c.in_default.is)
