use Rattle.std.proofs.Common.{◌++◌, List, ℕ, Bool, Some, None, sym, ap, ◌∙◌, if◌then◌else◌}
use Rattle.track_shelf.specs.DumpKinds.{name_in}
use Rattle.track_shelf.specs.Files.{File}
use Rattle.track_shelf.proofs.DumpKinds.{named-in}
use Rattle.track_shelf.proofs.memory.files.ShelfFile.name_in.Goals as goal

pub returns-then-are_same : goal.returns-then-are_same
returns-then-are_same c =
    let folder = c.args.folder.now in
    let f1 = c.cut.result.0.now in
    let f2 = c.cut.result.1.now in
    let b1 = c.cut-2.result.0.now in
    let b2 = c.cut-2.result.1.now in
    ap (λ (b : Bool). if b then Some (f2 ++ b2) else None) (sym c.if-are_same.true)
    ∙ named-in folder c.deref.result.now c.as_bytes.result.now f1 f2 b1 b2 c.are_same.result c.cut.ensures.front c.cut.ensures.back c.cut-2.ensures.front c.cut-2.ensures.back c.are_same.ensures
    ∙ ap (λ (s : List ℕ). name_in folder (s ++ c.as_bytes.result.now)) c.deref.ensures.value
    ∙ ap (λ (s : List ℕ). name_in folder (c.self.inside.front.items ++ s)) (c.as_bytes.ensures.value ∙ c.as_str.ensures.value)
    ∙ ap (λ (file : File). name_in folder file.path) c.self.view_is

pub returns-else-are_same : goal.returns-else-are_same
returns-else-are_same c =
    let folder = c.args.folder.now in
    let f1 = c.cut.result.0.now in
    let f2 = c.cut.result.1.now in
    let b1 = c.cut-2.result.0.now in
    let b2 = c.cut-2.result.1.now in
    ap (λ (b : Bool). if b then Some (f2 ++ b2) else None) (sym c.if-are_same.false)
    ∙ named-in folder c.deref.result.now c.as_bytes.result.now f1 f2 b1 b2 c.are_same.result c.cut.ensures.front c.cut.ensures.back c.cut-2.ensures.front c.cut-2.ensures.back c.are_same.ensures
    ∙ ap (λ (s : List ℕ). name_in folder (s ++ c.as_bytes.result.now)) c.deref.ensures.value
    ∙ ap (λ (s : List ℕ). name_in folder (c.self.inside.front.items ++ s)) (c.as_bytes.ensures.value ∙ c.as_str.ensures.value)
    ∙ ap (λ (file : File). name_in folder file.path) c.self.view_is
