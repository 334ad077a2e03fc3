use Rattle.std.proofs.Common.{◌≡◌, ◌≤◌, ◌++◌, ℕ, List, [], length, take, arith, sym, ap, ◌∙◌}
use Rattle.std.specs.List.{concat}
use Rattle.track_shelf.specs.Memory.{ShelfState, ahead_from, cut_first, first_piece, with_bytes}
use Rattle.track_shelf.proofs.Ahead.{consumes, with-none}
use Rattle.track_shelf.proofs.memory.MemoryShelfSource.read.Goals as goal

pub returns-clause-bytes : goal.returns-clause-bytes
returns-clause-bytes c =
    let inside = c.self.inside in
    let pieces = ahead_from inside.files.now inside.places.items inside.next.number inside.next.start in
    let was : pieces ≡ c.args.self.now.ahead = ap (λ (s : ShelfState). s.ahead) (c.self.view_is ∙ c.in_ok-count_call.ensures.ok.1) in
    let places : c.deref.result.now ≡ inside.places.items = c.deref.ensures.0 in
    let given = c.give-given.result.1 in
    let e = c.give-given.ensures in
    let next = c.give-given.result.0 in
    let few : given ≤ length (first_piece pieces) = (let count = rw places at e.count in omega (arith, count)) in
    let front : take given c.give-given.new.buffer ≡ take given (first_piece pieces) = rw places at (e.front) in
    let later : ahead_from inside.files.now inside.places.items next.number next.start ≡ with_bytes (cut_first given pieces) = rw places at (e.later) in (
      sym (ap concat was) ∙ consumes pieces given c.give-given.new.buffer few front ∙ ap (λ (ps : List (List ℕ)). take given c.give-given.new.buffer ++ concat ps) (sym later),
      λ zero some.
          let end : pieces ≡ [] = rw places at (e.end zero (rw e.len at some)) in
          ap concat (later ∙ ap (λ (ps : List (List ℕ)). with_bytes (cut_first given ps)) end ∙ with-none),
    )
