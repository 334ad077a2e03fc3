use Rattle.std.proofs.Common.{◌≡◌, ◌-◌, List, ℕ, ◌∷◌, length, take, drop, get_or, min, sym, ap, ◌∙◌}
use Rattle.std.proofs.lemmas.List.{take_rest}
use Rattle.track_shelf.specs.Memory.{ahead_from, bytes_at, cut_first, first_piece, with_bytes}
use Rattle.track_shelf.proofs.Ahead.{given-count, given-front, next-at, with-none}
use Rattle.track_shelf.proofs.memory.ahead.give.Goals as goal

pub returns-in_default-clause-later : goal.returns-in_default-clause-later
returns-in_default-clause-later c =
    c.in_default.ensures.end ∙ sym (ap (λ (ps : List (List ℕ)). with_bytes (cut_first 0 ps)) c.in_default.ensures.end ∙ with-none)

pub returns-clause-count : goal.returns-clause-count
returns-clause-count c =
    let next = c.in-Some.next in
    let at = next-at c.args.files.now c.args.places.now next.number next.start c.in-Some.ensures.next.0 c.in-Some.ensures.next.1 in
    let bytes = c.bytes_of.result.now in
    let piece = drop next.start bytes in
    let same : ahead_from c.args.files.now c.args.places.now c.args.from.number c.args.from.start ≡ piece ∷ at.rest =
    sym c.in-Some.ensures.same ∙ at.is ∙ ap (λ (b : List ℕ). drop next.start b ∷ at.rest) (sym c.bytes_of.ensures) in
    let whole : take (length bytes - next.start) piece ≡ piece = take_rest bytes next.start in
    given-count c.copy_front-given.result (length c.args.buffer.now) c.args.most c.min.result piece (rw whole at c.copy_front-given.ensures.count) (rw whole at c.min.ensures)
    ∙ ap (λ (ps : List (List ℕ)). min (min c.args.most (length c.args.buffer.now)) (length (first_piece ps))) (sym same)

pub returns-clause-front : goal.returns-clause-front
returns-clause-front c =
    let next = c.in-Some.next in
    let at = next-at c.args.files.now c.args.places.now next.number next.start c.in-Some.ensures.next.0 c.in-Some.ensures.next.1 in
    let bytes = c.bytes_of.result.now in
    let piece = drop next.start bytes in
    let same : ahead_from c.args.files.now c.args.places.now c.args.from.number c.args.from.start ≡ piece ∷ at.rest =
    sym c.in-Some.ensures.same ∙ at.is ∙ ap (λ (b : List ℕ). drop next.start b ∷ at.rest) (sym c.bytes_of.ensures) in
    let whole : take (length bytes - next.start) piece ≡ piece = take_rest bytes next.start in
    given-front c.copy_front-given.result (length c.args.buffer.now) c.args.most c.min.result piece (take c.copy_front-given.result c.copy_front-given.new.buffer) (rw whole at c.copy_front-given.ensures.count) (rw whole at c.copy_front-given.ensures.front)
    ∙ ap (λ (ps : List (List ℕ)). take c.copy_front-given.result (first_piece ps)) (sym same)

pub returns-clause-later : goal.returns-clause-later
returns-clause-later c =
    let next = c.in-Some.next in
    let at = next-at c.args.files.now c.args.places.now next.number next.start c.in-Some.ensures.next.0 c.in-Some.ensures.next.1 in
    let piece = drop next.start (bytes_at c.args.files.now (get_or c.args.places.now next.number 0)) in
    let same : ahead_from c.args.files.now c.args.places.now c.args.from.number c.args.from.start ≡ piece ∷ at.rest = sym c.in-Some.ensures.same ∙ at.is in
    at.after c.copy_front-given.result ∙ ap (λ (ps : List (List ℕ)). with_bytes (cut_first c.copy_front-given.result ps)) (sym same)
