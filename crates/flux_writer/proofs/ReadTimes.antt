-- The transitions of a written stream are read at the times that were given.
use Rattle.std.proofs.Common.{◌≡◌, ◌≤◌, ◌+◌, ◌-◌, ◌*◌, ◌/◌, ◌%◌, ◌++◌, ℕ, zero, suc, List, [], ◌∷◌, map, replicate, refl, ap, ◌∙◌, arith, append_assoc, append-nil}
use Rattle.kryo_stream.specs.declared.block.Block.{Block}
use Rattle.kryo_stream.specs.declared.block.Block.TheVariants.{Flux, Overflow}
use Rattle.kryo_stream.specs.Sequence.{transitions_from}
use Rattle.flux_writer.specs.Written.{index_block, interval_blocks}
use Rattle.flux_writer.specs.Trailing.{trailing_block}
use Rattle.flux_writer.specs.inside.Writing.{indexes_before, indexes_from, last_blocks, many_blocks, next_position, position_after, time_after}
use Rattle.flux_writer.proofs.Stands.{InOrder}

times_of_indexes : (time position begin : ℕ) (xs : List ℕ) (cs : List Block)
    → transitions_from time (map (index_block position begin) xs ++ cs) ≡ transitions_from time cs
times_of_indexes time position begin [] cs = refl
times_of_indexes time position begin (x ∷ xs) cs =
    ap (λ t. transitions_from t (map (index_block position begin) xs ++ cs)) (omega arith) ∙ times_of_indexes time position begin xs cs

times_of_overflows : (n time : ℕ) (cs : List Block) → transitions_from time (replicate n Overflow ++ cs) ≡ transitions_from (time + 65536 * n) cs
times_of_overflows zero time cs = ap (λ t. transitions_from t cs) (omega arith)
times_of_overflows (suc n) time cs = times_of_overflows n (time + 65536) cs ∙ ap (λ t. transitions_from t cs) (omega arith)

times_of_interval : (begin time : ℕ) (cs : List Block) → begin ≤ time
    → transitions_from begin (interval_blocks (time - begin) ++ cs) ≡ time ∷ transitions_from time cs
times_of_interval begin time cs order =
    let n = (time - begin) / 65536 in
    let r = (time - begin) % 65536 in
    let at : (begin + 65536 * n) + r ≡ time = omega (arith, order) in
    ap (transitions_from begin) (append_assoc (replicate n Overflow) (Flux r ∷ []) cs)
    ∙ times_of_overflows n begin (Flux r ∷ cs) ∙ ap (λ t. t ∷ transitions_from t cs) at

-- those of several transitions, and of what stands after them
pub times_before : (position begin : ℕ) (times indexes : List ℕ) (cs : List Block) → InOrder begin times
    → transitions_from begin (many_blocks position begin times indexes ++ cs) ≡ times ++ transitions_from (time_after begin times) cs
times_before position begin [] indexes cs order = refl
times_before position begin (t ∷ ts) indexes cs order =
    let front = map (index_block position begin) (indexes_before t indexes) in
    let interval = interval_blocks (t - begin) in
    let rest = many_blocks (next_position position begin t) t ts (indexes_from t indexes) in
    ap (transitions_from begin) (append_assoc (front ++ interval) rest cs ∙ append_assoc front interval (rest ++ cs))
    ∙ times_of_indexes begin position begin (indexes_before t indexes) (interval ++ (rest ++ cs))
    ∙ times_of_interval begin t (rest ++ cs) order.0
    ∙ ap (λ ts'. t ∷ ts') (times_before (next_position position begin t) t ts (indexes_from t indexes) cs order.1)

-- no transition stands behind the last
pub times_of_ending : (time position last : ℕ) (left : List ℕ)
    → transitions_from time (map (trailing_block position last) left ++ last_blocks position) ≡ []
times_of_ending time position last [] = refl
times_of_ending time position last (x ∷ xs) =
    ap (λ t. transitions_from t (map (trailing_block position last) xs ++ last_blocks position)) (omega arith)
    ∙ times_of_ending time position last xs

pub times_of_many : (position begin : ℕ) (times indexes : List ℕ) → InOrder begin times
    → transitions_from begin (many_blocks position begin times indexes ++ last_blocks (position_after position begin times)) ≡ times
times_of_many position begin times indexes order =
    times_before position begin times indexes (last_blocks (position_after position begin times)) order ∙ append-nil times
