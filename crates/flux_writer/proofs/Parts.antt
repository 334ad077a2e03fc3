-- A part of a list of cells, as it is written.
use Rattle.std.proofs.Common.{◌≡◌, ◌≤◌, ◌<◌, ◌+◌, ◌-◌, ◌++◌, ℕ, Bool, true, false, List, [], ◌∷◌, length, map, take, drop, get_or, Option, ap, sym, ◌∙◌, subst, arith}
use Rattle.cell_bits.specs.Search.{HasNoOne}
use Rattle.flux_base.specs.Outside.{AppendsPart}
use Rattle.flux_writer.specs.inside.Gathering.{Gathers}
use Rattle.kryo_stream.specs.Sequence.{spellings}
use Rattle.flux_writer.specs.Written.{cell_time}
use Rattle.flux_writer.specs.inside.Writing.{indexes_from, next_blocks, many_blocks, next_position, times_between, IsReadyAt, IsWritten}
use Rattle.flux_writer.proofs.CellTimes.{cell_time-le, times_between-split, times_between-one}
use Rattle.flux_writer.proofs.Progress.{IsReady-next, IsWritten-more, IsWritten-one, IsWritten-part, part_of_one, part_of_more}
use Rattle.flux_writer.specs.lemmas.FoundOnes.{ones_from}

-- the next cell that is a one
pub IsReadyAt-next : (nominal position time number K : ℕ) (indexes : List ℕ) → IsReadyAt nominal position time number indexes → number ≤ K
    → IsReadyAt nominal (next_position position time (cell_time nominal K)) (cell_time nominal K) (K + 1)
    (indexes_from (cell_time nominal K) indexes)
IsReadyAt-next nominal position time number K indexes r order =
    let early : time ≤ cell_time nominal K = omega (arith, r.reached, cell_time-le nominal number K order) in
    let next = IsReady-next position time number (cell_time nominal K) indexes r.ready early in
    record {
      ready = record { room = omega (arith, next.room, order); begun = next.begun; rising = next.rising };
      reached = cell_time-le nominal K (K + 1) (omega arith);
    }

-- what the next transition requires
pub in_time : (nominal position time number K : ℕ) (indexes : List ℕ) → IsReadyAt nominal position time number indexes → number ≤ K
    → time ≤ cell_time nominal K
in_time nominal position time number K indexes r order = omega (arith, r.reached, cell_time-le nominal number K order)

-- one more one of the part, at the time at which its cell ends
module _ (cells : List Bool) (from number nominal place one to : ℕ) (start : from ≤ place) (order : place ≤ one)
    (stands : get_or cells one false ≡ true) (nowhere : HasNoOne cells place one)
    (old mid new : Option (List ℕ)) (held : List ℕ) (position time : ℕ) (indexes held' : List ℕ) (position' time' : ℕ) (indexes' : List ℕ)
    (w : IsWritten old mid held position time indexes held' position' time' indexes' (times_between cells from place number nominal))
    (end : ℕ) (is : end ≡ cell_time nominal (number + (one - from))) where
  pub next_one : (held'' : List ℕ) (position'' time'' : ℕ) (indexes'' : List ℕ)
      → Gathers mid new held' held'' (spellings (next_blocks position' time' end indexes'))
      → position'' ≡ next_position position' time' end
      → time'' ≡ end
      → indexes'' ≡ indexes_from end indexes'
      → IsWritten old new held position time indexes held'' position'' time'' indexes'' (times_between cells from (one + 1) number nominal)
  next_one held'' position'' time'' indexes'' g position_is time_is indexes_are =
      subst (IsWritten old new held position time indexes held'' position'' time'' indexes'')
      (ap (λ t. times_between cells from place number nominal ++ t ∷ []) is ∙ sym (times_between-one cells from number nominal place one to start order stands nowhere))
      (IsWritten-more old mid new held position time indexes held' position' time' indexes' (times_between cells from place number nominal) w
      (end ∷ []) held'' position'' time'' indexes''
      (IsWritten-one mid new held' position' time' end indexes' held'' position'' time'' indexes'' g
      position_is time_is indexes_are))

  pub next_one_fails : one < to → to ≤ length cells
      → AppendsPart mid new (held' ++ spellings (next_blocks position' time' end indexes'))
      → AppendsPart old new (held ++ spellings (many_blocks position time (times_between cells from to number nominal) indexes))
  next_one_fails before within part =
      part_of_more old new held position time (times_between cells from to number nominal) (times_between cells from (one + 1) number nominal)
      (map (cell_time nominal) (ones_from (number + ((one + 1) - from)) (take (to - (one + 1)) (drop (one + 1) cells)))) indexes
      (sym (times_between-split cells from (one + 1) to number nominal (omega arith) (omega arith) within))
      (subst (λ times. AppendsPart old new (held ++ spellings (many_blocks position time times indexes)))
      (ap (λ t. times_between cells from place number nominal ++ t ∷ []) is ∙ sym (times_between-one cells from number nominal place one to start order stands nowhere))
      (IsWritten-part old mid new held position time indexes held' position' time' indexes' (times_between cells from place number nominal) w
      (end ∷ [])
      (part_of_one mid new held' position' time' end indexes' part)))

-- one more word of the part
module _ (cells : List Bool) (from number nominal place end : ℕ) (start : from ≤ place) (order : place ≤ end)
    (old mid new : Option (List ℕ)) (held : List ℕ) (position time : ℕ) (indexes held' : List ℕ) (position' time' : ℕ) (indexes' : List ℕ)
    (w : IsWritten old mid held position time indexes held' position' time' indexes' (times_between cells from place number nominal)) where
  pub next_word : end ≤ length cells → (held'' : List ℕ) (position'' time'' : ℕ) (indexes'' : List ℕ)
      → IsWritten mid new held' position' time' indexes' held'' position'' time'' indexes'' (times_between cells place end (number + (place - from)) nominal)
      → IsWritten old new held position time indexes held'' position'' time'' indexes'' (times_between cells from end number nominal)
  next_word within held'' position'' time'' indexes'' m =
      subst (IsWritten old new held position time indexes held'' position'' time'' indexes'')
      (sym (times_between-split cells from place end number nominal start order within))
      (IsWritten-more old mid new held position time indexes held' position' time' indexes' (times_between cells from place number nominal) w
      (times_between cells place end (number + (place - from)) nominal) held'' position'' time'' indexes'' m)

  pub next_word_fails : (to : ℕ) → end ≤ to → to ≤ length cells
      → AppendsPart mid new (held' ++ spellings (many_blocks position' time' (times_between cells place end (number + (place - from)) nominal) indexes'))
      → AppendsPart old new (held ++ spellings (many_blocks position time (times_between cells from to number nominal) indexes))
  next_word_fails to before within part =
      part_of_more old new held position time (times_between cells from to number nominal) (times_between cells from end number nominal)
      (times_between cells end to (number + (end - from)) nominal) indexes
      (sym (times_between-split cells from end to number nominal (omega arith) before within))
      (subst (λ times. AppendsPart old new (held ++ spellings (many_blocks position time times indexes)))
      (sym (times_between-split cells from place end number nominal start order (omega (arith, before, within))))
      (IsWritten-part old mid new held position time indexes held' position' time' indexes' (times_between cells from place number nominal) w
      (times_between cells place end (number + (place - from)) nominal) part))
