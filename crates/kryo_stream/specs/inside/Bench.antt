-- Steps of the crate's own functions, over what `Bench` defines.
use Rattle.std.specs.Prelude.{◌≡◌, ◌≤◌, ◌<◌, ℕ, ◌+◌, ◌-◌, ◌*◌, ◌^◌, ◌&&◌, List, ◌∷◌, All, length}
use Rattle.std.specs.Prelude.{count_by, get_or, slice_index, nat_lt, nat_le, ◌⊎◌, Some}
use Rattle.std.specs.List.Sorted.{IsNonDecreasing}
use Rattle.kryo_stream.specs.declared.block.SpelledBlock.{SpelledBlock}
use Rattle.kryo_stream.specs.declared.block.Mark.{Mark}
use Rattle.kryo_stream.specs.declared.fault.StreamFault.TheVariants.{IndexPosition, IndexOrder}
use Rattle.kryo_stream.specs.declared.fault.TrackFault.{TrackFault}
use Rattle.kryo_stream.specs.declared.fault.TrackFault.TheVariants.{ReadFault, Memory, Refused}
use Rattle.kryo_stream.specs.Protocol.{OVERFLOW_TICKS, LIMIT}
use Rattle.kryo_stream.specs.Stream.{in_stream_bytes, total_bytes, times_of, marks, turn_fault}
use Rattle.kryo_stream.specs.Bench.{BenchState, IsNoted}

-- the time at which the block begins that the byte at this position belongs to: that of the last
-- transition whose block ends before the byte, and 65536 ticks for each Overflow between them
abbrev pub base_time : List ℕ → List ℕ → List ℕ → ℕ → ℕ
base_time ends overflows times position =
    let count = count_by (λ end. nat_le end position) ends in
    get_or (0 ∷ times) count 0
    + OVERFLOW_TICKS
    * count_by (λ begin. nat_le (get_or (0 ∷ ends) count 0) begin && nat_lt begin position)
    overflows

-- a bench that holds all blocks of a stream, with the times of their transitions and the
-- number of all in-stream bytes
pub record IsComplete (ps : List SpelledBlock) (b : BenchState) (transitions : List ℕ)
    (total end : ℕ) : Type 0 where
  pub noted : IsNoted ps b
  pub times : transitions ≡ times_of ps
  pub counted : total ≡ in_stream_bytes ps
  pub limit : total_bytes ps ≤ LIMIT
  pub blocks : length ps ≡ end + 1

-- why the turns of a stream were not found
abbrev pub TurnCause : List SpelledBlock → ℕ → TrackFault → Type 0
TurnCause ps spare (Refused block fault) = turn_fault ps ≡ Some (block, fault)
TurnCause ps spare Memory = spare < length (marks ps)
TurnCause ps spare ReadFault = ⊥

-- what a binary search in a bench stands on
pub record IsSearchable (b : BenchState) (transitions : List ℕ) : Type 0 where
  pub end_order : IsNonDecreasing b.ends
  pub overflow_order : IsNonDecreasing b.overflows
  pub matched : length transitions ≡ length b.ends
  pub few : length b.overflows ≤ LIMIT
  pub near : b.counted ≤ LIMIT
  pub early : All (λ time. time < 2 ^ 48) transitions

-- the index time of an Index block
abbrev pub mark_time : BenchState → List ℕ → Mark → ℕ
mark_time b transitions mark = base_time b.ends b.overflows transitions mark.position + mark.sample

-- the fault of an Index block after these index times
abbrev pub PlaceCause : BenchState → List ℕ → List ℕ → ℕ → Mark → ℕ → TrackFault → Type 0
PlaceCause b transitions before total mark spare (Refused block fault) =
    (block ≡ mark.number) × (((fault ≡ IndexPosition) × (total < mark.position))
    ⊎ ((fault ≡ IndexOrder) × (mark.position ≤ total) × (0 < length before)
    × (mark_time b transitions mark ≤ slice_index before (length before - 1))))
PlaceCause b transitions before total mark spare Memory = spare ≡ 0
PlaceCause b transitions before total mark spare ReadFault = ⊥
