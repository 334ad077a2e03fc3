-- The faults of turns are their own.
use Rattle.std.proofs.Common.{◌≡◌, ◌≢◌, ◌-◌, ◌&&◌, ℕ, Bool, true, false, List, [], ◌∷◌, if◌then◌else◌, Option, Some, None, subst}
use Rattle.std.specs.Prelude.{slice_get, nat_lt, nat_le, get_or, length}
use Rattle.std.specs.List.{filter_map, range_with_len, cons_option}
use Rattle.std.specs.Option.{option_and_then, option_or}
use Rattle.kryo_stream.specs.declared.block.SpelledBlock.{SpelledBlock}
use Rattle.kryo_stream.specs.declared.block.Mark.{Mark}
use Rattle.kryo_stream.specs.declared.fault.StreamFault.{StreamFault}
use Rattle.kryo_stream.specs.declared.fault.StreamFault.TheVariants.{Truncated, IndexPosition, IndexOrder, NoTurn}
use Rattle.kryo_stream.specs.Stream.{mark_fault, mark_fault_at, mark_faults, marks, turn_fault, in_stream_bytes, index_time, indexes_of}

abbrev IsOwn : Option (ℕ × StreamFault) → Type 0
IsOwn None = Unit {0}
IsOwn (Some fault) = fault.1 ≢ Truncated

own_if : (test : Bool) (a b : Option (ℕ × StreamFault)) → IsOwn a → IsOwn b → IsOwn (if test then a else b)
own_if true a b first second = first
own_if false a b first second = second

own_and_then : {X : Type 0} (f : X → Option (ℕ × StreamFault)) → ((x : X) → IsOwn (f x)) → (o : Option X) → IsOwn (option_and_then f o)
own_and_then f each None = tt
own_and_then f each (Some x) = each x

own_front : (fault : Option (ℕ × StreamFault)) (rest : List (ℕ × StreamFault)) → IsOwn fault → IsOwn (slice_get rest 0)
    → IsOwn (slice_get (cons_option fault rest) 0)
own_front None rest own others = others
own_front (Some fault) rest own others = own

own_first : (f : ℕ → Option (ℕ × StreamFault)) → ((k : ℕ) → IsOwn (f k)) → (ks : List ℕ) → IsOwn (slice_get (filter_map f ks) 0)
own_first f each [] = tt
own_first f each (k ∷ ks) = own_front (f k) (filter_map f ks) (each k) (own_first f each ks)

own_or : (a b : Option (ℕ × StreamFault)) → IsOwn a → IsOwn b → IsOwn (option_or a b)
own_or None b first second = second
own_or (Some fault) b first second = first

position_own : IndexPosition ≢ Truncated
position_own = λ same. cc

order_own : IndexOrder ≢ Truncated
order_own = λ same. cc

turn_own : NoTurn ≢ Truncated
turn_own = λ same. cc

mark_fault-own : (ps : List SpelledBlock) (k : ℕ) (mark : Mark) → IsOwn (mark_fault ps k mark)
mark_fault-own ps k mark =
    own_if (nat_lt (in_stream_bytes ps) mark.position) (Some (mark.number, IndexPosition)) _ position_own
    (own_if (nat_lt 0 k && nat_le (index_time ps mark) (get_or (indexes_of ps) (k - 1) 0)) (Some (mark.number, IndexOrder)) None order_own tt)

turn_fault-own : (ps : List SpelledBlock) → IsOwn (turn_fault ps)
turn_fault-own ps = own_or (slice_get (mark_faults ps) 0) _
    (own_first (mark_fault_at ps) (λ k. own_and_then (mark_fault ps k) (mark_fault-own ps k) (slice_get (marks ps) k)) (range_with_len 0 (length (marks ps))))
    (own_if (nat_lt (length (marks ps)) 2) (Some (length ps - 1, NoTurn)) None turn_own tt)

pub turn_fault-not : (ps : List SpelledBlock) (block : ℕ) (fault : StreamFault) → turn_fault ps ≡ Some (block, fault) → fault ≡ Truncated → ⊥
turn_fault-not ps block fault is truncated =
    let own : IsOwn (Some (block, fault)) = subst IsOwn is (turn_fault-own ps) in own truncated
