-- A stream without a fault has two index times.
use Rattle.std.specs.Prelude.{◌≡◌, ◌≤◌, ℕ, ◌+◌, ◌-◌, Bool, true, List, length, slice_get, nat_lt, Option, Some, None, Ok, Err, if◌then◌else◌}
use Rattle.std.specs.Option.{option_or}
use Rattle.std.proofs.Common.{ap, sym, ◌∙◌, arith, inl, inr}
use Rattle.std.proofs.lemmas.Bool.{cases_lt, lt-ltb}
use Rattle.std.proofs.lemmas.List.{length-map}
use Rattle.kryo_stream.specs.Growth.{StreamsHaveTurns}
use Rattle.kryo_stream.specs.Pieces.{BlockOrFault}
use Rattle.kryo_stream.specs.Stream.{fault_at, index_time, last_block, mark_faults, marks, piece_behind, pieces, stream, turn_fault}
use Rattle.kryo_stream.specs.declared.block.SpelledBlock.{SpelledBlock}
use Rattle.kryo_stream.specs.declared.fault.StreamFault.{StreamFault}
use Rattle.kryo_stream.specs.declared.fault.StreamFault.TheVariants.{NoTurn}

or_some : (o : Option (ℕ × StreamFault)) (y : ℕ × StreamFault) → option_or o (Some y) ≡ None → ⊥
or_some None y none = cc
or_some (Some z) y none = cc

turns_of : (ps : List SpelledBlock) → turn_fault ps ≡ None → 2 ≤ length (marks ps)
turns_of ps none =
    elim (cases_lt (length (marks ps)) 2) [
      | inr least ↦ least
      | inl below ↦
          let test : nat_lt (length (marks ps)) 2 ≡ true = lt-ltb _ _ below in
          let with_test : turn_fault ps ≡ option_or (slice_get (mark_faults ps) 0) (Some (length ps - 1, NoTurn)) =
          ap (λ (b : Bool). option_or (slice_get (mark_faults ps) 0) (if b then Some (length ps - 1, NoTurn) else None)) test in
          absurd (or_some (slice_get (mark_faults ps) 0) (length ps - 1, NoTurn) (sym with_test ∙ none))
    ]

turns_at : (x : List ℕ) (n : ℕ) (r : BlockOrFault) → fault_at x n r ≡ None → 2 ≤ length (marks (pieces x (n + 1)))
turns_at x n (Ok p) none = turns_of (pieces x (n + 1)) none
turns_at x n (Err fault) none = absurd (cc)

pub streams_have_turns : StreamsHaveTurns
streams_have_turns x none =
    let least = turns_at x (last_block x) (piece_behind x (pieces x (last_block x))) none in
    let same = length-map (marks (stream x)) (index_time (stream x)) in
    omega (arith, least, same)
