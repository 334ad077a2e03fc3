-- The block at one place of a stream is the same at a later place, where that is within the limit.
use Rattle.std.proofs.Common.{◌≡◌, ℕ, ◌+◌, ◌-◌, ◌==◌, ◌<◌, ◌≤◌, Bool, true, false, List, length, drop, nat_lt, nat_le, if◌then◌else◌, refl, ap, ◌∙◌, arith, Result, Ok, Err}
use Rattle.std.proofs.lemmas.Bool.Decides.{nat_tests}
use Rattle.std.specs.Prelude.{slice_index}
use Rattle.byteorder.specs.Endian.{little_number}
use Rattle.kryo_stream.specs.Pieces.{BlockOrFault, at_position, has, index_piece, info_piece, in_stream_piece, needs, number_at, of_size, out_of_band_piece, piece, piece_at, piece_from, stream_end_piece, stream_info_piece, ticks_at, unless_fault, without_failure}
use Rattle.kryo_stream.specs.Protocol.{LIMIT}
use Rattle.kryo_stream.specs.declared.block.Block.{Block}
use Rattle.kryo_stream.specs.declared.block.Block.TheVariants.{End, Flux, Index, Info, Nop, Overflow, StreamEnd, StreamInfo}
use Rattle.kryo_stream.specs.declared.block.SpelledBlock.{SpelledBlock}
use Rattle.kryo_stream.specs.declared.fault.StreamFault.{StreamFault}
use Rattle.kryo_stream.specs.declared.fault.StreamFault.TheVariants.{BadSize, DataAfterEnd, DeviceFault, TooLong, Truncated, UnknownType, WrongPosition}

-- a test of a smaller number of bytes
not_above : (a b : ℕ) → b ≤ a → nat_lt a b ≡ false
not_above a b low = grind (arith, nat_tests)

above : (a b : ℕ) → nat_le a b ≡ false → b < a
above a b test = grind (arith, nat_tests)

-- where the first bytes are there
pub has-ok : (offset count : ℕ) (y : List ℕ) → offset + count ≤ LIMIT → count ≤ length y → has offset count y ≡ Ok tt
has-ok offset count y room enough =
    ap (λ (b : Bool). if b then Err TooLong else (if nat_lt (length y) count then Err Truncated else Ok tt)) (not_above LIMIT (offset + count) room)
    ∙ ap (λ (b : Bool). if b then Err Truncated else Ok tt) (not_above (length y) count enough)

pub needs-ok : (offset count : ℕ) (y : List ℕ) (r : BlockOrFault) → offset + count ≤ LIMIT → count ≤ length y → needs offset count y r ≡ r
needs-ok offset count y r room enough = ap (λ (h : Result (Unit {0}) StreamFault). unless_fault h r) (has-ok offset count y room enough)

-- A block that stands at a place, and has so many bytes at least, stands so much later too.
module _ (later offset : ℕ) where
  abbrev pub Moved : (least : ℕ) → (here there : BlockOrFault) → Type 0
  Moved least here there = (p : SpelledBlock) → here ≡ Ok p → (least ≤ p.bytes) × (later + offset + p.bytes ≤ LIMIT → there ≡ Ok p)

  moved_less : (least less : ℕ) (a b : BlockOrFault) → less ≤ least → Moved least a b → Moved less a b
  moved_less least less a b fewer moved p is = (omega (arith, fewer, (moved p is).0), (moved p is).1)

  moved_piece : (least : ℕ) (block : Block) (n : ℕ) → least ≤ n → Moved least (piece block n) (piece block n)
  moved_piece least block n enough p is =
      let size : n ≡ p.bytes = cc in
      (omega (arith, enough, size), λ room. is)

  moved_fault : (least : ℕ) (fault : StreamFault) (b : BlockOrFault) → Moved least (Err fault) b
  moved_fault least fault b p is = absurd (cc)

  moved_if : (least : ℕ) (test : Bool) (a b c d : BlockOrFault) → (test ≡ true → Moved least a b) → (test ≡ false → Moved least c d)
      → Moved least (if test then a else c) (if test then b else d)
  moved_if least true a b c d when_true when_false = when_true refl
  moved_if least false a b c d when_true when_false = when_false refl

  -- what is needed is there, and then the block
  needed : (count : ℕ) (y : List ℕ) (long short : Bool) (r : BlockOrFault) (p : SpelledBlock)
      → unless_fault (if long then Err TooLong else (if short then Err Truncated else Ok tt)) r ≡ Ok p → (short ≡ false) × (r ≡ Ok p)
  needed count y true short r p is = absurd (cc)
  needed count y false true r p is = absurd (cc)
  needed count y false false r p is = (refl, is)

  enough_of : (a b : ℕ) → nat_lt a b ≡ false → b ≤ a
  enough_of a b test = grind (arith, nat_tests)

  moved_needs : (least count : ℕ) (y : List ℕ) (a b : BlockOrFault) → count ≤ least → Moved least a b
      → Moved least (needs offset count y a) (needs (later + offset) count y b)
  moved_needs least count y a b low moved p is =
      let at = needed count y (nat_lt LIMIT (offset + count)) (nat_lt (length y) count) a p is in
      let there = moved p at.1 in
      (there.0, λ room. needs-ok (later + offset) count y b (omega (arith, room, low, there.0)) (enough_of (length y) count at.0) ∙ there.1 room)

  moved_in_stream : (first : ℕ) (y : List ℕ) → Moved 1 (in_stream_piece offset first y) (in_stream_piece (later + offset) first y)
  moved_in_stream first y =
      moved_if 1 (nat_le first 7) _ _ _ _ (λ _. moved_less 2 1 _ _ (omega arith) (moved_needs 2 2 y _ _ (omega arith) (moved_piece 2 (Flux (ticks_at 0 y)) 2 (omega arith))))
      (λ two. moved_if 1 (nat_le first 10) _ _ _ _
      (λ _. moved_less (first - 7) 1 _ _ (let more : 7 < first = above first 7 two in omega (arith, more))
      (moved_needs (first - 7) (first - 7) y _ _ (omega arith) (moved_piece (first - 7) (Nop (first - 7)) (first - 7) (omega arith))))
      (λ _. moved_if 1 (first == 11) _ _ _ _ (λ _. moved_piece 1 Overflow 1 (omega arith))
      (λ _. moved_if 1 (first == 12) _ _ _ _ (λ _. moved_less 3 1 _ _ (omega arith) (moved_needs 3 3 y _ _ (omega arith) (moved_piece 3 (Flux (ticks_at 1 y)) 3 (omega arith))))
      (λ _. moved_piece 1 (Flux first) 1 (omega arith)))))

  moved_size : (least wanted size : ℕ) (a b : BlockOrFault) → Moved least a b → Moved least (of_size wanted size a) (of_size wanted size b)
  moved_size least wanted size a b moved = moved_if least (size == wanted) _ _ _ _ (λ _. moved) (λ _. moved_fault least (BadSize size) _)

  moved_position : (least counted said : ℕ) (a b : BlockOrFault) → Moved least a b → Moved least (at_position counted said a) (at_position counted said b)
  moved_position least counted said a b moved = moved_if least (said == counted) _ _ _ _ (λ _. moved) (λ _. moved_fault least (WrongPosition said counted) _)

  moved_without : (least code : ℕ) (a b : BlockOrFault) → Moved least a b → Moved least (without_failure code a) (without_failure code b)
  moved_without least code a b moved = moved_if least (code == 0) _ _ _ _ (λ _. moved) (λ _. moved_fault least (DeviceFault code) _)

  moved_stream_info : (counted : ℕ) (y : List ℕ) → Moved 12 (stream_info_piece offset counted y) (stream_info_piece (later + offset) counted y)
  moved_stream_info counted y =
      moved_needs 12 12 y _ _ (omega arith) (moved_position 12 counted (number_at 4 y) _ _ (moved_piece 12 (StreamInfo (number_at 4 y) (number_at 8 y)) 12 (omega arith)))

  moved_index : (y : List ℕ) → Moved 16 (index_piece offset y) (index_piece (later + offset) y)
  moved_index y = moved_needs 16 16 y _ _ (omega arith) (moved_piece 16 (Index (number_at 4 y) (number_at 8 y) (number_at 12 y)) 16 (omega arith))

  moved_stream_end : (counted : ℕ) (y : List ℕ) → Moved 12 (stream_end_piece offset counted y) (stream_end_piece (later + offset) counted y)
  moved_stream_end counted y =
      moved_needs 12 12 y _ _ (omega arith) (moved_position 12 counted (number_at 4 y) _ _
      (moved_without 12 (number_at 8 y) _ _ (moved_piece 12 (StreamEnd (number_at 4 y) (number_at 8 y)) 12 (omega arith))))

  moved_info : (size : ℕ) (y : List ℕ) → Moved 4 (info_piece offset size y) (info_piece (later + offset) size y)
  moved_info size y =
      moved_less (4 + size) 4 _ _ (omega arith) (moved_needs (4 + size) (4 + size) y _ _ (omega arith) (moved_piece (4 + size) (Info size) (4 + size) (omega arith)))

  moved_out_of_band : (counted kind size : ℕ) (y : List ℕ)
      → Moved 4 (out_of_band_piece offset counted kind size y) (out_of_band_piece (later + offset) counted kind size y)
  moved_out_of_band counted kind size y =
      moved_if 4 (kind == 1) _ _ _ _ (λ _. moved_size 4 8 size _ _ (moved_less 12 4 _ _ (omega arith) (moved_stream_info counted y)))
      (λ _. moved_if 4 (kind == 2) _ _ _ _ (λ _. moved_size 4 12 size _ _ (moved_less 16 4 _ _ (omega arith) (moved_index y)))
      (λ _. moved_if 4 (kind == 3) _ _ _ _ (λ _. moved_size 4 8 size _ _ (moved_less 12 4 _ _ (omega arith) (moved_stream_end counted y)))
      (λ _. moved_if 4 (kind == 4) _ _ _ _ (λ _. moved_info size y)
      (λ _. moved_if 4 (kind == 13) _ _ _ _ (λ _. moved_size 4 3341 size _ _ (moved_piece 4 End 4 (omega arith)))
      (λ _. moved_fault 4 (UnknownType kind) _)))))

  moved_from : (counted : ℕ) (ended : Bool) (first : ℕ) (y : List ℕ)
      → Moved 1 (piece_from offset counted ended first y) (piece_from (later + offset) counted ended first y)
  moved_from counted ended first y =
      moved_if 1 (first == 13) _ _ _ _
      (λ _. moved_less 4 1 _ _ (omega arith) (moved_needs 4 4 y _ _ (omega arith) (moved_out_of_band counted (slice_index y 1) (little_number 2 (drop 2 y)) y)))
      (λ _. moved_if 1 ended _ _ _ _ (λ _. moved_fault 1 DataAfterEnd _) (λ _. moved_in_stream first y))

  pub moved_at : (counted : ℕ) (ended : Bool) (y : List ℕ) → Moved 1 (piece_at offset counted ended y) (piece_at (later + offset) counted ended y)
  moved_at counted ended y = moved_needs 1 1 y _ _ (omega arith) (moved_from counted ended (slice_index y 0) y)
