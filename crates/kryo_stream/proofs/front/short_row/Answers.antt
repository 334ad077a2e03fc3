use Rattle.std.proofs.Common.{◌≤◌, ℕ, List, nat_le, length, arith, sym, ◌∙◌}
use Rattle.std.proofs.lemmas.Simd.{bitmask_splat, length-chunk}
use lib.Lanes.{chunk}
use mir.Syntax.{w8}
use Rattle.kryo_stream.proofs.Lanes.{row_of_none, row_of_some}
use Rattle.kryo_stream.proofs.front.short_row.Goals as goal

pub returns-then-longer-eq0-clause-short : goal.returns-then-longer-eq0-clause-short
returns-then-longer-eq0-clause-short c =
    let bytes : List ℕ = c.args.bytes.now in
    let room : 16 ≤ length bytes = omega (arith, c.if-bytes-lt-LANES.false) in
    let mask = bitmask_splat w8 nat_le (chunk 0 16 bytes) 16 13 (length-chunk 0 16 bytes room) (omega arith) in
    (row_of_none bytes room (λ i. omega (arith, c.type_inv.bytes i)) (sym mask ∙ c.if-longer-eq0.true)).short

pub returns-clause-short : goal.returns-clause-short
returns-clause-short c =
    let bytes : List ℕ = c.args.bytes.now in
    let room : 16 ≤ length bytes = omega (arith, c.if-bytes-lt-LANES.false) in
    let mask = bitmask_splat w8 nat_le (chunk 0 16 bytes) 16 13 (length-chunk 0 16 bytes room) (omega arith) in
    rw mask (row_of_some bytes room (λ i. omega (arith, c.type_inv.bytes i)) (omega (arith, mask, c.if-longer-eq0.false))).short

pub returns-clause-some : goal.returns-clause-some
returns-clause-some c =
    let bytes : List ℕ = c.args.bytes.now in
    let room : 16 ≤ length bytes = omega (arith, c.if-bytes-lt-LANES.false) in
    let mask = bitmask_splat w8 nat_le (chunk 0 16 bytes) 16 13 (length-chunk 0 16 bytes room) (omega arith) in
    rw mask ((row_of_some bytes room (λ i. omega (arith, c.type_inv.bytes i)) (omega (arith, mask, c.if-longer-eq0.false))).some c.requires.first)

pub returns-clause-inside : goal.returns-clause-inside
returns-clause-inside c =
    let bytes : List ℕ = c.args.bytes.now in
    let room : 16 ≤ length bytes = omega (arith, c.if-bytes-lt-LANES.false) in
    let mask = bitmask_splat w8 nat_le (chunk 0 16 bytes) 16 13 (length-chunk 0 16 bytes room) (omega arith) in
    let row = row_of_some bytes room (λ i. omega (arith, c.type_inv.bytes i)) (omega (arith, mask, c.if-longer-eq0.false)) in
    rw mask (omega (arith, row.few, room))

pub returns-clause-few : goal.returns-clause-few
returns-clause-few c =
    let bytes : List ℕ = c.args.bytes.now in
    let room : 16 ≤ length bytes = omega (arith, c.if-bytes-lt-LANES.false) in
    let mask = bitmask_splat w8 nat_le (chunk 0 16 bytes) 16 13 (length-chunk 0 16 bytes room) (omega arith) in
    rw mask (row_of_some bytes room (λ i. omega (arith, c.type_inv.bytes i)) (omega (arith, mask, c.if-longer-eq0.false))).few
