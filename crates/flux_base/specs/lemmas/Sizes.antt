-- The sizes of parts of one size.
use Rattle.std.specs.Prelude.{◌≡◌, ◌<◌, ◌≤◌, ℕ, ◌+◌, ◌*◌}
use Rattle.std.proofs.Common.{arith}
use Rattle.std.proofs.Math.Nat.{mul-le-mul_left}

-- so many sectors, and one more, are no more than all
pub one_more : (size slots sectors : ℕ) → slots < sectors → size * slots + size ≤ sectors * size
one_more size slots sectors below =
    let all : size * (slots + 1) ≤ size * sectors = mul-le-mul_left size (omega (arith, below)) in
    let last : size * (slots + 1) ≡ size * slots + size = omega arith in
    let turned : size * sectors ≡ sectors * size = omega arith in
    omega (arith, all, last, turned)
