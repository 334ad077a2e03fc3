-- A drive of a steady speed, whose transitions are each displaced as far as may be, late or early.
use Rattle.std.specs.Prelude.{◌≡◌, ◌<◌, ◌≤◌, ℕ, ◌+◌, ◌-◌, ◌*◌, ◌/◌, pos, ◌-ℤ◌, nat_abs, Bool, true, false}
use Rattle.std.proofs.Common.{arith}
use Rattle.std.proofs.lemmas.Int.{ints}
use Rattle.std.proofs.Math.Nat.{mul-le-mul_right}
use Rattle.law_stated_captures.specs.Reaching.{IsFurthest}

-- the time in ticks of a transition with this ideal place, displaced by so much, late or early
abbrev pub time_of : Bool → (off ideal : ℕ) → ℕ
time_of true off ideal = (ideal + off) / 1024
time_of false off ideal = (ideal - off + 1023) / 1024

-- the first ideal place, so that the first transition is at this time
abbrev pub base_of : Bool → (off begin : ℕ) → ℕ
base_of true off begin = 1024 * begin - off
base_of false off begin = 1024 * begin + off

pub near_time : (late : Bool) (nominal ideal : ℕ) → 16384 ≤ nominal → nominal / 8 ≤ ideal
    → 8 * nat_abs (pos (1024 * time_of late (nominal / 8) ideal) -ℤ pos ideal) ≤ nominal
near_time true nominal ideal least from = omega (arith, ints)
near_time false nominal ideal least from = omega (arith, ints)

pub furthest_time : (late : Bool) (nominal ideal : ℕ) → 16384 ≤ nominal → nominal / 8 ≤ ideal
    → IsFurthest late nominal (time_of late (nominal / 8) ideal) (pos ideal)
furthest_time true nominal ideal least from = omega (arith, ints)
furthest_time false nominal ideal least from = omega (arith, ints)

pub first_time : (late : Bool) (off begin : ℕ) → off ≤ 16384 → 32 ≤ begin → time_of late off (base_of late off begin) ≡ begin
first_time true off begin most least = omega arith
first_time false off begin most least = omega arith

pub base_from : (late : Bool) (off begin : ℕ) → off ≤ 16384 → 32 ≤ begin → off ≤ base_of late off begin
base_from true off begin most least = omega arith
base_from false off begin most least = omega arith

pub base_to : (late : Bool) (off begin : ℕ) → off ≤ 16384 → base_of late off begin ≤ 1024 * begin + 16384
base_to true off begin most = omega arith
base_to false off begin most = omega arith

-- from a time to a later one
pub later_time : (late next : Bool) (off ideal further : ℕ) → 512 ≤ off → off ≤ ideal → ideal + 4 * off ≤ further → time_of late off ideal ≤ time_of next off further
later_time true true off ideal further least from later = omega arith
later_time true false off ideal further least from later = omega arith
later_time false true off ideal further least from later = omega arith
later_time false false off ideal further least from later = omega arith

pub close_time : (late next : Bool) (off ideal further : ℕ) → off ≤ 16384 → off ≤ ideal → further ≤ ideal + 600000 → time_of next off further < time_of late off ideal + 65536
close_time true true off ideal further most from close = omega arith
close_time true false off ideal further most from close = omega arith
close_time false true off ideal further most from close = omega arith
close_time false false off ideal further most from close = omega arith

pub time_to : (late : Bool) (off ideal : ℕ) → off ≤ 16384 → 1024 * time_of late off ideal ≤ ideal + 17408
time_to true off ideal most = omega arith
time_to false off ideal most = omega arith

-- one to four cells at a local period
pub steps_from : (steps period : ℕ) → 1 ≤ steps → period ≤ steps * period
steps_from steps period some = (let one : 1 * period ≤ steps * period = mul-le-mul_right period some in omega (arith, one))

pub steps_to : (steps most period : ℕ) → steps ≤ most → steps * period ≤ most * period
steps_to steps most period few = mul-le-mul_right period few
