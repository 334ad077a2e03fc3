use Rattle.std.proofs.Common.{◌≡◌, ℕ, ◌<◌, get_or, length}
use Rattle.apple_gcr.specs.DiskBytes.{byte_read, bytes_end, zeros_passed}
use Rattle.apple_gcr.proofs.header.address_bytes.Given as goal

abbrev pub invariant-loop : goal.invariant-loop
invariant-loop l =
    (length l.address.items ≡ l.counter)
    × ((k : ℕ) → k < l.counter → get_or l.address.items k 0 ≡ byte_read (zeros_passed l.rule) l.frame 24 k)
    × (l.place ≡ bytes_end (zeros_passed l.rule) l.frame 24 l.counter)
