-- Steps of the crate's own functions, over what `Copies` defines.
use Rattle.std.specs.Prelude.{ℕ, ◌+◌, ◌<◌, Bool, cond, List, All}
use Rattle.std.specs.List.{list_any}
use Rattle.std.specs.Str.{bytes_eq}
use Rattle.sector_copies.specs.Copies.{Copy}

-- what is told of a content with one more reading, where that holds it
abbrev pub with_reading : List ℕ → Copy → Copy
with_reading bytes copy =
    cond (bytes_eq copy.bytes bytes)
    (record { bytes = copy.bytes; readings = copy.readings + 1; first = copy.first }) copy

-- a content is among those that are kept
abbrev pub is_kept : List ℕ → List Copy → Bool
is_kept bytes copies = list_any (λ c. bytes_eq c.bytes bytes) copies

-- all numbers are below this one
abbrev pub AreFewer : ℕ → List Copy → Type 0
AreFewer bound copies = All (λ c. c.readings < bound) copies
