-- The rows of one of a track's sectors, of its part of the bytes of all.
use Rattle.std.proofs.Common.{◌≡◌, ℕ, ◌+◌, ◌-◌, ◌*◌, List, take, drop, arith, ap, ◌∙◌}
use Rattle.track_rings.specs.Rings.{bytes_of}
use Rattle.track_rings.specs.Rows.{Rows, parts_of, sector_parts, sector_rows}

pub sector_parts-at : {Row : Type 0} (first size : ℕ) (bytes : List ℕ) (table : Rows Row) (index : ℕ) {lowest place long : ℕ} {rows : List Row}
    → lowest ≡ first → place ≡ index → long ≡ size → rows ≡ sector_rows table
    → parts_of (lowest + index) (take (place * long + long - place * long) (drop (place * long) bytes)) rows
    ≡ sector_parts first size bytes table (first + index)
unfolding sector_parts
sector_parts-at first size bytes table index {lowest} {place} {long} {rows} low at whole same =
    let begin : ℕ = place * long in
    let count : begin + long - begin ≡ size = omega (arith, whole) in
    let offset : begin ≡ (first + index - first) * size =
    ap (λ (n : ℕ). n * long) at ∙ ap (λ (n : ℕ). index * n) whole
    ∙ ap (λ (n : ℕ). n * size) (let e : index ≡ first + index - first = omega arith in e) in
    ap (λ (n : ℕ). parts_of (n + index) (take (begin + long - begin) (drop begin bytes)) rows) low
    ∙ ap (λ (n : ℕ). parts_of (first + index) (take n (drop begin bytes)) rows) count
    ∙ ap (λ (n : ℕ). parts_of (first + index) (take size (drop n bytes)) rows) offset
    ∙ ap (parts_of (first + index) (bytes_of first size bytes (first + index))) same
