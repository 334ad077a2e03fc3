-- Nibbles of values of six bits that stand one after another.
use Rattle.std.specs.Prelude.{◌≡◌, ℕ, zero, suc, ◌+◌, ◌*◌, ◌<◌, ◌≤◌, Bool, List, [], ◌∷◌, ◌++◌}
use Rattle.std.specs.Prelude.{length, get_or, map}
use Rattle.std.proofs.Common.{ap, sym, ◌∙◌, arith}
use Rattle.std.proofs.lemmas.List.{get_or-map, length-map}
use Rattle.track_rings.specs.lemmas.Fronts.{AgreeTo}
use Rattle.apple_nibbles.specs.Nibbles.{nibble}
use Rattle.apple_nibbles.specs.lemmas.FieldBytes.{AreFieldBytes, IsFieldByte-nibble, bytes-read}
use Rattle.apple_nibbles.specs.lemmas.FieldBytes.{length-bytes_cells, same_byte}
use Rattle.apple_nibbles.specs.lemmas.NibbleLaws.{one_value}
use Rattle.macintosh_gcr.specs.Coding.{AreSixBits}
use Rattle.macintosh_gcr.specs.Layout.{nibble_cells}
use Rattle.macintosh_gcr.specs.Sectors.{NibblesAt}

-- one value more
pub six-more : (value : ℕ) (values : List ℕ) → value < 64 → AreSixBits values
    → AreSixBits (value ∷ values)
six-more value values low fit zero = low
six-more value values low fit (suc k) = fit k

-- their nibbles are bytes that fields are made of
pub field-nibbles : (values : List ℕ) → AreSixBits values → AreFieldBytes (map nibble values)
field-nibbles [] fit = tt
field-nibbles (value ∷ values) fit =
    (IsFieldByte-nibble value (fit 0), field-nibbles values (λ k. fit (suc k)))

pub length-nibble_cells : (values : List ℕ) → length (nibble_cells values) ≡ 8 * length values
length-nibble_cells values =
    length-bytes_cells (map nibble values) ∙ ap (λ (n : ℕ). 8 * n) (length-map values nibble)

-- they read back
pub nibbles-read : (front : List Bool) (values : List ℕ) (rest : List Bool) (place : ℕ)
    → length front ≡ place → AreSixBits values
    → NibblesAt (front ++ (nibble_cells values ++ rest)) place values
nibbles-read front values rest place is fit k within =
    bytes-read front (map nibble values) rest place k is (field-nibbles values fit)
    (omega (arith, length-map values nibble, within))
    ∙ get_or-map nibble values k 0 0 within

-- in cells that agree they stand too
pub nibbles-agree : (total : ℕ) (cells others : List Bool) (place : ℕ) (values : List ℕ)
    → AgreeTo total cells others
    → place + 8 * length values ≤ total → NibblesAt cells place values
    → NibblesAt others place values
nibbles-agree total cells others place values same long stand k within =
    same_byte total cells others same (place + 8 * k) (omega (arith, within, long)) ∙ stand k within

-- and at one place stand those of one value
pub one_nibble : (byte other : ℕ) (xs ys : List ℕ) (k : ℕ) → AreSixBits xs → AreSixBits ys
    → other ≡ byte
    → byte ≡ nibble (get_or xs k 0) → other ≡ nibble (get_or ys k 0) → get_or xs k 0 ≡ get_or ys k 0
one_nibble byte other xs ys k fit also same first second =
    one_value (get_or xs k 0) (get_or ys k 0) (fit k) (also k) (sym first ∙ sym same ∙ second)
