-- How far the ones of fields, marks and self-syncs are apart: no three zeros come in a row, and any
-- of them may follow any other.
use Rattle.std.specs.Prelude.{◌≡◌, ℕ, zero, suc, ◌+◌, ◌<◌, Bool, true, false, List, [], ◌∷◌, refl}
use Rattle.std.specs.Prelude.{nat_le, nat_lt}
use Rattle.std.proofs.Common.{arith, lit<}
use Rattle.std.proofs.lemmas.Bool.Decides.{nat_tests}
use Rattle.cell_bits.specs.Word.{word_cells}
use Rattle.track_rings.specs.Spaced.{MayFollow, is_spaced, zeros_after}
use Rattle.track_rings.specs.lemmas.SpacedLaws.{cells-append, cells-none}
use Rattle.track_rings.specs.lemmas.Syncs.{both_true}
use Rattle.apple_nibbles.specs.Marks.{SELF_SYNC, self_syncs}
use Rattle.apple_nibbles.specs.Nibbles.{bytes_cells}
use Rattle.apple_nibbles.specs.lemmas.FieldBytes.{AreFieldBytes}

-- what may follow whatever stands before it: after two zeros it begins with a one, and
-- it has no three zeros in a row
abbrev pub FollowsAny : List Bool → Type 0
FollowsAny cells = MayFollow 1 3 2 false (λ before. cells)

-- No three zeros come in a row. After two of them cells begin with a one, and so they do after any.
spaced-any : (seen : ℕ) (cells : List Bool) → is_spaced 1 3 2 cells ≡ true
    → is_spaced 1 3 seen cells ≡ true
unfolding is_spaced
spaced-any seen [] spaced = refl
spaced-any seen (false ∷ cells) spaced = absurd (cc)
spaced-any seen (true ∷ cells) spaced =
    let near : nat_le 1 (seen + 1) ≡ true = grind (arith, nat_tests) in
    rw near spaced

few-last : (seen : ℕ) (cells : List Bool) → seen < 3 → is_spaced 1 3 seen cells ≡ true
    → zeros_after seen cells < 3
unfolding is_spaced zeros_after
few-last seen [] low spaced = low
few-last seen (true ∷ cells) low spaced =
    few-last 0 cells (lit< tt) (both_true (nat_le 1 (seen + 1)) _ spaced).1
few-last seen (false ∷ cells) low spaced =
    let both = both_true (nat_lt (seen + 1) 3) _ spaced in
    few-last (seen + 1) cells
    (let few : nat_lt (seen + 1) 3 ≡ true = both.0 in grind (arith, nat_tests)) both.1

pub follows : (cells : List Bool) → is_spaced 1 3 2 cells ≡ true → FollowsAny cells
follows cells spaced seen low =
    let any = spaced-any seen cells spaced in
    (any, (let few = few-last seen cells (omega (arith, low)) any in omega (arith, few)))

pub bytes-follow : (bytes : List ℕ) → AreFieldBytes bytes → FollowsAny (bytes_cells bytes)
bytes-follow [] all = cells-none 1 3 2
bytes-follow (byte ∷ bytes) all =
    cells-append 1 3 2 (word_cells 8 byte) (bytes_cells bytes)
    (follows (word_cells 8 byte) all.0.spaced) (bytes-follow bytes all.1)

self_sync-spaced : is_spaced 1 3 2 (word_cells 10 SELF_SYNC) ≡ true
unfolding is_spaced word_cells
self_sync-spaced = refl

pub self_syncs-follow : (count : ℕ) → FollowsAny (self_syncs count)
self_syncs-follow zero = cells-none 1 3 2
self_syncs-follow (suc count) =
    cells-append 1 3 2 (word_cells 10 SELF_SYNC) (self_syncs count)
    (follows (word_cells 10 SELF_SYNC) self_sync-spaced) (self_syncs-follow count)
