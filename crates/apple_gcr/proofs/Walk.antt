-- Disk bytes that are read one after another.
use Rattle.std.proofs.Common.{◌≡◌, ℕ, ◌+◌, ◌*◌, ◌<◌, ◌≤◌, Bool, true, false, List, [], ◌∷◌, ap, refl, sym, ◌∙◌, arith, drop, get_or, take}
use Rattle.std.proofs.lemmas.List.{get_or-drop}
use Rattle.apple_gcr.specs.DiskBytes.{BeginAt, byte_place, byte_read, bytes_end, zeros_first, zeros_passed}
use Rattle.apple_nibbles.specs.Nibbles.{disk_byte}
use Rattle.apple_gcr.specs.declared.disk_bytes.ByteRule.{ByteRule}
use Rattle.apple_gcr.specs.lemmas.ByteLaws.{byte-within, end-most, end-next, place-least, zeros-few}

-- the place after so many bytes, at which the next is read
module _ (passed : ℕ) (cells : List Bool) (from k place : ℕ) (is : place ≡ bytes_end passed cells from k) where
  -- it and the byte lie before the end of more
  pub place-before : (count : ℕ) → k < count → place + 8 ≤ bytes_end passed cells from count
  place-before count within =
      omega (arith, is, byte-within passed cells from k count within, place-least passed cells (bytes_end passed cells from k))

  module _ (begin : ℕ) (at : begin ≡ byte_place passed cells place) where
    begin-is : begin ≡ byte_place passed cells (bytes_end passed cells from k)
    begin-is = at ∙ ap (byte_place passed cells) is

    pub begin-before : (count : ℕ) → k < count → begin + 8 ≤ bytes_end passed cells from count
    begin-before count within = omega (arith, begin-is, byte-within passed cells from k count within)

    pub begin-next : begin + 8 ≡ bytes_end passed cells from (k + 1)
    begin-next = ap (λ (n : ℕ). n + 8) begin-is ∙ sym (end-next passed cells from k)

    pub read-here : (byte : ℕ) → byte ≡ disk_byte cells begin → byte ≡ byte_read passed cells from k
    unfolding byte_read
    read-here byte same = same ∙ ap (disk_byte cells) begin-is

-- it is near
pub place-near : (rule : ByteRule) (cells : List Bool) (from k place : ℕ) → place ≡ bytes_end (zeros_passed rule) cells from k → place ≤ from + 15 * k
place-near rule cells from k place is = omega (arith, is, end-most (zeros_passed rule) (zeros-few rule) cells from k)

-- a byte that begins with a one begins at its place by the controller's rule
zeros_none : (cells : List Bool) → get_or cells 0 false ≡ true → zeros_first (take 7 cells) ≡ 0
unfolding zeros_first
zeros_none [] one = absurd cc
zeros_none (true ∷ cells) one = refl
zeros_none (false ∷ cells) one = absurd cc

begins : (cells : List Bool) (place : ℕ) → get_or cells place false ≡ true → byte_place 7 cells place ≡ place
unfolding byte_place
begins cells place one =
    let here : place + 0 ≡ place = omega arith in
    let first : get_or (drop place cells) 0 false ≡ true = get_or-drop place cells 0 false ∙ ap (λ (n : ℕ). get_or cells n false) here ∙ one in
    ap (λ (n : ℕ). place + n) (zeros_none (drop place cells) first) ∙ here

-- four bytes more that begin with a one
pub four-next : (cells : List Bool) (from k place : ℕ) → place ≡ bytes_end 7 cells from k → BeginAt cells place 4
    → place + 32 ≡ bytes_end 7 cells from (k + 4)
four-next cells from k place is ones =
    let step : (j : ℕ) → j < 4 → place + 8 * j ≡ bytes_end 7 cells from (k + j) → place + 8 * (j + 1) ≡ bytes_end 7 cells from (k + j + 1) =
    λ j few so_far.
    let at : byte_place 7 cells (place + 8 * j) ≡ place + 8 * j = begins cells (place + 8 * j) (ones j few) in
    omega (arith, at, end-next 7 cells from (k + j), ap (byte_place 7 cells) so_far) in
    let none : place + 8 * 0 ≡ bytes_end 7 cells from (k + 0) =
    let e : k ≡ k + 0 = omega arith in
    omega (arith, is, ap (bytes_end 7 cells from) e) in
    let one = step 0 (omega arith) none in
    let e1 : k + 0 + 1 ≡ k + 1 = omega arith in
    let two = step 1 (omega arith) (omega (arith, one, ap (bytes_end 7 cells from) e1)) in
    let e2 : k + 1 + 1 ≡ k + 2 = omega arith in
    let three = step 2 (omega arith) (omega (arith, two, ap (bytes_end 7 cells from) e2)) in
    let e3 : k + 2 + 1 ≡ k + 3 = omega arith in
    let four = step 3 (omega arith) (omega (arith, three, ap (bytes_end 7 cells from) e3)) in
    let e4 : k + 3 + 1 ≡ k + 4 = omega arith in
    omega (arith, four, ap (bytes_end 7 cells from) e4)
