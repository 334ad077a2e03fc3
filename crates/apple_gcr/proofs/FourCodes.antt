-- Nibbles that stand one right behind the other are read alike by every rule, since each begins with a one.
use Rattle.std.proofs.Common.{◌≡◌, ℕ, ◌+◌, ◌*◌, ◌<◌, ◌≤◌, ◌++◌, Bool, List, [], ◌∷◌, arith, get_or, subst, sym}
use Rattle.std.specs.Int.Bits.{bit_xor}
use Rattle.apple_nibbles.specs.Nibbles.{disk_byte, nibble}
use Rattle.apple_nibbles.specs.lemmas.FieldBytes.{IsFieldByte-nibble}
use Rattle.apple_gcr.specs.DiskBytes.{byte_place, byte_read, bytes_end}
use Rattle.apple_gcr.specs.lemmas.ByteLaws.{place-here}
use Rattle.apple_gcr.proofs.Values.{AreRead, more-read}
use Rattle.apple_gcr.proofs.Walk.{begin-next, read-here}

-- a value's nibble stands there
abbrev pub IsNibbleAt : List Bool → ℕ → ℕ → Type 0
IsNibbleAt cells code place = (code < 64) × (nibble code ≡ disk_byte cells place)

module _ (passed : ℕ) (cells : List Bool) (from : ℕ) where
  -- so many values are read, and the next one at a place
  abbrev pub AreReadTo : List ℕ → ℕ → ℕ → ℕ → Type 0
  AreReadTo values count last place = AreRead (byte_read passed cells from) values count last × (place ≡ bytes_end passed cells from count)

  step : (values : List ℕ) (count last place code : ℕ) → AreReadTo values count last place → IsNibbleAt cells code place
      → AreReadTo (values ++ bit_xor last code ∷ []) (count + 1) (bit_xor last code) (place + 8)
  step values count last place code read stands =
      let high : 128 ≤ disk_byte cells place = subst (λ (n : ℕ). 128 ≤ n) stands.1 (IsFieldByte-nibble code stands.0).high in
      let at : place ≡ byte_place passed cells place = sym (place-here passed cells place high) in
      let here : nibble code ≡ byte_read passed cells from count = read-here passed cells from count place read.1 place at (nibble code) stands.1 in
      (more-read (byte_read passed cells from) values count last code read.0 stands.0 here, begin-next passed cells from count place read.1 place at)

  -- four more
  pub four-read : (values codes : List ℕ) (count last place : ℕ) → AreReadTo values count last place
      → ((k : ℕ) → k < 4 → IsNibbleAt cells (get_or codes k 0) (place + 8 * k))
      → (let first = bit_xor last (get_or codes 0 0) in
      let second = bit_xor first (get_or codes 1 0) in
      let third = bit_xor second (get_or codes 2 0) in
      let fourth = bit_xor third (get_or codes 3 0) in
      AreReadTo ((((values ++ first ∷ []) ++ second ∷ []) ++ third ∷ []) ++ fourth ∷ []) (count + 4) fourth (place + 32))
  four-read values codes count last place read stand =
      let at : (k next : ℕ) → k < 4 → place + 8 * k ≡ next → IsNibbleAt cells (get_or codes k 0) next =
      λ k next few same. subst (IsNibbleAt cells (get_or codes k 0)) same (stand k few) in
      let a = get_or codes 0 0 in
      let b = get_or codes 1 0 in
      let c = get_or codes 2 0 in
      let d = get_or codes 3 0 in
      let first = bit_xor last a in
      let second = bit_xor first b in
      let third = bit_xor second c in
      let fourth = bit_xor third d in
      let one = values ++ first ∷ [] in
      let two = one ++ second ∷ [] in
      let three = two ++ third ∷ [] in
      let all = three ++ fourth ∷ [] in
      let after : AreReadTo all (count + 1 + 1 + 1 + 1) fourth (place + 8 + 8 + 8 + 8) =
      step three (count + 1 + 1 + 1) third (place + 8 + 8 + 8) d
      (step two (count + 1 + 1) second (place + 8 + 8) c
      (step one (count + 1) first (place + 8) b
      (step values count last place a read (at 0 place (omega arith) (omega arith)))
      (at 1 (place + 8) (omega arith) (omega arith)))
      (at 2 (place + 8 + 8) (omega arith) (omega arith)))
      (at 3 (place + 8 + 8 + 8) (omega arith) (omega arith)) in
      subst (λ (n : ℕ). AreReadTo all n fourth (place + 32)) (omega arith)
      (subst (λ (n : ℕ). AreReadTo all (count + 1 + 1 + 1 + 1) fourth n) (omega arith) after)
