-- The coding of data fields: how many values bytes have, that these have six bits,
-- and that bytes are told by them.
use Rattle.std.specs.Prelude.{◌≡◌, ℕ, zero, suc, ◌+◌, ◌*◌, ◌/◌, ◌%◌, ◌<◌, List, [], ◌∷◌, ◌++◌}
use Rattle.std.specs.Prelude.{length, get_or, map, replicate, bit_xor}
use Rattle.std.specs.List.{range_with_len}
use Rattle.std.proofs.Common.{ap, sym, subst, ◌∙◌, arith, lit<}
use Rattle.std.proofs.lemmas.List.{ext_get_or, length-map}
use Rattle.std.proofs.lemmas.List.FromFn.{get_or-map-range_with_len, length-range_with_len}
use Rattle.std.proofs.lemmas.Nat.{xor_of_8}
use Rattle.track_rings.specs.Rings.{AreBytes}
use Rattle.apple_nibbles.specs.lemmas.NibbleLaws.{xor-undo}
use Rattle.macintosh_gcr.specs.Coding.{AreSixBits, a_sum, after_three, after_two, b_sum, c_sum}
use Rattle.macintosh_gcr.specs.Coding.{check_values, data_values, stored_first, stored_second}
use Rattle.macintosh_gcr.specs.Coding.{stored_third, turned, with_tags}
use Rattle.macintosh_gcr.specs.declared.sums.Sums.{Sums}
use Rattle.macintosh_gcr.specs.lemmas.Values.{six-more}

-- groups of three bytes have four values each; two bytes have three,
-- and with the check values seven
pub data-length : (groups spare : ℕ) (sums : Sums) (bytes : List ℕ) → length bytes ≡ 3 * groups + 2
    → length (data_values spare sums bytes) ≡ 4 * groups + 7
unfolding data_values
data-length groups spare sums (x ∷ y ∷ []) size = omega (arith, size)
data-length (suc groups) spare sums (x ∷ y ∷ z ∷ bytes) size =
    let more = data-length groups spare (after_three sums x y z) bytes (omega (arith, size)) in
    omega (arith, more)
data-length groups spare sums bytes size = absurd (omega (arith, size))

-- sums of eight bits
pub record AreSums (sums : Sums) : Type 0 where
  pub a : sums.a < 256
  pub b : sums.b < 256
  pub c : sums.c < 256

turned-fits : (byte : ℕ) → byte < 256 → turned byte < 256
turned-fits byte low = omega arith

low-fits : (sum : ℕ) → sum % 256 < 256
low-fits sum = omega arith

two-fit : (sums : Sums) (x y : ℕ) → AreSums sums → AreSums (after_two sums x y)
two-fit sums x y fit = record {
  a = turned-fits sums.a fit.a;
  b = low-fits (b_sum sums x y);
  c = low-fits (c_sum sums x);
}

three-fit : (sums : Sums) (x y z : ℕ) → AreSums (after_three sums x y z)
three-fit sums x y z = record {
  a = low-fits (a_sum sums x y z);
  b = low-fits (b_sum sums x y);
  c = low-fits (c_sum sums x);
}

stored-fit : (byte mask : ℕ) → byte < 256 → mask < 256 → bit_xor byte mask < 256
stored-fit byte mask low also = xor_of_8 byte mask low also

high-fits : (u v w : ℕ) → u < 256 → v < 256 → w < 4 → 16 * (u / 64) + 4 * (v / 64) + w < 64
high-fits u v w first second third = omega arith

quarter-fits : (byte : ℕ) → byte < 256 → byte / 64 < 4
quarter-fits byte low = omega arith

six-fits : (byte : ℕ) → byte % 64 < 64
six-fits byte = omega arith

check-high : (a b c : ℕ) → a < 256 → b < 256 → c < 256 → a / 64 + 4 * (b / 64) + 16 * (c / 64) < 64
check-high a b c first second third = omega arith

pub nothing-fits : AreSixBits []
nothing-fits k = lit< tt

four-fit : (first second third fourth : ℕ) (values : List ℕ) → first < 64 → second < 64 → third < 64
    → fourth < 64 → AreSixBits values
    → AreSixBits (first ∷ second ∷ third ∷ fourth ∷ values)
four-fit first second third fourth values one two three four fit =
    six-more first (second ∷ third ∷ fourth ∷ values) one
    (six-more second (third ∷ fourth ∷ values) two
    (six-more third (fourth ∷ values) three (six-more fourth values four fit)))

check-fit : (sums : Sums) → AreSums sums → AreSixBits (check_values sums)
check-fit sums fit =
    four-fit (sums.a / 64 + 4 * (sums.b / 64) + 16 * (sums.c / 64)) (sums.c % 64) (sums.b % 64)
    (sums.a % 64) []
    (check-high sums.a sums.b sums.c fit.a fit.b fit.c) (six-fits sums.c) (six-fits sums.b)
    (six-fits sums.a) nothing-fits

-- the values of bytes have six bits
pub data-fit : (spare : ℕ) (sums : Sums) (bytes : List ℕ) → spare < 4 → AreSums sums
    → AreBytes bytes → AreSixBits (data_values spare sums bytes)
unfolding data_values AreBytes
data-fit spare sums [] few fit are = check-fit sums fit
data-fit spare sums (x ∷ []) few fit are = check-fit sums fit
data-fit spare sums (x ∷ y ∷ []) few fit are =
    let u : stored_first sums x < 256 =
    stored-fit x (turned sums.a) are.0 (turned-fits sums.a fit.a) in
    let v : stored_second sums x y < 256 =
    stored-fit y (c_sum sums x % 256) are.1.0 (low-fits (c_sum sums x)) in
    let one = stored_first sums x in
    let two = stored_second sums x y in
    let check = check_values (after_two sums x y) in
    six-more (16 * (one / 64) + 4 * (two / 64) + spare) (one % 64 ∷ two % 64 ∷ check)
    (high-fits one two spare u v few)
    (six-more (one % 64) (two % 64 ∷ check) (six-fits one)
    (six-more (two % 64) check (six-fits two)
    (check-fit (after_two sums x y) (two-fit sums x y fit))))
data-fit spare sums (x ∷ y ∷ z ∷ bytes) few fit are =
    let u : stored_first sums x < 256 =
    stored-fit x (turned sums.a) are.0 (turned-fits sums.a fit.a) in
    let v : stored_second sums x y < 256 =
    stored-fit y (c_sum sums x % 256) are.1.0 (low-fits (c_sum sums x)) in
    let w : stored_third sums x y z < 256 =
    stored-fit z (b_sum sums x y % 256) are.1.1.0 (low-fits (b_sum sums x y)) in
    let one = stored_first sums x in
    let two = stored_second sums x y in
    let three = stored_third sums x y z in
    four-fit (16 * (one / 64) + 4 * (two / 64) + three / 64) (one % 64) (two % 64) (three % 64)
    (data_values spare (after_three sums x y z) bytes)
    (high-fits one two (three / 64) u v (quarter-fits three w)) (six-fits one) (six-fits two)
    (six-fits three)
    (data-fit spare (after_three sums x y z) bytes few (three-fit sums x y z) are.1.1.1)

-- the stored bytes of a group are told by its values
two-stored : (u v s t a b : ℕ) → u < 256 → v < 256 → s < 4 → t < 256 → a < 256 → b < 4
    → 16 * (u / 64) + 4 * (v / 64) + s ≡ 16 * (t / 64) + 4 * (a / 64) + b → u % 64 ≡ t % 64
    → v % 64 ≡ a % 64 → (u ≡ t) × (v ≡ a)
two-stored u v s t a b fu fv fs ft fa fb high first second =
    let top : u / 64 ≡ t / 64 = omega arith in
    let next : v / 64 ≡ a / 64 = omega arith in
    (omega (arith, top, first), omega (arith, next, second))

last-stored : (u v w t a b : ℕ) → u ≡ t → v ≡ a → w < 256 → b < 256
    → 16 * (u / 64) + 4 * (v / 64) + w / 64 ≡ 16 * (t / 64) + 4 * (a / 64) + b / 64
    → w % 64 ≡ b % 64 → w ≡ b
last-stored u v w t a b first second fw fb high third =
    let top = ap (λ (n : ℕ). n / 64) first in
    let next = ap (λ (n : ℕ). n / 64) second in
    let low : w / 64 ≡ b / 64 = omega (arith, high, top, next) in
    omega (arith, low, third)

xor-cancel : (x u mask : ℕ) → bit_xor x mask ≡ bit_xor u mask → x ≡ u
xor-cancel x u mask same =
    sym (xor-undo x mask) ∙ ap (λ (n : ℕ). bit_xor n mask) same ∙ xor-undo u mask

-- so many first values are the same
abbrev pub FirstSame : ℕ → List ℕ → List ℕ → Type 0
FirstSame count xs ys = (k : ℕ) → k < count → get_or xs k 0 ≡ get_or ys k 0

-- and a group's bytes by the stored ones
module _ (sums : Sums) (x y u v : ℕ) where
  two-plain : stored_first sums x ≡ stored_first sums u
      → stored_second sums x y ≡ stored_second sums u v → (x ≡ u) × (y ≡ v)
  two-plain first second =
      let one = xor-cancel x u (turned sums.a) first in
      let moved : stored_second sums x y ≡ stored_second sums x v =
      second ∙ ap (λ (n : ℕ). stored_second sums n v) (sym one) in
      (one, xor-cancel y v (c_sum sums x % 256) moved)

  three-plain : (z w : ℕ) → stored_first sums x ≡ stored_first sums u
      → stored_second sums x y ≡ stored_second sums u v
      → stored_third sums x y z ≡ stored_third sums u v w → z ≡ w
  three-plain z w first second third =
      let two = two-plain first second in
      let moved : stored_third sums x y z ≡ stored_third sums x y w =
      third ∙ ap (λ (n : ℕ). stored_third sums n v w) (sym two.0)
      ∙ ap (λ (n : ℕ). stored_third sums x n w) (sym two.1) in
      xor-cancel z w (b_sum sums x y % 256) moved

-- the values before the check values tell the bytes
pub one_plain : (groups spare other : ℕ) (sums : Sums) (xs ys : List ℕ) → length xs ≡ 3 * groups + 2
    → length ys ≡ 3 * groups + 2
    → spare < 4 → other < 4 → AreSums sums → AreBytes xs → AreBytes ys
    → FirstSame (4 * groups + 3) (data_values spare sums xs) (data_values other sums ys) → xs ≡ ys
unfolding data_values AreBytes
one_plain groups spare other sums (x ∷ y ∷ []) (u ∷ v ∷ []) long also few little fit are be same =
    let stored = two-stored (stored_first sums x) (stored_second sums x y) spare
    (stored_first sums u) (stored_second sums u v) other
    (stored-fit x (turned sums.a) are.0 (turned-fits sums.a fit.a))
    (stored-fit y (c_sum sums x % 256) are.1.0 (low-fits (c_sum sums x))) few
    (stored-fit u (turned sums.a) be.0 (turned-fits sums.a fit.a))
    (stored-fit v (c_sum sums u % 256) be.1.0 (low-fits (c_sum sums u))) little
    (same 0 (omega arith)) (same 1 (omega arith)) (same 2 (omega arith)) in
    let two = two-plain sums x y u v stored.0 stored.1 in
    ap (λ (n : ℕ). let some : List ℕ = n ∷ y ∷ [] in some) two.0
    ∙ ap (λ (n : ℕ). let some : List ℕ = u ∷ n ∷ [] in some) two.1
one_plain (suc groups) spare other sums (x ∷ y ∷ z ∷ xs) (u ∷ v ∷ w ∷ ys) long also few little fit
    are be same =
    let fz = stored-fit z (b_sum sums x y % 256) are.1.1.0 (low-fits (b_sum sums x y)) in
    let fw = stored-fit w (b_sum sums u v % 256) be.1.1.0 (low-fits (b_sum sums u v)) in
    let stored = two-stored (stored_first sums x) (stored_second sums x y)
    (stored_third sums x y z / 64) (stored_first sums u) (stored_second sums u v)
    (stored_third sums u v w / 64)
    (stored-fit x (turned sums.a) are.0 (turned-fits sums.a fit.a))
    (stored-fit y (c_sum sums x % 256) are.1.0 (low-fits (c_sum sums x)))
    (quarter-fits (stored_third sums x y z) fz)
    (stored-fit u (turned sums.a) be.0 (turned-fits sums.a fit.a))
    (stored-fit v (c_sum sums u % 256) be.1.0 (low-fits (c_sum sums u)))
    (quarter-fits (stored_third sums u v w) fw)
    (same 0 (omega arith)) (same 1 (omega arith)) (same 2 (omega arith)) in
    let last = last-stored (stored_first sums x) (stored_second sums x y) (stored_third sums x y z)
    (stored_first sums u) (stored_second sums u v)
    (stored_third sums u v w) stored.0 stored.1 fz fw (same 0 (omega arith))
    (same 3 (omega arith)) in
    let two = two-plain sums x y u v stored.0 stored.1 in
    let three = three-plain sums x y u v z w stored.0 stored.1 last in
    let after : after_three sums x y z ≡ after_three sums u v w =
    ap (λ (n : ℕ). after_three sums n y z) two.0 ∙ ap (λ (n : ℕ). after_three sums u n z) two.1
    ∙ ap (λ (n : ℕ). after_three sums u v n) three in
    let rest : FirstSame (4 * groups + 3) (data_values spare (after_three sums x y z) xs)
    (data_values other (after_three sums x y z) ys) =
    subst
    (λ (s : Sums).
    FirstSame (4 * groups + 3) (data_values spare (after_three sums x y z) xs)
    (data_values other s ys)) (sym after)
    (λ k below. same (suc (suc (suc (suc k)))) (omega (arith, below))) in
    let more = one_plain groups spare other (after_three sums x y z) xs ys (omega (arith, long))
    (omega (arith, also)) few little (three-fit sums x y z)
    are.1.1.1 be.1.1.1 rest in
    ap (λ (n : ℕ). n ∷ y ∷ z ∷ xs) two.0 ∙ ap (λ (n : ℕ). u ∷ n ∷ z ∷ xs) two.1
    ∙ ap (λ (n : ℕ). u ∷ v ∷ n ∷ xs) three
    ∙ ap (λ (more : List ℕ). u ∷ v ∷ w ∷ more) more
one_plain groups spare other sums xs ys long also few little fit are be same =
    absurd (omega (arith, long, also))

-- each of a list of bytes
each-byte : (bytes : List ℕ) → AreBytes bytes → (k : ℕ) → get_or bytes k 0 < 256
unfolding AreBytes
each-byte [] fit k = lit< tt
each-byte (byte ∷ bytes) fit zero = fit.0
each-byte (byte ∷ bytes) fit (suc k) = each-byte bytes fit.1 k

after-zeros : (count : ℕ) (bytes : List ℕ) → AreBytes bytes → AreBytes (replicate count 0 ++ bytes)
unfolding AreBytes
after-zeros zero bytes fit = fit
after-zeros (suc count) bytes fit = (lit< tt, after-zeros count bytes fit)

are-map : (f : ℕ → ℕ) → ((k : ℕ) → f k < 256) → (ks : List ℕ) → AreBytes (map f ks)
unfolding AreBytes
are-map f each [] = tt
are-map f each (k ∷ ks) = (each k, are-map f each ks)

-- a sector's bytes with tags before them
pub length-with_tags : (bytes : List ℕ) → length (with_tags bytes) ≡ 524
unfolding with_tags
length-with_tags bytes =
    length-map (range_with_len 0 524) (λ k. get_or (replicate 12 0 ++ bytes) k 0)
    ∙ length-range_with_len 0 524

pub get_or-with_tags : (bytes : List ℕ) (k : ℕ) → k < 524
    → get_or (with_tags bytes) k 0 ≡ get_or (replicate 12 0 ++ bytes) k 0
unfolding with_tags
get_or-with_tags bytes k within =
    get_or-map-range_with_len (λ k. get_or (replicate 12 0 ++ bytes) k 0) 0 524 k k 0 within
    (omega arith)

pub with_tags-is : (bytes : List ℕ) → length bytes ≡ 512 → with_tags bytes ≡ replicate 12 0 ++ bytes
with_tags-is bytes size =
    ext_get_or 0 (with_tags bytes) (replicate 12 0 ++ bytes)
    (omega (arith, length-with_tags bytes, size))
    (λ k within. get_or-with_tags bytes k (omega (arith, length-with_tags bytes, within)))

pub with_tags-fit : (bytes : List ℕ) → AreBytes bytes → AreBytes (with_tags bytes)
unfolding with_tags
with_tags-fit bytes fit =
    are-map (λ k. get_or (replicate 12 0 ++ bytes) k 0)
    (each-byte (replicate 12 0 ++ bytes) (after-zeros 12 bytes fit)) (range_with_len 0 524)
