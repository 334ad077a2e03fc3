-- Groups of bytes and values, written and read one after another.
use Rattle.std.proofs.Common.{◌≡◌, ℕ, zero, suc, ◌+◌, ◌*◌, ◌/◌, ◌%◌, ◌<◌, ◌≤◌, List, [], ◌∷◌, ◌++◌, length, take, drop, get_or, ap, sym, subst, ◌∙◌, arith, refl, append_assoc, length-append, Bool, replicate}
use Rattle.std.proofs.lemmas.List.{drop-drop, drop_all, drop_more, length-take, take-append-drop}
use Rattle.std.proofs.Math.ListN.{get_or-append}
use Rattle.std.proofs.Math.Seq.{drop-append-add, take-add}
use Rattle.std.specs.List.{flat_map}
use Rattle.cell_bits.specs.Word.{word_cells}
use Rattle.track_rings.specs.Rings.{AreBytes}
use Rattle.apple_nibbles.specs.Nibbles.{nibble}
use Rattle.macintosh_gcr.specs.Layout.{nibble_cells}
use Rattle.apple_nibbles.specs.lemmas.NibbleLaws.{xor-undo}
use Rattle.macintosh_gcr.specs.Coding.{AreSixBits, IsCoded, NO_SUMS, after_three, after_two, check_values, data_values, stored_first, stored_second, stored_third, three_values, two_values, with_tags}
use Rattle.macintosh_gcr.specs.declared.sums.Sums.{Sums}
use Rattle.macintosh_gcr.specs.lemmas.CodingLaws.{FirstSame, length-with_tags}
use Rattle.macintosh_gcr.specs.lemmas.OwnLaws.{coded-one}
use Rattle.macintosh_gcr.specs.lemmas.Taking.{TakesThree, TakesTwo}

-- the next three of a list, and the last two
pub next-three : (xs : List ℕ) (i : ℕ) → i + 2 < length xs
    → drop i xs ≡ get_or xs i 0 ∷ get_or xs (i + 1) 0 ∷ get_or xs (i + 2) 0 ∷ drop (i + 3) xs
next-three xs i within =
    let second : i + 1 + 1 ≡ i + 2 = omega arith in
    let third : i + 2 + 1 ≡ i + 3 = omega arith in
    drop_more xs i 0 (omega arith)
    ∙ ap (λ (rest : List ℕ). get_or xs i 0 ∷ rest) (drop_more xs (i + 1) 0 (omega arith))
    ∙ ap (λ (n : ℕ). get_or xs i 0 ∷ get_or xs (i + 1) 0 ∷ drop n xs) second
    ∙ ap (λ (rest : List ℕ). get_or xs i 0 ∷ get_or xs (i + 1) 0 ∷ rest) (drop_more xs (i + 2) 0 (omega arith))
    ∙ ap (λ (n : ℕ). get_or xs i 0 ∷ get_or xs (i + 1) 0 ∷ get_or xs (i + 2) 0 ∷ drop n xs) third

-- The values of the first groups, so many, and the sums after them.
pub record AreValues (bytes values : List ℕ) (sums : Sums) (groups : ℕ) : Type 0 where
  pub size : length values ≡ 4 * groups
  pub so_far : data_values 0 NO_SUMS (with_tags bytes) ≡ values ++ data_values 0 sums (drop (3 * groups) (with_tags bytes))

module _ (bytes values : List ℕ) (sums : Sums) (groups : ℕ) (before : AreValues bytes values sums groups) where
  -- one more group
  pub more-values : (first second third : ℕ) (more : List ℕ) → groups < 174 → first ≡ get_or (with_tags bytes) (3 * groups) 0
      → second ≡ get_or (with_tags bytes) (3 * groups + 1) 0 → third ≡ get_or (with_tags bytes) (3 * groups + 2) 0
      → more ≡ values ++ three_values (stored_first sums first) (stored_second sums first second) (stored_third sums first second third)
      → AreValues bytes more (after_three sums first second third) (groups + 1)
  unfolding data_values
  more-values first second third more few one two three is =
      let all = with_tags bytes in
      let group = three_values (stored_first sums first) (stored_second sums first second) (stored_third sums first second third) in
      let at : 3 * groups + 3 ≡ 3 * (groups + 1) = omega arith in
      let rest = drop (3 * (groups + 1)) all in
      let next : drop (3 * groups) all ≡ first ∷ second ∷ third ∷ rest =
      next-three all (3 * groups) (omega (arith, length-with_tags bytes, few))
      ∙ ap (λ (n : ℕ). n ∷ get_or all (3 * groups + 1) 0 ∷ get_or all (3 * groups + 2) 0 ∷ drop (3 * groups + 3) all) (sym one)
      ∙ ap (λ (n : ℕ). first ∷ n ∷ get_or all (3 * groups + 2) 0 ∷ drop (3 * groups + 3) all) (sym two)
      ∙ ap (λ (n : ℕ). first ∷ second ∷ n ∷ drop (3 * groups + 3) all) (sym three)
      ∙ ap (λ (n : ℕ). first ∷ second ∷ third ∷ drop n all) at in
      record {
        size = ap length is ∙ omega (arith, length-append values group, before.size);
        so_far = before.so_far ∙ ap (λ (some : List ℕ). values ++ data_values 0 sums some) next
            ∙ sym (append_assoc values group (data_values 0 (after_three sums first second third) rest))
            ∙ ap (λ (some : List ℕ). some ++ data_values 0 (after_three sums first second third) rest) (sym is);
      }

  -- and the last two bytes with the check values
  pub all-values : (first second : ℕ) (more : List ℕ) → groups ≡ 174 → first ≡ get_or (with_tags bytes) 522 0 → second ≡ get_or (with_tags bytes) 523 0
      → more ≡ values ++ (two_values 0 (stored_first sums first) (stored_second sums first second) ++ check_values (after_two sums first second))
      → more ≡ data_values 0 NO_SUMS (with_tags bytes)
  unfolding data_values
  all-values first second more all-groups one two is =
      let all = with_tags bytes in
      let at : 3 * groups ≡ 522 = omega (arith, all-groups) in
      let size = length-with_tags bytes in
      let next : drop (3 * groups) all ≡ first ∷ second ∷ [] =
      ap (λ (n : ℕ). drop n all) at ∙ drop_more all 522 0 (omega (arith, size))
      ∙ ap (λ (rest : List ℕ). get_or all 522 0 ∷ rest) (drop_more all 523 0 (omega (arith, size)))
      ∙ ap (λ (rest : List ℕ). get_or all 522 0 ∷ get_or all 523 0 ∷ rest) (none-left all 524 (omega (arith, size)))
      ∙ ap (λ (n : ℕ). let some : List ℕ = n ∷ get_or all 523 0 ∷ [] in some) (sym one)
      ∙ ap (λ (n : ℕ). let some : List ℕ = first ∷ n ∷ [] in some) (sym two) in
      is ∙ sym (before.so_far ∙ ap (λ (some : List ℕ). values ++ data_values 0 sums some) next)
    where
      none-left : (xs : List ℕ) (i : ℕ) → length xs ≤ i → drop i xs ≡ []
      none-left xs i past = drop_all i xs past

-- The bytes of the first groups, so many, and the sums after them: whatever follows them, their values are the first ones.
pub record ArePlain (values bytes : List ℕ) (sums : Sums) (groups : ℕ) : Type 0 where
  pub size : length bytes ≡ 3 * groups
  pub fit : AreBytes bytes
  pub so_far : (spare : ℕ) (rest : List ℕ) → data_values spare NO_SUMS (bytes ++ rest) ≡ take (4 * groups) values ++ data_values spare sums rest

pub no-plain : (values : List ℕ) → ArePlain values [] NO_SUMS 0
unfolding AreBytes
no-plain values = record { size = refl; fit = tt; so_far = λ spare rest. refl }

fit-more : (xs ys : List ℕ) → AreBytes xs → AreBytes ys → AreBytes (xs ++ ys)
unfolding AreBytes
fit-more [] ys first second = second
fit-more (x ∷ xs) ys first second = (first.0, fit-more xs ys first.1 second)

-- one more group
pub more-plain : (values bytes more : List ℕ) (sums after : Sums) (groups : ℕ) → ArePlain values bytes sums groups
    → TakesThree values (4 * groups) sums bytes more after → ArePlain values more after (groups + 1)
unfolding data_values AreBytes
more-plain values bytes more sums after groups before takes =
    let x = takes.first in
    let y = takes.second in
    let z = takes.third in
    let three : List ℕ = x ∷ y ∷ z ∷ [] in
    let at : 4 * (groups + 1) ≡ 4 * groups + 4 = omega arith in
    let first = take (4 * groups) values in
    let group = three_values (stored_first sums x) (stored_second sums x y) (stored_third sums x y z) in
    let grown : take (4 * (groups + 1)) values ≡ first ++ group =
    ap (λ (n : ℕ). take n values) at ∙ take-add (4 * groups) 4 values ∙ ap (λ (some : List ℕ). first ++ some) takes.values_are in
    record {
      size = ap length takes.bytes ∙ omega (arith, length-append bytes three, before.size);
      fit = subst AreBytes (sym takes.bytes) (fit-more bytes three before.fit (takes.fit.0, (takes.fit.1, (takes.fit.2, tt))));
      so_far = λ spare rest.
          let behind = data_values spare (after_three sums x y z) rest in
          ap (λ (some : List ℕ). data_values spare NO_SUMS (some ++ rest)) takes.bytes
          ∙ ap (data_values spare NO_SUMS) (append_assoc bytes three rest)
          ∙ before.so_far spare (x ∷ y ∷ z ∷ rest)
          ∙ sym (append_assoc first group behind)
          ∙ ap (λ (some : List ℕ). some ++ behind) (sym grown)
          ∙ ap (λ (s : Sums). take (4 * (groups + 1)) values ++ data_values spare s rest) (sym takes.sums_are);
    }

module _ (values bytes more : List ℕ) (sums after : Sums) (groups : ℕ) (all : groups ≡ 174) (long : length values ≡ 703)
    (before : ArePlain values bytes sums groups) (takes : TakesTwo values sums bytes more after) where
  -- the values of all bytes, whatever the spare bits are
  closing : (spare : ℕ)
      → data_values spare NO_SUMS more
      ≡ take 696 values ++ (two_values spare (stored_first sums takes.first) (stored_second sums takes.first takes.second) ++ check_values after)
  unfolding data_values
  closing spare =
      let two : List ℕ = takes.first ∷ takes.second ∷ [] in
      let group = two_values spare (stored_first sums takes.first) (stored_second sums takes.first takes.second) in
      let at : 4 * groups ≡ 696 = omega (arith, all) in
      ap (data_values spare NO_SUMS) takes.bytes ∙ before.so_far spare two
      ∙ ap (λ (n : ℕ). take n values ++ (group ++ check_values (after_two sums takes.first takes.second))) at
      ∙ ap (λ (s : Sums). take 696 values ++ (group ++ check_values s)) (sym takes.sums_are)

  plain-size : length more ≡ 524
  plain-size = ap length takes.bytes ∙ omega (arith, length-append bytes (takes.first ∷ takes.second ∷ []), before.size, all)

  plain-fit : AreBytes more
  unfolding AreBytes
  plain-fit =
      subst AreBytes (sym takes.bytes) (fit-more bytes (takes.first ∷ takes.second ∷ []) before.fit (takes.fit.0, (takes.fit.1, tt)))

  -- the values before the check values
  front : List ℕ
  front = take 696 values ++ two_values takes.spare (stored_first sums takes.first) (stored_second sums takes.first takes.second)

  apart : values ≡ front ++ drop 699 values
  unfolding front
  apart =
      let group = two_values takes.spare (stored_first sums takes.first) (stored_second sums takes.first takes.second) in
      let rest : drop 696 values ≡ group ++ drop 699 values =
      sym (take-append-drop 3 (drop 696 values)) ∙ ap (λ (some : List ℕ). some ++ drop 3 (drop 696 values)) takes.values_are
      ∙ ap (λ (some : List ℕ). group ++ some) (drop-drop 3 696 values) in
      sym (take-append-drop 696 values) ∙ ap (λ (some : List ℕ). take 696 values ++ some) rest
      ∙ sym (append_assoc (take 696 values) group (drop 699 values))

  length-front : length front ≡ 699
  unfolding front
  length-front =
      omega (
        arith,
        length-append (take 696 values) (two_values takes.spare (stored_first sums takes.first) (stored_second sums takes.first takes.second)),
        length-take 696 values,
        long,
      )

  pub all-plain : drop 699 values ≡ check_values after → IsCoded values more
  unfolding front
  all-plain same = record {
    spare = takes.spare;
    spare_fits = takes.spare_fits;
    size = plain-size;
    fit = plain-fit;
    values_are = apart ∙ ap (λ (some : List ℕ). front ++ some) same
        ∙ append_assoc (take 696 values) (two_values takes.spare (stored_first sums takes.first) (stored_second sums takes.first takes.second)) (check_values after)
        ∙ sym (closing takes.spare);
  }

  -- with other check values no bytes have these values
  own-coded : IsCoded (front ++ check_values after) more
  unfolding front
  own-coded = record {
    spare = takes.spare;
    spare_fits = takes.spare_fits;
    size = plain-size;
    fit = plain-fit;
    values_are =
        append_assoc (take 696 values) (two_values takes.spare (stored_first sums takes.first) (stored_second sums takes.first takes.second)) (check_values after)
        ∙ sym (closing takes.spare);
  }

  same-front : FirstSame 699 (front ++ check_values after) values
  same-front k below =
      let within : k < length front = omega (arith, length-front, below) in
      get_or-append front (check_values after) 0 k within ∙ sym (get_or-append front (drop 699 values) 0 k within)
      ∙ ap (λ (some : List ℕ). get_or some k 0) (sym apart)

  pub not-plain : ¬ (drop 699 values ≡ check_values after) → (others : List ℕ) → ¬ IsCoded values others
  not-plain other others coded =
      let same = coded-one (front ++ check_values after) values more others own-coded coded same-front in
      let group = two_values coded.spare (stored_first sums takes.first) (stored_second sums takes.first takes.second) in
      let is : values ≡ take 696 values ++ (group ++ check_values after) =
      coded.values_are ∙ ap (data_values coded.spare NO_SUMS) (sym same) ∙ closing coded.spare in
      let size : 699 ≡ length (take 696 values) + 3 = omega (arith, length-take 696 values, long) in
      other (ap (drop 699) is ∙ ap (λ (n : ℕ). drop n (take 696 values ++ (group ++ check_values after))) size
      ∙ drop-append-add (take 696 values) (group ++ check_values after) 3)

-- the last two bytes that are read, from their three values
low-is : (top low : ℕ) → low < 64 → (64 * top + low) % 64 ≡ low
low-is top low fits = omega arith

two-high : (high u v : ℕ) → high < 64 → u < 64 → v < 64
    → 16 * ((64 * (high / 16) + u) / 64) + 4 * ((64 * (high / 4 % 4) + v) / 64) + high % 4 ≡ high
two-high high u v fh fu fv =
    let one : (64 * (high / 16) + u) / 64 ≡ high / 16 = omega arith in
    let two : (64 * (high / 4 % 4) + v) / 64 ≡ high / 4 % 4 = omega arith in
    omega (arith, one, two)

module _ (values : List ℕ) (sums : Sums) (x y : ℕ) (fit : AreSixBits values) (long : length values ≡ 703) where
  pub last-read : x ≡ stored_first sums (64 * (get_or values 696 0 / 16) + get_or values 697 0)
      → y ≡ stored_second sums x (64 * (get_or values 696 0 / 4 % 4) + get_or values 698 0)
      → take 3 (drop 696 values) ≡ two_values (get_or values 696 0 % 4) (stored_first sums x) (stored_second sums x y)
  last-read one two =
      let high = get_or values 696 0 in
      let u = get_or values 697 0 in
      let v = get_or values 698 0 in
      let a = 64 * (high / 16) + u in
      let b = 64 * (high / 4 % 4) + v in
      let first : stored_first sums x ≡ a = ap (λ (n : ℕ). stored_first sums n) one ∙ xor-undo a _ in
      let second : stored_second sums x y ≡ b = ap (λ (n : ℕ). stored_second sums x n) two ∙ xor-undo b _ in
      ap (take 3) (next-three values 696 (omega (arith, long)))
      ∙ ap (λ (n : ℕ). n ∷ u ∷ v ∷ []) (sym (two-high high u v (fit 696) (fit 697) (fit 698)))
      ∙ ap (λ (n : ℕ). (16 * (a / 64) + 4 * (b / 64) + high % 4) ∷ n ∷ v ∷ []) (sym (low-is (high / 16) u (fit 697)))
      ∙ ap (λ (n : ℕ). (16 * (a / 64) + 4 * (b / 64) + high % 4) ∷ a % 64 ∷ n ∷ []) (sym (low-is (high / 4 % 4) v (fit 698)))
      ∙ sym (ap (λ (n : ℕ). two_values (high % 4) n (stored_second sums x y)) first ∙ ap (λ (n : ℕ). two_values (high % 4) a n) second)

-- before a sector's bytes zeros stand
pub zeros-first : (count : ℕ) (bytes : List ℕ) (k : ℕ) → k < count → get_or (replicate count 0 ++ bytes) k 0 ≡ 0
zeros-first zero bytes k within = absurd (omega (arith, within))
zeros-first (suc count) bytes zero within = refl
zeros-first (suc count) bytes (suc k) within = zeros-first count bytes k (omega (arith, within))

pub past-zeros : (count : ℕ) (bytes : List ℕ) (k : ℕ) → get_or (replicate count 0 ++ bytes) (count + k) 0 ≡ get_or bytes k 0
past-zeros zero bytes k = let e : 0 + k ≡ k = omega arith in ap (λ (n : ℕ). get_or bytes n 0) e
past-zeros (suc count) bytes k =
    let e : suc count + k ≡ suc (count + k) = omega arith in
    ap (λ (n : ℕ). get_or (0 ∷ (replicate count 0 ++ bytes)) n 0) e ∙ past-zeros count bytes k

-- the last four of the values
pub last-four : (values : List ℕ) → length values ≡ 703
    → drop 699 values ≡ get_or values 699 0 ∷ get_or values 700 0 ∷ get_or values 701 0 ∷ get_or values 702 0 ∷ []
last-four values long =
    next-three values 699 (omega (arith, long))
    ∙ ap (λ (rest : List ℕ). get_or values 699 0 ∷ get_or values 700 0 ∷ get_or values 701 0 ∷ rest)
    (drop_more values 702 0 (omega (arith, long)) ∙ ap (λ (rest : List ℕ). get_or values 702 0 ∷ rest) (drop_all 703 values (omega (arith, long))))

-- nibbles of values, cells by cells
pub nibble_cells-is : (values : List ℕ) → flat_map (λ value. word_cells 8 (nibble value)) values ≡ nibble_cells values
nibble_cells-is [] = refl
nibble_cells-is (value ∷ values) = ap (λ (cells : List Bool). word_cells 8 (nibble value) ++ cells) (nibble_cells-is values)

-- they are the check values where each is one
pub four-same : (values : List ℕ) (sums : Sums) (result : List ℕ) → length values ≡ 703 → result ≡ check_values sums
    → get_or values 699 0 ≡ get_or result 0 0 → get_or values 700 0 ≡ get_or result 1 0 → get_or values 701 0 ≡ get_or result 2 0
    → get_or values 702 0 ≡ get_or result 3 0 → drop 699 values ≡ check_values sums
four-same values sums result long is high c b a =
    let at : (k : ℕ) → get_or result k 0 ≡ get_or (check_values sums) k 0 = λ k. ap (λ (some : List ℕ). get_or some k 0) is in
    last-four values long
    ∙ ap (λ (n : ℕ). n ∷ get_or values 700 0 ∷ get_or values 701 0 ∷ get_or values 702 0 ∷ []) (high ∙ at 0)
    ∙ ap (λ (n : ℕ). get_or (check_values sums) 0 0 ∷ n ∷ get_or values 701 0 ∷ get_or values 702 0 ∷ []) (c ∙ at 1)
    ∙ ap (λ (n : ℕ). get_or (check_values sums) 0 0 ∷ get_or (check_values sums) 1 0 ∷ n ∷ get_or values 702 0 ∷ []) (b ∙ at 2)
    ∙ ap (λ (n : ℕ). get_or (check_values sums) 0 0 ∷ get_or (check_values sums) 1 0 ∷ get_or (check_values sums) 2 0 ∷ n ∷ []) (a ∙ at 3)

-- bytes of which each is one
pub are-each : (bytes : List ℕ) → ((k : ℕ) → get_or bytes k 0 < 256) → AreBytes bytes
unfolding AreBytes
are-each [] each = tt
are-each (byte ∷ bytes) each = (each 0, are-each bytes (λ k. each (suc k)))
