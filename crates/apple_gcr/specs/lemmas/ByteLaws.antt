-- How disk bytes are read: far enough apart, from cells that agree alike, and by the strict rule
-- one every eight cells; and that bytes that begin with a one are read alike by every rule.
use Rattle.std.specs.Prelude.{◌≡◌, ℕ, zero, suc, ◌+◌, ◌-◌, ◌*◌, ◌<◌, ◌≤◌, Bool, true, false, List}
use Rattle.std.specs.Prelude.{[], ◌∷◌, length, take, drop, refl}
use Rattle.std.proofs.Common.{ap, sym, subst, ◌∙◌, arith, add-zero, lit≤}
use Rattle.std.proofs.lemmas.List.{length-take}
use Rattle.cell_bits.specs.Word.{number_of, word}
use Rattle.cell_bits.specs.lemmas.WordLaws.{number_of-lt}
use Rattle.track_rings.specs.lemmas.Fronts.{AgreeTo, agree-part, agree-word}
use Rattle.apple_gcr.specs.declared.disk_bytes.ByteRule.{ByteRule}
use Rattle.apple_gcr.specs.declared.disk_bytes.ByteRule.TheVariants.{Strict, Controller}
use Rattle.apple_gcr.specs.DiskBytes.{byte_place, byte_read, bytes_end, zeros_first, zeros_passed}
use Rattle.apple_nibbles.specs.Nibbles.{disk_byte}

-- no rule passes over more than seven
pub zeros-few : (rule : ByteRule) → zeros_passed rule ≤ 7
zeros-few Strict = lit≤ tt
zeros-few Controller = lit≤ tt

zeros_first-few : (cells : List Bool) → zeros_first cells ≤ length cells
unfolding zeros_first
zeros_first-few [] = omega arith
zeros_first-few (true ∷ cells) = omega arith
zeros_first-few (false ∷ cells) = omega (arith, zeros_first-few cells)

-- a byte lies at the place that it is read from or so many cells after it at most
pub place-least : (passed : ℕ) (cells : List Bool) (from : ℕ) → from ≤ byte_place passed cells from
unfolding byte_place
place-least passed cells from = omega arith

pub place-most : (passed : ℕ) (cells : List Bool) (from : ℕ)
    → byte_place passed cells from ≤ from + passed
unfolding byte_place
place-most passed cells from =
    omega (
      arith,
      zeros_first-few (take passed (drop from cells)),
      length-take passed (drop from cells),
    )

-- one more byte
pub end-next : (passed : ℕ) (cells : List Bool) (from count : ℕ)
    → bytes_end passed cells from (count + 1)
    ≡ byte_place passed cells (bytes_end passed cells from count) + 8
unfolding bytes_end
end-next passed cells from count = let e : count + 1 ≡ suc count = omega arith in
    ap (bytes_end passed cells from) e

pub end-more : (passed : ℕ) (cells : List Bool) (from count more : ℕ)
    → bytes_end passed cells from count + 8 * more ≤ bytes_end passed cells from (count + more)
end-more passed cells from count zero =
    let e : count ≡ count + 0 = omega arith in
    let same = ap (bytes_end passed cells from) e in omega (arith, same)
end-more passed cells from count (suc more) =
    let e : count + more + 1 ≡ count + suc more = omega arith in
    let same = ap (bytes_end passed cells from) e in
    let before = end-more passed cells from count more in
    let next = end-next passed cells from (count + more) in
    let least = place-least passed cells (bytes_end passed cells from (count + more)) in
    omega (arith, same, before, next, least)

-- a byte that is read lies before the end of those after it
pub byte-within : (passed : ℕ) (cells : List Bool) (from k count : ℕ) → k < count
    → byte_place passed cells (bytes_end passed cells from k) + 8
    ≤ bytes_end passed cells from count
byte-within passed cells from k count within =
    let rest = count - (k + 1) in
    let e : k + 1 + rest ≡ count = omega arith in
    let all = ap (bytes_end passed cells from) e in
    omega (arith, all, end-more passed cells from (k + 1) rest, end-next passed cells from k)

-- so many bytes have eight cells each at least
pub end-least : (passed : ℕ) (cells : List Bool) (from count : ℕ)
    → from + 8 * count ≤ bytes_end passed cells from count
unfolding bytes_end
end-least passed cells from count =
    let e : 0 + count ≡ count = omega arith in
    let same = ap (bytes_end passed cells from) e in
    omega (arith, end-more passed cells from 0 count, same)

-- and fewer than fifteen each and one
pub end-most : (passed : ℕ) → passed ≤ 7 → (cells : List Bool) (from count : ℕ)
    → bytes_end passed cells from count ≤ from + 15 * count
unfolding bytes_end
end-most passed few cells from zero = omega arith
end-most passed few cells from (suc count) =
    let before = end-most passed few cells from count in
    let most = place-most passed cells (bytes_end passed cells from count) in
    omega (arith, before, most, few)

-- by the strict rule
pub strict-place : (cells : List Bool) (from : ℕ) → byte_place 0 cells from ≡ from
unfolding byte_place zeros_first
strict-place cells from = add-zero from

pub strict-end : (cells : List Bool) (from count : ℕ)
    → bytes_end 0 cells from count ≡ from + 8 * count
unfolding bytes_end
strict-end cells from zero = omega arith
strict-end cells from (suc count) =
    omega (arith, strict-place cells (bytes_end 0 cells from count), strict-end cells from count)

pub strict-read : (cells : List Bool) (from k : ℕ)
    → byte_read 0 cells from k ≡ disk_byte cells (from + 8 * k)
unfolding byte_read
strict-read cells from k =
    ap (disk_byte cells) (strict-place cells (bytes_end 0 cells from k) ∙ strict-end cells from k)

-- a byte that begins with a one is read where it is
number-short : (cells : List Bool) → length cells ≤ 7 → number_of cells < 128
number-short [] few = omega (arith, number_of-lt [])
number-short (a ∷ []) few = omega (arith, number_of-lt (a ∷ []))
number-short (a ∷ b ∷ []) few = omega (arith, number_of-lt (a ∷ b ∷ []))
number-short (a ∷ b ∷ c ∷ []) few = omega (arith, number_of-lt (a ∷ b ∷ c ∷ []))
number-short (a ∷ b ∷ c ∷ d ∷ []) few = omega (arith, number_of-lt (a ∷ b ∷ c ∷ d ∷ []))
number-short (a ∷ b ∷ c ∷ d ∷ e ∷ []) few = omega (arith, number_of-lt (a ∷ b ∷ c ∷ d ∷ e ∷ []))
number-short (a ∷ b ∷ c ∷ d ∷ e ∷ f ∷ []) few =
    omega (arith, number_of-lt (a ∷ b ∷ c ∷ d ∷ e ∷ f ∷ []))
number-short (a ∷ b ∷ c ∷ d ∷ e ∷ f ∷ g ∷ []) few =
    omega (arith, number_of-lt (a ∷ b ∷ c ∷ d ∷ e ∷ f ∷ g ∷ []))
number-short (a ∷ b ∷ c ∷ d ∷ e ∷ f ∷ g ∷ h ∷ cells) few = absurd (omega arith)

no_zeros : (passed : ℕ) (cells : List Bool) → 128 ≤ number_of (take 8 cells)
    → zeros_first (take passed cells) ≡ 0
unfolding zeros_first number_of
no_zeros zero cells high = refl
no_zeros (suc passed) [] high = refl
no_zeros (suc passed) (true ∷ cells) high = refl
no_zeros (suc passed) (false ∷ cells) high =
    absurd (omega (arith, number-short (take 7 cells) (omega (arith, length-take 7 cells)), high))

pub place-here : (passed : ℕ) (cells : List Bool) (from : ℕ) → 128 ≤ disk_byte cells from
    → byte_place passed cells from ≡ from
unfolding byte_place disk_byte word
place-here passed cells from high =
    ap (λ (n : ℕ). from + n) (no_zeros passed (drop from cells) high) ∙ add-zero from

pub start : (passed : ℕ) (cells : List Bool) (from : ℕ) → bytes_end passed cells from 0 ≡ from
unfolding bytes_end
start passed cells from = refl

next : (passed : ℕ) (cells : List Bool) (from count : ℕ)
    → bytes_end passed cells from (suc count)
    ≡ byte_place passed cells (bytes_end passed cells from count) + 8
unfolding bytes_end
next passed cells from count = refl

strict-at : (cells : List Bool) (from k : ℕ)
    → byte_read 0 cells from k ≡ disk_byte cells (bytes_end 0 cells from k)
unfolding byte_read
strict-at cells from k = ap (disk_byte cells) (strict-place cells (bytes_end 0 cells from k))

-- bytes that are read by the strict rule and begin with a one are read so by every rule
module _ (passed : ℕ) (cells : List Bool) (from : ℕ) where
  abbrev pub AreHigh : ℕ → Type 0
  AreHigh count = (k : ℕ) → k < count → 128 ≤ byte_read 0 cells from k

  -- at one of them the same is passed over
  place-same : (end : ℕ) → 128 ≤ disk_byte cells end
      → byte_place passed cells end ≡ byte_place 0 cells end
  place-same end one = place-here passed cells end one ∙ sym (strict-place cells end)

  pub lift-end : (count : ℕ) → AreHigh count
      → bytes_end passed cells from count ≡ bytes_end 0 cells from count
  lift-end zero high = start passed cells from ∙ sym (start 0 cells from)
  lift-end (suc count) high =
      let end = bytes_end 0 cells from count in
      let one : 128 ≤ disk_byte cells end =
      subst (λ (n : ℕ). 128 ≤ n) (strict-at cells from count) (high count (omega arith)) in
      next passed cells from count
      ∙ ap (λ (n : ℕ). byte_place passed cells n + 8)
      (lift-end count (λ k below. high k (omega arith)))
      ∙ ap (λ (n : ℕ). n + 8) (place-same end one) ∙ sym (next 0 cells from count)

  pub lift-read : (k count : ℕ) → k < count → AreHigh count
      → byte_read passed cells from k ≡ byte_read 0 cells from k
  unfolding byte_read
  lift-read k count within high =
      let end = bytes_end 0 cells from k in
      let one : 128 ≤ disk_byte cells end =
      subst (λ (n : ℕ). 128 ≤ n) (strict-at cells from k) (high k within) in
      ap (λ (n : ℕ). disk_byte cells (byte_place passed cells n))
      (lift-end k (λ i below. high i (omega arith)))
      ∙ ap (disk_byte cells) (place-same end one)

-- in cells that agree bytes are read alike
module _ (passed : ℕ) (few : passed ≤ 7) (total : ℕ) (cells others : List Bool)
    (same : AgreeTo total cells others) where
  pub same_place : (from : ℕ) → from + 7 ≤ total
      → byte_place passed others from ≡ byte_place passed cells from
  unfolding byte_place
  same_place from within =
      ap (λ (part : List Bool). from + zeros_first part)
      (sym (agree-part total cells others same from passed (omega (arith, few, within))))

  pub same_end : (from count : ℕ) → bytes_end passed cells from count ≤ total
      → bytes_end passed others from count ≡ bytes_end passed cells from count
  same_end from zero within = start passed others from ∙ sym (start passed cells from)
  same_end from (suc count) within =
      let here = next passed cells from count in
      let least = place-least passed cells (bytes_end passed cells from count) in
      let before = same_end from count (omega (arith, here, least, within)) in
      next passed others from count
      ∙ ap (λ (n : ℕ). byte_place passed others n + 8) before
      ∙ ap (λ (n : ℕ). n + 8)
      (same_place (bytes_end passed cells from count) (omega (arith, here, least, within)))
      ∙ sym here

  pub same_read : (from k : ℕ) → bytes_end passed cells from (suc k) ≤ total
      → byte_read passed others from k ≡ byte_read passed cells from k
  unfolding byte_read disk_byte
  same_read from k within =
      let here = next passed cells from k in
      let end = bytes_end passed cells from k in
      let least = place-least passed cells end in
      let before = same_end from k (omega (arith, here, least, within)) in
      ap (λ (n : ℕ). disk_byte others (byte_place passed others n)) before
      ∙ ap (disk_byte others) (same_place end (omega (arith, here, least, within)))
      ∙ sym
      (agree-word total cells others same (byte_place passed cells end) 8
      (omega (arith, here, within)))
