-- The numbers of a set, by their places among its bits.
use Rattle.std.proofs.Common.{◌≡◌, ◌≢◌, ◌<◌, ◌≤◌, ◌⊎◌, ◌+◌, ◌*◌, ℕ, Bool, true, false, List, [], length, get_or, set, replicate, refl, sym, ap, ◌∙◌, inl, inr, arith}
use Rattle.std.specs.Prelude.{◌&&◌, ◌||◌, nat_eq, nat_lt}
use Rattle.std.proofs.lemmas.Bool.{and_left, and_parts, and_right, and_from, cases_eq, cases_lt, eq-eqb, le-ltb, lt-ltb, ltb-true, ne_eqb, or_left}
use Rattle.std.proofs.lemmas.List.{get_or-replicate, get_or-set_other, get_or-set_same, get_or_past}
use Rattle.ibm_disks.specs.Numbers.{code_of}
use Rattle.ibm_disks.specs.declared.sector_size.SectorSize.{SectorSize}
use Rattle.ibm_disks.specs.declared.sector_size.SectorSize.TheVariants.{Bytes128, Bytes256, Bytes512, Bytes1024}
use Rattle.told_disks.specs.Names.{has, set_at}

-- there are four sizes
pub code_few : (size : SectorSize) → code_of size ≤ 3
code_few Bytes128 = omega arith
code_few Bytes256 = omega arith
code_few Bytes512 = omega arith
code_few Bytes1024 = omega arith

-- numbers have 8 bits
pub has_below : (bits : List Bool) (size : SectorSize) (number : ℕ) → has bits size number ≡ true → number < 256
unfolding has
has_below bits size number is = ltb-true number 256 (and_parts (nat_lt number 256) (get_or bits (256 * code_of size + number) false) is).0

pub has_not : (bits : List Bool) (size : SectorSize) (number : ℕ) → 256 ≤ number → has bits size number ≡ false
unfolding has
has_not bits size number above = and_left (nat_lt number 256) (get_or bits (256 * code_of size + number) false) (le-ltb number 256 above)

-- a number of 8 bits is in the set where its bit is
pub has_bit : (bits : List Bool) (size : SectorSize) (number : ℕ) → number < 256 → has bits size number ≡ get_or bits (256 * code_of size + number) false
unfolding has
has_bit bits size number low = ap (λ (b : Bool). b && get_or bits (256 * code_of size + number) false) (lt-ltb number 256 low)

-- no bit is set
pub has_none : (size : SectorSize) (number : ℕ) → has (replicate 1024 false) size number ≡ false
has_none size number = by (cases_lt number 256)
  where
    by : (number < 256) ⊎ (256 ≤ number) → has (replicate 1024 false) size number ≡ false
    by (inr above) = has_not (replicate 1024 false) size number above
    by (inl low) = has_bit (replicate 1024 false) size number low ∙ get_or-replicate 1024 (256 * code_of size + number) false false (omega (arith, low, code_few size))

-- one more bit is
module _ (bits : List Bool) (long : length bits ≡ 1024) (size : SectorSize) (number : ℕ) (low : number < 256) where
  abbrev at : ℕ
  at = 256 * code_of size + number

  pub has_more : (other : SectorSize) (n : ℕ) → has (set bits at true) other n ≡ ((nat_eq (code_of other) (code_of size) && nat_eq n number) || has bits other n)
  has_more other n = by (cases_lt n 256) (cases_eq (code_of other) (code_of size)) (cases_eq n number)
    where
      here : ℕ
      here = 256 * code_of other + n

      apart : ((nat_eq (code_of other) (code_of size) && nat_eq n number) ≡ false) → here ≢ at → n < 256
          → has (set bits at true) other n ≡ ((nat_eq (code_of other) (code_of size) && nat_eq n number) || has bits other n)
      apart none away below =
          has_bit (set bits at true) other n below ∙ get_or-set_other bits at here true false away ∙ sym (has_bit bits other n below)
          ∙ ap (λ (b : Bool). b || has bits other n) (sym none)

      by : (n < 256) ⊎ (256 ≤ n) → (code_of other ≡ code_of size) ⊎ (code_of other ≡ code_of size → ⊥) → (n ≡ number) ⊎ (n ≡ number → ⊥)
          → has (set bits at true) other n ≡ ((nat_eq (code_of other) (code_of size) && nat_eq n number) || has bits other n)
      by (inr above) _ _ =
          has_not (set bits at true) other n above ∙ sym (has_not bits other n above)
          ∙ ap (λ (b : Bool). b || has bits other n)
          (sym (and_right (nat_eq (code_of other) (code_of size)) (nat_eq n number) (ne_eqb n number (λ e. omega (arith, e, low, above)))))
      by (inl below) (inl code) (inl same) =
          has_bit (set bits at true) other n below
          ∙ ap (λ (k : ℕ). get_or (set bits at true) k false) (omega (arith, code, same))
          ∙ get_or-set_same bits at true false (omega (arith, long, low, code_few size))
          ∙ sym (or_left (nat_eq (code_of other) (code_of size) && nat_eq n number) (has bits other n)
          (and_from (nat_eq (code_of other) (code_of size)) (nat_eq n number) (eq-eqb (code_of other) (code_of size) code) (eq-eqb n number same)))
      by (inl below) (inl code) (inr differs) =
          apart (and_right (nat_eq (code_of other) (code_of size)) (nat_eq n number) (ne_eqb n number differs)) (λ e. differs (omega (arith, e, code))) below
      by (inl below) (inr differs) _ =
          apart (and_left (nat_eq (code_of other) (code_of size)) (nat_eq n number) (ne_eqb (code_of other) (code_of size) differs)) (λ e. differs (omega (arith, e, below, low))) below

-- a track behind the last one has none
pub has_nowhere : (sets : List (List Bool)) (size : SectorSize) (track number : ℕ) → length sets ≤ track → has (set_at sets track) size number ≡ true → ⊥
unfolding has
has_nowhere sets size track number past is = no (sym (ap (λ (s : List Bool). has s size number) (get_or_past sets track [] past) ∙ and_right (nat_lt number 256) false refl) ∙ is)
  where
    no : false ≡ true → ⊥
    no e = cc
