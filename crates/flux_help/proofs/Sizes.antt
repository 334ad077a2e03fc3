-- The size of so many bytes.
use Rattle.std.specs.Prelude.{◌≡◌, ◌≢◌, ℕ, Bool, nat_eq, Option, Some, None, find, ◌∷◌, [], cond, false, IfNone, IfSome, refl, true, unwrap_or}
use Rattle.std.proofs.Common.{ap, sym, subst, ◌∙◌}
use Rattle.std.proofs.lemmas.Bool.{eqb-true, ne_eqb}
use Rattle.ibm_disks.specs.Numbers.{size_of}
use Rattle.ibm_disks.specs.declared.sector_size.SectorSize.{SectorSize}
use Rattle.ibm_disks.specs.declared.sector_size.SectorSize.TheVariants.{Bytes128, Bytes256, Bytes512, Bytes1024}
use Rattle.flux_help.specs.Unfit.{size_with}

found : (size : SectorSize) → size_with (size_of size) ≡ Some size
found Bytes128 = refl
found Bytes256 = refl
found Bytes512 = refl
found Bytes1024 = refl

pub size-some : (bytes : ℕ) (size : SectorSize) → size_of size ≡ bytes → size_with bytes ≡ Some size
size-some bytes size is = subst (λ (n : ℕ). size_with n ≡ Some size) is (found size)

pub size-none : (bytes : ℕ) → ((size : SectorSize) → size_of size ≢ bytes) → size_with bytes ≡ None
size-none bytes none =
    ap (λ (b : Bool). cond b (Some Bytes128) (find (λ size. nat_eq (size_of size) bytes) (Bytes256 ∷ Bytes512 ∷ Bytes1024 ∷ []))) (ne_eqb 128 bytes (none Bytes128))
    ∙ ap (λ (b : Bool). cond b (Some Bytes256) (find (λ size. nat_eq (size_of size) bytes) (Bytes512 ∷ Bytes1024 ∷ []))) (ne_eqb 256 bytes (none Bytes256))
    ∙ ap (λ (b : Bool). cond b (Some Bytes512) (find (λ size. nat_eq (size_of size) bytes) (Bytes1024 ∷ []))) (ne_eqb 512 bytes (none Bytes512))
    ∙ ap (λ (b : Bool). cond b (Some Bytes1024) None) (ne_eqb 1024 bytes (none Bytes1024))

pub size-is : (bytes : ℕ) (o : Option SectorSize) → IfSome o (λ size. size_of size ≡ bytes) → IfNone o ((size : SectorSize) → size_of size ≢ bytes) → o ≡ size_with bytes
size-is bytes (Some size) some none = sym (size-some bytes size some)
size-is bytes None some none = sym (size-none bytes none)

some_same : {a b : SectorSize} → Some a ≡ Some b → a ≡ b
some_same {a} same = ap (λ (o : Option SectorSize). unwrap_or o a) same

-- and it has so many
pub size-has : (bytes : ℕ) (size : SectorSize) → size_with bytes ≡ Some size → size_of size ≡ bytes
size-has bytes size is = by (nat_eq 128 bytes) (nat_eq 256 bytes) (nat_eq 512 bytes) (nat_eq 1024 bytes) (eqb-true 128 bytes) (eqb-true 256 bytes) (eqb-true 512 bytes) (eqb-true 1024 bytes) is
  where
    by : (a b c d : Bool) → (a ≡ true → 128 ≡ bytes) → (b ≡ true → 256 ≡ bytes) → (c ≡ true → 512 ≡ bytes) → (d ≡ true → 1024 ≡ bytes)
        → cond a (Some Bytes128) (cond b (Some Bytes256) (cond c (Some Bytes512) (cond d (Some Bytes1024) None))) ≡ Some size → size_of size ≡ bytes
    by true b c d is_a is_b is_c is_d same = subst (λ (s : SectorSize). size_of s ≡ bytes) (some_same same) (is_a refl)
    by false true c d is_a is_b is_c is_d same = subst (λ (s : SectorSize). size_of s ≡ bytes) (some_same same) (is_b refl)
    by false false true d is_a is_b is_c is_d same = subst (λ (s : SectorSize). size_of s ≡ bytes) (some_same same) (is_c refl)
    by false false false true is_a is_b is_c is_d same = subst (λ (s : SectorSize). size_of s ≡ bytes) (some_same same) (is_d refl)
    by false false false false is_a is_b is_c is_d same = absurd (cc)
