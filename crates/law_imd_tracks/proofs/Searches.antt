-- What searches find, and what a name is made of.
use Rattle.std.proofs.Common.{◌≡◌, ◌<◌, ◌≤◌, ◌⊎◌, ◌↔◌, ◌+◌, ◌∙◌, ℕ, zero, suc, Bool, true, false, List, [], ◌∷◌, Some, ap, refl, subst, inl, inr, arith}
use Rattle.std.specs.Prelude.{Contains, IsTrue}
use Rattle.std.proofs.lemmas.Bool.{cases_eq, cases_lt}
use Rattle.flux_base.specs.declared.header_name.HeaderName.TheVariants.{Address}
use Rattle.frame_law.specs.Controller.{AreFound}
use Rattle.ibm_disks.specs.Numbers.{code_of}
use Rattle.ibm_disks.specs.declared.sector_size.SectorSize.{SectorSize}
use Rattle.ibm_disks.specs.declared.sector_size.SectorSize.TheVariants.{Bytes128, Bytes256, Bytes512, Bytes1024}
use Rattle.ibm_walks.specs.Headers.{address_of, size_of_code}
use Rattle.name_book.specs.declared.name.SectorName.{SectorName}

-- what is found stands
pub found_stands : {X : Type 0} (At : ℕ → X → Type 0) (from : ℕ) (found : List (ℕ × X)) (f : ℕ × X) → AreFound At from found → Contains found f → At f.0 f.1
found_stands At from [] f all has = absurd (let low = has.1 in omega (arith, low))
found_stands At from (g ∷ found) f all (zero, low, same) = subst (λ (h : ℕ × _). At h.0 h.1) same all.0.1
found_stands At from (g ∷ found) f all (suc k, low, same) = found_stands At (g.0 + 1) found f all.1 (k, omega (arith, low), same)

-- what stands is found
pub is_found : {X : Type 0} (At : ℕ → X → Type 0) (from : ℕ) (found : List (ℕ × X)) (place : ℕ) (x : X) → AreFound At from found → from ≤ place → At place x
    → ((f : ℕ × X) → Contains found f → f.0 ≡ place → ⊥) → ⊥
is_found At from [] place x all above here none = all place x above here
is_found At from (g ∷ found) place x all above here none = by (cases_lt place g.0) (cases_eq g.0 place) (is_found At (g.0 + 1) found place x all.1)
  where
    by : (place < g.0) ⊎ (g.0 ≤ place) → (g.0 ≡ place) ⊎ (g.0 ≡ place → ⊥)
        → (g.0 + 1 ≤ place → At place x → ((f : ℕ × _) → Contains found f → f.0 ≡ place → ⊥) → ⊥) → ⊥
    by (inl before) _ rest = all.0.2 place x above before here
    by (inr past) (inl same) rest = none g (0, omega arith, refl) same
    by (inr past) (inr apart) rest = rest (omega (arith, past, apart)) here (λ f has same. none f (suc has.0, (let low = has.1 in omega (arith, low)), has.2) same)

-- whether one is found at a place
pub found_at : {X : Type 0} (found : List (ℕ × X)) (place : ℕ) → ((f : ℕ × X) × Contains found f × (f.0 ≡ place)) ⊎ ((f : ℕ × X) → Contains found f → f.0 ≡ place → ⊥)
found_at [] place = inr (λ f has same. let low = has.1 in omega (arith, low))
found_at {X} (g ∷ found) place = by (cases_eq g.0 place) (found_at found place)
  where
    by : (g.0 ≡ place) ⊎ (g.0 ≡ place → ⊥) → ((f : ℕ × X) × Contains found f × (f.0 ≡ place)) ⊎ ((f : ℕ × X) → Contains found f → f.0 ≡ place → ⊥)
        → ((f : ℕ × X) × Contains (g ∷ found) f × (f.0 ≡ place)) ⊎ ((f : ℕ × X) → Contains (g ∷ found) f → f.0 ≡ place → ⊥)
    by (inl same) _ = inl (g, (0, omega arith, refl), same)
    by (inr apart) (inl (f, has, same)) = inl (f, (suc has.0, (let low = has.1 in omega (arith, low)), has.2), same)
    by (inr apart) (inr none) = inr neither
      where
        neither : (f : ℕ × X) → Contains (g ∷ found) f → f.0 ≡ place → ⊥
        neither f (zero, low, is) same = apart (ap (λ (h : ℕ × X). h.0) is ∙ same)
        neither f (suc k, low, is) same = none f (k, omega (arith, low), is) same

-- It cannot be that there is no list of all that stands below a bound.
widen : {X : Type 0} (At : ℕ → X → Type 0) (from : ℕ) (found : List (ℕ × X)) → AreFound At (from + 1) found → ((x : X) → At from x → ⊥) → AreFound At from found
widen At from [] all none = λ place x above here. by place x above here (cases_eq place from)
  where
    by : (place : ℕ) (x : _) → from ≤ place → At place x → (place ≡ from) ⊎ (place ≡ from → ⊥) → ⊥
    by place x above here (inl same) = none x (subst (λ (k : ℕ). At k x) same here)
    by place x above here (inr apart) = all place x (omega (arith, above, apart)) here
widen At from (g ∷ found) all none = ((let low = all.0.0 in omega (arith, low), all.0.1, λ place x above before here. by place x above before here (cases_eq place from)), all.1)
  where
    by : (place : ℕ) (x : _) → from ≤ place → place < g.0 → At place x → (place ≡ from) ⊎ (place ≡ from → ⊥) → ⊥
    by place x above before here (inl same) = none x (subst (λ (k : ℕ). At k x) same here)
    by place x above before here (inr apart) = all.0.2 place x (omega (arith, above, apart)) before here

pub some_list : {X : Type 0} (At : ℕ → X → Type 0) (bound : ℕ) → ((place : ℕ) (x : X) → At place x → place < bound) → (from steps : ℕ) → from + steps ≡ bound
    → ((found : List (ℕ × X)) → AreFound At from found → ⊥) → ⊥
some_list At bound within from zero all none = none [] (λ place x above here. let low = within place x here in omega (arith, low, above, all))
some_list At bound within from (suc steps) all none =
    some_list At bound within (from + 1) steps (omega (arith, all))
    (λ found rest.
    none found (widen At from found rest (λ x here. none ((from, x) ∷ found) ((omega arith, here, λ place y above before there. omega (arith, above, before)), rest))))

-- nor that nothing tells whether something is so
pub some_bool : (A : Type 0) → ((b : Bool) → IsTrue b ↔ A → ⊥) → ⊥
some_bool A none = none false ((λ yes. absurd (no yes)), λ a. absurd (none true ((λ yes. a), λ more. refl)))
  where
    no : false ≡ true → ⊥
    no e = cc

-- a size is that of its code
pub size_is : (size : SectorSize) → size_of_code (code_of size) ≡ Some size
size_is Bytes128 = refl
size_is Bytes256 = refl
size_is Bytes512 = refl
size_is Bytes1024 = refl

-- the parts of a name
module _ (c h s k c' h' s' k' : ℕ) (e : Address c h s k ≡ Address c' h' s' k') where
  pub row_is : c ≡ c'
  row_is = cc

  pub side_is : h ≡ h'
  side_is = cc

  pub number_is : s ≡ s'
  number_is = cc

  pub code_is : k ≡ k'
  code_is = cc

-- a name by its parts
pub same_sector_name : (a b : SectorName) → address_of a ≡ address_of b → a ≡ b
same_sector_name a b e =
    ap (λ (k : ℕ). record a { cylinder = k }) (row_is a.cylinder a.head a.number a.code b.cylinder b.head b.number b.code e)
    ∙ ap (λ (k : ℕ). record a { cylinder = b.cylinder; head = k }) (side_is a.cylinder a.head a.number a.code b.cylinder b.head b.number b.code e)
    ∙ ap (λ (k : ℕ). record b { number = k; code = a.code }) (number_is a.cylinder a.head a.number a.code b.cylinder b.head b.number b.code e)
    ∙ ap (λ (k : ℕ). record b { code = k }) (code_is a.cylinder a.head a.number a.code b.cylinder b.head b.number b.code e)
