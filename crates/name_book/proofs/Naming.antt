-- Names of sectors, and those that are met as one more header is.
use Rattle.std.proofs.Common.{◌≡◌, ℕ, Bool, true, false, not, cond, ◌&&◌, ◌||◌, List, [], ◌∷◌, ◌++◌, filter, take, nat_eq, zero, suc, refl, sym, subst, ap, ◌∙◌}
use Rattle.std.specs.List.{list_any}
use Rattle.std.proofs.lemmas.Bool.{eqb-true, eq-eqb}
use Rattle.std.proofs.lemmas.List.Elements.{filter-append}
use Rattle.std.proofs.lemmas.Map.Views.{any-filter_same}
use Rattle.flux_base.specs.lemmas.Items.{same_bool}
use Rattle.name_book.specs.Names.{is_met, names_met, same_sector}
use Rattle.name_book.specs.declared.name.NamedHeader.{NamedHeader}
use Rattle.name_book.specs.declared.name.SectorName.{SectorName}

both : (a b : Bool) → a ≡ true → b ≡ true → (a && b) ≡ true
both true true p q = refl
both true false p q = q
both false b p q = p

sides : (a b : Bool) → (a && b) ≡ true → (a ≡ true) × (b ≡ true)
sides true b is = (refl, is)
sides false b is = absurd (cc)

pub neither : (a b : Bool) → (a || b) ≡ false → (a ≡ false) × (b ≡ false)
neither true b is = absurd (cc)
neither false b is = (refl, is)

equal : (n : ℕ) → nat_eq n n ≡ true
equal n = eq-eqb n n refl

abbrev named : ℕ → ℕ → ℕ → ℕ → SectorName
named c h n k = record { cylinder = c; head = h; number = n; code = k }

-- a name is the same as itself, and as no other
pub name_itself : (name : SectorName) → same_sector name name ≡ true
name_itself a =
    both (nat_eq a.cylinder a.cylinder && nat_eq a.head a.head && nat_eq a.number a.number) (nat_eq a.code a.code)
    (both (nat_eq a.cylinder a.cylinder && nat_eq a.head a.head) (nat_eq a.number a.number)
    (both (nat_eq a.cylinder a.cylinder) (nat_eq a.head a.head) (equal a.cylinder) (equal a.head)) (equal a.number)) (equal a.code)

pub one_name : (a b : SectorName) → same_sector a b ≡ true → a ≡ b
one_name a b is =
    let last = sides (nat_eq a.cylinder b.cylinder && nat_eq a.head b.head && nat_eq a.number b.number) (nat_eq a.code b.code) is in
    let third = sides (nat_eq a.cylinder b.cylinder && nat_eq a.head b.head) (nat_eq a.number b.number) last.0 in
    let two = sides (nat_eq a.cylinder b.cylinder) (nat_eq a.head b.head) third.0 in
    ap (λ (x : ℕ). named x a.head a.number a.code) (eqb-true a.cylinder b.cylinder two.0)
    ∙ ap (λ (x : ℕ). named b.cylinder x a.number a.code) (eqb-true a.head b.head two.1)
    ∙ ap (λ (x : ℕ). named b.cylinder b.head x a.code) (eqb-true a.number b.number third.1)
    ∙ ap (λ (x : ℕ). named b.cylinder b.head b.number x) (eqb-true a.code b.code last.1)

-- the answer of a comparison of two names
pub same_decides : (a b : SectorName) (r : Bool) → (r ≡ true → a ≡ b) → (a ≡ b → r ≡ true) → r ≡ same_sector a b
same_decides a b r told back =
    same_bool r (same_sector a b) (λ is. subst (λ (n : SectorName). same_sector a n ≡ true) (told is) (name_itself a)) (λ is. back (one_name a b is))

pub turned : (a b : SectorName) → same_sector a b ≡ same_sector b a
turned a b = same_decides b a (same_sector a b) (λ is. sym (one_name a b is)) (λ same. subst (λ (n : SectorName). same_sector n b ≡ true) same (name_itself b))

-- a name, where it was not met
abbrev pub fresh : Bool → SectorName → List SectorName
fresh was name = cond was [] (name ∷ [])

filter_fresh : (p : SectorName → Bool) (n : SectorName) (b m : Bool) → p n ≡ not b → filter p (fresh m n) ≡ fresh (b || m) n
filter_fresh p n true true is = refl
filter_fresh p n true false is = ap (λ (c : Bool). cond c (n ∷ []) []) is
filter_fresh p n false true is = refl
filter_fresh p n false false is = ap (λ (c : Bool). cond c (n ∷ []) []) is

-- one more header adds its name where that was not met
pub met_more : (headers : List NamedHeader) (h : NamedHeader) → names_met (headers ++ h ∷ []) ≡ names_met headers ++ fresh (is_met h.name headers) h.name
met_more [] h = refl
met_more (x ∷ xs) h =
    let p : SectorName → Bool = λ (n : SectorName). not (same_sector x.name n) in
    ap (λ (rest : List SectorName). x.name ∷ filter p rest) (met_more xs h)
    ∙ ap (λ (rest : List SectorName). x.name ∷ rest) (filter-append p (names_met xs) (fresh (is_met h.name xs) h.name))
    ∙ ap (λ (rest : List SectorName). x.name ∷ filter p (names_met xs) ++ rest)
    (filter_fresh p h.name (same_sector h.name x.name) (is_met h.name xs) (ap not (turned x.name h.name)))

by_first : (b any rest : Bool) → (b ≡ false → rest ≡ any) → (b || rest) ≡ (b || any)
by_first true any rest same = refl
by_first false any rest same = same refl

-- a name was met exactly where it is one of the names
pub met_name : (headers : List NamedHeader) (n : SectorName) → list_any (same_sector n) (names_met headers) ≡ is_met n headers
met_name [] n = refl
met_name (x ∷ xs) n =
    let p : SectorName → Bool = λ (m : SectorName). not (same_sector x.name m) in
    by_first (same_sector n x.name) (is_met n xs) (list_any (same_sector n) (filter p (names_met xs)))
    (λ differ.
    any-filter_same (same_sector n) p true
    (λ m same. ap not (ap (same_sector x.name) (sym (one_name n m same)) ∙ turned x.name n ∙ differ)) (names_met xs)
    ∙ met_name xs n)

-- no name stands twice
abbrev pub Apart : List SectorName → Type 0
Apart [] = Unit {0}
Apart (name ∷ names) = (list_any (same_sector name) names ≡ false) × Apart names

none_filtered : (p : SectorName → Bool) (n : SectorName) (ns : List SectorName) → list_any (same_sector n) ns ≡ false → list_any (same_sector n) (filter p ns) ≡ false
none_filtered p n [] is = refl
none_filtered p n (m ∷ ms) is =
    let parts = neither (same_sector n m) (list_any (same_sector n) ms) is in
    kept (p m) (none_filtered p n ms parts.1) parts.0
  where
    kept : (b : Bool) → list_any (same_sector n) (filter p ms) ≡ false → same_sector n m ≡ false
        → list_any (same_sector n) (cond b (m ∷ filter p ms) (filter p ms)) ≡ false
    kept true rest this = ap (λ (b : Bool). b || list_any (same_sector n) (filter p ms)) this ∙ rest
    kept false rest this = rest

apart_filtered : (p : SectorName → Bool) (ns : List SectorName) → Apart ns → Apart (filter p ns)
apart_filtered p [] apart = tt
apart_filtered p (m ∷ ms) apart = kept (p m) (apart_filtered p ms apart.1)
  where
    kept : (b : Bool) → Apart (filter p ms) → Apart (cond b (m ∷ filter p ms) (filter p ms))
    kept true rest = (none_filtered p m ms apart.0, rest)
    kept false rest = rest

-- whether a name is another one
abbrev other : SectorName → SectorName → Bool
other n m = not (same_sector n m)

not_filtered : (n : SectorName) (ns : List SectorName) → list_any (same_sector n) (filter (other n) ns) ≡ false
not_filtered n [] = refl
not_filtered n (m ∷ ms) = kept (same_sector n m) refl (not_filtered n ms)
  where
    kept : (b : Bool) → same_sector n m ≡ b → list_any (same_sector n) (filter (other n) ms) ≡ false
        → list_any (same_sector n) (cond (not b) (m ∷ filter (other n) ms) (filter (other n) ms)) ≡ false
    kept true is rest = rest
    kept false is rest = ap (λ (b : Bool). b || list_any (same_sector n) (filter (other n) ms)) is ∙ rest

pub apart_met : (headers : List NamedHeader) → Apart (names_met headers)
apart_met [] = tt
apart_met (x ∷ xs) =
    (not_filtered x.name (names_met xs), apart_filtered (other x.name) (names_met xs) (apart_met xs))

none_taken : (k : ℕ) (n : SectorName) (ns : List SectorName) → list_any (same_sector n) ns ≡ false → list_any (same_sector n) (take k ns) ≡ false
none_taken zero n ns is = refl
none_taken (suc k) n [] is = refl
none_taken (suc k) n (m ∷ ms) is =
    let parts = neither (same_sector n m) (list_any (same_sector n) ms) is in
    ap (λ (b : Bool). b || list_any (same_sector n) (take k ms)) parts.0 ∙ none_taken k n ms parts.1

pub apart_taken : (k : ℕ) (ns : List SectorName) → Apart ns → Apart (take k ns)
apart_taken zero ns apart = tt
apart_taken (suc k) [] apart = tt
apart_taken (suc k) (m ∷ ms) apart = (none_taken k m ms apart.0, apart_taken k ms apart.1)
