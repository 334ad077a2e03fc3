-- Files and folders that are looked for.
use Rattle.std.proofs.Common.{◌≡◌, ◌||◌, ℕ, Bool, true, false, cond, List, [], ◌∷◌, ◌++◌, find, map, refl, sym, ap, subst, append_assoc, ◌∙◌, Some, None, Option}
use Rattle.std.proofs.lemmas.List.{append_cancel_left}
use Rattle.std.proofs.lemmas.Slice.Eq.{bytes_eq-Decides}
use Rattle.std.specs.Bool.{Decides}
use Rattle.std.specs.List.{list_any}
use Rattle.std.specs.Option.{is_some}
use Rattle.std.specs.Str.{bytes_eq}

-- one is found where one passes
pub is_some-any : {X : Type 0} (p : X → Bool) (xs : List X) → list_any p xs ≡ is_some (find p xs)
is_some-any p [] = refl
is_some-any p (x ∷ xs) = by (p x) (is_some-any p xs)
  where
    by : (b : Bool) → list_any p xs ≡ is_some (find p xs) → (b || list_any p xs) ≡ is_some (cond b (Some x) (find p xs))
    by true later = refl
    by false later = later

pub none-found : {X : Type 0} (o : Option X) → is_some o ≡ false → o ≡ None
none-found None is = refl
none-found (Some x) is = absurd (cc)

-- a test of what each comes to
pub any-map : {X Y : Type 0} (p : Y → Bool) (f : X → Y) (xs : List X) → list_any (λ x. p (f x)) xs ≡ list_any p (map f xs)
any-map p f [] = refl
any-map p f (x ∷ xs) = ap (λ (b : Bool). p (f x) || b) (any-map p f xs)

pub same_told : {X : Type 0} (x told : X) → Some x ≡ Some told → x ≡ told
same_told x told is = cc

-- what is behind a front tells whether a path is that front and a name
pub behind : (path front rest back : List ℕ) (same : Bool) → path ≡ front ++ rest → Decides same (rest ≡ back) → Decides same (path ≡ front ++ back)
behind path front rest back same is decides =
    ((λ yes. is ∙ ap (λ (r : List ℕ). front ++ r) (decides.0 yes)), (λ e. decides.1 (append_cancel_left front rest back (sym is ∙ e))))

-- the same where a name in a folder is asked for
pub in_folder : (path folder slash name : List ℕ) (same : Bool) → Decides same (path ≡ folder ++ (slash ++ name)) → Decides same (path ≡ folder ++ slash ++ name)
in_folder path folder slash name same decides =
    let joined = append_assoc folder slash name in
    ((λ yes. decides.0 yes ∙ sym joined), (λ e. decides.1 (e ∙ joined)))

pub by_bytes : (xs ys : List ℕ) (same : Bool) → same ≡ bytes_eq xs ys → Decides same (xs ≡ ys)
by_bytes xs ys same is = subst (λ (b : Bool). Decides b (xs ≡ ys)) (sym is) (bytes_eq-Decides xs ys)

pub not_behind : (path front back : List ℕ) → ((rest : List ℕ) → path ≡ front ++ rest → ⊥) → Decides false (path ≡ front ++ back)
not_behind path front back differs = ((λ no. absurd (cc)), (λ e. absurd (differs back e)))
