-- The sector that a header names, and headers of any name.
use Rattle.std.proofs.Common.{◌≡◌, ℕ, ◌<◌, ◌≤◌, Bool, List, Option, Some, None, IfSome, IfNone, ap, drop, arith, subst, sym}
use Rattle.flux_base.specs.declared.header_name.HeaderName.{HeaderName}
use Rattle.frame_law.specs.declared.reading.FoundHeader.{FoundHeader}
use Rattle.frame_law.specs.declared.reading.FoundHeader.TheVariants.{Sector, Other}
use Rattle.frame_law.specs.Others.{IsFoundHeader, NamesSectors}

module _ (names : List Bool → HeaderName → Type 0) (is_name_of : HeaderName → ℕ → Type 0) (names_sector : List Bool → ℕ → Type 0)
    (is : NamesSectors names is_name_of names_sector) (Known : ℕ → Type 0) (cells : List Bool) (name : HeaderName) where
  pub is_sector : names cells name → (found : Option ℕ) → IfSome found (λ s. is_name_of name s × Known s)
      → IfSome found (λ s. names_sector cells s × Known s)
  is_sector named (Some s) of_sector = (is.is_named cells name s named of_sector.0, of_sector.1)
  is_sector named None of_sector = tt

  pub no_sector : ((n m : HeaderName) → names cells n → names cells m → n ≡ m) → names cells name → (found : Option ℕ)
      → IfNone found ((s : ℕ) → ¬ (is_name_of name s × Known s)) → IfNone found ((s : ℕ) → Known s → ¬ names_sector cells s)
  no_sector one named (Some s) none = tt
  no_sector one named None none = λ s known sector.
      let has = is.has_name cells s sector in
      none s (subst (λ (n : HeaderName). is_name_of n s) (one has.0 name has.1 named) has.2, known)

-- no header of any name stands at a place from `from` to below `to`
abbrev pub NoNames : (List Bool → HeaderName → Type 0) → List Bool → ℕ → ℕ → Type 0
NoNames named cells from to = (place : ℕ) (name : HeaderName) → from ≤ place → place < to → ¬ named (drop place cells) name

module _ (named : List Bool → HeaderName → Type 0) (is_name_of : HeaderName → ℕ → Type 0) (header : List Bool → ℕ → Type 0)
    (is : NamesSectors named is_name_of header) where
  -- what is found has a name
  pub found_name : (cells : List Bool) (found : FoundHeader) → IsFoundHeader named header cells found → (name : HeaderName) × named cells name
  found_name cells (Sector s) here = (let n = is.has_name cells s here in (n.0, n.1))
  found_name cells (Other name) here = (name, here.0)

  pub none_found : (cells : List Bool) (from to : ℕ) → NoNames named cells from to → (place : ℕ) (found : FoundHeader) → from ≤ place → place < to
      → ¬ IsFoundHeader named header (drop place cells) found
  none_found cells from to none place found above below here =
      let name = found_name (drop place cells) found here in
      none place name.0 above below name.1

  -- and is one thing
  pub one_found : ((cells : List Bool) (n m : HeaderName) → named cells n → named cells m → n ≡ m)
      → ((cells : List Bool) (s t : ℕ) → header cells s → header cells t → s ≡ t)
      → (cells : List Bool) (f g : FoundHeader) → IsFoundHeader named header cells f → IsFoundHeader named header cells g → f ≡ g
  one_found one one_header cells (Sector s) (Sector t) first second = ap Sector (one_header cells s t first second)
  one_found one one_header cells (Sector s) (Other name) first second = absurd (second.1 s first)
  one_found one one_header cells (Other name) (Sector s) first second = absurd (first.1 s second)
  one_found one one_header cells (Other n) (Other m) first second = ap Other (one cells n m first.0 second.0)

  -- a header of a name that no sector has is an other
  pub not_own : ((cells : List Bool) (n m : HeaderName) → named cells n → named cells m → n ≡ m) → (name : HeaderName)
      → ((s : ℕ) → ¬ is_name_of name s) → (cells : List Bool) → named cells name → IsFoundHeader named header cells (Other name)
  not_own one name none cells here = (
    here,
    λ s own.
        let has = is.has_name cells s own in
        none s (subst (λ (n : HeaderName). is_name_of n s) (one cells has.0 name has.1 here) has.2),
  )
