-- What repeated searches find, and what is joined, is one list where each part of it is one.
use Rattle.std.proofs.Common.{◌≡◌, ◌<◌, ◌≤◌, ◌⊎◌, ◌+◌, ◌*◌, ◌∙◌, ℕ, zero, suc, List, [], ◌∷◌, ◌++◌, length, get_or, refl, sym, subst, ap, inl, inr, arith, length-append}
use Rattle.std.specs.Prelude.{flat_map}
use Rattle.std.proofs.lemmas.Bool.{cases_lt}
use Rattle.std.proofs.lemmas.List.{get_or_append_left, get_or-append-add}
use Rattle.frame_law.specs.Controller.{AreFound}
use Rattle.imd_image.specs.Streams.{AreJoined}
use Rattle.name_book.specs.Names.{NotedData}
use Rattle.name_book.specs.declared.name.NamedHeader.{NamedHeader}

-- where one thing stands at a place
module _ {X : Type 0} (At : ℕ → X → Type 0) (one : (place : ℕ) (x y : X) → At place x → At place y → x ≡ y) where
  same_pair : (f g : ℕ × X) → f.0 ≡ g.0 → At f.0 f.1 → At g.0 g.1 → f ≡ g
  same_pair f g same first second =
      let what : f.1 ≡ g.1 = one g.0 f.1 g.1 (subst (λ (p : ℕ). At p f.1) same first) second in
      λ i. (same i, what i)

  pub found_one : (from : ℕ) (found others : List (ℕ × X)) → AreFound At from found → AreFound At from others → found ≡ others
  found_one from [] [] all other = refl
  found_one from [] (g ∷ gs) all other = absurd (all g.0 g.1 other.0.0 other.0.1)
  found_one from (f ∷ fs) [] all other = absurd (other f.0 f.1 all.0.0 all.0.1)
  found_one from (f ∷ fs) (g ∷ gs) all other =
      let place : f.0 ≡ g.0 = by (cases_lt f.0 g.0) (cases_lt g.0 f.0) in
      let same = same_pair f g place all.0.1 other.0.1 in
      let rest = found_one (f.0 + 1) fs gs all.1 (subst (λ (n : ℕ). AreFound At (n + 1) gs) (sym place) other.1) in
      λ i. same i ∷ rest i
    where
      by : (f.0 < g.0) ⊎ (g.0 ≤ f.0) → (g.0 < f.0) ⊎ (f.0 ≤ g.0) → f.0 ≡ g.0
      by (inl before) _ = absurd (other.0.2 f.0 f.1 all.0.0 before all.0.1)
      by _ (inl behind) = absurd (all.0.2 g.0 g.1 other.0.0 behind other.0.1)
      by (inr past) (inr before) = omega (arith, past, before)

-- headers and data are those and these
abbrev pub AreOne : (headers headers' : List NamedHeader) (noted noted' : List NotedData) → Type 0
AreOne headers headers' noted noted' = (headers ≡ headers') × (noted ≡ noted')

-- where each part is one
module _ {K : Type 0} (Are : K → List NamedHeader → List NotedData → Type 0)
    (one : (key : K) (headers headers' : List NamedHeader) (noted noted' : List NotedData) → Are key headers noted → Are key headers' noted' → AreOne headers headers' noted noted') where
  pub joined_one : (keys : List K) (headers headers' : List NamedHeader) (noted noted' : List NotedData) → AreJoined Are keys headers noted → AreJoined Are keys headers' noted'
      → AreOne headers headers' noted noted'
  joined_one [] headers headers' noted noted' p q = (p.0 ∙ sym q.0, p.1 ∙ sym q.1)
  joined_one (key ∷ keys) headers headers' noted noted' p q =
      let first = one key p.first q.first p.held_first q.held_first p.one q.one in
      let rest = joined_one keys p.later q.later p.held_later q.held_later p.others q.others in (
        p.headers_are ∙ ap (λ (hs : List NamedHeader). hs ++ p.later) first.0 ∙ ap (λ (hs : List NamedHeader). q.first ++ hs) rest.0 ∙ sym q.headers_are,
        p.data_are ∙ ap (λ (ds : List NotedData). ds ++ p.held_later) first.1 ∙ ap (λ (ds : List NotedData). q.held_first ++ ds) rest.1 ∙ sym q.data_are,
      )

-- of lists of one length, joined, each element is one of one of them
pub flat_at : {X : Type 0} (lists : List (List X)) (size : ℕ) (d : X) → ((n : ℕ) → n < length lists → length (get_or lists n []) ≡ size) → (n k : ℕ) → n < length lists → k < size
    → get_or (flat_map (λ (xs : List X). xs) lists) (n * size + k) d ≡ get_or (get_or lists n []) k d
flat_at [] size d each n k low small = absurd (omega (arith, low))
flat_at {X} (xs ∷ lists) size d each zero k low small =
    let long : length xs ≡ size = each 0 (omega arith) in
    let here : 0 * size + k ≡ k = omega arith in
    ap (λ (j : ℕ). get_or (xs ++ flat_map (λ (ys : List X). ys) lists) j d) here
    ∙ get_or_append_left xs (flat_map (λ (ys : List X). ys) lists) d k (omega (arith, long, small))
flat_at {X} (xs ∷ lists) size d each (suc n) k low small =
    let long : length xs ≡ size = each 0 (omega arith) in
    let there : suc n * size + k ≡ length xs + (n * size + k) = at (length xs) long in
    ap (λ (j : ℕ). get_or (xs ++ flat_map (λ (ys : List X). ys) lists) j d) there
    ∙ get_or-append-add xs (flat_map (λ (ys : List X). ys) lists) (n * size + k) d
    ∙ flat_at lists size d (λ m few. each (suc m) (omega (arith, few))) n k (omega (arith, low)) small
  where
    at : (more : ℕ) → more ≡ size → suc n * size + k ≡ more + (n * size + k)
    at more same = omega (arith, same)

-- as many they have
pub flat_size : {X : Type 0} (lists : List (List X)) (size : ℕ) → ((n : ℕ) → n < length lists → length (get_or lists n []) ≡ size)
    → length (flat_map (λ (xs : List X). xs) lists) ≡ length lists * size
flat_size [] size each = omega arith
flat_size {X} (xs ∷ lists) size each =
    let long : length xs ≡ size = each 0 (omega arith) in
    let rest = flat_size lists size (λ m few. each (suc m) (omega (arith, few))) in
    length-append xs (flat_map (λ (ys : List X). ys) lists) ∙ ap (λ (n : ℕ). n + length (flat_map (λ (ys : List X). ys) lists)) long ∙ ap (λ (n : ℕ). size + n) rest ∙ next (length lists)
  where
    next : (k : ℕ) → size + k * size ≡ suc k * size
    next k = omega arith
