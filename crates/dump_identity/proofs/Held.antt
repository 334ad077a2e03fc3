-- Of which disks a dump has a file of a track.
use Rattle.std.proofs.Common.{◌≡◌, ◌≤◌, ◌<◌, ◌⊎◌, ◌+◌, ◌++◌, ℕ, Bool, true, false, List, [], ◌∷◌, length, Option, None, Some, inl, inr, refl, sym, ap, subst, ◌∙◌, arith}
use Rattle.std.specs.Prelude.{IfSome, get_or, is_none, not}
use Rattle.std.specs.Option.{is_some}
use Rattle.std.proofs.lemmas.Bool.{cases_lt}
use Rattle.std.proofs.lemmas.List.{get_or_append_left, get_or_default, get_or_push, length_push}
use Rattle.flux_engine.specs.declared.plan.Clocks.TheVariants.{Both}
use Rattle.sector_images.specs.declared.format.Format.{Format}
use Rattle.track_shelf.specs.Files.{File}
use Rattle.track_shelf.specs.declared.stepping.Stepping.{Stepping}
use Rattle.dump_reading.specs.Outcomes.{IsFirstEmpty}
use Rattle.dump_reading.specs.declared.looks.Looks.TheVariants.{Always}
use Rattle.dump_tallies.specs.Tallies.{TalliedDisk}
use Rattle.dump_identity.specs.Findings.{disk_as}
use Rattle.dump_identity.specs.inside.Outcomes.{IsHeld, candidate_in}

-- this is the first dump without files of a disk that is read in any way
abbrev pub ToldFirst : (told : Option (List File)) → (names : List (List ℕ)) → Stepping → Format → Option ℕ → Type 0
ToldFirst told names stepping format found =
    (files : List File) → told ≡ Some files → IsFirstEmpty (record { stepping = stepping; dumps = names; format = format; clocks = Both; looks = Always }) files found

-- what was found of one dump tells whether it has one
held-by : (dump : List ℕ) (told : Option (List File)) (disk : TalliedDisk) (found : Option ℕ) (held : Bool) → held ≡ is_none found
    → ToldFirst told (dump ∷ []) disk.stepping disk.format found → IfSome found (λ n. n < 1) → IsHeld dump told disk held
held-by dump told disk None held is first low = subst (λ (b : Bool). IsHeld dump told disk b) (sym is) (λ files known. first files known)
held-by dump told disk (Some n) held is first low =
    let none : n ≡ 0 = omega (arith, low) in
    subst (λ (b : Bool). IsHeld dump told disk b) (sym is)
    (λ files known. subst (λ (k : ℕ). IsFirstEmpty (disk_as dump (candidate_in disk)) files (Some k)) none (first files known))

flip : (a b : Bool) → a ≡ not b → b ≡ not a
flip true true e = e
flip true false e = refl
flip false true e = refl
flip false false e = e

pub is-held : (dump : List ℕ) (told : Option (List File)) (disk : TalliedDisk) (found : Option ℕ) (held : Bool) → is_some found ≡ not held
    → (names : List (List ℕ)) (stepping : Stepping) (format : Format) → names ≡ dump ∷ [] → stepping ≡ disk.stepping → format ≡ disk.format
    → ToldFirst told names stepping format found → IfSome found (λ n. n < length names) → IsHeld dump told disk held
is-held dump told disk found held is names stepping format named stepped formatted first low =
    held-by dump told disk found held (flip (is_some found) held is)
    (subst (λ (ns : List (List ℕ)). ToldFirst told ns disk.stepping disk.format found) named
    (subst (λ (s : Stepping). ToldFirst told names s disk.format found) stepped (subst (λ (f : Format). ToldFirst told names stepping f found) formatted first)))
    (subst (λ (ns : List (List ℕ)). IfSome found (λ n. n < length ns)) named low)

-- one more was appended
pub many-more : (held more : List Bool) (here : Bool) → more ≡ held ++ here ∷ [] → (n : ℕ) → length held ≡ n → length more ≡ n + 1
many-more held more here grew n many = ap (λ (hs : List Bool). length hs) grew ∙ length_push held here ∙ ap (λ (k : ℕ). k + 1) many

-- one disk more was looked at
module _ (dump : List ℕ) (told : Option (List File)) (disks : List TalliedDisk) (held : List Bool) (n : ℕ) (many : length held ≡ n) (here : Bool) where
  abbrev more : List Bool
  more = held ++ here ∷ []

  abbrev Holds : ℕ → TalliedDisk → Bool → Type 0
  Holds k d b = IsHeld dump told (get_or disks k d) b

  pub held-next : ((k : ℕ) (d : TalliedDisk) (b : Bool) → k < n → Holds k d (get_or held k b)) → (disk : TalliedDisk) → n < length disks → disk ≡ get_or disks n disk → IsHeld dump told disk here
      → (k : ℕ) (d : TalliedDisk) (b : Bool) → k < n + 1 → Holds k d (get_or more k b)
  held-next before disk low is there k d b below = by (cases_lt k n)
    where
      by : (k < n) ⊎ (n ≤ k) → Holds k d (get_or more k b)
      by (inl less) = subst (λ (h : Bool). Holds k d h) (sym (get_or_append_left held (here ∷ []) b k (omega (arith, less, many)))) (before k d b less)
      by (inr past) =
          let at : n ≡ k = omega (arith, past, below) in
          subst (λ (j : ℕ). Holds j d (get_or more j b)) at
          (subst (λ (h : Bool). Holds n d h) (sym (get_or_push held here b n many))
          (subst (λ (x : TalliedDisk). IsHeld dump told x here) (is ∙ get_or_default disks n disk d low) there))
