-- What the words of `archive` ask for.
use Rattle.std.proofs.Common.{◌≡◌, ◌≤◌, ◌-◌, ℕ, List, [], ◌∷◌, codes, drop, get_or, length, take, Option, Some, None, refl, sym, ap, ◌∙◌, subst, arith}
use Rattle.sector_images.specs.Formats.{WordsNameFormats}
use Rattle.sector_images.specs.declared.format.Format.{Format}
use Rattle.track_shelf.specs.declared.stepping.Stepping.{Stepping}
use Rattle.flux_words.specs.ArchiveWords.{AreArchiveWords, AskedArchive, IsDiskOf, IsNamedDisk, NamesDisk, fronted}
use Rattle.flux_words.specs.ImdWords.{AreNamed}
use Rattle.flux_words.specs.declared.archive_words.DiskAsked.{DiskAsked}
use Rattle.flux_words.proofs.DumpWords.{one-format, slice-rest}
use Rattle.flux_words.proofs.OptionWords.{head-same, tail-same}

-- words name one disk
one_named : WordsNameFormats → (word : List ℕ) (rest : List (List ℕ)) (d e : DiskAsked) (behind other : List (List ℕ)) → IsNamedDisk word rest d behind → IsNamedDisk word rest e other → d ≡ e
one_named names word rest d e behind other p q =
    ap (λ (s : Stepping). record d { stepping = s }) (p.steps ∙ sym q.steps)
    ∙ ap (λ (f : Format). record e { format = f }) (one-format names word word d.format e.format refl p.named q.named)

module _ (names : WordsNameFormats) where
  one_of : (word : Option (List ℕ)) (rest : List (List ℕ)) (d e : Option DiskAsked) (behind other : List (List ℕ)) → IsDiskOf word rest d behind → IsDiskOf word rest e other → d ≡ e
  one_of None rest None None behind other p q = refl
  one_of (Some word) rest (Some d) (Some e) behind other p q = ap Some (one_named names word rest d e behind other p q)
  one_of None rest (Some d) e behind other p q = absurd p
  one_of None rest None (Some e) behind other p q = absurd q
  one_of (Some word) rest None e behind other p q = absurd p
  one_of (Some word) rest (Some d) None behind other p q = absurd q

-- and have the same words behind it
same_of : (word : Option (List ℕ)) (rest : List (List ℕ)) (d e : Option DiskAsked) (behind other : List (List ℕ)) → IsDiskOf word rest d behind → IsDiskOf word rest e other → behind ≡ other
same_of None rest None None behind other p q = p ∙ sym q
same_of (Some word) rest (Some d) (Some e) behind other p q = p.behind_is ∙ sym q.behind_is
same_of None rest (Some d) e behind other p q = absurd p
same_of None rest None (Some e) behind other p q = absurd q
same_of (Some word) rest None e behind other p q = absurd p
same_of (Some word) rest (Some d) None behind other p q = absurd q

-- words with two in front
two_first : (words : List (List ℕ)) (a b : List ℕ) → 2 ≤ length words → a ≡ get_or words 0 a → b ≡ get_or words 1 b → words ≡ a ∷ b ∷ take (length words - 2) (drop 2 words)
two_first [] a b some is_a is_b = absurd (omega (arith, some))
two_first (x ∷ []) a b some is_a is_b = absurd (omega (arith, some))
two_first (x ∷ (y ∷ rest)) a b some is_a is_b =
    ap (λ (w : List ℕ). w ∷ y ∷ rest) (sym is_a) ∙ ap (λ (w : List ℕ). a ∷ w ∷ rest) (sym is_b) ∙ ap (λ (ws : List (List ℕ)). a ∷ b ∷ ws) (sym (slice-rest (x ∷ y ∷ rest) 2))

-- where the word behind the option's is no format's, no disk is asked for
pub none-named : (others : List (List ℕ)) (option word : List ℕ) → 2 ≤ length others → option ≡ get_or others 0 option → word ≡ get_or others 1 word → option ≡ codes "--format"
    → ((found : DiskAsked × List (List ℕ)) → ¬ IsNamedDisk word (take (length others - 2) (drop 2 others)) found.0 found.1)
    → (found : Option DiskAsked × List (List ℕ)) → ¬ NamesDisk others found.0 found.1
none-named others option word some is_option is_word is none found names =
    by found.0 found.1 (subst (λ (ws : List (List ℕ)). NamesDisk ws found.0 found.1) at names)
  where
    rest : List (List ℕ)
    rest = take (length others - 2) (drop 2 others)

    at : others ≡ codes "--format" ∷ word ∷ rest
    at = two_first others option word some is_option is_word ∙ ap (λ (w : List ℕ). w ∷ word ∷ rest) is

    by : (disk : Option DiskAsked) (behind : List (List ℕ)) → ¬ NamesDisk (codes "--format" ∷ word ∷ rest) disk behind
    by None behind named = named
    by (Some disk) behind named = none (disk, behind) named

-- words ask for one archive
pub one_archive : WordsNameFormats → (others : List (List ℕ)) (a b : AskedArchive) → AreArchiveWords others a → AreArchiveWords others b → a ≡ b
one_archive names others a b p q =
    let behind = same_of (fronted others).word (fronted others).rest a.disk b.disk (a.folder ∷ a.dumps) (b.folder ∷ b.dumps) p.disk q.disk in
    ap (λ (d : Option DiskAsked). record a { disk = d })
    (one_of names (fronted others).word (fronted others).rest a.disk b.disk (a.folder ∷ a.dumps) (b.folder ∷ b.dumps) p.disk q.disk)
    ∙ ap (λ (f : List ℕ). record a { disk = b.disk; folder = f }) (head-same _ _ _ _ behind)
    ∙ ap (λ (d : List (List ℕ)). record b { dumps = d }) (tail-same _ _ _ _ behind)
