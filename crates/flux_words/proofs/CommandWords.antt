-- What words ask for, by the one that stands first.
use Rattle.std.proofs.Common.{◌≡◌, ℕ, List, [], ◌∷◌, get_or, length, Option, Some, None, inl, inr, refl, sym, ap, ◌∙◌, subst, arith}
use Rattle.std.specs.Str.Parse.{digits_value}
use Rattle.flux_help.specs.Verbs.{verb_of}
use Rattle.flux_help.specs.declared.page.Page.{Page}
use Rattle.flux_help.specs.declared.page.Page.TheVariants.{Help as AllPages, Version, About}
use Rattle.flux_help.specs.declared.verb.Verb.{Verb}
use Rattle.flux_help.specs.declared.verb.Verb.TheVariants.{Archive, Identify, Imd, Info, Read, Show, DecodeFolder, DecodeSet, Rescue, Decode, Report, Map, Write, Split, Unpack, Turns, ToG64, FromG64, Trial, Help}
use Rattle.sector_images.specs.Formats.{WordsBeginWithLetters, WordsNameFormats}
use Rattle.sector_images.specs.declared.format.Format.{Format}
use Rattle.flux_words.specs.Asked.{Asked, a_folder, some_dumps, a_sector, an_archive, an_identity, an_imd_file, told_files, written_streams, written_files, split_streams, unpacked_file, a_trial, a_g64_file, an_image_of_g64, a_page}
use Rattle.flux_words.specs.CommandWords.{AreBehind, AreByVerb, AreFilesWords, AreStreams, AskFor, AskOnce, IsDashed, IsFormat, IsFormatWith, IsOfHeads, IsPageWord, streams_of}
use Rattle.stream_files.specs.declared.heads.Heads.{Heads}
use Rattle.stream_files.specs.declared.heads.Heads.TheVariants.{One, Two}
use Rattle.flux_words.specs.DumpWords.{AreDiskWords, dump_options}
use Rattle.flux_words.specs.G64Disks.{format_of}
use Rattle.flux_words.specs.Names.{Names}
use Rattle.flux_words.specs.SectorWords.{ArePlaceWords, sector_options}
use Rattle.flux_words.specs.declared.commands.Output.{Output}
use Rattle.flux_words.specs.declared.commands.Way.{Way}
use Rattle.flux_words.specs.declared.commands.Way.TheVariants.{Often}
use Rattle.flux_words.specs.declared.g64_disk.G64Disk.{G64Disk}
use Rattle.flux_words.specs.declared.g64_disk.G64Disk.TheVariants.{Tracks35, Tracks40}
use Rattle.flux_words.proofs.ArchiveWords.{one_archive}
use Rattle.flux_words.proofs.DumpWords.{disk-past, one-disk, one-format}
use Rattle.flux_words.proofs.OptionWords.{head-same, one-named, tail-same}
use Rattle.flux_words.proofs.SectorWords.{one-place, place-past}

-- an image's streams joined, or as files
pub files-or : (others : List (List ℕ)) (asked : Option Asked) → ((format : Format) → ¬ IsFormat format others) → Names (AreFilesWords others) asked → Names (AreBehind Write others) asked
files-or others (Some asked) lacks are = inr are
files-or others None lacks are = by
  where
    by : (asked : Asked) → AreBehind Write others asked → ⊥
    by asked (inl p) = lacks p.0 p.1
    by asked (inr p) = are asked p

-- no verb's
pub by-no-verb : (words : List (List ℕ)) (seen dashed first : List ℕ) (others : List (List ℕ)) (asked : Option Asked) → words ≡ first ∷ others → seen ≡ first → dashed ≡ first
    → verb_of seen ≡ None → Names (IsDashed dashed others) asked → AskFor words asked
by-no-verb words seen dashed first others asked at is_seen is_dashed none asks =
    subst (λ (ws : List (List ℕ)). AskFor ws asked) (sym at)
    (subst (λ (verb : Option Verb). Names (λ a. AreByVerb verb first others a) asked) (sym (ap verb_of (sym is_seen) ∙ none))
    (subst (λ (w : List ℕ). Names (IsDashed w others) asked) is_dashed asks))

one_g64_disk : (disk other : G64Disk) → format_of disk ≡ format_of other → disk ≡ other
one_g64_disk Tracks35 Tracks35 same = refl
one_g64_disk Tracks35 Tracks40 same = absurd (cc)
one_g64_disk Tracks40 Tracks35 same = absurd (cc)
one_g64_disk Tracks40 Tracks40 same = refl

one_verb : (verb other : Verb) → Some verb ≡ Some other → verb ≡ other
one_verb verb other same = cc

other_length : (first word other : List ℕ) → first ≡ word → first ≡ other → length word ≡ length other
other_length first word other is is_other = ap length (sym is ∙ is_other)

one_page : (first : List ℕ) (page other : Page) → IsPageWord first page → IsPageWord first other → page ≡ other
one_page first AllPages AllPages is is_other = refl
one_page first Version Version is is_other = refl
one_page first AllPages Version (inl is) is_other = (let wrong : 6 ≡ 9 = other_length first _ _ is is_other in absurd (omega (arith, wrong)))
one_page first AllPages Version (inr is) is_other = (let wrong : 2 ≡ 9 = other_length first _ _ is is_other in absurd (omega (arith, wrong)))
one_page first Version AllPages is (inl is_other) = (let wrong : 9 ≡ 6 = other_length first _ _ is is_other in absurd (omega (arith, wrong)))
one_page first Version AllPages is (inr is_other) = (let wrong : 9 ≡ 2 = other_length first _ _ is is_other in absurd (omega (arith, wrong)))
one_page first (About verb) other is is_other = absurd is
one_page first AllPages (About verb) is is_other = absurd is_other
one_page first Version (About verb) is is_other = absurd is_other

-- a word says one number of heads
pub one_heads : (heads other : Heads) (word : List ℕ) → IsOfHeads heads word → IsOfHeads other word → heads ≡ other
one_heads One One word is is_other = refl
one_heads One Two word is is_other = (let wrong : 49 ≡ 50 = ap (λ (w : List ℕ). get_or w 0 0) (sym is ∙ is_other) in absurd (omega (arith, wrong)))
one_heads Two One word is is_other = (let wrong : 50 ≡ 49 = ap (λ (w : List ℕ). get_or w 0 0) (sym is ∙ is_other) in absurd (omega (arith, wrong)))
one_heads Two Two word is is_other = refl

module _ (names : WordsNameFormats) (letters : WordsBeginWithLetters) where
  module _ (others : List (List ℕ)) where
    same_format : (f g : Format) → IsFormat f others → IsFormat g others → f ≡ g
    same_format f g p q = one-format names p.0 q.0 f g (head-same _ _ _ _ (sym p.1 ∙ q.1)) p.2 q.2

    same_format_with : (f g : Format) (last other : List ℕ) → IsFormatWith f last others → IsFormatWith g other others → f ≡ g
    same_format_with f g last other p q = one-format names p.0 q.0 f g (head-same _ _ _ _ (sym p.1 ∙ q.1)) p.2 q.2

    same_last : (f g : Format) (last other : List ℕ) → IsFormatWith f last others → IsFormatWith g other others → last ≡ other
    same_last f g last other p q = head-same _ _ _ _ (tail-same _ _ _ _ (sym p.1 ∙ q.1))

    one_streams : (way : Way) (output : Output) (a b : Asked) → AreStreams way output others a → AreStreams way output others b → a ≡ b
    one_streams way output a b p q = p.2 ∙ ap (streams_of way output) (same_format p.0 q.0 p.1 q.1) ∙ sym q.2

    -- behind a verb's word
    one_behind : (verb : Verb) (a b : Asked) → AreBehind verb others a → AreBehind verb others b → a ≡ b
    one_behind Turns a b p q = p.1 ∙ sym q.1
    one_behind Decode a b p q = one_streams _ _ a b p q
    one_behind Report a b p q = one_streams _ _ a b p q
    one_behind Rescue a b p q = one_streams _ _ a b p q
    one_behind Map a b p q = one_streams _ _ a b p q
    one_behind DecodeSet a b p q =
        let count : p.2 ≡ q.2 = sym p.4.value ∙ ap (digits_value 10) (same_last p.0 q.0 p.1 q.1 p.3 q.3) ∙ q.4.value in
        p.5 ∙ ap (λ (n : ℕ). streams_of (Often n) _ p.0) count ∙ ap (streams_of (Often q.2) _) (same_format_with p.0 q.0 p.1 q.1 p.3 q.3) ∙ sym q.5
    one_behind DecodeFolder a b p q =
        p.4 ∙ ap (λ (f : Format). a_folder f p.1) (same_format_with p.0 q.0 p.1 q.1 p.2 q.2) ∙ ap (a_folder q.0) (same_last p.0 q.0 p.1 q.1 p.2 q.2) ∙ sym q.4
    one_behind Read a b p q = p.2 ∙ ap some_dumps (one-named dump_options AreDiskWords (disk-past letters) (λ c d ws. one-disk names c d ws) others p.0 q.0 p.1 q.1) ∙ sym q.2
    one_behind Show a b p q = p.2 ∙ ap a_sector (one-named sector_options ArePlaceWords (place-past letters) (λ c d ws. one-place names c d ws) others p.0 q.0 p.1 q.1) ∙ sym q.2
    one_behind Identify a b p q = p.2 ∙ ap an_identity (head-same _ _ _ _ (sym p.1.0 ∙ q.1.0)) ∙ sym q.2
    one_behind Info a b p q = p.2 ∙ ap told_files (head-same _ _ _ _ (sym p.1.0 ∙ q.1.0)) ∙ sym q.2
    one_behind Imd a b p q = p.2 ∙ ap an_imd_file (p.1.is ∙ sym q.1.is) ∙ sym q.2
    one_behind Archive a b p q = p.3 ∙ ap an_archive (one_archive names others p.0 q.0 p.1 q.1) ∙ sym q.3
    one_behind Write a b (inl p) (inl q) = p.2 ∙ ap written_streams (same_format p.0 q.0 p.1 q.1) ∙ sym q.2
    one_behind Write a b (inl p) (inr q) = (let wrong : 1 ≡ 3 = ap length (sym p.1.1 ∙ q.2.1) in absurd (omega (arith, wrong)))
    one_behind Write a b (inr p) (inl q) = (let wrong : 3 ≡ 1 = ap length (sym p.2.1 ∙ q.1.1) in absurd (omega (arith, wrong)))
    one_behind Write a b (inr p) (inr q) =
        let behind = tail-same _ _ _ _ (sym p.2.1 ∙ q.2.1) in
        let format : p.0 ≡ q.0 = one-format names p.2.0 q.2.0 p.0 q.0 (head-same _ _ _ _ (tail-same _ _ _ _ behind)) p.2.2 q.2.2 in
        p.4 ∙ ap (λ (f : Format). written_files f p.1) format ∙ ap (written_files q.0) (head-same _ _ _ _ behind) ∙ sym q.4
    one_behind Split a b p q =
        let word = head-same _ _ _ _ (tail-same _ _ _ _ (sym p.3 ∙ q.3)) in
        p.6 ∙ ap (split_streams p.0) (one_heads p.2 q.2 p.1 p.4 (subst (IsOfHeads q.2) (sym word) q.4))
        ∙ ap (λ (folder : List ℕ). split_streams folder q.2) (head-same _ _ _ _ (sym p.3 ∙ q.3)) ∙ sym q.6
    one_behind Unpack a b p q =
        p.5 ∙ ap (λ (file : List ℕ). unpacked_file file p.1) (head-same _ _ _ _ (sym p.2 ∙ q.2))
        ∙ ap (unpacked_file q.0) (head-same _ _ _ _ (tail-same _ _ _ _ (sym p.2 ∙ q.2))) ∙ sym q.5
    one_behind Trial a b p q =
        let seed : p.2 ≡ q.2 = sym p.4.value ∙ ap (digits_value 10) (same_last p.0 q.0 p.1 q.1 p.3 q.3) ∙ q.4.value in
        p.5 ∙ ap (a_trial p.0) seed ∙ ap (λ (f : Format). a_trial f q.2) (same_format_with p.0 q.0 p.1 q.1 p.3 q.3) ∙ sym q.5
    one_behind ToG64 a b p q = p.2 ∙ ap a_g64_file (one_g64_disk p.0 q.0 (same_format _ _ p.1 q.1)) ∙ sym q.2
    one_behind FromG64 a b p q = p.2 ∙ ap an_image_of_g64 (one_g64_disk p.0 q.0 (same_format _ _ p.1 q.1)) ∙ sym q.2
    one_behind Help a b (inl p) (inl q) = p.1 ∙ sym q.1
    one_behind Help a b (inl p) (inr q) = (let wrong : 0 ≡ 1 = ap length (sym p.0 ∙ q.2) in absurd (omega (arith, wrong)))
    one_behind Help a b (inr p) (inl q) = (let wrong : 1 ≡ 0 = ap length (sym p.2 ∙ q.0) in absurd (omega (arith, wrong)))
    one_behind Help a b (inr p) (inr q) =
        p.4 ∙ ap (λ (v : Verb). a_page (About v)) (one_verb p.1 q.1 (sym p.3 ∙ ap verb_of (head-same _ _ _ _ (sym p.2 ∙ q.2)) ∙ q.3)) ∙ sym q.4

  -- words ask for one thing at most
  pub asked-once : AskOnce
  asked-once [] a b p q = absurd p
  asked-once (first ∷ others) a b p q = by (verb_of first) p q
    where
      by : (verb : Option Verb) → AreByVerb verb first others a → AreByVerb verb first others b → a ≡ b
      by (Some verb) p q = one_behind others verb a b p q
      by None p q = p.1.2 ∙ ap a_page (one_page first p.1.0 q.1.0 p.1.1 q.1.1) ∙ sym q.1.2
