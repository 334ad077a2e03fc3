-- What the words of `read` ask for.
use Rattle.std.proofs.Common.{◌≡◌, ◌-◌, ℕ, Bool, true, false, List, drop, take, length, Option, sym, ap, ◌∙◌, subst, arith}
use Rattle.std.specs.Bool.{then_some}
use Rattle.std.specs.Option.{option_map}
use Rattle.std.proofs.lemmas.List.{length-drop, take_all}
use Rattle.sector_images.specs.Formats.{IsWordOfFormat, WordsBeginWithLetters, WordsNameFormats}
use Rattle.sector_images.specs.declared.format.Format.{Format}
use Rattle.track_shelf.specs.declared.stepping.Stepping.{Stepping}
use Rattle.flux_words.specs.DumpWords.{AreDiskWords, AskedDumps, dump_options}
use Rattle.flux_words.specs.inside.OptionWords.{IsPast}
use Rattle.flux_words.specs.declared.options.Options.{Options}
use Rattle.flux_words.specs.declared.options.Shown.{Shown}
use Rattle.flux_words.proofs.OptionWords.{head-same, tail-same, word-past}

-- no option stands before a format
pub disk-past : WordsBeginWithLetters → (asked : AskedDumps) (words : List (List ℕ)) → AreDiskWords asked words → IsPast words
disk-past letters asked words are = word-past letters asked.format are.word words asked.dumps are.named are.are

-- words of formats that are the same are one format's
pub one-format : WordsNameFormats → (word other : List ℕ) (f g : Format) → word ≡ other → IsWordOfFormat word f → IsWordOfFormat other g → f ≡ g
one-format one word other f g same is at = one other f g (subst (λ (w : List ℕ). IsWordOfFormat w f) same is) at

-- words ask for one disk
pub one-disk : WordsNameFormats → (a b : AskedDumps) (words : List (List ℕ)) → dump_options a ≡ dump_options b → AreDiskWords a words → AreDiskWords b words → a ≡ b
one-disk one a b words options mine theirs =
    let same = sym mine.are ∙ theirs.are in
    let kind : a.format ≡ b.format = one-format one mine.word theirs.word a.format b.format (head-same _ _ _ _ same) mine.named theirs.named in
    ap (λ (s : Stepping). record a { stepping = s }) (ap (λ (o : Options). o.stepping) options)
    ∙ ap (λ (s : Shown). record a { stepping = b.stepping; shown = s }) (ap (λ (o : Options). o.shown) options)
    ∙ ap (λ (d : List (List ℕ)). record a { stepping = b.stepping; shown = b.shown; dumps = d }) (tail-same _ _ _ _ same)
    ∙ ap (λ (f : Format). record b { format = f }) kind

-- what is asked, as contracts see it, where it can be
pub then-asked : {X Y : Type 0} (view : X → Y) (b : Bool) (x : X) (r : Option X) → r ≡ then_some b x → then_some b (view x) ≡ option_map view r
then-asked view true x r is = ap (option_map view) (sym is)
then-asked view false x r is = ap (option_map view) (sym is)

-- a slice to the end has all that stands behind
pub slice-rest : (words : List (List ℕ)) (n : ℕ) → take (length words - n) (drop n words) ≡ drop n words
slice-rest words n = take_all (length words - n) (drop n words) (omega (arith, length-drop n words))
