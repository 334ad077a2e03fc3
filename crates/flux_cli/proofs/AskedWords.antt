-- What words ask for: one thing at most, what that keeps to, whether it is read of dumps, and whether files are made.
use Rattle.std.proofs.Common.{◌≡◌, ℕ, false, List, [], ◌∷◌, Option, Some, None, inl, inr, sym, ap, ◌∙◌, subst, arith}
use Rattle.flux_base.specs.declared.status.Status.{Status}
use Rattle.flux_help.specs.Verbs.{verb_of}
use Rattle.flux_help.specs.declared.verb.Verb.{Verb}
use Rattle.flux_help.specs.declared.verb.Verb.TheVariants.{Archive, Identify, Imd, Info, Read, Show, DecodeFolder, DecodeSet, Rescue, Decode, Report, Map, Write, Split, Unpack, Turns, ToG64, FromG64, Trial, Help}
use Rattle.flux_words.specs.Asked.{Asked}
use Rattle.flux_words.specs.CommandWords.{AreBehind, AreByVerb, AreWordsOf, AskFor, AskOnce}
use Rattle.flux_words.specs.SectorWords.{ArePlaceWords, AskedSector}
use Rattle.flux_cli.specs.AskedDisks.{IsPlaced, Keeps}
use Rattle.flux_cli.specs.Blamed.{AllCounts, CountsOfRun, asks_files, makes_files, over_dumps, reads_dumps, verb_asks_files, verb_over_dumps}

-- words ask for one thing
pub asked_is : AskOnce → (words : List (List ℕ)) (a : Asked) (asked : Option Asked) → AreWordsOf a words → AskFor words asked → asked ≡ Some a
asked_is once words a None are asks = absurd (asks a are)
asked_is once words a (Some b) are asks = ap Some (sym (once words a b are asks))

-- what is asked keeps to its bounds
placed : (asked : AskedSector) (words : List (List ℕ)) → ArePlaceWords asked words → IsPlaced asked
placed asked words place = record {
  shown = place.can;
  low = place.track_is.0;
  is = (let at = place.at in let index = place.sector_is.0 in (omega (arith, at), omega (arith, at, index)));
}

module _ (others : List (List ℕ)) (asked : Asked) where
  keeps_behind : (verb : Verb) → AreBehind verb others asked → Keeps asked
  keeps_behind Turns p = subst Keeps (sym p.1) tt
  keeps_behind Decode p = subst Keeps (sym p.2) tt
  keeps_behind Report p = subst Keeps (sym p.2) tt
  keeps_behind Rescue p = subst Keeps (sym p.2) tt
  keeps_behind Map p = subst Keeps (sym p.2) tt
  keeps_behind DecodeSet p = subst Keeps (sym p.5) p.4.many
  keeps_behind DecodeFolder p = subst Keeps (sym p.4) tt
  keeps_behind Read p = subst Keeps (sym p.2) p.1.are.can
  keeps_behind Show p = subst Keeps (sym p.2) (placed p.0 p.1.rest p.1.are)
  keeps_behind Identify p = subst Keeps (sym p.2) tt
  keeps_behind Info p = subst Keeps (sym p.2) tt
  keeps_behind Imd p = subst Keeps (sym p.2) p.1.named
  keeps_behind Archive p = subst Keeps (sym p.3) p.1.named
  keeps_behind Write (inl p) = subst Keeps (sym p.2) tt
  keeps_behind Write (inr p) = subst Keeps (sym p.4) p.3.a_folder
  keeps_behind Split p = subst Keeps (sym p.6) tt
  keeps_behind Unpack p = subst Keeps (sym p.5) tt
  keeps_behind Trial p = subst Keeps (sym p.5) tt
  keeps_behind ToG64 p = subst Keeps (sym p.2) tt
  keeps_behind FromG64 p = subst Keeps (sym p.2) tt
  keeps_behind Help (inl p) = subst Keeps (sym p.1) tt
  keeps_behind Help (inr p) = subst Keeps (sym p.4) tt

  -- whether dumps are read is told by the verb
  over_behind : (verb : Verb) → AreBehind verb others asked → verb_over_dumps (Some verb) ≡ over_dumps asked
  over_behind Turns p = ap over_dumps (sym p.1)
  over_behind Decode p = ap over_dumps (sym p.2)
  over_behind Report p = ap over_dumps (sym p.2)
  over_behind Rescue p = ap over_dumps (sym p.2)
  over_behind Map p = ap over_dumps (sym p.2)
  over_behind DecodeSet p = ap over_dumps (sym p.5)
  over_behind DecodeFolder p = ap over_dumps (sym p.4)
  over_behind Read p = ap over_dumps (sym p.2)
  over_behind Show p = ap over_dumps (sym p.2)
  over_behind Identify p = ap over_dumps (sym p.2)
  over_behind Info p = ap over_dumps (sym p.2)
  over_behind Imd p = ap over_dumps (sym p.2)
  over_behind Archive p = ap over_dumps (sym p.3)
  over_behind Write (inl p) = ap over_dumps (sym p.2)
  over_behind Write (inr p) = ap over_dumps (sym p.4)
  over_behind Split p = ap over_dumps (sym p.6)
  over_behind Unpack p = ap over_dumps (sym p.5)
  over_behind Trial p = ap over_dumps (sym p.5)
  over_behind ToG64 p = ap over_dumps (sym p.2)
  over_behind FromG64 p = ap over_dumps (sym p.2)
  over_behind Help (inl p) = ap over_dumps (sym p.1)
  over_behind Help (inr p) = ap over_dumps (sym p.4)

  -- whether files are made is told by it and by what stands behind it
  files_behind : (verb : Verb) → AreBehind verb others asked → verb_asks_files (Some verb) others ≡ asks_files asked
  files_behind Turns p = ap asks_files (sym p.1)
  files_behind Decode p = ap asks_files (sym p.2)
  files_behind Report p = ap asks_files (sym p.2)
  files_behind Rescue p = ap asks_files (sym p.2)
  files_behind Map p = ap asks_files (sym p.2)
  files_behind DecodeSet p = ap asks_files (sym p.5)
  files_behind DecodeFolder p = ap asks_files (sym p.4)
  files_behind Read p = ap asks_files (sym p.2)
  files_behind Show p = ap asks_files (sym p.2)
  files_behind Identify p = ap asks_files (sym p.2)
  files_behind Info p = ap asks_files (sym p.2)
  files_behind Imd p = ap asks_files (sym p.2)
  files_behind Archive p = ap asks_files (sym p.3)
  files_behind Write (inl p) = ap (verb_asks_files (Some Write)) p.1.1 ∙ ap asks_files (sym p.2)
  files_behind Write (inr p) = ap (verb_asks_files (Some Write)) p.2.1 ∙ ap asks_files (sym p.4)
  files_behind Split p = ap asks_files (sym p.6)
  files_behind Unpack p = ap asks_files (sym p.5)
  files_behind Trial p = ap asks_files (sym p.5)
  files_behind ToG64 p = ap asks_files (sym p.2)
  files_behind FromG64 p = ap asks_files (sym p.2)
  files_behind Help (inl p) = ap asks_files (sym p.1)
  files_behind Help (inr p) = ap asks_files (sym p.4)

pub asked_keeps : (words : List (List ℕ)) (asked : Asked) → AreWordsOf asked words → Keeps asked
asked_keeps [] asked p = absurd p
asked_keeps (first ∷ others) asked p = by (verb_of first) p
  where
    by : (verb : Option Verb) → AreByVerb verb first others asked → Keeps asked
    by (Some verb) p = keeps_behind others asked verb p
    by None p = subst Keeps (sym p.1.2) tt

asked_over : (words : List (List ℕ)) (asked : Asked) → AreWordsOf asked words → reads_dumps words ≡ over_dumps asked
asked_over [] asked p = absurd p
asked_over (first ∷ others) asked p = by (verb_of first) p
  where
    by : (verb : Option Verb) → AreByVerb verb first others asked → verb_over_dumps verb ≡ over_dumps asked
    by (Some verb) p = over_behind others asked verb p
    by None p = ap over_dumps (sym p.1.2)

asked_files : (words : List (List ℕ)) (asked : Asked) → AreWordsOf asked words → makes_files words ≡ asks_files asked
asked_files [] asked p = absurd p
asked_files (first ∷ others) asked p = by (verb_of first) p
  where
    by : (verb : Option Verb) → AreByVerb verb first others asked → verb_asks_files verb others ≡ asks_files asked
    by (Some verb) p = files_behind others asked verb p
    by None p = ap asks_files (sym p.1.2)

-- the counts of a run by what is asked are those by its words
pub counts-asked : {status : Status} {before after : AllCounts} (words : List (List ℕ)) (asked : Asked) → AreWordsOf asked words
    → CountsOfRun (over_dumps asked) (asks_files asked) false status before after → CountsOfRun (reads_dumps words) (makes_files words) false status before after
counts-asked words asked are counts = rw (asked_over words asked are, asked_files words asked are) counts
