-- What the words of `show` ask for.
use Rattle.std.specs.Bool.{Decides, then_some}
use Rattle.std.proofs.Common.{true, false, Bool, ◌≡◌, ◌<◌, ◌≤◌, ◌+◌, ◌-◌, ℕ, List, [], ◌∷◌, drop, get_or, length, take, Option, Some, None, arith, inl, inr, refl, sym, ap, ◌∙◌, subst}
use Rattle.std.proofs.lemmas.Bool.{cases_lt}
use Rattle.disk_recordings.specs.TrackSectors.{sectors_of, track_at}
use Rattle.sector_images.specs.Formats.{IsWordOfFormat, WordsBeginWithLetters, WordsNameFormats}
use Rattle.sector_images.specs.declared.format.Format.{Format}
use Rattle.track_shelf.specs.declared.stepping.Stepping.{Stepping}
use Rattle.flux_words.specs.DumpWords.{AreReadable}
use Rattle.flux_words.specs.Names.{Names}
use Rattle.flux_words.specs.inside.OptionWords.{FollowOptions, IsPast}
use Rattle.flux_words.specs.SectorWords.{ArePlaceWords, AskedSector, IsFirst, NamesSector, NamesTrack, sector_options}
use Rattle.flux_words.specs.declared.options.Options.{Options}
use Rattle.flux_words.specs.declared.options.Shown.{Shown}
use Rattle.flux_words.specs.declared.options.Shown.TheVariants.{Image}
use Rattle.flux_words.proofs.DumpWords.{one-format, slice-rest}
use Rattle.flux_words.proofs.OptionWords.{head-same, tail-same, word-past}

-- one number is the first
one_number : (bound : ℕ) (Holds : ℕ → Type 0) (n m : ℕ) → IsFirst bound Holds (Some n) → IsFirst bound Holds (Some m) → n ≡ m
one_number bound Holds n m a b =
    elim (cases_lt n m) [
      | inl less ↦ absurd (b.2 n less a.1)
      | inr least ↦ elim (cases_lt m n) [
        | inl more ↦ absurd (a.2 m more b.1)
        | inr most ↦ (let same : n ≡ m = omega (arith, least, most) in same)
      ]
    ]

-- no option stands before a format
pub place-past : WordsBeginWithLetters → (asked : AskedSector) (words : List (List ℕ)) → ArePlaceWords asked words → IsPast words
place-past letters asked words are = word-past letters asked.format are.word words (are.track ∷ are.sector ∷ asked.dumps) are.named are.are

module _ (one : WordsNameFormats) where
  -- the format, the track and the sector of words that begin with these
  module _ (words : List (List ℕ)) (word track sector : List ℕ) (dumps : List (List ℕ)) (at : words ≡ word ∷ track ∷ sector ∷ dumps) (asked : AskedSector)
      (are : ArePlaceWords asked words) where
    is_word : are.word ≡ word
    is_word = head-same _ _ _ _ (sym are.are ∙ at)

    is_track : are.track ≡ track
    is_track = head-same _ _ _ _ (tail-same _ _ _ _ (sym are.are ∙ at))

    is_sector : are.sector ≡ sector
    is_sector = head-same _ _ _ _ (tail-same _ _ _ _ (tail-same _ _ _ _ (sym are.are ∙ at)))

    are_dumps : asked.dumps ≡ dumps
    are_dumps = tail-same _ _ _ _ (tail-same _ _ _ _ (tail-same _ _ _ _ (sym are.are ∙ at)))

    named_here : IsWordOfFormat word asked.format
    named_here = subst (λ (w : List ℕ). IsWordOfFormat w asked.format) is_word are.named

    module _ (format : Format) (named : IsWordOfFormat word format) where
      is_format : asked.format ≡ format
      is_format = one-format one are.word word asked.format format is_word are.named named

      track_here : NamesTrack format track (Some asked.number)
      track_here =
          subst (λ (f : Format). NamesTrack f track (Some asked.number)) is_format
          (subst (λ (w : List ℕ). NamesTrack asked.format w (Some asked.number)) is_track are.track_is)

      module _ (number : ℕ) (track_is : NamesTrack format track (Some number)) where
        is_number : asked.number ≡ number
        is_number = one_number _ _ asked.number number track_here track_is

        sector_here : NamesSector format number sector (Some are.index)
        sector_here =
            subst (λ (n : ℕ). NamesSector format n sector (Some are.index)) is_number
            (subst (λ (f : Format). NamesSector f asked.number sector (Some are.index)) is_format
            (subst (λ (w : List ℕ). NamesSector asked.format asked.number w (Some are.index)) is_sector are.sector_is))

  -- words ask for one sector
  pub one-place : (a b : AskedSector) (words : List (List ℕ)) → sector_options a ≡ sector_options b → ArePlaceWords a words → ArePlaceWords b words → a ≡ b
  one-place a b words options mine theirs =
      let kind = is_format words theirs.word theirs.track theirs.sector b.dumps theirs.are a mine b.format theirs.named in
      let track = is_number words theirs.word theirs.track theirs.sector b.dumps theirs.are a mine b.format theirs.named b.number theirs.track_is in
      let index = one_number _ _ mine.index theirs.index
      (sector_here words theirs.word theirs.track theirs.sector b.dumps theirs.are a mine b.format theirs.named b.number theirs.track_is) theirs.sector_is in
      let dumps = are_dumps words theirs.word theirs.track theirs.sector b.dumps theirs.are a mine in
      let place : a.sector ≡ b.sector =
      mine.at
      ∙ ap (λ (f : Format). (sectors_of f (track_at f a.number)).first + mine.index) kind
      ∙ ap (λ (n : ℕ). (sectors_of b.format (track_at b.format n)).first + mine.index) track
      ∙ ap (λ (n : ℕ). (sectors_of b.format (track_at b.format b.number)).first + n) index
      ∙ sym theirs.at in
      ap (λ (s : Stepping). record a { stepping = s }) (ap (λ (o : Options). o.stepping) options)
      ∙ ap (λ (d : List (List ℕ)). record a { stepping = b.stepping; dumps = d }) dumps
      ∙ ap (λ (f : Format). record a { stepping = b.stepping; dumps = b.dumps; format = f }) kind
      ∙ ap (λ (n : ℕ). record a { stepping = b.stepping; dumps = b.dumps; format = b.format; number = n }) track
      ∙ ap (λ (s : ℕ). record a { stepping = b.stepping; dumps = b.dumps; format = b.format; number = b.number; sector = s }) place
      ∙ ap (λ (o : Option ℕ). record b { alone = o }) (ap (λ (o : Options). o.alone) options)

  -- what is no sector of the track
  module _ (options : Options) (words : List (List ℕ)) (word track sector : List ℕ) (dumps : List (List ℕ)) (at : words ≡ word ∷ track ∷ sector ∷ dumps)
      (format : Format) (named : IsWordOfFormat word format) (number : ℕ) (track_is : NamesTrack format track (Some number)) where
    pub no-sector : NamesSector format number sector None → Names (FollowOptions sector_options ArePlaceWords options words) None
    no-sector none = λ asked are. (let there = sector_here words word track sector dumps at asked are.are format named number track_is in none are.are.index there.0 there.1)

    -- a sector that the words name
    pub with-place : options.shown ≡ Image → (place : ℕ) → (sectors_of format (track_at format number)).first ≤ place
        → NamesSector format number sector (Some (place - (sectors_of format (track_at format number)).first)) → (b : Bool) → Decides b (AreReadable dumps options.stepping format)
        → Names (FollowOptions sector_options ArePlaceWords options words) (then_some b (record {
          stepping = options.stepping;
          dumps = dumps;
          format = format;
          number = number;
          sector = place;
          alone = options.alone;
        }))
    with-place shown place least sector_is true readable = record {
      options_are = ap (λ (s : Shown). record options { shown = s }) (sym shown);
      are = record {
        word = word;
        named = named;
        track = track;
        track_is = track_is;
        sector = sector;
        index = place - (sectors_of format (track_at format number)).first;
        sector_is = sector_is;
        at = omega (arith, least);
        are = at;
        can = readable.0 refl;
      };
    }
    with-place shown place least sector_is false readable = λ asked are.
        let kind = is_format words word track sector dumps at asked are.are format named in
        let steps : asked.stepping ≡ options.stepping = ap (λ (o : Options). o.stepping) are.options_are in
        let yes = readable.1 (
        subst (λ (f : Format). AreReadable dumps options.stepping f) kind
        (subst (λ (s : Stepping). AreReadable dumps s asked.format) steps
        (subst (λ (d : List (List ℕ)). AreReadable d asked.stepping asked.format) (are_dumps words word track sector dumps at asked are.are) are.are.can))) in
        cc

-- words of which the first three are these
pub three_first : (words : List (List ℕ)) (a b c : List ℕ) → 3 ≤ length words → a ≡ get_or words 0 a → b ≡ get_or words 1 b → c ≡ get_or words 2 c
    → words ≡ a ∷ b ∷ c ∷ take (length words - 3) (drop 3 words)
three_first [] a b c some is_a is_b is_c = absurd (omega (arith, some))
three_first (x ∷ []) a b c some is_a is_b is_c = absurd (omega (arith, some))
three_first (x ∷ (y ∷ [])) a b c some is_a is_b is_c = absurd (omega (arith, some))
three_first (x ∷ (y ∷ (z ∷ rest))) a b c some is_a is_b is_c =
    ap (λ (w : List ℕ). w ∷ y ∷ z ∷ rest) (sym is_a) ∙ ap (λ (w : List ℕ). a ∷ w ∷ z ∷ rest) (sym is_b) ∙ ap (λ (w : List ℕ). a ∷ b ∷ w ∷ rest) (sym is_c)
    ∙ ap (λ (ws : List (List ℕ)). a ∷ b ∷ c ∷ ws) (sym (slice-rest (x ∷ y ∷ z ∷ rest) 3))

-- and that are no more
pub three_words : (words : List (List ℕ)) (a b c : List ℕ) → 3 ≤ length words → length words < 4 → a ≡ get_or words 0 a → b ≡ get_or words 1 b → c ≡ get_or words 2 c
    → words ≡ a ∷ b ∷ c ∷ []
three_words words a b c some few is_a is_b is_c =
    let none : length words - 3 ≡ 0 = omega (arith, some, few) in
    three_first words a b c some is_a is_b is_c ∙ ap (λ (n : ℕ). a ∷ b ∷ c ∷ take n (drop 3 words)) none

-- the first number of which something holds, found by looking at one after another
pub next-number : (Holds : ℕ → Type 0) (n : ℕ) → ((k : ℕ) → k < n → ¬ Holds k) → ¬ Holds n → (k : ℕ) → k < n + 1 → ¬ Holds k
next-number Holds n before other k low = elim (cases_lt k n) [
  | inl less ↦ before k less
  | inr least ↦ λ holds. (let at : k ≡ n = omega (arith, low, least) in other (subst Holds at holds))
]

-- what decides whether something holds
pub holds : (b : Bool) (P : Type 0) → Decides b P → b ≡ true → P
holds b P decides is = decides.0 is

pub fails : (b : Bool) (P : Type 0) → Decides b P → b ≡ false → ¬ P
fails b P decides is_not is = true_false (sym (decides.1 is) ∙ is_not)
  where
    true_false : true ≡ false → ⊥
    true_false wrong = cc
