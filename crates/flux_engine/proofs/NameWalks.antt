-- The walk over all headers of a track that is none of the format's: that of controllers, where no header is one of a sector.
use Rattle.std.specs.Prelude.{◌≡◌, ◌≤◌, ◌<◌, ◌↔◌, ℕ, ◌+◌, Bool, IsTrue, List, [], ◌∷◌, drop, length, take, Some, None, refl}
use Rattle.std.proofs.Common.{ap, subst, sym, ◌∙◌, arith, inl, inr, length-drop}
use Rattle.std.proofs.lemmas.Bool.{cases_lt}
use Rattle.std.proofs.lemmas.List.{length-take}
use Rattle.cell_bits.specs.Ones.{ones}
use Rattle.cell_bits.specs.Search.{StandsNowhere}
use Rattle.cell_bits.specs.Word.{Stands}
use Rattle.cell_bits.specs.lemmas.WordLaws.{length-word_cells}
use Rattle.disk_recordings.specs.Members.{as_controllers_read, named_at, whole_data_of}
use Rattle.flux_base.specs.declared.header_name.HeaderName.{HeaderName}
use Rattle.flux_base.specs.declared.track.TrackId.{TrackId}
use Rattle.frame_law.specs.Controller.{AreAllAt, AreFound, FirstAt, HasHeaderData, SearchesFindAll}
use Rattle.frame_law.specs.Others.{IsFoundHeader}
use Rattle.frame_law.specs.declared.reading.FoundHeader.{FoundHeader}
use Rattle.frame_law.specs.declared.reading.FoundHeader.TheVariants.{Other, Sector}
use Rattle.sector_images.specs.declared.format.Format.{Format}
use Rattle.turn_merge.specs.Book.{Knowledge}
use Rattle.turn_merge.specs.Others.{AppendsOther, OthersKnown}
use Rattle.turn_merge.specs.declared.clock.Clock.{Clock}
use Rattle.turn_merge.specs.declared.verdict.Place.{Place}
use Rattle.flux_engine.specs.Gathering.{GathersOthers, IsControllerWalk}
use Rattle.flux_engine.specs.Names.{HasNamesBy}
use Rattle.flux_engine.specs.Recordings.{cells_by}
use Rattle.flux_engine.specs.Room.{MOST_CELLS}
use Rattle.flux_engine.specs.Rules.{no_header}
use Rattle.flux_engine.proofs.OtherWalks.{controller_others, controller_start, controller_step}
use Rattle.flux_engine.proofs.Walks.{met_at}

-- no header of any name stands at a place from `from` to below `to`
abbrev pub NoNames : (List Bool → HeaderName → Type 0) → List Bool → ℕ → ℕ → Type 0
NoNames named cells from to = (place : ℕ) (name : HeaderName) → from ≤ place → place < to → ¬ named (drop place cells) name

stands_within : (cells : List Bool) (value count place : ℕ) → Stands cells value count place → 1 ≤ count → place < length cells
stands_within cells value count place stands some =
    let e = ap length stands ∙ length-word_cells count value in
    let t = length-take count (drop place cells) in
    omega (arith, e, t, length-drop place cells)

module _ (named : List Bool → HeaderName → Type 0) (cells : List Bool) (value count from behind : ℕ)
    (leads : (rest : List Bool) (name : HeaderName) → named rest name → Stands rest value count 0) (before : NoNames named cells from behind) where
  -- none stands up to the next sync
  pub names_skip : (place : ℕ) → StandsNowhere cells value count behind place → NoNames named cells from place
  names_skip place nowhere p name above below here =
      elim (cases_lt p behind) [
        | inl early ↦ before p name above early here
        | inr late ↦ nowhere p late below (leads (drop p cells) name here)
      ]

  -- nor at the sync, where no header does
  pub names_next : (place : ℕ) → StandsNowhere cells value count behind place → ((name : HeaderName) → ¬ named (drop place cells) name) → NoNames named cells from (place + 1)
  names_next place nowhere none p name above below here =
      elim (cases_lt p place) [
        | inl early ↦ names_skip place nowhere p name above early here
        | inr late ↦
            let same : p ≡ place = omega (arith, late, below) in
            none name (subst (λ (k : ℕ). named (drop k cells) name) same here)
      ]

  -- nor anywhere, where the sync does not stand any more
  pub names_end : 1 ≤ count → StandsNowhere cells value count behind (length cells) → FirstAt (λ place name. named (drop place cells) name) from None
  names_end some nowhere place name above here =
      names_skip (length cells) nowhere place name above (stands_within cells value count place (leads (drop place cells) name here) some) here

-- searches for what stands nowhere find all of it
none_found : {X : Type 0} (At : ℕ → X → Type 0) → ((place : ℕ) (x : X) → ¬ At place x) → SearchesFindAll At
none_found At none = record {
  all = λ from found. all from found;
  one = λ from found others is are. first from found is ∙ sym (first from others are);
}
  where
    all : (from : ℕ) (found : List (ℕ × _)) → AreFound At from found ↔ AreAllAt At from found
    all from [] = (
      λ no. record { rise = λ k within. absurd (omega (arith, within)); each = λ place x. (λ has. absurd (omega (arith, has.1)), λ here. absurd (none place x here.1)) },
      λ is. λ place x above here. none place x here,
    )
    all from (f ∷ fs) = (
      λ is. absurd (none f.0 f.1 is.0.1),
      λ is. absurd (none f.0 f.1 ((is.each f.0 f.1).0 (0, omega arith, refl)).1),
    )

    first : (from : ℕ) (found : List (ℕ × _)) → AreFound At from found → found ≡ []
    first from [] is = refl
    first from (f ∷ fs) is = absurd (none f.0 f.1 is.0.1)

-- no data belong to them
abbrev pub no_data : List Bool → ℕ → List ℕ → Type 0
no_data cells place bytes = ⊥

-- a book of no sectors, in which nothing is noted
abbrev pub no_book : Knowledge
no_book = record { first_sector = 0; most = 0; size = 0; notes = 0; found = [] }

module _ (named : List Bool → HeaderName → Type 0) (whole_data : List Bool → HeaderName → Type 0) (times indexes : List ℕ) (cells : List Bool) (capture : ℕ) (clock : Clock)
    (one_name : (here : List Bool) (n m : HeaderName) → named here n → named here m → n ≡ m) where
  -- the walk has come to a place
  abbrev pub NameWalk : (from passed : ℕ) → (others others' : OthersKnown) → Type 0
  NameWalk from passed others others' = IsControllerWalk named no_header no_data whole_data times indexes cells capture clock from passed no_book no_book others others'

  of_header : (here : List Bool) → SearchesFindAll (no_data here)
  of_header here = none_found (no_data here) (λ place bytes no. no)

  of_track : SearchesFindAll (HasHeaderData no_header no_data cells)
  of_track = none_found (HasHeaderData no_header no_data cells) (λ place found has. has.stands)

  one_header : (here : List Bool) (s t : ℕ) → no_header here s → no_header here t → s ≡ t
  one_header here s t first second = absurd first

  pub names_start : (known : OthersKnown) → NameWalk 0 0 known known
  names_start known = controller_start named no_header no_data whole_data times indexes cells capture clock of_header of_track one_header one_name no_book known

  -- no header is found where none of any name stands
  no_found : (place : ℕ) → ((name : HeaderName) → ¬ named (drop place cells) name) → (found : FoundHeader) → ¬ IsFoundHeader named no_header (drop place cells) found
  no_found place none (Sector s) here = here
  no_found place none (Other name) here = none name here.0

  pub names_step : (from passed cell met : ℕ) (name : HeaderName) (whole : Bool) (place : Place) (first second third : OthersKnown) → NameWalk from passed first second
      → FirstAt (λ p n. named (drop p cells) n) from (Some (cell, name)) → cell < length cells
      → ones (take from cells) + met ≡ ones (take (cell + 1) cells) → place ≡ met_at times indexes cells capture clock (passed + met) cell
      → (IsTrue whole ↔ whole_data (drop cell cells) name) → AppendsOther second third (record { name = name; whole = whole; place = place }) → third.notes ≡ second.notes + 1
      → length cells ≤ MOST_CELLS → NameWalk (cell + 1) (passed + met) first third
  names_step from passed cell met name whole place first second third w is within counted at has appends count few =
      controller_step named no_header no_data whole_data times indexes cells capture clock of_header of_track one_header one_name
      from passed cell met (Other name) place no_book no_book no_book first second third w
      (is.0, (is.1, λ s no. no), λ p found above below here. no_found p (λ n there. is.2 p n above below there) found here)
      within counted at (refl, (whole, has, appends), count) few

  pub names_all : (from passed : ℕ) (first second : OthersKnown) → NameWalk from passed first second → FirstAt (λ p n. named (drop p cells) n) from None → length cells ≤ MOST_CELLS
      → GathersOthers named no_header whole_data times indexes cells capture clock first second
  names_all from passed first second w none few =
      controller_others named no_header no_data whole_data times indexes cells capture clock of_header of_track one_header one_name from passed no_book no_book first second w
      (λ p found above here. no_found p (λ n there. none p n above there) found here) few

-- the same in the cells of a track, by the recording of controllers
pub has_names : (clock : Clock) (format other : Format) (near : TrackId) (times indexes : List ℕ) (cells : List Bool) (capture : ℕ) (before after : OthersKnown)
    → cells ≡ cells_by clock format near times indexes → other ≡ as_controllers_read format
    → GathersOthers (named_at other) no_header (whole_data_of other) times indexes cells capture clock before after
    → HasNamesBy clock format near times indexes capture before after
has_names clock format other near times indexes cells capture before after is by o =
    let there = subst (λ (f : Format). GathersOthers (named_at f) no_header (whole_data_of f) times indexes cells capture clock before after) by o in
    let k = subst (λ (cs : List Bool). GathersOthers (named_at (as_controllers_read format)) no_header (whole_data_of (as_controllers_read format)) times indexes cs capture clock before after) is there in
    record {
      others = _;
      others_are = record { found = k.found; all = k.all; are = refl };
      others_noted = k.noted;
      few_others = k.few;
    }
