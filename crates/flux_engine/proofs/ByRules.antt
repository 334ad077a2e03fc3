-- By either rule the cells of a track tell all that can be read in them.
use Rattle.std.specs.Prelude.{◌≡◌, ◌↔◌, ℕ, Bool, Contains, List, [], ◌∷◌, drop, flat_map, length, map}
use Rattle.std.proofs.Common.{ap, sym, subst, ◌∙◌, arith, inl, inr}
use Rattle.std.proofs.lemmas.List.Elements.{Contains-append_cases, Contains-append_left, Contains-append_right}
use Rattle.disk_recordings.specs.Laws.{DataAreRead, TracksAreRead}
use Rattle.disk_recordings.specs.Members.{as_controllers_read, data_at, header_at, named_at, sector_at, whole_data_of}
use Rattle.flux_base.specs.declared.header_name.HeaderName.{HeaderName}
use Rattle.flux_base.specs.declared.track.TrackId.{TrackId}
use Rattle.frame_law.specs.Controller.{HasHeaderData, HeaderData, SectorStandsBy, readings_of}
use Rattle.frame_law.specs.declared.reading.Reading.TheVariants.{Bad as BadFrame, Good as GoodFrame}
use Rattle.sector_images.specs.Formats.{row}
use Rattle.sector_images.specs.declared.format.Format.{Format}
use Rattle.flux_engine.specs.Rules.{AreAllBy, AreNamesIn, AreOthersBy, AreOthersIn, AreReadByControllers, OtherFound, RulesAreRead, StandsBy, no_header}
use Rattle.flux_engine.specs.Tracks.{Found}
use Rattle.flux_engine.specs.declared.plan.Rule.{Rule}
use Rattle.flux_engine.specs.declared.plan.Rule.TheVariants.{Strict, Controller}
use Rattle.flux_engine.proofs.AsControllers.{same_size}
use Rattle.frame_law.specs.lemmas.Members.{contains_cases, contains_first, contains_later}
use Rattle.flux_engine.proofs.Rising.{same_members}

module _ {X Y : Type 0} (g : X → List Y) where
  joined_has : (x : X) (y : Y) (xs : List X) → Contains xs x → Contains (g x) y → Contains (flat_map g xs) y
  joined_has x y [] has one = absurd (omega (arith, has.1))
  joined_has x y (z ∷ xs) has one =
      elim (contains_cases z x xs has) [
        | inl same ↦ Contains-append_left (g z) (flat_map g xs) y (subst (λ (w : X). Contains (g w) y) (sym same) one)
        | inr later ↦ Contains-append_right (g z) (flat_map g xs) y (joined_has x y xs later one)
      ]

  has_joined : (y : Y) (xs : List X) → Contains (flat_map g xs) y → (x : X) × Contains xs x × Contains (g x) y
  has_joined y [] has = absurd (omega (arith, has.1))
  has_joined y (z ∷ xs) has =
      elim (Contains-append_cases (g z) (flat_map g xs) y has) [
        | inl here ↦ (z, contains_first z xs, here)
        | inr later ↦ (let rest = has_joined y xs later in (rest.0, contains_later z rest.0 xs rest.1, rest.2))
      ]

-- the good readings of a header, and its data
good_has : (place sector : ℕ) (d : ℕ × List ℕ) (ds : List (ℕ × List ℕ)) → Contains ds d → Contains (readings_of (place, (sector, ds))) (place, GoodFrame sector, d.1)
good_has place sector d [] has = absurd (omega (arith, has.1))
good_has place sector d (first ∷ more) has = mapped (first ∷ more) has
  where
    mapped : (ds : List (ℕ × List ℕ)) → Contains ds d → Contains (map (λ (e : ℕ × List ℕ). let f : Found = (place, GoodFrame sector, e.1) in f) ds) (place, GoodFrame sector, d.1)
    mapped [] has = absurd (omega (arith, has.1))
    mapped (e ∷ es) has =
        let of : ℕ × List ℕ → Found = λ (e : ℕ × List ℕ). (place, GoodFrame sector, e.1) in
        elim (contains_cases e d es has) [
          | inl same ↦ subst (Contains (of e ∷ map of es)) (ap of same) (contains_first (of e) (map of es))
          | inr later ↦ contains_later (of e) (of d) (map of es) (mapped es later)
        ]

-- what a good reading of a header comes from
record ComesFrom (place sector : ℕ) (h : ℕ × HeaderData) (bytes : List ℕ) : Type 0 where
  at : h.0 ≡ place
  of : h.1.0 ≡ sector
  begin : ℕ
  has : Contains h.1.1 (begin, bytes)

comes_from : (place sector : ℕ) (bytes : List ℕ) (h : ℕ × HeaderData) → Contains (readings_of h) (place, GoodFrame sector, bytes) → ComesFrom place sector h bytes
comes_from place sector bytes (cell, (s, [])) has =
    elim (contains_cases (let f : Found = (cell, BadFrame s, []) in f) (place, GoodFrame sector, bytes) [] has) [
      | inl same ↦ (let frame : BadFrame s ≡ GoodFrame sector = ap (λ (f : Found). f.1) same in absurd (cc))
      | inr later ↦ absurd (omega (arith, later.1))
    ]
comes_from place sector bytes (cell, (s, first ∷ more)) has = mapped (first ∷ more) has
  where
    mapped : (ds : List (ℕ × List ℕ)) → Contains (map (λ (e : ℕ × List ℕ). let f : Found = (cell, GoodFrame s, e.1) in f) ds) (place, GoodFrame sector, bytes)
        → ComesFrom place sector (cell, (s, ds)) bytes
    mapped [] has = absurd (omega (arith, has.1))
    mapped (e ∷ es) has =
        let of : ℕ × List ℕ → Found = λ (e : ℕ × List ℕ). (cell, GoodFrame s, e.1) in
        elim (contains_cases (of e) (let f : Found = (place, GoodFrame sector, bytes) in f) (map of es) has) [
          | inl same ↦
              let content : e.1 ≡ bytes = ap (λ (f : Found). f.2) same in
              record {
                at = ap (λ (f : Found). f.0) same;
                of = (let frame : GoodFrame s ≡ GoodFrame sector = ap (λ (f : Found). f.1) same in cc);
                begin = e.0;
                has = subst (λ (xs : List ℕ). Contains (e ∷ es) (e.0, xs)) content (contains_first e es);
              }
          | inr later ↦
              let rest = mapped es later in
              record { at = rest.at; of = rest.of; begin = rest.begin; has = contains_later e (rest.begin, bytes) es rest.has }
        ]

module _ (header : List Bool → ℕ → Type 0) (data_stand : List Bool → ℕ → List ℕ → Type 0) (cells : List Bool) (found : List Found) (all : AreReadByControllers header data_stand cells found)
    (place sector : ℕ) (bytes : List ℕ) where
  stands : Contains found (place, GoodFrame sector, bytes) → SectorStandsBy header data_stand (drop place cells) sector bytes
  stands has =
      let one = has_joined readings_of (let f : Found = (place, GoodFrame sector, bytes) in f) all.headers (subst (λ (fs : List Found). Contains fs (place, GoodFrame sector, bytes)) all.are has) in
      let from = comes_from place sector bytes one.0 one.2 in
      let here : HasHeaderData header data_stand cells one.0.0 one.0.1 = ((all.all.each one.0.0 one.0.1).0 one.1).1 in
      let there : data_stand (drop one.0.0 cells) from.begin bytes = ((here.all.each from.begin bytes).0 from.has).1 in
      subst (λ (p : ℕ). SectorStandsBy header data_stand (drop p cells) sector bytes) from.at
      (subst (header (drop one.0.0 cells)) from.of here.stands, (from.begin, there))

  is_found : SectorStandsBy header data_stand (drop place cells) sector bytes → Contains found (place, GoodFrame sector, bytes)
  is_found (here, (begin, there)) =
      let one = all.each place sector here in
      let h : ℕ × HeaderData = (place, (sector, one.0)) in
      let has_data : HasHeaderData header data_stand cells place (sector, one.0) = ((all.all.each place (sector, one.0)).0 one.1).1 in
      let has : Contains one.0 (begin, bytes) = (has_data.all.each begin bytes).1 (omega arith, there) in
      subst (λ (fs : List Found). Contains fs (place, GoodFrame sector, bytes)) (sym all.are)
      (joined_has readings_of h (let f : Found = (place, GoodFrame sector, bytes) in f) all.headers one.1 (good_has place sector (let d : ℕ × List ℕ = (begin, bytes) in d) one.0 has))

-- all others that stand in the cells are one list
alike : (named : List Bool → HeaderName → Type 0) (header : List Bool → ℕ → Type 0) (whole_data : List Bool → HeaderName → Type 0) (cells : List Bool)
    (others more : List (ℕ × OtherFound)) → AreOthersIn named header whole_data cells others → AreOthersIn named header whole_data cells more → others ≡ more
alike named header whole_data cells others more a b =
    same_members others more a.all.rise b.all.rise
    (λ f has. (b.all.each f.0 f.1).1 ((a.all.each f.0 f.1).0 has)) (λ f has. (a.all.each f.0 f.1).1 ((b.all.each f.0 f.1).0 has))

module _ (read : TracksAreRead) (rewritten : DataAreRead) where
  one_list : (rule : Rule) (format : Format) (track : TrackId) (cells : List Bool) (found others : List Found)
      → AreAllBy rule format track cells found → AreAllBy rule format track cells others → found ≡ others
  one_list Strict format track cells found others a b = read.one format track cells 0 found others a b
  one_list Controller format track cells found others a b =
      let finds = rewritten.of_track (as_controllers_read format) track cells in
      a.are ∙ ap (flat_map readings_of) (finds.one 0 a.headers b.headers ((finds.all 0 a.headers).1 a.all) ((finds.all 0 b.headers).1 b.all)) ∙ sym b.are

  good_one : (rule : Rule) (format : Format) (track : TrackId) (cells : List Bool) (found : List Found) → AreAllBy rule format track cells found
      → (place sector : ℕ) (bytes : List ℕ) → Contains found (place, GoodFrame sector, bytes) ↔ StandsBy rule format track (drop place cells) sector bytes
  good_one Strict format track cells found all place sector bytes = ((read.all format track cells 0 found).0 all).good place sector bytes (omega arith)
  good_one Controller format track cells found all place sector bytes =
      let by = as_controllers_read format in (
        stands (header_at by track) (data_at by) cells found all place sector bytes,
        is_found (header_at by track) (data_at by) cells found all place sector bytes,
      )

  size_of : (rule : Rule) (format : Format) (track : TrackId) (cells : List Bool) (sector : ℕ) (bytes : List ℕ)
      → StandsBy rule format track cells sector bytes → length bytes ≡ (row format).sector_size
  size_of Strict format track cells sector bytes here = (read.told format track).content_size cells sector bytes here
  size_of Controller format track cells sector bytes (here, (begin, there)) =
      (rewritten.told (as_controllers_read format)).whole cells begin bytes there ∙ same_size format

  strict_too : (rule : Rule) (format : Format) (track : TrackId) (cells : List Bool) (sector : ℕ) (bytes : List ℕ)
      → sector_at format track cells sector bytes → StandsBy rule format track cells sector bytes
  strict_too Strict format track cells sector bytes here = here
  strict_too Controller format track cells sector bytes here = rewritten.strict format track cells sector bytes here

  others_one : (rule : Rule) (format : Format) (track : TrackId) (cells : List Bool) (others more : List (ℕ × OtherFound))
      → AreOthersBy rule format track cells others → AreOthersBy rule format track cells more → others ≡ more
  others_one Strict format track cells others more a b = a ∙ sym b
  others_one Controller format track cells others more a b =
      let by : Format = as_controllers_read format in
      alike (named_at by) (header_at by track) (whole_data_of by) cells others more a b

  names_one : (format : Format) (cells : List Bool) (names more : List (ℕ × OtherFound)) → AreNamesIn format cells names → AreNamesIn format cells more → names ≡ more
  names_one format cells names more a b =
      let by : Format = as_controllers_read format in
      alike (named_at by) no_header (whole_data_of by) cells names more a b

  pub rules_are_read : RulesAreRead
  rules_are_read = record { one = one_list; good = good_one; size = size_of; strict = strict_too; one_others = others_one; one_names = names_one }
