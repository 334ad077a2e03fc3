-- The steps of the walk as controllers read that concern other headers.
use Rattle.std.specs.Prelude.{◌≡◌, ◌≤◌, ◌<◌, ℕ, ◌+◌, Bool, true, false, Contains, List, [], ◌∷◌, ◌++◌, drop, length, map, take, Some, None, refl}
use Rattle.std.specs.List.Sorted.{IsStrictlyIncreasing}
use Rattle.std.proofs.Common.{ap, sym, subst, arith, append-nil, inl, inr}
use Rattle.std.proofs.lemmas.Bool.{cases_lt}
use Rattle.std.proofs.lemmas.List.{map-append}
use Rattle.std.proofs.lemmas.List.Elements.{Contains-append_cases, Contains-append_left, Contains-append_right}
use Rattle.cell_bits.specs.Ones.{ones}
use Rattle.flux_base.specs.declared.header_name.HeaderName.{HeaderName}
use Rattle.frame_law.specs.Controller.{AreFound, FirstAt, HasHeaderData, HeaderData, SearchesFindAll}
use Rattle.frame_law.specs.Others.{IsFoundHeader, IsOther}
use Rattle.frame_law.specs.declared.reading.FoundHeader.{FoundHeader}
use Rattle.frame_law.specs.declared.reading.FoundHeader.TheVariants.{Other, Sector}
use Rattle.turn_merge.specs.Book.{Knowledge, SameShape, StandsFor}
use Rattle.turn_merge.specs.Others.{NotedOther, OthersKnown, OthersStandFor}
use Rattle.turn_merge.specs.declared.clock.Clock.{Clock}
use Rattle.turn_merge.specs.declared.verdict.Place.{Place}
use Rattle.flux_engine.specs.Captured.{AppendsOthers, noted_other}
use Rattle.flux_engine.specs.Gathering.{Gathers, GathersOthers, HeadersBefore, IsControllerWalk, NotesFound, OthersBefore}
use Rattle.flux_engine.specs.Room.{MOST_CELLS}
use Rattle.flux_engine.specs.Rules.{AreReadByControllers, IsOtherAt, OtherFound}
use Rattle.flux_engine.specs.Tracks.{Found, place_in}
use Rattle.flux_engine.proofs.HeaderWalks.{header_step, headers_end, headers_start}
use Rattle.frame_law.specs.lemmas.Members.{contains_cases}
use Rattle.flux_engine.proofs.Rising.{Places, place_has, rise_push}
use Rattle.flux_engine.proofs.Walks.{append_others, is_met, met_at, same_shape, walk_step}

same_true : (a b : Bool) → (a ≡ true → b ≡ true) → (b ≡ true → a ≡ true) → a ≡ b
same_true true true f g = refl
same_true true false f g = sym (f refl)
same_true false true f g = g refl
same_true false false f g = refl

pub appends_no_others : (known : OthersKnown) → AppendsOthers known known []
appends_no_others known others stands = subst (OthersStandFor known) (sym (append-nil others)) stands

module _ (named : List Bool → HeaderName → Type 0) (header : List Bool → ℕ → Type 0) (data_stand : List Bool → ℕ → List ℕ → Type 0) (whole_data : List Bool → HeaderName → Type 0)
    (times indexes : List ℕ) (cells : List Bool) (capture : ℕ) (clock : Clock)
    (of_header : (here : List Bool) → SearchesFindAll (data_stand here)) (of_track : SearchesFindAll (HasHeaderData header data_stand cells))
    (one_header : (here : List Bool) (s t : ℕ) → header here s → header here t → s ≡ t)
    (one_name : (here : List Bool) (n m : HeaderName) → named here n → named here m → n ≡ m) where
  abbrev At : ℕ → OtherFound → Type 0
  At = IsOtherAt named header whole_data cells

  abbrev Stands : ℕ → HeaderName → Type 0
  Stands place name = IsOther named header (drop place cells) name

  abbrev Before : ℕ → List (ℕ × OtherFound) → Type 0
  Before from = OthersBefore named header whole_data cells from

  abbrev FoundAt : ℕ → FoundHeader → Type 0
  FoundAt place found = IsFoundHeader named header (drop place cells) found

  -- no other stands up to the next place
  others_skip : (from next : ℕ) → from ≤ next → ((place : ℕ) (name : HeaderName) → from ≤ place → place < next → ¬ Stands place name) → (others : List (ℕ × OtherFound))
      → Before from others → Before next others
  others_skip from next least none others b = record {
    rise = b.rise;
    each = λ place x. (
      λ has. (let at = (b.each place x).0 has in (omega (arith, at.0, least), at.1)),
      λ here. elim (cases_lt place from) [
        | inl before ↦ (b.each place x).1 (before, here.1)
        | inr above ↦ absurd (none place x.0 above here.0 here.1.0)
      ],
    );
    told = λ place name below here. elim (cases_lt place from) [
      | inl before ↦ b.told place name before here
      | inr above ↦ absurd (none place name above below here)
    ];
  }

  -- what stands at a place is one thing
  one_other : (place : ℕ) (x y : OtherFound) → At place x → At place y → x ≡ y
  one_other place x y first second =
      let name : x.0 ≡ y.0 = one_name (drop place cells) x.0 y.0 first.0.0 second.0.0 in
      let Whole : HeaderName → Type 0 = whole_data (drop place cells) in
      let whole : x.1 ≡ y.1 = same_true x.1 y.1
      (λ is. second.1.1 (subst Whole name (first.1.0 is)))
      (λ is. first.1.1 (subst Whole (sym name) (second.1.0 is))) in
      λ i. (name i, whole i)

  others_push : (from cell : ℕ) (x : OtherFound) → from ≤ cell → ((place : ℕ) (name : HeaderName) → from ≤ place → place < cell → ¬ Stands place name)
      → At cell x → (others : List (ℕ × OtherFound)) → Before from others → Before (cell + 1) (others ++ (cell, x) ∷ [])
  others_push from cell x least none here others b =
      let this : ℕ × OtherFound = (cell, x) in
      let has_this : Contains (others ++ this ∷ []) this = Contains-append_right others (this ∷ []) this (0, omega arith, refl) in
      record {
        rise = subst IsStrictlyIncreasing (sym (map-append (λ (f : ℕ × OtherFound). f.0) others (this ∷ [])))
            (rise_push (Places others) cell b.rise
            (λ place has. let one = place_has place others has in let at = (b.each place one.0).0 one.1 in omega (arith, at.0, least)));
        each = λ place y. (
          λ has. elim (Contains-append_cases others (this ∷ []) (let f : ℕ × OtherFound = (place, y) in f) has) [
            | inl left ↦ (let at = (b.each place y).0 left in (omega (arith, at.0, least), at.1))
            | inr right ↦ elim (contains_cases this (let f : ℕ × OtherFound = (place, y) in f) [] right) [
              | inl same ↦ subst (λ (f : ℕ × OtherFound). (f.0 < cell + 1) × At f.0 f.1) same (omega arith, here)
              | inr later ↦ absurd (omega (arith, later.1))
            ]
          ],
          λ there. elim (cases_lt place from) [
            | inl before ↦ Contains-append_left others (this ∷ []) (let f : ℕ × OtherFound = (place, y) in f) ((b.each place y).1 (before, there.1))
            | inr above ↦ elim (cases_lt place cell) [
              | inl between ↦ absurd (none place y.0 above between there.1.0)
              | inr at_least ↦
                  let at : cell ≡ place = omega (arith, at_least, there.0) in
                  let same : x ≡ y = one_other cell x y here (subst (λ (p : ℕ). At p y) (sym at) there.1) in
                  subst (λ (f : ℕ × OtherFound). Contains (others ++ this ∷ []) f) (λ i. (at i, same i)) has_this
            ]
          ],
        );
        told = λ place name below there. elim (cases_lt place from) [
          | inl before ↦
              let one = b.told place name before there in
              (one.0, Contains-append_left others (this ∷ []) (let f : ℕ × OtherFound = (place, (name, one.0)) in f) one.1)
          | inr above ↦ elim (cases_lt place cell) [
            | inl between ↦ absurd (none place name above between there)
            | inr at_least ↦
                let at : cell ≡ place = omega (arith, at_least, below) in
                let same : x.0 ≡ name = one_name (drop place cells) x.0 name (subst (λ (p : ℕ). named (drop p cells) x.0) at here.0.0) there.0 in (
                  x.1,
                  subst (λ (f : ℕ × OtherFound). Contains (others ++ this ∷ []) f) (λ i. (at i, (same i, x.1))) has_this,
                )
          ]
        ];
      }

  -- no header of the track's sectors stands up to the next place
  headers_skip : (from next : ℕ) → from ≤ next → ((place sector : ℕ) → from ≤ place → place < next → ¬ header (drop place cells) sector) → (found : List Found)
      → HeadersBefore header data_stand cells from found → HeadersBefore header data_stand cells next found
  headers_skip from next least none found b = record {
    headers = b.headers;
    before = λ rest all. b.before rest (skip rest all);
    each = λ place sector below here. elim (cases_lt place from) [
      | inl before ↦ b.each place sector before here
      | inr above ↦ absurd (none place sector above below here)
    ];
    are = b.are;
  }
    where
      skip : (rest : List (ℕ × HeaderData)) → AreFound (HasHeaderData header data_stand cells) next rest → AreFound (HasHeaderData header data_stand cells) from rest
      skip [] all = λ place x above here. elim (cases_lt place next) [
        | inl before ↦ none place x.0 above before here.stands
        | inr behind ↦ all place x behind here
      ]
      skip (f ∷ fs) all = (
        (
          omega (arith, all.0.0, least),
          all.0.1,
          λ place x above below here. elim (cases_lt place next) [
            | inl before ↦ none place x.0 above before here.stands
            | inr behind ↦ all.0.2 place x behind below here
          ],
        ),
        all.1,
      )

  pub controller_start : (book : Knowledge) (known : OthersKnown)
      → IsControllerWalk named header data_stand whole_data times indexes cells capture clock 0 0 book book known known
  controller_start book known = record {
    walk = headers_start header data_stand times indexes cells capture clock of_header of_track one_header book;
    found = [];
    before = record {
      rise = λ k within. absurd (omega (arith, within));
      each = λ place x. (λ has. absurd (omega (arith, has.1)), λ here. absurd (omega (arith, here.0)));
      told = λ place name below here. absurd (omega (arith, below));
    };
    noted = appends_no_others known;
    few = omega arith;
  }

  pub controller_step : (from passed cell met : ℕ) (found : FoundHeader) (place : Place) (old mid new : Knowledge) (first second third : OthersKnown)
      → IsControllerWalk named header data_stand whole_data times indexes cells capture clock from passed old mid first second
      → FirstAt FoundAt from (Some (cell, found)) → cell < length cells
      → ones (take from cells) + met ≡ ones (take (cell + 1) cells) → place ≡ met_at times indexes cells capture clock (passed + met) cell
      → NotesFound (data_stand (drop cell cells)) (whole_data (drop cell cells)) found place (length cells) mid new second third → length cells ≤ MOST_CELLS
      → IsControllerWalk named header data_stand whole_data times indexes cells capture clock (cell + 1) (passed + met) old new first third
  controller_step from passed cell met (Sector sector) place old mid new first second third w is within counted at n few =
      let none : (p : ℕ) (name : HeaderName) → from ≤ p → p < cell + 1 → ¬ Stands p name =
      λ p name above below there. elim (cases_lt p cell) [
        | inl before ↦ is.2 p (Other name) above before there
        | inr behind ↦
            let same : cell ≡ p = omega (arith, behind, below) in
            there.1 sector (subst (λ (k : ℕ). header (drop k cells) sector) same is.1)
      ] in
      record {
        walk = header_step header data_stand times indexes cells capture clock of_header of_track one_header from passed cell met sector place old mid new w.walk
            (is.0, is.1, λ p s above below there. is.2 p (Sector s) above below there) within counted at n.0 few;
        found = w.found;
        before = others_skip from (cell + 1) (omega (arith, is.0)) none w.found w.before;
        noted = subst (λ (k : OthersKnown). AppendsOthers first k (map (noted_other capture clock times indexes cells) w.found)) (sym n.1) w.noted;
        few = (let same = ap (λ (k : OthersKnown). k.notes) n.1 in omega (arith, same, w.few, is.0));
      }
  controller_step from passed cell met (Other name) place old mid new first second third w is within counted at n few =
      let whole : Bool = n.1.0 in
      let this : ℕ × OtherFound = (cell, (name, whole)) in
      let place_is : place ≡ place_in capture clock times indexes cells cell =
      is_met times indexes cells capture clock (HeadersBefore header data_stand cells from) from passed cell met old mid place w.walk counted at in
      let one : NotedOther = record { name = name; whole = whole; place = place_in capture clock times indexes cells cell } in
      let more = subst (λ (p : Place). AppendsOthers second third (record { name = name; whole = whole; place = p } ∷ [])) place_is n.1.2 in
      let none : (p sector : ℕ) → from ≤ p → p < cell + 1 → ¬ header (drop p cells) sector =
      λ p sector above below there. elim (cases_lt p cell) [
        | inl before ↦ is.2 p (Sector sector) above before there
        | inr behind ↦
            let same : cell ≡ p = omega (arith, behind, below) in
            is.1.1 sector (subst (λ (k : ℕ). header (drop k cells) sector) (sym same) there)
      ] in
      record {
        walk = walk_step times indexes cells capture clock (HeadersBefore header data_stand cells from) (HeadersBefore header data_stand cells (cell + 1)) from passed cell met [] old mid new w.walk
            (λ found b. subst (HeadersBefore header data_stand cells (cell + 1)) (sym (append-nil found)) (headers_skip from (cell + 1) (omega (arith, is.0)) none found b))
            is.0 within counted
            (λ readings stands. subst (λ (k : Knowledge). StandsFor k (readings ++ [])) (sym n.0) (subst (StandsFor mid) (sym (append-nil readings)) stands))
            (let same = ap (λ (k : Knowledge). k.notes) n.0 in omega (arith, same))
            (subst (SameShape mid) (sym n.0) (same_shape mid));
        found = w.found ++ this ∷ [];
        before = others_push from cell (name, whole) is.0 (λ p other above below there. is.2 p (Other other) above below there) (is.1, n.1.1) w.found w.before;
        noted = subst (AppendsOthers first third) (sym (map-append (noted_other capture clock times indexes cells) w.found (this ∷ [])))
            (append_others first second third (map (noted_other capture clock times indexes cells) w.found) (one ∷ []) w.noted more);
        few = omega (arith, n.2, w.few, is.0);
      }

  pub controller_readings : (from passed : ℕ) (old new : Knowledge) (first second : OthersKnown)
      → IsControllerWalk named header data_stand whole_data times indexes cells capture clock from passed old new first second
      → FirstAt FoundAt from None → length cells ≤ MOST_CELLS → Gathers (AreReadByControllers header data_stand cells) times indexes cells capture clock old new
  controller_readings from passed old new first second w none few =
      headers_end header data_stand times indexes cells capture clock of_header of_track one_header from passed old new w.walk (λ p s above there. none p (Sector s) above there) few

  pub controller_others : (from passed : ℕ) (old new : Knowledge) (first second : OthersKnown)
      → IsControllerWalk named header data_stand whole_data times indexes cells capture clock from passed old new first second
      → FirstAt FoundAt from None → length cells ≤ MOST_CELLS → GathersOthers named header whole_data times indexes cells capture clock first second
  controller_others from passed old new first second w none few = record {
    found = w.found;
    all = record {
      all = record {
        rise = w.before.rise;
        each = λ place x. (
          λ has. (omega arith, ((w.before.each place x).0 has).1),
          λ here. elim (cases_lt place from) [
            | inl before ↦ (w.before.each place x).1 (before, here.1)
            | inr above ↦ absurd (none place (Other x.0) above here.1.0)
          ],
        );
      };
      each = λ place name here. elim (cases_lt place from) [
        | inl before ↦ w.before.told place name before here
        | inr above ↦ absurd (none place (Other name) above here)
      ];
    };
    noted = w.noted;
    few = (let within = w.walk.within in omega (arith, w.few, within, few));
  }
