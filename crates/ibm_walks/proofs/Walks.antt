-- The steps of the walk over all headers.
use Rattle.std.proofs.Common.{◌≡◌, ◌<◌, ◌≤◌, ◌⊎◌, ℕ, ◌+◌, Bool, true, false, ◌&&◌, ◌||◌, List, [], ◌∷◌, ◌++◌, drop, length, map, nat_eq, take, Option, Some, None, inl, inr, refl, sym, subst, ap, ◌∙◌, arith, append-nil, append_assoc}
use Rattle.std.specs.Prelude.{flat_map}
use Rattle.std.proofs.lemmas.Bool.{cases_lt, eq-eqb}
use Rattle.std.proofs.lemmas.List.{map-append}
use Rattle.std.proofs.lemmas.List.Concat.{flat_map-append}
use Rattle.std.proofs.lemmas.List.Folds.{list_any-append}
use Rattle.cell_bits.specs.Ones.{ones}
use Rattle.flux_base.specs.declared.header_name.HeaderName.{HeaderName}
use Rattle.frame_law.specs.Controller.{FirstAt}
use Rattle.disk_recordings.specs.Members.{data_at}
use Rattle.ibm_disks.specs.GapPlans.{density_of}
use Rattle.ibm_disks.specs.declared.rate.Density.{Density}
use Rattle.ibm_disks.specs.declared.rate.Rate.{Rate}
use Rattle.ibm_disks.specs.declared.sector_size.SectorSize.{SectorSize}
use Rattle.name_book.specs.Book.{AppendsData, AppendsHeader, NamesKnown, NamesStandFor}
use Rattle.name_book.specs.Names.{NotedData, has_name, is_met, same_sector}
use Rattle.name_book.specs.declared.name.NamedHeader.{NamedHeader}
use Rattle.name_book.specs.declared.name.SectorName.{SectorName}
use Rattle.ibm_walks.specs.Headers.{FoundName, HoldAt, HoldBy, IsNameAt, IsNamed, address_of, data_of, mark_at, size_of_code}
use Rattle.ibm_walks.specs.Rates.{format_with_one}
use Rattle.ibm_walks.specs.Walks.{AppendsNames, AreNamesIn, HaveNoted}
use Rattle.ibm_walks.specs.inside.Walked.{AppendsHeld, HasNotedOne, HaveNotedHeld}
use Rattle.ibm_walks.proofs.Searches.{HasCome, come_end, come_on, come_past, come_start}

-- The search for a header's data has come to a place: those before it are noted.
module _ (At : ℕ → List ℕ → Type 0) (name : SectorName) where
  pub record IsDataWalk (from : ℕ) (old new : NamesKnown) : Type 0 where
    pub held : List (ℕ × List ℕ)
    pub come : HasCome At held from
    pub noted : AppendsHeld name old new held

  pub data_start : (known : NamesKnown) → IsDataWalk 0 known known
  data_start known = record {
    held = [];
    come = come_start At;
    noted = λ headers «data» stands met. subst (λ (ds : List NotedData). NamesStandFor known headers ds) (sym (append-nil «data»)) stands;
  }

  pub data_step : (from place : ℕ) (held : List ℕ) (old mid new : NamesKnown) → IsDataWalk from old mid → FirstAt At from (Some (place, held))
      → AppendsData mid new (record { name = name; held = held }) → IsDataWalk (place + 1) old new
  data_step from place held old mid new w first more = record {
    held = w.held ++ (place, held) ∷ [];
    come = come_on At w.held from place held w.come first;
    noted = λ headers «data» stands met.
        subst (λ (ds : List NotedData). NamesStandFor new headers ds)
        (append_assoc «data» (data_of name w.held) (record { name = name; held = held } ∷ [])
        ∙ ap (λ (ds : List NotedData). «data» ++ ds) (sym (map-append (λ (h : ℕ × List ℕ). let d : NotedData = record { name = name; held = h.1 } in d) w.held ((place, held) ∷ []))))
        (more headers («data» ++ data_of name w.held) (w.noted headers «data» stands met) met);
  }

  pub data_end : (from : ℕ) (old new : NamesKnown) → IsDataWalk from old new → ((place : ℕ) (held : List ℕ) → from ≤ place → At place held → ⊥) → HaveNotedHeld At name old new
  data_end from old new w none = record { held = w.held; all = come_end At w.held from w.come none; noted = w.noted }

-- data of a recording, with their mark
pub first_marked : (Stand : ℕ → List ℕ → Type 0) (density : Density) (cells frame : List Bool) (from place mark : ℕ) (bytes piece : List ℕ) → frame ≡ cells
    → FirstAt Stand from (Some (place, bytes)) → mark ≡ mark_at density frame place → piece ≡ bytes → FirstAt (HoldAt Stand density cells) from (Some (place, mark ∷ piece))
first_marked Stand density cells frame from place mark bytes piece same first is part = (
  first.0,
  record { bytes = bytes; stand = first.1; are = ap (λ (m : ℕ). m ∷ piece) (is ∙ ap (λ (xs : List Bool). mark_at density xs place) same) ∙ ap (λ (bs : List ℕ). mark_at density cells place ∷ bs) part },
  λ p held above short there. first.2 p there.bytes above short there.stand,
)

-- those of the header's size
pub of_size : (rate : Rate) (size : SectorSize) (o : Option SectorSize) (density : Density) (cells : List Bool) (name : SectorName) (old new : NamesKnown)
    → o ≡ Some size → density ≡ density_of rate → HaveNotedHeld (HoldAt (data_at (format_with_one rate size) cells) density cells) name old new
    → HaveNotedHeld (HoldBy rate o cells) name old new
of_size rate size o density cells name old new is same noted =
    subst (λ (s : Option SectorSize). HaveNotedHeld (HoldBy rate s cells) name old new) (sym is)
    (subst (λ (d : Density). HaveNotedHeld (HoldAt (data_at (format_with_one rate size) cells) d cells) name old new) same noted)

-- of a code whose sectors are too large no data are noted
pub none_held : (rate : Rate) (cells : List Bool) (name : SectorName) (known : NamesKnown) → size_of_code name.code ≡ None
    → HaveNotedHeld (HoldBy rate (size_of_code name.code) cells) name known known
none_held rate cells name known none = record {
  held = [];
  all = λ place held above stands. subst (λ (s : Option SectorSize). HoldBy rate s cells place held) none stands;
  noted = λ headers «data» stands met. subst (λ (ds : List NotedData). NamesStandFor known headers ds) (sym (append-nil «data»)) stands;
}

equal : (n : ℕ) → nat_eq n n ≡ true
equal n = eq-eqb n n refl

both : (a b : Bool) → a ≡ true → b ≡ true → (a && b) ≡ true
both true true p q = refl
both true false p q = q
both false b p q = p

or_right : (a b : Bool) → b ≡ true → (a || b) ≡ true
or_right true b is = refl
or_right false b is = is

itself : (a : SectorName) → same_sector a a ≡ true
itself a =
    both (nat_eq a.cylinder a.cylinder && nat_eq a.head a.head && nat_eq a.number a.number) (nat_eq a.code a.code)
    (both (nat_eq a.cylinder a.cylinder && nat_eq a.head a.head) (nat_eq a.number a.number)
    (both (nat_eq a.cylinder a.cylinder) (nat_eq a.head a.head) (equal a.cylinder) (equal a.head)) (equal a.number)) (equal a.code)

met_last : (before : List NamedHeader) (h : NamedHeader) → is_met h.name (before ++ h ∷ []) ≡ true
met_last before h =
    list_any-append (has_name h.name) before (h ∷ [])
    ∙ or_right (is_met h.name before) (same_sector h.name h.name || false) (ap (λ (b : Bool). b || false) (itself h.name))

-- a header, and then its data
pub one_noted : (At : ℕ → List ℕ → Type 0) (h : NamedHeader) (old mid new : NamesKnown) → AppendsHeader old mid h → (held : HaveNotedHeld At h.name mid new)
    → AppendsNames old new (h ∷ []) (data_of h.name held.held)
one_noted At h old mid new header held = λ before «data» stands. held.noted (before ++ h ∷ []) «data» (header before «data» stands) (met_last before h)

-- The walk has come to a place: the headers before it are noted, and so many ones were passed.
module _ (rate : Rate) (dump : ℕ) (times indexes : List ℕ) (cells : List Bool) where
  abbrev At : ℕ → FoundName → Type 0
  At = IsNameAt rate dump times indexes cells

  abbrev headers_of : List (ℕ × FoundName) → List NamedHeader
  headers_of found = map (λ f. f.1.0) found

  abbrev held_of : List (ℕ × FoundName) → List NotedData
  held_of found = flat_map (λ f. f.1.1) found

  pub record IsNameWalk (from passed : ℕ) (old new : NamesKnown) : Type 0 where
    pub found : List (ℕ × FoundName)
    pub come : HasCome At found from
    pub noted : AppendsNames old new (headers_of found) (held_of found)
    pub within : from ≤ length cells
    pub passed_are : passed ≡ ones (take from cells)

  pub name_start : (known : NamesKnown) → IsNameWalk 0 0 known known
  name_start known = record {
    found = [];
    come = come_start At;
    noted = λ before held stands.
        subst (λ (ds : List NotedData). NamesStandFor known (before ++ []) ds) (sym (append-nil held))
        (subst (λ (hs : List NamedHeader). NamesStandFor known hs held) (sym (append-nil before)) stands);
    within = omega arith;
    passed_are = refl;
  }

  abbrev Named : ℕ → HeaderName → Type 0
  Named place name = IsNamed rate (drop place cells) name

  -- with those that one more header has
  joined : (before : List NamedHeader) (found : List (ℕ × FoundName)) (place : ℕ) (f : FoundName)
      → (before ++ headers_of found) ++ f.0 ∷ [] ≡ before ++ headers_of (found ++ (place, f) ∷ [])
  joined before found place f =
      append_assoc before (headers_of found) (f.0 ∷ [])
      ∙ ap (λ (hs : List NamedHeader). before ++ hs) (sym (map-append (λ (x : ℕ × FoundName). x.1.0) found ((place, f) ∷ [])))

  joined_held : (held : List NotedData) (found : List (ℕ × FoundName)) (place : ℕ) (f : FoundName)
      → (held ++ held_of found) ++ f.1 ≡ held ++ held_of (found ++ (place, f) ∷ [])
  joined_held held found place f =
      append_assoc held (held_of found) f.1
      ∙ ap (λ (ds : List NotedData). held ++ ds)
      (ap (λ (ds : List NotedData). held_of found ++ ds) (sym (append-nil f.1))
      ∙ sym (flat_map-append (λ (x : ℕ × FoundName). x.1.1) found ((place, f) ∷ [])))

  pub name_step : (from passed place met : ℕ) (name : HeaderName) (old mid new : NamesKnown) → IsNameWalk from passed old mid → FirstAt Named from (Some (place, name))
      → place < length cells → ones (take from cells) + met ≡ ones (take (place + 1) cells) → HasNotedOne rate dump times indexes cells place mid new
      → IsNameWalk (place + 1) (passed + met) old new
  name_step from passed place met name old mid new w first below counted one = record {
    found = w.found ++ (place, one.found) ∷ [];
    come = come_on At w.found from place one.found w.come (first.0, one.stands, λ p y above short there. first.2 p (address_of y.0.name) above short there.named);
    noted = λ before held stands.
        subst (λ (hs : List NamedHeader). NamesStandFor new hs (held ++ held_of (w.found ++ (place, one.found) ∷ []))) (joined before w.found place one.found)
        (subst (λ (ds : List NotedData). NamesStandFor new ((before ++ headers_of w.found) ++ one.found.0 ∷ []) ds) (joined_held held w.found place one.found)
        (one.noted (before ++ headers_of w.found) (held ++ held_of w.found) (w.noted before held stands)));
    within = omega (arith, below);
    passed_are = ap (λ (n : ℕ). n + met) w.passed_are ∙ counted;
  }

  -- past a header that names no sector
  pub name_past : ((here : List Bool) (n m : HeaderName) → IsNamed rate here n → IsNamed rate here m → n ≡ m)
      → (from passed place met : ℕ) (name : HeaderName) (old new : NamesKnown) → IsNameWalk from passed old new → FirstAt Named from (Some (place, name))
      → place < length cells → ones (take from cells) + met ≡ ones (take (place + 1) cells) → ((sector : SectorName) → name ≡ address_of sector → ⊥)
      → IsNameWalk (place + 1) (passed + met) old new
  name_past one from passed place met name old new w first below counted none = record {
    found = w.found;
    come = come_past At w.found from (place + 1) (let above = first.0 in omega (arith, above)) w.come (λ p y above short there. by p y above short there (cases_lt p place));
    noted = w.noted;
    within = omega (arith, below);
    passed_are = ap (λ (n : ℕ). n + met) w.passed_are ∙ counted;
  }
    where
      by : (p : ℕ) (y : FoundName) → from ≤ p → p < place + 1 → At p y → (p < place) ⊎ (place ≤ p) → ⊥
      by p y above short there (inl before) = first.2 p (address_of y.0.name) above before there.named
      by p y above short there (inr past) =
          let same : p ≡ place = omega (arith, short, past) in
          none y.0.name (one (drop place cells) name (address_of y.0.name) first.1 (subst (λ (k : ℕ). Named k (address_of y.0.name)) same there.named))

  pub name_end : (from passed : ℕ) (old new : NamesKnown) → IsNameWalk from passed old new → FirstAt Named from None
      → HaveNoted (AreNamesIn rate dump times indexes cells) old new
  name_end from passed old new w none = record {
    headers = headers_of w.found;
    «data» = held_of w.found;
    are = record { found = w.found; all = come_end At w.found from w.come (λ p y above there. none p (address_of y.0.name) above there.named); headers_are = refl; data_are = refl };
    noted = w.noted;
  }
