-- What a book keeps, as its entries and its bytes change.
use Rattle.std.proofs.Common.{◌≡◌, ◌≢◌, ℕ, ◌+◌, ◌<◌, ◌≤◌, Bool, true, false, cond, ◌||◌, List, [], ◌∷◌, ◌++◌, length, take, map, get_or, set, Option, Some, None, zero, suc, refl, sym, subst, ap, ◌∙◌, arith}
use Rattle.std.specs.List.{All, AllByRecursion, list_any}
use Rattle.std.proofs.lemmas.List.Elements.{All-append, All-from_recursion, recursion_from_All}
use Rattle.std.proofs.lemmas.List.Folds.{list_any-append}
use Rattle.std.proofs.lemmas.List.{get_or_default}
use Rattle.name_book.specs.Book.{NamesKnown, NamesStandFor, told_at}
use Rattle.name_book.specs.Names.{MOST_NAMES, NameTold, NotedData, has_more, is_met, names_of, names_over, same_sector, told_of}
use Rattle.name_book.specs.declared.entry.Agreed.{Agreed}
use Rattle.name_book.specs.declared.entry.Agreed.TheVariants.{Nothing, One, Several}
use Rattle.name_book.specs.declared.entry.Entry.{Entry}
use Rattle.name_book.specs.declared.name.NamedHeader.{NamedHeader}
use Rattle.name_book.specs.declared.name.SectorName.{SectorName}
use Rattle.name_book.specs.inside.Kept.{IsNew, IsOfName, agreed_with, entry_at, is_whole, kept, part, told_entry, told_first, told_from, told_with, told_with_data}
use Rattle.name_book.proofs.Headers.{is_told, over_again, over_full, over_new, more_full, told_is_met, with_header}
use Rattle.name_book.proofs.HeldData.{over_data, with_data}
use Rattle.name_book.proofs.Naming.{Apart, apart_met, apart_taken, neither, one_name, turned}

pub length-told : (k : ℕ) (es : List Entry) (bs : List ℕ) → length (told_from k es bs) ≡ length es
length-told k [] bs = refl
length-told k (e ∷ es) bs = ap suc (length-told (k + 1) es bs)

-- what is told of a number
pub told_number : (k : ℕ) (es : List Entry) (bs : List ℕ) (i : ℕ) (d : NameTold) (e : Entry) → i < length es
    → get_or (told_from k es bs) i d ≡ told_entry (get_or es i e) (part bs (k + i))
told_number k [] bs i d e below = absurd (omega arith)
told_number k (x ∷ xs) bs zero d e below = ap (λ (n : ℕ). told_entry x (part bs n)) (let same : k ≡ k + 0 = omega arith in same)
told_number k (x ∷ xs) bs (suc i) d e below =
    told_number (k + 1) xs bs i d e (omega arith)
    ∙ ap (λ (n : ℕ). told_entry (get_or xs i e) (part bs n)) (let same : k + 1 + i ≡ k + suc i = omega arith in same)

told_same : (k : ℕ) (es : List Entry) (bs bs' : List ℕ) → ((n : ℕ) → k ≤ n → part bs' n ≡ part bs n) → told_from k es bs' ≡ told_from k es bs
told_same k [] bs bs' same = refl
told_same k (e ∷ es) bs bs' same =
    ap (λ (p : List ℕ). told_entry e p ∷ told_from (k + 1) es bs') (same k (omega arith))
    ∙ ap (λ (ts : List NameTold). told_entry e (part bs k) ∷ ts) (told_same (k + 1) es bs bs' (λ n from. same n (omega arith)))

-- after a write of an entry and of its part of all bytes
pub told_set : (k : ℕ) (es : List Entry) (bs bs' : List ℕ) (i : ℕ) (e : Entry) → ((n : ℕ) → n ≢ k + i → part bs' n ≡ part bs n)
    → told_from k (set es i e) bs' ≡ set (told_from k es bs) i (told_entry e (part bs' (k + i)))
told_set k [] bs bs' i e same = refl
told_set k (x ∷ xs) bs bs' zero e same =
    ap (λ (n : ℕ). told_entry e (part bs' n) ∷ told_from (k + 1) xs bs') (let here : k ≡ k + 0 = omega arith in here)
    ∙ ap (λ (ts : List NameTold). told_entry e (part bs' (k + 0)) ∷ ts) (told_same (k + 1) xs bs bs' (λ n from. same n (λ is. absurd (omega arith))))
told_set k (x ∷ xs) bs bs' (suc i) e same =
    let here : k + 1 + i ≡ k + suc i = omega arith in
    ap (λ (p : List ℕ). told_entry x p ∷ told_from (k + 1) (set xs i e) bs') (same k (λ is. absurd (omega arith)))
    ∙ ap (λ (ts : List NameTold). told_entry x (part bs k) ∷ ts)
    (told_set (k + 1) xs bs bs' i e (λ n other. same n (λ is. other (is ∙ sym here)))
    ∙ ap (λ (n : ℕ). set (told_from (k + 1) xs bs) i (told_entry e (part bs' n))) here)

-- and with one more entry
pub told_push : (k : ℕ) (es : List Entry) (bs : List ℕ) (e : Entry)
    → told_from k (es ++ e ∷ []) bs ≡ told_from k es bs ++ told_entry e (part bs (k + length es)) ∷ []
told_push k [] bs e = ap (λ (n : ℕ). told_entry e (part bs n) ∷ []) (let here : k ≡ k + 0 = omega arith in here)
told_push k (x ∷ xs) bs e =
    ap (λ (ts : List NameTold). told_entry x (part bs k) ∷ ts)
    (told_push (k + 1) xs bs e
    ∙ ap (λ (n : ℕ). told_from (k + 1) xs bs ++ told_entry e (part bs n) ∷ []) (let here : k + 1 + length xs ≡ k + suc (length xs) = omega arith in here))

-- A change of what is told of one name is one of that number alone.
abbrev pub changed : SectorName → (NameTold → NameTold) → NameTold → NameTold
changed name f t = cond (same_sector t.name name) (f t) t

pub others_same : (name : SectorName) (f : NameTold → NameTold) (ts : List NameTold) → is_told name ts ≡ false → map (changed name f) ts ≡ ts
others_same name f [] is = refl
others_same name f (t ∷ ts) is =
    let parts = neither (same_sector name t.name) (is_told name ts) is in
    ap (λ (b : Bool). cond b (f t) t ∷ map (changed name f) ts) (turned t.name name ∙ parts.0)
    ∙ ap (λ (rest : List NameTold). t ∷ rest) (others_same name f ts parts.1)

abbrev names_in : List NameTold → List SectorName
names_in ts = map (λ (t : NameTold). t.name) ts

any_name : (name : SectorName) (ts : List NameTold) → list_any (same_sector name) (names_in ts) ≡ is_told name ts
any_name name [] = refl
any_name name (t ∷ ts) = ap (λ (b : Bool). same_sector name t.name || b) (any_name name ts)

any_at : (name : SectorName) (ts : List NameTold) (i : ℕ) (d : NameTold) → i < length ts → same_sector name (get_or ts i d).name ≡ true → is_told name ts ≡ true
any_at name [] i d below is = absurd (omega arith)
any_at name (t ∷ ts) zero d below is = or_left (same_sector name t.name) (is_told name ts) is
  where
    or_left : (a b : Bool) → a ≡ true → (a || b) ≡ true
    or_left true b is = refl
    or_left false b is = absurd (cc)
any_at name (t ∷ ts) (suc i) d below is = or_right (same_sector name t.name) (is_told name ts) (any_at name ts i d (omega arith) is)
  where
    or_right : (a b : Bool) → b ≡ true → (a || b) ≡ true
    or_right true b is = refl
    or_right false b is = is

pub set_changed : (name : SectorName) (f : NameTold → NameTold) (ts : List NameTold) (i : ℕ) (d : NameTold) → Apart (names_in ts) → i < length ts
    → same_sector (get_or ts i d).name name ≡ true → set ts i (f (get_or ts i d)) ≡ map (changed name f) ts
set_changed name f [] i d apart below is = absurd (omega arith)
set_changed name f (t ∷ ts) zero d apart below is =
    let one : t.name ≡ name = one_name t.name name is in
    let rest : is_told name ts ≡ false = ap (λ (n : SectorName). is_told n ts) (sym one) ∙ sym (any_name t.name ts) ∙ apart.0 in
    ap (λ (rest : List NameTold). f t ∷ rest) (sym (others_same name f ts rest))
    ∙ ap (λ (b : Bool). cond b (f t) t ∷ map (changed name f) ts) (sym is)
set_changed name f (t ∷ ts) (suc i) d apart below is =
    let one : (get_or ts i d).name ≡ name = one_name (get_or ts i d).name name is in
    ap (λ (rest : List NameTold). t ∷ rest) (set_changed name f ts i d apart.1 (omega arith) is)
    ∙ ap (λ (b : Bool). cond b (f t) t ∷ map (changed name f) ts) (sym (other (same_sector t.name name) refl))
  where
    other : (b : Bool) → same_sector t.name name ≡ b → b ≡ false
    other true same =
        let this : same_sector t.name (get_or ts i d).name ≡ true = subst (λ (n : SectorName). same_sector t.name n ≡ true) (sym (one_name (get_or ts i d).name name is)) same in
        let told = any_at t.name ts i d (omega arith) this in
        let none = sym (any_name t.name ts) ∙ apart.0 in
        absurd (cc)
    other false same = refl

names_over_are : (headers : List NamedHeader) («data» : List NotedData) (names : List SectorName) → names_in (map (told_of headers «data») names) ≡ names
names_over_are headers «data» [] = refl
names_over_are headers «data» (n ∷ ns) = ap (λ (ms : List SectorName). n ∷ ms) (names_over_are headers «data» ns)

apart_over : (headers : List NamedHeader) («data» : List NotedData) → Apart (names_in (names_over headers «data»))
unfolding names_over
apart_over headers «data» = subst Apart (sym (names_over_are headers «data» (names_of headers))) (apart_taken MOST_NAMES _ (apart_met headers))

-- no entry has a name exactly where none is told
pub none_told : (k : ℕ) (es : List Entry) (bs : List ℕ) (name : SectorName) → IsNew es name → is_told name (told_from k es bs) ≡ false
none_told k [] bs name new = refl
none_told k (e ∷ es) bs name new =
    ap (λ (b : Bool). b || is_told name (told_from (k + 1) es bs)) (turned name e.name ∙ new 0 (omega arith))
    ∙ none_told (k + 1) es bs name (λ n below. new (suc n) (omega arith))

-- What is known of a name, by its entry.
module _ (es : List Entry) (bs : List ℕ) (more : Bool) (known : NamesKnown) (was : (let k : NamesKnown = record { told = told_from 0 es bs; more = more } in k) ≡ known) where
  pub count_is : length es ≡ length known.told
  count_is = sym (length-told 0 es bs) ∙ ap (λ (k : NamesKnown). length k.told) was

  pub number_below : (n i len : ℕ) → n < length known.told → i ≡ n → len ≡ length es → i < len
  number_below n i len below is long = let count = count_is in omega (arith, below, is, long, count)

  pub told_read : (n i : ℕ) (e : Entry) → n < length known.told → i ≡ n → e ≡ get_or es i e → told_at known n ≡ told_entry e (part bs i)
  told_read n i e below is read =
      let count = count_is in
      let d : NameTold = told_entry e (part bs i) in
      let here : 0 + i ≡ i = omega arith in
      get_or_default known.told n _ d below
      ∙ ap (λ (m : ℕ). get_or known.told m d) (sym is)
      ∙ ap (λ (k : NamesKnown). get_or k.told i d) (sym was)
      ∙ told_number 0 es bs i d e (omega (arith, below, is, count))
      ∙ ap (λ (m : ℕ). told_entry (get_or es i e) (part bs m)) here
      ∙ ap (λ (x : Entry). told_entry x (part bs i)) (sym read)

pub kept_one : (a : Agreed) (count n : ℕ) (p q : List ℕ) → a ≡ One count → n ≡ count → p ≡ q → Some (take n p) ≡ kept a q
kept_one a count n p q is same part_is =
    ap (λ (m : ℕ). Some (take m p)) same ∙ ap (λ (xs : List ℕ). Some (take count xs)) part_is ∙ ap (λ (b : Agreed). kept b q) (sym is)

pub kept_none : (a : Agreed) (p : List ℕ) → ((count : ℕ) → a ≡ One count → ⊥) → None ≡ kept a p
kept_none Nothing p none = refl
kept_none (One count) p none = absurd (none count refl)
kept_none Several p none = refl

-- the entry of a name that was looked for
pub found_at : (es seen : List Entry) (name : SectorName) (number i : ℕ) (e : Entry) → seen ≡ es → IsOfName seen name number → i ≡ number → e ≡ get_or es i e
    → (i < length es) × (same_sector e.name name ≡ true)
found_at es seen name number i e same found is read =
    let below : number < length es = subst (λ (xs : List Entry). number < length xs) same found.below in
    let here : number < length es → entry_at es number ≡ e = λ b. get_or_default es number _ e b ∙ ap (λ (m : ℕ). get_or es m e) (sym is) ∙ sym read in
    let named : same_sector (entry_at es number).name name ≡ true = subst (λ (xs : List Entry). same_sector (entry_at xs number).name name ≡ true) same found.same in (
      omega (arith, below, is),
      subst (λ (x : Entry). same_sector x.name name ≡ true) (here below) named,
    )

-- an entry with what its whole data say together
pub entry_held : (e e' : Entry) (a : Agreed) (p p' held : List ℕ) → e' ≡ record e { agreed = a } → is_whole a ≡ true
    → kept a p' ≡ agreed_with (is_whole e.agreed) (kept e.agreed p) held → told_entry e' p' ≡ told_with_data held (told_entry e p)
entry_held e e' a p p' held is whole same =
    ap (λ (x : Entry). told_entry x p') is
    ∙ ap (λ (b : Bool). let t : NameTold = record (told_entry e p) { whole = b; agreed = kept a p' } in t) whole
    ∙ ap (λ (o : Option (List ℕ)). let t : NameTold = record (told_entry e p) { whole = true; agreed = o } in t) same

-- What a book stands for, as it is changed.
module _ (es : List Entry) (bs : List ℕ) (more : Bool) (old : NamesKnown) (was : (let k : NamesKnown = record { told = told_from 0 es bs; more = more } in k) ≡ old)
    (headers : List NamedHeader) («data» : List NotedData) (stands : NamesStandFor old headers «data») where
  told_are : told_from 0 es bs ≡ names_over headers «data»
  told_are = ap (λ (k : NamesKnown). k.told) was ∙ stands.told

  more_is : more ≡ has_more headers
  more_is = ap (λ (k : NamesKnown). k.more) was ∙ stands.more

  is_told_is : (name : SectorName) (b : Bool) → is_told name (told_from 0 es bs) ≡ b → is_told name (names_over headers «data») ≡ b
  is_told_is name b is = ap (is_told name) (sym told_are) ∙ is

  length_is : length es ≡ length (names_over headers «data»)
  length_is = sym (length-told 0 es bs) ∙ ap length told_are

  named_more : (h : NamedHeader) → All (λ (d : NotedData). is_met d.name (headers ++ h ∷ []) ≡ true) «data»
  named_more h = All-from_recursion (λ (d : NotedData). is_met d.name (headers ++ h ∷ []) ≡ true) «data» (each «data» (recursion_from_All (λ (d : NotedData). is_met d.name headers ≡ true) «data» stands.named))
    where
      this : (d : NotedData) → is_met d.name headers ≡ true → is_met d.name (headers ++ h ∷ []) ≡ true
      this d is = list_any-append (λ (x : NamedHeader). same_sector d.name x.name) headers (h ∷ []) ∙ ap (λ (b : Bool). b || (same_sector d.name h.name || false)) is

      each : (ds : List NotedData) → AllByRecursion (λ (d : NotedData). is_met d.name headers ≡ true) ds → AllByRecursion (λ (d : NotedData). is_met d.name (headers ++ h ∷ []) ≡ true) ds
      each [] are = are
      each (d ∷ ds) are = (this d are.0, each ds are.1)

  -- the entry of a number is one of a name
  told_at_number : (i : ℕ) (e : Entry) (d : NameTold) → i < length es → get_or (told_from 0 es bs) i d ≡ told_entry (get_or es i e) (part bs i)
  told_at_number i e d below =
      told_number 0 es bs i d e below ∙ ap (λ (n : ℕ). told_entry (get_or es i e) (part bs n)) (let same : 0 + i ≡ i = omega arith in same)

  set_told : (name : SectorName) (f : NameTold → NameTold) (i : ℕ) (e e' : Entry) (bs' : List ℕ) → i < length es → e ≡ get_or es i e → same_sector e.name name ≡ true
      → ((n : ℕ) → n ≢ i → part bs' n ≡ part bs n) → told_entry e' (part bs' i) ≡ f (told_entry e (part bs i))
      → told_from 0 (set es i e') bs' ≡ map (changed name f) (told_from 0 es bs)
  set_told name f i e e' bs' below read is same new =
      let zero_i : 0 + i ≡ i = omega arith in
      let told : get_or (told_from 0 es bs) i (told_entry e (part bs i)) ≡ told_entry e (part bs i) =
      told_at_number i e (told_entry e (part bs i)) below ∙ ap (λ (x : Entry). told_entry x (part bs i)) (sym read) in
      told_set 0 es bs bs' i e' (λ n other. same n (λ is. other (is ∙ sym zero_i)))
      ∙ ap (λ (n : ℕ). set (told_from 0 es bs) i (told_entry e' (part bs' n))) zero_i
      ∙ ap (set (told_from 0 es bs) i) (new ∙ ap f (sym told))
      ∙ set_changed name f (told_from 0 es bs) i (told_entry e (part bs i))
      (subst (λ (ts : List NameTold). Apart (map (λ (t : NameTold). t.name) ts)) (sym told_are) (apart_over headers «data»))
      (subst (λ (n : ℕ). i < n) (sym (length-told 0 es bs)) below)
      (subst (λ (t : NameTold). same_sector t.name name ≡ true) (sym told) is)

  is_told_at : (name : SectorName) (i : ℕ) (e : Entry) → i < length es → e ≡ get_or es i e → same_sector e.name name ≡ true → is_told name (told_from 0 es bs) ≡ true
  is_told_at name i e below read is =
      let told : get_or (told_from 0 es bs) i (told_entry e (part bs i)) ≡ told_entry e (part bs i) =
      told_at_number i e (told_entry e (part bs i)) below ∙ ap (λ (x : Entry). told_entry x (part bs i)) (sym read) in
      any_at name (told_from 0 es bs) i (told_entry e (part bs i)) (subst (λ (n : ℕ). i < n) (sym (length-told 0 es bs)) below)
      (subst (λ (t : NameTold). same_sector name t.name ≡ true) (sym told) (turned name e.name ∙ is))

  pub stands_again : (h : NamedHeader) (i : ℕ) (e e' : Entry) → i < length es → e ≡ get_or es i e → same_sector e.name h.name ≡ true
      → told_entry e' (part bs i) ≡ told_with h (told_entry e (part bs i))
      → NamesStandFor (record { told = told_from 0 (set es i e') bs; more = more }) (headers ++ h ∷ []) «data»
  stands_again h i e e' below read is new =
      let again = over_again headers «data» h (is_told_is h.name true (is_told_at h.name i e below read is)) in
      record {
        told = set_told h.name (told_with h) i e e' bs below read is (λ n other. refl) new ∙ ap (map (with_header h)) told_are ∙ sym again.0;
        more = more_is ∙ sym again.1;
        named = named_more h;
      }

  pub stands_full : (h : NamedHeader) → IsNew es h.name → 255 ≤ length es
      → NamesStandFor (record { told = told_from 0 es bs; more = true }) (headers ++ h ∷ []) «data»
  stands_full h new full =
      let none = none_told 0 es bs h.name new in
      let size = length_is in
      let many : MOST_NAMES ≤ length (names_over headers «data») = omega (arith, size, full) in
      record {
        told = sym (others_same h.name (told_with h) (told_from 0 es bs) none) ∙ ap (map (with_header h)) told_are ∙ sym (over_full headers «data» h many);
        more = sym (more_full headers «data» h (is_told_is h.name false none) many);
        named = named_more h;
      }

  pub stands_new : (h : NamedHeader) (e : Entry) → IsNew es h.name → length es < 255 → ((p : List ℕ) → told_entry e p ≡ told_first h)
      → NamesStandFor (record { told = told_from 0 (es ++ e ∷ []) bs; more = more }) (headers ++ h ∷ []) «data»
  stands_new h e new few first =
      let none = none_told 0 es bs h.name new in
      let size = length_is in
      let over = over_new headers «data» h (is_told_is h.name false none) (omega (arith, size, few)) (recursion_from_All (λ (d : NotedData). is_met d.name headers ≡ true) «data» stands.named) in
      record {
        told = told_push 0 es bs e
            ∙ ap (λ (t : NameTold). told_from 0 es bs ++ t ∷ []) (first (part bs (0 + length es)))
            ∙ ap (λ (ts : List NameTold). ts ++ told_first h ∷ []) (sym (others_same h.name (told_with h) (told_from 0 es bs) none) ∙ ap (map (with_header h)) told_are)
            ∙ sym over.0;
        more = more_is ∙ sym over.1;
        named = named_more h;
      }

  -- a name that is not told, of which there are data
  pub stands_untold : (d : NotedData) → IsNew es d.name → is_met d.name headers ≡ true
      → NamesStandFor (record { told = told_from 0 es bs; more = more }) headers («data» ++ d ∷ [])
  stands_untold d new met =
      let none = none_told 0 es bs d.name new in
      record {
        told = sym (others_same d.name (told_with_data d.held) (told_from 0 es bs) none) ∙ ap (map (with_data d)) told_are ∙ sym (over_data headers «data» d);
        more = more_is;
        named = All-append (λ (d : NotedData). is_met d.name headers ≡ true) «data» (d ∷ []) stands.named (All-from_recursion (λ (d : NotedData). is_met d.name headers ≡ true) (d ∷ []) (met, tt));
      }

  pub stands_held : (d : NotedData) (i : ℕ) (e e' : Entry) (bs' : List ℕ) → i < length es → e ≡ get_or es i e → same_sector e.name d.name ≡ true
      → ((n : ℕ) → n ≢ i → part bs' n ≡ part bs n) → told_entry e' (part bs' i) ≡ told_with_data d.held (told_entry e (part bs i))
      → NamesStandFor (record { told = told_from 0 (set es i e') bs'; more = more }) headers («data» ++ d ∷ [])
  stands_held d i e e' bs' below read is same new =
      let met = told_is_met headers «data» d.name (is_told_is d.name true (is_told_at d.name i e below read is)) in
      record {
        told = set_told d.name (told_with_data d.held) i e e' bs' below read is same new ∙ ap (map (with_data d)) told_are ∙ sym (over_data headers «data» d);
        more = more_is;
        named = All-append (λ (d : NotedData). is_met d.name headers ≡ true) «data» (d ∷ []) stands.named (All-from_recursion (λ (d : NotedData). is_met d.name headers ≡ true) (d ∷ []) (met, tt));
      }
