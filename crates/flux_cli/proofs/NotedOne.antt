-- The files, and which of them failed, decide what is noted of dumps, and the outcome behind that.
use Rattle.std.proofs.Common.{◌≡◌, ◌∙◌, ℕ, true, false, List, [], ◌∷◌, length, Option, Some, None, refl, sym, ap}
use Rattle.std.proofs.lemmas.List.Elements.{All-head, All-tail}
use Rattle.std.specs.Prelude.{All, map, take}
use Rattle.std.specs.List.{range_with_len}
use Rattle.dump_reading.specs.Files.{ShelfNow}
use Rattle.scp_notes.specs.Dumps.{AllNoted, AreNotesOf, DumpNoted, IsNoted, has_failed, notes_of_dump}
use Rattle.scp_notes.specs.Files.{Notes}
use Rattle.std.specs.Option.{is_none}
use Rattle.track_shelf.specs.Files.{File}
use Rattle.track_shelf.specs.Told.{ShelfTold}
use Rattle.flux_cli.specs.NotedWork.{OneBehindNotes, noted_outcome}
use Rattle.flux_cli.specs.Work.{Outcome}

head-same : {X : Type 0} (x y : X) (xs ys : List X) → x ∷ xs ≡ y ∷ ys → x ≡ y
head-same x y xs ys same = cc

tail-same : {X : Type 0} (x y : X) (xs ys : List X) → x ∷ xs ≡ y ∷ ys → xs ≡ ys
tail-same x y xs ys same = cc

none-cons : {X : Type 0} (x : X) (xs : List X) → [] ≡ x ∷ xs → ⊥
none-cons x xs same = cc

true-false : true ≡ false → ⊥
true-false same = cc

module _ (files : List File) (told told' : Option (List File)) (mine : told ≡ Some files) (others : told' ≡ Some files) where
  one-notes : (dump dump' : List ℕ) → dump ≡ dump' → (n m : Option Notes) → is_none n ≡ is_none m → AreNotesOf told dump n → AreNotesOf told' dump' m → n ≡ m
  one-notes dump dump' same None None alike p q = refl
  one-notes dump dump' same (Some n) (Some m) alike p q = ap Some (p files mine ∙ ap (notes_of_dump files) same ∙ sym (q files others))
  one-notes dump dump' same None (Some m) alike p q = absurd (true-false alike)
  one-notes dump dump' same (Some n) None alike p q = absurd (true-false (sym alike))

  one-noted : (a b : DumpNoted) → a.number ≡ b.number → a.dump ≡ b.dump → has_failed a ≡ has_failed b → IsNoted told a → IsNoted told' b → a ≡ b
  one-noted a b number dump alike p q =
      let notes : a.notes ≡ b.notes = one-notes a.dump b.dump dump a.notes b.notes alike p q in
      λ i. record { number = number i; dump = dump i; notes = notes i }

  all-noted : (a b : List DumpNoted) → map (λ (it : DumpNoted). it.number) a ≡ map (λ (it : DumpNoted). it.number) b → map (λ (it : DumpNoted). it.dump) a ≡ map (λ (it : DumpNoted). it.dump) b
      → map has_failed a ≡ map has_failed b → All (IsNoted told) a → All (IsNoted told') b → a ≡ b
  all-noted [] [] numbers dumps alike p q = refl
  all-noted [] (y ∷ ys) numbers dumps alike p q = absurd (none-cons y.number (map (λ (it : DumpNoted). it.number) ys) numbers)
  all-noted (x ∷ xs) [] numbers dumps alike p q = absurd (none-cons x.number (map (λ (it : DumpNoted). it.number) xs) (sym numbers))
  all-noted (x ∷ xs) (y ∷ ys) numbers dumps alike p q =
      let first : x ≡ y = one-noted x y (head-same x.number y.number _ _ numbers) (head-same x.dump y.dump _ _ dumps) (head-same (has_failed x) (has_failed y) _ _ alike)
      (All-head (IsNoted told) x xs p) (All-head (IsNoted told') y ys q) in
      let rest : xs ≡ ys = all-noted xs ys (tail-same x.number y.number _ _ numbers) (tail-same x.dump y.dump _ _ dumps) (tail-same (has_failed x) (has_failed y) _ _ alike)
      (All-tail (IsNoted told) x xs p) (All-tail (IsNoted told') y ys q) in
      λ i. first i ∷ rest i

pub notes-one : (dumps : List (List ℕ)) (files : List File) (start now start' now' : ShelfNow) → start.told.files ≡ Some files → start'.told.files ≡ Some files
    → (a b : List DumpNoted) → AllNoted dumps start now a → AllNoted dumps start' now' b → map has_failed a ≡ map has_failed b → a ≡ b
notes-one dumps files start now start' now' mine others a b p q alike =
    let many : length a ≡ length b = p.all ∙ sym q.all in
    all-noted files start.told.files start'.told.files mine others a b
    (p.are.first.numbers ∙ ap (range_with_len 0) many ∙ sym q.are.first.numbers)
    (p.are.first.names ∙ ap (λ (n : ℕ). take n dumps) many ∙ sym q.are.first.names)
    alike p.are.are q.are.are

-- the files are the same behind the notes
files-stay : (dumps : List (List ℕ)) (files : List File) (start mid : ShelfNow) (noted : List DumpNoted) → AllNoted dumps start mid noted → start.told.files ≡ Some files → mid.told.files ≡ Some files
files-stay dumps files start mid noted all mine = ap (λ (t : ShelfTold). t.files) all.are.told ∙ mine

module _ (dumps : List (List ℕ)) (Gives : (start now : ShelfNow) → Outcome → Type 0)
    (Alike : (start now start' now' : ShelfNow) (a b : Outcome) → Gives start now a → Gives start' now' b → Type 0) (files : List File) where
  pub one-behind-notes : ((start now start' now' : ShelfNow) → start.told.files ≡ Some files → start'.told.files ≡ Some files → (a b : Outcome) (p : Gives start now a) (q : Gives start' now' b)
      → Alike start now start' now' a b p q → a ≡ b) → OneBehindNotes dumps Gives Alike files
  one-behind-notes own = λ start now start' now' mine others a b p q failed alike.
      let notes : p.noted ≡ q.noted = notes-one dumps files start p.mid start' q.mid mine others p.noted q.noted p.noted_are q.noted_are failed in
      let same : p.own ≡ q.own = own p.mid now q.mid now' (files-stay dumps files start p.mid p.noted p.noted_are mine) (files-stay dumps files start' q.mid q.noted q.noted_are others)
      p.own q.own p.gives q.gives alike in
      p.is ∙ ap (λ (n : List DumpNoted). noted_outcome n p.own) notes ∙ ap (noted_outcome q.noted) same ∙ sym q.is
