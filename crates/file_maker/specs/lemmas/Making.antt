-- Files that are made, written and closed, one after another.
use Rattle.std.proofs.Common.{◌≡◌, ℕ, List, [], ◌∷◌, ◌++◌, take, Option, Some, None, Result, Ok}
use Rattle.std.proofs.Common.{Err, OnOk, OnErr, inr, unwrap_or, refl, sym, ap, subst, ◌∙◌}
use Rattle.std.proofs.Common.{append_assoc, append-nil}
use Rattle.std.specs.Option.{option_map}
use Rattle.std.specs.Io.KnownBytes.{Appends}
use Rattle.flux_base.specs.Outside.{AppendsPart}
use Rattle.flux_base.specs.declared.outside.Failed.{Failed}
use Rattle.track_shelf.specs.Files.{File}
use Rattle.file_maker.specs.Made.{IsNew, Made, file_with, made_close, made_folder}
use Rattle.file_maker.specs.Makes.{MakesFile, MakesIn, with_files, with_folder_of}

-- the file of a path is open
abbrev pub with_opened : (path : List ℕ) → Made → Made
with_opened path made = record made { opened = path ∷ made.opened }

-- a new file to which these bytes were written is closed
pub closed_file : (made : Option Made) (path bytes : List ℕ) (old new : Option (List ℕ))
    → ((told : Made) → made ≡ Some told → old ≡ Some [])
    → Appends old new bytes
    → option_map (made_close (unwrap_or new [])) (option_map (with_opened path) made)
    ≡ option_map (with_files (file_with bytes path ∷ [])) made
closed_file None path bytes old new fresh grew = refl
closed_file (Some told) path bytes old None fresh grew =
    absurd (subst (λ (o : Option (List ℕ)). Appends o None bytes) (fresh told refl) grew)
closed_file (Some told) path bytes old (Some ys) fresh grew =
    let is : ys ≡ [] ++ bytes =
    subst (λ (o : Option (List ℕ)). Appends o (Some ys) bytes) (fresh told refl) grew in
    ap (λ (bs : List ℕ). Some (with_files (file_with bs path ∷ []) told)) is

-- a new file has no bytes, where it is told what lies there
pub new_is_empty : {F : Type 0} (written : F → Option (List ℕ)) (made : Option Made) (path : List ℕ)
    (file : F)
    → IsNew written made path (Ok file)
    → (told : Made) → made ≡ Some told → written file ≡ Some []
new_is_empty written made path file is told known =
    (subst (λ (m : Option Made). IsNew written m path (Ok file)) known is).1

-- a file is made, written and closed
module _ (made before now : Option Made) (path bytes : List ℕ) (old new : Option (List ℕ))
    (fresh : (told : Made) → made ≡ Some told → old ≡ Some [])
    (opened : before ≡ option_map (with_opened path) made)
    (closed : now ≡ option_map (made_close (unwrap_or new [])) before) where
  is_made : (written : List ℕ) → Appends old new written
      → now ≡ option_map (with_files (file_with written path ∷ [])) made
  is_made written grew = closed ∙ ap (option_map (made_close (unwrap_or new []))) opened
      ∙ closed_file made path written old new fresh grew

  pub makes_file : (answer : Result (Unit {0}) Failed) → OnOk answer (Appends old new bytes)
      → OnErr answer (AppendsPart old new bytes)
      → MakesFile (file_with bytes path) made now answer
  makes_file (Ok _) whole part = is_made bytes whole
  makes_file (Err _) whole (n, within, grew) = inr (n, within, is_made (take n bytes) grew)

-- no file was made yet
pub no_files : (made : Option Made) → made ≡ option_map (with_files []) made
no_files None = refl
no_files (Some told) =
    ap (λ (files : List File). Some (record told { files = files })) (sym (append-nil told.files))

-- files, and then more
pub more_files : (xs ys : List File) (made : Option Made)
    → option_map (with_files ys) (option_map (with_files xs) made)
    ≡ option_map (with_files (xs ++ ys)) made
more_files xs ys None = refl
more_files xs ys (Some told) =
    ap (λ (files : List File). Some (record told { files = files })) (append_assoc told.files xs ys)

-- the folder was made before them
pub made_in : (folder : List ℕ) (files : List File) (made before now : Option Made) (u : Unit {0})
    → before ≡ option_map (made_folder folder (Ok u)) made
    → now ≡ option_map (with_files files) before → MakesIn folder files made now
made_in folder files made before now u is grew = grew ∙ ap (option_map (with_files files)) is ∙ by made
  where
    by : (m : Option Made)
        → option_map (with_files files) (option_map (made_folder folder (Ok u)) m)
        ≡ option_map (with_folder_of folder files) m
    by None = refl
    by (Some told) = refl
