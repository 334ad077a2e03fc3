-- The paths of a dump's files, byte by byte.
use Rattle.std.specs.Prelude.{◌≡◌, ◌≢◌, ◌≤◌, ◌⊎◌, ℕ, ◌+◌, ◌/◌, ◌%◌, List, [], ◌∷◌, ◌++◌}

-- two digits, a point, a digit, `.raw`
abbrev pub ending : (tens ones head : ℕ) → List ℕ
ending tens ones head = (48 + tens) ∷ (48 + ones) ∷ 46 ∷ (48 + head) ∷ 46 ∷ 114 ∷ 97 ∷ 119 ∷ []

-- that of the file of this cylinder and head
abbrev pub ending_of : (cylinder head : ℕ) → List ℕ
ending_of cylinder head = ending (cylinder / 10) (cylinder % 10) head

-- in a folder: `/track` stands between
abbrev pub path_in_folder : (folder : List ℕ) → (cylinder head : ℕ) → List ℕ
path_in_folder folder cylinder head =
    folder ++ 47 ∷ 116 ∷ 114 ∷ 97 ∷ 99 ∷ 107 ∷ ending_of cylinder head

-- The name of a dump is that of one of its files, which begin with these bytes.
pub record IsNameOfFile (name front : List ℕ) : Type 0 where
  pub some : front ≢ []
  pub tens : ℕ
  pub ones : ℕ
  pub head : ℕ
  pub tens_few : tens ≤ 9
  pub ones_few : ones ≤ 9
  pub head_few : head ≤ 1
  pub is : name ≡ front ++ ending tens ones head

-- The name of a dump is that of an SCP file: it ends with a point and the letters s, c and p, each
-- small or great, and something stands before.
pub record IsNameOfScp (name : List ℕ) : Type 0 where
  pub front : List ℕ
  pub some : front ≢ []
  pub first : ℕ
  pub second : ℕ
  pub third : ℕ
  pub an_s : (first ≡ 83) ⊎ (first ≡ 115)
  pub a_c : (second ≡ 67) ⊎ (second ≡ 99)
  pub a_p : (third ≡ 80) ⊎ (third ≡ 112)
  pub is : name ≡ front ++ 46 ∷ first ∷ second ∷ third ∷ []
