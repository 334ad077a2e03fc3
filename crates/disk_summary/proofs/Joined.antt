-- Texts that are joined.
use Rattle.std.proofs.Common.{◌≡◌, ℕ, List, [], ◌∷◌, ◌++◌, fold, refl, ap, ◌∙◌, append_assoc}
use Rattle.json.specs.Print.{escape}
use Rattle.disk_summary.proofs.Plain.{IsPlain}

-- pieces behind one another, and before a text
abbrev pub chain : List ℕ → List (List ℕ) → List ℕ
chain piece [] = piece
chain piece (next ∷ pieces) = piece ++ chain next pieces

abbrev pub before : List (List ℕ) → List ℕ → List ℕ
before [] rest = rest
before (piece ∷ pieces) rest = piece ++ before pieces rest

pub chain-past : (piece : List ℕ) (pieces : List (List ℕ)) (rest : List ℕ) → chain piece pieces ++ rest ≡ before (piece ∷ pieces) rest
chain-past piece [] rest = refl
chain-past piece (next ∷ pieces) rest =
    append_assoc piece (chain next pieces) rest ∙ ap (λ (l : List ℕ). piece ++ l) (chain-past next pieces rest)

-- pieces that are appended one by one
pub appended : (line piece : List ℕ) (pieces : List (List ℕ))
    → fold (λ (l : List ℕ) (p : List ℕ). l ++ p) (line ++ piece) pieces ≡ line ++ chain piece pieces
appended line piece [] = refl
appended line piece (next ∷ pieces) = appended (line ++ piece) next pieces ∙ append_assoc line piece (chain next pieces)

-- a string, and what stands behind it
pub quoted-past : (text rest all : List ℕ) → IsPlain text → rest ≡ all → (34 ∷ (escape text ++ 34 ∷ [])) ++ rest ≡ 34 ∷ (text ++ 34 ∷ all)
quoted-past text rest all plain same =
    ap (λ (l : List ℕ). 34 ∷ l)
    (append_assoc (escape text) (34 ∷ []) rest ∙ (λ i. plain i ++ 34 ∷ same i))
