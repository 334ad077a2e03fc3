-- A block that is written in parts.
use Rattle.std.proofs.Common.{◌≡◌, ◌≤◌, ◌+◌, ◌-◌, ◌++◌, ℕ, List, take, Option, [], ◌∷◌, zero, suc, refl, ◌∙◌, subst, ap, arith}
use Rattle.std.proofs.lemmas.List.{replicate-append-replicate}
use Rattle.std.proofs.Math.ListN.{replicate}
use Rattle.std.proofs.KnownBytes.{Appends-trans}
use Rattle.std.specs.Io.KnownBytes.{Appends}
use Rattle.flux_base.specs.Outside.{AppendsPart}
use Rattle.flux_base.specs.lemmas.Parts.{AppendsPart-first, AppendsPart-second}

-- more of the same byte
pub Appends-more : (old mid new : Option (List ℕ)) (done piece total byte : ℕ) → Appends old mid (replicate done byte)
    → Appends mid new (replicate piece byte) → done + piece ≡ total → Appends old new (replicate total byte)
Appends-more old mid new done piece total byte first next is =
    subst (Appends old new) (replicate-append-replicate done piece byte ∙ ap (λ n. replicate n byte) is)
    (Appends-trans old mid new (replicate done byte) (replicate piece byte) first next)

-- a part of the next piece of the same byte
pub AppendsPart-more : (old mid new : Option (List ℕ)) (done piece total byte : ℕ) → Appends old mid (replicate done byte)
    → AppendsPart mid new (replicate piece byte) → done + piece ≤ total → AppendsPart old new (replicate total byte)
AppendsPart-more old mid new done piece total byte first part within =
    let split : replicate done byte ++ (replicate piece byte ++ replicate (total - (done + piece)) byte) ≡ replicate total byte =
    ap (λ t. replicate done byte ++ t) (replicate-append-replicate piece (total - (done + piece)) byte)
    ∙ replicate-append-replicate done (piece + (total - (done + piece))) byte
    ∙ ap (λ n. replicate n byte) (omega arith) in
    subst (AppendsPart old new) split (AppendsPart-second old mid new (replicate done byte)
    (replicate piece byte ++ replicate (total - (done + piece)) byte) first
    (AppendsPart-first mid new (replicate piece byte) (replicate (total - (done + piece)) byte) part))

-- the bytes that a Nop is taken from
pub nop_bytes : (n : ℕ) → 1 ≤ n → n ≤ 3 → take n ((7 + n) ∷ 0 ∷ 0 ∷ []) ≡ (7 + n) ∷ replicate (n - 1) 0
nop_bytes zero low high = absurd (omega arith)
nop_bytes (suc zero) low high = refl
nop_bytes (suc (suc zero)) low high = refl
nop_bytes (suc (suc (suc zero))) low high = refl
nop_bytes (suc (suc (suc (suc n)))) low high = absurd (omega arith)
