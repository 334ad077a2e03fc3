-- Bytes that are taken one part after the other, and when they are asked for.
use Rattle.std.proofs.Common.{◌≡◌, ◌<◌, ◌++◌, ℕ, zero, suc, Bool, List, [], ◌∷◌, length, take, refl, sym, ap, subst, ◌∙◌, arith, append_assoc, append-nil}
use Rattle.std.proofs.lemmas.List.Folds.{concat-append}
use Rattle.std.proofs.KnownBytes.{Consumes-trans, Consumes-nil}
use Rattle.std.specs.List.{concat}
use Rattle.std.specs.Io.KnownBytes.{Consumes}
use Rattle.flux_base.specs.Outside.{Gives}
use Rattle.flux_base.specs.lemmas.Giving.{Gives-nil, Gives-trans}
use Rattle.kryo_stream.specs.inside.Held.{Took}
use Rattle.kryo_stream.specs.Outcome.{DoNotTell, IsReadWhereNeeded}
use Rattle.kryo_stream.specs.Reads.{SourceMoment}
use Rattle.kryo_stream.specs.inside.Reads.{AreNeeded, Takes, IsNothing}

AreNeeded-append : (IsOpen : List ℕ → Type 0) (taken : List ℕ) (ps qs : List (List ℕ)) → AreNeeded IsOpen taken ps
    → AreNeeded IsOpen (taken ++ concat ps) qs → AreNeeded IsOpen taken (ps ++ qs)
AreNeeded-append IsOpen taken [] qs first second = subst (λ t. AreNeeded IsOpen t qs) (append-nil taken) second
AreNeeded-append IsOpen taken (p ∷ ps) qs first second = (
  first.0,
  AreNeeded-append IsOpen (taken ++ p) ps qs first.1 (subst (λ t. AreNeeded IsOpen t qs) (sym (append_assoc taken p (concat ps))) second),
)

-- the same pieces where others were taken before, and another question was open
AreNeeded-after : (P Q : List ℕ → Type 0) (before taken : List ℕ) (ps : List (List ℕ)) → ((t : List ℕ) → P t → Q (before ++ t))
    → AreNeeded P taken ps → AreNeeded Q (before ++ taken) ps
AreNeeded-after P Q before taken [] opens needed = tt
AreNeeded-after P Q before taken (p ∷ ps) opens needed = (
  opens taken needed.0,
  subst (λ t. AreNeeded Q t ps) (sym (append_assoc before taken p)) (AreNeeded-after P Q before (taken ++ p) ps opens needed.1),
)

AreNeeded-at : (IsOpen : List ℕ → Type 0) (taken : List ℕ) (ps : List (List ℕ)) (k : ℕ) → k < length ps
    → AreNeeded IsOpen taken ps → IsOpen (taken ++ concat (take k ps))
AreNeeded-at IsOpen taken [] k below needed = absurd (omega (arith, below))
AreNeeded-at IsOpen taken (p ∷ ps) zero below needed = subst IsOpen (sym (append-nil taken)) needed.0
AreNeeded-at IsOpen taken (p ∷ ps) (suc k) below needed =
    subst IsOpen (append_assoc taken p (concat (take k ps))) (AreNeeded-at IsOpen (taken ++ p) ps k (omega (arith, below)) needed.1)

both_none : (ps qs : List (List ℕ)) → ps ++ qs ≡ [] → (ps ≡ []) × (qs ≡ [])
both_none [] qs none = (refl, none)
both_none (p ∷ ps) qs none = absurd (some none)
  where
    some : {x : List ℕ} {xs : List (List ℕ)} → x ∷ xs ≡ [] → ⊥
    some same = cc

pub Takes-nothing : (IsOpen : List ℕ → Type 0) (m : SourceMoment) → Takes IsOpen m m []
Takes-nothing IsOpen m = record {
  consumed = Consumes-nil m.left;
  pieces = [];
  gave = Gives-nil m.given;
  whole = refl;
  needed = tt;
  still = λ _. refl;
}

pub Takes-trans : {P Q : List ℕ → Type 0} {old mid new : SourceMoment} {a b : List ℕ} → Takes P old mid a → Takes Q mid new b
    → ((t : List ℕ) → Q t → P (a ++ t)) → Takes P old new (a ++ b)
Takes-trans {P} {Q} {old} {mid} {new} {a} {b} first second opens =
    let later : AreNeeded P (a ++ []) second.pieces = AreNeeded-after Q P a [] second.pieces opens second.needed in
    let same : a ++ [] ≡ [] ++ concat first.pieces = append-nil a ∙ sym first.whole in record {
      consumed = Consumes-trans old.left mid.left new.left a b first.consumed second.consumed;
      pieces = first.pieces ++ second.pieces;
      gave = Gives-trans old.given mid.given new.given first.pieces second.pieces first.gave second.gave;
      whole = concat-append first.pieces second.pieces ∙ ap (λ x. x ++ concat second.pieces) first.whole ∙ ap (λ x. a ++ x) second.whole;
      needed = AreNeeded-append P [] first.pieces second.pieces first.needed (subst (λ t. AreNeeded P t second.pieces) same later);
      still = λ none. let each = both_none first.pieces second.pieces none in second.still each.1 ∙ first.still each.0;
    }

pub Takes-other : {P Q : List ℕ → Type 0} {old new : SourceMoment} {a : List ℕ} → Takes P old new a → ((t : List ℕ) → P t → Q t) → Takes Q old new a
Takes-other {P} {Q} t opens = record {
  consumed = t.consumed;
  pieces = t.pieces;
  gave = t.gave;
  whole = t.whole;
  needed = AreNeeded-after P Q [] [] t.pieces opens t.needed;
  still = t.still;
}

one_some : (piece : List ℕ) → piece ∷ [] ≡ [] → ⊥
one_some piece same = cc

-- one read that gave bytes, or none
pub Takes-read : {old new : SourceMoment} (bytes : List ℕ) → Consumes old.left new.left bytes → Gives old.given new.given (bytes ∷ [])
    → Takes IsNothing old new bytes
Takes-read bytes consumed gave = record {
  consumed = consumed;
  pieces = bytes ∷ [];
  gave = gave;
  whole = append-nil bytes;
  needed = (refl, tt);
  still = λ none. absurd (one_some bytes none);
}

pub Took-nothing : {IsOpen : List ℕ → Type 0} (m : SourceMoment) (held : List ℕ) → Took IsOpen m m held held
Took-nothing {IsOpen} m held = record { taken = []; takes = Takes-nothing IsOpen m; grown = sym (append-nil held) }

-- one read more, where the question is still open
pub Took-more : {IsOpen : List ℕ → Type 0} {old mid new : SourceMoment} {held between held' : List ℕ}
    → (a : Took IsOpen old mid held between) → Took IsNothing mid new between held' → IsOpen a.taken → Took IsOpen old new held held'
Took-more {IsOpen} {held = held} a b still_open = record {
  taken = a.taken ++ b.taken;
  takes = Takes-trans a.takes b.takes (λ t none. subst IsOpen (sym (ap (λ x. a.taken ++ x) none ∙ append-nil a.taken)) still_open);
  grown = b.grown ∙ ap (λ xs. xs ++ b.taken) a.grown ∙ append_assoc held a.taken b.taken;
}

-- what a call says of its reads
pub reads_needed : {old new : SourceMoment} {used : Bool} {held taken : List ℕ} → Takes (λ so_far. DoNotTell used (held ++ so_far)) old new taken
    → IsReadWhereNeeded old new used held
reads_needed {old} {new} {used} {held} {taken} t = record {
  pieces = t.pieces;
  gave = t.gave;
  consumed = subst (Consumes old.left new.left) (sym t.whole) t.consumed;
  needed = λ k below. AreNeeded-at (λ so_far. DoNotTell used (held ++ so_far)) [] t.pieces k below t.needed;
  still = t.still;
}
