-- Reads that are made one after the other, each where the answer was open.
use Rattle.std.specs.Prelude.{◌≡◌, ◌<◌, ℕ, ◌+◌, ◌-◌, List, [], ◌∷◌, ◌++◌, length, take, Option}
use Rattle.std.specs.Prelude.{Some, None, refl}
use Rattle.std.specs.List.{concat}
use Rattle.std.specs.Io.KnownBytes.{Consumes}
use Rattle.std.proofs.Common.{ap, sym, subst, ◌∙◌, arith, inl, inr, length-append}
use Rattle.std.proofs.KnownBytes.{Consumes-nil, Consumes-trans}
use Rattle.std.proofs.lemmas.Bool.{cases_lt}
use Rattle.std.proofs.lemmas.List.{take-append-le}
use Rattle.std.proofs.lemmas.List.Folds.{concat-append}
use Rattle.std.proofs.Math.Seq.{take-append-add}
use Rattle.flux_base.specs.Outside.{Gives}
use Rattle.flux_base.specs.lemmas.Giving.{Gives-nil, Gives-trans}
use Rattle.kryo_stream.specs.Reads.{SourceMoment}
use Rattle.flux_engine.specs.Needed.{ReadsWhereOpen}

pub both_none : (ps qs : List (List ℕ)) → ps ++ qs ≡ [] → (ps ≡ []) × (qs ≡ [])
both_none [] qs none = (refl, none)
both_none (p ∷ ps) qs none = absurd (some none)
  where
    some : {x : List ℕ} {xs : List (List ℕ)} → x ∷ xs ≡ [] → ⊥
    some same = cc

unfoldable pub no_reads : (IsOpen : List ℕ → Type 0) (m : SourceMoment) → ReadsWhereOpen IsOpen m m
no_reads IsOpen m = record {
  pieces = [];
  gave = Gives-nil m.given;
  consumed = Consumes-nil m.left;
  needed = λ k below. absurd (omega (arith, below));
  still = λ _. refl;
}

-- these pieces were given after others
abbrev pub GaveMore : (IsOpen : List ℕ → Type 0) (old new : SourceMoment) (before : List ℕ)
    (qs : List (List ℕ))
    → Type 0
GaveMore IsOpen old new before qs =
    Gives old.given new.given qs × Consumes old.left new.left (concat qs)
    × ((k : ℕ) → k < length qs → IsOpen (before ++ concat (take k qs)))
    × (qs ≡ [] → new.faults ≡ old.faults)

unfoldable pub reads_more : (IsOpen : List ℕ → Type 0) (old mid new : SourceMoment)
    (r : ReadsWhereOpen IsOpen old mid) (qs : List (List ℕ))
    → GaveMore IsOpen mid new (concat r.pieces) qs → ReadsWhereOpen IsOpen old new
reads_more IsOpen old mid new r qs more = record {
  pieces = r.pieces ++ qs;
  gave = Gives-trans old.given mid.given new.given r.pieces qs r.gave more.0;
  consumed = subst (Consumes old.left new.left) (sym (concat-append r.pieces qs))
      (Consumes-trans old.left mid.left new.left (concat r.pieces) (concat qs) r.consumed more.1);
  needed = λ k below.
      elim (cases_lt k (length r.pieces)) [
        | inl before ↦
            subst IsOpen (ap concat (sym (take-append-le k r.pieces qs (omega (arith, before)))))
            (r.needed k before)
        | inr least ↦
            let j : ℕ = k - length r.pieces in
            let at : k ≡ length r.pieces + j = omega (arith, least) in
            let low : j < length qs = omega (arith, at, below, length-append r.pieces qs) in
            let same : concat (take k (r.pieces ++ qs)) ≡ concat r.pieces ++ concat (take j qs) =
            ap (λ n. concat (take n (r.pieces ++ qs))) at
            ∙ ap concat (take-append-add r.pieces qs j) ∙ concat-append r.pieces (take j qs) in
            subst IsOpen (sym same) (more.2 j low)
      ];
  still = λ none. let each = both_none r.pieces qs none in more.3 each.1 ∙ r.still each.0;
}

-- the told bytes are those taken and those left
pub record Rest (x : List ℕ) (left' : Option (List ℕ)) (taken : List ℕ) : Type 0 where
  pub rest : List ℕ
  pub left : left' ≡ Some rest
  pub all : x ≡ taken ++ rest

pub rest_of : (x taken : List ℕ) (left' : Option (List ℕ)) → Consumes (Some x) left' taken
    → Rest x left' taken
rest_of x taken None consumed = absurd consumed
rest_of x taken (Some rest) consumed = record { rest = rest; left = refl; all = consumed }

pub some_same : (a b : List ℕ) → Some a ≡ Some b → a ≡ b
some_same a b same = cc
