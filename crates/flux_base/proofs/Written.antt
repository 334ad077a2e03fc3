-- A piece that is written part by part.
use Rattle.std.proofs.Common.{◌≡◌, ℕ, ◌+◌, ◌-◌, ◌≤◌, Ok, List, length, take, drop, arith, length-drop, ap, sym, ◌∙◌, subst}
use Rattle.std.proofs.lemmas.List.{drop-drop}
use Rattle.std.proofs.Math.Seq.{take-add}
use Rattle.flux_base.specs.Moments.{Moment, Puts, Wrote}
use Rattle.flux_base.specs.lemmas.Parts.{Puts-then}

-- the next part of the rest is taken
pub Wrote-step : {A : Type 0} {old mid new : Moment A} {piece rest : List ℕ} (n : ℕ) → Wrote old mid piece rest → n ≤ length rest
    → Puts {T = Unit {0}} mid new (take n rest) (Ok tt) → Wrote old new piece (drop n rest)
Wrote-step {A = A} {old = old} {mid = mid} {new = new} {piece = piece} {rest = rest} n w bound next = record {
  taken = w.taken + n;
  within = (let e : length rest ≡ length piece - w.taken = ap length w.remains ∙ length-drop w.taken piece in
      omega (arith, w.within, bound, e));
  remains = ap (drop n) w.remains ∙ drop-drop n w.taken piece;
  puts = subst (λ part. Puts {T = Unit {0}} old new part (Ok tt)) (sym (take-add w.taken n piece))
      (Puts-then (Ok tt) w.puts (subst (λ r. Puts {T = Unit {0}} mid new (take n r) (Ok tt)) w.remains next));
}
