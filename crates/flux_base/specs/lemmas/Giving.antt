-- What a source gave, in several reads.
use Rattle.std.specs.Prelude.{ℕ, List, [], ◌++◌, Option, Some, None}
use Rattle.std.proofs.Common.{ap, sym, ◌∙◌, append_assoc, append-nil}
use Rattle.flux_base.specs.Outside.{Gives}

pub Gives-nil : (given : Option (List (List ℕ))) → Gives given given []
Gives-nil None = tt
Gives-nil (Some pieces) = sym (append-nil pieces)

pub Gives-trans : (old mid new : Option (List (List ℕ))) (ps qs : List (List ℕ)) → Gives old mid ps
    → Gives mid new qs → Gives old new (ps ++ qs)
Gives-trans None None None ps qs first second = tt
Gives-trans None None (Some zs) ps qs first second = absurd second
Gives-trans None (Some ys) new ps qs first second = absurd first
Gives-trans (Some xs) None None ps qs first second = tt
Gives-trans (Some xs) None (Some zs) ps qs first second = absurd second
Gives-trans (Some xs) (Some ys) None ps qs first second = tt
Gives-trans (Some xs) (Some ys) (Some zs) ps qs first second =
    second ∙ ap (λ x. x ++ qs) first ∙ append_assoc xs ps qs
