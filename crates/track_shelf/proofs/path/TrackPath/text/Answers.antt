use Rattle.std.proofs.Common.{sym, subst, inr}
use Rattle.std.specs.Str.{IsUtf8}
use Rattle.track_shelf.proofs.Paths.{front-text}
use Rattle.track_shelf.proofs.path.TrackPath.text.Goals as goal

pub returns-in_default-clause-none : goal.returns-in_default-clause-none
returns-in_default-clause-none c =
    inr (λ is. c.in_default.ensures.cases.0 (front-text c.self.inside.front.now c.self.inside.back.bytes c.self.invariant (subst IsUtf8 (sym c.self.view_is) is)))
