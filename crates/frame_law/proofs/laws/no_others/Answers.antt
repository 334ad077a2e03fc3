use Rattle.frame_law.proofs.laws.no_others.Goals as goal

pub returns : goal.returns
returns g c = λ r track bytes zeros from count behind known given place name other.
    let own = g.met.R.Recording.no_other r track bytes zeros from count behind place name known given other.0 in
    other.1 own.0 own.1
