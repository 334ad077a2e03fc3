use Rattle.std.proofs.Common.{[], refl}
use Rattle.std.proofs.KnownBytes.{Consumes-nil}
use Rattle.flux_base.specs.lemmas.Blaming.{CountsBy-none}
use Rattle.stream_files.proofs.splitting.split_streams.Goals as goal

pub returns-in-Some-clause-split : goal.returns-in-Some-clause-split
returns-in-Some-clause-split g c = record {
  taken = [];
  consumed = Consumes-nil _;
  ended = λ of. absurd of;
  says = λ later gone. (c.in-Some.ensures.bound, c.in-Some.ensures.first, refl);
}

pub returns-in-Some-clause-blames : goal.returns-in-Some-clause-blames
returns-in-Some-clause-blames g c = CountsBy-none _

pub returns-clause-unread : goal.returns-clause-unread
returns-clause-unread g c = λ there. absurd (c.split_all.ensures.read there)
