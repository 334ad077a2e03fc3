use Rattle.std.proofs.Common.{◌≡◌, ◌≤◌, ◌<◌, ◌+◌, ◌*◌, ◌/◌, ◌%◌, ◌++◌, ◌∷◌, [], List, length, take, arith, sym, ap, subst, ◌∙◌}
use Rattle.std.proofs.lemmas.List.{take_all, take_more}
use Rattle.flux_base.specs.declared.track.TrackId.{TrackId}
use Rattle.dump_reading.specs.Beside.{beside_tracks, most_cylinders, named_tracks}
use Rattle.dump_reading.specs.lemmas.NamedTracks.{cylinders-few, named-many, named-track}
use Rattle.dump_tallies.specs.Tallies.{TalliedDisk}
use Rattle.dump_tallies.specs.inside.Sums.{beside_among, with_beside}
use Rattle.dump_tallies.proofs.SumSteps.{few-up, none-beside}
use Rattle.dump_tallies.proofs.disk_tally.DiskTally.add_beside.Goals as goal

pub loop-number-init : goal.loop-number-init
loop-number-init c = record {
  beside = none-beside c.args.self.now c.args.passed.now c.args.totals.now;
  few = few-up 1000 (1000 + 0) c.args.totals.now (omega arith) c.requires.few;
}

pub add_if_beside-requires-clause-few : goal.add_if_beside-requires-clause-few
add_if_beside-requires-clause-few c =
    let most = cylinders-few c.args.self.now.stepping in
    let low = c.loop-number-test.true in
    let end = c.most_cylinders-number-end.ensures in
    few-up (1000 + c.loop-number.number) 2000 c.loop-number.totals (omega arith) c.loop-number.invariant.few

pub loop-number-preserved : goal.loop-number-preserved
loop-number-preserved c =
    let n = c.loop-number.number in
    let disk = c.args.self.now in
    let ts : List TrackId = named_tracks disk.stepping in
    let none : TrackId = record { cylinder = 0; head = 0 } in
    let here : TrackId = record { cylinder = n / 2; head = n % 2 } in
    let end = c.most_cylinders-number-end.ensures in
    let low = c.loop-number-test.true in
    let below : n < 2 * most_cylinders disk.stepping = subst (λ (d : TalliedDisk). n < 2 * most_cylinders d.stepping) c.self.view_is (omega (arith, end, low)) in
    let within : n < length ts = (let many = named-many disk.stepping in omega (arith, below, many)) in
    let more : take n ts ++ here ∷ [] ≡ take (n + 1) ts =
    ap (λ (t : TrackId). take n ts ++ t ∷ []) (sym (named-track disk.stepping n below)) ∙ sym (take_more ts n none within) in
    record {
      beside = c.add_if_beside.ensures.beside (take n ts) c.args.totals.now c.loop-number.invariant.beside
          ∙ ap (λ (us : List TrackId). with_beside disk c.args.passed.now (beside_among disk.format us) c.args.totals.now) more;
      few = few-up (1000 + n + 1) (1000 + (n + 1)) c.add_if_beside.new.totals (omega arith) (c.add_if_beside.ensures.few (1000 + n) c.loop-number.invariant.few);
    }

pub returns : goal.returns
unfolding beside_tracks
returns c =
    let n = c.loop-number.number in
    let disk = c.args.self.now in
    let ts : List TrackId = named_tracks disk.stepping in
    let end = c.most_cylinders-number-end.ensures in
    let past = c.loop-number-test.false in
    let reach : 2 * most_cylinders disk.stepping ≤ n = subst (λ (d : TalliedDisk). 2 * most_cylinders d.stepping ≤ n) c.self.view_is (omega (arith, end, past)) in
    let all : length ts ≤ n = (let many = named-many disk.stepping in omega (arith, reach, many)) in
    c.loop-number.invariant.beside ∙ ap (λ (us : List TrackId). with_beside disk c.args.passed.now (beside_among disk.format us) c.args.totals.now) (take_all n ts all)
