use Rattle.std.proofs.Common.{◌≡◌, ◌≤◌, ◌<◌, ◌+◌, ◌++◌, ◌∷◌, [], true, List, length, take, Some, arith, sym, ap, subst, ◌∙◌}
use Rattle.std.specs.List.{slice_get}
use Rattle.std.proofs.lemmas.List.{take_all, take_more}
use Rattle.std.proofs.lemmas.Option.{get_or_from_slice_get}
use Rattle.flux_base.specs.declared.track.TrackId.{TrackId}
use Rattle.sector_images.specs.Places.{tracks}
use Rattle.track_shelf.specs.Stepping.{reaches_all}
use Rattle.dump_tallies.specs.Tallies.{TalliedDisk}
use Rattle.dump_tallies.specs.inside.Sums.{own_numbers}
use Rattle.dump_tallies.proofs.Lying.{Lies, lies-own}
use Rattle.dump_tallies.proofs.SumSteps.{few-up, none-few, none-own}
use Rattle.dump_tallies.proofs.disk_tally.DiskTally.own_totals.Goals as goal

pub loop-number-init : goal.loop-number-init
loop-number-init c = record {
  own = none-own c.args.self.now c.args.passed.now c.no_totals.result c.no_totals.ensures.value;
  few = none-few c.no_totals.result c.no_totals.ensures.value;
}

pub add_own-requires-clause-cylinder : goal.add_own-requires-clause-cylinder
add_own-requires-clause-cylinder c =
    let inside = c.self.inside in
    (subst (λ (d : TalliedDisk). Lies d.stepping c.track_id.result) c.self.view_is
    (lies-own inside.stepping inside.format c.tracks_keep_bounds.ensures.bounds c.self.invariant.3 c.loop-number.number c.track_id.result c.track_id.ensures.at c.track_id.ensures.track)).cylinder

pub add_own-requires-clause-head : goal.add_own-requires-clause-head
add_own-requires-clause-head c = (c.tracks_keep_bounds.ensures.bounds c.self.inside.format c.track_id.result c.track_id.ensures.track).head

pub add_own-requires-clause-few : goal.add_own-requires-clause-few
add_own-requires-clause-few c =
    let most = c.tracks_keep_bounds.ensures.few c.self.inside.format in
    let end = c.track_count-number-end.ensures in
    let low = c.loop-number-test.true in
    few-up c.loop-number.number 1000 c.loop-number.totals (omega (arith, most, end, low)) c.loop-number.invariant.few

pub loop-number-preserved : goal.loop-number-preserved
loop-number-preserved c =
    let n = c.loop-number.number in
    let track = c.track_id.result in
    let ts : List TrackId = tracks c.args.self.now.format in
    let at : slice_get ts n ≡ Some track = subst (λ (d : TalliedDisk). slice_get (tracks d.format) n ≡ Some track) c.self.view_is c.track_id.ensures.at in
    let low : n < length ts =
    (let end = c.track_count-number-end.ensures in let test = c.loop-number-test.true in
    subst (λ (d : TalliedDisk). n < length (tracks d.format)) c.self.view_is (omega (arith, end, test))) in
    let more : take n ts ++ track ∷ [] ≡ take (n + 1) ts =
    ap (λ (t : TrackId). take n ts ++ t ∷ []) (sym (get_or_from_slice_get ts n track track at)) ∙ sym (take_more ts n track low) in
    record {
      own = c.add_own.ensures.own (take n ts) c.loop-number.invariant.own ∙ ap (own_numbers c.args.self.now c.args.passed.now) more;
      few = c.add_own.ensures.few n c.loop-number.invariant.few;
    }

pub returns-clause-own : goal.returns-clause-own
returns-clause-own c =
    let n = c.loop-number.number in
    let all : length (tracks c.args.self.now.format) ≤ n =
    (let end = c.track_count-number-end.ensures in let past = c.loop-number-test.false in
    subst (λ (d : TalliedDisk). length (tracks d.format) ≤ n) c.self.view_is (omega (arith, end, past))) in
    c.loop-number.invariant.own ∙ ap (own_numbers c.args.self.now c.args.passed.now) (take_all n (tracks c.args.self.now.format) all)

pub returns-clause-few : goal.returns-clause-few
returns-clause-few c =
    let most = c.tracks_keep_bounds.ensures.few c.self.inside.format in
    let end = c.track_count-number-end.ensures in
    let low = c.loop-number.auto.number-end in
    few-up c.loop-number.number 1000 c.loop-number.totals (omega (arith, most, end, low)) c.loop-number.invariant.few

pub returns-clause-reached : goal.returns-clause-reached
returns-clause-reached c = subst (λ (d : TalliedDisk). reaches_all d.stepping d.format ≡ true) c.self.view_is c.self.invariant.3
