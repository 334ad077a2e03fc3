use Rattle.std.proofs.Common.{◌≡◌, ◌≤◌, ◌<◌, length, vec_len, arith, sym, subst, ◌∙◌}
use Rattle.std.proofs.lemmas.Grind.{common_steps}
use Rattle.flux_base.specs.lemmas.Counting.{Counts-none, Counts-then}
use Rattle.dump_identity.specs.Candidates.{by_reading}
use Rattle.dump_tallies.specs.Tallies.{TalliedDisk}
use Rattle.dump_identity.proofs.Saying.{same-length}
use Rattle.dump_identity.proofs.Tellings.{told-all, told-cut, told-more, told-none}
use Rattle.dump_identity.proofs.identifying.tell_all.Goals as goal

pub loop-number-init : goal.loop-number-init
loop-number-init g c = record {
  told = λ dump told came known. told-none dump told came (g.W.Sink.written c.args.lines.now);
  counts = Counts-none _;
}

pub loop-number-preserved : goal.loop-number-preserved
loop-number-preserved g c =
    let at = c.loop-number in
    let whole : length c.args.tried.now.disks.items ≡ vec_len c.args.tried.now.disks = grind (arith, common_steps) in
    let low : at.number < length c.args.tried.now.disks.items = omega (arith, whole, c.len-number-end.ensures, c.loop-number-test.true) in
    record {
      told = λ dump told came known.
          told-more dump told came (g.W.Sink.written c.args.lines.now) (by_reading c.args.tried.now.passed.items c.args.tried.now.again.items) c.args.tried.now.disks.items c.args.tried.now.held.items known at.number low
          c.index.result.now c.index.ensures c.index-in-loop-number.result.now c.index-in-loop-number.ensures c.passed_for-passed.result.now c.passed_for-passed.ensures (g.W.Sink.written at.lines) at.best (at.invariant.told dump told came known) c.finding_of-finding.result
          c.finding_of-finding.ensures (g.W.Sink.written c.write_finding.new.lines) c.better_of-best.result c.in-Ok.ensures.ok c.better_of-best.ensures;
      counts = Counts-then _ at.invariant.counts c.in-Ok.ensures.counts;
    }

pub returns-clause-ok : goal.returns-clause-ok
returns-clause-ok g c =
    let whole : length c.args.tried.now.disks.items ≡ vec_len c.args.tried.now.disks = grind (arith, common_steps) in
    let past : length c.args.tried.now.disks.items ≤ c.loop-number.number = omega (arith, whole, c.len-number-end.ensures, c.loop-number-test.false) in
    λ dump told came known.
    told-all dump told came (g.W.Sink.written c.args.lines.now) c.args.tried.now.disks.items c.loop-number.number past
    (g.W.Sink.written c.loop-number.lines) c.loop-number.best (c.loop-number.invariant.told dump told came known)

pub returns-in-Err-clause-err : goal.returns-in-Err-clause-err
returns-in-Err-clause-err g c =
    let at = c.loop-number in
    let whole : length c.args.tried.now.disks.items ≡ vec_len c.args.tried.now.disks = grind (arith, common_steps) in
    let low : at.number < length c.args.tried.now.disks.items = omega (arith, whole, c.len-number-end.ensures, c.loop-number-test.true) in
    λ dump told came known.
    told-cut dump told came (g.W.Sink.written c.args.lines.now) (by_reading c.args.tried.now.passed.items c.args.tried.now.again.items) c.args.tried.now.disks.items c.args.tried.now.held.items known at.number low
    c.index.result.now c.index.ensures c.index-in-loop-number.result.now c.index-in-loop-number.ensures c.passed_for-passed.result.now c.passed_for-passed.ensures (g.W.Sink.written at.lines) at.best (at.invariant.told dump told came known) c.finding_of-finding.result
    c.finding_of-finding.ensures (g.W.Sink.written c.write_finding.new.lines) c.in-Err.ensures.err

pub returns-in-Err-clause-counts : goal.returns-in-Err-clause-counts
returns-in-Err-clause-counts g c = Counts-then _ c.loop-number.invariant.counts c.in-Err.ensures.counts

pub finding_of-finding-requires-clause-passed : goal.finding_of-finding-requires-clause-passed
finding_of-finding-requires-clause-passed g c =
    let whole : length c.args.tried.now.disks.items ≡ vec_len c.args.tried.now.disks = grind (arith, common_steps) in
    let low : c.loop-number.number < length c.args.tried.now.disks.items = omega (arith, whole, c.len-number-end.ensures, c.loop-number-test.true) in
    same-length c.passed_for-passed.ensures ∙ c.requires.noted.passed_many c.loop-number.number low

pub finding_of-finding-requires-clause-all : goal.finding_of-finding-requires-clause-all
finding_of-finding-requires-clause-all g c =
    let whole : length c.args.tried.now.disks.items ≡ vec_len c.args.tried.now.disks = grind (arith, common_steps) in
    let low : c.loop-number.number < length c.args.tried.now.disks.items = omega (arith, whole, c.len-number-end.ensures, c.loop-number-test.true) in
    subst (λ (d : TalliedDisk). length d.tallies ≡ 200) (sym c.index.ensures) (c.requires.noted.tallies_many c.loop-number.number _ low)
