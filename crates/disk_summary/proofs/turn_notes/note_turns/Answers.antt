use Rattle.std.proofs.Common.{◌+◌, ◌++◌, ◌||◌, Bool, refl, sym, ap, arith, subst}
use Rattle.flux_base.specs.World.{sink_at}
use Rattle.flux_base.specs.lemmas.Counting.{Counts-then}
use Rattle.dump_reading.specs.Files.{shelf_at}
use Rattle.disk_summary.proofs.TurnNotes.{WroteNoted, are-more, part-more, wrote-more, wrote-none}
use Rattle.disk_summary.proofs.turn_notes.note_turns.Goals as goal

pub loop-number-init : goal.loop-number-init
loop-number-init g c = wrote-none c.args.dumps.now (shelf_at g.H.Source g.H.Shelf c.args.shelf.now) (sink_at g.N.Sink c.args.notes.now)

pub loop-number-preserved : goal.loop-number-preserved
loop-number-preserved g c =
    let n = c.loop-number.number in
    let one = c.in-Ok.ensures in
    let start = shelf_at g.H.Source g.H.Shelf c.args.shelf.now in
    let mid = shelf_at g.H.Source g.H.Shelf c.loop-number.shelf in
    let now = shelf_at g.H.Source g.H.Shelf c.note_dump.new.shelf in
    let before = sink_at g.N.Sink c.args.notes.now in
    let between = sink_at g.N.Sink c.loop-number.notes in
    let after = sink_at g.N.Sink c.note_dump.new.notes in
    subst (λ (lost : Bool). WroteNoted c.args.dumps.now (n + 1) start now before after lost) (ap (λ (b : Bool). c.loop-number.failed || b) (sym one.tells))
    (wrote-more c.args.dumps.now start before n mid now between after c.loop-number.failed c.loop-number.invariant c.index-dumps-number.result c.index-dumps-number.is (omega arith) one.noted one.failed one.is one.puts.ok
    one.puts.counts)

pub returns-in-Err : goal.returns-in-Err
returns-in-Err g c =
    let n = c.loop-number.number in
    let one = c.in-Err.ensures in
    let so_far = c.loop-number.invariant in
    let dumps = c.args.dumps.now in
    let start = shelf_at g.H.Source g.H.Shelf c.args.shelf.now in
    let mid = shelf_at g.H.Source g.H.Shelf c.loop-number.shelf in
    let now = shelf_at g.H.Source g.H.Shelf c.note_dump.new.shelf in
    let before = sink_at g.N.Sink c.args.notes.now in
    let between = sink_at g.N.Sink c.loop-number.notes in
    let after = sink_at g.N.Sink c.note_dump.new.notes in
    let dump = c.index-dumps-number.result in
    let dump_is = c.index-dumps-number.is in record {
      noted = record {
        many = n + 1;
        within = omega arith;
        noted = so_far.noted ++ one.noted;
        failed = c.loop-number.failed || one.failed;
        are = are-more dumps start before n mid now between after c.loop-number.failed so_far dump dump_is (omega arith) one.noted one.failed one.is;
        puts = record {
          ok = tt;
          err = part-more dumps start before n mid now between after c.loop-number.failed so_far dump dump_is (omega arith) one.noted one.failed one.is one.puts.err;
          counts = Counts-then _ so_far.counts one.puts.counts;
        };
        all = tt;
      };
    }

pub returns : goal.returns
returns g c =
    let so_far = c.loop-number.invariant in record {
      noted = record {
        many = c.loop-number.number;
        within = omega arith;
        noted = so_far.noted;
        failed = c.loop-number.failed;
        are = so_far.are;
        puts = record { ok = so_far.grew; err = tt; counts = so_far.counts };
        all = (refl, omega arith);
      };
    }
