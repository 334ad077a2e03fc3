use Rattle.std.proofs.Common.{Some, refl, nat_lt}
use Rattle.disk_summary.specs.Turns.{notes_of_turns}
use Rattle.disk_summary.proofs.turn_notes.note_dump.Goals as goal

pub write_uneven-requires-clause-reach : goal.write_uneven-requires-clause-reach
write_uneven-requires-clause-reach g c = c.in-Some.ensures.says.all.found.bounded

pub write_uneven-requires-clause-all : goal.write_uneven-requires-clause-all
write_uneven-requires-clause-all g c = c.in-Some.ensures.says.all.all

pub returns-in-Ok : goal.returns-in-Ok
returns-in-Ok g c =
    let turns = c.in-Some.turns in
    let founds = c.measure_turns.new.room in record {
      noted = notes_of_turns c.args.number turns founds;
      failed = nat_lt 0 turns.totals.failed;
      is = record { turns = Some turns; founds = founds; measured = c.in-Some.ensures.says; noted_are = refl; failed_is = refl };
      puts = record { ok = c.in-Ok.ensures.ok; err = tt; counts = c.in-Ok.ensures.counts };
      tells = refl;
    }

pub returns-in-Err : goal.returns-in-Err
returns-in-Err g c =
    let turns = c.in-Some.turns in
    let founds = c.measure_turns.new.room in record {
      noted = notes_of_turns c.args.number turns founds;
      failed = nat_lt 0 turns.totals.failed;
      is = record { turns = Some turns; founds = founds; measured = c.in-Some.ensures.says; noted_are = refl; failed_is = refl };
      puts = record { ok = tt; err = c.in-Err.ensures.err; counts = c.in-Err.ensures.counts };
      tells = tt;
    }
