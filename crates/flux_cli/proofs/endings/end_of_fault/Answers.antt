use Rattle.std.proofs.Common.{refl}
use Rattle.std.specs.Prelude.{[], get_or}
use Rattle.flux_cli.specs.EmptyText.{empty_text}
use Rattle.flux_cli.proofs.EndingLaws.{refused-as}
use Rattle.flux_cli.proofs.endings.end_of_fault.Goals as goal

pub returns-in-Refused : goal.returns-in-Refused
returns-in-Refused g c =
    rw (c.in-Refused.is, c.refused_by.ensures) (record {
      line = empty_text c.in-Refused.empty.dump (get_or c.args.dumps.now c.in-Refused.empty.dump []) c.kind_of.result;
      refuses = record { kind = c.kind_of.result; kind_is = rw c.word_at-word.ensures at c.kind_of.ensures; is = refl };
      ends = refused-as c.write_empty.result (rw c.word_at-word.ensures at c.write_empty.ensures);
    })
