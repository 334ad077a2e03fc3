use Rattle.std.proofs.Common.{◌≡◌, false, length, nat_le, arith}
use Rattle.std.proofs.lemmas.Bool.Decides.{nat_tests}
use Rattle.flux_base.specs.lemmas.Parts.{Puts-then}
use Rattle.flux_cli.specs.EmptyText.{told_path}
use Rattle.flux_cli.proofs.empty.write_path.Goals as goal

pub returns-in-Ok : goal.returns-in-Ok
unfolding told_path
returns-in-Ok g c =
    let long : nat_le (length c.args.path.now) 100 ≡ false = grind (arith, nat_tests, c.if-path-le-MOST_TOLD.false) in
    rw long (Puts-then c.write_whole-in-Ok.result (rw c.as_bytes.ensures.value at c.in-Ok.ensures) (rw c.split_at.ensures.back at c.write_whole-in-Ok.ensures))
