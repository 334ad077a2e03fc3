use Rattle.std.proofs.Common.{sym}
use Rattle.std.specs.Option.{option_map}
use Rattle.flux_words.specs.Asked.{asked_of}
use Rattle.flux_words.proofs.CommandWords.{by-no-verb}
use Rattle.flux_words.proofs.commands.command_of.Goals as goal

pub returns-in-None : goal.returns-in-None
returns-in-None c =
    by-no-verb c.args.words.now c.bytes.result.now c.bytes-in-None.result.now c.in-Some.first.now c.in-Some.others.now (option_map asked_of c.command_dashed.result)
    c.in-Some.ensures.cases.0 c.bytes.ensures c.bytes-in-None.ensures (sym c.in-None.ensures) c.command_dashed.ensures
