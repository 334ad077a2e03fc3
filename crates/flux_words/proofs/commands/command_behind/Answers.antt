use Rattle.std.proofs.Common.{subst, sym}
use Rattle.std.specs.Option.{option_map}
use Rattle.flux_help.specs.declared.verb.Verb.{Verb}
use Rattle.flux_words.specs.Asked.{asked_of}
use Rattle.flux_words.specs.inside.CommandWords.{AskBehind}
use Rattle.flux_words.proofs.commands.command_behind.Goals as goal

pub returns-in-Rescue : goal.returns-in-Rescue
returns-in-Rescue c =
    subst (λ (verb : Verb). AskBehind verb c.args.others.now (option_map asked_of c.streams_behind.result)) (sym c.in-Rescue.is) c.streams_behind.ensures

pub returns-in-Decode : goal.returns-in-Decode
returns-in-Decode c =
    subst (λ (verb : Verb). AskBehind verb c.args.others.now (option_map asked_of c.streams_behind-in-Decode.result)) (sym c.in-Decode.is) c.streams_behind-in-Decode.ensures

pub returns-in-Report : goal.returns-in-Report
returns-in-Report c =
    subst (λ (verb : Verb). AskBehind verb c.args.others.now (option_map asked_of c.streams_behind-in-Report.result)) (sym c.in-Report.is) c.streams_behind-in-Report.ensures

pub returns-in-Map : goal.returns-in-Map
returns-in-Map c =
    subst (λ (verb : Verb). AskBehind verb c.args.others.now (option_map asked_of c.streams_behind-in-Map.result)) (sym c.in-Map.is) c.streams_behind-in-Map.ensures
