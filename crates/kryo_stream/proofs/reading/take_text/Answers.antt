use Rattle.std.proofs.Common.{subst, sym, Ok, Err}
use Rattle.kryo_stream.specs.declared.fault.StreamFault.TheVariants.{Truncated}
use Rattle.kryo_stream.specs.inside.Pieces.{IsText}
use Rattle.kryo_stream.proofs.Skipping.{at_hand, text_taken, text_cut, text_failed}
use Rattle.kryo_stream.proofs.Taking.{Took-nothing}
use Rattle.kryo_stream.proofs.reading.take_text.Goals as goal

pub returns-in-None-clause-takes : goal.returns-in-None-clause-takes
returns-in-None-clause-takes g c =
    at_hand c.args.before.now (Ok (Err Truncated)) c.requires.within (Took-nothing _ _) c.requires.bound (
      c.requires.truncated,
      λ _. c.requires.ended (λ size text. c.in-None.ensures.none size
          (subst (λ y. IsText c.args.before.now.offset y size) (sym c.bytes.ensures.value) text)),
    )

pub returns-in-Ok-Taken-clause-takes : goal.returns-in-Ok-Taken-clause-takes
returns-in-Ok-Taken-clause-takes g c =
    let skipped = rw c.in-Ok-Taken.field-0-is at c.in-Ok-Taken.ensures.skipped in
    text_taken c.args.before.now c.in-Some.size
    (subst (λ y. IsText c.args.before.now.offset y c.in-Some.size) c.bytes.ensures.value c.in-Some.ensures.text)
    skipped c.skip.ensures.bound

pub returns-in-Ok-End-clause-takes : goal.returns-in-Ok-End-clause-takes
returns-in-Ok-End-clause-takes g c =
    let skipped = rw c.in-Ok-End.field-0-is at c.in-Ok-End.ensures.skipped in
    text_cut c.args.before.now c.in-Some.size
    (subst (λ y. IsText c.args.before.now.offset y c.in-Some.size) c.bytes.ensures.value c.in-Some.ensures.text) skipped

pub returns-in-Err-clause-takes : goal.returns-in-Err-clause-takes
returns-in-Err-clause-takes g c =
    text_failed c.args.before.now c.in-Some.size c.in-Err.failed
    (subst (λ y. IsText c.args.before.now.offset y c.in-Some.size) c.bytes.ensures.value c.in-Some.ensures.text) c.in-Err.ensures.skipped
