use Rattle.ibm_disks.specs.declared.rate.Rate.TheVariants.{Double, High, HighAt360, Single, SingleAt360}
use Rattle.dump_numbers.proofs.sets.note_sets.Goals as goal

pub returns-clause-noted : goal.returns-clause-noted
returns-clause-noted c Double heads = c.note_rate.ensures.noted heads
returns-clause-noted c High heads = rw c.note_rate.ensures.stream at c.note_rate-2.ensures.noted heads
returns-clause-noted c HighAt360 heads = rw c.note_rate.ensures.stream at rw c.note_rate-2.ensures.stream at c.note_rate-3.ensures.noted heads
returns-clause-noted c Single heads = rw c.note_rate.ensures.stream at rw c.note_rate-2.ensures.stream at rw c.note_rate-3.ensures.stream at c.note_rate-4.ensures.noted heads
returns-clause-noted c SingleAt360 heads =
    rw c.note_rate.ensures.stream at rw c.note_rate-2.ensures.stream at rw c.note_rate-3.ensures.stream at rw c.note_rate-4.ensures.stream at c.note_rate-5.ensures.noted heads

pub note_rate-requires : goal.note_rate-requires
note_rate-requires c = record { room = c.requires.room Double }

pub note_rate-requires-2 : goal.note_rate-requires-2
note_rate-requires-2 c = record { room = c.requires.room High }

pub note_rate-requires-3 : goal.note_rate-requires-3
note_rate-requires-3 c = record { room = c.requires.room HighAt360 }

pub note_rate-requires-4 : goal.note_rate-requires-4
note_rate-requires-4 c = record { room = c.requires.room Single }

pub note_rate-requires-5 : goal.note_rate-requires-5
note_rate-requires-5 c = record { room = c.requires.room SingleAt360 }
