use Rattle.std.proofs.Common.{Ok, Err}
use Rattle.flux_base.specs.lemmas.Counting.{Counts-then}
use Rattle.kryo_stream.specs.declared.fault.StreamFault.TheVariants.{Truncated}
use Rattle.kryo_stream.specs.declared.fault.TrackFault.TheVariants.{Refused}
use Rattle.kryo_stream.proofs.Answering.{IsRead-told, IsRead-fault}
use Rattle.kryo_stream.proofs.Taking.{reads_needed}
use Rattle.kryo_stream.proofs.Unpadding.{taken_behind, IsRead-behind, IsRead-padding, IsRead-cut_padding}
use Rattle.kryo_stream.proofs.reading.read_track.Goals as goal

pub returns-in-Ok-End-clause-read : goal.returns-in-Ok-End-clause-read
returns-in-Ok-End-clause-read g c =
    let unpadded = rw c.in-Ok-End.field-0-is at c.in-Ok-End.ensures.unpadded in
    IsRead-padding c.clear.new.self unpadded

pub returns-in-Ok-End-clause-told : goal.returns-in-Ok-End-clause-told
returns-in-Ok-End-clause-told g c = λ bytes told.
    let unpadded = rw c.in-Ok-End.field-0-is at c.in-Ok-End.ensures.unpadded in
    IsRead-told c.clear.new.self (Err (Refused 0 Truncated)) bytes (IsRead-padding c.clear.new.self unpadded) told

pub returns-in-Err-clause-read : goal.returns-in-Err-clause-read
returns-in-Err-clause-read g c = IsRead-cut_padding c.clear.new.self c.in-Err.field-0 c.in-Err.ensures.unpadded

pub returns-in-Ok-clause-read : goal.returns-in-Ok-clause-read
returns-in-Ok-clause-read g c =
    let unpadded = rw c.in-Ok-Taken.field-0-is at c.in-Ok-Taken.ensures.unpadded in
    IsRead-behind c.read_stream.new.flux (Ok tt) unpadded c.in-Ok.ensures.read

pub returns-in-Ok-clause-told : goal.returns-in-Ok-clause-told
returns-in-Ok-clause-told g c = λ bytes told.
    let unpadded = rw c.in-Ok-Taken.field-0-is at c.in-Ok-Taken.ensures.unpadded in
    IsRead-told c.read_stream.new.flux (Ok tt) bytes (IsRead-behind c.read_stream.new.flux (Ok tt) unpadded c.in-Ok.ensures.read) told

pub returns-in-Err-read_stream-clause-read : goal.returns-in-Err-read_stream-clause-read
returns-in-Err-read_stream-clause-read g c =
    let unpadded = rw c.in-Ok-Taken.field-0-is at c.in-Ok-Taken.ensures.unpadded in
    IsRead-fault c.read_stream.new.flux c.clear-in-Err-read_stream.new.self c.in-Err-read_stream.fault
    (IsRead-behind c.read_stream.new.flux (Err c.in-Err-read_stream.fault) unpadded c.in-Err-read_stream.ensures.read)

pub returns-in-Err-read_stream-clause-told : goal.returns-in-Err-read_stream-clause-told
returns-in-Err-read_stream-clause-told g c = λ bytes told.
    let unpadded = rw c.in-Ok-Taken.field-0-is at c.in-Ok-Taken.ensures.unpadded in
    IsRead-told c.clear-in-Err-read_stream.new.self (Err c.in-Err-read_stream.fault) bytes
    (IsRead-fault c.read_stream.new.flux c.clear-in-Err-read_stream.new.self c.in-Err-read_stream.fault
    (IsRead-behind c.read_stream.new.flux (Err c.in-Err-read_stream.fault) unpadded c.in-Err-read_stream.ensures.read)) told

pub returns-in-Ok-End-clause-needed : goal.returns-in-Ok-End-clause-needed
returns-in-Ok-End-clause-needed g c = reads_needed c.in-Ok-End.ensures.unpadded.takes

pub returns-in-Err-clause-needed : goal.returns-in-Err-clause-needed
returns-in-Err-clause-needed g c = reads_needed c.in-Err.ensures.unpadded.takes

pub returns-in-Ok-clause-needed : goal.returns-in-Ok-clause-needed
returns-in-Ok-clause-needed g c =
    let unpadded = rw c.in-Ok-Taken.field-0-is at c.in-Ok-Taken.ensures.unpadded in
    taken_behind unpadded c.read_stream.ensures.takes.1

pub returns-in-Err-read_stream-clause-needed : goal.returns-in-Err-read_stream-clause-needed
returns-in-Err-read_stream-clause-needed g c =
    let unpadded = rw c.in-Ok-Taken.field-0-is at c.in-Ok-Taken.ensures.unpadded in
    taken_behind unpadded c.read_stream.ensures.takes.1

pub returns-in-Ok-clause-counts : goal.returns-in-Ok-clause-counts
returns-in-Ok-clause-counts g c = Counts-then _ c.in-Ok-Taken.ensures.counts c.in-Ok.ensures.counts

pub returns-in-Err-read_stream-clause-counts : goal.returns-in-Err-read_stream-clause-counts
returns-in-Err-read_stream-clause-counts g c = Counts-then _ c.in-Ok-Taken.ensures.counts c.in-Err-read_stream.ensures.counts

pub returns-in-Err-read_stream-clause-cause : goal.returns-in-Err-read_stream-clause-cause
returns-in-Err-read_stream-clause-cause g c = (Counts-then _ c.in-Ok-Taken.ensures.counts c.in-Err-read_stream.ensures.counts).cause
