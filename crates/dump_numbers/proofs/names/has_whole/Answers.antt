use Rattle.dump_numbers.proofs.names.has_whole.Goals as goal

pub returns : goal.returns
returns c = rw c.recording_with_one-recording.ensures at c.has_data_of.ensures
