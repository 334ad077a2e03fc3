use Rattle.test_base.proofs.tests.records.write_chosen.Goals as goal

pub write_record-requires-clause-known : goal.write_record-requires-clause-known
write_record-requires-clause-known c =
    rw c.as_slice.ensures.value (λ row there. ((c.fill_rows.ensures.each row).0 there).0)
