use Rattle.imd_image.proofs.telling.write_found.Goals as goal

pub write_record-requires-clause-known : goal.write_record-requires-clause-known
write_record-requires-clause-known g c = rw (c.as_slice.ensures.value, c.book-book.ensures) c.requires.known.known
