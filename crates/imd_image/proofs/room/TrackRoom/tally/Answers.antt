use Rattle.imd_image.proofs.room.TrackRoom.tally.Goals as goal

pub count_rows-requires-clause-known : goal.count_rows-requires-clause-known
count_rows-requires-clause-known c = rw (c.as_slice-rows.ensures.value, c.book-book.ensures) c.requires.rows.known

pub count_rows-requires-2-clause-known : goal.count_rows-requires-2-clause-known
count_rows-requires-2-clause-known c = rw (c.as_slice-rows.ensures.value, c.book-book.ensures) c.requires.rows.known

pub count_rows-requires-3-clause-known : goal.count_rows-requires-3-clause-known
count_rows-requires-3-clause-known c = rw (c.as_slice-rows.ensures.value, c.book-book.ensures) c.requires.rows.known

pub count_rows-requires-4-clause-known : goal.count_rows-requires-4-clause-known
count_rows-requires-4-clause-known c = rw (c.as_slice-rows.ensures.value, c.book-book.ensures) c.requires.rows.known

pub has_other_cylinder-requires : goal.has_other_cylinder-requires
has_other_cylinder-requires c = rw (c.as_slice-rows.ensures.value, c.book-book.ensures) c.requires.rows.known
