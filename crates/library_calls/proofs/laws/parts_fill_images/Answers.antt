use Rattle.library_calls.proofs.DiskParts.{parts_fit_images, parts_stand_at_their_places, whole_disks_fill_images}
use Rattle.library_calls.proofs.laws.parts_fill_images.Goals as goal

pub returns-clause-parts : goal.returns-clause-parts
returns-clause-parts c = parts_stand_at_their_places c.tracks_are_read.ensures c.tracks_fill_images.ensures.joined

pub returns-clause-whole : goal.returns-clause-whole
returns-clause-whole c = whole_disks_fill_images c.tracks_are_read.ensures c.tracks_fill_images.ensures.filled

pub returns-clause-fit : goal.returns-clause-fit
returns-clause-fit c = parts_fit_images c.tracks_are_read.ensures c.tracks_fill_images.ensures.filled
