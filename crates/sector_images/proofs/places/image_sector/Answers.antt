use Rattle.std.proofs.Common.{◌≡◌, ◌+◌, ◌∙◌, arith, sym, Some, None}
use Rattle.sector_images.specs.Formats.{row}
use Rattle.sector_images.proofs.Computed.{keep_bounds}
use Rattle.sector_images.proofs.Slots.{found_there, is_order, slot_by_number, slot_in_order}
use Rattle.sector_images.proofs.places.image_sector.Goals as goal

pub holder-requires : goal.holder-requires
holder-requires c =
    let order : (row c.args.format).order ≡ Some c.in-Some.order.now = sym (rw c.in-Some.is at c.geometry-geometry.ensures.order) in
    let is = is_order c.args.format c.in-Some.order.now c.args.track order in
    is.holder c.args.number (omega (arith, is.count, c.requires.number))

pub returns-in-Some-clause-first : goal.returns-in-Some-clause-first
returns-in-Some-clause-first c =
    let order : (row c.args.format).order ≡ Some c.in-Some.order.now = sym (rw c.in-Some.is at c.geometry-geometry.ensures.order) in
    let is = is_order c.args.format c.in-Some.order.now c.args.track order in
    found_there c.args.format c.args.track c.holder.result c.args.number
    (omega (arith, is.first), omega (arith, is.first, is.count, c.holder.ensures.within))
    (slot_in_order c.args.format c.in-Some.order.now c.holder.result order ∙ c.holder.ensures.holds)

pub returns-in-None-clause-first : goal.returns-in-None-clause-first
returns-in-None-clause-first c =
    let none : (row c.args.format).order ≡ None = sym (rw c.in-None.is at c.geometry-geometry.ensures.order) in
    rw c.geometry-geometry.ensures.first_sector
    (found_there c.args.format c.args.track ((row c.args.format).first_sector + c.args.number) c.args.number
    (omega arith, omega (arith, c.requires.number)) (slot_by_number c.args.format c.args.number none))

pub overflow_add-result : goal.overflow_add-result
overflow_add-result c =
    let keeps = keep_bounds c.args.format c.args.track c.requires.track in
    omega (arith, c.geometry-geometry.ensures.first_sector, keeps.numbers, c.requires.number)
