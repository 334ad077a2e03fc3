use Rattle.std.proofs.Common.{ap, arith}
use Rattle.flux_engine.specs.Recordings.{cells_of}
use Rattle.ibm_disks.specs.declared.disk.IbmDisk.{IbmDisk}
use Rattle.ibm_disks.specs.declared.sector_size.SectorSize.TheVariants.{Bytes128}
use Rattle.sector_images.specs.declared.format.Format.TheVariants.{Numbered}
use Rattle.told_disks.specs.declared.heads.NamedHeads.TheVariants.{Changed, First, Own}
use Rattle.dump_numbers.specs.inside.Headed.{names_at}
use Rattle.dump_numbers.proofs.Noting.{set_none, set_read}
use Rattle.dump_numbers.proofs.OneSector.{disk_is}
use Rattle.dump_numbers.proofs.heads.stream_names.Goals as goal

pub read_cells-read-requires : goal.read_cells-read-requires
read_cells-read-requires c =
    let is = disk_is c.args.rate Bytes128 in
    let cylinders = is.cylinders in
    let heads = is.heads in
    record { track = rw c.disk_with_one.ensures (omega (arith, cylinders), omega (arith, heads)) }

pub returns-in-Some-clause-sets : goal.returns-in-Some-clause-sets
returns-in-Some-clause-sets c = λ heads.
    let here = c.args.stream.now in
    let read = c.in-Some.ensures.read in
    set_read heads c.args.rate here c.args.own (names_at c.in-Some.names heads)
    (cells_of (Numbered c.disk_with_one.result) (record { cylinder = 0; head = 0 }) here.times here.indexes) read.0
    (ap (λ (d : IbmDisk). cells_of (Numbered d) (record { cylinder = 0; head = 0 }) here.times here.indexes) c.disk_with_one.ensures)
    (read.1.full heads) (read.1.has_name heads)

pub returns-in-None-clause-sets : goal.returns-in-None-clause-sets
returns-in-None-clause-sets c Own =
    set_none Own c.args.rate c.args.stream.now c.args.own c.empty.result c.in-None.ensures.passed.0 c.in-None.ensures.passed.1 c.empty.ensures.full c.empty.ensures.has
returns-in-None-clause-sets c First =
    set_none First c.args.rate c.args.stream.now c.args.own c.empty-in-None.result c.in-None.ensures.passed.0 c.in-None.ensures.passed.1 c.empty-in-None.ensures.full c.empty-in-None.ensures.has
returns-in-None-clause-sets c Changed =
    set_none Changed c.args.rate c.args.stream.now c.args.own c.empty-in-None-2.result c.in-None.ensures.passed.0 c.in-None.ensures.passed.1 c.empty-in-None-2.ensures.full c.empty-in-None-2.ensures.has
