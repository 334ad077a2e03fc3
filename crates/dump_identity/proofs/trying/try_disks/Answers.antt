use Rattle.std.proofs.Common.{◌≡◌, ◌≤◌, ◌++◌, All, true, [], drop, length, take, vec_len, sym, arith, subst, ◌∙◌}
use Rattle.std.proofs.lemmas.Grind.{common_steps}
use Rattle.std.proofs.lemmas.List.{length-map}
use Rattle.sector_images.specs.declared.format.Format.TheVariants.{Numbered}
use Rattle.track_shelf.specs.Stepping.{reaches_all}
use Rattle.told_disks.specs.declared.disks.NumberedDisk.{NumberedDisk}
use Rattle.dump_reading.specs.Files.{shelf_at}
use Rattle.dump_tallies.specs.Tallies.{TalliedDisk}
use Rattle.dump_identity.specs.Candidates.{candidates}
use Rattle.dump_identity.specs.Trials.{trial_of}
use Rattle.dump_identity.proofs.Saying.{have-tried, named-many, over-many, over-pushed, pushed-many, same-length, told-fresh, trials-fresh}
use Rattle.dump_identity.proofs.trying.try_disks.Goals as goal

pub read_files-requires-clause-fresh : goal.read_files-requires-clause-fresh
read_files-requires-clause-fresh g c = subst (All (λ (d : TalliedDisk). d.tallies ≡ [])) (sym (c.deref_mut.ensures.value ∙ c.room.invariant.0)) (trials-fresh candidates)

pub push_numbered-requires-clause-few : goal.push_numbered-requires-clause-few
push_numbered-requires-clause-few g c = omega (arith, same-length c.deref.ensures.value, c.find_disks-found.ensures.few, c.room.invariant.2)

pub push_numbered-requires-clause-room : goal.push_numbered-requires-clause-room
push_numbered-requires-clause-room g c =
    omega (
      arith,
      over-many c.deref_mut.result.now c.read_files.new.disks (drop (length c.read_files.new.disks) c.room.inside.disks.items) c.room.inside.disks.items c.room.inside.disks.len
          c.read_files.ensures.1.noted.same c.deref_mut.ensures.len c.deref_mut.ensures.value,
      same-length c.deref.ensures.value,
      c.find_disks-found.ensures.few,
      c.room.invariant.1,
    )

pub push_numbered-requires-clause-reached : goal.push_numbered-requires-clause-reached
push_numbered-requires-clause-reached g c =
    subst (All (λ (d : NumberedDisk). reaches_all d.stepping (Numbered d.disk) ≡ true)) (sym c.deref.ensures.value) c.find_disks-found.ensures.reached

pub find_files-requires-clause-room : goal.find_files-requires-clause-room
find_files-requires-clause-room g c =
    omega (
      arith,
      over-many c.deref_mut.result.now c.read_files.new.disks (drop (length c.read_files.new.disks) c.room.inside.disks.items) c.room.inside.disks.items c.room.inside.disks.len
          c.read_files.ensures.1.noted.same c.deref_mut.ensures.len c.deref_mut.ensures.value,
      same-length c.deref-2.ensures.value,
      pushed-many (take c.room.inside.disks.len (c.read_files.new.disks ++ drop (length c.read_files.new.disks) c.room.inside.disks.items)) c.push_numbered.new.disks.items c.deref.result.now
          c.push_numbered.ensures,
      same-length c.deref.ensures.value,
      c.find_disks-found.ensures.few,
      c.room.invariant.4,
    )

pub read_again-requires-clause-place : goal.read_again-requires-clause-place
read_again-requires-clause-place g c =
    let whole : length c.room.inside.disks.items ≡ vec_len c.room.inside.disks = grind (arith, common_steps) in
    omega (
      arith,
      over-many c.deref_mut.result.now c.read_files.new.disks (drop (length c.read_files.new.disks) c.room.inside.disks.items) c.room.inside.disks.items c.room.inside.disks.len
          c.read_files.ensures.1.noted.same c.deref_mut.ensures.len c.deref_mut.ensures.value,
      same-length c.deref_mut-2.ensures.value,
      pushed-many (take c.room.inside.disks.len (c.read_files.new.disks ++ drop (length c.read_files.new.disks) c.room.inside.disks.items)) c.push_numbered.new.disks.items c.deref.result.now
          c.push_numbered.ensures,
      whole,
      c.len-named.ensures,
    )

pub read_again-requires-clause-fresh : goal.read_again-requires-clause-fresh
read_again-requires-clause-fresh g c =
    let whole : length c.room.inside.disks.items ≡ vec_len c.room.inside.disks = grind (arith, common_steps) in
    let many : length c.room.inside.disks.items ≡ length candidates = same-length c.room.invariant.0 ∙ length-map candidates trial_of in
    let place : c.len-named.result ≡ length candidates = omega (arith, whole, many, c.len-named.ensures) in
    let same = c.read_files.ensures.1.noted.same in
    told-fresh c.deref.result.now c.read_files.new.disks c.deref_mut-2.result.now c.len-named.result
    (c.deref_mut-2.ensures.value
    ∙ over-pushed c.deref_mut.result.now c.read_files.new.disks (drop (length c.read_files.new.disks) c.room.inside.disks.items) c.push_numbered.new.disks.items c.room.inside.disks.len
    c.deref.result.now same c.deref_mut.ensures.len c.push_numbered.ensures)
    (place ∙ sym (named-many c.deref_mut.result.now c.read_files.new.disks same (c.deref_mut.ensures.value ∙ c.room.invariant.0)))

pub returns-clause-named : goal.returns-clause-named
returns-clause-named g c =
    let whole : length c.room.inside.disks.items ≡ vec_len c.room.inside.disks = grind (arith, common_steps) in
    let many : length c.room.inside.disks.items ≡ length candidates = same-length c.room.invariant.0 ∙ length-map candidates trial_of in
    omega (arith, whole, many, c.len-named.ensures)

pub returns-clause-tried : goal.returns-clause-tried
returns-clause-tried g c =
    let whole : length c.room.inside.disks.items ≡ vec_len c.room.inside.disks = grind (arith, common_steps) in
    let many : length c.room.inside.disks.items ≡ length candidates = same-length c.room.invariant.0 ∙ length-map candidates trial_of in
    let place : c.len-named.result ≡ length candidates = omega (arith, whole, many, c.len-named.ensures) in
    let read = c.read_files.ensures.1 in
    let all_came = read.many in
    have-tried c.args.dump.now (shelf_at g.H.Source g.H.Shelf c.args.shelf.now) (shelf_at g.H.Source g.H.Shelf c.read_files.new.shelf) (shelf_at g.H.Source g.H.Shelf c.read_again.new.shelf)
    c.find_disks-found.result c.deref_mut.result.now c.read_files.new.disks c.read_files.new.passed.items c.read_files.ensures.0 read
    (c.find_disks-found.ensures.finds c.read_files.ensures.0 (omega (arith, all_came)) c.read_files.ensures.2) (c.deref_mut.ensures.value ∙ c.room.invariant.0)
    c.deref.result.now c.deref.ensures.value c.deref_mut-2.result.now
    (c.deref_mut-2.ensures.value
    ∙ over-pushed c.deref_mut.result.now c.read_files.new.disks (drop (length c.read_files.new.disks) c.room.inside.disks.items) c.push_numbered.new.disks.items c.room.inside.disks.len
    c.deref.result.now read.noted.same c.deref_mut.ensures.len c.push_numbered.ensures)
    c.len-named.result place c.read_again.new.disks c.read_again.new.passed.items c.read_again.ensures
    c.find_files.new.held.items c.deref-2.result.now (c.deref-2.ensures.value ∙ sym c.deref_mut-2.ensures.value) c.find_files.ensures _ _ c.deref_mut-2.ensures.len
