use Rattle.std.proofs.Common.{◌≡◌, drop, take, refl, sym, ap, ◌∙◌, arith}
use Rattle.scp_files.specs.Tracks.{head_fault, head_size}
use Rattle.track_shelf.specs.Told.{ShelfTold}
use Rattle.scp_tracks.proofs.Heads.{none_some, read-is, refused-is, sized, some_same}
use Rattle.scp_tracks.proofs.track.read_track.Goals as goal

pub returns-in-Ok-None-clause-is : goal.returns-in-Ok-None-clause-is
returns-in-Ok-None-clause-is g c files file told at =
    absurd (none_some (sym c.in-Ok-None.field-0-is ∙ c.in-Ok-None.ensures.is files file told at))

pub returns-in-Ok-None-clause-absent : goal.returns-in-Ok-None-clause-absent
returns-in-Ok-None-clause-absent g c files told absent = (refl, refl)

pub read_revolutions-requires-clause-head : goal.read_revolutions-requires-clause-head
read_revolutions-requires-clause-head g c = sized c.args.place.revolutions c.args.place.number c.in-Ok-Some.head (sym c.in-None.ensures)

pub returns-in-Some-clause-is : goal.returns-in-Some-clause-is
returns-in-Some-clause-is g c files file told at =
    let track = drop c.args.place.offset file.bytes in
    let R = c.args.place.revolutions in
    let place : c.from-offset.result ≡ c.args.place.offset = omega (arith, c.from-offset.ensures) in
    let head : c.in-Ok-Some.head ≡ take (head_size R) track =
    some_same (sym c.in-Ok-Some.field-0-is ∙ c.in-Ok-Some.ensures.is files file told at) ∙ ap (λ n. take (head_size R) (drop n file.bytes)) place in
    let fault = sym ((c.begins_tell.ensures.tracks R track).fault c.args.place.number) ∙ ap (head_fault R c.args.place.number) (sym head) ∙ sym c.in-Some.ensures in
    refused-is c.args.place track c.args.capture.now c.in-Some.fault fault c.requires.begun

pub returns-in-Some-clause-absent : goal.returns-in-Some-clause-absent
returns-in-Some-clause-absent g c files told absent =
    absurd (none_some (sym (c.in-Ok-Some.ensures.absent files told absent) ∙ c.in-Ok-Some.field-0-is))

pub returns-in-None-clause-is : goal.returns-in-None-clause-is
returns-in-None-clause-is g c files file told at =
    let track = drop c.args.place.offset file.bytes in
    let R = c.args.place.revolutions in
    let place : c.from-offset.result ≡ c.args.place.offset = omega (arith, c.from-offset.ensures) in
    let head : c.in-Ok-Some.head ≡ take (head_size R) track =
    some_same (sym c.in-Ok-Some.field-0-is ∙ c.in-Ok-Some.ensures.is files file told at) ∙ ap (λ n. take (head_size R) (drop n file.bytes)) place in
    let none = sym ((c.begins_tell.ensures.tracks R track).fault c.args.place.number) ∙ ap (head_fault R c.args.place.number) (sym head) ∙ sym c.in-None.ensures in
    let same_files = ap (λ (t : ShelfTold). t.files) c.in-Ok-Some.ensures.told in
    read-is c.args.place track c.read_revolutions.new.capture c.read_revolutions.result none
    (c.read_revolutions.ensures.is files file (same_files ∙ told) at head)

pub returns-in-None-clause-absent : goal.returns-in-None-clause-absent
returns-in-None-clause-absent g c files told absent =
    absurd (none_some (sym (c.in-Ok-Some.ensures.absent files told absent) ∙ c.in-Ok-Some.field-0-is))
