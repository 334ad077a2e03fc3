use Rattle.std.proofs.Common.{◌≤◌, ◌∷◌, [], length, length-append, map, arith, lit<, sym, ap, ◌∙◌}
use Rattle.std.proofs.lemmas.List.{take_all}
use Rattle.sector_images.specs.Places.{tracks}
use Rattle.track_shelf.specs.Files.{track_bytes}
use Rattle.track_shelf.specs.Memory.{bytes_at}
use Rattle.track_shelf.proofs.Finding.{AllThere-more, first-missing, none-missing, places-more}
use Rattle.track_shelf.proofs.memory.ahead.find_wanted.Goals as goal

pub push-requires : goal.push-requires
push-requires c =
    let few = c.tracks_keep_bounds.ensures.few c.args.format in
    let size = c.loop-number.invariant.1 in (
      lit< tt,
      omega (arith, few, size, c.loop-number-test.true),
    )

pub loop-number-preserved : goal.loop-number-preserved
loop-number-preserved c =
    let files = c.args.files.now in
    let folder = c.args.folder.now in
    let number = c.loop-number.number in
    let track = c.track_id.result in
    let place = c.in-Some.place in
    let places = c.loop-number.places.items in
    let found = sym c.place_of.ensures ∙ c.in-Some.is in
    let size = length-append places (place ∷ []) in (
      AllThere-more files folder (tracks c.args.format) number track place c.loop-number.invariant.0 c.track_id.ensures.at (rw c.in_folder-path.ensures at found),
      ap length c.push.ensures.items ∙ omega (arith, size, c.loop-number.invariant.1),
      ap (map (bytes_at files)) c.push.ensures.items
          ∙ places-more files folder (tracks c.args.format) number track places place c.track_id.ensures.at (rw c.in_folder-path.ensures at found) c.loop-number.invariant.2,
    )

pub returns-in-None-clause-missing : goal.returns-in-None-clause-missing
returns-in-None-clause-missing c =
    let none = sym c.place_of.ensures ∙ c.in-None.is in (
      first-missing c.args.files.now c.args.folder.now c.args.format c.loop-number.number c.track_id.result c.loop-number.invariant.0 c.track_id.ensures.at (rw c.in_folder-path.ensures at none),
      omega arith,
    )

pub returns-clause-found : goal.returns-clause-found
returns-clause-found c =
    let all : length (tracks c.args.format) ≤ c.loop-number.number = omega arith in (
      none-missing c.args.files.now c.args.folder.now c.args.format (λ k track below at. c.loop-number.invariant.0 k track (omega (arith, all, below)) at),
      c.loop-number.invariant.2 ∙ ap (map (track_bytes c.args.files.now c.args.folder.now)) (take_all c.loop-number.number (tracks c.args.format) all),
    )
