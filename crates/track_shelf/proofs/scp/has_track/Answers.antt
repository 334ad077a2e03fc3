use Rattle.std.proofs.Common.{◌≡◌, Bool, List, ℕ, Option, Some, None, Result, Ok, refl, sym, ap, ◌∙◌, if◌then◌else◌}
use Rattle.std.specs.Option.{is_some, option_map}
use Rattle.scp_files.specs.declared.fault.ScpTrackFault.{ScpTrackFault}
use Rattle.track_shelf.specs.Files.{File, file_at, has_path, scp_track_in}
use Rattle.track_shelf.specs.Names.{path_text}
use Rattle.track_shelf.proofs.Finding.{is_some-place}
use Rattle.track_shelf.proofs.scp.has_track.Goals as goal

abbrev whole : File → Result (List ℕ) ScpTrackFault
whole file = Ok file.bytes

there : (o : Option File) → is_some o ≡ is_some (option_map (λ (file : File). whole file) o)
there None = refl
there (Some file) = refl

pub returns-else-is_scp : goal.returns-else-is_scp
returns-else-is_scp c =
    let files = c.args.files.now in
    let dump = c.args.dump.now in
    let track = c.args.track in
    let at = file_at files (path_text dump track) in
    c.is_some.ensures
    ∙ ap is_some c.place_of.ensures
    ∙ is_some-place (has_path c.of_dump.result) 0 files
    ∙ ap (λ (path : List ℕ). is_some (file_at files path)) c.of_dump.ensures
    ∙ there at
    ∙ sym (ap (λ (b : Bool). is_some (if b then scp_track_in (file_at files dump) track else option_map (λ (file : File). whole file) at))
    (sym c.is_scp.ensures ∙ c.if-is_scp.false))
