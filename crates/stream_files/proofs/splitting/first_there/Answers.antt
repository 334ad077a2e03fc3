use Rattle.std.proofs.Common.{◌≡◌, ◌<◌, ◌≤◌, ◌+◌, ℕ, true, Some, arith, sym, subst, ap, ◌∙◌}
use Rattle.std.specs.Option.{is_some}
use Rattle.flux_base.specs.lemmas.Finding.{find-first, find-none}
use Rattle.track_shelf.specs.Files.{file_at, file_of}
use Rattle.stream_files.specs.Streams.{most_streams, stream_track}
use Rattle.stream_files.proofs.One.{more-missing, path-of}
use Rattle.stream_files.proofs.splitting.first_there.Goals as goal

pub returns-then-has_file-clause-first : goal.returns-then-has_file-clause-first
returns-then-has_file-clause-first g c told known =
    let there = c.has_file.ensures told known in
    let path = path-of c.args.folder.now c.as_str.result.now c.track.result c.args.heads c.loop-stream.stream (c.as_str.ensures.value ∙ c.file_name-name.ensures) c.track.ensures.value in
    let same : c.loop-stream.stream ≡ 0 + c.loop-stream.stream = omega arith in
    find-first (λ k. is_some (file_of told.files c.args.folder.now (stream_track c.args.heads k))) 0 c.loop-stream.stream (most_streams c.args.heads)
    (omega (arith, c.loop-stream-test.true, c.most_streams-stream-end.ensures))
    (c.loop-stream.invariant told known)
    (subst (λ (k : ℕ). is_some (file_of told.files c.args.folder.now (stream_track c.args.heads k)) ≡ true) same
    (sym (ap (λ p. is_some (file_at told.files p)) path) ∙ sym there ∙ c.if-has_file.true))
    ∙ ap Some (sym same)

pub loop-stream-preserved : goal.loop-stream-preserved
loop-stream-preserved g c told known =
    let there = c.has_file.ensures told known in
    let path = path-of c.args.folder.now c.as_str.result.now c.track.result c.args.heads c.loop-stream.stream (c.as_str.ensures.value ∙ c.file_name-name.ensures) c.track.ensures.value in
    more-missing told.files c.args.folder.now c.args.heads c.loop-stream.stream
    (sym (ap (λ p. is_some (file_at told.files p)) path) ∙ sym there ∙ c.if-has_file.false) (c.loop-stream.invariant told known)

pub returns-clause-first : goal.returns-clause-first
returns-clause-first g c told known =
    find-none (λ k. is_some (file_of told.files c.args.folder.now (stream_track c.args.heads k))) 0 (most_streams c.args.heads)
    (λ k above below. c.loop-stream.invariant told known k above (omega (arith, below, c.most_streams-stream-end.ensures)))
