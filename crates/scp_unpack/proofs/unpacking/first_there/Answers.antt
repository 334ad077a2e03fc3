use Rattle.std.proofs.Common.{◌≡◌, ◌+◌, ℕ, true, Some, arith, sym, subst, ap, ◌∙◌}
use Rattle.std.specs.Option.{is_some}
use Rattle.flux_base.specs.lemmas.Finding.{find-first, find-none}
use Rattle.track_shelf.specs.Files.{file_at, file_of}
use Rattle.scp_unpack.specs.Tracks.{track_of}
use Rattle.scp_unpack.proofs.Writing.{more-missing, path-of}
use Rattle.scp_unpack.proofs.unpacking.first_there.Goals as goal

pub returns-then-has_file-clause-first : goal.returns-then-has_file-clause-first
returns-then-has_file-clause-first g c told known =
    let there = c.has_file.ensures told known in
    let path = path-of c.args.folder.now c.as_str.result.now c.track_of.result c.loop-number.number (c.as_str.ensures.value ∙ c.file_name-name.ensures) c.track_of.ensures.value in
    let same : c.loop-number.number ≡ 0 + c.loop-number.number = omega arith in
    find-first (λ k. is_some (file_of told.files c.args.folder.now (track_of k))) 0 c.loop-number.number 168
    (omega (arith, c.loop-number-test.true))
    (c.loop-number.invariant told known)
    (subst (λ (k : ℕ). is_some (file_of told.files c.args.folder.now (track_of k)) ≡ true) same
    (sym (ap (λ p. is_some (file_at told.files p)) path) ∙ sym there ∙ c.if-has_file.true))
    ∙ ap Some (sym same)

pub loop-number-preserved : goal.loop-number-preserved
loop-number-preserved g c told known =
    let there = c.has_file.ensures told known in
    let path = path-of c.args.folder.now c.as_str.result.now c.track_of.result c.loop-number.number (c.as_str.ensures.value ∙ c.file_name-name.ensures) c.track_of.ensures.value in
    more-missing told.files c.args.folder.now c.loop-number.number
    (sym (ap (λ p. is_some (file_at told.files p)) path) ∙ sym there ∙ c.if-has_file.false) (c.loop-number.invariant told known)

pub returns-clause-first : goal.returns-clause-first
returns-clause-first g c told known =
    find-none (λ k. is_some (file_of told.files c.args.folder.now (track_of k))) 0 168
    (λ k above below. c.loop-number.invariant told known k above (omega (arith, below, c.loop-number-test.false)))
