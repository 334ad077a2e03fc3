use Rattle.std.proofs.Common.{Bool, Some, None, sym, ap, ◌∙◌, if◌then◌else◌}
use Rattle.track_shelf.specs.declared.kind.DumpKind.TheVariants.{NotThere, AFile, NoFiles, OtherTracks, Named, RefusedScp, Unknown}
use Rattle.track_shelf.proofs.DumpKinds.{files-of, first-of, first-scp, kind-more}
use Rattle.track_shelf.proofs.kind.DumpKind.with_prefix.Goals as goal

pub returns-in-NotThere : goal.returns-in-NotThere
returns-in-NotThere c name names prefix kind = kind-more NotThere None name names (sym c.in_default.is ∙ prefix) (sym c.in-NotThere.is ∙ kind)

pub returns-in-AFile : goal.returns-in-AFile
returns-in-AFile c name names prefix kind = kind-more AFile None name names (sym c.in_default.is ∙ prefix) (sym c.in-AFile.is ∙ kind)

pub returns-in-NoFiles : goal.returns-in-NoFiles
returns-in-NoFiles c name names prefix kind = kind-more NoFiles None name names (sym c.in_default.is ∙ prefix) (sym c.in-NoFiles.is ∙ kind)

pub returns-in-OtherTracks : goal.returns-in-OtherTracks
returns-in-OtherTracks c name names prefix kind = kind-more OtherTracks None name names (sym c.in_default.is ∙ prefix) (sym c.in-OtherTracks.is ∙ kind)

pub returns-in-Unknown : goal.returns-in-Unknown
returns-in-Unknown c name names prefix kind = kind-more Unknown None name names (sym c.in_default.is ∙ prefix) (sym c.in-Unknown.is ∙ kind)

pub returns-in-Named : goal.returns-in-Named
returns-in-Named c name names prefix kind =
    kind-more (Named c.in-Named.first) None name names (sym c.in_default.is ∙ prefix) (sym c.in-Named.is ∙ kind)

pub returns-in-RefusedScp : goal.returns-in-RefusedScp
returns-in-RefusedScp c name names prefix kind =
    kind-more (RefusedScp c.in-RefusedScp.fault) None name names (sym c.in_default.is ∙ prefix) (sym c.in-RefusedScp.is ∙ kind)

pub returns-then-is_track : goal.returns-then-is_track
returns-then-is_track c name names prefix kind =
    sym (files-of c.in-Some.prefix c.args.self (sym c.is_track.ensures ∙ c.if-is_track.true)) ∙ kind-more c.args.self (Some c.in-Some.prefix) name names (sym c.in-Some.is ∙ prefix) kind

pub returns-in-OtherTracks-self : goal.returns-in-OtherTracks-self
returns-in-OtherTracks-self c name names prefix kind =
    kind-more OtherTracks (Some c.in-Some.prefix) name names (sym c.in-Some.is ∙ prefix) (sym c.in-OtherTracks-self.is ∙ kind)

pub returns-in-Named-self : goal.returns-in-Named-self
returns-in-Named-self c name names prefix kind =
    ap (λ (b : Bool). if b then OtherTracks else Named c.in-Named-self.earlier) (sym (sym c.is_track.ensures ∙ c.if-is_track.false))
    ∙ kind-more (Named c.in-Named-self.earlier) (Some c.in-Some.prefix) name names (sym c.in-Some.is ∙ prefix) (sym c.in-Named-self.is ∙ kind)

pub returns-in-NotThere-self : goal.returns-in-NotThere-self
returns-in-NotThere-self c name names prefix kind =
    sym (first-of c.in-Some.prefix c.args.self (sym c.is_track.ensures ∙ c.if-is_track.false) c.in-NotThere-self.is)
    ∙ kind-more c.args.self (Some c.in-Some.prefix) name names (sym c.in-Some.is ∙ prefix) kind

pub returns-in-RefusedScp-self : goal.returns-in-RefusedScp-self
returns-in-RefusedScp-self c name names prefix kind =
    sym (first-scp c.in-Some.prefix c.args.self (sym c.is_track.ensures ∙ c.if-is_track.false) c.in-RefusedScp-self.is)
    ∙ kind-more c.args.self (Some c.in-Some.prefix) name names (sym c.in-Some.is ∙ prefix) kind
