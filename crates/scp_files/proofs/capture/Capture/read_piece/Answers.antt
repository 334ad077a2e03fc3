use Rattle.std.proofs.Common.{◌-◌, ℕ, arith}
use Rattle.scp_files.proofs.Noting.{length-words}
use Rattle.scp_files.proofs.capture.Capture.read_piece.Goals as goal

pub note-requires : goal.note-requires
note-requires g c =
    let left : ℕ = 4194304 - c.args.self.now.entries in
    let few = length-words left c.fill.new.buffer (omega (arith, c.requires.few, c.fill.ensures.len)) in
    omega (arith, few, c.requires.few)
