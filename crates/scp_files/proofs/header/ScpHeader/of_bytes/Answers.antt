use Rattle.std.proofs.Common.{ap, take, ◌∙◌}
use Rattle.std.proofs.lemmas.List.{take_min}
use Rattle.scp_files.proofs.header.ScpHeader.of_bytes.Goals as goal

pub returns : goal.returns
returns c =
    let copied = c.copy_front-filled.ensures in
    copied.front ∙ ap (λ n. take n c.args.file.now) copied.count ∙ take_min 688 c.args.file.now
