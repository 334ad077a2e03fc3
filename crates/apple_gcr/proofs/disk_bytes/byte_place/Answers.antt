use Rattle.std.proofs.Common.{ℕ, ◌+◌, take, ap, sym, ◌∙◌}
use Rattle.cell_bits.specs.Word.{word_cells}
use Rattle.apple_gcr.specs.DiskBytes.{byte_place, zeros_first, zeros_passed}
use Rattle.apple_gcr.specs.declared.disk_bytes.ByteRule.{ByteRule}
use Rattle.apple_gcr.specs.lemmas.ByteLaws.{strict-place}
use Rattle.apple_gcr.proofs.DiskZeros.{zeros_there}
use Rattle.apple_gcr.proofs.disk_bytes.byte_place.Goals as goal

pub returns-in-Strict-clause-place : goal.returns-in-Strict-clause-place
returns-in-Strict-clause-place c =
    sym (ap (λ (r : ByteRule). byte_place (zeros_passed r) c.args.frame.now c.args.from) c.in-Strict.is ∙ strict-place c.args.frame.now c.args.from)

pub returns-in-Controller-clause-place : goal.returns-in-Controller-clause-place
returns-in-Controller-clause-place c =
    ap (λ (n : ℕ). c.args.from + n) c.zeros_before_one.ensures.zeros
    ∙ ap (λ (byte : ℕ). c.args.from + zeros_first (take 7 (word_cells 8 byte))) c.disk_byte_at.ensures
    ∙ sym (ap (λ (r : ByteRule). byte_place (zeros_passed r) c.args.frame.now c.args.from) c.in-Controller.is
    ∙ zeros_there c.args.frame.now c.args.from c.requires.within)
