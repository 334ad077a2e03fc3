use Rattle.std.proofs.Common.{◌≡◌, ℕ, ◌<◌, ◌≤◌, ap, length, subst, sym, ◌∙◌, IfNone, IfSome}
use Rattle.apple_gcr.specs.DiskBytes.{bytes_end, zeros_passed}
use Rattle.apple_gcr.specs.declared.disk_bytes.ByteRule.{ByteRule}
use Rattle.apple_gcr.specs.lemmas.ByteLaws.{strict-end}
use Rattle.apple_gcr.proofs.disk_bytes.bytes_end.Goals as goal

pub returns-in-Strict-clause-some : goal.returns-in-Strict-clause-some
returns-in-Strict-clause-some c =
    let same = ap (λ (r : ByteRule). bytes_end (zeros_passed r) c.args.frame.now c.args.from c.args.count) c.in-Strict.is
    ∙ strict-end c.args.frame.now c.args.from c.args.count in
    subst (λ (n : ℕ). IfSome c.end_within.result (λ end. (end ≡ n) × (end ≤ length c.args.frame.now))) (sym same) c.end_within.ensures.some

pub returns-in-Strict-clause-none : goal.returns-in-Strict-clause-none
returns-in-Strict-clause-none c =
    let same = ap (λ (r : ByteRule). bytes_end (zeros_passed r) c.args.frame.now c.args.from c.args.count) c.in-Strict.is
    ∙ strict-end c.args.frame.now c.args.from c.args.count in
    subst (λ (n : ℕ). IfNone c.end_within.result (length c.args.frame.now < n)) (sym same) c.end_within.ensures.none
