use Rattle.std.proofs.Common.{◌≡◌, ◌+◌, ◌∙◌, suc, ℕ, ap, arith, refl, sym}
use Rattle.sector_images.specs.Places.{sectors_before}
use Rattle.sector_images.proofs.Computed.{few_before}
use Rattle.sector_images.proofs.places.sectors_before.Goals as goal

pub loop-before-init : goal.loop-before-init
unfolding sectors_before
loop-before-init c = refl

pub overflow_add-sectors : goal.overflow_add-sectors
unfolding sectors_before
overflow_add-sectors c =
    let few = few_before c.args.format (suc c.loop-before.before) (omega (arith, c.loop-before-test.true, c.requires)) in
    omega (arith, few, c.loop-before.invariant, c.from-sectors.ensures, c.zone.ensures.sectors)

pub loop-before-preserved : goal.loop-before-preserved
unfolding sectors_before
loop-before-preserved c =
    let e : c.loop-before.before + 1 ≡ suc c.loop-before.before = omega arith in
    ap (λ (n : ℕ). n + c.from-sectors.result) c.loop-before.invariant
    ∙ ap (λ (n : ℕ). sectors_before c.args.format c.loop-before.before + n) (c.from-sectors.ensures ∙ c.zone.ensures.sectors)
    ∙ ap (sectors_before c.args.format) (sym e)

pub returns-clause-few : goal.returns-clause-few
returns-clause-few c =
    let e : c.loop-before.before ≡ c.args.cylinder = omega (arith, c.loop-before-test.false, c.loop-before.auto.before-end) in
    let is = ap (sectors_before c.args.format) e in
    omega (arith, c.loop-before.invariant, is, few_before c.args.format c.args.cylinder c.requires)
