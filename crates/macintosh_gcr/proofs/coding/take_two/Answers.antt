use Rattle.std.proofs.Common.{◌%◌, ◌++◌, ◌∷◌, [], ◌∙◌, ℕ, List, ap, append_assoc, arith, get_or}
use Rattle.macintosh_gcr.proofs.Groups.{last-read}
use Rattle.macintosh_gcr.proofs.coding.take_two.Goals as goal

pub returns : goal.returns
returns c =
    let values = c.args.values.now in
    let first = c.stored_first-first.result in
    let second = c.stored_second-second.result in
    let old = c.args.plain.now.items in
    record {
      first = first;
      second = second;
      spare = get_or values 696 0 % 4;
      spare_fits = omega arith;
      fit = (c.stored_first-first.ensures.fits, c.stored_second-second.ensures.fits);
      bytes = c.push-2.ensures.items ∙ ap (λ (some : List ℕ). some ++ second ∷ []) c.push.ensures.items ∙ append_assoc old (first ∷ []) (second ∷ []);
      sums_are = c.after_two.ensures;
      values_are = last-read values c.args.sums first second c.requires.fit c.requires.size c.stored_first-first.ensures.stored
          c.stored_second-second.ensures.stored;
    }
