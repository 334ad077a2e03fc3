use Rattle.std.proofs.Common.{◌≡◌, ◌++◌, ℕ, List, [], ◌∷◌, map, ap, sym, ◌∙◌, arith, rules}
use Rattle.std.specs.List.{range_with_len}
use Rattle.std.proofs.lemmas.List.{take_all, take_more_set}
use Rattle.std.proofs.lemmas.List.FromFn.{map-range_with_len_more}
use Rattle.sector_images.specs.Formats.{row}
use Rattle.flux_trial.specs.Image.{image_byte, trial_image}
use Rattle.flux_trial.proofs.image.trial_image.Goals as goal

pub loop-place-preserved : goal.loop-place-preserved
loop-place-preserved c =
    let image = c.loop-place.image in
    let place : ℕ = c.loop-place.place in
    let f : ℕ → ℕ = image_byte c.args.seed in record {
      len = search rules;
      done = take_more_set image place c.image_byte.result (search rules)
          ∙ ap (λ (l : List ℕ). l ++ c.image_byte.result ∷ []) c.loop-place.invariant.done
          ∙ ap (λ (b : ℕ). map f (range_with_len 0 place) ++ b ∷ []) c.image_byte.ensures
          ∙ sym (map-range_with_len_more f 0 place place (omega arith));
    }

pub returns : goal.returns
unfolding trial_image
returns c =
    let place : ℕ = c.loop-place.place in
    let i = c.loop-place.invariant in
    let all : place ≡ (row c.args.format).image_size = omega (arith, c.loop-place-test.false, c.loop-place.auto.place-end, c.requires) in
    sym (take_all place c.loop-place.image (omega (arith, i.len, all, c.requires)))
    ∙ i.done ∙ ap (λ (n : ℕ). map (image_byte c.args.seed) (range_with_len 0 n)) all

pub overflow_cast-place : goal.overflow_cast-place
overflow_cast-place c =
    omega (arith, c.loop-place-test.true, c.loop-place.auto.place-end, c.requires, c.tracks_keep_bounds.ensures.images c.args.format)

pub image_byte-requires : goal.image_byte-requires
image_byte-requires c =
    omega (arith, c.loop-place-test.true, c.loop-place.auto.place-end, c.requires, c.tracks_keep_bounds.ensures.images c.args.format)
