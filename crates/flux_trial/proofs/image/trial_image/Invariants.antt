use Rattle.std.proofs.Common.{◌≡◌, length, map, take}
use Rattle.std.specs.List.{range_with_len}
use Rattle.flux_trial.specs.Image.{image_byte}
use Rattle.flux_trial.proofs.image.trial_image.Given as goal

abbrev pub invariant-loop-place : goal.invariant-loop-place
invariant-loop-place l = record {
  len : length l.image ≡ length l.initial.image;
  done : take l.place l.image ≡ map (image_byte l.seed) (range_with_len 0 l.place);
}
