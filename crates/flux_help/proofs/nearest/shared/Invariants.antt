use Rattle.std.proofs.Common.{◌≡◌, ◌≤◌, count_by, length, take}
use Rattle.std.specs.List.{range_with_len}
use Rattle.flux_help.specs.Nearest.{is_shared}
use Rattle.flux_help.proofs.nearest.shared.Given as goal

-- those of the letters before this place
abbrev pub invariant-loop-place : goal.invariant-loop-place
invariant-loop-place l = record {
  counted : l.count ≡ count_by (is_shared l.name l.word) (take l.place (range_with_len 0 (length l.name)));
  few : l.count ≤ l.place;
}
