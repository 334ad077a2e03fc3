use Rattle.std.proofs.Common.{◌≡◌, drop, find, map}
use Rattle.flux_help.specs.Meanings.{meanings, same_letters}
use Rattle.flux_help.proofs.meanings.meaning_of.Given as goal

-- no row before this one passes
abbrev pub invariant-loop-meaning : goal.invariant-loop-meaning
invariant-loop-meaning l =
    find (λ row. same_letters row.0 l.word) meanings ≡ find (λ row. same_letters row.0 l.word) (map (λ row. (row.word.now, row.ending.now)) (drop l.meaning-index l.meaning-items))
