-- The definitions at streams that were worked out by hand.
use Rattle.std.proofs.Common.{◌≡◌, [], ◌∷◌, true, false, refl}
use Rattle.flux_writer.specs.Written.{stream_of_times, stream_of_turns, stream_of}

-- one interval of three overflows, with an index at its begin and one inside it
inside_an_interval : stream_of_times (196622 ∷ []) (0 ∷ 131172 ∷ [])
    ≡ 13 ∷ 2 ∷ 12 ∷ 0 ∷ 0 ∷ 0 ∷ 0 ∷ 0 ∷ 0 ∷ 0 ∷ 0 ∷ 0 ∷ 0 ∷ 0 ∷ 0 ∷ 0
    ∷ 13 ∷ 2 ∷ 12 ∷ 0 ∷ 2 ∷ 0 ∷ 0 ∷ 0 ∷ 100 ∷ 0 ∷ 0 ∷ 0 ∷ 12 ∷ 64 ∷ 0 ∷ 0
    ∷ 11 ∷ 11 ∷ 11 ∷ 14 ∷ 13 ∷ 3 ∷ 8 ∷ 0 ∷ 4 ∷ 0 ∷ 0 ∷ 0 ∷ 0 ∷ 0 ∷ 0 ∷ 0 ∷ 13 ∷ 13 ∷ 13 ∷ 13 ∷ []
inside_an_interval = refl

-- an index at a transition's time
behind_a_transition : stream_of_times (96 ∷ 192 ∷ []) (96 ∷ [])
    ≡ 96 ∷ 13 ∷ 2 ∷ 12 ∷ 0 ∷ 1 ∷ 0 ∷ 0 ∷ 0 ∷ 0 ∷ 0 ∷ 0 ∷ 0 ∷ 12 ∷ 0 ∷ 0 ∷ 0 ∷ 96
    ∷ 13 ∷ 3 ∷ 8 ∷ 0 ∷ 2 ∷ 0 ∷ 0 ∷ 0 ∷ 0 ∷ 0 ∷ 0 ∷ 0 ∷ 13 ∷ 13 ∷ 13 ∷ 13 ∷ []
behind_a_transition = refl

-- no transitions
empty : stream_of_times [] [] ≡ 13 ∷ 3 ∷ 8 ∷ 0 ∷ 0 ∷ 0 ∷ 0 ∷ 0 ∷ 0 ∷ 0 ∷ 0 ∷ 0 ∷ 13 ∷ 13 ∷ 13 ∷ 13 ∷ []
empty = refl

-- cells with a one at the places 3, 5 and 6, and index cells 0 and 5
cells : stream_of_turns (false ∷ false ∷ false ∷ true ∷ false ∷ true ∷ true ∷ []) (0 ∷ 5 ∷ []) 49152
    ≡ 13 ∷ 2 ∷ 12 ∷ 0 ∷ 0 ∷ 0 ∷ 0 ∷ 0 ∷ 48 ∷ 0 ∷ 0 ∷ 0 ∷ 6 ∷ 0 ∷ 0 ∷ 0 ∷ 192 ∷ 96
    ∷ 13 ∷ 2 ∷ 12 ∷ 0 ∷ 2 ∷ 0 ∷ 0 ∷ 0 ∷ 0 ∷ 0 ∷ 0 ∷ 0 ∷ 36 ∷ 0 ∷ 0 ∷ 0 ∷ 48
    ∷ 13 ∷ 3 ∷ 8 ∷ 0 ∷ 3 ∷ 0 ∷ 0 ∷ 0 ∷ 0 ∷ 0 ∷ 0 ∷ 0 ∷ 13 ∷ 13 ∷ 13 ∷ 13 ∷ []
cells = refl

-- a ring of four cells with ones at the places 1 and 2, so that its quarters are one cell
ring : stream_of (false ∷ true ∷ true ∷ false ∷ []) 49152
    ≡ stream_of_turns (false ∷ false ∷ true ∷ true ∷ false ∷ false ∷ true ∷ true ∷ false ∷ false ∷ true ∷ true ∷ false ∷ false ∷ [])
    (1 ∷ 5 ∷ 9 ∷ 13 ∷ []) 49152
ring = refl
