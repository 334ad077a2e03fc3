-- A stream that spells any times, with its index blocks before all of them: each is counted from the begin, so that index times may lie
-- anywhere, and behind the last transition too.
use Rattle.std.proofs.Common.{◌≡◌, ◌≤◌, ◌<◌, ◌+◌, ◌-◌, ◌*◌, ◌/◌, ◌%◌, ◌++◌, ◌&&◌, ℕ, zero, suc, Bool, true, false, List, [], ◌∷◌, length, refl, ap, sym, ◌∙◌, subst, arith, length-append, if◌then◌else◌, nat_le, nat_lt, slice_index}
use Rattle.std.specs.List.Sorted.{IsStrictlyIncreasing}
use Rattle.kryo_stream.specs.declared.block.Block.{Block}
use Rattle.kryo_stream.specs.declared.block.Block.TheVariants.{Flux, Index, StreamEnd, End}
use Rattle.kryo_stream.specs.Sequence.{AreInOrder, IsStreamOf, TurnsAre, IsTurnAt, spellings, transitions_from}
use Rattle.kryo_stream.specs.Spelling.{flux_spelling}
use Rattle.kryo_stream.specs.lemmas.Standing.{Stand, Stand-each, is_empty}

-- from each time to the next there are fewer than 2^16 ticks, and the first is so soon after this one
abbrev pub Steps : ℕ → List ℕ → Type 0
Steps start [] = Unit {0}
Steps start (time ∷ times) = (start ≤ time) × (time < start + 65536) × Steps time times

-- a Flux block for each time
abbrev fluxes : ℕ → List ℕ → List Block
fluxes start [] = []
fluxes start (time ∷ times) = Flux (time - start) ∷ fluxes time times

-- the in-stream bytes of these blocks
abbrev bytes_in : ℕ → List ℕ → ℕ
bytes_in start [] = 0
bytes_in start (time ∷ times) = length (flux_spelling (time - start)) + bytes_in time times

abbrev last_two : ℕ → List Block
last_two position = StreamEnd position 0 ∷ End ∷ []

flux_size : (ticks : ℕ) → (1 ≤ length (flux_spelling ticks)) × (length (flux_spelling ticks) ≤ 3)
flux_size ticks = by (nat_le 14 ticks && nat_lt ticks 256) (nat_lt ticks 2048)
  where
    by : (short middle : Bool) →
        (1 ≤ length (if short then ticks ∷ [] else (if middle then (ticks / 256) ∷ (ticks % 256) ∷ [] else 12 ∷ (ticks / 256) ∷ (ticks % 256) ∷ [])))
        × (length (if short then ticks ∷ [] else (if middle then (ticks / 256) ∷ (ticks % 256) ∷ [] else 12 ∷ (ticks / 256) ∷ (ticks % 256) ∷ [])) ≤ 3)
    by true middle = (omega arith, omega arith)
    by false true = (omega arith, omega arith)
    by false false = (omega arith, omega arith)

bytes_to : (start : ℕ) (times : List ℕ) → bytes_in start times ≤ 3 * length times
bytes_to start [] = omega arith
bytes_to start (time ∷ times) = (let here = flux_size (time - start) in let rest = bytes_to time times in omega (arith, here, rest))

some_left : (start : ℕ) (times : List ℕ) (position : ℕ) → false ≡ is_empty (fluxes start times ++ last_two position)
some_left start [] position = refl
some_left start (time ∷ times) position = refl

stand_fluxes : (counted start : ℕ) (times : List ℕ) → Steps start times → counted + bytes_in start times < 4294967296
    → Stand counted false (fluxes start times ++ last_two (counted + bytes_in start times))
stand_fluxes counted start [] steps few = ((few, omega arith), (omega arith, refl), refl, (tt, tt, refl, tt))
stand_fluxes counted start (time ∷ times) steps few =
    let size : ℕ = length (flux_spelling (time - start)) in
    let at : counted + size + bytes_in time times ≡ counted + (size + bytes_in time times) = omega arith in (
      omega (arith, steps.0, steps.1),
      refl,
      some_left time times (counted + (size + bytes_in time times)),
      subst (λ (n : ℕ). Stand (counted + size) false (fluxes time times ++ last_two n)) at
          (stand_fluxes (counted + size) time times steps.2 (omega (arith, few, at))),
    )

times_of_fluxes : (start : ℕ) (times : List ℕ) (position : ℕ) → Steps start times → transitions_from start (fluxes start times ++ last_two position) ≡ times
times_of_fluxes start [] position steps = refl
times_of_fluxes start (time ∷ times) position steps =
    let at : start + (time - start) ≡ time = omega (arith, steps.0) in
    ap (λ (t : ℕ). t ∷ transitions_from t (fluxes time times ++ last_two position)) at
    ∙ ap (λ (ts : List ℕ). time ∷ ts) (times_of_fluxes time times position steps.2)

no_turns : (all : List Block) (start : ℕ) (times : List ℕ) (position : ℕ) → TurnsAre all (fluxes start times ++ last_two position) []
no_turns all start [] position = refl
no_turns all start (time ∷ times) position = no_turns all time times position

fluxes_length : (start : ℕ) (times : List ℕ) (position : ℕ) → length (spellings (fluxes start times ++ last_two position)) ≡ bytes_in start times + 16
fluxes_length start [] position = refl
fluxes_length start (time ∷ times) position =
    let rest = fluxes_length time times position in
    let both = length-append (flux_spelling (time - start)) (spellings (fluxes time times ++ last_two position)) in
    omega (arith, rest, both)

module _ (time : ℕ) (times : List ℕ) (first second : ℕ) where
  abbrev position : ℕ
  position = 0 + bytes_in 0 (time ∷ times)

  abbrev behind : List Block
  behind = fluxes 0 (time ∷ times) ++ last_two position

  abbrev front : List Block
  front = Index 0 first 0 ∷ Index 0 second 0 ∷ []

  abbrev blocks : List Block
  blocks = Index 0 first 0 ∷ Index 0 second 0 ∷ behind

  -- an index block that counts from the begin
  turn_at : (turn : ℕ) → IsTurnAt blocks 0 turn turn
  turn_at turn = record {
    before = front;
    behind = behind;
    whole = refl;
    from = omega arith;
    to = (let some = flux_size (time - 0) in omega (arith, some));
    time_is = omega arith;
  }

  blocks_length : length (spellings blocks) ≡ bytes_in 0 (time ∷ times) + 48
  blocks_length = (let rest = fluxes_length 0 (time ∷ times) position in omega (arith, rest))

  rising : first < second → IsStrictlyIncreasing (first ∷ second ∷ [])
  rising less zero within = less
  rising less (suc k) within = absurd (omega (arith, within))

  in_order : Steps 0 (time ∷ times) → length (time ∷ times) ≤ 1300000 → first < second → second < 4294967296 → AreInOrder blocks (first ∷ second ∷ [])
  in_order steps few less fits =
      let size = bytes_to 0 (time ∷ times) in
      let small : position < 4294967296 = omega (arith, size, few) in
      let stand : Stand 0 false blocks =
      ((omega arith, omega (arith, less, fits), omega arith), tt, refl, ((omega arith, fits, omega arith), tt, refl, stand_fluxes 0 0 (time ∷ times) steps small)) in
      record {
        limit = omega (arith, blocks_length, size, few);
        each = λ before block later is. Stand-each [] before block later (subst (Stand 0 false) (sym is) stand);
        turns_are = (turn_at first, (turn_at second, no_turns blocks 0 (time ∷ times) position));
        enough = omega arith;
        order = rising less;
      }

-- what the stream crate promises of blocks
abbrev pub BlocksLaw : Type 0
BlocksLaw = (blocks : List Block) (turns : List ℕ) → AreInOrder blocks turns → IsStreamOf (spellings blocks) (transitions_from 0 blocks) turns

pub spells : BlocksLaw → (times : List ℕ) (first second : ℕ) → 0 < length times → Steps 0 times → length times ≤ 1300000 → first < second → second < 4294967296
    → (x : List ℕ) × IsStreamOf x times (first ∷ second ∷ []) × (slice_index x 0 ≡ 13)
spells law [] first second some steps few less fits = absurd (omega (arith, some))
spells law (time ∷ times) first second some steps few less fits = (
  spellings (blocks time times first second),
  subst (λ (ts : List ℕ). IsStreamOf (spellings (blocks time times first second)) ts (first ∷ second ∷ []))
      (times_of_fluxes 0 (time ∷ times) (position time times first second) steps)
      (law (blocks time times first second) (first ∷ second ∷ []) (in_order time times first second steps few less fits)),
  refl,
)
