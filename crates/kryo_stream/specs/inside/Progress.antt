-- How far the reading of a stream has come.
use Rattle.std.specs.Prelude.{◌≡◌, ◌≤◌, ◌<◌, ◌+◌, ◌++◌, ℕ, Bool, List, [], length, drop, false}
use Rattle.std.specs.Prelude.{Option, Result, Ok, Err}
use Rattle.std.specs.Io.KnownBytes.{IsAtEnd}
use Rattle.flux_base.specs.declared.outside.Failed.{Failed}
use Rattle.kryo_stream.specs.declared.before.Before.{Before}
use Rattle.kryo_stream.specs.declared.fault.StreamFault.TheVariants.{Truncated}
use Rattle.kryo_stream.specs.declared.intake.More.{More}
use Rattle.kryo_stream.specs.declared.intake.More.TheVariants.{Taken, End}
use Rattle.kryo_stream.specs.Bench.{BenchState, IsNoted}
use Rattle.kryo_stream.specs.Outcome.{input_of, most_padding, DoNotTell}
use Rattle.kryo_stream.specs.Protocol.{LIMIT, MOST_HELD}
use Rattle.kryo_stream.specs.Pieces.{BlockOrFault, piece_at}
use Rattle.kryo_stream.specs.Reads.{SourceMoment}
use Rattle.kryo_stream.specs.inside.Reads.{Takes}
use Rattle.kryo_stream.specs.Stream.{pieces, stops_at}
use Rattle.kryo_stream.specs.inside.Tally.{IsTally}

-- these bytes were taken from the source, each piece of them where the bytes
-- at hand did not tell the answer
abbrev pub TakesOpenly : Bool → List ℕ → SourceMoment → SourceMoment → List ℕ → Type 0
TakesOpenly used held old new taken =
    Takes (λ so_far. DoNotTell used (held ++ so_far)) old new taken

-- n blocks of x were read and noted, none of them an End, and these bytes are left
pub record IsReading (x : List ℕ) (n : ℕ) (rest : List ℕ) (b : Before) (times : List ℕ)
    (bench : BenchState) : Type 0 where
  pub place : rest ≡ drop b.offset x
  pub inside : b.offset ≤ length x
  pub count : n ≤ b.offset
  pub size : length (pieces x n) ≡ n
  pub goes_on : (k : ℕ) → k < n → stops_at x k ≡ false
  pub tally : IsTally (pieces x n) b times
  pub noted : IsNoted (pieces x n) bench

-- so many blocks more are read of what is held, whatever was read before them
abbrev pub ReadsOn : ℕ → List ℕ → List ℕ → Before → Before → List ℕ → List ℕ → BenchState
    → BenchState → Type 0
ReadsOn count rest rest' b b' times times' bench bench' =
    (x : List ℕ) (n : ℕ) → IsReading x n rest b times bench
    → IsReading x (n + count) rest' b' times' bench'

-- the same of the bytes that were held and taken
pub record Progress (old new : SourceMoment) (held held' : List ℕ) (n : ℕ) (b : Before)
    (times : List ℕ) (bench : BenchState)
    : Type 0 where
  pub taken : List ℕ
  pub takes : TakesOpenly false held old new taken
  pub reading : IsReading (held ++ taken) n held' b times bench

-- the bytes from the block on, with those that were taken for it, end inside it
abbrev pub IsBlockOpen : Before → List ℕ → List ℕ → Type 0
IsBlockOpen b held taken = piece_at b.offset b.counted b.ended (held ++ taken) ≡ Err Truncated

-- what the reading of a block says of the bytes from the block on: a block is passed over
abbrev pub BlockSays : Before → Result BlockOrFault Failed → List ℕ → List ℕ → Option (List ℕ)
    → Type 0
BlockSays b (Ok (Ok p)) bytes held' left' =
    (piece_at b.offset b.counted b.ended bytes ≡ Ok p) × (held' ≡ drop p.bytes bytes)
BlockSays b (Ok (Err fault)) bytes held' left' =
    (piece_at b.offset b.counted b.ended bytes ≡ Err fault) × (fault ≡ Truncated → IsAtEnd left')
BlockSays b (Err _) bytes held' left' = piece_at b.offset b.counted b.ended bytes ≡ Err Truncated

-- the next block was read, with what had to be taken for it
pub record TakesBlock (old new : SourceMoment) (held held' : List ℕ) (b : Before)
    (answer : Result BlockOrFault Failed) : Type 0 where
  pub taken : List ℕ
  pub takes : Takes (IsBlockOpen b held) old new taken
  pub few : b.offset + length (held ++ taken) ≤ LIMIT + MOST_HELD
  pub says : BlockSays b answer (held ++ taken) held' new.left

-- the bytes at hand are fewer than are to be passed over
abbrev pub AreFew : ℕ → List ℕ → List ℕ → Type 0
AreFew count held taken = length (held ++ taken) < count

-- the first bytes were passed over, so many of them
pub record IsPassing (old new : SourceMoment) (held held' : List ℕ) (count gone : ℕ) : Type 0 where
  pub taken : List ℕ
  pub takes : Takes (AreFew count held) old new taken
  pub inside : gone ≤ length (held ++ taken)
  pub place : held' ≡ drop gone (held ++ taken)

-- what passing over so many bytes came to
abbrev pub SkipSays : ℕ → Result More Failed → List ℕ → List ℕ → Option (List ℕ) → Type 0
SkipSays count (Ok Taken) bytes held' left' = (count ≤ length bytes) × (held' ≡ drop count bytes)
SkipSays count (Ok End) bytes held' left' = (length bytes < count) × IsAtEnd left'
SkipSays count (Err _) bytes held' left' = length bytes < count

pub record IsSkipped (old new : SourceMoment) (held held' : List ℕ) (count : ℕ)
    (answer : Result More Failed) : Type 0 where
  pub taken : List ℕ
  pub takes : Takes (AreFew count held) old new taken
  pub says : SkipSays count answer (held ++ taken) held' new.left

-- what passing over the padding came to: a stream may stand after it, or the input is padding alone
abbrev pub PaddingSays : Bool → Result More Failed → List ℕ → List ℕ → Option (List ℕ) → Type 0
PaddingSays used (Ok Taken) bytes held' left' =
    ((later : List ℕ) → input_of used (bytes ++ later) ≡ held' ++ later)
    × (length bytes ≤ most_padding used + length held')
PaddingSays used (Ok End) bytes held' left' =
    (input_of used bytes ≡ []) × (length bytes ≤ most_padding used) × IsAtEnd left'
PaddingSays used (Err _) bytes held' left' =
    (input_of used bytes ≡ []) × (length bytes ≤ most_padding used)

pub record IsUnpadded (old new : SourceMoment) (used : Bool) (held held' : List ℕ)
    (answer : Result More Failed) : Type 0 where
  pub taken : List ℕ
  pub takes : TakesOpenly used held old new taken
  pub says : PaddingSays used answer (held ++ taken) held' new.left
