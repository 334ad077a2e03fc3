-- What there is to do for a command over the bytes of a source: what they come to, how many of them
-- it takes, and when it reads.
use Rattle.std.specs.Prelude.{◌≡◌, ◌++◌, ℕ, List, Some}
use Rattle.flux_base.specs.declared.status.Status.{Status}
use Rattle.flux_engine.specs.Needed.{ReadsWhereOpen}
use Rattle.kryo_stream.specs.Reads.{SourceMoment}
use Rattle.flux_cli.specs.Work.{Growth, Outcome, Work}

-- The row of one command.
pub record BytesWork : Type 1 where
  -- with which statuses it may end
  pub ends : Status → Type 0
  -- what the input x comes to
  pub gives : (x : List ℕ) → Outcome → Type 0
  -- bytes x of the front of an input do not tell what it comes to: the source
  -- is read after such bytes alone
  pub untold : (x : List ℕ) → Type 0
  -- what is left of the input x where all was given, by the status
  pub leaves : Status → (x later : List ℕ) → Type 0
  -- where a fault may cut the work, by the status, which says whose fault it is: what was taken of
  -- the input and what is left, and what both sinks got
  pub cut : Status → (taken later : List ℕ) → (image notes : Growth) → Type 0

-- The input is what was taken of it and what is left, where the source tells its bytes;
-- else it is some list of bytes.
abbrev pub IsInput : (start now : SourceMoment) → (taken later : List ℕ) → Type 0
IsInput start now taken later =
    (x : List ℕ) → start.left ≡ Some x → (x ≡ taken ++ later) × (now.left ≡ Some later)

-- the input comes to this, and so much of it is left
pub record ComesTo (work : BytesWork) (start now : SourceMoment) (o : Outcome) : Type 0 where
  pub taken : List ℕ
  pub later : List ℕ
  pub input : IsInput start now taken later
  pub gives : work.gives (taken ++ later) o
  pub leaves : work.leaves o.status (taken ++ later) later

-- the work was cut with so much of the input taken
pub record IsCutBehind (work : BytesWork) (status : Status) (start now : SourceMoment)
    (image notes : Growth) : Type 0 where
  pub taken : List ℕ
  pub later : List ℕ
  pub input : IsInput start now taken later
  pub place : work.cut status taken later image notes

-- A source that tells its bytes was read only where those that it had given did not tell what there
-- is to do. Where they told it, nothing was taken; and without a read its count of faults stayed.
abbrev pub WasReadWhereNeeded : BytesWork → (start now : SourceMoment) → Type 0
WasReadWhereNeeded work start now =
    (x : List ℕ) → start.left ≡ Some x → ReadsWhereOpen work.untold start now

-- as work over a source
abbrev pub of_bytes : BytesWork → Work SourceMoment
of_bytes work = record {
  ends = work.ends;
  gives = ComesTo work;
  cut = IsCutBehind work;
  keeps = WasReadWhereNeeded work;
}
