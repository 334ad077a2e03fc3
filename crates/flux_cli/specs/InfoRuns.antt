-- What `info` does: each file of a dump is read once on the shelf, without any format.
use Rattle.std.proofs.Common.{inr}
use Rattle.std.specs.Prelude.{◌≡◌, ◌⊎◌, ◌&&◌, nat_eq, nat_lt, ℕ, Bool, List, [], if◌then◌else◌}
use Rattle.std.specs.Prelude.{Option, None}
use Rattle.dump_reading.specs.DumpStreams.{FailedAlike}
use Rattle.dump_reading.specs.Files.{ShelfNow}
use Rattle.dump_turns.specs.Laws.{TurnsTold, told_of}
use Rattle.dump_turns.specs.Outcomes.{HasFoundAll, IsReachTold, WroteIntoEnd, WroteIntoFile}
use Rattle.dump_turns.specs.declared.found.Found.{Found}
use Rattle.dump_turns.specs.declared.reach.Reach.{Reach}
use Rattle.dump_turns.specs.declared.spread.Spread.{Spread}
use Rattle.dump_turns.specs.declared.totals.TurnTotals.{TurnTotals}
use Rattle.flux_base.specs.declared.status.Status.{Status}
use Rattle.flux_base.specs.declared.status.Status.TheVariants.{AllGood, NotAllGood, ImageFault}
use Rattle.flux_base.specs.declared.status.Status.TheVariants.{NotesFault, ShelfFault}
use Rattle.flux_cli.specs.ShelfWork.{OneEmpty, dumps_work, empty_outcome}
use Rattle.flux_cli.specs.Work.{Growth, Outcome, GotNothing, GotPart, Work}

-- each file is there, and was read and turned as the others did
abbrev pub are_even : TurnTotals → Bool
are_even totals =
    nat_eq totals.refused 0 && (nat_eq totals.missing 0 && nat_eq totals.uneven 0)

-- whether a file failed, and else that
abbrev pub info_status : TurnTotals → Status
info_status totals =
    if nat_lt 0 totals.failed then ShelfFault
    else (if are_even totals then AllGood else NotAllGood)

abbrev pub info_outcome : TurnsTold → Outcome
info_outcome o = record { status = info_status o.totals; image = o.lines; notes = [] }

-- what is found of all files, and how far their means lie apart
pub record AllFound (dump : List ℕ) (start now : ShelfNow) : Type 0 where
  pub reach : Reach
  pub founds : List Found
  pub spread : Option Spread
  pub all : HasFoundAll dump start now reach founds spread

abbrev pub found_outcome : {dump : List ℕ} {start now : ShelfNow} → AllFound dump start now
    → Outcome
found_outcome found = info_outcome (told_of found.reach found.founds found.spread)

-- the dump has no file of any track, and the line on it
abbrev pub EmptyInfo : (dump : List ℕ) → (start now : ShelfNow) → (line : List ℕ) → Type 0
EmptyInfo dump start now line =
    OneEmpty (IsReachTold start.told.files dump None) dump start now line

-- what the dump comes to, by the files that are told, and what the shelf did
abbrev pub IsOutcomeOfInfo : (dump : List ℕ) → (start now : ShelfNow) → Outcome → Type 0
IsOutcomeOfInfo dump start now o =
    ((line : List ℕ) × EmptyInfo dump start now line × (o ≡ empty_outcome line))
    ⊎ ((found : AllFound dump start now) × (o ≡ found_outcome found))

-- the same files failed in two readings of the dump
abbrev pub FailedAsTold : (dump : List ℕ) (start now start' now' : ShelfNow) (a b : Outcome)
    → IsOutcomeOfInfo dump start now a → IsOutcomeOfInfo dump start' now' b → Type 0
FailedAsTold dump start now start' now' a b (inr (one, same)) (inr (other, same')) =
    FailedAlike one.all.found.are.came other.all.found.are.came
FailedAsTold dump start now start' now' a b _ _ = Unit {0}

-- what was written where a fault of a sink cut the work, by the status, which says whose it is
abbrev pub info_cut : (dump : List ℕ) → Status → (start now : ShelfNow) → (image notes : Growth)
    → Type 0
info_cut dump ImageFault start now image notes =
    (WroteIntoFile dump start now image.before image.after
    ⊎ WroteIntoEnd dump start now image.before image.after)
    × GotNothing notes
info_cut dump NotesFault start now image notes =
    (line : List ℕ) × EmptyInfo dump start now line × GotNothing image × GotPart notes line
info_cut dump _ start now image notes = ⊥

abbrev pub info_work : (dump : List ℕ) → Work ShelfNow
info_work dump = dumps_work (IsOutcomeOfInfo dump) (info_cut dump)
