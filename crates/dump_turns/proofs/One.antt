-- The files, and which of them failed, decide what is found of a dump, and all that is told of it.
use Rattle.std.proofs.Common.{◌≡◌, ◌≤◌, ◌<◌, ◌+◌, ◌*◌, ◌-◌, ℕ, true, false, List, length, slice_index, Option, Some, None, Result, Ok, Err, refl, sym, ap, subst, ◌∙◌, inl, inr, arith}
use Rattle.std.specs.Prelude.{unwrap_or}
use Rattle.std.proofs.lemmas.List.{ext_get_or}
use Rattle.sector_report.specs.declared.dump_lines.Passed.{Passed}
use Rattle.sector_report.specs.declared.dump_lines.Passed.TheVariants.{Absent, Failed, RefusedScp}
use Rattle.scp_files.specs.declared.fault.ScpTrackFault.{ScpTrackFault}
use Rattle.track_shelf.specs.Files.{File, dump_track}
use Rattle.flux_engine.specs.LoopProgress.{seen_at}
use Rattle.flux_engine.specs.Plans.{Seen}
use Rattle.dump_reading.specs.DumpStreams.{FailedAlike, IsOrFailed, seen_of}
use Rattle.dump_reading.specs.lemmas.Alike.{one-stream}
use Rattle.dump_reading.specs.Files.{ShelfNow}
use Rattle.dump_turns.specs.Files.{AreFound, HasSize, IsToldOf, found_at, means_in}
use Rattle.dump_turns.specs.Laws.{told_of}
use Rattle.dump_turns.specs.Outcomes.{HasFoundAll, IsReachTold}
use Rattle.dump_turns.specs.Reaches.{IsReach, track_number}
use Rattle.dump_turns.specs.Spreads.{IsSpreadOf}
use Rattle.dump_turns.specs.Turns.{AreTurns}
use Rattle.dump_turns.specs.declared.found.FileTurns.{FileTurns}
use Rattle.dump_turns.specs.declared.found.Found.{Found}
use Rattle.dump_turns.specs.declared.found.Found.TheVariants.{PassedOver, Read}
use Rattle.dump_turns.specs.declared.reach.Reach.{Reach}
use Rattle.dump_turns.specs.declared.spread.Spread.{Spread}
use Rattle.dump_turns.proofs.Middles.{one-spread-of}

-- how far the files reach
module _ (files : List File) (dump : List ℕ) where
  module _ (reach reach' : Reach) (a : IsReach files dump reach) (b : IsReach files dump reach') where
    fewer-cylinders : reach.cylinders ≤ reach'.cylinders
    fewer-cylinders =
        let low = (b.within a.cylinder.0 a.cylinder.1).0 in
        let is = a.cylinder.2 in
        omega (arith, low, is)

    fewer-heads : reach.heads ≤ reach'.heads
    fewer-heads =
        let low = (b.within a.head.0 a.head.1).1 in
        let is = a.head.2 in
        omega (arith, low, is)

  one-reach : (reach reach' : Reach) → IsReach files dump reach → IsReach files dump reach' → reach ≡ reach'
  one-reach reach reach' a b =
      let rows : reach.cylinders ≡ reach'.cylinders = omega (arith, fewer-cylinders reach reach' a b, fewer-cylinders reach' reach b a) in
      let sides : reach.heads ≡ reach'.heads = omega (arith, fewer-heads reach reach' a b, fewer-heads reach' reach b a) in
      ap (λ (n : ℕ). record { cylinders = n; heads = reach.heads }) rows ∙ ap (λ (n : ℕ). record { cylinders = reach'.cylinders; heads = n }) sides

-- the revolutions of a stream
one-turns : (times indexes : List ℕ) (s t : FileTurns) → AreTurns times indexes s → AreTurns times indexes t → s.bytes ≡ t.bytes → s ≡ t
one-turns times indexes s t p q bytes =
    let transitions : s.transitions ≡ t.transitions = p.transitions ∙ sym q.transitions in
    let p_turns = p.turns in
    let q_turns = q.turns in
    let turns : s.turns ≡ t.turns = omega (arith, p_turns, q_turns) in
    let shorter = p.none_shorter t.least q.least in
    let shorter' = q.none_shorter s.least p.least in
    let least : s.least ≡ t.least = omega (arith, shorter, shorter') in
    let longer = p.none_longer t.greatest q.greatest in
    let longer' = q.none_longer s.greatest p.greatest in
    let greatest : s.greatest ≡ t.greatest = omega (arith, longer, longer') in
    let ticks : s.ticks ≡ t.ticks = p.ticks ∙ ap (λ (n : ℕ). slice_index indexes n - slice_index indexes 0) turns ∙ sym q.ticks in
    ap (λ (n : ℕ). record s { bytes = n }) bytes
    ∙ ap (λ (n : ℕ). record s { bytes = t.bytes; transitions = n }) transitions
    ∙ ap (λ (n : ℕ). record s { bytes = t.bytes; transitions = t.transitions; turns = n }) turns
    ∙ ap (λ (n : ℕ). record t { least = n; greatest = s.greatest; ticks = s.ticks }) least
    ∙ ap (λ (n : ℕ). record t { greatest = n; ticks = s.ticks }) greatest
    ∙ ap (λ (n : ℕ). record t { ticks = n }) ticks

-- what is found of it
none_some : {X : Type 0} (x : X) → None ≡ Some x → ⊥
none_some x e = cc

not-read : (a : Seen) → IsOrFailed a (seen_of None) → a.passed ≡ None → ⊥
not-read a (inl p) none = none_some Absent (sym none ∙ ap (λ (s : Seen). s.passed) p)
not-read a (inr p) none = none_some Failed (sym none ∙ ap (λ (s : Seen). s.passed) p)

not-read-refused : (fault : ScpTrackFault) (a : Seen) → IsOrFailed a (seen_of (Some (Err fault))) → a.passed ≡ None → ⊥
not-read-refused fault a (inl p) none = none_some (RefusedScp fault) (sym none ∙ ap (λ (s : Seen). s.passed) p)
not-read-refused fault a (inr p) none = none_some Failed (sym none ∙ ap (λ (s : Seen). s.passed) p)

one-size : (file : Option (Result (List ℕ) ScpTrackFault)) (a : Seen) (s t : FileTurns) → IsOrFailed a (seen_of file) → a.passed ≡ None → HasSize file (Read s) → HasSize file (Read t) → s.bytes ≡ t.bytes
one-size None a s t came read p q = absurd (not-read a came read)
one-size (Some (Ok bytes)) a s t came read p q = p ∙ sym q
one-size (Some (Err fault)) a s t came read p q = absurd (not-read-refused fault a came read)

one-found : (file : Option (Result (List ℕ) ScpTrackFault)) (a : Seen) (f g : Found) → IsOrFailed a (seen_of file) → IsToldOf a f → IsToldOf a g → HasSize file f → HasSize file g → f ≡ g
one-found file a (PassedOver why) (PassedOver why') came p q size size' =
    ap (λ (o : Option Passed). PassedOver (unwrap_or o Absent)) (sym p ∙ q)
one-found file a (PassedOver why) (Read t) came p q size size' = absurd (none_some why (sym q.0 ∙ p))
one-found file a (Read s) (PassedOver why) came p q size size' = absurd (none_some why (sym p.0 ∙ q))
one-found file a (Read s) (Read t) came p q size size' = ap Read (one-turns a.times a.indexes s t p.1 q.1 (one-size file a s t came p.0 size size'))

module _ (dump : List ℕ) (files : List File) (start now start' now' : ShelfNow) (first : start.told.files ≡ Some files) (second : start'.told.files ≡ Some files) (reach : Reach)
    (founds founds' : List Found) (one : AreFound dump reach start now founds) (other : AreFound dump reach start' now' founds') (alike : FailedAlike one.came other.came) where
  abbrev file_of : ℕ → Option (Result (List ℕ) ScpTrackFault)
  file_of n = dump_track files dump (track_number reach n)

  -- what came of a file is what it says, or that it failed
  at-place : (began after : ShelfNow) (some : List Found) (are : AreFound dump reach began after some) → began.told.files ≡ Some files → (n : ℕ) → n < length some
      → IsOrFailed (seen_at are.came n) (seen_of (file_of n))
  at-place began after some are told n below =
      let same : n * 1 + 0 ≡ n = omega arith in
      let many = are.many in
      subst (λ (k : ℕ). IsOrFailed (seen_at are.came k) (seen_of (file_of n))) same
      (are.have.are files told n 0 (omega arith) (omega arith) (omega (arith, below, many)))

  one-founds : length founds ≡ length founds' → founds ≡ founds'
  one-founds long =
      ext_get_or (PassedOver Absent) founds founds' long
      (λ n below.
      let below' : n < length founds' = omega (arith, below, long) in
      let came = at-place start now founds one first n below in
      let came' = at-place start' now' founds' other second n below' in
      let same : seen_at one.came n ≡ seen_at other.came n = one-stream (file_of n) (seen_at one.came n) (seen_at other.came n) came came'
      (alike n (let many = one.many in omega (arith, many, below)) (let many = other.many in omega (arith, many, below'))) in
      one-found (file_of n) (seen_at one.came n) (found_at founds n) (found_at founds' n) came (one.told n below)
      (subst (λ (s : Seen). IsToldOf s (found_at founds' n)) (sym same) (other.told n below')) (one.sized files first n below) (other.sized files second n below'))

module _ (dump : List ℕ) (files : List File) (start now start' now' : ShelfNow) (first : start.told.files ≡ Some files) (second : start'.told.files ≡ Some files) where
  reached : (began : ShelfNow) (reach : Reach) → began.told.files ≡ Some files → IsReachTold began.told.files dump (Some reach) → IsReach files dump reach
  reached began reach told is = subst (λ (f : Option (List File)). IsReachTold f dump (Some reach)) told is

  -- over the same tracks
  one-told : (reach : Reach) (founds founds' : List Found) (spread spread' : Option Spread) (one : HasFoundAll dump start now reach founds spread)
      (other : HasFoundAll dump start' now' reach founds' spread') → FailedAlike one.found.are.came other.found.are.came → told_of reach founds spread ≡ told_of reach founds' spread'
  one-told reach founds founds' spread spread' one other alike =
      let same = one-founds dump files start now start' now' first second reach founds founds' one.found.are other.found.are alike (one.all ∙ sym other.all) in
      let apart : IsSpreadOf (means_in founds') spread = subst (λ (fs : List Found). IsSpreadOf (means_in fs) spread) same one.apart in
      ap (λ (fs : List Found). told_of reach fs spread) same ∙ ap (told_of reach founds') (one-spread-of (means_in founds') spread spread' apart other.apart)

  pub turns-one : (reach reach' : Reach) (founds founds' : List Found) (spread spread' : Option Spread) (one : HasFoundAll dump start now reach founds spread)
      (other : HasFoundAll dump start' now' reach' founds' spread') → FailedAlike one.found.are.came other.found.are.came → told_of reach founds spread ≡ told_of reach' founds' spread'
  turns-one reach reach' founds founds' spread spread' one other alike = by reach' same other alike
    where
      same : reach ≡ reach'
      same = one-reach files dump reach reach' (reached start reach first one.found.reach_is) (reached start' reach' second other.found.reach_is)

      by : (r : Reach) → reach ≡ r → (o : HasFoundAll dump start' now' r founds' spread') → FailedAlike one.found.are.came o.found.are.came
          → told_of reach founds spread ≡ told_of r founds' spread'
      by r is =
          subst (λ (q : Reach). (o : HasFoundAll dump start' now' q founds' spread') → FailedAlike one.found.are.came o.found.are.came → told_of reach founds spread ≡ told_of q founds' spread')
          is (one-told reach founds founds' spread spread' one)

-- a dump without files reaches nowhere
pub no-turns : (dump : List ℕ) (files : List File) (start now : ShelfNow) → start.told.files ≡ Some files → (reach : Reach) (founds : List Found) (spread : Option Spread)
    → HasFoundAll dump start now reach founds spread → IsReachTold (Some files) dump None → ⊥
no-turns dump files start now first reach founds spread all none =
    let reached : IsReach files dump reach = subst (λ (f : Option (List File)). IsReachTold f dump (Some reach)) first all.found.reach_is in
    none reached.cylinder.0 reached.cylinder.1
