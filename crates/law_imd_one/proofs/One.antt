-- What is found of dumps is one thing, where the same files failed.
use Rattle.std.proofs.Common.{◌≡◌, ◌<◌, ◌≤◌, ◌⊎◌, ◌+◌, ◌-◌, ◌*◌, ◌∙◌, ℕ, List, [], length, Option, Some, ap, sym, subst, inl, inr, arith}
use Rattle.std.proofs.lemmas.Bool.{cases_lt}
use Rattle.std.proofs.lemmas.List.{ext_get_or}
use Rattle.disk_recordings.specs.Laws.{DataAreRead, NamesAreTold}
use Rattle.dump_reading.specs.DumpStreams.{FailedAlike, IsOrFailed, seen_of, track_in}
use Rattle.dump_reading.specs.Files.{ShelfNow}
use Rattle.dump_reading.specs.lemmas.Alike.{one-stream}
use Rattle.dump_turns.specs.Reaches.{track_number}
use Rattle.dump_turns.specs.declared.reach.Reach.{Reach}
use Rattle.flux_base.specs.declared.track.TrackId.{TrackId}
use Rattle.flux_engine.specs.LoopProgress.{seen_at}
use Rattle.flux_engine.specs.Plans.{Seen}
use Rattle.imd_image.specs.Found.{IsFoundOf, TrackFound, found_at}
use Rattle.imd_image.specs.Outcomes.{AllFound, DumpsAsked, HaveFound, IsReachTold, streams_at}
use Rattle.imd_image.specs.Reaches.{HasAFile, IsReachIn, IsReachOver, IsWithout}
use Rattle.imd_records.specs.Choices.{AreRows, IsChosen}
use Rattle.imd_records.specs.Modes.{TrackNames}
use Rattle.imd_records.specs.declared.choice.Choice.{Choice}
use Rattle.track_shelf.specs.Files.{File}
use Rattle.law_imd_one.proofs.Choices.{one_choice, one_rows}
use Rattle.law_imd_one.proofs.Lists.{flat_at, flat_size}
use Rattle.law_imd_one.proofs.Names.{one_known}
use Rattle.law_imd_one.specs.Headline.{came_of}

-- how far files reach
module _ (Has : TrackId → Type 0) where
  fewer_cylinders : (reach reach' : Reach) → IsReachOver Has reach → IsReachOver Has reach' → reach.cylinders ≤ reach'.cylinders
  fewer_cylinders reach reach' a b =
      let low = (b.within a.cylinder.0 a.cylinder.1).0 in
      let is = a.cylinder.2 in
      omega (arith, low, is)

  fewer_heads : (reach reach' : Reach) → IsReachOver Has reach → IsReachOver Has reach' → reach.heads ≤ reach'.heads
  fewer_heads reach reach' a b =
      let low = (b.within a.head.0 a.head.1).1 in
      let is = a.head.2 in
      omega (arith, low, is)

  one_reach : (reach reach' : Reach) → IsReachOver Has reach → IsReachOver Has reach' → reach ≡ reach'
  one_reach reach reach' a b =
      let rows : reach.cylinders ≡ reach'.cylinders = omega (arith, fewer_cylinders reach reach' a b, fewer_cylinders reach' reach b a) in
      let sides : reach.heads ≡ reach'.heads = omega (arith, fewer_heads reach reach' a b, fewer_heads reach' reach b a) in
      λ i. record { cylinders = rows i; heads = sides i }

-- what is found of a track
one_found : (names : NamesAreTold) (reads : DataAreRead) (track : TrackId) (streams : List Seen) (a b : TrackFound) → IsFoundOf track streams a → IsFoundOf track streams b → a ≡ b
one_found names reads track streams a b p q =
    let tracks : a.track ≡ b.track = p.track_is ∙ sym q.track_is in
    let passed : a.passed ≡ b.passed = p.passed ∙ sym q.passed in
    let known : a.names ≡ b.names = λ i mode. one_known names reads mode streams (a.names mode) (b.names mode) (p.names mode) (q.names mode) i in
    let choice : a.choice ≡ b.choice = one_choice b.names a.choice b.choice (subst (λ (ns : TrackNames). IsChosen ns a.choice) known p.chosen) q.chosen in
    let rows : a.rows ≡ b.rows =
    one_rows (b.names b.choice.mode) b.choice.code a.rows b.rows
    (subst (λ (c : Choice). AreRows (b.names c.mode) c.code a.rows) choice (subst (λ (ns : TrackNames). AreRows (ns a.choice.mode) a.choice.code a.rows) known p.rows)) q.rows in
    λ i. record { track = tracks i; passed = passed i; names = known i; choice = choice i; rows = rows i }

-- where the files are told, what came of a file is what it says, or that it failed
module _ (asked : DumpsAsked) (files : List File) (start now : ShelfNow) (told : start.told.files ≡ Some files) (reach : Reach) (founds : List TrackFound)
    (have : HaveFound asked start now reach founds) where
  abbrev size : ℕ
  size = length asked.names

  each_size : (n : ℕ) → n < length have.came → length (streams_at have.came n) ≡ size
  each_size n low = have.each n (let many = have.many in omega (arith, low, many))

  pub stream_place : (n dump : ℕ) → n < length founds → dump < size → seen_at (came_of have) (n * size + dump) ≡ seen_at (streams_at have.came n) dump
  stream_place n dump low small = flat_at have.came size (seen_at [] 0) each_size n dump (let many = have.many in omega (arith, low, many)) small

  pub within : (n dump : ℕ) → n < length founds → dump < size → n * size + dump < length (came_of have)
  within n dump low small =
      let many = have.many in
      let all : length (came_of have) ≡ length have.came * size = flat_size have.came size each_size in
      let few : n + 1 ≤ length have.came = omega (arith, low, many) in
      by (length have.came) few all
    where
      by : (k : ℕ) → n + 1 ≤ k → length (came_of have) ≡ k * size → n * size + dump < length (came_of have)
      by k few all = let room = more (k - (n + 1)) in let same = ap (λ (j : ℕ). j * size) (split k few) in omega (arith, room, same, all, small)
        where
          split : (k : ℕ) → n + 1 ≤ k → n + 1 + (k - (n + 1)) ≡ k
          split k few = omega (arith, few)

          more : (rest : ℕ) → n * size + size ≤ (n + 1 + rest) * size
          more rest = grind arith

  pub is_or_failed : (n dump : ℕ) → n < length founds → dump < size
      → IsOrFailed (seen_at (came_of have) (n * size + dump)) (seen_of (track_in asked.stepping asked.names files (track_number reach n) dump))
  is_or_failed n dump low small = have.have.are files told n dump small small (within n dump low small)

module _ (names : NamesAreTold) (reads : DataAreRead) (asked : DumpsAsked) (files : List File) (start now start' now' : ShelfNow) (mine : start.told.files ≡ Some files)
    (others : start'.told.files ≡ Some files) where
  module _ (reach : Reach) (founds founds' : List TrackFound) (one : HaveFound asked start now reach founds) (other : HaveFound asked start' now' reach founds')
      (long : length founds ≡ length founds') (alike : FailedAlike (came_of one) (came_of other)) where
    -- the streams of a track
    one_streams : (n : ℕ) → n < length founds → streams_at one.came n ≡ streams_at other.came n
    one_streams n low =
        let low' : n < length founds' = omega (arith, low, long) in
        ext_get_or (seen_at [] 0) (streams_at one.came n) (streams_at other.came n) (one.each n low ∙ sym (other.each n low'))
        (λ dump small.
        let small' : dump < length asked.names = (let many = one.each n low in omega (arith, small, many)) in
        sym (stream_place asked files start now mine reach founds one n dump low small')
        ∙ one-stream
        (track_in asked.stepping asked.names files (track_number reach n) dump) (seen_at (came_of one) (n * length asked.names + dump)) (seen_at (came_of other) (n * length asked.names + dump))
        (is_or_failed asked files start now mine reach founds one n dump low small') (is_or_failed asked files start' now' others reach founds' other n dump low' small')
        (alike (n * length asked.names + dump) (within asked files start now mine reach founds one n dump low small')
        (within asked files start' now' others reach founds' other n dump low' small'))
        ∙ stream_place asked files start' now' others reach founds' other n dump low' small')

    one_founds : founds ≡ founds'
    one_founds =
        ext_get_or (found_at [] 0) founds founds' long
        (λ n low.
        let low' : n < length founds' = omega (arith, low, long) in
        one_found names reads (track_number reach n) (streams_at one.came n) (found_at founds n) (found_at founds' n) (one.are n low)
        (subst (λ (streams : List Seen). IsFoundOf (track_number reach n) streams (found_at founds' n)) (sym (one_streams n low)) (other.are n low')))

  reached : (begin : ShelfNow) (reach : Reach) → begin.told.files ≡ Some files → IsReachTold begin.told.files asked reach
      → IsReachOver (HasAFile files asked.stepping asked.names (length asked.names)) reach
  reached begin reach told is = (subst (λ (f : Option (List File)). IsReachTold f asked reach) told is).is

  pub found_is_one : (reach reach' : Reach) (founds founds' : List TrackFound) (one : AllFound asked start now reach founds) (other : AllFound asked start' now' reach' founds')
      → FailedAlike (came_of one.have) (came_of other.have) → founds ≡ founds'
  found_is_one reach reach' founds founds' one other = by reach' same other
    where
      same : reach ≡ reach'
      same = one_reach (HasAFile files asked.stepping asked.names (length asked.names)) reach reach' (reached start reach mine one.reach_is) (reached start' reach' others other.reach_is)

      by : (r : Reach) → reach ≡ r → (o : AllFound asked start' now' r founds') → FailedAlike (came_of one.have) (came_of o.have) → founds ≡ founds'
      by r is =
          subst (λ (q : Reach). (o : AllFound asked start' now' q founds') → FailedAlike (came_of one.have) (came_of o.have) → founds ≡ founds') is
          (λ o. one_founds reach founds founds' one.have o.have (one.all ∙ sym o.all))

pub not_without : (asked : DumpsAsked) (files : List File) (start now : ShelfNow) → start.told.files ≡ Some files → (reach : Reach) (founds : List TrackFound)
    → AllFound asked start now reach founds → (number : ℕ) → IsWithout files asked.stepping asked.names number → ⊥
not_without asked files start now told reach founds all number none =
    let reached : IsReachIn files asked.stepping asked.names reach = subst (λ (f : Option (List File)). IsReachTold f asked reach) told all.reach_is in
    let has = reached.each number none.known in
    none.none has.0 has.1

pub one_without : (asked : DumpsAsked) (files : List File) (number other : ℕ) → IsWithout files asked.stepping asked.names number → IsWithout files asked.stepping asked.names other
    → number ≡ other
one_without asked files number other p q = by (cases_lt number other) (cases_lt other number)
  where
    by : (number < other) ⊎ (other ≤ number) → (other < number) ⊎ (number ≤ other) → number ≡ other
    by (inl below) _ = let has = q.first number below in absurd (p.none has.0 has.1)
    by _ (inl above) = let has = p.first other above in absurd (q.none has.0 has.1)
    by (inr past) (inr before) = omega (arith, past, before)
