-- Other headers with whole data: those that are noted of a track, and those that stand in the cells of its streams.
use Rattle.std.specs.Prelude.{◌≡◌, ◌<◌, ℕ, zero, suc, Bool, true, false, List, [], ◌∷◌, ◌++◌, map}
use Rattle.std.proofs.Common.{◌∙◌, arith, inl, inr, subst, sym}
use Rattle.std.proofs.lemmas.Bool.{cases_lt, false_from_ne_true, false≢true}
use Rattle.disk_recordings.specs.Members.{as_controllers_read, header_at, named_at, whole_data_of}
use Rattle.dump_reading.specs.Outcomes.{DumpDisk, plan_of}
use Rattle.flux_base.specs.declared.track.TrackId.{TrackId}
use Rattle.flux_engine.specs.Captured.{IsUsed, joined_by, noted_other}
use Rattle.flux_engine.specs.Plans.{AreNamesTo, AreOthersTo, Seen, Streams}
use Rattle.flux_engine.specs.Recordings.{cells_by, track_at}
use Rattle.flux_engine.specs.Rules.{AreOthersIn, IsOtherAt, OtherFound, no_header}
use Rattle.flux_engine.specs.declared.plan.Clocks.{Clocks}
use Rattle.flux_engine.specs.declared.plan.Clocks.TheVariants.{Both, FollowingAlone}
use Rattle.flux_engine.specs.lemmas.Each.{Each, each-append, each-at, each-left, each-of, each-right}
use Rattle.turn_merge.specs.Others.{NotedOther}
use Rattle.turn_merge.specs.declared.clock.Clock.{Clock}
use Rattle.turn_merge.specs.declared.clock.Clock.TheVariants.{Following, Held}
use Rattle.law_read_dumps.specs.Complete.{HasData}

-- no whole data stand after a noted header
abbrev pub IsBare : NotedOther → Type 0
IsBare other = other.whole ≡ false

-- what holds of each item of a list that is made of another
each_made : {X Y : Type 0} (P : Y → Type 0) (g : X → Y) (xs : List X) → Each (λ (x : X). P (g x)) xs → Each P (map g xs)
each_made P g [] all = tt
each_made P g (x ∷ xs) all = (all.0, each_made P g xs all.1)

each_maker : {X Y : Type 0} (P : Y → Type 0) (g : X → Y) (xs : List X) → Each P (map g xs) → Each (λ (x : X). P (g x)) xs
each_maker P g [] all = tt
each_maker P g (x ∷ xs) all = (all.0, each_maker P g xs all.1)

-- Headers that are noted of the streams of a track, of those that are none of its sectors: by the cells of a track, and by which headers are
-- of sectors.
module _ (disk : DumpDisk) (track : TrackId) (header : List Bool → ℕ → Type 0) where
  abbrev pub cells_of : Clock → Seen → List Bool
  cells_of clock here = cells_by clock disk.format track here.times here.indexes

  -- those that a clock's cells have
  pub record HasNoted (here : Seen) (capture : ℕ) (clock : Clock) (others : List NotedOther) : Type 0 where
    pub found : List (ℕ × OtherFound)
    pub all : AreOthersIn (named_at (as_controllers_read disk.format)) header (whole_data_of (as_controllers_read disk.format)) (cells_of clock here) found
    pub are : others ≡ map (noted_other capture clock here.times here.indexes (cells_of clock here)) found

  -- and those of all clocks
  pub record HasNotedAll (here : Seen) (capture : ℕ) (others : List NotedOther) : Type 0 where
    pub by_clock : Clock → List NotedOther
    pub each : (clock : Clock) → IsUsed disk.clocks clock → HasNoted here capture clock (by_clock clock)
    pub are : others ≡ joined_by disk.clocks by_clock

  -- those of the first streams, one after another
  abbrev pub AreNotedTo : (captures : ℕ → Seen) → ℕ → List NotedOther → Type 0
  AreNotedTo captures zero others = others ≡ []
  AreNotedTo captures (suc q) others = (before now : List NotedOther) × AreNotedTo captures q before × HasNotedAll (captures q) q now × (others ≡ before ++ now)

  module _ (here : Seen) (capture : ℕ) (clock : Clock) (others : List NotedOther) (of : HasNoted here capture clock others) where
    abbrev noted : ℕ × OtherFound → NotedOther
    noted = noted_other capture clock here.times here.indexes (cells_of clock here)

    clock_none : Each IsBare others → HasData disk.format header (cells_of clock here) → ⊥
    clock_none all has =
        let there = of.all.each has.place has.name has.other in
        let at = (of.all.all.each has.place (has.name, there.0)).0 there.1 in
        let whole : there.0 ≡ true = at.1.1.1 has.whole in
        let bare : there.0 ≡ false =
        each-at (λ (f : ℕ × OtherFound). f.1.1 ≡ false) of.found (has.place, (has.name, there.0))
        (each_maker IsBare noted of.found (subst (Each IsBare) of.are all)) there.1 in
        false≢true (sym bare ∙ whole)

    bare_by : (HasData disk.format header (cells_of clock here) → ⊥) → (f : ℕ × OtherFound)
        → IsOtherAt (named_at (as_controllers_read disk.format)) header (whole_data_of (as_controllers_read disk.format)) (cells_of clock here) f.0 f.1 → f.1.1 ≡ false
    bare_by none f at = false_from_ne_true f.1.1 (λ whole. none (record { place = f.0; name = f.1.0; other = at.0; whole = at.1.0 whole }))

    clock_bare : (HasData disk.format header (cells_of clock here) → ⊥) → Each IsBare others
    clock_bare none =
        subst (Each IsBare) (sym of.are)
        (each_made IsBare noted of.found (each-of (λ (f : ℕ × OtherFound). f.1.1 ≡ false) of.found (λ f has. bare_by none f ((of.all.all.each f.0 f.1).0 has).1)))

-- those of each clock, joined
each_clock : (P : NotedOther → Type 0) (clocks : Clocks) (f : Clock → List NotedOther) → Each P (joined_by clocks f) → (clock : Clock) → IsUsed clocks clock → Each P (f clock)
each_clock P FollowingAlone f all Following used = all
each_clock P FollowingAlone f all Held used = absurd used
each_clock P Both f all Following used = each-left P (f Following) (f Held) all
each_clock P Both f all Held used = each-right P (f Following) (f Held) all

all_clocks : (P : NotedOther → Type 0) (clocks : Clocks) (f : Clock → List NotedOther) → ((clock : Clock) → IsUsed clocks clock → Each P (f clock)) → Each P (joined_by clocks f)
all_clocks P FollowingAlone f each = each Following tt
all_clocks P Both f each = each-append P (f Following) (f Held) (each Following tt) (each Held tt)

-- where none of them has data, none is in the cells, and the other way about
module _ (disk : DumpDisk) (track : TrackId) (header : List Bool → ℕ → Type 0) (captures : ℕ → Seen) where
  abbrev pub NoneIn : ℕ → Type 0
  NoneIn count = (k : ℕ) → k < count → (clock : Clock) → IsUsed disk.clocks clock → HasData disk.format header (cells_of disk track header clock (captures k)) → ⊥

  pub none_in : (count : ℕ) (others : List NotedOther) → AreNotedTo disk track header captures count others → Each IsBare others → NoneIn count
  none_in zero others is all k low clock used has = absurd (omega (arith, low))
  none_in (suc q) others (before, now, earlier, here, is) all k low clock used has =
      let both : Each IsBare (before ++ now) = subst (Each IsBare) is all in
      elim (cases_lt k q) [
        | inl less ↦ none_in q before earlier (each-left IsBare before now both) k less clock used has
        | inr past ↦
            let same : k ≡ q = omega (arith, low, past) in
            let mine : Each IsBare (here.by_clock clock) = each_clock IsBare disk.clocks here.by_clock (subst (Each IsBare) here.are (each-right IsBare before now both)) clock used in
            clock_none disk track header (captures q) q clock (here.by_clock clock) (here.each clock used) mine
            (subst (λ (j : ℕ). HasData disk.format header (cells_of disk track header clock (captures j))) same has)
      ]

  pub bare_in : (count : ℕ) (others : List NotedOther) → AreNotedTo disk track header captures count others → NoneIn count → Each IsBare others
  bare_in zero others is none = subst (Each IsBare) (sym is) tt
  bare_in (suc q) others (before, now, earlier, here, is) none =
      let mine : (clock : Clock) → IsUsed disk.clocks clock → Each IsBare (here.by_clock clock) =
      λ clock used. clock_bare disk track header (captures q) q clock (here.by_clock clock) (here.each clock used) (none q (omega arith) clock used) in
      subst (Each IsBare) (sym is)
      (each-append IsBare before now (bare_in q before earlier (λ k low. none k (omega (arith, low))))
      (subst (Each IsBare) (sym here.are) (all_clocks IsBare disk.clocks here.by_clock mine)))

-- those of a track of the format, and of one beside it
pub noted_others : (disk : DumpDisk) (streams : Streams) (n q : ℕ) (others : List NotedOther) → AreOthersTo (plan_of disk) disk.format streams n q others
    → AreNotedTo disk (track_at disk.format n) (header_at (as_controllers_read disk.format) (track_at disk.format n)) (streams n) q others
noted_others disk streams n zero others is = is
noted_others disk streams n (suc q) others (before, now, earlier, here, is) = (
  before,
  now,
  noted_others disk streams n q before earlier,
  record {
    by_clock = here.by_clock;
    each = λ clock used. (let one = here.each clock used in record { found = one.found; all = one.all; are = one.are });
    are = here.are;
  },
  is,
)

pub noted_names : (disk : DumpDisk) (near : TrackId) (captures : ℕ → Seen) (q : ℕ) (others : List NotedOther) → AreNamesTo (plan_of disk) disk.format near captures q others
    → AreNotedTo disk near no_header captures q others
noted_names disk near captures zero others is = is
noted_names disk near captures (suc q) others (before, now, earlier, here, is) = (
  before,
  now,
  noted_names disk near captures q before earlier,
  record {
    by_clock = here.by_clock;
    each = λ clock used. (let one = here.each clock used in record { found = one.found; all = one.all; are = one.are });
    are = here.are;
  },
  is,
)
