-- The disks that all sets tell.
use Rattle.std.proofs.Common.{◌≡◌, ◌≤◌, ℕ, List, [], ◌++◌, append_assoc, append-nil, arith, length, subst}
use Rattle.std.specs.Prelude.{flat_map, min}
use Rattle.flux_engine.specs.Plans.{Seen}
use Rattle.ibm_disks.specs.declared.rate.Rate.{Rate}
use Rattle.ibm_disks.specs.declared.rate.Rate.TheVariants.{Double, High, HighAt360, Single, SingleAt360}
use Rattle.told_disks.specs.Disks.{AreToldDisks}
use Rattle.told_disks.specs.declared.disks.NumberedDisk.{NumberedDisk}
use Rattle.told_disks.specs.declared.foreign.ForeignDisk.{ForeignDisk}
use Rattle.told_disks.specs.declared.heads.NamedHeads.{NamedHeads}
use Rattle.told_disks.specs.declared.heads.NamedHeads.TheVariants.{Changed, First, Own}
use Rattle.dump_numbers.specs.Found.{FindsDisks}
use Rattle.dump_numbers.specs.Rates.{rates}
use Rattle.dump_numbers.specs.Sets.{AreSetsOf, AreSetsTo}
use Rattle.dump_numbers.specs.declared.finding.NumbersFound.{NumbersFound}
use Rattle.dump_numbers.specs.declared.sets.DumpSets.{DumpSets}
use Rattle.dump_numbers.specs.declared.sets.RateSets.{RateSets}
use Rattle.dump_numbers.specs.inside.Noted.{AreEven, AreForeignOf, AreForeignTold, AreTold, HoldNoted, HoldsFiles, IsFew, rate_sets, sets_by}

-- the disks of each rate, appended one after another to none
module _ {Disk : Type 0} (a b c d e : List Disk) where
  each_rate : Rate → List Disk
  each_rate Double = a
  each_rate High = b
  each_rate HighAt360 = c
  each_rate Single = d
  each_rate SingleAt360 = e

  told_each : (Tells : Rate → List Disk → Type 0) → Tells Double a → Tells High b → Tells HighAt360 c → Tells Single d → Tells SingleAt360 e → (rate : Rate) → Tells rate (each_rate rate)
  unfolding each_rate
  told_each Tells is_a is_b is_c is_d is_e Double = is_a
  told_each Tells is_a is_b is_c is_d is_e High = is_b
  told_each Tells is_a is_b is_c is_d is_e HighAt360 = is_c
  told_each Tells is_a is_b is_c is_d is_e Single = is_d
  told_each Tells is_a is_b is_c is_d is_e SingleAt360 = is_e

  are_each : (disks : List Disk) → disks ≡ a ++ (b ++ (c ++ (d ++ (e ++ [])))) → disks ≡ flat_map each_rate rates
  unfolding each_rate
  are_each disks are = are

module _ (sets : DumpSets) (a b c d e : List NumberedDisk) where
  abbrev Own_of : Rate → List NumberedDisk → Type 0
  Own_of rate disks = AreToldDisks rate (rate_sets sets rate).own.one.items (rate_sets sets rate).own.two.items disks

  pub all_rates : Own_of Double a → Own_of High b → Own_of HighAt360 c → Own_of Single d → Own_of SingleAt360 e → (disks : List NumberedDisk)
      → disks ≡ a ++ (b ++ (c ++ (d ++ (e ++ [])))) → AreTold sets disks
  all_rates is_a is_b is_c is_d is_e disks are = record {
    by_rate = each_rate a b c d e;
    told = told_each a b c d e Own_of is_a is_b is_c is_d is_e;
    are = are_each a b c d e disks are;
  }

module _ (sets : DumpSets) (a b c d e : List ForeignDisk) where
  abbrev Foreign_of : Rate → List ForeignDisk → Type 0
  Foreign_of rate disks = AreForeignOf rate (rate_sets sets rate) disks

  pub all_foreign : Foreign_of Double a → Foreign_of High b → Foreign_of HighAt360 c → Foreign_of Single d → Foreign_of SingleAt360 e → (disks : List ForeignDisk)
      → disks ≡ a ++ (b ++ (c ++ (d ++ (e ++ [])))) → AreForeignTold sets disks
  all_foreign is_a is_b is_c is_d is_e disks are = record {
    by_rate = each_rate a b c d e;
    told = told_each a b c d e Foreign_of is_a is_b is_c is_d is_e;
    are = are_each a b c d e disks are;
  }

pub appended : {X : Type 0} (none one two three four five a b c d e : List X) → none ≡ [] → one ≡ none ++ a → two ≡ one ++ b → three ≡ two ++ c → four ≡ three ++ d → five ≡ four ++ e
    → five ≡ a ++ (b ++ (c ++ (d ++ (e ++ []))))
appended none one two three four five a b c d e is_none is_one is_two is_three is_four is_five = rw (is_five, is_four, is_three, is_two, is_one, is_none) (simp (append_assoc, append-nil))

-- there are not too many sets
few_one : (files : ℕ) (sets : RateSets) → files ≤ 198 → HoldsFiles files sets → IsFew sets
few_one files sets low are = record {
  one = (let many = are.one in omega (arith, many, low));
  two = (let many = are.two in omega (arith, many));
}

pub few_sets : (sets : DumpSets) → AreEven sets → (rate : Rate) (heads : NamedHeads) → IsFew (sets_by sets rate heads)
few_sets sets even rate heads = few_one _ (sets_by sets rate heads) even.0 (even.1 rate heads)

-- what the sets of all files tell is what is found
pub found : (came : List Seen) (sets : DumpSets) (answer : NumbersFound) → 198 ≤ length came → HoldNoted came sets → AreTold sets answer.disks.items
    → AreForeignTold sets answer.foreign.items → FindsDisks came answer
found came sets answer many are told foreign = record {
  by_numbers = record {
    one = λ rate. (sets_by sets rate Own).one.items;
    two = λ rate. (sets_by sets rate Own).two.items;
    sets = λ rate. all rate Own;
    by_rate = told.by_rate;
    told = told.told;
    are = told.are;
  };
  foreign = record {
    first_one = λ rate. (sets_by sets rate First).one.items;
    first_two = λ rate. (sets_by sets rate First).two.items;
    first = λ rate. all rate First;
    changed_one = λ rate. (sets_by sets rate Changed).one.items;
    changed_two = λ rate. (sets_by sets rate Changed).two.items;
    changed = λ rate. all rate Changed;
    by_rate = foreign.by_rate;
    told = foreign.told;
    are = foreign.are;
  };
}
  where
    full : min (length came) 198 ≡ 198
    full = omega (arith, many)

    all : (rate : Rate) (heads : NamedHeads) → AreSetsOf heads rate came (sets_by sets rate heads).one.items (sets_by sets rate heads).two.items
    all rate heads = subst (λ (n : ℕ). AreSetsTo heads rate came n (sets_by sets rate heads).one.items (sets_by sets rate heads).two.items) full (are rate heads)
