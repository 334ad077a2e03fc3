-- What the calls that tell a dump's turns say together.
use Rattle.std.proofs.Common.{◌≡◌, ◌++◌, ◌∷◌, [], ℕ, List, length, Option, Some, None, refl, subst, ap, arith}
use Rattle.std.proofs.KnownBytes.{Appends-trans}
use Rattle.std.specs.Io.KnownBytes.{Appends}
use Rattle.flux_base.specs.Outside.{AppendsPart}
use Rattle.track_shelf.specs.Files.{File}
use Rattle.dump_reading.specs.Files.{ShelfNow}
use Rattle.dump_turns.specs.Files.{AreFound, means_in}
use Rattle.dump_turns.specs.Lines.{end_text, file_lines, totals_of}
use Rattle.dump_turns.specs.Outcomes.{HasFoundAll, HasMeasured, IsReachTold, WroteIntoEnd, WroteIntoFile, WroteTurns}
use Rattle.dump_turns.specs.Reaches.{IsBoundedReach, IsReachOf}
use Rattle.dump_turns.specs.Spreads.{IsSpreadOf}
use Rattle.dump_turns.specs.declared.found.Found.{Found}
use Rattle.dump_turns.specs.declared.reach.Reach.{Reach}
use Rattle.dump_turns.specs.declared.spread.Spread.{Spread}
use Rattle.dump_turns.specs.declared.totals.TurnTotals.{TurnTotals}
use Rattle.dump_turns.specs.inside.Told.{CutFile, ToldAll}
use Rattle.dump_turns.proofs.Founds.{and-part}
use Rattle.dump_turns.proofs.Losses.{lost-in}

-- how far the files reach, where they are told
pub reach-told : (told : Option (List File)) (dump : List ℕ) (reach : Option Reach) → ((files : List File) → told ≡ Some files → IsReachOf files dump reach) → IsReachTold told dump reach
reach-told None dump reach says = tt
reach-told (Some files) dump reach says = says files refl

module _ (dump : List ℕ) (start now : ShelfNow) (reach : Reach) (is : IsReachTold start.told.files dump (Some reach)) (bounded : IsBoundedReach reach) (founds : List Found)
    (are : AreFound dump reach start now founds) (old mid new : Option (List ℕ)) where
  -- the line of a file was cut
  pub file-cut : CutFile reach old mid founds → WroteIntoFile dump start now old mid
  file-cut cut = record {
    reach = reach;
    founds = cut.before;
    next = cut.next;
    found = record {
      reach_is = is;
      bounded = bounded;
      few = (let few = cut.few in let same : length founds ≡ length (cut.before ++ cut.next ∷ []) = ap length cut.are in omega (arith, few, same));
      are = subst (AreFound dump reach start now) cut.are are;
    };
    grew = cut.grew;
  }

  module _ (told : ToldAll reach old mid founds) (spread : Option Spread) (apart : IsSpreadOf (means_in founds) spread) where
    all-found : HasFoundAll dump start now reach founds spread
    all-found = record {
      found = record { reach_is = is; bounded = bounded; few = (let all = told.all in omega (arith, all)); are = are };
      all = told.all;
      apart = apart;
    }

    -- all were measured
    pub all-measured : (totals : TurnTotals) → totals ≡ totals_of founds spread → HasMeasured dump start now founds (record { reach = reach; spread = spread; totals = totals })
    unfolding all-found
    all-measured totals same = record {
      all = all-found;
      totals_are = same;
      lost = lost-in are.came founds spread totals same are.many are.told;
    }

    -- the lines behind those of the files were
    pub end-cut : AppendsPart mid new (end_text reach founds spread) → WroteIntoEnd dump start now old new
    end-cut here = record {
      reach = reach;
      founds = founds;
      spread = spread;
      all = all-found;
      grew = and-part old mid new (file_lines reach founds) (end_text reach founds spread) told.grew here;
    }

    -- all were written
    pub all-told : (totals : TurnTotals) → totals ≡ totals_of founds spread → Appends mid new (end_text reach founds spread) → WroteTurns dump start now old new totals
    all-told totals same here = record {
      reach = reach;
      founds = founds;
      spread = spread;
      all = all-found;
      grew = Appends-trans old mid new (file_lines reach founds) (end_text reach founds spread) told.grew here;
      totals_are = same;
    }
