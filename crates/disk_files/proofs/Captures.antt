-- A capture with a text in front of it is a capture.
use Rattle.std.proofs.Common.{ℕ, ◌+◌, ◌++◌, Bool, List, length, subst, sym, arith, length-append}
use Rattle.phase_loop.specs.Carried.{AreClose, Carried, KeepsSpeed, OFF_START}
use Rattle.std.specs.Prelude.{slice_index}
use Rattle.stream_texts.specs.Texts.{IsBehindText, text_block}
use Rattle.flux_engine.specs.Captures.{Capture, IsSteady, mean_cell}

module _ (text x : List ℕ) (ring : List Bool) (nominal : ℕ) (behind : IsBehindText text x) (capture : Capture x ring nominal) where
  abbrev y : List ℕ
  y = text_block text ++ x

  pub captures : Capture y ring nominal
  captures = record {
    no_fault = behind.no_fault;
    whole = omega (arith, behind.whole, capture.whole, length-append (text_block text) x);
    places = capture.places;
    periods = capture.periods;
    carried = subst (λ (ts : List ℕ). Carried ts ring nominal capture.places capture.periods) (sym behind.times_are) capture.carried;
    two_turns = capture.two_turns;
    start = subst (λ (is : List ℕ). AreClose OFF_START nominal (mean_cell is (length ring)) (slice_index capture.periods 0)) (sym behind.indexes_are) capture.start;
  }

  pub steady : IsSteady x ring nominal capture → IsSteady y ring nominal captures
  unfolding captures
  steady keeps = subst (λ (is : List ℕ). KeepsSpeed nominal (mean_cell is (length ring)) capture.periods) (sym behind.indexes_are) keeps
