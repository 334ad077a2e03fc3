-- Bytes that are gathered in several steps.
use Rattle.std.proofs.Common.{◌≡◌, true, false, ◌++◌, ℕ, List, [], Option, Result, Ok, Err, sym, ap, ◌∙◌, subst, append_assoc, append-nil}
use Rattle.std.specs.Io.KnownBytes.{Appends}
use Rattle.std.proofs.KnownBytes.{Appends-nil, Appends-trans}
use Rattle.flux_base.specs.Counts.{Counts}
use Rattle.flux_base.specs.Moments.{Moment, Puts}
use Rattle.flux_base.specs.Outside.{AppendsPart}
use Rattle.flux_base.specs.declared.outside.Failed.{Failed}
use Rattle.flux_base.specs.lemmas.Counting.{Counts-then}
use Rattle.flux_base.specs.lemmas.Parts.{AppendsPart-first, AppendsPart-second}
use Rattle.flux_writer.specs.inside.Gathering.{Gathers, Holds}

pub Gathers-nothing : (a : Option (List ℕ)) (held : List ℕ) → Gathers a a held held []
Gathers-nothing a held = record { taken = []; appended = Appends-nil a; whole = append-nil held }

module _ (a b c : Option (List ℕ)) (held held' first then : List ℕ) (g : Gathers a b held held' first) where
  -- all bytes, as what was taken, what is held, and what comes then
  split : held ++ (first ++ then) ≡ g.taken ++ (held' ++ then)
  split = sym (append_assoc held first then) ∙ ap (λ bytes. bytes ++ then) g.whole ∙ append_assoc g.taken held' then

  pub Gathers-more : (held'' : List ℕ) → Gathers b c held' held'' then → Gathers a c held held'' (first ++ then)
  Gathers-more held'' h = record {
    taken = g.taken ++ h.taken;
    appended = Appends-trans a b c g.taken h.taken g.appended h.appended;
    whole = split ∙ ap (λ bytes. g.taken ++ bytes) h.whole ∙ sym (append_assoc g.taken h.taken held'');
  }

  -- the sink took all that was held and what comes then
  pub Gathers-all : Appends b c (held' ++ then) → Appends a c (held ++ (first ++ then))
  Gathers-all all = subst (Appends a c) (sym split) (Appends-trans a b c g.taken (held' ++ then) g.appended all)

  -- the sink took a part of that
  pub Gathers-part : AppendsPart b c (held' ++ then) → AppendsPart a c (held ++ (first ++ then))
  Gathers-part part = subst (AppendsPart a c) (sym split) (AppendsPart-second a b c g.taken (held' ++ then) g.appended part)

-- a part of some bytes is a part of more
pub AppendsPart-longer : (a b : Option (List ℕ)) (held first then : List ℕ) → AppendsPart a b (held ++ first)
    → AppendsPart a b (held ++ (first ++ then))
AppendsPart-longer a b held first then part =
    subst (AppendsPart a b) (append_assoc held first then) (AppendsPart-first a b (held ++ first) then part)

-- the sink is given all that is held at the end
pub Gathers-given : {A T : Type 0} {old mid new : Moment A} {held held' more : List ℕ} (answer : Result T Failed)
    → Gathers old.bytes mid.bytes held held' more → Counts false old.counts mid.counts → Puts mid new held' answer → Puts old new (held ++ more) answer
Gathers-given {old = old} {mid = mid} {new = new} {held' = held'} (Ok v) g counts p = record {
  ok = subst (Appends old.bytes new.bytes) (sym g.whole) (Appends-trans old.bytes mid.bytes new.bytes g.taken held' g.appended p.ok);
  err = tt;
  counts = Counts-then false counts p.counts;
}
Gathers-given {old = old} {mid = mid} {new = new} {held' = held'} (Err failed) g counts p = record {
  ok = tt;
  err = subst (AppendsPart old.bytes new.bytes) (sym g.whole) (AppendsPart-second old.bytes mid.bytes new.bytes g.taken held' g.appended p.err);
  counts = Counts-then true counts p.counts;
}

-- a call after one that was whole
pub Holds-then : {A T U : Type 0} {old mid new : Moment A} {held held' held'' first rest : List ℕ} {u : U} (answer : Result T Failed)
    → Holds old mid held held' first (Ok u) → Holds mid new held' held'' rest answer → Holds old new held held'' (first ++ rest) answer
Holds-then {old = old} {mid = mid} {new = new} {held = held} {held' = held'} {held'' = held''} {first = first} {rest = rest} (Ok v) p q = record {
  ok = Gathers-more old.bytes mid.bytes new.bytes held held' first rest p.ok held'' q.ok;
  err = tt;
  counts = Counts-then false p.counts q.counts;
}
Holds-then {old = old} {mid = mid} {new = new} {held = held} {held' = held'} {first = first} {rest = rest} (Err failed) p q = record {
  ok = tt;
  err = Gathers-part old.bytes mid.bytes new.bytes held held' first rest p.ok q.err;
  counts = Counts-then true p.counts q.counts;
}

-- a part of some bytes is a part of more
pub Holds-cut : {A T U : Type 0} {old new : Moment A} {held held' held'' first : List ℕ} {failed failed' : Failed} (rest : List ℕ)
    → Holds {T = T} old new held held' first (Err failed) → Holds {T = U} old new held held'' (first ++ rest) (Err failed')
Holds-cut {old = old} {new = new} {held = held} {first = first} rest p = record {
  ok = tt;
  err = AppendsPart-longer old.bytes new.bytes held first rest p.err;
  counts = p.counts;
}
