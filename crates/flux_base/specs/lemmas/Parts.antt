-- Laws of bytes that are written in several pieces, for proofs about callers of `write_whole`.
use Rattle.std.proofs.Common.{ℕ, true, false, ◌+◌, ◌≤◌, ◌<◌, List, ◌++◌, length, take, Option}
use Rattle.std.proofs.Common.{Result, Ok, Err, arith, sym, subst, length-append}
use Rattle.std.proofs.lemmas.List.{take-append-le}
use Rattle.std.proofs.Math.Seq.{take-append-add}
use Rattle.std.proofs.KnownBytes.{Appends-trans}
use Rattle.std.specs.Io.KnownBytes.{Appends}
use Rattle.flux_base.specs.Moments.{Moment, Puts}
use Rattle.flux_base.specs.lemmas.Counting.{Counts-then}
use Rattle.flux_base.specs.Outside.{AppendsPart}
use Rattle.flux_base.specs.declared.outside.Failed.{Failed}

-- a part of the first piece is a part of both
pub AppendsPart-first : (old new : Option (List ℕ)) (piece more : List ℕ)
    → AppendsPart old new piece → AppendsPart old new (piece ++ more)
AppendsPart-first old new piece more (n, within, appended) =
    let bound : n ≤ length piece = omega (arith, within) in
    let whole : n < length (piece ++ more) = omega (arith, within, length-append piece more) in
    (n, whole, subst (Appends old new) (sym (take-append-le n piece more bound)) appended)

-- the first piece whole, and a part of the second
pub AppendsPart-second : (old mid new : Option (List ℕ)) (piece more : List ℕ)
    → Appends old mid piece → AppendsPart mid new more
    → AppendsPart old new (piece ++ more)
AppendsPart-second old mid new piece more first (n, within, appended) =
    let whole : length piece + n < length (piece ++ more) =
    omega (arith, within, length-append piece more) in (
      length piece + n,
      whole,
      subst (Appends old new) (sym (take-append-add piece more n))
          (Appends-trans old mid new piece (take n more) first appended),
    )

-- a call after one that was whole
pub Puts-then : {A T U : Type 0} {old mid new : Moment A} {first rest : List ℕ} {u : U}
    (answer : Result T Failed)
    → Puts old mid first (Ok u)
    → Puts mid new rest answer → Puts old new (first ++ rest) answer
Puts-then {old = old} {mid = mid} {new = new} {first = first} {rest = rest} (Ok v) p q = record {
  ok = Appends-trans old.bytes mid.bytes new.bytes first rest p.ok q.ok;
  err = tt;
  counts = Counts-then false p.counts q.counts;
}
Puts-then {old = old} {mid = mid} {new = new} {first = first} {rest = rest} (Err failed) p q =
    record {
      ok = tt;
      err = AppendsPart-second old.bytes mid.bytes new.bytes first rest p.ok q.err;
      counts = Counts-then true p.counts q.counts;
    }

-- a part of some bytes is a part of more
pub Puts-cut : {A T U : Type 0} {old new : Moment A} {first : List ℕ} {failed failed' : Failed}
    (rest : List ℕ)
    → Puts {T = T} old new first (Err failed)
    → Puts {T = U} old new (first ++ rest) (Err failed')
Puts-cut {old = old} {new = new} {first = first} rest p = record {
  ok = tt;
  err = AppendsPart-first old.bytes new.bytes first rest p.err;
  counts = p.counts;
}
