use Rattle.std.proofs.Common.{◌≡◌, ◌≤◌, ◌+◌, ◌-◌, ◌/◌, ◌++◌, ℕ, [], length, take, drop, refl, arith, length-append, length-drop}
use Rattle.std.proofs.KnownBytes.{Consumes-nil, Consumes-trans}
use Rattle.std.proofs.lemmas.List.{length-take-le}
use Rattle.flux_base.specs.lemmas.Counting.{Counts-none, Counts-then}
use Rattle.scp_files.proofs.Noting.{Noted-bytes, Noted-none, length-words, reads_then}
use Rattle.scp_files.proofs.capture.Capture.read_entries.Goals as goal

pub loop-left-init : goal.loop-left-init
loop-left-init g c = record {
  taken = [];
  consumed = Consumes-nil _;
  half = c.args.count;
  even = refl;
  size = omega arith;
  room = refl;
  noted = Noted-none _;
  counts = Counts-none _;
}

pub read_piece-requires : goal.read_piece-requires
read_piece-requires g c =
    let i = c.loop-left.invariant in
    let p : ℕ = c.min-piece.result in
    let short : p ≤ length c.loop-left.buffer = omega (arith, c.min-piece.ensures, i.room) in
    let few = length-words (c.args.count - i.half) i.taken (omega (arith, i.size, i.even)) in
    record {
      few = omega (
        arith,
        c.min-piece.ensures,
        length-take-le p c.loop-left.buffer short,
        i.noted.entries,
        few,
        i.size,
        i.even,
        c.requires.few,
      );
    }

pub loop-left-preserved : goal.loop-left-preserved
loop-left-preserved g c =
    let i = c.loop-left.invariant in
    let p : ℕ = c.min-piece.result in
    let short : p ≤ length c.loop-left.buffer = omega (arith, c.min-piece.ensures, i.room) in
    let now = c.in-Ok.ensures.reads in
    let size : length (take p c.loop-left.buffer) ≡ p = length-take-le p c.loop-left.buffer short in
    record {
      taken = i.taken ++ now.0;
      consumed = Consumes-trans _ _ _ i.taken now.0 i.consumed now.1;
      half = i.half - p / 2;
      even = omega (arith, c.min-piece.ensures, i.even);
      size = omega (arith, length-append i.taken now.0, now.2, size, i.size, c.min-piece.ensures);
      room = omega (
        arith,
        length-append c.read_piece.new.buffer (drop p c.loop-left.buffer),
        length-drop p c.loop-left.buffer,
        c.in-Ok.ensures.len,
        size,
        i.room,
        short,
      );
      noted = Noted-bytes (c.args.count - i.half) i.taken now.0 _ _ _ (omega (arith, i.size, i.even)) i.noted now.3;
      counts = Counts-then _ i.counts c.in-Ok.ensures.counts;
    }

pub returns-in-Err-clause-reads : goal.returns-in-Err-clause-reads
returns-in-Err-clause-reads g c =
    let i = c.loop-left.invariant in
    let p : ℕ = c.min-piece.result in
    let short : p ≤ length c.loop-left.buffer = omega (arith, c.min-piece.ensures, i.room) in
    reads_then _ _ _ i.taken _ _ _ _ _ c.in-Err.fault i.consumed
    (omega (arith, length-take-le p c.loop-left.buffer short, i.size, c.min-piece.ensures)) i.noted c.in-Err.ensures.reads
