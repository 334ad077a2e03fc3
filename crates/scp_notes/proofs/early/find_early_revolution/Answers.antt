use Rattle.std.proofs.Common.{◌≡◌, ◌<◌, ◌≤◌, ◌⊎◌, ◌+◌, ◌-◌, ◌*◌, true, false, inl, inr, drop, length, sym, ap, subst, ◌∙◌, arith}
use Rattle.std.proofs.lemmas.Bool.Decides.{nat_tests}
use Rattle.flux_base.specs.lemmas.Counting.{Counts-then}
use Rattle.scp_files.specs.Tracks.{MOST_ENTRIES, revolution_at}
use Rattle.scp_files.specs.declared.head.Revolution.{Revolution}
use Rattle.scp_tracks.specs.lemmas.Failing.{none-failed}
use Rattle.track_shelf.specs.Told.{ShelfTold}
use Rattle.scp_notes.specs.inside.Walk.{HasPassed}
use Rattle.scp_notes.proofs.Passing.{ends-all, ends-short, ends-untold, falls-short, pass-on, reaches}
use Rattle.scp_notes.proofs.early.find_early_revolution.Goals.{then-revolution-eq0-via-then-revolution-eq0, then-revolution-eq0-via-else-revolution-eq0+then-entries-gt-MOST_ENTRIES}
use Rattle.scp_notes.proofs.early.find_early_revolution.Goals as goal

pub returns-then-revolution-eq0-clause-is : goal.returns-then-revolution-eq0-clause-is
returns-then-revolution-eq0-clause-is g c files file told at head =
    let track = drop c.args.place.offset file.bytes in
    let R = c.args.place.revolutions in
    let k = c.loop-number.number in
    let e = c.revolution-revolution.result.entries in
    let is : c.revolution-revolution.result ≡ revolution_at track k =
    c.revolution-revolution.ensures ∙ ap (λ h. revolution_at h k) head ∙ (c.begins_tell.ensures.tracks R track).revolution k c.loop-number-test.true in
    let either : (e ≡ 0) ⊎ (MOST_ENTRIES < c.loop-number.entries + e) =
    elim c.then-revolution-eq0.branch [
      | then-revolution-eq0-via-then-revolution-eq0 w ↦ inl w.if-revolution-eq0.true
      | then-revolution-eq0-via-else-revolution-eq0+then-entries-gt-MOST_ENTRIES w ↦ inr (omega (arith, w.if-entries-gt-MOST_ENTRIES.true, c.from-entries.ensures))
    ] in
    ends-untold R track k c.loop-number.entries (c.loop-number.invariant.passed files file told at head) (c.begins_tell.ensures.goes_on track k) e
    (ap (λ (r : Revolution). r.entries) is) c.loop-number-test.true either

pub returns-in-Ok-false-clause-is : goal.returns-in-Ok-false-clause-is
returns-in-Ok-false-clause-is g c files file told at head =
    let track = drop c.args.place.offset file.bytes in
    let R = c.args.place.revolutions in
    let k = c.loop-number.number in
    let is : c.revolution-revolution.result ≡ revolution_at track k =
    c.revolution-revolution.ensures ∙ ap (λ h. revolution_at h k) head ∙ (c.begins_tell.ensures.tracks R track).revolution k c.loop-number-test.true in
    let entries = ap (λ (r : Revolution). r.entries) is in
    let offset = ap (λ (r : Revolution). r.offset) is in
    let it = revolution_at track k in
    let same = ap (λ (t : ShelfTold). t.files) c.loop-number.invariant.told in
    let place = c.from.result + c.from-in-loop-number.result + 2 * c.from-in-loop-number-2.result - 1 in
    let some : 0 < it.entries = omega (arith, c.if-revolution-eq0.false, entries) in
    let next : place + 1 ≡ c.args.place.offset + it.offset + 2 * it.entries =
    omega (arith, c.from.ensures, c.from-in-loop-number.ensures, c.from-in-loop-number-2.ensures, offset, entries, some) in
    let has = sym (c.in-Ok-false.ensures.is files file (same ∙ told) at) ∙ c.in-Ok-false.field-0-test in
    let none : length (drop place file.bytes) ≤ 0 = grind (arith, nat_tests, has) in
    c.some_whole.ensures
    ∙ ends-short R track k c.loop-number.entries (c.loop-number.invariant.passed files file told at head) (c.begins_tell.ensures.goes_on track k)
    c.loop-number-test.true some (omega (arith, c.if-entries-gt-MOST_ENTRIES.false, c.from-entries.ensures, entries))
    (falls-short file.bytes c.args.place.offset it.offset it.entries place some next none)

pub loop-number-preserved : goal.loop-number-preserved
loop-number-preserved g c = record {
  passed = λ files file told at head.
      let track = drop c.args.place.offset file.bytes in
      let R = c.args.place.revolutions in
      let k = c.loop-number.number in
      let is : c.revolution-revolution.result ≡ revolution_at track k =
      c.revolution-revolution.ensures ∙ ap (λ h. revolution_at h k) head ∙ (c.begins_tell.ensures.tracks R track).revolution k c.loop-number-test.true in
      let entries = ap (λ (r : Revolution). r.entries) is in
      let offset = ap (λ (r : Revolution). r.offset) is in
      let it = revolution_at track k in
      let same = ap (λ (t : ShelfTold). t.files) c.loop-number.invariant.told in
      let place = c.from.result + c.from-in-loop-number.result + 2 * c.from-in-loop-number-2.result - 1 in
      let some : 0 < it.entries = omega (arith, c.if-revolution-eq0.false, entries) in
      let next : place + 1 ≡ c.args.place.offset + it.offset + 2 * it.entries =
      omega (arith, c.from.ensures, c.from-in-loop-number.ensures, c.from-in-loop-number-2.ensures, offset, entries, some) in
      let has = sym (c.in-Ok-true.ensures.is files file (same ∙ told) at) ∙ c.in-Ok-true.field-0-test in
      let more : 0 < length (drop place file.bytes) = grind (arith, nat_tests, has) in
      subst (λ n. HasPassed R track (k + 1) (c.loop-number.entries + n)) (sym (c.from-entries.ensures ∙ entries))
      (pass-on R track k c.loop-number.entries (c.loop-number.invariant.passed files file told at head) (c.begins_tell.ensures.goes_on track k)
      c.loop-number-test.true some (omega (arith, c.if-entries-gt-MOST_ENTRIES.false, c.from-entries.ensures, entries))
      (reaches file.bytes c.args.place.offset it.offset it.entries place some next more));
  few = omega (arith, c.if-entries-gt-MOST_ENTRIES.false);
  told = c.in-Ok-true.ensures.told ∙ none-failed _ ∙ c.loop-number.invariant.told;
  counts = Counts-then _ c.loop-number.invariant.counts c.in-Ok-true.ensures.counts;
}

pub returns-clause-is : goal.returns-clause-is
returns-clause-is g c files file told at head =
    let track = drop c.args.place.offset file.bytes in
    let R = c.args.place.revolutions in
    let all : c.loop-number.number ≡ R = omega (arith, c.loop-number-test.false, c.loop-number.auto.number-end) in
    ends-all R track c.loop-number.entries
    (subst (λ k. HasPassed R track k c.loop-number.entries) all (c.loop-number.invariant.passed files file told at head))
