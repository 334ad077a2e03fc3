use Rattle.std.proofs.Common.{◌≡◌, ◌+◌, true, false, drop, sym, ap, subst, ◌∙◌, arith}
use Rattle.flux_base.specs.lemmas.Counting.{Counts-then}
use Rattle.scp_files.specs.Tracks.{revolution_at}
use Rattle.scp_files.specs.declared.head.Revolution.{Revolution}
use Rattle.track_shelf.specs.Told.{ShelfTold}
use Rattle.scp_tracks.specs.inside.Places.{ReadsAt}
use Rattle.scp_tracks.specs.inside.Walk.{HasWalked}
use Rattle.scp_tracks.specs.lemmas.Failing.{none-failed}
use Rattle.scp_tracks.proofs.Walking.{behind, ends-all, ends-long, ends-over, ends-short, few-enough, read-so-many, still, too-many, walk-on}
use Rattle.scp_tracks.proofs.track.read_revolutions.Goals as goal

pub returns-then-revolution-eq0-clause-is : goal.returns-then-revolution-eq0-clause-is
returns-then-revolution-eq0-clause-is g c files file told at head =
    let track = drop c.args.place.offset file.bytes in
    let R = c.args.place.revolutions in
    let k = c.loop-number.number in
    let is : c.revolution-revolution.result ≡ revolution_at track k =
    c.revolution-revolution.ensures ∙ ap (λ h. revolution_at h k) head ∙ (c.begins_tell.ensures.tracks R track).revolution k c.loop-number-test.true in
    ends-over R track k c.loop-number.capture (c.loop-number.invariant.walked files file told at head) c.loop-number-test.true
    (sym (ap (λ (r : Revolution). r.entries) is) ∙ c.if-revolution-eq0.true)

pub returns-then-revolution-eq0-clause-told : goal.returns-then-revolution-eq0-clause-told
returns-then-revolution-eq0-clause-told g c = c.loop-number.invariant.told ∙ sym (none-failed _)

pub returns-then-not-takes-clause-is : goal.returns-then-not-takes-clause-is
returns-then-not-takes-clause-is g c files file told at head =
    let track = drop c.args.place.offset file.bytes in
    let R = c.args.place.revolutions in
    let k = c.loop-number.number in
    let capture = c.loop-number.capture in
    let is : c.revolution-revolution.result ≡ revolution_at track k =
    c.revolution-revolution.ensures ∙ ap (λ h. revolution_at h k) head ∙ (c.begins_tell.ensures.tracks R track).revolution k c.loop-number-test.true in
    let entries = ap (λ (r : Revolution). r.entries) is in
    let walked = c.loop-number.invariant.walked files file told at head in
    let so_many = read-so-many R track k capture walked in
    let many = too-many (capture.entries + c.revolution-revolution.result.entries) capture.revolutions (sym c.takes.ensures ∙ c.if-not-takes.true)
    (omega (arith, so_many, c.loop-number-test.true, c.requires.revolutions)) in
    ends-long R track k capture walked (c.begins_tell.ensures.goes_on track k) c.loop-number-test.true (omega (arith, c.if-revolution-eq0.false, entries))
    (omega (arith, many, entries))

pub returns-in-Ok-false-clause-is : goal.returns-in-Ok-false-clause-is
returns-in-Ok-false-clause-is g c files file told at head =
    let track = drop c.args.place.offset file.bytes in
    let R = c.args.place.revolutions in
    let k = c.loop-number.number in
    let capture = c.loop-number.capture in
    let is : c.revolution-revolution.result ≡ revolution_at track k =
    c.revolution-revolution.ensures ∙ ap (λ h. revolution_at h k) head ∙ (c.begins_tell.ensures.tracks R track).revolution k c.loop-number-test.true in
    let entries = ap (λ (r : Revolution). r.entries) is in
    let offset = ap (λ (r : Revolution). r.offset) is in
    let walked = c.loop-number.invariant.walked files file told at head in
    let few = few-enough (capture.entries + c.revolution-revolution.result.entries) capture.revolutions (sym c.takes.ensures ∙ c.if-not-takes.false) in
    let same_files = ap (λ (t : ShelfTold). t.files) c.loop-number.invariant.told in
    let reads = rw c.in-Ok-false.field-0-test at (c.in-Ok-false.ensures.is files file (same_files ∙ told) at) in
    let place : c.from.result + c.from-in-loop-number.result ≡ c.args.place.offset + (revolution_at track k).offset =
    omega (arith, c.from.ensures, c.from-in-loop-number.ensures, offset) in
    let there = ap (λ n. drop n file.bytes) place ∙ behind file.bytes c.args.place.offset (revolution_at track k).offset in
    let new = c.read_revolution.new.capture in
    let held = subst (λ r. ReadsAt (drop (revolution_at track k).offset track) r capture new false) is
    (subst (λ x. ReadsAt x c.revolution-revolution.result capture new false) there reads) in
    let on = still R track k capture new walked held.1 in
    ends-short R track k new on (c.begins_tell.ensures.goes_on track k) c.loop-number-test.true (omega (arith, c.if-revolution-eq0.false, entries))
    (omega (arith, few, entries, on.entries, walked.entries)) held.0

pub loop-number-preserved : goal.loop-number-preserved
loop-number-preserved g c = record {
  walked = λ files file told at head.
      let track = drop c.args.place.offset file.bytes in
      let R = c.args.place.revolutions in
      let k = c.loop-number.number in
      let capture = c.loop-number.capture in
      let is : c.revolution-revolution.result ≡ revolution_at track k =
      c.revolution-revolution.ensures ∙ ap (λ h. revolution_at h k) head ∙ (c.begins_tell.ensures.tracks R track).revolution k c.loop-number-test.true in
      let entries = ap (λ (r : Revolution). r.entries) is in
      let offset = ap (λ (r : Revolution). r.offset) is in
      let walked = c.loop-number.invariant.walked files file told at head in
      let few = few-enough (capture.entries + c.revolution-revolution.result.entries) capture.revolutions (sym c.takes.ensures ∙ c.if-not-takes.false) in
      let same_files = ap (λ (t : ShelfTold). t.files) c.loop-number.invariant.told in
      let reads = rw c.in-Ok-true.field-0-test at (c.in-Ok-true.ensures.is files file (same_files ∙ told) at) in
      let place : c.from.result + c.from-in-loop-number.result ≡ c.args.place.offset + (revolution_at track k).offset =
      omega (arith, c.from.ensures, c.from-in-loop-number.ensures, offset) in
      let there = ap (λ n. drop n file.bytes) place ∙ behind file.bytes c.args.place.offset (revolution_at track k).offset in
      let new = c.read_revolution.new.capture in
      let held = subst (λ r. ReadsAt (drop (revolution_at track k).offset track) r capture new true) is
      (subst (λ x. ReadsAt x c.revolution-revolution.result capture new true) there reads) in
      walk-on R track k capture walked (c.begins_tell.ensures.goes_on track k) new c.loop-number-test.true (omega (arith, c.if-revolution-eq0.false, entries))
      (omega (arith, few, entries)) held;
  resolution = c.read_revolution.ensures.resolution ∙ c.loop-number.invariant.resolution;
  told = c.in-Ok-true.ensures.told ∙ none-failed _ ∙ c.loop-number.invariant.told;
  counts = Counts-then _ c.loop-number.invariant.counts c.in-Ok-true.ensures.counts;
}

pub returns-clause-is : goal.returns-clause-is
returns-clause-is g c files file told at head =
    let track = drop c.args.place.offset file.bytes in
    let R = c.args.place.revolutions in
    let walked = c.loop-number.invariant.walked files file told at head in
    let all : c.loop-number.number ≡ R = omega (arith, c.loop-number-test.false, c.loop-number.auto.number-end) in
    ends-all R track c.loop-number.capture (subst (λ k. HasWalked R track k c.loop-number.capture) all walked)
