use Rattle.std.proofs.Common.{◌≡◌, ◌<◌, ◌==◌, ◌∙◌, ℕ, Err, Ok, false, refl, subst, arith}
use Rattle.flux_base.specs.Blames.{no_counts}
use Rattle.flux_base.specs.lemmas.Blaming.{CountsBy-image, CountsBy-none, CountsBy-source, CountsBy-then}
use Rattle.stream_files.specs.Answers.{SplitsStreams}
use Rattle.stream_files.specs.Streams.{SplitFolder, most_streams}
use Rattle.stream_files.specs.declared.fault.SplitFault.TheVariants.{NoName}
use Rattle.stream_files.proofs.Ending.{blames-stopped, has-more, has-none, later_is, never-there, positive, says-all, says-beyond, says-stopped, says-unread, some_later, some_names}
use Rattle.stream_files.proofs.splitting.split_all.Goals as goal

pub loop-stream-init : goal.loop-stream-init
loop-stream-init g c = record {
  split = has-none (record { folder = c.args.folder.now; heads = c.args.heads }) (g.S.Source.left c.args.source.now) c.args.ahead.now (g.M.FileMaker.made c.args.maker.now) c.requires.nothing;
  blames = CountsBy-none _;
}

pub returns-in-Ok-false-clause-split : goal.returns-in-Ok-false-clause-split
returns-in-Ok-false-clause-split g c =
    let split : SplitFolder = record { folder = c.args.folder.now; heads = c.args.heads } in
    let found = rw c.in-Ok-false.field-0-test at c.in-Ok-false.ensures.found in
    says-all split _ _ _ (g.M.FileMaker.made c.args.maker.now) (g.M.FileMaker.made c.loop-stream.maker) c.loop-stream.ahead c.loop-stream.stream c.loop-stream.invariant.split c.requires.none
    (c.loop-stream.stream == 0) (later_is c.loop-stream.stream) c.find.new.self (positive c.loop-stream.stream found.2) found

pub returns-in-Err-clause-split : goal.returns-in-Err-clause-split
returns-in-Err-clause-split g c =
    let split : SplitFolder = record { folder = c.args.folder.now; heads = c.args.heads } in
    says-unread split _ _ _ (g.M.FileMaker.made c.args.maker.now) (g.M.FileMaker.made c.loop-stream.maker) c.loop-stream.ahead c.loop-stream.stream c.loop-stream.invariant.split c.requires.none
    (c.loop-stream.stream == 0) (later_is c.loop-stream.stream) c.find.new.self c.in-Err.field-0 c.in-Err.ensures.found

pub returns-in-Err-clause-blames : goal.returns-in-Err-clause-blames
returns-in-Err-clause-blames g c = CountsBy-then _ c.loop-stream.invariant.blames (CountsBy-source _ no_counts _ c.in-Err.ensures.counts)

pub returns-in-Err-split_one-clause-split : goal.returns-in-Err-split_one-clause-split
returns-in-Err-split_one-clause-split g c =
    let split : SplitFolder = record { folder = c.args.folder.now; heads = c.args.heads } in
    let found = rw c.in-Ok-true.field-0-test at c.in-Ok-true.ensures.found in
    says-stopped split _ _ _ (g.M.FileMaker.made c.args.maker.now) (g.M.FileMaker.made c.loop-stream.maker) c.loop-stream.ahead c.loop-stream.stream c.loop-stream.invariant.split c.requires.none
    (c.loop-stream.stream == 0) (later_is c.loop-stream.stream) c.find.new.self found c.split_one.new.ahead (g.M.FileMaker.made c.split_one.new.maker)
    (omega (arith, c.loop-stream-test.true, c.most_streams-most.ensures)) c.in-Err-split_one.fault c.in-Err-split_one.ensures.one

pub returns-in-Err-split_one-clause-read : goal.returns-in-Err-split_one-clause-read
returns-in-Err-split_one-clause-read g c =
    never-there (record { folder = c.args.folder.now; heads = c.args.heads }) c.loop-stream.stream c.find.new.self c.split_one.new.ahead (g.M.FileMaker.made c.loop-stream.maker)
    (g.M.FileMaker.made c.split_one.new.maker) c.in-Err-split_one.fault c.in-Err-split_one.ensures.one

pub returns-in-Err-split_one-clause-blames : goal.returns-in-Err-split_one-clause-blames
returns-in-Err-split_one-clause-blames g c =
    let read = c.in-Ok-true.ensures.counts in
    CountsBy-then _ (CountsBy-then _ c.loop-stream.invariant.blames (CountsBy-source _ no_counts false read))
    (blames-stopped (record { folder = c.args.folder.now; heads = c.args.heads }) c.loop-stream.stream c.find.new.self c.split_one.new.ahead (g.M.FileMaker.made c.loop-stream.maker)
    (g.M.FileMaker.made c.split_one.new.maker) c.in-Err-split_one.fault c.in-Err-split_one.ensures.one _ _ _ c.in-Err-split_one.ensures.counts)

pub loop-stream-preserved : goal.loop-stream-preserved
loop-stream-preserved g c =
    let split : SplitFolder = record { folder = c.args.folder.now; heads = c.args.heads } in
    let found = rw c.in-Ok-true.field-0-test at c.in-Ok-true.ensures.found in
    let read = c.in-Ok-true.ensures.counts in record {
      split = has-more split _ _ _ (g.M.FileMaker.made c.args.maker.now) (g.M.FileMaker.made c.loop-stream.maker) c.loop-stream.ahead c.loop-stream.stream c.loop-stream.invariant.split c.requires.none
          (c.loop-stream.stream == 0) (later_is c.loop-stream.stream) c.find.new.self found c.split_one.new.ahead (g.M.FileMaker.made c.split_one.new.maker) c.in-Ok.field-0 c.in-Ok.ensures.one;
      blames = CountsBy-then _ (CountsBy-then _ c.loop-stream.invariant.blames (CountsBy-source _ no_counts false read)) (CountsBy-image _ no_counts false c.in-Ok.ensures.counts);
    }

pub returns-in-Ok-true-find-clause-split : goal.returns-in-Ok-true-find-clause-split
returns-in-Ok-true-find-clause-split g c =
    let split : SplitFolder = record { folder = c.args.folder.now; heads = c.args.heads } in
    let same : c.loop-stream.stream ≡ c.most_streams-most.result = omega (arith, c.loop-stream-test.false, c.loop-stream.auto.stream-end) in
    let all : c.loop-stream.stream ≡ most_streams c.args.heads = same ∙ c.most_streams-most.ensures in
    let some : 0 < c.loop-stream.stream = omega (arith, all, some_names c.args.heads) in
    let found = rw c.in-Ok-true-find.field-0-test at c.in-Ok-true-find.ensures.found in
    subst (λ (k : ℕ). SplitsStreams split (g.S.Source.left c.args.source.now) (g.S.Source.left c.find-2.new.source) (g.M.FileMaker.made c.args.maker.now)
    (g.M.FileMaker.made c.loop-stream.maker) (Err (NoName k))) same
    (says-beyond split _ _ _ (g.M.FileMaker.made c.args.maker.now) (g.M.FileMaker.made c.loop-stream.maker) c.loop-stream.ahead c.loop-stream.stream c.loop-stream.invariant.split c.requires.none
    false (some_later c.loop-stream.stream some) c.find-2.new.self found refl all)

pub returns-in-Ok-false-find-clause-split : goal.returns-in-Ok-false-find-clause-split
returns-in-Ok-false-find-clause-split g c =
    let split : SplitFolder = record { folder = c.args.folder.now; heads = c.args.heads } in
    let same : c.loop-stream.stream ≡ c.most_streams-most.result = omega (arith, c.loop-stream-test.false, c.loop-stream.auto.stream-end) in
    let all : c.loop-stream.stream ≡ most_streams c.args.heads = same ∙ c.most_streams-most.ensures in
    let some : 0 < c.loop-stream.stream = omega (arith, all, some_names c.args.heads) in
    let found = rw c.in-Ok-false-find.field-0-test at c.in-Ok-false-find.ensures.found in
    subst (λ (k : ℕ). SplitsStreams split (g.S.Source.left c.args.source.now) (g.S.Source.left c.find-2.new.source) (g.M.FileMaker.made c.args.maker.now)
    (g.M.FileMaker.made c.loop-stream.maker) (Ok k)) same
    (says-all split _ _ _ (g.M.FileMaker.made c.args.maker.now) (g.M.FileMaker.made c.loop-stream.maker) c.loop-stream.ahead c.loop-stream.stream c.loop-stream.invariant.split c.requires.none
    false (some_later c.loop-stream.stream some) c.find-2.new.self some found)

pub returns-in-Err-find-clause-split : goal.returns-in-Err-find-clause-split
returns-in-Err-find-clause-split g c =
    let split : SplitFolder = record { folder = c.args.folder.now; heads = c.args.heads } in
    let same : c.loop-stream.stream ≡ c.most_streams-most.result = omega (arith, c.loop-stream-test.false, c.loop-stream.auto.stream-end) in
    let all : c.loop-stream.stream ≡ most_streams c.args.heads = same ∙ c.most_streams-most.ensures in
    let some : 0 < c.loop-stream.stream = omega (arith, all, some_names c.args.heads) in
    says-unread split _ _ _ (g.M.FileMaker.made c.args.maker.now) (g.M.FileMaker.made c.loop-stream.maker) c.loop-stream.ahead c.loop-stream.stream c.loop-stream.invariant.split c.requires.none
    false (some_later c.loop-stream.stream some) c.find-2.new.self c.in-Err-find.field-0 c.in-Err-find.ensures.found
