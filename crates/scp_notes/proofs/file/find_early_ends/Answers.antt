use Rattle.std.proofs.Common.{◌≡◌, None, sym, ap, ◌∙◌, arith}
use Rattle.std.specs.List.{filter_map, range_with_len}
use Rattle.flux_base.specs.lemmas.Counting.{Counts-then}
use Rattle.track_shelf.specs.Told.{ShelfTold}
use Rattle.scp_files.specs.lemmas.Beginnings.{sized}
use Rattle.scp_tracks.specs.lemmas.Failing.{none-failed}
use Rattle.scp_notes.specs.Files.{early_end}
use Rattle.scp_notes.proofs.Finding.{no-track, track-more}
use Rattle.scp_notes.proofs.file.find_early_ends.Goals as goal

pub revolutions-requires : goal.revolutions-requires
revolutions-requires g c = sized c.args.header.now c.requires

pub loop-number-preserved-in_default : goal.loop-number-preserved-in_default
loop-number-preserved-in_default g c =
    let so_far = c.loop-number.invariant in
    let none : None ≡ _ = sym c.in_default.is ∙ c.track.ensures in record {
      ends = λ files file told at front. no-track c.begins_tell.ensures.files file.bytes c.args.header.now front c.loop-number.ends.items c.loop-number.number
          (so_far.ends files file told at front) none;
      few = omega (arith, so_far.few);
      told = so_far.told;
      counts = so_far.counts;
    }

pub loop-number-preserved : goal.loop-number-preserved
loop-number-preserved g c =
    let so_far = c.loop-number.invariant in
    let n = c.loop-number.number in
    let same = ap (λ (t : ShelfTold). t.files) so_far.told in record {
      ends = λ files file told at front. c.push_end.ensures.items
          ∙ track-more c.begins_tell.ensures.files file.bytes c.args.header.now front c.loop-number.ends.items n (so_far.ends files file told at front)
          c.in-Some.offset c.revolutions.result c.in-Some.ensures c.revolutions.ensures c.in-Ok.whole
          (c.in-Ok.ensures.is files file (same ∙ told) at);
      few = omega (arith, so_far.few, c.push_end.ensures.len);
      told = c.in-Ok.ensures.told ∙ none-failed _ ∙ so_far.told;
      counts = Counts-then _ so_far.counts c.in-Ok.ensures.counts;
    }

pub returns-clause-is : goal.returns-clause-is
returns-clause-is g c files file told at front =
    let all : c.loop-number.number ≡ 168 = omega (arith, c.loop-number-test.false, c.loop-number.auto.number-end) in
    c.loop-number.invariant.ends files file told at front ∙ ap (λ n. filter_map (early_end file.bytes) (range_with_len 0 n)) all

pub returns-clause-told : goal.returns-clause-told
returns-clause-told g c = c.loop-number.invariant.told ∙ sym (none-failed _)
