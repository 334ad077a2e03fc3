use Rattle.std.proofs.Common.{◌≡◌, ◌∙◌, List, Err, inl, inr, ap, refl, subst, sym, ℕ}
use Rattle.dump_reading.specs.lemmas.Coming.{none-failed}
use Rattle.flux_base.specs.Blames.{is_notes, is_source, no_one}
use Rattle.flux_base.specs.World.{sink_at}
use Rattle.flux_base.specs.lemmas.Counting.{Counts-none, Counts-then}
use Rattle.scp_unpack.specs.Answers.{SaysOf}
use Rattle.scp_unpack.specs.Blamed.{unpack_blame, unpack_lost}
use Rattle.scp_unpack.specs.declared.fault.UnpackFault.TheVariants.{ReadFault}
use Rattle.track_shelf.specs.Told.{ShelfTold, with_failed}
use Rattle.track_shelf.specs.World.{told_at}
use Rattle.flux_cli.proofs.Unpacking.{of-table, unpacking-counts}
use Rattle.flux_cli.specs.MakingWork.{TellsUnmade}
use Rattle.flux_cli.proofs.unpack.sum_and_unpack.Goals as goal

pub end_of_unpacking-requires : goal.end_of_unpacking-requires
end_of_unpacking-requires g c = of-table _ _ _ _ _ c.unpack-answer.result c.unpack-answer.ensures.says

pub returns-in-Ok-tell_sums-clause-did : goal.returns-in-Ok-tell_sums-clause-did
returns-in-Ok-tell_sums-clause-did g c =
    let answer = c.unpack-answer in
    let before = told_at g.H.Source g.H.Shelf c.args.shelf.now in
    let mid = told_at g.H.Source g.H.Shelf c.find_sums.new.shelf in
    let same : mid ≡ before = c.in-Ok.ensures.told ∙ sym (none-failed before) in
    let notes = sink_at g.N.Sink c.tell_sums.new.notes in
    let later = sink_at g.N.Sink answer.new.notes in
    inl (record {
      sums = c.in-Ok.sums;
      sums_are = c.in-Ok.ensures.is;
      summed = notes;
      sums_put = c.in-Ok-tell_sums.ensures;
      answer = answer.result;
      notes = later;
      says = subst
          (λ (told : ShelfTold). SaysOf (record { shelf = told.files; path = c.args.file.now; folder = c.args.folder.now }) (g.M.FileMaker.made c.args.maker.now) (g.M.FileMaker.made answer.new.maker) notes.bytes later.bytes answer.result)
          same answer.ensures.says;
      told = answer.ensures.told ∙ ap (with_failed (unpack_lost c.args.file.now answer.result)) same;
      blames = record {
        source = Counts-then (is_source (unpack_blame answer.result)) c.in-Ok.ensures.counts answer.ensures.blames.source;
        image = answer.ensures.blames.image;
        notes = answer.ensures.blames.notes;
      };
      ends = c.end_of_unpacking.ensures;
    })

pub returns-in-Err-tell_sums-clause-did : goal.returns-in-Err-tell_sums-clause-did
returns-in-Err-tell_sums-clause-did g c =
    let before = told_at g.H.Source g.H.Shelf c.args.shelf.now in
    inr (inl (record {
      sums = c.in-Ok.sums;
      sums_are = c.in-Ok.ensures.is;
      failed = _;
      puts = c.in-Err-tell_sums.ensures;
      told = c.in-Ok.ensures.told ∙ sym (none-failed before);
      made = refl;
      status_is = refl;
    }))

pub returns-in-Err-clause-did : goal.returns-in-Err-clause-did
returns-in-Err-clause-did g c =
    let before = sink_at g.N.Sink c.args.notes.now in
    let after = sink_at g.N.Sink c.tell_unmade.new.notes in
    inr (inr (record {
      told = c.in-Err.ensures.told;
      made = refl;
      ends = subst (λ (line : List ℕ). TellsUnmade line c.tell_unmade.result before after) c.scp_line.ensures c.tell_unmade.ensures;
    }))

pub returns-in-Ok-tell_sums-clause-counts : goal.returns-in-Ok-tell_sums-clause-counts
returns-in-Ok-tell_sums-clause-counts g c = λ source image.
    let answer = c.unpack-answer in
    let blame = unpack_blame answer.result in
    unpacking-counts source _ _ image _ _ _ answer.result c.end_of_unpacking.result _ _
    (record {
      source = Counts-then (is_source blame) c.in-Ok.ensures.counts answer.ensures.blames.source;
      image = answer.ensures.blames.image;
      notes = Counts-then (is_notes blame) c.in-Ok-tell_sums.ensures.counts answer.ensures.blames.notes;
    })
    c.end_of_unpacking.ensures

pub returns-in-Err-tell_sums-clause-counts : goal.returns-in-Err-tell_sums-clause-counts
returns-in-Err-tell_sums-clause-counts g c = λ source image. record {
  source = Counts-none source;
  files = (no_one, refl, c.in-Ok.ensures.counts, Counts-none _);
  image = Counts-none image;
  notes = c.in-Err-tell_sums.ensures.counts;
}

pub returns-in-Err-clause-counts : goal.returns-in-Err-clause-counts
returns-in-Err-clause-counts g c = λ source image.
    let before = sink_at g.N.Sink c.args.notes.now in
    let after = sink_at g.N.Sink c.tell_unmade.new.notes in
    unpacking-counts source _ _ image _ _ _ (Err ReadFault) c.tell_unmade.result before after
    (record { source = c.in-Err.ensures.counts; image = Counts-none _; notes = Counts-none _ })
    (subst (λ (line : List ℕ). TellsUnmade line c.tell_unmade.result before after) c.scp_line.ensures c.tell_unmade.ensures)
