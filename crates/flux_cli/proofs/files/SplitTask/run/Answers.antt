use Rattle.std.proofs.Common.{false, true, inl, inr, refl, ap}
use Rattle.kryo_stream.specs.Reads.{SourceMoment}
use Rattle.flux_cli.proofs.Blaming.{CountsBy-noteless, memoryless}
use Rattle.flux_cli.proofs.Making.{making-counts, of-names, split-blame}
use Rattle.flux_cli.specs.SplitWork.{split_ending, split_of}
use Rattle.flux_cli.specs.World.{source_input}
use Rattle.flux_cli.specs.Blamed.{files}
use Rattle.flux_cli.proofs.files.SplitTask.run.Goals as goal

pub end_of_split-requires : goal.end_of_split-requires
end_of_split-requires g c =
    of-names (split_of c.args.self.now.folder.now c.args.self.now.heads) c.split_streams-answer.result (rw c.bytes.ensures at c.split_streams-answer.ensures.split)

pub returns-in-Ok-clause-did : goal.returns-in-Ok-clause-did
returns-in-Ok-clause-did g c = (
  inr (record {
    answer = c.split_streams-answer.result;
    says = record {
      splits = rw c.bytes.ensures at c.split_streams-answer.ensures.split;
      unread = λ there. ap (λ s. (source_input g.S.Source s).seen) (c.split_streams-answer.ensures.unread there);
    };
    ends = c.end_of_split.ensures;
  }),
  refl,
  refl,
)

pub returns-in-Err-clause-did : goal.returns-in-Err-clause-did
returns-in-Err-clause-did g c = (inl (refl, refl), refl, refl)

pub returns-in-Ok-clause-counts : goal.returns-in-Ok-clause-counts
returns-in-Ok-clause-counts g c =
    let answer = c.split_streams-answer in
    making-counts _ _ _ _ _ _ _ (split_ending c.args.self.now.heads answer.result) c.end_of_split.result _ _
    (split-blame c.args.self.now.heads answer.result (CountsBy-noteless _ _ answer.ensures.blames)) c.end_of_split.ensures

pub returns-in-Err-clause-counts : goal.returns-in-Err-clause-counts
returns-in-Err-clause-counts g c = memoryless false files _ _ _ _ _
