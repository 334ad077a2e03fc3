-- What `turns` does by what the reading of its stream says.
use Rattle.std.proofs.Common.{◌≡◌, ℕ, ◌+◌, ◌≤◌, false, List, [], ◌++◌, length, drop, take, Some, None, Ok, Err, refl, sym, ap, ◌∙◌, subst, arith, length-append}
use Rattle.flux_base.specs.declared.status.Status.TheVariants.{AllGood, Refused as RefusedStatus, ReadFault as ReadFaultStatus, ImageFault, NotesFault}
use Rattle.flux_engine.specs.Answers.{IsTakenBehind}
use Rattle.flux_engine.specs.Needed.{ReadsWhereOpen}
use Rattle.flux_engine.specs.Streams.{behind}
use Rattle.index_turns.specs.Track.{TrackState}
use Rattle.kryo_stream.specs.declared.fault.StreamFault.{StreamFault}
use Rattle.kryo_stream.specs.declared.fault.TrackFault.TheVariants.{ReadFault, Refused}
use Rattle.kryo_stream.specs.Stream.{first_fault, times, indexes, stream_length}
use Rattle.kryo_stream.specs.Outcome.{DoNotTell, IsRead, IsReadWhereNeeded, IsStream}
use Rattle.kryo_stream.specs.Reads.{SourceMoment}
use Rattle.sector_report.specs.Lines.{refused_text}
use Rattle.flux_cli.specs.Runs.{Finished, growth}
use Rattle.flux_cli.specs.Turns.{turns_text}
use Rattle.flux_cli.specs.TurnsWork.{MOST_AT_ONCE, turns_by, turns_work}
use Rattle.flux_cli.specs.Work.{Got, GotNothing, GotPart, GivesFront, Growth}
use Rattle.flux_cli.specs.World.{Outside}
use Rattle.flux_cli.proofs.Inputs.{rest}
use Rattle.flux_cli.specs.BytesWork.{IsCutBehind, of_bytes}

behind-one : (x : List ℕ) → behind x 1 ≡ drop (stream_length x) x
unfolding behind
behind-one x = refl

behind-none : (x : List ℕ) → behind x 0 ≡ x
unfolding behind
behind-none x = refl

-- a stream is taken whole, and what the intake holds after it
takes-whole : (x later held' : List ℕ) → held' ++ later ≡ drop (stream_length x) x → length held' ≤ 4096 → IsTakenBehind x later 1 4096
takes-whole x later held' rest bound =
    let same : length (behind x 1) ≡ length held' + length later = ap length (behind-one x ∙ sym rest) ∙ length-append held' later in record {
      whole = omega (arith, same);
      few = omega (arith, same, bound);
    }

-- no more was taken than a stream can be
takes-few : (taken later : List ℕ) → length taken ≤ MOST_AT_ONCE → IsTakenBehind (taken ++ later) later 0 MOST_AT_ONCE
takes-few taken later few =
    let same : length (behind (taken ++ later) 0) ≡ length taken + length later = ap length (behind-none (taken ++ later)) ∙ length-append taken later in record {
      whole = omega (arith, same);
      few = omega (arith, same, few);
    }

lines-of : (x : List ℕ) (flux : TrackState) (stays : List ℕ) → IsStream x flux stays → turns_text flux.times flux.indexes ≡ turns_text (times x) (indexes x)
lines-of x flux stays stream =
    ap (λ ts. turns_text ts flux.indexes) stream.times ∙ ap (turns_text (times x)) stream.indexes

-- the reads of one stream
pub turns-reads : {old new : SourceMoment} → IsReadWhereNeeded old new false [] → ReadsWhereOpen (DoNotTell false) old new
turns-reads reads = record { pieces = reads.pieces; gave = reads.gave; consumed = reads.consumed; needed = reads.needed; still = reads.still }

module _ {S W N : Type 0} (before after : Outside S SourceMoment W N) (held' : List ℕ) (flux : TrackState) where
  -- all lines of a stream without a fault
  pub turns-finish : (u : Unit {0}) → IsRead before.input.seen.left after.input.seen.left false [] held' flux (Ok u) → length held' ≤ 4096
      → Got (growth before.image after.image) (turns_text flux.times flux.indexes) → Got (growth before.notes after.notes) []
      → Finished (of_bytes turns_work) AllGood before after
  turns-finish u read bound image notes =
      let r = rest before.input.seen after.input.seen read.taken read.consumed in
      let x : List ℕ = read.taken ++ r.later in
      let stream : IsStream x flux (held' ++ r.later) = read.says r.later (λ never. absurd never) in record {
        outcome = turns_by x None;
        gives = record {
          taken = read.taken;
          later = r.later;
          input = r.input;
          gives = ap (turns_by x) (sym stream.no_fault);
          leaves = takes-whole x r.later held' stream.rest bound;
        };
        status_is = refl;
        image_got = subst (Got (growth before.image after.image)) (lines-of x flux (held' ++ r.later) stream) image;
        notes_got = notes;
      }

  -- the line that refuses a stream
  pub turns-refuse : (block : ℕ) (fault : StreamFault) → IsRead before.input.seen.left after.input.seen.left false [] held' flux (Err (Refused block fault))
      → Got (growth before.image after.image) [] → Got (growth before.notes after.notes) (refused_text 0 block fault)
      → Finished (of_bytes turns_work) RefusedStatus before after
  turns-refuse block fault read image notes =
      let r = rest before.input.seen after.input.seen read.taken read.consumed in
      let x : List ℕ = read.taken ++ r.later in
      let is : first_fault x ≡ Some (block, fault) = read.says r.later (λ cut. r.ended (read.ended cut)) in record {
        outcome = turns_by x (Some (block, fault));
        gives = record {
          taken = read.taken;
          later = r.later;
          input = r.input;
          gives = ap (turns_by x) (sym is);
          leaves = takes-few read.taken r.later (omega (arith, read.few));
        };
        status_is = refl;
        image_got = image;
        notes_got = notes;
      }

-- where a fault cuts it
module _ (start now : SourceMoment) (image notes : Growth) (held' : List ℕ) (flux : TrackState) where
  -- the source failed
  pub turns-cut-read : IsRead start.left now.left false [] held' flux (Err ReadFault)
      → GotNothing image → GotNothing notes → IsCutBehind turns_work ReadFaultStatus start now image notes
  turns-cut-read read image_got notes_got =
      let r = rest start now read.taken read.consumed in record {
        taken = read.taken;
        later = r.later;
        input = r.input;
        place = (
          record { block = read.cut.0; cut_short = read.cut.1; image_got = image_got; notes_got = notes_got },
          takes-few read.taken r.later (omega (arith, read.few)),
        );
      }

  -- a part of the lines of a stream without a fault
  pub turns-cut-image : (u : Unit {0}) → IsRead start.left now.left false [] held' flux (Ok u)
      → GotPart image (turns_text flux.times flux.indexes) → Got notes []
      → IsCutBehind turns_work ImageFault start now image notes
  turns-cut-image u read part none =
      let r = rest start now read.taken read.consumed in
      let x : List ℕ = read.taken ++ r.later in
      let stream : IsStream x flux (held' ++ r.later) = read.says r.later (λ never. absurd never) in
      let front : GivesFront (turns_by x None) image notes = record {
        image_front = (part.0, subst (λ bytes. Got image (take part.0 bytes)) (lines-of x flux (held' ++ r.later) stream) part.2);
        notes_front = (0, none);
      } in record {
        taken = read.taken;
        later = r.later;
        input = r.input;
        place = (
          subst (λ fault. GivesFront (turns_by x fault) image notes) (sym stream.no_fault) front,
          takes-few read.taken r.later (omega (arith, read.few)),
        );
      }

  -- a part of the line that refuses a stream
  pub turns-cut-notes : (block : ℕ) (fault : StreamFault) → IsRead start.left now.left false [] held' flux (Err (Refused block fault))
      → Got image [] → GotPart notes (refused_text 0 block fault)
      → IsCutBehind turns_work NotesFault start now image notes
  turns-cut-notes block fault read none part =
      let r = rest start now read.taken read.consumed in
      let x : List ℕ = read.taken ++ r.later in
      let is : first_fault x ≡ Some (block, fault) = read.says r.later (λ cut. r.ended (read.ended cut)) in
      let front : GivesFront (turns_by x (Some (block, fault))) image notes = record {
        image_front = (0, none);
        notes_front = (part.0, part.2);
      } in record {
        taken = read.taken;
        later = r.later;
        input = r.input;
        place = (
          subst (λ found. GivesFront (turns_by x found) image notes) (sym is) front,
          takes-few read.taken r.later (omega (arith, read.few)),
        );
      }
