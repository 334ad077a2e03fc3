use Rattle.std.proofs.Common.{◌∙◌, ap, refl, subst, sum}
use Rattle.flux_engine.specs.Room.{RoomState}
use Rattle.flux_trial.specs.Room.{TrialState}
use Rattle.flux_trial.specs.Tracks.{IsTrialLine, trial_input}
use Rattle.flux_trial.proofs.Rings.{Laws}
use Rattle.flux_trial.proofs.Trials.{is_line-of, no_answer-of}
use Rattle.sector_images.specs.declared.format.Format.{Format}
use Rattle.flux_trial.proofs.trial.run_trial.Given.{Over}
use Rattle.flux_trial.proofs.trial.run_trial.Goals as goal

pub unreachable-requires : goal.unreachable-requires
unreachable-requires g c =
    let unused = ap (λ (s : TrialState). s.used) c.room.view_is ∙ c.requires in
    let fresh = c.room.invariant unused in
    let laws : Laws = record {
      read = c.written_law.ensures.reads;
      short = c.written_law.ensures.size;
      keep = c.tracks_keep_bounds.ensures.bounds;
      small = c.tracks_keep_bounds.ensures.images;
      names = c.sectors_lie_in_images.ensures.numbers;
      rings = c.images_have_rings.ensures;
    } in
    let blames = c.in-Err.ensures.blames in
    no_answer-of laws c.growth_law.ensures.streams c.joined_law.ensures c.planned_parts_fit_images.ensures c.room.inside.format c.args.seed
    c.decoding_plan.result c.room.inside.disk.format _ _ _ _ c.room.inside.image c.decode_planned.new.image c.decoding_plan.ensures (ap (λ (s : RoomState). s.format) fresh.1) fresh.2
    c.in-Err.field-0 (c.start.ensures.left ∙ ap (λ (f : Format). trial_input f c.args.seed) fresh.0)
    (blames.source.cause, blames.image.cause, blames.notes.cause) (c.in-Err.ensures.told _ refl)

pub invariant_of-room : goal.invariant_of-room
invariant_of-room g c = λ unused. absurd (cc)

line_is : (g : Over) (c : goal.After-write_line g) → IsTrialLine c.args.room.now.format c.args.seed c.trial_line.result.bytes
line_is g c =
    let unused = ap (λ (s : TrialState). s.used) c.room.view_is ∙ c.requires in
    let fresh = c.room.invariant unused in
    let laws : Laws = record {
      read = c.written_law.ensures.reads;
      short = c.written_law.ensures.size;
      keep = c.tracks_keep_bounds.ensures.bounds;
      small = c.tracks_keep_bounds.ensures.images;
      names = c.sectors_lie_in_images.ensures.numbers;
      rings = c.images_have_rings.ensures;
    } in
    subst (λ (f : Format). IsTrialLine f c.args.seed c.trial_line.result.bytes) (ap (λ (s : TrialState). s.format) c.room.view_is)
    (is_line-of laws c.growth_law.ensures.streams c.joined_law.ensures c.planned_parts_fit_images.ensures c.room.inside.format c.args.seed
    c.decoding_plan.result c.room.inside.disk.format _ _ _ _ c.room.inside.image c.decode_planned.new.image c.decoding_plan.ensures (ap (λ (s : RoomState). s.format) fresh.1) fresh.2
    c.in-Ok.totals c.track_count-tracks.result c.sum_of-sum.result c.trial_line.result.bytes
    (c.start.ensures.left ∙ ap (λ (f : Format). trial_input f c.args.seed) fresh.0) (c.in-Ok.ensures.told _ refl) c.track_count-tracks.ensures
    (c.sum_of-sum.ensures.value ∙ ap sum c.bytes.ensures.value) c.trial_line.ensures)

pub returns : goal.returns
returns g c = (c.trial_line.result.bytes, line_is g c, c.write_line.ensures)
