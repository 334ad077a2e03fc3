use Rattle.flux_base.specs.Moments.{Moment}
use Rattle.flux_base.specs.World.{sink_at}
use Rattle.flux_cli.specs.Blamed.{makes_files, reads_dumps}
use Rattle.flux_cli.proofs.Headlines.{Laws}
use Rattle.flux_cli.proofs.Promised.{promised}
use Rattle.flux_cli.proofs.Telling.{counts-told, notes-later, promises-told, ran-told}
use Rattle.flux_cli.proofs.program.run.Given.{Over}
use Rattle.flux_cli.proofs.program.run.Goals as goal

laws : (g : Over) (c : goal.After-tell_output g) → Laws
laws g c = record {
  once = c.words_ask_once.ensures;
  captured = c.captured_plans_are_read.ensures.whole;
  never_wrong = c.captured_plans_are_read.ensures.never_wrong;
  erased = c.captured_plans_are_read.ensures.erased;
  one_piece = c.captured_plans_are_read.ensures.one_piece;
  files = c.written_files_come_back.ensures;
  short = c.planned_lines_tell.ensures.short;
  plan_lines = c.planned_lines_tell.ensures.good;
  file_lines = c.file_lines_tell.ensures.told;
  file_good = c.good_is_right_in_files.ensures;
  trials = c.whole_trials_have_one_line.ensures;
  written = c.written_dumps_are_read.ensures.capture;
  written_read = c.written_dumps_are_read.ensures.well;
  joined = c.files_are_joined.ensures;
}

-- the notes at the end
abbrev behind : (g : Over) (c : goal.After-tell_output g) → Moment g.row.N.Denot
behind g c = sink_at g.N.Sink c.tell_output.new.notes

pub returns-clause-ran : goal.returns-clause-ran
returns-clause-ran g c =
    ran-told c.run_words-status.ensures.ran (behind g c) c.tell_output.ensures (notes-later _ _ _ _ _ c.run_words-status.ensures.counts)

pub returns-clause-counts : goal.returns-clause-counts
returns-clause-counts g c = counts-told c.args.words.now _ (behind g c) (reads_dumps c.args.words.now) (makes_files c.args.words.now) _ _ _ _ _ _ _ _ _ c.run_words-status.result c.tell_output.ensures c.run_words-status.ensures.counts

pub returns-clause-promises : goal.returns-clause-promises
returns-clause-promises g c =
    let said = c.dumps_say_each_sector.ensures in
    let lines = c.dump_reports_have_lines.ensures in
    let told = c.dump_lines_tell.ensures in
    let read = c.captured_dumps_are_read.ensures in
    promises-told c.run_words-status.ensures.ran (behind g c) c.tell_output.ensures
    (promised (laws g c) (record {
      said = said.said;
      of_files = said.of_files;
      of_files_beside = said.beside_of_files;
      right = said.right;
      told = told.told;
      once = told.once;
      passed = lines.passed;
      passed_beside = lines.passed_beside;
      passed_told = told.passed_told;
      count = lines.count;
      complete = c.complete_dumps_are_all_read.ensures;
      stays = said.stays;
      whole = read.never_wrong;
      steady = read.well;
      pictures = c.dumps_are_drawn_as_reported.ensures;
    }) c.run_words-status.result _ _ c.args.words.now c.run_words-status.ensures.ran)
