use Rattle.std.proofs.Common.{◌≡◌, if◌then◌else◌, Bool, true, false, Some, refl, sym, ap, ◌∙◌}
use Rattle.std.proofs.KnownBytes.{Appends-nil}
use Rattle.dump_reading.specs.lemmas.Coming.{none-failed}
use Rattle.flux_base.specs.lemmas.Counting.{Counts-none}
use Rattle.track_shelf.specs.Files.{file_at}
use Rattle.track_shelf.specs.Names.{is_scp}
use Rattle.scp_notes.specs.Files.{no_notes, notes_in}
use Rattle.scp_notes.proofs.dumps.note_dump.Goals as goal

pub returns-then-not-is_scp : goal.returns-then-not-is_scp
returns-then-not-is_scp g c = record {
  notes = Some no_notes;
  are = λ files told.
      let other : is_scp c.args.dump.now ≡ false = sym c.is_scp.ensures ∙ c.if-not-is_scp.true in
      sym (ap (λ (b : Bool). if b then notes_in (file_at files c.args.dump.now) else no_notes) other);
  told = none-failed _;
  counts = Counts-none _;
  puts = record { ok = Appends-nil _; err = tt; counts = Counts-none _ };
  fails = refl;
}

pub returns-in-Ok-write_notes : goal.returns-in-Ok-write_notes
returns-in-Ok-write_notes g c = record {
  notes = Some c.in-Ok.noted;
  are = λ files told.
      let it : is_scp c.args.dump.now ≡ true = sym c.is_scp.ensures ∙ c.if-not-is_scp.false in
      c.in-Ok.ensures.is files told ∙ sym (ap (λ (b : Bool). if b then notes_in (file_at files c.args.dump.now) else no_notes) it);
  told = c.in-Ok.ensures.told;
  counts = c.in-Ok.ensures.counts;
  puts = record { ok = c.in-Ok-write_notes.ensures.ok; err = tt; counts = c.in-Ok-write_notes.ensures.counts };
  fails = refl;
}

pub returns-in-Err-write_notes : goal.returns-in-Err-write_notes
returns-in-Err-write_notes g c = record {
  notes = Some c.in-Ok.noted;
  are = λ files told.
      let it : is_scp c.args.dump.now ≡ true = sym c.is_scp.ensures ∙ c.if-not-is_scp.false in
      c.in-Ok.ensures.is files told ∙ sym (ap (λ (b : Bool). if b then notes_in (file_at files c.args.dump.now) else no_notes) it);
  told = c.in-Ok.ensures.told;
  counts = c.in-Ok.ensures.counts;
  puts = record { ok = tt; err = c.in-Err-write_notes.ensures.err; counts = c.in-Err-write_notes.ensures.counts };
  fails = tt;
}
