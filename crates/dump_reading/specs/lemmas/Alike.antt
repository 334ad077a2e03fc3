-- What came of a track of a dump is one thing, where its file failed both times or neither.
use Rattle.std.specs.Prelude.{◌≡◌, ℕ, true, false, List, Option, Some, None, Result, Ok, Err, refl}
use Rattle.std.proofs.Common.{ap, sym, ◌∙◌, inl, inr}
use Rattle.flux_engine.specs.Plans.{Seen, is_failed}
use Rattle.kryo_stream.specs.Stream.{first_fault}
use Rattle.kryo_stream.specs.declared.fault.StreamFault.{StreamFault}
use Rattle.scp_files.specs.declared.fault.ScpTrackFault.{ScpTrackFault}
use Rattle.sector_report.specs.declared.dump_lines.Passed.TheVariants.{Failed}
use Rattle.dump_reading.specs.DumpStreams.{IsOrFailed, passed_over, seen_of, seen_unless}

-- what a dump says of a track is never that its file failed
pub never-failed : (it : Option (Result (List ℕ) ScpTrackFault))
    → is_failed (seen_of it).passed ≡ false
never-failed None = refl
never-failed (Some (Err fault)) = refl
never-failed (Some (Ok bytes)) = by (first_fault bytes)
  where
    by : (fault : Option (ℕ × StreamFault)) → is_failed (seen_unless bytes fault).passed ≡ false
    by None = refl
    by (Some fault) = refl

-- so what it says and what failed are not alike
not-alike : (it : Option (Result (List ℕ) ScpTrackFault)) (a b : Seen) → a ≡ seen_of it
    → b ≡ passed_over Failed → is_failed a.passed ≡ is_failed b.passed → ⊥
not-alike it a b p q alike =
    not-both
    (sym (never-failed it) ∙ sym (ap (λ (s : Seen). is_failed s.passed) p) ∙ alike
    ∙ ap (λ (s : Seen). is_failed s.passed) q)
  where
    not-both : false ≡ true → ⊥
    not-both is = cc

pub one-stream : (it : Option (Result (List ℕ) ScpTrackFault)) (a b : Seen)
    → IsOrFailed a (seen_of it) → IsOrFailed b (seen_of it)
    → is_failed a.passed ≡ is_failed b.passed → a ≡ b
one-stream it a b (inl p) (inl q) alike = p ∙ sym q
one-stream it a b (inr p) (inr q) alike = p ∙ sym q
one-stream it a b (inl p) (inr q) alike = absurd (not-alike it a b p q alike)
one-stream it a b (inr p) (inl q) alike = absurd (not-alike it b a q p (sym alike))
