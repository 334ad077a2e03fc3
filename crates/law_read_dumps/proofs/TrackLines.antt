-- The lines that tell of one track beside those of its sectors: of streams that are passed over, and of other headers.
use Rattle.std.specs.Prelude.{◌≡◌, ◌≤◌, ◌<◌, ℕ, zero, suc, ◌+◌, true, Contains, List, [], ◌∷◌, ◌++◌, cond, filter, get_or, length, Option, None, Some, refl}
use Rattle.std.proofs.Common.{ap, append_assoc, subst, sym, ◌∙◌, arith, inl, inr}
use Rattle.std.proofs.lemmas.Bool.{cases_lt}
use Rattle.std.proofs.lemmas.List.Sums.{length-filter}
use Rattle.dump_reading.specs.Outcomes.{DumpDisk}
use Rattle.dump_reading.specs.Reports.{data_lines, other_lines, passed_line_of, passed_lines, trace_count, traces_lines, untold_lines}
use Rattle.flux_base.specs.declared.track.TrackId.{TrackId}
use Rattle.flux_engine.specs.Plans.{Streams, passed_one, passed_to}
use Rattle.flux_engine.specs.declared.gathered_track.PassedStream.{PassedStream}
use Rattle.flux_engine.specs.lemmas.Each.{Each, each-append, each-filter, each-map, each-of}
use Rattle.sector_report.specs.DumpLines.{DumpsHaveLines, other_text, traces_text, untold_text}
use Rattle.sector_report.specs.declared.dump_lines.Passed.{Passed}
use Rattle.sector_report.specs.declared.naming.Naming.TheVariants.{ByCaptureAndClock}
use Rattle.turn_merge.specs.Others.{NotedOther, has_data, has_untold, others_over}
use Rattle.turn_merge.specs.declared.others.OtherTold.{OtherTold}
use Rattle.law_read_dumps.specs.Lines.{IsTrackLine, LookedAt, has_traces, other_lines_of}
use Rattle.law_read_dumps.proofs.Lines.{Tells, tells-append, tells-each, tells-if}

-- a stream that is passed over is among those of its track that are
pub record IsAmong (streams : Streams) (n k dump : ℕ) (why : Passed) : Type 0 where
  pub before : List PassedStream
  pub after : List PassedStream
  pub is : passed_to streams n k ≡ before ++ (record { capture = dump; why = why } ∷ after)

pub among : (streams : Streams) (n k dump : ℕ) (why : Passed) → dump < k → (streams n dump).passed ≡ Some why → IsAmong streams n k dump why
among streams n zero dump why low passed = absurd (omega (arith, low))
among streams n (suc k) dump why low passed =
    elim (cases_lt dump k) [
      | inl earlier ↦
          let rest = among streams n k dump why earlier passed in
          record {
            before = rest.before;
            after = rest.after ++ passed_one k (streams n k).passed;
            is =
                ap (λ (ps : List PassedStream). ps ++ passed_one k (streams n k).passed) rest.is
                ∙ append_assoc rest.before (record { capture = dump; why = why } ∷ rest.after) (passed_one k (streams n k).passed);
          }
      | inr past ↦
          let same : k ≡ dump = omega (arith, low, past) in
          record {
            before = passed_to streams n k;
            after = [];
            is = ap (λ (q : ℕ). passed_to streams n k ++ passed_one q (streams n q).passed) same ∙ ap (λ (p : Option Passed). passed_to streams n k ++ passed_one dump p) passed;
          }
    ]

module _ (one : DumpsHaveLines) (disk : DumpDisk) (at : LookedAt) (n : ℕ) (low : n < at.many) where
  abbrev track : TrackId
  track = at.track_of n

  abbrev IsHere : List ℕ → Type 0
  IsHere line = IsTrackLine disk at line

  abbrev Here : ℕ → List ℕ → Type 0
  Here number line = IsTrackLine disk at line

  -- the lines of its streams that are passed over
  module _ (streams : Streams) (same : (q : ℕ) → (streams n q).passed ≡ at.passed n q) where
    abbrev PassedHere : PassedStream → Type 0
    PassedHere s = IsHere (passed_line_of track s)

    one_passed : (q : ℕ) → q < length disk.dumps → (why : Option Passed) → at.passed n q ≡ why → Each PassedHere (passed_one q why)
    one_passed q few None is = tt
    one_passed q few (Some why) is = (inl (record { n = n; low = low; dump = q; few = few; why = why; is = is; line_is = refl }), tt)

    each_passed : (k : ℕ) → k ≤ length disk.dumps → Each PassedHere (passed_to streams n k)
    each_passed zero few = tt
    each_passed (suc k) few =
        each-append PassedHere (passed_to streams n k) (passed_one k (streams n k).passed) (each_passed k (omega (arith, few)))
        (one_passed k (omega (arith, few)) (streams n k).passed (sym (same k)))

    pub passed_tell : Tells Here (passed_lines track (passed_to streams n (length disk.dumps))) (length (passed_to streams n (length disk.dumps)))
    passed_tell =
        tells-each IsHere (passed_line_of track) (λ (s : PassedStream). one.passed track s.capture s.why) (passed_to streams n (length disk.dumps))
        (each_passed (length disk.dumps) (omega arith))

  -- the lines of others: of names with whole data, of those that are not told, and of those without
  module _ (others : List NotedOther) (same : others ≡ get_or at.others n []) where
    abbrev told : List OtherTold
    told = others_over others

    abbrev DataLine : OtherTold → Type 0
    DataLine t = IsHere (other_text ByCaptureAndClock track t)

    data_line : (t : OtherTold) → Contains told t → has_data t ≡ true → DataLine t
    data_line t has whole =
        inr (inl (record {
          n = n;
          low = low;
          name = t;
          has = subst (λ (all : List NotedOther). Contains (others_over all) t) same has;
          whole = whole;
          line_is = refl;
        }))

    each_data : Each DataLine (filter has_data told)
    each_data =
        each-map (λ (t : OtherTold). Contains told t × (has_data t ≡ true)) DataLine (λ t both. data_line t both.0 both.1) (filter has_data told)
        (each-filter has_data (λ (t : OtherTold). Contains told t) told (each-of (λ (t : OtherTold). Contains told t) told (λ t has. has)))

    data_tell : Tells Here (data_lines track told) (length (filter has_data told))
    data_tell =
        tells-each IsHere (other_text ByCaptureAndClock track) (λ (t : OtherTold). one.other ByCaptureAndClock track t) (filter has_data told) each_data

    untold_tells : Tells Here (untold_lines track (has_untold others)) (cond (has_untold others) 1 0)
    untold_tells =
        tells-if IsHere (has_untold others) (untold_text track) (one.untold track)
        (λ wanted.
        inr (inr (inl (record { n = n; low = low; untold = subst (λ (os : List NotedOther). has_untold os ≡ true) same wanted; line_is = refl }))))

    traces_tell : Tells Here (traces_lines track told) (cond (has_traces others) 1 0)
    traces_tell =
        tells-if IsHere (has_traces others) (traces_text track (trace_count told)) (one.traces track (trace_count told))
        (λ wanted.
        inr (inr (inr (record {
          n = n;
          low = low;
          some = subst (λ (os : List NotedOther). has_traces os ≡ true) same wanted;
          line_is = ap (λ (os : List NotedOther). traces_text track (trace_count (others_over os))) same;
        }))))

    pub others_tell : Tells Here (other_lines track told (has_untold others)) (other_lines_of others)
    others_tell =
        let first : ℕ = length (filter has_data told) in
        let second : ℕ = cond (has_untold others) 1 0 in
        let third : ℕ = cond (has_traces others) 1 0 in
        let many = length-filter has_data told in
        let all : first + (second + third) ≡ other_lines_of others = omega (arith, many) in
        subst (Tells Here (other_lines track told (has_untold others))) all
        (tells-append Here (data_lines track told) (untold_lines track (has_untold others) ++ traces_lines track told) first (second + third) data_tell
        (tells-append Here (untold_lines track (has_untold others)) (traces_lines track told) second third untold_tells traces_tell))
