use Rattle.std.proofs.Common.{◌≡◌, ◌+◌, false, length, ap, sym, subst, ◌∙◌, arith}
use Rattle.std.specs.List.Sorted.{IsNonDecreasing, IsStrictlyIncreasing}
use Rattle.track_rings.specs.Rings.{last_in}
use Rattle.flux_writer.specs.Trailing.{blocks_before, passed_by}
use Rattle.scp_files.specs.inside.Noting.{is_too_long_at}
use Rattle.scp_files.proofs.Counting.{passed-all}
use Rattle.scp_files.proofs.Finishing.{finish_none, finish_order, finish_reads, too_long-is, within}
use Rattle.scp_files.proofs.capture.Capture.finish.Goals as goal

pub returns-then-is_too_long-clause-says : goal.returns-then-is_too_long-clause-says
returns-then-is_too_long-clause-says c = λ values durations h.
    sym (too_long-is c.capture_law.ensures.size values durations _ h) ∙ sym c.is_too_long.ensures.value ∙ c.if-is_too_long.true

pub returns-then-self-clause-says : goal.returns-then-self-clause-says
returns-then-self-clause-says c = λ values durations h.
    let s = c.args.self.now in
    let size = c.capture_law.ensures.size in
    let short : is_too_long_at s ≡ false = sym c.is_too_long.ensures.value ∙ c.if-is_too_long.false in
    let order : IsNonDecreasing s.flux.times = subst (λ v. IsNonDecreasing v.flux.times) c.self.view_is c.times-times.ensures.order in
    let rising : IsStrictlyIncreasing s.flux.indexes = subst (λ v. IsStrictlyIncreasing v.flux.indexes) c.self.view_is c.indexes-indexes.ensures.order in
    let times = c.times-times.ensures.value ∙ ap (λ v. v.flux.times) c.self.view_is in
    let indexes = c.indexes-indexes.ensures.value ∙ ap (λ v. v.flux.indexes) c.self.view_is in
    let falls = ap (λ v. v.falls) (sym c.self.view_is) ∙ c.if-self.true in
    let block : c.blocks_until.result + length c.indexes-indexes.result.now
    ≡ blocks_before s.flux.times (passed_by s.flux.times (last_in s.flux.indexes)) + length s.flux.indexes =
    omega (
      arith,
      c.blocks_until.ensures.value,
      ap (λ l. blocks_before l (passed_by l c.last_index.result)) times,
      ap (λ x. blocks_before s.flux.times (passed_by s.flux.times x)) c.last_index.ensures.value,
      ap length indexes,
    ) in
    (within size values durations s h short order rising, finish_order size values durations s h short order rising c.capture_law.ensures.faults falls _ block)

pub returns-then-indexes-lt2-clause-says : goal.returns-then-indexes-lt2-clause-says
returns-then-indexes-lt2-clause-says c = λ values durations h.
    let s = c.args.self.now in
    let size = c.capture_law.ensures.size in
    let short : is_too_long_at s ≡ false = sym c.is_too_long.ensures.value ∙ c.if-is_too_long.false in
    let order : IsNonDecreasing s.flux.times = subst (λ v. IsNonDecreasing v.flux.times) c.self.view_is c.times-times.ensures.order in
    let rising : IsStrictlyIncreasing s.flux.indexes = subst (λ v. IsStrictlyIncreasing v.flux.indexes) c.self.view_is c.indexes-indexes.ensures.order in
    let times = c.times-times.ensures.value ∙ ap (λ v. v.flux.times) c.self.view_is in
    let indexes = c.indexes-indexes.ensures.value ∙ ap (λ v. v.flux.indexes) c.self.view_is in
    let falls = ap (λ v. v.falls) (sym c.self.view_is) ∙ c.if-self.false in
    let early = c.is_too_long.ensures.early c.if-is_too_long.false in
    let all : passed_by s.flux.times 4294967296 ≡ length s.flux.times =
    passed-all s.flux.times 4294967296 (λ i inside. let below = early i 0 inside in omega (arith, below)) in
    let block : c.blocks_until-then-indexes-lt2.result + length c.indexes-indexes.result.now + 1
    ≡ blocks_before s.flux.times (length s.flux.times) + length s.flux.indexes + 1 =
    omega (
      arith,
      c.blocks_until-then-indexes-lt2.ensures.value,
      ap (λ l. blocks_before l (passed_by l 4294967296)) times,
      ap (blocks_before s.flux.times) all,
      ap length indexes,
    ) in (
      within size values durations s h short order rising,
      finish_none size values durations s h short order rising c.capture_law.ensures.faults falls
          (omega (arith, c.if-indexes-lt2.true, ap length indexes)) _ block,
    )

pub returns-clause-says : goal.returns-clause-says
returns-clause-says c = λ values durations h.
    let s = c.args.self.now in
    let size = c.capture_law.ensures.size in
    let short : is_too_long_at s ≡ false = sym c.is_too_long.ensures.value ∙ c.if-is_too_long.false in
    let order : IsNonDecreasing s.flux.times = subst (λ v. IsNonDecreasing v.flux.times) c.self.view_is c.times-times.ensures.order in
    let rising : IsStrictlyIncreasing s.flux.indexes = subst (λ v. IsStrictlyIncreasing v.flux.indexes) c.self.view_is c.indexes-indexes.ensures.order in
    let indexes = c.indexes-indexes.ensures.value ∙ ap (λ v. v.flux.indexes) c.self.view_is in
    let falls = ap (λ v. v.falls) (sym c.self.view_is) ∙ c.if-self.false in
    finish_reads size values durations s h short order rising c.capture_law.ensures.reads falls
    (omega (arith, c.if-indexes-lt2.false, ap length indexes))
