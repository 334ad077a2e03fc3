-- The streams of an input are read one after another.
use Rattle.std.specs.Prelude.{◌≡◌, ◌≤◌, ◌<◌, ℕ, zero, suc, ◌+◌, ◌*◌, ◌-◌, Bool, true, false, List}
use Rattle.std.specs.Prelude.{[], ◌++◌, length, nat_lt, Option, None, Ok, refl}
use Rattle.std.proofs.Common.{ap, sym, subst, ◌∙◌, arith, inl, inr, add-one, append_assoc}
use Rattle.std.proofs.Common.{length-append}
use Rattle.std.proofs.KnownBytes.{Consumes-nil, Consumes-trans}
use Rattle.std.proofs.lemmas.Bool.{cases_lt, lt-ltb}
use Rattle.std.proofs.lemmas.List.{length-drop}
use Rattle.kryo_stream.specs.Growth.{StreamsKeepTheLimit}
use Rattle.kryo_stream.specs.Outcome.{input_of}
use Rattle.kryo_stream.specs.Padding.{IsPadding, padding_of}
use Rattle.kryo_stream.specs.Stream.{first_fault, stream_length}
use Rattle.flux_engine.specs.Answers.{IsTakenBehind, ReadsStream}
use Rattle.flux_engine.specs.PlanProgress.{HasCome}
use Rattle.flux_engine.specs.Plans.{EndsInPlan}
use Rattle.flux_engine.specs.SourceStreams.{HaveCome}
use Rattle.flux_engine.specs.Streams.{behind, behind_stream, stream_at}
use Rattle.flux_engine.specs.declared.plan.Plan.{Plan}
use Rattle.flux_engine.specs.lemmas.ReadLaws.{no_reads}
use Rattle.kryo_stream.specs.Reads.{SourceMoment}
use Rattle.sector_images.specs.declared.format.Format.{Format}

pub come_start : (left : Option (List ℕ)) → HasCome left left [] [] false 0
unfolding behind
come_start left = record {
  consumed = Consumes-nil left;
  clean = λ later i below. absurd (omega (arith, below));
  rest = λ (later : List ℕ). refl;
  held = omega arith;
  used = refl;
}

-- at first no stream came
pub none_came : (plan : Plan) (format : Format) (now : SourceMoment)
    → HaveCome plan format now now [] false []
none_came plan format now = record {
  taken = [];
  come = come_start now.left;
  are = λ later i below. absurd (omega (arith, below));
  needed = λ x told. no_reads (EndsInPlan plan format) now;
}

nat_lt_some : (n : ℕ) → nat_lt 0 (n + 1) ≡ true
nat_lt_some n = lt-ltb 0 (n + 1) (omega arith)

module _ (left mid : Option (List ℕ)) (taken held : List ℕ) (used : Bool) (m : ℕ)
    (c : HasCome left mid taken held used m) where
  -- what the next call takes stands after what was taken before
  behind_is : (more later : List ℕ) → behind ((taken ++ more) ++ later) m ≡ (held ++ more) ++ later
  behind_is more later =
      ap (λ (x : List ℕ). behind x m) (append_assoc taken more later) ∙ c.rest (more ++ later)
      ∙ sym (append_assoc held more later)

  pub stream_is : (more later : List ℕ)
      → stream_at ((taken ++ more) ++ later) m ≡ input_of used ((held ++ more) ++ later)
  stream_is more later =
      ap (λ (x : List ℕ). input_of (nat_lt 0 m) x) (behind_is more later)
      ∙ ap (λ (b : Bool). input_of b ((held ++ more) ++ later)) (sym c.used)

  pub clean_before : (more later : List ℕ) (i : ℕ) → i < m
      → first_fault (stream_at ((taken ++ more) ++ later) i) ≡ None
  clean_before more later i below =
      subst (λ (x : List ℕ). first_fault (stream_at x i) ≡ None)
      (sym (append_assoc taken more later)) (c.clean (more ++ later) i below)

  pub taken_behind : (more later : List ℕ) (most : ℕ) → length (held ++ more) ≤ most
      → IsTakenBehind ((taken ++ more) ++ later) later m most
  taken_behind more later most few =
      let size : length (behind ((taken ++ more) ++ later) m)
      ≡ length (held ++ more) + length later =
      ap length (behind_is more later) ∙ length-append (held ++ more) later in
      record { whole = omega (arith, size); few = omega (arith, size, few) }

  -- one stream more
  pub come_more : (left' : Option (List ℕ)) (held' : List ℕ) (used' : Bool)
      (times' indexes' : List ℕ) (u : Unit {0})
      → (r : ReadsStream mid left' used held held' times' indexes' (Ok u))
      → length held' ≤ 4096 → used' ≡ true
      → HasCome left left' (taken ++ r.taken) held' used' (m + 1)
  unfolding behind
  come_more left' held' used' times' indexes' u r few is_used = record {
    consumed = Consumes-trans left mid left' taken r.taken c.consumed r.consumed;
    clean = λ (later : List ℕ) i below.
        elim (cases_lt i m) [
          | inl before ↦ clean_before r.taken later i before
          | inr least ↦
              let here : m ≡ i = omega (arith, below, least) in
              subst (λ (k : ℕ). first_fault (stream_at ((taken ++ r.taken) ++ later) k) ≡ None) here
              (ap first_fault (stream_is r.taken later)
              ∙ (r.stream later (λ cannot. absurd cannot)).no_fault)
        ];
    rest = λ (later : List ℕ).
        ap (behind ((taken ++ r.taken) ++ later)) (add-one m)
        ∙ ap behind_stream (stream_is r.taken later)
        ∙ sym (r.stream later (λ cannot. absurd cannot)).rest;
    held = few;
    used = is_used ∙ sym (nat_lt_some m);
  }

-- how far several streams reach
module _ (limit : StreamsKeepTheLimit) (padding : (x : List ℕ) → IsPadding x (padding_of x))
    (x : List ℕ) where
  without : (b : Bool) (y : List ℕ) → length y ≤ length (input_of b y) + 16
  without true y =
      (let short = length-drop (padding_of y) y in let few = (padding y).within in
      omega (arith, short, few))
  without false y = omega arith

  shorter : (b : Bool) (y : List ℕ) → length (input_of b y) ≤ length y
  shorter true y = (let short = length-drop (padding_of y) y in omega (arith, short))
  shorter false y = omega arith

  one_behind : (m : ℕ) → first_fault (stream_at x m) ≡ None
      → (length (behind x (suc m)) ≤ length (behind x m))
      × (length (behind x m) ≤ length (behind x (suc m)) + 4194320)
  unfolding behind
  one_behind m none =
      let y : List ℕ = stream_at x m in
      let size : length (behind x (suc m)) ≡ length y - stream_length y =
      length-drop (stream_length y) y in
      let most = limit y none in
      let pad = without (nat_lt 0 m) (behind x m) in
      let few = shorter (nat_lt 0 m) (behind x m) in
      (omega (arith, size, few), omega (arith, size, most, pad))

  pub several_behind : (m k : ℕ) → ((i : ℕ) → i < m + k → first_fault (stream_at x i) ≡ None)
      → (length (behind x (m + k)) ≤ length (behind x m))
      × (length (behind x m) ≤ length (behind x (m + k)) + k * 4194320)
  several_behind m zero none =
      let e : m + 0 ≡ m = omega arith in
      let size : length (behind x (m + 0)) ≡ length (behind x m) =
      ap (λ (n : ℕ). length (behind x n)) e in
      (omega (arith, size), omega (arith, size))
  several_behind m (suc k) none =
      let e : m + suc k ≡ suc (m + k) = omega arith in
      let size : length (behind x (m + suc k)) ≡ length (behind x (suc (m + k))) =
      ap (λ (n : ℕ). length (behind x n)) e in
      let before = several_behind m k (λ i below. none i (omega (arith, below))) in
      let here = one_behind (m + k) (none (m + k) (omega arith)) in
      (omega (arith, size, before.0, here.0), omega (arith, size, before.1, here.1))
