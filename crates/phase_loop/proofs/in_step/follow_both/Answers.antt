use Rattle.std.proofs.Common.{◌≡◌, ℕ, ◌+◌, ◌-◌, ◌*◌, ◌<◌, ◌≤◌, ◌++◌, ◌∙◌, ap, arith, drop, length, List, Bool, refl, subst, sym, take}
use Rattle.std.specs.List.Sorted.{IsNonDecreasing}
use Rattle.cell_bits.specs.Search.{StandsNowhere}
use Rattle.phase_loop.specs.Rows.{recovered}
use Rattle.phase_loop.specs.State.{Holds}
use Rattle.phase_loop.proofs.InStep.{copied, few_left, front_within, rising_front}
use Rattle.phase_loop.proofs.in_step.follow_both.Goals as goal

pub append_cells-requires-clause-rising : goal.append_cells-requires-clause-rising
append_cells-requires-clause-rising c =
    subst IsNonDecreasing (sym c.split_at.ensures.front) (rising_front c.args.times.now 2048 c.requires.rising)

pub append_from-requires : goal.append_from-requires
append_from-requires c =
    let times = c.args.times.now in
    let known = c.args.known in
    let front = c.split_at.ensures.front in
    let holds : Holds c.append_cells.new.bench known (take 2048 times) =
    subst (λ (ts : List ℕ). Holds c.append_cells.new.bench known ts) front
    (c.in_ok-append_cells.ensures.holds (omega (arith, c.split_at.ensures.front_len))) in
    let within = front_within c.args.start known times 2048 c.append_cells.new.bench c.append_cells.new.bench holds c.requires.rising in
    omega (arith, c.len-behind.ensures.length, ap length (c.in_ok-append_cells.ensures.ok ∙ ap (recovered known) front), within, ap length c.requires.cells)

pub returns-in_err-append_from-clause-succeeds : goal.returns-in_err-append_from-clause-succeeds
returns-in_err-append_from-clause-succeeds c fits =
    let times = c.args.times.now in
    let known = c.args.known in
    let front = c.split_at.ensures.front in
    let a = c.append_cells.new.bench in
    let holds : Holds a known (take 2048 times) =
    subst (λ (ts : List ℕ). Holds a known ts) front (c.in_ok-append_cells.ensures.holds (omega (arith, c.split_at.ensures.front_len))) in
    let behind : c.len-behind.result ≡ length (recovered known (take 2048 times)) =
    c.len-behind.ensures.length ∙ ap length (c.in_ok-append_cells.ensures.ok ∙ ap (recovered known) front) in
    let same : drop c.len-behind.result c.args.known_cells.now.cells ≡ drop (length (recovered known (take 2048 times))) (recovered known times) =
    ap (λ (n : ℕ). drop n c.args.known_cells.now.cells) behind ∙ ap (drop (length (recovered known (take 2048 times)))) c.requires.cells in
    let few = few_left c.args.start known times 2048 a a holds c.requires.rising in
    let no = c.in_err-append_from.ensures.succeeds
    (omega (
      arith,
      ap length same,
      few,
      fits,
      c.in_ok-append_cells-2.ensures.short,
      c.split_at.ensures.front_len,
      c.append_cells-2.ensures.room,
      c.clear-2.ensures.spare,
      c.append_cells.ensures.room,
      c.clear.ensures.spare,
      c.if-times-le-MEETING.false,
    )) in
    absurd cc

pub returns-clause-met : goal.returns-clause-met
returns-clause-met c truth =
    let times = c.args.times.now in
    let known = c.args.known in
    let start = c.args.start in
    let front = c.split_at.ensures.front in
    let a = c.append_cells.new.bench in
    let b = c.append_cells-2.new.bench in
    let some : 0 < length c.split_at.result.0.now = omega (arith, c.split_at.ensures.front_len) in
    let holds : Holds a known (take 2048 times) = subst (λ (ts : List ℕ). Holds a known ts) front (c.in_ok-append_cells.ensures.holds some) in
    let holds' : Holds b start (take 2048 times) = subst (λ (ts : List ℕ). Holds b start ts) front (c.in_ok-append_cells-2.ensures.holds some) in
    let behind : c.len-behind.result ≡ length (recovered known (take 2048 times)) =
    c.len-behind.ensures.length ∙ ap length (c.in_ok-append_cells.ensures.ok ∙ ap (recovered known) front) in
    let P : ℕ → List Bool → Type 0 = λ n cells. StandsNowhere cells 1 32 n (length cells) in
    let nowhere : StandsNowhere (recovered known times) 1 32 (length (recovered known (take 2048 times))) (length (recovered known times)) =
    subst (P (length (recovered known (take 2048 times)))) c.requires.cells
    (subst (λ (n : ℕ). P n c.args.known_cells.now.cells) behind (c.has_longest_run.ensures c.if-has_longest_run.false)) in
    c.in_ok-append_from.ensures.cells
    ∙ ap (λ (l : List Bool). l ++ drop c.len-behind.result c.args.known_cells.now.cells) (c.in_ok-append_cells-2.ensures.ok ∙ ap (recovered start) front)
    ∙ ap (λ (n : ℕ). recovered start (take 2048 times) ++ drop n c.args.known_cells.now.cells) behind
    ∙ ap (λ (l : List Bool). recovered start (take 2048 times) ++ drop (length (recovered known (take 2048 times))) l) c.requires.cells
    ∙ copied start known times 2048 a b holds c.requires.rising holds' (c.stands_like.ensures c.if-not-stands_like.false) nowhere
