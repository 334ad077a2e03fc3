use Rattle.std.proofs.Common.{◌≡◌, List, Option, sym, ap, subst, ◌∙◌}
use Rattle.std.specs.Prelude.{nat_lt}
use Rattle.sector_images.specs.Places.{tracks}
use Rattle.sector_report.specs.declared.dump_lines.Passed.{Passed}
use Rattle.dump_reading.specs.Beside.{beside_tracks}
use Rattle.dump_reading.specs.declared.totals.DumpTotals.{DumpTotals}
use Rattle.dump_tallies.specs.Numbers.{AreNumbersOf, passed_of}
use Rattle.dump_tallies.specs.inside.Sums.{own_numbers, with_beside}
use Rattle.dump_tallies.proofs.DiskNumbers.{numbers-beside, numbers-own}
use Rattle.dump_tallies.proofs.disk_tally.DiskTally.totals.Goals as goal

pub returns-then-not-wants : goal.returns-then-not-wants
returns-then-not-wants c = λ dump told came are passed of.
    let disk = c.args.self.now in
    let same : c.own_totals-totals.result ≡ own_numbers disk (passed_of came) (tracks disk.format) =
    c.own_totals-totals.ensures.own ∙ ap (λ (ps : List (Option Passed)). own_numbers disk ps (tracks disk.format)) passed in
    subst (AreNumbersOf dump told came disk.stepping disk.format) (sym same)
    (numbers-own dump came (sym are.many ∙ c.requires.all) disk are told of c.sectors_lie_in_images.ensures.numbers c.tracks_keep_bounds.ensures.bounds c.own_totals-totals.ensures.reached
    (ap (λ (t : DumpTotals). nat_lt 0 t.sectors.good) (sym same) ∙ sym c.if-not-wants.ensures))

pub returns : goal.returns
returns c = λ dump told came are passed of.
    let disk = c.args.self.now in
    let own : c.own_totals-totals.result ≡ own_numbers disk (passed_of came) (tracks disk.format) =
    c.own_totals-totals.ensures.own ∙ ap (λ (ps : List (Option Passed)). own_numbers disk ps (tracks disk.format)) passed in
    let same : c.add_beside.new.totals ≡ with_beside disk (passed_of came) (beside_tracks disk.stepping disk.format) (own_numbers disk (passed_of came) (tracks disk.format)) =
    c.add_beside.ensures ∙ ap (λ (ps : List (Option Passed)). with_beside disk ps (beside_tracks disk.stepping disk.format) c.own_totals-totals.result) passed
    ∙ ap (with_beside disk (passed_of came) (beside_tracks disk.stepping disk.format)) own in
    subst (AreNumbersOf dump told came disk.stepping disk.format) (sym same)
    (numbers-beside dump came (sym are.many ∙ c.requires.all) disk are told of c.sectors_lie_in_images.ensures.numbers c.tracks_keep_bounds.ensures.bounds c.own_totals-totals.ensures.reached
    (ap (λ (t : DumpTotals). nat_lt 0 t.sectors.good) (sym own) ∙ sym c.if-not-wants.ensures))
