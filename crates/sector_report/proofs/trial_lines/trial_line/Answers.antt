use Rattle.std.proofs.Common.{◌≡◌, ◌++◌, ℕ, List, append_assoc}
use Rattle.std.specs.Prelude.{codes, decimal}
use Rattle.sector_images.specs.Formats.{row}
use Rattle.sector_report.specs.Lines.{trial_text}
use Rattle.sector_report.proofs.trial_lines.trial_line.Goals as goal

-- the parts of the line, one after another
line_shape : (head word a seed b tracks c sectors d good e bad f missing g contradictory h sum end : List ℕ)
    → (((((((((((head ++ word) ++ (a ++ seed)) ++ (b ++ tracks)) ++ (c ++ sectors)) ++ (d ++ good)) ++ (e ++ bad)) ++ (f ++ missing))
    ++ (g ++ contradictory)) ++ h) ++ sum) ++ end)
    ≡ head ++ word ++ a ++ seed ++ b ++ tracks ++ c ++ sectors ++ d ++ good ++ e ++ bad ++ f ++ missing ++ g ++ contradictory ++ h ++ sum ++ end
line_shape head word a seed b tracks c sectors d good e bad f missing g contradictory h sum end = simp append_assoc

pub returns : goal.returns
unfolding trial_text
returns c =
    rw (
      c.put-4.ensures.bytes,
      c.put_u64.ensures.bytes,
      c.put-3.ensures.bytes,
      c.put_named-7.ensures.bytes,
      c.put_named-6.ensures.bytes,
      c.put_named-5.ensures.bytes,
      c.put_named-4.ensures.bytes,
      c.put_named-3.ensures.bytes,
      c.put_named-2.ensures.bytes,
      c.put_named.ensures.bytes,
      c.put-2.ensures.bytes,
      c.put.ensures.bytes,
      c.as_str.ensures.value,
      c.word.ensures,
      c.new-line.ensures,
    )
    (line_shape (codes "trial ") (row c.args.format).word (codes " ") (decimal c.args.seed) (codes " tracks ") (decimal c.args.tracks)
    (codes " sectors ") (decimal c.args.totals.now.sectors) (codes " good ") (decimal c.args.totals.now.good) (codes " bad ")
    (decimal c.args.totals.now.bad) (codes " missing ") (decimal c.args.totals.now.missing) (codes " contradictory ")
    (decimal c.args.totals.now.contradictory) (codes " sum ") (decimal c.args.sum) (codes "\n"))
