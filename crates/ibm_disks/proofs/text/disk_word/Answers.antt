use Rattle.std.proofs.Common.{◌≡◌, ◌++◌, ℕ, List, append_assoc}
use Rattle.std.specs.Prelude.{codes, decimal}
use Rattle.ibm_disks.specs.Numbers.{size_of}
use Rattle.ibm_disks.specs.Words.{density_word, first_word, rate_word}
use Rattle.ibm_disks.proofs.text.disk_word.Goals as goal

-- the parts of the word, one after another
word_shape : (density dash rate cylinders x heads sectors bytes first : List ℕ)
    → (((((((((((density ++ dash) ++ rate) ++ dash) ++ cylinders) ++ x) ++ heads) ++ x) ++ sectors) ++ x) ++ bytes) ++ first)
    ≡ density ++ (dash ++ (rate ++ (dash ++ (cylinders ++ (x ++ (heads ++ (x ++ (sectors ++ (x ++ (bytes ++ first))))))))))
word_shape density dash rate cylinders x heads sectors bytes first = simp append_assoc

pub returns : goal.returns
returns c =
    rw (
      c.put_first.ensures,
      c.put_bytes.ensures.bytes,
      c.bytes.ensures,
      c.put-7.ensures.bytes,
      c.put_number-3.ensures.bytes,
      c.put-6.ensures.bytes,
      c.put_number-2.ensures.bytes,
      c.put-5.ensures.bytes,
      c.put_number.ensures.bytes,
      c.put-4.ensures.bytes,
      c.put-3.ensures.bytes,
      c.rate_text.ensures.text,
      c.put-2.ensures.bytes,
      c.put.ensures.bytes,
      c.density_text.ensures.text,
      c.new-word.ensures,
    )
    (word_shape (density_word c.args.rate) (codes "-") (rate_word c.args.rate) (decimal c.args.cylinders) (codes "x") (decimal c.args.heads)
    (decimal c.args.track.sectors) (decimal (size_of c.args.track.size)) (first_word c.args.track.first_sector))
