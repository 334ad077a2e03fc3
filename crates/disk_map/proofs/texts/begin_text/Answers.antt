use Rattle.std.proofs.Common.{codes, decimal}
use Rattle.sector_images.specs.Formats.{row}
use Rattle.disk_map.specs.Places.{height_of, width_of}
use Rattle.disk_map.specs.Texts.{begin_text}
use Rattle.disk_map.proofs.Joined.{begin}
use Rattle.disk_map.proofs.texts.begin_text.Goals as goal

pub returns : goal.returns
unfolding begin_text
returns c =
    rw (c.append-7.ensures.bytes, c.append-6.ensures.bytes, c.append-5.ensures.bytes, c.append-4.ensures.bytes, c.append-3.ensures.bytes, c.append-2.ensures.bytes, c.append.ensures.bytes, c.append_number-2.ensures.bytes, c.append_number.ensures.bytes, c.new-text.ensures, c.as_str-2.ensures.value, c.as_str.ensures.value, c.word-2.ensures, c.word.ensures, c.height.ensures, c.width.ensures)
    (begin (codes "<svg xmlns=\"http://www.w3.org/2000/svg\" viewBox=\"0 0 ") (decimal (width_of c.args.layout)) (codes " ") (decimal (height_of c.args.layout))
    (codes "\" font-family=\"monospace\" font-size=\"9\">\n<title>flux ") c.args.command.now (codes " ") (row c.args.format).word
    (codes "</title>\n<rect width=\"100%\" height=\"100%\" fill=\"#ffffff\"/>\n<text x=\"40\" y=\"20\" font-size=\"13\">") (row c.args.format).word (codes "</text>\n"))
