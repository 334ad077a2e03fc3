use Rattle.std.proofs.Common.{◌≡◌, ◌<◌, ◌++◌, ◌∙◌, ℕ, Bool, false, if◌then◌else◌, List, [], ap, arith, length, nat_eq, subst, sym}
use Rattle.std.specs.Prelude.{count_by, flat_map}
use Rattle.std.proofs.lemmas.List.{length-map}
use Rattle.flux_base.specs.Moments.{Puts}
use Rattle.flux_base.specs.World.{sink_at}
use Rattle.flux_base.specs.lemmas.Parts.{Puts-then}
use Rattle.imd_records.specs.Choices.{names_by}
use Rattle.imd_records.specs.Lines.{mode_text}
use Rattle.imd_records.specs.Records.{names_in}
use Rattle.name_book.specs.Book.{NamesKnown, is_good, told_at}
use Rattle.imd_image.specs.Found.{sectors_in}
use Rattle.imd_image.specs.Lines.{lost_part}
use Rattle.imd_image.specs.inside.Finding.{found_in}
use Rattle.imd_image.proofs.Counting.{some-rows}
use Rattle.imd_image.proofs.telling.write_sectors.Goals as goal

pub count_rows-good-requires-clause-known : goal.count_rows-good-requires-clause-known
count_rows-good-requires-clause-known g c = rw (c.as_slice-rows.ensures.value, c.book-book.ensures) c.requires.known

pub mode_line-line-requires : goal.mode_line-line-requires
mode_line-line-requires g c = c.requires.code

pub write_lost-requires : goal.write_lost-requires
write_lost-requires g c = rw (c.as_slice-rows.ensures.value, c.book-book.ensures) c.requires.known

pub returns-in-Ok : goal.returns-in-Ok
returns-in-Ok g c =
    let found = found_in c.args.room.now in
    let track = c.args.room.now.track in
    let choice = c.args.room.now.choice in
    let rows = c.as_slice-rows.result.now in
    let known = c.book-book.result.now in
    let size : length rows ≡ length found.rows = ap length c.as_slice-rows.ensures.value in
    let some : nat_eq (length found.rows) 0 ≡ false = some-rows (length found.rows) (omega (arith, c.if-rows-eq0.false, size)) in
    let same : names_in known rows ≡ sectors_in found =
    ap (λ (k : NamesKnown). names_in k rows) c.book-book.ensures ∙ ap (names_in (names_by c.args.room.now.books choice.mode)) c.as_slice-rows.ensures.value in
    let many : length rows ≡ length (sectors_in found) = size ∙ sym (length-map found.rows (told_at (names_by c.args.room.now.books choice.mode))) in
    let good : c.count_rows-good.result ≡ count_by is_good (sectors_in found) = c.count_rows-good.ensures.is ∙ ap (count_by is_good) same in
    let text : c.mode_line-line.result.bytes ≡ mode_text track choice (length (sectors_in found)) (count_by is_good (sectors_in found)) =
    c.mode_line-line.ensures ∙ ap (λ (n : ℕ). mode_text track choice n c.count_rows-good.result) many ∙ ap (mode_text track choice (length (sectors_in found))) good in
    subst
    (λ (b : Bool). Puts (sink_at g.N.Sink c.args.notes.now) (sink_at g.N.Sink c.write_lost.new.notes)
    (if b then [] else mode_text track choice (length (sectors_in found)) (count_by is_good (sectors_in found)) ++ flat_map (lost_part track) (sectors_in found)) c.write_lost.result)
    (sym some) (Puts-then c.write_lost.result (rw text at c.in-Ok.ensures) (rw same at c.write_lost.ensures))
