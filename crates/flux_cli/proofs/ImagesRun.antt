-- What a command does that makes something of an image.
use Rattle.std.proofs.Common.{◌≡◌, ◌≢◌, ◌<◌, ◌≤◌, ℕ, Bool, if◌then◌else◌, inl, inr, List, [], ◌++◌, length, drop, take, min, Option, refl, sym, ap, ◌∙◌, subst, arith, append-nil, length-append, eq-eqb}
use Rattle.std.proofs.KnownBytes.{Appends-nil, Keeps-refl}
use Rattle.std.proofs.lemmas.Bool.{cases_lt, ne_eqb}
use Rattle.std.proofs.lemmas.List.{drop_all}
use Rattle.std.proofs.Math.Seq.{drop-append_seam}
use Rattle.std.specs.Io.KnownBytes.{Appends, Consumes, IsAtEnd, Keeps}
use Rattle.flux_base.specs.Outside.{AppendsPart}
use Rattle.flux_base.specs.declared.status.Status.TheVariants.{AllGood, Refused, ReadFault, ImageFault, NotesFault}
use Rattle.flux_engine.specs.Needed.{ReadsUpTo, ReadsWhereOpen}
use Rattle.flux_engine.specs.Writes.{IsNoImage, IsWholeImage, most_read}
use Rattle.kryo_stream.specs.Reads.{SourceMoment}
use Rattle.sector_images.specs.Formats.{row}
use Rattle.sector_images.specs.declared.format.Format.{Format}
use Rattle.sector_report.specs.Lines.{image_text}
use Rattle.flux_cli.specs.ImagesWork.{image_outcome, image_work}
use Rattle.flux_cli.specs.Runs.{Finished, IsCut, growth}
use Rattle.flux_cli.specs.Work.{GivesFront, Got, GotNothing, GotPart, Outcome}
use Rattle.flux_cli.specs.World.{Outside}
use Rattle.flux_cli.proofs.Inputs.{rest}
use Rattle.flux_cli.specs.BytesWork.{of_bytes}

abbrev written : (List ℕ → List ℕ) → List ℕ → Outcome
written made_of x = record { status = AllGood; image = made_of x; notes = [] }

abbrev refused : Format → List ℕ → Outcome
refused format x = record { status = Refused; image = []; notes = image_text (min (length x) (most_read format)) (row format).image_size }

is-written : (made_of : List ℕ → List ℕ) (format : Format) (x : List ℕ) → length x ≡ (row format).image_size
    → image_outcome made_of format x ≡ written made_of x
is-written made_of format x size =
    ap (λ (b : Bool). if b then written made_of x else refused format x) (eq-eqb (length x) (row format).image_size size)

is-refused : (made_of : List ℕ → List ℕ) (format : Format) (x : List ℕ) → length x ≢ (row format).image_size
    → image_outcome made_of format x ≡ refused format x
is-refused made_of format x size =
    ap (λ (b : Bool). if b then written made_of x else refused format x) (ne_eqb (length x) (row format).image_size size)

got-nothing : (old new : Option (List ℕ)) → new ≡ old → Appends old new []
got-nothing old new same = subst (λ n. Appends old n []) (sym same) (Appends-nil old)

keeps : (old new : Option (List ℕ)) → new ≡ old → Keeps old new
keeps old new same = subst (Keeps old) (sym same) (Keeps-refl old)

-- bytes that are no image's in number: one more than an image has were taken at most
record Wrong (format : Format) (taken later : List ℕ) : Type 0 where
  size : length (taken ++ later) ≢ (row format).image_size
  counted : length taken ≡ min (length (taken ++ later)) (most_read format)
  left : later ≡ drop (most_read format) (taken ++ later)

wrong-all : (format : Format) (taken : List ℕ) → length taken ≢ (row format).image_size → length taken ≤ (row format).image_size → Wrong format taken []
wrong-all format taken size few =
    let all : length (taken ++ []) ≡ length taken = ap length (append-nil taken) in record {
      size = λ same. size (sym all ∙ same);
      counted = omega (arith, few, all);
      left = sym (drop_all (most_read format) (taken ++ []) (omega (arith, few, all)));
    }

wrong : (format : Format) (taken later : List ℕ) (left' : Option (List ℕ)) → IsNoImage format taken left' → (IsAtEnd left' → later ≡ []) → Wrong format taken later
wrong format taken later left' wrongly ended =
    elim (cases_lt (length taken) (most_read format)) [
      | inl below ↦
          let few : length taken ≤ (row format).image_size = omega (arith, below) in
          subst (Wrong format taken) (sym (ended (wrongly.ended few))) (wrong-all format taken wrongly.size few)
      | inr least ↦
          let all : length taken ≡ most_read format = omega (arith, least, wrongly.most) in
          let both = length-append taken later in record {
            size = λ same. omega (arith, same, both, all);
            counted = omega (arith, both, all);
            left = sym (ap (λ n. drop n (taken ++ later)) (sym all) ∙ drop-append_seam taken later);
          }
    ]

-- the reads of an image
pub image-reads : (format : Format) {old new : SourceMoment} → ReadsUpTo (most_read format) old new → ReadsWhereOpen (λ x. length x < most_read format) old new
unfolding ReadsUpTo
image-reads format reads = reads

module _ {S W N : Type 0} (made_of : List ℕ → List ℕ) (format : Format) (before after : Outside S SourceMoment W N)
    (taken : List ℕ) (consumed : Consumes before.input.seen.left after.input.seen.left taken) where
  -- an image, and no more
  whole-is : (later : List ℕ) → IsWholeImage format taken after.input.seen.left → (IsAtEnd after.input.seen.left → later ≡ [])
      → (taken ++ later ≡ taken) × (later ≡ [])
  whole-is later whole ended =
      let none = ended whole.ended in (ap (λ more. taken ++ more) none ∙ append-nil taken, none)

  -- all that is made of an image
  pub image-finish : IsWholeImage format taken after.input.seen.left → Appends before.image.bytes after.image.bytes (made_of taken)
      → Got (growth before.notes after.notes) [] → Finished (of_bytes (image_work made_of format)) AllGood before after
  image-finish whole wrote notes =
      let r = rest before.input.seen after.input.seen taken consumed in
      let is = whole-is r.later whole r.ended in record {
        outcome = written made_of taken;
        gives = record {
          taken = taken;
          later = r.later;
          input = r.input;
          gives = sym (ap (image_outcome made_of format) is.0 ∙ is-written made_of format taken whole.size);
          leaves = is.1;
        };
        status_is = refl;
        image_got = wrote;
        notes_got = notes;
      }

  -- a part of it
  pub image-cut-image : IsWholeImage format taken after.input.seen.left → AppendsPart before.image.bytes after.image.bytes (made_of taken)
      → Got (growth before.notes after.notes) [] → IsCut (of_bytes (image_work made_of format)) ImageFault before after
  image-cut-image whole wrote notes =
      let r = rest before.input.seen after.input.seen taken consumed in
      let is = whole-is r.later whole r.ended in
      let front : GivesFront (written made_of taken) (growth before.image after.image) (growth before.notes after.notes) = record {
        image_front = (wrote.0, wrote.2);
        notes_front = (0, notes);
      } in record {
        taken = taken;
        later = r.later;
        input = r.input;
        place = (
          subst (λ o. GivesFront o (growth before.image after.image) (growth before.notes after.notes))
              (sym (ap (image_outcome made_of format) is.0 ∙ is-written made_of format taken whole.size)) front,
          is.1,
        );
      }

  -- the source failed
  pub image-cut-read : length taken ≤ (row format).image_size → after.image.bytes ≡ before.image.bytes
      → GotNothing (growth before.notes after.notes) → IsCut (of_bytes (image_work made_of format)) ReadFault before after
  image-cut-read few same notes =
      let r = rest before.input.seen after.input.seen taken consumed in record {
        taken = taken;
        later = r.later;
        input = r.input;
        place = record { few = few; image_got = keeps before.image.bytes after.image.bytes same; notes_got = notes };
      }

  module _ (read wanted : ℕ) (wrongly : IsNoImage format taken after.input.seen.left) (read_is : read ≡ length taken)
      (wanted_is : wanted ≡ (row format).image_size) (same : after.image.bytes ≡ before.image.bytes) where
    text_is : (later : List ℕ) → Wrong format taken later
        → image_text read wanted ≡ image_text (min (length (taken ++ later)) (most_read format)) (row format).image_size
    text_is later w =
        ap (λ n. image_text n wanted) (read_is ∙ w.counted) ∙ ap (image_text (min (length (taken ++ later)) (most_read format))) wanted_is

    -- the line that refuses other bytes
    pub image-refuse : Got (growth before.notes after.notes) (image_text read wanted) → Finished (of_bytes (image_work made_of format)) Refused before after
    image-refuse line =
        let r = rest before.input.seen after.input.seen taken consumed in
        let w = wrong format taken r.later after.input.seen.left wrongly r.ended in record {
          outcome = refused format (taken ++ r.later);
          gives = record {
            taken = taken;
            later = r.later;
            input = r.input;
            gives = sym (is-refused made_of format (taken ++ r.later) w.size);
            leaves = w.left;
          };
          status_is = refl;
          image_got = got-nothing before.image.bytes after.image.bytes same;
          notes_got = subst (Got (growth before.notes after.notes)) (text_is r.later w) line;
        }

    -- a part of it
    pub image-cut-notes : GotPart (growth before.notes after.notes) (image_text read wanted)
        → IsCut (of_bytes (image_work made_of format)) NotesFault before after
    image-cut-notes part =
        let r = rest before.input.seen after.input.seen taken consumed in
        let w = wrong format taken r.later after.input.seen.left wrongly r.ended in
        let front : GivesFront (refused format (taken ++ r.later)) (growth before.image after.image) (growth before.notes after.notes) = record {
          image_front = (0, got-nothing before.image.bytes after.image.bytes same);
          notes_front = (part.0, subst (λ bytes. Got (growth before.notes after.notes) (take part.0 bytes)) (text_is r.later w) part.2);
        } in record {
          taken = taken;
          later = r.later;
          input = r.input;
          place = (
            subst (λ o. GivesFront o (growth before.image after.image) (growth before.notes after.notes))
                (sym (is-refused made_of format (taken ++ r.later) w.size)) front,
            w.left,
          );
        }
