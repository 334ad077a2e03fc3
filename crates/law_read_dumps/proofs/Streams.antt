-- The streams that came of dumps are those of their files, and the files decide what they come to, with those of them that failed.
use Rattle.std.specs.Prelude.{◌≡◌, ◌<◌, ℕ, zero, suc, ◌+◌, ◌*◌, ◌/◌, ◌%◌, List, [], get_or, length, Option, None, Some, Result, refl}
use Rattle.std.proofs.Common.{ap, sym, subst, ◌∙◌, arith}
use Rattle.std.proofs.Math.Nat.{mod-lt, mul_comm}
use Rattle.std.proofs.lemmas.List.{ext_get_or}
use Rattle.std.proofs.lemmas.Nat.{div-add-mod', mul-add-lt}
use Rattle.dump_reading.specs.Beside.{LinesOf, beside_at, captures_at, lines_to, near_track, of_beside}
use Rattle.dump_reading.specs.DumpStreams.{AreOfDumps, DumpTracks, FailedAlike, IsOrFailed, of_disk, seen_of, track_in}
use Rattle.dump_reading.specs.lemmas.Alike.{one-stream}
use Rattle.dump_reading.specs.Outcomes.{AreTracksBy, DumpDisk, DumpsRead, IsDumpsRead, IsReadBy, beside_count, numbers_of, plan_of}
use Rattle.dump_reading.specs.Reports.{read_part}
use Rattle.dump_reading.specs.declared.totals.DumpTotals.{DumpTotals}
use Rattle.flux_engine.specs.Counts.{AreOthersOver}
use Rattle.flux_engine.specs.Disks.{totals_over}
use Rattle.flux_engine.specs.LoopProgress.{seen_at, streams_over}
use Rattle.flux_engine.specs.PlanLaws.{ReadingsInPlansAreOne}
use Rattle.flux_engine.specs.Plans.{AreNamesTo, ArePlannedParts, PartOf, Seen, Streams}
use Rattle.flux_engine.specs.Rules.{RulesAreRead}
use Rattle.flux_engine.specs.lemmas.OneParts.{one_names_to, one_others_to, one_parts}
use Rattle.flux_engine.specs.Tracks.{TrackPart}
use Rattle.flux_engine.specs.declared.plan.Plan.{Plan}
use Rattle.scp_files.specs.declared.fault.ScpTrackFault.{ScpTrackFault}
use Rattle.sector_images.specs.declared.format.Format.{Format}
use Rattle.track_shelf.specs.Files.{File}
use Rattle.turn_merge.specs.Others.{NotedOther}
use Rattle.law_captured_plans.specs.Said.{IsSaid}
use Rattle.law_read_dumps.specs.Said.{AllOfDumpsIsOne, BesideStreamsAreOfFiles, StreamsAreOfFiles, as_planned, came_in}

abbrev pub none_seen : Seen
none_seen = record { fault = None; passed = None; times = []; indexes = [] }

-- what has a number has a count
some_of : (i a count : ℕ) → i < a * count → 0 < count
some_of i a zero low = (let none : a * 0 ≡ 0 = omega arith in absurd (omega (arith, low, none)))
some_of i a (suc count) low = omega arith

-- the stream of a track and a dump is among those that came
pub place_low : (all tracks many n q : ℕ) → all ≡ tracks * many → n < tracks → q < many → n * many + q < all
place_low all tracks many n q is known low =
    let below : n * many + q < many * tracks = mul-add-lt n many q tracks known low in
    omega (arith, below, mul_comm many tracks, is)

pub number_low : (of : PartOf) (disk : DumpDisk) (shelf : Option (List File)) (streams : List Seen) (parts : List TrackPart) → AreTracksBy of disk shelf streams parts
    → (n q : ℕ) → n < length parts → q < length disk.dumps → n * length disk.dumps + q < length streams
number_low of disk shelf streams parts read n q known low = place_low (length streams) (length parts) (length disk.dumps) n q read.all known low

-- each stream of some tracks has its place among those that came
module _ (of : DumpTracks) (files : List File) (tracks : ℕ) (many : of.count ≡ length of.dumps) where
  -- what a dump has of its track
  abbrev lies : (i : ℕ) → Option (Result (List ℕ) ScpTrackFault)
  lies i = track_in of.stepping of.dumps files (of.track_of (i / of.count)) (i % of.count)

  at_place : (streams : List Seen) → length streams ≡ tracks * of.count → AreOfDumps of (Some files) streams → (i : ℕ) → i < length streams
      → IsOrFailed (seen_at streams i) (seen_of (lies i))
  at_place streams all are i low =
      let below : i < tracks * of.count = omega (arith, low, all) in
      let positive : 0 < of.count = some_of i tracks of.count below in
      let dump : i % of.count < of.count = mod-lt i positive in
      let same : i / of.count * of.count + i % of.count ≡ i = div-add-mod' i of.count in
      subst (λ (k : ℕ). IsOrFailed (seen_at streams k) (seen_of (lies i))) same
      (are files refl (i / of.count) (i % of.count) (omega (arith, dump, many)) dump (omega (arith, low, same)))

  -- so the files decide what came of them, with those that failed
  one_came : (a b : List Seen) → length a ≡ tracks * of.count → length b ≡ tracks * of.count → AreOfDumps of (Some files) a → AreOfDumps of (Some files) b
      → FailedAlike a b → a ≡ b
  one_came a b p q first second alike =
      ext_get_or none_seen a b (p ∙ sym q)
      (λ i low.
      one-stream (lies i) (seen_at a i) (seen_at b i) (at_place a p first i low) (at_place b q second i (omega (arith, low, p, q)))
      (alike i low (omega (arith, low, p, q))))

-- the others of a track are decided by its streams
module _ (read : RulesAreRead) where
  others_over_one : (plan : Plan) (format : Format) (streams : Streams) (a b : List (List NotedOther)) → length a ≡ length b
      → AreOthersOver plan format streams a → AreOthersOver plan format streams b → a ≡ b
  others_over_one plan format streams a b same p q =
      ext_get_or [] a b same (λ n low. one_others_to read plan format streams n plan.captures (get_or a n []) (get_or b n []) (p n low) (q n (omega (arith, low, same))))

  module _ (one : ReadingsInPlansAreOne) (of : PartOf) (beside_of : LinesOf) (whole : List TrackPart → List ℕ → DumpTotals → DumpsRead) (disk : DumpDisk) (files : List File)
      (a b : DumpsRead) (p : IsReadBy of beside_of whole disk (Some files) a) (q : IsReadBy of beside_of whole disk (Some files) b)
      (alike : FailedAlike p.streams q.streams) (alike_beside : FailedAlike p.beside.came q.beside.came) where
    parts_many : length p.parts ≡ length q.parts
    parts_many = p.all.many ∙ sym q.all.many

    streams_same : p.streams ≡ q.streams
    streams_same =
        one_came (of_disk disk.stepping disk.dumps (length disk.dumps) disk.format) files (length q.parts) refl p.streams q.streams
        (p.all.read.all ∙ ap (λ (n : ℕ). n * length disk.dumps) parts_many) q.all.read.all p.all.read.are q.all.read.are alike

    abbrev over : List Seen → Streams
    over streams = streams_over (plan_of disk) streams

    parts_same : p.parts ≡ q.parts
    parts_same =
        one_parts read one (plan_of disk) of disk.format (over q.streams) p.parts q.parts
        (subst (λ (ss : List Seen). ArePlannedParts (plan_of disk) of disk.format (over ss) p.parts) streams_same p.all.read.each) q.all.read.each parts_many

    others_same : p.others ≡ q.others
    others_same =
        others_over_one (plan_of disk) disk.format (over q.streams) p.others q.others (p.all.many_others ∙ sym q.all.many_others)
        (subst (λ (ss : List Seen). AreOthersOver (plan_of disk) disk.format (over ss) p.others) streams_same p.all.others_are) q.all.others_are

    -- as many tracks beside them are looked at, by what the tracks came to
    names_many : length p.beside.others ≡ length q.beside.others
    names_many = p.looked ∙ ap (λ (ps : List TrackPart). beside_count disk (totals_over ps)) parts_same ∙ sym q.looked

    beside_same : p.beside.came ≡ q.beside.came
    beside_same =
        one_came (of_beside disk.stepping disk.dumps disk.format) files (length q.beside.others) refl p.beside.came q.beside.came
        (p.beside.are.all ∙ ap (λ (n : ℕ). n * length disk.dumps) names_many) q.beside.are.all p.beside.are.are q.beside.are.are alike_beside

    abbrev NamesAt : List Seen → ℕ → List NotedOther → Type 0
    NamesAt came n names =
        AreNamesTo (plan_of disk) disk.format (near_track disk.format (beside_at disk.stepping disk.format n)) (captures_at (length disk.dumps) came n) (length disk.dumps) names

    names_same : p.beside.others ≡ q.beside.others
    names_same =
        ext_get_or [] p.beside.others q.beside.others names_many
        (λ n low.
        one_names_to read (plan_of disk) disk.format (near_track disk.format (beside_at disk.stepping disk.format n)) (captures_at (length disk.dumps) q.beside.came n) (length disk.dumps)
        (get_or p.beside.others n []) (get_or q.beside.others n [])
        (subst (λ (came : List Seen). NamesAt came n (get_or p.beside.others n [])) beside_same (p.beside.are.each n low))
        (q.beside.are.each n (omega (arith, low, names_many))))

    abbrev read_of : List Seen → List TrackPart → List (List NotedOther) → List Seen → List (List NotedOther) → DumpsRead
    read_of ss ps os bs ns = whole ps (lines_to beside_of disk.stepping disk.dumps disk.format bs ns (length ns)) (numbers_of ss ps os bs ns)

    one_read : a ≡ b
    one_read =
        p.is
        ∙ ap (λ (ss : List Seen). read_of ss p.parts p.others p.beside.came p.beside.others) streams_same
        ∙ ap (λ (ps : List TrackPart). read_of q.streams ps p.others p.beside.came p.beside.others) parts_same
        ∙ ap (λ (os : List (List NotedOther)). read_of q.streams q.parts os p.beside.came p.beside.others) others_same
        ∙ ap (λ (bs : List Seen). read_of q.streams q.parts q.others bs p.beside.others) beside_same
        ∙ ap (λ (ns : List (List NotedOther)). read_of q.streams q.parts q.others q.beside.came ns) names_same
        ∙ sym q.is

pub all_is_one : RulesAreRead → ReadingsInPlansAreOne → AllOfDumpsIsOne
all_is_one read one of beside_of whole disk files a b p q alike beside = one_read read one of beside_of whole disk files a b p q alike beside

-- each stream that came is what its file says, or the file failed
pub streams_are_of_files : StreamsAreOfFiles
streams_are_of_files disk files o is n dump low few =
    is.all.read.are files refl n dump few few
    (number_low read_part disk (Some files) is.streams is.parts is.all.read n dump (omega (arith, low, is.all.many)) few)

-- so is each that came of a track beside the format's
pub beside_streams_are_of_files : BesideStreamsAreOfFiles
beside_streams_are_of_files disk files o is number dump low few =
    is.beside.are.are files refl number dump few few
    (place_low (length is.beside.came) (length is.beside.others) (length disk.dumps) number dump is.beside.are.all low few)

-- whatever list has all readings of each stream of a track
pub captures_are : ReadingsInPlansAreOne → (disk : DumpDisk) (told : Option (List File)) (o : DumpsRead) (is : IsDumpsRead disk told o) (n sector number : ℕ) (low : n < length is.parts)
    (said : IsSaid (plan_of disk) disk.format (came_in is) (as_planned o) n sector number) → said.captures ≡ (is.all.read.each n low).captures
captures_are one disk told o is n sector number low said =
    let at = is.all.read.each n low in
    one (plan_of disk) disk.format (came_in is) n said.captures at.captures said.each at.each (said.many ∙ sym at.many)
