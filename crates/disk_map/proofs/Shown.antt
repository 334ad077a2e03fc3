-- The tracks of a picture and those of a report, by what was gathered of them.
use Rattle.std.specs.Prelude.{◌≡◌, ◌<◌, ℕ, zero, suc, ◌+◌, ◌*◌, List, [], ◌∷◌, ◌++◌, flat_map, length, Option, refl}
use Rattle.std.proofs.Common.{ap, sym, subst, ◌∙◌, arith}
use Rattle.flux_base.specs.declared.track.TrackId.{TrackId}
use Rattle.sector_images.specs.declared.format.Format.{Format}
use Rattle.sector_report.specs.declared.totals.Totals.{Totals}
use Rattle.flux_engine.specs.Disks.{part_at, totals_over}
use Rattle.flux_engine.specs.LoopProgress.{streams_over}
use Rattle.flux_engine.specs.Plans.{IsPlannedPart, PartOf, Seen, Streams, joined, passed_to}
use Rattle.flux_engine.specs.Recordings.{track_at}
use Rattle.flux_engine.specs.Tracks.{TrackNotes, TrackPart, track_notes}
use Rattle.flux_engine.specs.Writing.{sum_of}
use Rattle.flux_engine.specs.declared.plan.Plan.{Plan}
use Rattle.flux_engine.specs.lemmas.PartLaws.{totals-first}
use Rattle.track_shelf.specs.Files.{File}
use Rattle.turn_merge.specs.Others.{NotedOther}
use Rattle.dump_reading.specs.Outcomes.{AreAllBy, DumpDisk, numbers_of, plan_of}
use Rattle.disk_map.specs.Maps.{ShowsTrack}

-- what becomes of a track in a picture has the totals of what becomes of it in a report
abbrev pub SameTotals : (drawn_of read_of : PartOf) → Type 0
SameTotals drawn_of read_of = (format : Format) (track : TrackId) (notes : TrackNotes) → (read_of format track notes).totals ≡ (drawn_of format track notes).totals

module _ (drawn_of read_of : PartOf) (same : SameTotals drawn_of read_of) (plan : Plan) (format : Format) (streams : Streams) where
  -- what a track comes to in the report
  record ReadTrack (n : ℕ) (part : TrackPart) : Type 0 where
    pub read : TrackPart
    pub is : IsPlannedPart plan read_of format streams n read
    pub shows : ShowsTrack drawn_of read_of format n part read
    pub totals : read.totals ≡ part.totals

  read_track : (n : ℕ) (part : TrackPart) → IsPlannedPart plan drawn_of format streams n part → ReadTrack n part
  read_track n part p =
      let notes : TrackNotes = track_notes (joined p.captures) (passed_to streams n plan.captures) p.others in
      record {
        read = read_of format (track_at format n) notes;
        is = record { no_fault = p.no_fault; captures = p.captures; many = p.many; each = p.each; others = p.others; others_are = p.others_are; is = refl };
        shows = record { notes = notes; drawn_is = p.is; read_is = refl };
        totals = same format (track_at format n) notes ∙ ap (λ (t : TrackPart). t.totals) (sym p.is);
      }

  -- the tracks from number i on
  pub record ReadFrom (i : ℕ) (parts : List TrackPart) : Type 0 where
    pub read : List TrackPart
    pub many : length read ≡ length parts
    pub each : (n : ℕ) → n < length read → IsPlannedPart plan read_of format streams (i + n) (part_at read n)
    pub shows : (n : ℕ) → n < length parts → ShowsTrack drawn_of read_of format (i + n) (part_at parts n) (part_at read n)
    pub totals : totals_over read ≡ totals_over parts

  first_each : (i : ℕ) (one : TrackPart) (others : List TrackPart) → IsPlannedPart plan read_of format streams (i + 0) one
      → ((n : ℕ) → n < length others → IsPlannedPart plan read_of format streams ((i + 1) + n) (part_at others n))
      → (n : ℕ) → n < length (one ∷ others) → IsPlannedPart plan read_of format streams (i + n) (part_at (one ∷ others) n)
  first_each i one others here later zero low = here
  first_each i one others here later (suc n) low =
      let next : (i + 1) + n ≡ i + suc n = omega arith in
      subst (λ (k : ℕ). IsPlannedPart plan read_of format streams k (part_at others n)) next (later n (omega (arith, low)))

  first_shows : (i : ℕ) (part read : TrackPart) (parts reads : List TrackPart) → ShowsTrack drawn_of read_of format (i + 0) part read
      → ((n : ℕ) → n < length parts → ShowsTrack drawn_of read_of format ((i + 1) + n) (part_at parts n) (part_at reads n))
      → (n : ℕ) → n < length (part ∷ parts) → ShowsTrack drawn_of read_of format (i + n) (part_at (part ∷ parts) n) (part_at (read ∷ reads) n)
  first_shows i part read parts reads here later zero low = here
  first_shows i part read parts reads here later (suc n) low =
      let next : (i + 1) + n ≡ i + suc n = omega arith in
      subst (λ (k : ℕ). ShowsTrack drawn_of read_of format k (part_at parts n) (part_at reads n)) next (later n (omega (arith, low)))

  pub read_from : (i : ℕ) (parts : List TrackPart) → ((n : ℕ) → n < length parts → IsPlannedPart plan drawn_of format streams (i + n) (part_at parts n)) → ReadFrom i parts
  read_from i [] are =
      record { read = []; many = refl; each = λ n low. absurd (omega (arith, low)); shows = λ n low. absurd (omega (arith, low)); totals = refl }
  read_from i (part ∷ parts) are =
      let here = read_track (i + 0) part (are 0 (omega arith)) in
      let rest = read_from (i + 1) parts
      (λ n low. let next : i + suc n ≡ (i + 1) + n = omega arith in
      subst (λ (k : ℕ). IsPlannedPart plan drawn_of format streams k (part_at parts n)) next (are (suc n) (omega (arith, low)))) in
      record {
        read = here.read ∷ rest.read;
        many = ap suc rest.many;
        each = first_each i here.read rest.read here.is rest.each;
        shows = first_shows i part here.read parts rest.read here.shows rest.shows;
        totals = totals-first here.read rest.read ∙ ap (λ (t : Totals). sum_of t (totals_over rest.read)) here.totals
            ∙ ap (sum_of part.totals) rest.totals ∙ sym (totals-first part parts);
      }

-- A text of each track, in the order of the tracks: the same where each is.
pub texts-same : (text : TrackPart → List ℕ) (parts others : List TrackPart) → length others ≡ length parts
    → ((n : ℕ) → n < length parts → text (part_at others n) ≡ text (part_at parts n)) → flat_map text others ≡ flat_map text parts
texts-same text [] [] many same = refl
texts-same text [] (other ∷ others) many same = absurd (omega (arith, many))
texts-same text (part ∷ parts) [] many same = absurd (omega (arith, many))
texts-same text (part ∷ parts) (other ∷ others) many same =
    let first : text other ≡ text part = same 0 (omega arith) in
    let rest : flat_map text others ≡ flat_map text parts = texts-same text parts others (omega (arith, many)) (λ n low. same (suc n) (omega (arith, low))) in
    λ i. first i ++ rest i

-- All tracks of dumps, as what else may become of them: of the same streams, with the same totals.
pub record ReadAllAs (drawn_of read_of : PartOf) (disk : DumpDisk) (told : Option (List File)) (streams : List Seen) (parts : List TrackPart) (others : List (List NotedOther)) : Type 0 where
  pub read : List TrackPart
  pub all : AreAllBy read_of disk told streams read others
  pub many : length read ≡ length parts
  pub shows : (n : ℕ) → n < length parts → ShowsTrack drawn_of read_of disk.format n (part_at parts n) (part_at read n)
  pub totals : totals_over read ≡ totals_over parts

pub read_all_as : (drawn_of read_of : PartOf) → SameTotals drawn_of read_of → (disk : DumpDisk) (told : Option (List File)) (streams : List Seen) (parts : List TrackPart)
    (others : List (List NotedOther)) → AreAllBy drawn_of disk told streams parts others → ReadAllAs drawn_of read_of disk told streams parts others
read_all_as drawn_of read_of same disk told streams parts others all =
    let from = read_from drawn_of read_of same (plan_of disk) disk.format (streams_over (plan_of disk) streams) 0 parts
    (λ n low. let first : n ≡ 0 + n = omega arith in
    subst (λ (k : ℕ). IsPlannedPart (plan_of disk) drawn_of disk.format (streams_over (plan_of disk) streams) k (part_at parts n)) first (all.read.each n low)) in
    record {
      read = from.read;
      all = record {
        many = from.many ∙ all.many;
        read = record {
          all = all.read.all ∙ ap (λ (n : ℕ). n * length disk.dumps) (sym from.many);
          are = all.read.are;
          each = λ n low. let first : 0 + n ≡ n = omega arith in
              subst (λ (k : ℕ). IsPlannedPart (plan_of disk) read_of disk.format (streams_over (plan_of disk) streams) k (part_at from.read n)) first (from.each n low);
        };
        many_others = all.many_others;
        others_are = all.others_are;
      };
      many = from.many;
      shows = λ n low. let first : 0 + n ≡ n = omega arith in
          subst (λ (k : ℕ). ShowsTrack drawn_of read_of disk.format k (part_at parts n) (part_at from.read n)) first (from.shows n low);
      totals = from.totals;
    }

-- the texts of these tracks that are the same by what was gathered of them
pub texts-as : {drawn_of read_of : PartOf} {disk : DumpDisk} {told : Option (List File)} {streams : List Seen} {parts : List TrackPart} {others : List (List NotedOther)}
    (text : TrackPart → List ℕ) → ((format : Format) (track : TrackId) (notes : TrackNotes) → text (read_of format track notes) ≡ text (drawn_of format track notes))
    → (shown : ReadAllAs drawn_of read_of disk told streams parts others) → flat_map text shown.read ≡ flat_map text parts
texts-as {disk = disk} {parts = parts} text same shown =
    texts-same text parts shown.read shown.many
    (λ n low. let here = shown.shows n low in
    ap text here.read_is ∙ same disk.format (track_at disk.format n) here.notes ∙ sym (ap text here.drawn_is))

-- the numbers that they come to
pub numbers-as : {drawn_of read_of : PartOf} {disk : DumpDisk} {told : Option (List File)} {streams : List Seen} {parts : List TrackPart} {others : List (List NotedOther)}
    (shown : ReadAllAs drawn_of read_of disk told streams parts others) (came : List Seen) (names : List (List NotedOther))
    → numbers_of streams shown.read others came names ≡ numbers_of streams parts others came names
numbers-as {streams = streams} {parts = parts} {others = others} shown came names =
    ap (λ (t : Totals). record (numbers_of streams parts others came names) { sectors = t }) shown.totals
