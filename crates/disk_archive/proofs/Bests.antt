-- The disk that dumps are best explained by.
use Rattle.std.specs.Prelude.{◌||◌}
use Rattle.std.proofs.Common.{◌≡◌, ◌<◌, ◌+◌, ℕ, suc, Bool, false, List, length, Option, Some, None, Ok, refl, sym, ap, ◌∙◌, subst}
use Rattle.dump_identity.specs.Outcomes.{HasNoFiles, Identified, SaysOfIdentity}
use Rattle.dump_identity.specs.declared.finding.Finding.{Finding}
use Rattle.dump_identity.specs.declared.identity.Identity.{Identity}
use Rattle.dump_reading.specs.Files.{ShelfNow}
use Rattle.flux_engine.specs.LoopProgress.{lost_count}
use Rattle.dump_identity.specs.declared.candidate.Candidate.{Candidate}
use Rattle.disk_archive.specs.Finding.{Asked, FailedIf, FailedOften, FailedSome, HasFound, HaveBest, HaveNoBest, IsAsked, IsBest, IsDiskBy, IsFirstLost, IsUnasked, LacksBest, dump_at}
use Rattle.disk_archive.specs.declared.fault.ArchiveFault.{ArchiveFault}
use Rattle.disk_archive.specs.declared.fault.ArchiveFault.TheVariants.{Exists, FileFault, FolderFault, Memory, NoDisk, NoFiles, OutputFault}
use Rattle.disk_archive.proofs.Shelves.{if-some, if-then, none-if, often-then, or-lt, same-files, same-some, some-then}

module _ (dump : List ℕ) (start now : ShelfNow) (lines lines' : Option (List ℕ)) (identity : Identity) (says : SaysOfIdentity dump start now lines lines' (Ok identity)) where
  is_best : IsBest dump start now identity.best
  is_best = record { identified = says.outcome; is = says.is; best_is = ap (λ (i : Identity). i.best) (sym says.identity_is) }

  -- all files came once or twice
  failed_is : FailedIf identity.failed start now
  failed_is =
      let files = says.is.files in
      let first : FailedOften (lost_count files.came) start files.between = record { paths = _; told = files.have.told; counts = files.have.counts } in
      let again : FailedOften (lost_count files.again) files.between now = record { paths = _; told = files.have_again.told; counts = files.have_again.counts } in
      record {
        often = lost_count files.came + lost_count files.again;
        shelf = often-then (lost_count files.came) (lost_count files.again) first again;
        is =
            ap (λ (i : Identity). i.failed) (says.identity_is ∙ ap (λ (o : Identified). o.identity) says.is.is)
            ∙ or-lt (lost_count files.came) (lost_count files.again);
      }

  pub is-asked : IsAsked dump start now identity
  is-asked = record { best = is_best; shelf = failed_is }

-- the dumps up to this one were asked
module _ (dumps : List (List ℕ)) (number : ℕ) (below : number < length dumps) (start mid now : ShelfNow) (failed : Bool) (none : HaveNoBest dumps number start mid) (before : FailedIf failed start mid) where
  -- and it too
  module _ (identity : Identity) (asked : IsAsked (dump_at dumps number) mid now identity) where
    pub all-failed : FailedIf (failed || identity.failed) start now
    all-failed = if-then failed identity.failed before asked.shelf

    pub one-none : identity.best ≡ None → HaveNoBest dumps (suc number) start now
    one-none at = (mid, none, record { identified = asked.best.identified; is = asked.best.is; best_is = asked.best.best_is ∙ at })

    pub first-best : (best : Finding) → identity.best ≡ Some best → HaveBest dumps start now (record { candidate = best.candidate; failed = failed || identity.failed })
    first-best best at = record {
      best = best;
      is = record {
        number = number;
        low = below;
        mid = mid;
        before = none;
        is = record { identified = asked.best.identified; is = asked.best.is; best_is = asked.best.best_is ∙ at };
      };
      candidate_is = refl;
      shelf = all-failed;
    }

  -- it was not
  still : now ≡ mid → FailedSome start now
  still same = some-then (if-some before) (same-some mid now same)

  pub one-lost : (fault : ArchiveFault) → IsUnasked number (dump_at dumps number) mid now fault → LacksBest dumps start now fault × FailedSome start now
  one-lost Memory same = (tt, still same)
  one-lost (NoFiles empty) (at, lacks, same) =
      let files = same-files start mid (if-some before) in
      let lost : IsFirstLost dumps start now number = record {
        low = below;
        before = subst (HaveNoBest dumps number start) (sym same) none;
        lacks = subst (HasNoFiles (dump_at dumps number)) files lacks;
      } in
      (subst (IsFirstLost dumps start now) (sym at) lost, still same)
  one-lost NoDisk never = absurd never
  one-lost Exists never = absurd never
  one-lost FolderFault never = absurd never
  one-lost (FileFault file) never = absurd never
  one-lost OutputFault never = absurd never

-- the disk that is asked for
pub found-asked : (asked : Asked) (start : ShelfNow) (candidate : Candidate) → asked.disk ≡ Some candidate → HasFound asked start start (record { candidate = candidate; failed = false })
found-asked asked start candidate at = record {
  disk = subst (λ (disk : Option Candidate). IsDiskBy disk asked.dumps start start candidate) (sym at) (refl, refl);
  shelf = none-if start;
}
