-- The candidates of the first formats, one after another.
use Rattle.std.proofs.Common.{refl, true, ◌≡◌, ◌<◌, ◌≤◌, ◌+◌, ℕ, List, [], ◌∷◌, ◌++◌, length, get_or, map, take, ap, sym, subst, ◌∙◌, append-nil, append_assoc}
use Rattle.std.specs.List.{flat_map, list_all}
use Rattle.flux_base.specs.declared.track.TrackId.{TrackId}
use Rattle.sector_images.specs.Places.{tracks}
use Rattle.track_shelf.specs.Stepping.{reaches, reaches_all}
use Rattle.track_shelf.specs.declared.stepping.Stepping.TheVariants.{Single}
use Rattle.std.proofs.lemmas.List.{length_push, map-append, take_all, take_more}
use Rattle.std.proofs.lemmas.List.Concat.{flat_map-append}
use Rattle.sector_images.specs.Formats.{formats}
use Rattle.sector_images.specs.declared.format.Format.{Format}
use Rattle.told_disks.specs.declared.disks.NumberedDisk.{NumberedDisk}
use Rattle.dump_identity.specs.Candidates.{by_numbers, candidates, candidates_of}
use Rattle.dump_identity.specs.Trials.{trial_of}
use Rattle.dump_identity.specs.declared.candidate.Candidate.{Candidate}
use Rattle.dump_tallies.specs.Tallies.{TalliedDisk}

-- those of one format more
pub trials-more : (items : List TalliedDisk) (all : List Format) → all ≡ formats → (i : ℕ) (d : Format) → i < length all → items ≡ map trial_of (flat_map candidates_of (take i formats))
    → items ++ map trial_of (candidates_of (get_or all i d)) ≡ map trial_of (flat_map candidates_of (take (i + 1) formats))
trials-more items all same i d below before =
    ap (λ (fs : List Format). items ++ map trial_of (candidates_of (get_or fs i d))) same
    ∙ more (subst (λ (fs : List Format). i < length fs) same below)
  where
    here : List Candidate
    here = candidates_of (get_or formats i d)

    more : i < length formats → items ++ map trial_of here ≡ map trial_of (flat_map candidates_of (take (i + 1) formats))
    more known =
        ap (λ (ts : List TalliedDisk). ts ++ map trial_of here) before ∙ sym (map-append trial_of (flat_map candidates_of (take i formats)) here)
        ∙ ap (map trial_of) (sym (ap (flat_map candidates_of) (take_more formats i d known) ∙ flat_map-append candidates_of (take i formats) (get_or formats i d ∷ [])
        ∙ ap (λ (cs : List Candidate). flat_map candidates_of (take i formats) ++ cs) (append-nil here)))

-- those of all
pub trials-all : (items : List TalliedDisk) (all : List Format) → all ≡ formats → (i : ℕ) → length all ≤ i → items ≡ map trial_of (flat_map candidates_of (take i formats)) → items ≡ map trial_of candidates
unfolding candidates
trials-all items all same i end before =
    before ∙ ap (λ (fs : List Format). map trial_of (flat_map candidates_of fs)) (take_all i formats (subst (λ (fs : List Format). length fs ≤ i) same end))

-- a drive with one step for each cylinder reaches all
pub single-all : (format : Format) → reaches_all Single format ≡ true
unfolding reaches_all
single-all format = by (tracks format)
  where
    by : (ts : List TrackId) → list_all (reaches Single) ts ≡ true
    by [] = refl
    by (t ∷ ts) = by ts

-- none by numbers
pub numbered-none : (before : List TalliedDisk) (told : List NumberedDisk) → before ≡ before ++ map trial_of (map by_numbers (take 0 told))
numbered-none before told = sym (append-nil before)

-- all by numbers
pub numbered-all : (before : List TalliedDisk) (told : List NumberedDisk) (i : ℕ) → length told ≤ i → (items : List TalliedDisk) → items ≡ before ++ map trial_of (map by_numbers (take i told))
    → items ≡ before ++ map trial_of (map by_numbers told)
numbered-all before told i past items so_far = so_far ∙ ap (λ (ds : List NumberedDisk). before ++ map trial_of (map by_numbers ds)) (take_all i told past)

-- one more was appended
pub appended : {A : Type 0} (items more : List A) (x : A) → more ≡ items ++ x ∷ [] → length more ≡ length items + 1
appended items more x grew = ap (λ (ys : List _). length ys) grew ∙ length_push items x

-- one by numbers more
pub numbered-more : (before : List TalliedDisk) (told : List NumberedDisk) (i : ℕ) (d : NumberedDisk) → i < length told → (items now : List TalliedDisk) (disk : TalliedDisk)
    → items ≡ before ++ map trial_of (map by_numbers (take i told)) → disk ≡ trial_of (by_numbers (get_or told i d)) → now ≡ items ++ disk ∷ []
    → now ≡ before ++ map trial_of (map by_numbers (take (i + 1) told))
numbered-more before told i d low items now disk so_far is grew =
    grew ∙ ap (λ (x : TalliedDisk). items ++ x ∷ []) is ∙ ap (λ (ts : List TalliedDisk). ts ++ trial_of (by_numbers (get_or told i d)) ∷ []) so_far
    ∙ append_assoc before (map trial_of (map by_numbers (take i told))) (trial_of (by_numbers (get_or told i d)) ∷ [])
    ∙ ap (λ (ts : List TalliedDisk). before ++ ts)
    (sym (map-append trial_of (map by_numbers (take i told)) (by_numbers (get_or told i d) ∷ []))
    ∙ ap (map trial_of) (sym (map-append by_numbers (take i told) (get_or told i d ∷ [])) ∙ ap (map by_numbers) (sym (take_more told i d low))))
