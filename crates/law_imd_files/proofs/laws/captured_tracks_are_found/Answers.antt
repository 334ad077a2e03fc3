use Rattle.std.proofs.Common.{◌≡◌, ◌<◌, ℕ, true, subst, sym}
use Rattle.dump_turns.specs.Reaches.{track_number}
use Rattle.ibm_disks.specs.Disks.{rate_of}
use Rattle.imd_image.specs.Found.{found_at, sectors_in}
use Rattle.imd_image.specs.Outcomes.{streams_at}
use Rattle.imd_image.specs.Totals.{all_sectors, is_complete, left_in, totals_of}
use Rattle.imd_image.specs.declared.totals.ImdTotals.{ImdTotals}
use Rattle.law_imd_files.proofs.Complete.{found_is, parts}
use Rattle.law_imd_files.proofs.Exact.{is_track, one_rate}
use Rattle.law_imd_files.proofs.Lists.{all_counted, none_summed}
use Rattle.law_imd_files.proofs.Records.{has_sector, no_other}
use Rattle.law_imd_tracks.specs.lemmas.Elements.{flat_has}
use Rattle.name_book.specs.Book.{is_good}
use Rattle.law_imd_files.proofs.laws.captured_tracks_are_found.Goals as goal

pub returns-clause-each : goal.returns-clause-each
returns-clause-each c asked start now file file' notes notes' totals disk image n k dump wrote complete is on low known captured =
    let founds = wrote.founds in
    let says = parts (totals_of founds) (subst (λ (t : ImdTotals). is_complete t ≡ true) wrote.totals_are complete) in
    let found = found_at founds k in
    let have = wrote.all.have in
    has_sector c.captured_tracks_have_own_names.ensures disk image n dump (track_number wrote.reach k) (streams_at have.came k) found is on (have.are k low)
    (subst (λ (m : ℕ). dump < m) (sym (have.each k low)) known) captured (none_summed left_in founds found says.0 (found_is founds k low))
    (λ told there. all_counted is_good (all_sectors founds) told says.1 (flat_has sectors_in founds found told (found_is founds k low) there))

pub returns-clause-track : goal.returns-clause-track
returns-clause-track c disk image n track streams found is on are some all others = is_track c.captured_tracks_have_own_names.ensures disk image n track streams found is on are some all others

pub returns-clause-no_others : goal.returns-clause-no_others
returns-clause-no_others c asked start now file file' notes notes' totals disk image n k dump wrote complete is on low known captured =
    let founds = wrote.founds in
    let says = parts (totals_of founds) (subst (λ (t : ImdTotals). is_complete t ≡ true) wrote.totals_are complete) in
    let found = found_at founds k in
    let have = wrote.all.have in
    no_other c.captured_tracks_have_own_names.ensures disk image n dump (track_number wrote.reach k) (streams_at have.came k) found is on (have.are k low)
    (subst (λ (m : ℕ). dump < m) (sym (have.each k low)) known) captured (none_summed left_in founds found says.0 (found_is founds k low))

pub returns-clause-one_rate : goal.returns-clause-one_rate
returns-clause-one_rate c disk image n dump seen other rate clock headers noted has apart are = absurd (apart (one_rate (rate_of disk) rate clock other has))
