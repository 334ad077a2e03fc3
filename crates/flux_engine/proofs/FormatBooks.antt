-- A book without readings for the tracks of a format is one for its first track.
use Rattle.std.proofs.Common.{◌≡◌, ◌≤◌, ℕ, Bool, false, List, [], Option, None, Some, arith, refl, sym, ap, subst, ◌∙◌}
use Rattle.std.specs.Prelude.{slice_get, unwrap_or}
use Rattle.std.proofs.lemmas.List.{length-replicate}
use Rattle.std.proofs.lemmas.Option.{slice_get-get_or}
use Rattle.flux_base.specs.declared.track.TrackId.{TrackId}
use Rattle.sector_images.specs.Formats.{zone}
use Rattle.sector_images.specs.Places.{FormatsHaveTracks, TracksKeepBounds, tracks}
use Rattle.sector_images.specs.declared.format.Format.{Format}
use Rattle.turn_merge.specs.Book.{Found, Knowledge}
use Rattle.turn_merge.specs.Others.{OthersKnown}
use Rattle.turn_merge.specs.declared.verdict.Verdict.TheVariants.{Missing}
use Rattle.flux_engine.specs.Recordings.{sectors_of, track_at}
use Rattle.flux_engine.specs.Room.{IsBookOf, IsStarted, RoomState, empty_book, fresh}
use Rattle.flux_engine.specs.declared.gathered_track.PassedStream.{PassedStream}

abbrev nothing : Found
nothing = record { verdict = Missing; bytes = None }

abbrev no-track : TrackId
no-track = record { cylinder = 0; head = 0 }

first-at : FormatsHaveTracks → (format : Format) → (first : TrackId) × (slice_get (tracks format) 0 ≡ Some first)
first-at some format = (_, slice_get-get_or (tracks format) 0 no-track (omega (arith, some format)))

-- no track has more sectors than the first
pub is-book : FormatsHaveTracks → TracksKeepBounds → (format : Format) → IsBookOf format (empty_book format)
is-book some bounds format = record {
  first = refl;
  size = refl;
  most = λ (track : TrackId) known.
      let first = first-at some format in
      subst (λ (o : Option TrackId). (zone format track.cylinder).sectors ≤ (zone format (unwrap_or o no-track).cylinder).sectors) (sym first.1)
      ((bounds format track known).most first.0 first.1);
}

-- it is started, without a stream
pub is-started : FormatsHaveTracks → (format : Format) → IsStarted format 0 0 (empty_book format) (record { notes = 0; told = []; untold = false })
is-started some format = record {
  low = omega (arith, some format);
  knows = record { first = refl; count = length-replicate (sectors_of format (track_at format 0)).count nothing };
  few = omega arith;
  few_others = omega arith;
}

abbrev pub room-of : Format → List ℕ → Bool → Knowledge → List PassedStream → OthersKnown → RoomState
room-of format held used book passed others = record {
  format = format;
  held = held;
  used = used;
  next = 0;
  started = 0;
  captures = 0;
  book = book;
  passed = passed;
  unread = 0;
  lost = 0;
  others = others;
  told_others = 0;
  whole_others = 0;
  failed = false;
}

-- a room that holds nothing, with such a book, is a fresh one
pub fresh-from : (format : Format) (held : List ℕ) (used : Bool) (book : Knowledge) (passed : List PassedStream) (others : OthersKnown) → held ≡ [] → used ≡ false
    → book ≡ empty_book format → passed ≡ [] → others ≡ record { notes = 0; told = []; untold = false } → room-of format held used book passed others ≡ fresh format
fresh-from format held used book passed others none unused empty clean nobody =
    ap (λ (h : List ℕ). room-of format h used book passed others) none ∙ ap (λ (u : Bool). room-of format [] u book passed others) unused
    ∙ ap (λ (b : Knowledge). room-of format [] false b passed others) empty ∙ ap (λ (p : List PassedStream). room-of format [] false (empty_book format) p others) clean
    ∙ ap (λ (o : OthersKnown). room-of format [] false (empty_book format) [] o) nobody
