-- What is counted over the tracks of a disk: streams that are passed over, and names that
-- no sector of their track has.
use Rattle.std.specs.Prelude.{◌≡◌, ◌≤◌, ◌<◌, ℕ, ◌+◌, ◌*◌, Bool, List, [], cond, count_by, get_or}
use Rattle.std.specs.Prelude.{length, sum_by, take, Some}
use Rattle.sector_images.specs.declared.format.Format.{Format}
use Rattle.turn_merge.specs.Others.{MOST_TOLD, NotedOther, has_data, has_untold, others_over}
use Rattle.turn_merge.specs.declared.others.OtherTold.{OtherTold}
use Rattle.flux_engine.specs.Plans.{AreOthersTo, Streams, is_failed}
use Rattle.flux_engine.specs.Room.{RoomState}
use Rattle.flux_engine.specs.declared.gathered_track.PassedStream.{PassedStream}
use Rattle.flux_engine.specs.declared.plan.Plan.{Plan}

-- the other headers of the first tracks: a list for each track, those of all its captures
abbrev pub AreOthersOver : Plan → Format → Streams → List (List NotedOther) → Type 0
AreOthersOver plan format streams tracks = (n : ℕ) → n < length tracks
    → AreOthersTo plan format streams n plan.captures (get_or tracks n [])

-- how many names are told of a track, and how many of these have whole data; all that are not told
-- count as one where data follow one of them
abbrev pub names_of : List OtherTold → (untold : Bool) → ℕ
names_of told untold = length told + cond untold 1 0

abbrev pub whole_names_of : List OtherTold → (untold : Bool) → ℕ
whole_names_of told untold = count_by has_data told + cond untold 1 0

-- the same of all tracks
abbrev pub told_count : List (List NotedOther) → ℕ
told_count tracks = sum_by (λ others. names_of (others_over others) (has_untold others)) tracks

abbrev pub whole_count : List (List NotedOther) → ℕ
whole_count tracks =
    sum_by (λ others. whole_names_of (others_over others) (has_untold others)) tracks

-- how many of the streams that are passed over are so since their files failed
abbrev pub lost_in : List PassedStream → ℕ
lost_in passed = count_by (λ p. is_failed (Some p.why)) passed

-- a room that counted what stands in it of the started track
abbrev pub counted : RoomState → RoomState
counted room = record room {
  unread = room.unread + length room.passed;
  lost = room.lost + lost_in room.passed;
  told_others = room.told_others + names_of (take MOST_TOLD room.others.told) room.others.untold;
  whole_others =
      room.whole_others + whole_names_of (take MOST_TOLD room.others.told) room.others.untold;
}

-- a track was counted, the one that is started afterwards
pub record CountsTrack (old new : RoomState) : Type 0 where
  pub unread : new.unread ≡ old.unread + length new.passed
  pub lost : new.lost ≡ old.lost + lost_in new.passed
  pub told : new.told_others
      ≡ old.told_others + names_of (take MOST_TOLD new.others.told) new.others.untold
  pub whole : new.whole_others
      ≡ old.whole_others + whole_names_of (take MOST_TOLD new.others.told) new.others.untold

-- what was counted stays as it was
pub record KeepsCounts (old new : RoomState) : Type 0 where
  pub unread : new.unread ≡ old.unread
  pub lost : new.lost ≡ old.lost
  pub told : new.told_others ≡ old.told_others
  pub whole : new.whole_others ≡ old.whole_others

-- what is counted of so many tracks at most
pub record AreCountsBelow (room : RoomState) (n : ℕ) : Type 0 where
  pub unread : room.unread ≤ 16 * n
  pub lost : room.lost ≤ 16 * n
  pub told : room.told_others ≤ 65 * n
  pub whole : room.whole_others ≤ 65 * n
