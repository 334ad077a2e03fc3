-- From what reading a stream answers to what decoding its track says of the input.
use Rattle.std.specs.Prelude.{◌≤◌, ℕ, ◌+◌, Bool, true, false, List, [], ◌++◌, length, Option, Ok, Err, OnOk}
use Rattle.std.proofs.Common.{◌≡◌, ap, sym, subst, ◌∙◌, arith, append-nil}
use Rattle.index_turns.specs.Track.{TrackState}
use Rattle.kryo_stream.specs.Growth.{StreamsHaveTurns}
use Rattle.kryo_stream.specs.Outcome.{IsRead, IsSmall, input_of, most_padding}
use Rattle.kryo_stream.specs.Room.{track_answer}
use Rattle.kryo_stream.specs.Stream.{first_fault}
use Rattle.kryo_stream.specs.declared.fault.CaptureFault.TheVariants.{ReadFault, Refused}
use Rattle.kryo_stream.specs.declared.fault.StreamFault.{StreamFault}
use Rattle.kryo_stream.specs.declared.fault.TrackFault.TheVariants.{ReadFault as Unread, Refused as NotAStream}
use Rattle.flux_engine.specs.Answers.{CaptureAnswer, ReadsStream}
use Rattle.flux_engine.specs.Reading.{IsBounded}

few_bytes : (used : Bool) (n : ℕ) → n ≤ most_padding used + 4198400 → n ≤ 4198416
few_bytes true n few = omega (arith, few)
few_bytes false n few = omega (arith, few)

module _ (left left' : Option (List ℕ)) (used : Bool) (held held' : List ℕ) (flux : TrackState) where
  abbrev Reads : CaptureAnswer → Type 0
  Reads answer = ReadsStream left left' used held held' flux.times flux.indexes answer

  read_failed : IsRead left left' used held held' flux (Err Unread) → Reads (Err ReadFault)
  read_failed r = record {
    taken = r.taken;
    consumed = r.consumed;
    few = few_bytes used (length (held ++ r.taken)) r.few;
    stream = λ (later : List ℕ) only.
        let all : (held ++ r.taken) ++ later ≡ held ++ r.taken = ap (λ (l : List ℕ). (held ++ r.taken) ++ l) (only tt) ∙ append-nil (held ++ r.taken) in
        (r.cut.0, ap (λ (x : List ℕ). first_fault (input_of used x)) all ∙ r.cut.1);
    ended = λ cannot. absurd cannot;
  }

  read_refused : (block : ℕ) (fault : StreamFault) → IsRead left left' used held held' flux (Err (NotAStream block fault))
      → Reads (Err (Refused block fault))
  read_refused block fault r = record {
    taken = r.taken;
    consumed = r.consumed;
    few = few_bytes used (length (held ++ r.taken)) r.few;
    stream = λ (later : List ℕ) only. r.says later only;
    ended = r.ended;
  }

  read_whole : (u : Unit {0}) → IsRead left left' used held held' flux (Ok u) → Reads (Ok u)
  read_whole u r = record {
    taken = r.taken;
    consumed = r.consumed;
    few = few_bytes used (length (held ++ r.taken)) r.few;
    stream = λ (later : List ℕ) only.
        let s = r.says later (λ cannot. absurd cannot) in
        record { no_fault = s.no_fault; times = s.times; indexes = s.indexes; rest = s.rest };
    ended = λ cannot. absurd cannot;
  }

  pub read_answered : (answer : CaptureAnswer) → IsRead left left' used held held' flux (track_answer answer) → Reads answer
  read_answered (Ok u) r = read_whole u r
  read_answered (Err ReadFault) r = read_failed r
  read_answered (Err (Refused block fault)) r = read_refused block fault r

  -- its times are bounded
  read_bounded : StreamsHaveTurns → (u : Unit {0}) → IsRead left left' used held held' flux (Ok u) → IsSmall flux → IsBounded flux
  read_bounded two_turns u r small =
      let x : List ℕ = input_of used ((held ++ r.taken) ++ []) in
      let s = r.says [] (λ cannot. absurd cannot) in
      record {
        turns = subst (λ (is : List ℕ). 2 ≤ length is) (sym s.indexes) (two_turns x s.no_fault);
        few_times = small.few_times;
        few_indexes = small.few_indexes;
        times = small.times_within;
        indexes = small.indexes_within;
      }

  pub answered_bounded : StreamsHaveTurns → (answer : CaptureAnswer) → IsRead left left' used held held' flux (track_answer answer) → IsSmall flux
      → OnOk answer (IsBounded flux)
  answered_bounded two_turns (Ok u) r small = read_bounded two_turns u r small
  answered_bounded two_turns (Err fault) r small = tt
