-- The line ends of the pieces of a line.
use Rattle.std.specs.Prelude.{◌≡◌, ◌==◌, ℕ, ◌+◌, ◌/◌, ◌%◌, Bool, false, cond, List, ◌∷◌, ◌++◌, codes, decimal, nat_eq, refl}
use Rattle.std.proofs.Common.{ap, ◌∙◌, arith}
use Rattle.std.proofs.lemmas.Bool.{ne_eqb}
use Rattle.std.proofs.lemmas.List.Sums.{sum_by-append, sum_by-cons}
use Rattle.flux_base.specs.declared.header_name.HeaderName.{HeaderName}
use Rattle.flux_base.specs.declared.header_name.HeaderName.TheVariants.{Address, TrackSector, TrackSectorSide}
use Rattle.flux_base.specs.declared.track.TrackId.{TrackId}
use Rattle.flux_base.specs.lemmas.Digits.{of_digits}
use Rattle.turn_merge.specs.declared.others.OtherTold.{OtherTold}
use Rattle.turn_merge.specs.declared.verdict.Place.{Place}
use Rattle.turn_merge.specs.declared.verdict.Verdict.{Verdict}
use Rattle.turn_merge.specs.declared.verdict.Verdict.TheVariants.{Good, Contradictory, Bad, Missing}
use Rattle.kryo_stream.specs.declared.fault.StreamFault.{StreamFault}
use Rattle.kryo_stream.specs.declared.fault.StreamFault.TheVariants.{Truncated, UnknownType, BadSize, WrongPosition, DeviceFault, DataAfterEnd, IndexPosition, IndexOrder, NoTurn, TooLong}
use Rattle.scp_files.specs.declared.fault.ScpTrackFault.{ScpTrackFault}
use Rattle.scp_files.specs.declared.fault.ScpTrackFault.TheVariants.{BadNumber, BadSignature, ShortData, ShortTrack}
use Rattle.scp_files.specs.declared.fault.ScpTrackFault.TheVariants.{TooLong as TrackTooLong}
use Rattle.sector_report.specs.DumpLines.{DumpsHaveLines, dump_name, name_text, other_text, passed_text, traces_text, unread_text, untold_text}
use Rattle.sector_report.specs.declared.dump_lines.Passed.{Passed}
use Rattle.sector_report.specs.declared.dump_lines.Passed.TheVariants.{Absent, Failed, Refused, RefusedScp}
use Rattle.sector_report.specs.ScpLines.{scp_fault_text}
use Rattle.sector_report.specs.LineLaws.{IsOneLine, SectorsHaveOneLine, TotalsHaveOneLine, line_ends}
use Rattle.sector_report.specs.Lines.{fault_text, named_text, number_of_clock, place_text, sector_name, source_text, total_text, two_digits, verdict_text}
use Rattle.sector_report.specs.declared.naming.Naming.{Naming}
use Rattle.sector_report.specs.declared.naming.Naming.TheVariants.{ByCapture, ByCaptureAndClock, ByClock, Unnamed}

-- the text has no line end
record HasNone (text : List ℕ) : Type 0 where
  none : line_ends text ≡ 0

none-append : {xs ys : List ℕ} → HasNone xs → HasNone ys → HasNone (xs ++ ys)
none-append {xs} {ys} first second =
    let both = sum_by-append (λ (b : ℕ). cond (b == 10) 1 0) xs ys in
    record { none = omega (arith, both, first.none, second.none) }

none-cons : (d : ℕ) (acc : List ℕ) → nat_eq d 10 ≡ false → HasNone acc → HasNone (d ∷ acc)
none-cons d acc other more =
    let all = sum_by-cons (λ (b : ℕ). cond (b == 10) 1 0) d acc ∙ ap (λ (b : Bool). cond b 1 0 + line_ends acc) other in
    record { none = omega (arith, all, more.none) }

none-decimal : (n : ℕ) → HasNone (decimal n)
none-decimal n =
    of_digits HasNone
    (λ digit text low high none. none-cons digit text (ne_eqb digit 10 (λ same. omega (arith, low, same))) none)
    (record { none = refl }) n

-- a text without a line end that is written out
none-codes : (text : List ℕ) → line_ends text ≡ 0 → HasNone text
none-codes text none = record { none = none }

none-two : (n : ℕ) → HasNone (two_digits n)
unfolding two_digits
none-two n = none-append (none-decimal (n / 10)) (none-decimal (n % 10))

space : HasNone (codes " ")
space = none-codes (codes " ") refl

none-name : (track : TrackId) (sector : ℕ) → HasNone (sector_name track sector)
unfolding sector_name
none-name track sector =
    none-append (none-append (none-append (none-append (none-append (none-two track.cylinder) (none-codes (codes ".") refl)) (none-decimal track.head)) space) (none-two sector)) space

none-source : (naming : Naming) (place : Place) → HasNone (source_text naming place)
none-source Unnamed place = record { none = refl }
none-source ByCapture place = none-append space (none-decimal place.capture)
none-source ByClock place = none-append space (none-decimal (number_of_clock place.clock))
none-source ByCaptureAndClock place = none-append (none-append (none-append space (none-decimal place.capture)) space) (none-decimal (number_of_clock place.clock))

none-place : (naming : Naming) (place : Place) → HasNone (place_text naming place)
unfolding place_text
none-place naming place =
    none-append (none-append (none-append (none-append (none-source naming place) space) (none-decimal place.turn)) space) (none-decimal place.cell)

none-verdict : (naming : Naming) (verdict : Verdict) → HasNone (verdict_text naming verdict)
unfolding verdict_text
none-verdict naming (Good good bad first) =
    none-append (none-append (none-append (none-append (none-codes (codes "good ") refl) (none-decimal good)) space) (none-decimal bad)) (none-place naming first)
none-verdict naming (Contradictory good bad first other) =
    none-append (none-append (none-append (none-append (none-append (none-codes (codes "contradictory ") refl) (none-decimal good)) space) (none-decimal bad)) (none-place naming first)) (none-place naming other)
none-verdict naming (Bad bad first) = none-append (none-append (none-codes (codes "bad 0 ") refl) (none-decimal bad)) (none-place naming first)
none-verdict naming Missing = none-codes (codes "missing 0 0") refl

pub sectors_have_one_line : SectorsHaveOneLine
unfolding named_text
sectors_have_one_line naming track sector verdict = record {
  front = sector_name track sector ++ verdict_text naming verdict;
  ends = refl;
  once = (none-append (none-name track sector) (none-verdict naming verdict)).none;
}

none-number : (before : List ℕ) (text : List ℕ) (n : ℕ) → HasNone before → line_ends text ≡ 0 → HasNone ((before ++ text) ++ decimal n)
none-number before text n none name = none-append (none-append none (none-codes text name)) (none-decimal n)

pub totals_have_one_line : TotalsHaveOneLine
unfolding total_text
totals_have_one_line totals = record {
  front = codes "total " ++ decimal totals.sectors ++ codes " good " ++ decimal totals.good ++ codes " bad " ++ decimal totals.bad
      ++ codes " missing " ++ decimal totals.missing ++ codes " contradictory " ++ decimal totals.contradictory;
  ends = refl;
  once =
      (none-number (codes "total " ++ decimal totals.sectors ++ codes " good " ++ decimal totals.good ++ codes " bad " ++ decimal totals.bad
      ++ codes " missing " ++ decimal totals.missing) (codes " contradictory ") totals.contradictory
      (none-number (codes "total " ++ decimal totals.sectors ++ codes " good " ++ decimal totals.good ++ codes " bad " ++ decimal totals.bad)
      (codes " missing ") totals.missing
      (none-number (codes "total " ++ decimal totals.sectors ++ codes " good " ++ decimal totals.good) (codes " bad ") totals.bad
      (none-number (codes "total " ++ decimal totals.sectors) (codes " good ") totals.good
      (none-append (none-codes (codes "total ") refl) (none-decimal totals.sectors)) refl) refl) refl) refl).none;
}

none-fault : (fault : StreamFault) → HasNone (fault_text fault)
unfolding fault_text
none-fault Truncated = none-codes (codes "Truncated") refl
none-fault (UnknownType kind) = none-append (none-codes (codes "UnknownType ") refl) (none-decimal kind)
none-fault (BadSize size) = none-append (none-codes (codes "BadSize ") refl) (none-decimal size)
none-fault (WrongPosition said counted) =
    none-append (none-append (none-append (none-codes (codes "WrongPosition ") refl) (none-decimal said)) space) (none-decimal counted)
none-fault (DeviceFault code) = none-append (none-codes (codes "DeviceFault ") refl) (none-decimal code)
none-fault DataAfterEnd = none-codes (codes "DataAfterEnd") refl
none-fault IndexPosition = none-codes (codes "IndexPosition") refl
none-fault IndexOrder = none-codes (codes "IndexOrder") refl
none-fault NoTurn = none-codes (codes "NoTurn") refl
none-fault TooLong = none-codes (codes "TooLong") refl

none-scp : (fault : ScpTrackFault) → HasNone (scp_fault_text fault)
unfolding scp_fault_text
none-scp ShortTrack = none-codes (codes "ShortTrack") refl
none-scp BadSignature = none-codes (codes "BadSignature") refl
none-scp (BadNumber number) = none-append (none-codes (codes "BadNumber ") refl) (none-decimal number)
none-scp TrackTooLong = none-codes (codes "TooLong") refl
none-scp (ShortData revolution) = none-append (none-codes (codes "ShortData ") refl) (none-decimal revolution)

none-dump : (track : TrackId) (dump : ℕ) → HasNone (dump_name track dump)
unfolding dump_name
none-dump track dump =
    none-append (none-number (two_digits track.cylinder ++ codes "." ++ decimal track.head) (codes " dump ") dump
    (none-number (two_digits track.cylinder) (codes ".") track.head (none-two track.cylinder) refl) refl) space

passed-line : (track : TrackId) (dump : ℕ) (why : Passed) → IsOneLine (passed_text track dump why)
unfolding passed_text
passed-line track dump Absent = record {
  front = dump_name track dump ++ codes "missing";
  ends = refl;
  once = (none-append (none-dump track dump) (none-codes (codes "missing") refl)).none;
}
passed-line track dump Failed = record {
  front = dump_name track dump ++ codes "failed";
  ends = refl;
  once = (none-append (none-dump track dump) (none-codes (codes "failed") refl)).none;
}
passed-line track dump (Refused block fault) = record {
  front = dump_name track dump ++ (codes "refused block " ++ decimal block) ++ codes " " ++ fault_text fault;
  ends = refl;
  once =
      (none-append (none-append (none-append (none-dump track dump) (none-append (none-codes (codes "refused block ") refl) (none-decimal block))) space)
      (none-fault fault)).none;
}
passed-line track dump (RefusedScp fault) = record {
  front = dump_name track dump ++ codes "refused scp " ++ scp_fault_text fault;
  ends = refl;
  once = (none-append (none-append (none-dump track dump) (none-codes (codes "refused scp ") refl)) (none-scp fault)).none;
}

none-four : (a b c d : ℕ) → HasNone (codes " " ++ decimal a ++ codes " " ++ decimal b ++ codes " " ++ decimal c ++ codes " " ++ decimal d)
none-four a b c d =
    none-number (codes " " ++ decimal a ++ codes " " ++ decimal b ++ codes " " ++ decimal c) (codes " ") d
    (none-number (codes " " ++ decimal a ++ codes " " ++ decimal b) (codes " ") c
    (none-number (codes " " ++ decimal a) (codes " ") b (none-append space (none-decimal a)) refl) refl) refl

none-header : (name : HeaderName) → HasNone (name_text name)
unfolding name_text
none-header (Address cylinder head sector code) = none-four cylinder head sector code
none-header (TrackSector track sector) = none-number (codes " " ++ decimal track) (codes " ") sector (none-append space (none-decimal track)) refl
none-header (TrackSectorSide track sector side format) = none-four track sector side format

other-line : (naming : Naming) (track : TrackId) (told : OtherTold) → IsOneLine (other_text naming track told)
unfolding other_text
other-line naming track told =
    let front : List ℕ = two_digits track.cylinder ++ codes "." ++ decimal track.head ++ codes " other" ++ name_text told.name in
    record {
      front = front ++ codes " " ++ decimal told.headers ++ codes " " ++ decimal told.whole ++ place_text naming told.first;
      ends = refl;
      once =
          (none-append
          (none-number (front ++ codes " " ++ decimal told.headers) (codes " ") told.whole
          (none-number front (codes " ") told.headers
          (none-append (none-append (none-number (two_digits track.cylinder) (codes ".") track.head (none-two track.cylinder) refl) (none-codes (codes " other") refl))
          (none-header told.name)) refl) refl)
          (none-place naming told.first)).none;
    }

pub dumps_have_lines : DumpsHaveLines
unfolding unread_text untold_text traces_text
dumps_have_lines = record {
  passed = passed-line;
  other = other-line;
  untold = λ track. record {
    front = two_digits track.cylinder ++ codes "." ++ decimal track.head ++ codes " others not told";
    ends = refl;
    once = (none-append (none-number (two_digits track.cylinder) (codes ".") track.head (none-two track.cylinder) refl) (none-codes (codes " others not told") refl)).none;
  };
  traces = λ track count. record {
    front = two_digits track.cylinder ++ codes "." ++ decimal track.head ++ codes " traces " ++ decimal count;
    ends = refl;
    once =
        (none-number (two_digits track.cylinder ++ codes "." ++ decimal track.head) (codes " traces ") count
        (none-number (two_digits track.cylinder) (codes ".") track.head (none-two track.cylinder) refl) refl).none;
  };
  unread = λ streams others whole. record {
    front = codes "unread " ++ decimal streams ++ codes " other " ++ decimal others ++ codes " whole " ++ decimal whole;
    ends = refl;
    once =
        (none-number (codes "unread " ++ decimal streams ++ codes " other " ++ decimal others) (codes " whole ") whole
        (none-number (codes "unread " ++ decimal streams) (codes " other ") others
        (none-append (none-codes (codes "unread ") refl) (none-decimal streams)) refl) refl).none;
  };
}
